-- Members that were read: the text that was read spells them, and a struct may have them.
use Rattle.std.proofs.Common.{◌≡◌, ℕ, zero, suc, ◌+◌, ◌<◌, ◌≤◌, Bool, true, false, cond, leb, List, [], ◌∷◌, ◌++◌, length, get_or, Option, Some, None, Result, Ok, Err, refl, sym, ap, subst, ◌∙◌, arith}
use Rattle.std.specs.List.{All}
use Rattle.std.specs.Prelude.{not}
use Rattle.std.specs.Map.{lookup}
use Rattle.std.specs.Option.{is_some}
use Rattle.std.specs.Str.{bytes_eq}
use Rattle.std.proofs.lemmas.List.{length-append}
use Rattle.std.proofs.lemmas.List.Elements.{All-push}
use Rattle.std.proofs.lemmas.Bool.{leb-true, leb-false}
use Rattle.giop_tokens.specs.declared.fault.TokenError.{TokenError}
use Rattle.giop_tokens.specs.declared.fault.SigFaultKind.TheVariants as kinds
use Rattle.giop_tokens.specs.declared.marks.Mark.TheVariants as marks
use Rattle.giop_tokens.specs.Tokens.{word, repository, mark}
use Rattle.giop_tokens.specs.Reading.{◌>>=◌}
use Rattle.giop_tokens.specs.Readers.{mark_at, mark_if}
use Rattle.giop_tokens.proofs.ReaderLaws.{bind_ok, ok_is, TakesToken, word_takes, mark_takes, mark_if_takes, repository_takes, identifier_word, repository_few}
use Rattle.giop_sig.specs.declared.announced.TypeWord.{TypeWord}
use Rattle.giop_sig.specs.Table.{Node, Part, IsPart, TakesOctet, exception_in}
use Rattle.giop_sig.specs.Table as nodes
use Rattle.giop_sig.specs.Grammar.{Declaration, Item, spell, spell_lengths, spell_item, spell_items}
use Rattle.giop_sig.specs.Trees.{depth_of}
use Rattle.giop_sig.specs.Scopes.{announced_as, is_version_3, Scope, with_node, add_arrays}
use Rattle.giop_sig.specs.Validity.{IsNotReserved, matches_announcement, is_among, is_name_taken, OfLengths, OfDeclaration, OfItem, OfItems}
use Rattle.giop_sig.specs.ScopeViews.{IsScope}
use Rattle.giop_sig.specs.Outcomes.{refused}
use Rattle.giop_sig.specs.TypeReading.{TypeRead}
use Rattle.giop_sig.specs.ItemReading.{new_name_at, declared_name_at, ItemRead, LengthsRead, item_read, item_at, MembersSoFar, member_at, member_after, member_step, too_many_members, MembersRead, members_read, members_run, members_at, unless_closed, non_empty_list_at, DeclarationRead, too_deep, declaration_end_at, new_repository_at}
use Rattle.giop_sig.specs.Repeats.{in_steps}
use Rattle.giop_sig.proofs.Added.{neither}
use Rattle.giop_sig.proofs.ReadingLaws.{SpellsUpTo}
use Rattle.giop_sig.proofs.RepeatLaws.{step_first}
use Rattle.giop_sig.proofs.TypeTaken.{AddsOnlyTypes, grows_none, grows_on, grows_known, IsKnownInScope, node_grows, TakenType, type_takes}
use Rattle.giop_sig.proofs.LengthLaws.{lengths_takes, arrays_grow, arrays_sound}

-- ---- names

pub record NameTaken (third : Bool) (most : ℕ) (seen : List (List ℕ)) (text : List ℕ)
    (x : List ℕ × List ℕ) : Type 0 where
  pub free : IsNotReserved third x.0
  pub short : length x.0 ≤ 64
  pub few : length seen < most
  pub front : TakesToken text (word x.0) x.1

-- a word, unless it is in the list, or the list is full
abbrev pub name_if_unused : (known full : Bool) (text : List ℕ) (n : List ℕ × List ℕ) →
    Result (List ℕ × List ℕ) TokenError
name_if_unused known full text n =
    cond known (Err (refused kinds.Duplicate text))
    (cond full (Err (refused kinds.Limit text)) (Ok (n.0, n.1)))

pub unused_is : (known full : Bool) (text : List ℕ) (n x : List ℕ × List ℕ)
    → name_if_unused known full text n ≡ Ok x → (n ≡ x) × (known ≡ false) × (full ≡ false)
unused_is true full text n x e = absurd cc
unused_is false true text n x e = absurd cc
unused_is false false text n x e = (ok_is n x e, refl, refl)

pub new_name_takes : (third : Bool) (most : ℕ) (seen : List (List ℕ)) (text : List ℕ)
    (x : List ℕ × List ℕ)
    → new_name_at third most seen text ≡ Ok x → NameTaken third most seen text x
unfolding new_name_at
new_name_takes third most seen text x e =
    let a = bind_ok _ _ x e in
    let w = identifier_word third text a.0 a.1 in
    let u = unused_is (is_among seen (a.0).0) (leb most (length seen)) text a.0 x a.2 in
    subst (NameTaken third most seen text) u.0
    (record {
      free = w.1;
      short = w.2;
      few = leb-false most (length seen) u.2;
      front =
          word_takes text a.0 w.0;
    })

pub record DeclaredTaken (s : Scope) (kind : Option TypeWord) (count : ℕ) (text : List ℕ)
    (x : List ℕ × List ℕ) : Type 0 where
  pub free : IsNotReserved (is_version_3 s.names) x.0
  pub short : length x.0 ≤ 64
  pub new : lookup (bytes_eq x.0) s.names.known ≡ None
  pub few : count < 4096
  pub front : TakesToken text (word x.0) x.1

pub none_of : {X : Type 0} (o : Option X) → is_some o ≡ false → o ≡ None
none_of None e = refl
none_of (Some x) e = absurd cc

pub declared_takes : (s : Scope) (kind : Option TypeWord) (count : ℕ) (text : List ℕ)
    (x : List ℕ × List ℕ) → declared_name_at s kind count text ≡ Ok x
    → DeclaredTaken s kind count text x
unfolding declared_name_at
declared_takes s kind count text x e =
    let a = bind_ok _ _ x e in
    let w = identifier_word (is_version_3 s.names) text a.0 a.1 in
    let known = lookup (bytes_eq (a.0).0) s.names.known in
    let u = unused_is (is_name_taken s.names kind (a.0).0) (leb 4096 count) text a.0 x a.2 in
    let free = neither (is_some known) (not (matches_announcement kind
    (announced_as s.names (a.0).0))) u.1
    in
    subst (DeclaredTaken s kind count text) u.0
    (record {
      free = w.1;
      short = w.2;
      new = none_of known free.0;
      few = leb-false 4096 count u.2;
      front = word_takes text a.0 w.0;
    })

-- ---- items

pub record TakenItem (s : Scope) (most : ℕ) (seen : List (List ℕ)) (text : List ℕ)
    (x : ItemRead) : Type 0 where
  pub item : Item
  pub named : item.name ≡ (x.1).name
  pub took : SpellsUpTo (spell_item item) (OfItem kinds.Syntax s.names most seen item) text x.2
  pub grows : AddsOnlyTypes s x.0
  pub sound : IsScope s → IsKnownInScope (x.0, (x.1).type)
  pub short : length (x.1).name ≤ 64
  pub few : length seen < most

item_made : (most : ℕ) (seen : List (List ℕ)) (s : Scope) (text : List ℕ) (t : TypeRead)
    (n : List ℕ × List ℕ) (l : LengthsRead) → TakenType s text t
    → NameTaken (is_version_3 s.names) most seen t.2 n
    → SpellsUpTo (spell_lengths l.0) (OfLengths kinds.Syntax s.names l.0) n.1 l.1
    → TakenItem s most seen text (item_read (add_arrays l.0 (t.0, t.1)) n.0 l.1)
item_made most seen s text t n l a b c = record {
  item = record { type = a.expr; name = n.0; lengths = l.0 };
  named = refl;
  took = record {
    free = (a.took.free, b.free, c.free);
    front = λ more m. a.took.front (word n.0 ∷ spell_lengths l.0 more)
        (b.front (spell_lengths l.0 more) (c.front more m));
  };
  grows = grows_on s t.0 (add_arrays l.0 (t.0, t.1)).0 a.grows (arrays_grow l.0 (t.0, t.1));
  sound = λ is. arrays_sound l.0 (t.0, t.1) (a.sound is);
  short = b.short;
  few = b.few;
}

pub item_takes : (most : ℕ) (seen : List (List ℕ)) (s : Scope) (text : List ℕ) (x : ItemRead)
    → item_at most seen s text ≡ Ok x → TakenItem s most seen text x
unfolding item_at
item_takes most seen s text x e =
    let t = bind_ok _ _ x e in
    let n = bind_ok _ _ x t.2 in
    let l = bind_ok _ _ x n.2 in
    subst (TakenItem s most seen text)
    (ok_is (item_read (add_arrays (l.0).0 ((t.0).0, (t.0).1)) (n.0).0 (l.0).1) x l.2)
    (item_made most seen s text t.0 n.0 l.0 (type_takes s text t.0 t.1)
    (new_name_takes (is_version_3 s.names) most seen (t.0).2 n.0 n.1)
    (lengths_takes s.names (n.0).1 l.0 l.1))

-- ---- members

abbrev pub AreParts : (scope : Scope) (ps : List Part) → Type 0
AreParts s ps = All (IsPart s.table.types (length s.table.types)) ps

part_stays : (s t : Scope) (p : Part) → AddsOnlyTypes s t → IsPart s.table.types
    (length s.table.types) p
    → IsPart t.table.types (length t.table.types) p
part_stays s t p g is = search (arith, grows_known)

pub parts_stay : (s t : Scope) (ps : List Part) → AddsOnlyTypes s t → AreParts s ps → AreParts t ps
parts_stay s t ps g all = search (arith, part_stays, get_or)

pub record SoundMembers (x : MembersRead) : Type 0 where
  pub scope : IsScope x.0
  pub parts : AreParts x.0 x.1

pub record TakenMembers (n : ℕ) (seen : List (List ℕ)) (parts : List Part) (s : Scope)
    (text : List ℕ) (x : MembersRead) : Type 0 where
  pub items : List Item
  pub took : SpellsUpTo (spell_items items) (OfItems kinds.Syntax s.names 256 seen items) text x.2
  pub few : length x.1 < length parts + n
  pub kept : length parts ≤ length x.1
  pub some : mark_if marks.CloseBrace text ≡ Ok None → length parts < length x.1
  pub grows : AddsOnlyTypes s x.0
  pub sound : IsScope s → AreParts s parts → SoundMembers x

abbrev Found : Type 0
Found = Option (List ℕ)

closes : (n : ℕ) (seen : List (List ℕ)) (parts : List Part) (s : Scope) (text r : List ℕ)
    → mark_if marks.CloseBrace text ≡ Ok (Some r)
    → TakenMembers (suc n) seen parts s text (s, parts, r)
unfolding OfItems
closes n seen parts s text r h = record {
  items = [];
  took = record { free = tt; front = mark_if_takes marks.CloseBrace text r h };
  few = omega arith;
  kept = omega arith;
  some = λ e. let same : None ≡ Some r = ok_is {A = Found} None (Some r) (sym e ∙ h) in absurd cc;
  grows = grows_none s;
  sound = λ is all. record { scope = is; parts = all };
}

member_on : (n : ℕ) (seen : List (List ℕ)) (parts : List Part) (s : Scope) (text r : List ℕ)
    (i : ItemRead) (x : MembersRead) → TakenItem s 256 seen text i
    → mark_at marks.Semicolon i.2 ≡ Ok r
    → TakenMembers n (seen ++ (i.1).name ∷ []) (parts ++ i.1 ∷ []) i.0 r x
    → TakenMembers (suc n) seen parts s text x
unfolding OfItems
member_on n seen parts s text r i x a e t = record {
  items = a.item ∷ t.items;
  took = record {
    free = (
      a.took.free,
      subst (λ w. OfItems kinds.Syntax s.names 256 (seen ++ w ∷ []) t.items) (sym a.named)
          (subst (λ ns. OfItems kinds.Syntax ns 256 (seen ++ (i.1).name ∷ []) t.items) a.grows.names
          t.took.free),
    );
    front = λ more m. a.took.front (mark marks.Semicolon ∷ spell_items t.items more)
        (mark_takes marks.Semicolon i.2 r e (spell_items t.items more) (t.took.front more m));
  };
  few = let f = t.few in omega (arith, length-append parts (i.1 ∷ []));
  kept = let k = t.kept in omega (arith, length-append parts (i.1 ∷ []));
  some = λ h. let k = t.kept in omega (arith, length-append parts (i.1 ∷ []));
  grows = grows_on s i.0 x.0 a.grows t.grows;
  sound = λ is all.
      let h = a.sound is in
      t.sound h.scope (All-push (IsPart (i.0).table.types (length (i.0).table.types)) parts i.1
      (parts_stay s i.0 parts a.grows all)
      (record { inner = h.known; short = a.short }));
}

abbrev pub then_run : (n : ℕ) (x : Bool × MembersSoFar) → Result MembersRead TokenError
then_run n x =
    cond x.0 (Ok x.1) (in_steps member_step too_many_members n x.1) >>= members_read

member_by : (n : ℕ) (seen : List (List ℕ)) (parts : List Part) (s : Scope) (text : List ℕ)
    (m : Bool × MembersSoFar) (x : MembersRead) (c : Found) → mark_if marks.CloseBrace text ≡ Ok c
    → member_after (s, seen, parts, text) c ≡ Ok m → then_run n m ≡ Ok x
    → ((seen : List (List ℕ)) (parts : List Part) (s : Scope) (text : List ℕ)
    → members_run n (s, seen, parts, text) ≡ Ok x → TakenMembers n seen parts s text x)
    → TakenMembers (suc n) seen parts s text x
unfolding member_at
member_by n seen parts s text m x (Some r) h e run on = search (arith, ok_is, closes)
member_by n seen parts s text m x None h e run on =
    let i = bind_ok _ _ m e in
    let r = bind_ok _ _ m i.2 in
    let next : MembersSoFar = ((i.0).0, seen ++ ((i.0).1).name ∷ [], parts ++ (i.0).1 ∷ [], r.0) in
    let last : members_run n next ≡ Ok x =
    ap (then_run n) (ok_is (false, next) m r.2) ∙ run in
    member_on n seen parts s text r.0 i.0 x (item_takes 256 seen s text i.0 i.1) r.1
    (on (seen ++ ((i.0).1).name ∷ []) (parts ++ (i.0).1 ∷ []) (i.0).0 r.0 last)

pub members_takes : (n : ℕ) (seen : List (List ℕ)) (parts : List Part) (s : Scope)
    (text : List ℕ) (x : MembersRead) → members_run n (s, seen, parts, text) ≡ Ok x
    → TakenMembers n seen parts s text x
unfolding in_steps member_step
members_takes zero seen parts s text x e = absurd cc
members_takes (suc n) seen parts s text x e =
    let before : MembersSoFar = (s, seen, parts, text) in
    let m = bind_ok (member_step before) (then_run n) x
    (sym (step_first member_step too_many_members members_read n before) ∙ e) in
    let c = bind_ok (mark_if marks.CloseBrace text) (member_after before) m.0 m.1 in
    member_by n seen parts s text m.0 x c.0 c.1 c.2 m.2
    (λ seen parts s text run. members_takes n seen parts s text x run)

filled_by : (text x : List ℕ) (c : Found) → mark_if marks.CloseBrace text ≡ Ok c
    → unless_closed text c ≡ Ok x → (text ≡ x) × (mark_if marks.CloseBrace text ≡ Ok None)
filled_by text x None h e = (ok_is text x e, h)
filled_by text x (Some r) h e = absurd cc

pub filled_takes : (text x : List ℕ) → non_empty_list_at text ≡ Ok x
    → (text ≡ x) × (mark_if marks.CloseBrace text ≡ Ok None)
unfolding non_empty_list_at
filled_takes text x e = search (arith, bind_ok, filled_by)

-- ---- what the code requires

pub no_parts : (s : Scope) → AreParts s []
no_parts s = search (arith)

-- a struct may have the members that were read
pub struct_formed : (s : Scope) (text : List ℕ) (m : MembersRead)
    → members_at s text ≡ Ok m → IsScope s → (length m.1 ≤ 256) × AreParts m.0 m.1
struct_formed s text m e is =
    let t = members_takes 257 [] [] s text m e in
    (let f = t.few in omega arith, (t.sound is (no_parts s)).parts)

pub members_grow : (s : Scope) (text : List ℕ) (m : MembersRead) →
    members_at s text ≡ Ok m → AddsOnlyTypes s m.0
members_grow s text m e = (members_takes 257 [] [] s text m e).grows

pub exception_grows : (s : Scope) (text : List ℕ) (m : MembersRead) → members_at s text ≡ Ok m
    → AddsOnlyTypes s (with_node m.0 (nodes.members m.1)).0
exception_grows s text m e =
    grows_on s m.0 (with_node m.0 (nodes.members m.1)).0 (members_grow s text m e)
    (node_grows m.0 (nodes.members m.1))

some_octet : (ps : List Part) → 0 < length ps → TakesOctet (nodes.members ps)
some_octet [] lt = absurd (omega arith)
some_octet (p ∷ ps) lt = tt

-- a struct of some members takes an octet
pub struct_takes : (s : Scope) (o f : List ℕ) (m : MembersRead)
    → non_empty_list_at o ≡ Ok f → members_at s f ≡ Ok m → TakesOctet (nodes.members m.1)
struct_takes s o f m fill e =
    let k = filled_takes o f fill in
    let some : mark_if marks.CloseBrace f ≡ Ok None =
    subst (λ t. mark_if marks.CloseBrace t ≡ Ok None) k.0 k.1 in
    some_octet m.1 ((members_takes 257 [] [] s f m e).some some)

-- a name that was new is still new
pub still_new : (s t : Scope) (w : List ℕ) → AddsOnlyTypes s t → lookup (bytes_eq w) s.names.known
    ≡ None
    → lookup (bytes_eq w) t.names.known ≡ None
still_new s t w g e = search (arith)

pub record RepositoryTaken (s : Scope) (text : List ℕ) (x : List ℕ × List ℕ) : Type 0 where
  pub short : length x.0 ≤ 128
  pub new : exception_in s.table x.0 ≡ None
  pub front : TakesToken text (repository x.0) x.1

pub new_repository_takes : (s : Scope) (text : List ℕ) (x : List ℕ × List ℕ)
    → new_repository_at s text ≡ Ok x → RepositoryTaken s text x
unfolding new_repository_at
new_repository_takes s text x e = search (
  arith,
  bind_ok,
  unused_is,
  repository_few,
  none_of,
  repository_takes,
)

-- a repository id that was new is still new
pub still_different : (s t : Scope) (r : List ℕ) → AddsOnlyTypes s t → exception_in s.table r ≡ None
    → exception_in t.table r ≡ None
still_different s t r g e = search (arith)

-- a type that was added is in the table
pub node_below : (s : Scope) (n : Node) → (with_node s n).1 < length (with_node s n).0.table.types
node_below s n = search (arith, length-append)

-- ---- the end of a declaration

pub record TakenDeclarationEnd (s : Scope) (text : List ℕ) (x : DeclarationRead) : Type 0 where
  pub shallow : depth_of (x.0).table.types ≤ 24
  pub scope : s ≡ x.0
  pub rest : mark_at marks.Semicolon text ≡ Ok x.1

end_by : (at : ℕ) (s : Scope) (text r : List ℕ) (x : DeclarationRead) (v : Bool)
    → leb (depth_of s.table.types) 24 ≡ v → mark_at marks.Semicolon text ≡ Ok r
    → cond v (Ok (s, r)) (Err (too_deep at)) ≡ Ok x → TakenDeclarationEnd s text x
end_by at s text r x true d m e = search (arith, ok_is, leb-true)
end_by at s text r x false d m e = absurd cc

pub end_takes : (at : ℕ) (s : Scope) (text : List ℕ) (x : DeclarationRead)
    → declaration_end_at at s text ≡ Ok x
    → TakenDeclarationEnd s text x
unfolding declaration_end_at
end_takes at s text x e =
    let r = bind_ok {A = List ℕ} _ _ x e in
    end_by at s text r.0 x (leb (depth_of s.table.types) 24) refl r.1 r.2

-- the text that was read spells the declaration
pub record TakenDeclaration (s : Scope) (text : List ℕ) (x : DeclarationRead) : Type 0 where
  pub declaration : Declaration
  pub took : SpellsUpTo (spell declaration) (OfDeclaration kinds.Syntax s declaration) text x.1
  pub shallow : depth_of (x.0).table.types ≤ 24
