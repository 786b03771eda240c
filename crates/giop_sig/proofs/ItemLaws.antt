-- Reading the spelling of members gives them, or a rule that they break.
use Rattle.std.proofs.Common.{◌≡◌, inl, ℕ, zero, suc, ◌+◌, ◌<◌, ◌≤◌, Bool, true, false, cond, ltb, leb, List, [], ◌∷◌, ◌++◌, length, Option, Some, None, Result, Ok, Err, append_assoc, refl, sym, subst, ◌∙◌, arith}
use Rattle.std.specs.Option.{is_some}
use Rattle.std.proofs.lemmas.List.{length-append, append-nil}
use Rattle.std.proofs.lemmas.Bool.{ltb-true, ltb-false, leb-true, leb-false, false≢true}
use Rattle.giop_tokens.specs.declared.fault.TokenError.{TokenError}
use Rattle.giop_tokens.specs.declared.fault.SigFaultKind.TheVariants as kinds
use Rattle.giop_tokens.specs.declared.marks.Mark.TheVariants as marks
use Rattle.giop_tokens.specs.Tokens.{Token, word, mark, AreTokens}
use Rattle.giop_tokens.specs.Reading.{◌>>=◌}
use Rattle.giop_tokens.specs.Readers.{mark_at, mark_if}
use Rattle.giop_tokens.specs.Names.{too_long, identifier_at}
use Rattle.giop_tokens.proofs.ReaderLaws.{mark_again, mark_if_again, identifier_again, identifier_long}
use Rattle.giop_sig.specs.declared.announced.TypeWord.{TypeWord}
use Rattle.giop_sig.specs.Table.{Node, Part}
use Rattle.giop_sig.specs.Trees.{depth_of}
use Rattle.giop_sig.specs.Grammar.{TypeExpr, Base, Item, spell_lengths, spell_type, spell_item, spell_items}
use Rattle.giop_sig.specs.Scopes.{Names, is_version_3, Scope, item_part, add_type, add_arrays, add_item, add_items}
use Rattle.giop_sig.specs.Validity.{FaultKind, IsNotReserved, is_among, is_name_taken, OfNewName, OfNonEmpty, OfItem, OfItems, OfDeclaredName}
use Rattle.giop_sig.specs.Outcomes.{refused}
use Rattle.giop_sig.specs.TypeReading.{type_at}
use Rattle.giop_sig.specs.ItemReading.{new_name_at, declared_name_at, ItemRead, lengths_at, most_lengths, item_read, item_at, MembersSoFar, member_at, member_step, MembersRead, members_run, non_empty_list_at, DeclarationRead, too_deep, declaration_end_at}
use Rattle.giop_sig.proofs.AddTypeLaws.{within_same, arrays_more, item_names, items_more}
use Rattle.giop_sig.proofs.ReadingLaws.{IsMadeOrBreaksRule, good, broken, out_bind, out_more, BeginsWithoutMark, if_apart}
use Rattle.giop_sig.proofs.LengthLaws.{lengths_reads}
use Rattle.giop_sig.proofs.TypeLaws.{type_reads}
use Rattle.giop_sig.proofs.ItemTaken.{name_if_unused, then_run}
use Rattle.giop_sig.proofs.RepeatLaws.{step_first}
use Rattle.giop_sig.specs.Repeats.{in_steps}

-- ---- a list that isn't empty

pub some_keeps : {X : Type 0} (x : X) (xs : List X) (k : FaultKind) → OfNonEmpty k (x ∷ xs)
some_keeps x xs kinds.Token = tt
some_keeps x xs _ = tt

pub filled_end : (text rest : List ℕ) → mark_if marks.CloseBrace text ≡ Ok (Some rest)
    → non_empty_list_at text ≡ Err (refused kinds.Empty text)
unfolding non_empty_list_at
filled_end text rest h = rw h refl

pub filled_on : (text : List ℕ) → mark_if marks.CloseBrace text ≡ Ok None → non_empty_list_at text
    ≡ Ok text
unfolding non_empty_list_at
filled_on text h = rw h refl

-- ---- names

-- what is asked of a new name
pub name_keeps : (third : Bool) (most : ℕ) (seen : List (List ℕ)) (w : List ℕ)
    → IsNotReserved third w
    → length w ≤ 64 → length seen < most → is_among seen w ≡ false
    → (k : FaultKind) → OfNewName k third most seen w
name_keeps third most seen w free short few new kinds.Syntax = free
name_keeps third most seen w free short few new kinds.Duplicate = new
name_keeps third most seen w free short few new kinds.Limit = (short, few)
name_keeps third most seen w free short few new _ = tt

-- a word that is new and for which there is room, or a rule that is broken
pub unused_reads : {rule : FaultKind → Type 0} {types : List Node} {more : List Token}
    (known full : Bool)
    (text w rest : List ℕ) → AreTokens rest more → (known ≡ true → rule kinds.Duplicate → ⊥)
    → (full ≡ true → rule kinds.Limit → ⊥) → (known ≡ false → full ≡ false → (k : FaultKind) →
    rule k)
    → IsMadeOrBreaksRule {X = List ℕ × List ℕ} (λ rest. (w, rest)) rule types more
    (name_if_unused known full text (w, rest))
unused_reads true full text w rest m double many keeps = search (arith, broken)
unused_reads false true text w rest m double many keeps = search (arith, broken)
unused_reads false false text w rest m double many keeps = good rest m (keeps refl refl)

-- what comes after an identifier that isn't too long
identifier_by : {X : Type 0} {made : List ℕ → X} {rule : FaultKind → Type 0} {types : List Node}
    {more : List Token}
    (third : Bool) (f : List ℕ × List ℕ → Result X TokenError) (text w : List ℕ) (v : Bool)
    → ltb 64 (length w) ≡ v →
    IsNotReserved third w
    → AreTokens text (word w ∷ more) → (64 < length w → rule kinds.Limit → ⊥)
    → (length w ≤ 64 → (rest : List ℕ) → AreTokens rest more →
    IsMadeOrBreaksRule made rule types more (f (w, rest)))
    → IsMadeOrBreaksRule made rule types more (identifier_at third text >>= f)
identifier_by {more = more} third f text w true e free h long on =
    let z = ltb-true 64 (length w) e in rw (identifier_long third text w more h free z)
    (broken (too_long text) (inl (long z)))
identifier_by {more = more} third f text w false e free h long on =
    let z = ltb-false 64 (length w) e in rw (identifier_again third text w more h free z)
    (on z h.0 h.2)

pub new_name_reads : (third : Bool) (types : List Node) (most : ℕ) (seen : List (List ℕ))
    (text w : List ℕ)
    (more : List Token) → IsNotReserved third w → AreTokens text (word w ∷ more)
    → IsMadeOrBreaksRule {X = List ℕ × List ℕ} (λ rest. (w, rest))
    (λ k. OfNewName k third most seen w) types more
    (new_name_at third most seen text)
unfolding new_name_at
new_name_reads third types most seen text w more free h =
    identifier_by third (λ n. name_if_unused (is_among seen n.0) (leb most (length seen)) text n)
    text w
    (ltb 64 (length w)) refl free h
    (λ long r. let f = r.0 in omega arith)
    (λ short rest m. unused_reads (is_among seen w) (leb most (length seen)) text w rest m
    (λ k r. false≢true (sym r ∙ k))
    (λ k r. let z = leb-true most (length seen) k in let f = r.1 in omega arith)
    (λ k f. name_keeps third most seen w free short (leb-false most (length seen) f) k))

declared_keeps : (s : Scope) (kind : Option TypeWord) (count : ℕ) (w : List ℕ)
    → IsNotReserved (is_version_3 s.names) w → length w ≤ 64 → count < 4096
    → is_name_taken s.names kind w ≡ false → (k : FaultKind) → OfDeclaredName k s kind count w
declared_keeps s kind count w free short few new kinds.Syntax = free
declared_keeps s kind count w free short few new kinds.Duplicate = new
declared_keeps s kind count w free short few new kinds.Limit = (short, few)
declared_keeps s kind count w free short few new _ = tt

pub some_none : {X : Type 0} (o : Option X) → is_some o ≡ true → o ≡ None → ⊥
some_none None e h = absurd cc
some_none (Some x) e h = absurd cc

pub declared_reads : (types : List Node) (s : Scope) (kind : Option TypeWord) (count : ℕ)
    (text w : List ℕ)
    (more : List Token) → IsNotReserved (is_version_3 s.names) w → AreTokens text (word w ∷ more)
    → IsMadeOrBreaksRule {X = List ℕ × List ℕ} (λ rest. (w, rest))
    (λ k. OfDeclaredName k s kind count w) types more
    (declared_name_at s kind count text)
unfolding declared_name_at
declared_reads types s kind count text w more free h =
    identifier_by (is_version_3 s.names)
    (λ n. name_if_unused (is_name_taken s.names kind n.0) (leb 4096 count) text n) text w
    (ltb 64 (length w))
    refl free h
    (λ long r. let f = r.0 in omega arith)
    (λ short rest m. unused_reads (is_name_taken s.names kind w) (leb 4096 count) text w rest m
    (λ k r. false≢true (sym r ∙ k))
    (λ k r. let z = leb-true 4096 count k in let f = r.1 in omega arith)
    (λ k f. declared_keeps s kind count w free short (leb-false 4096 count f) k))

-- ---- items

abbrev pub made_item : (scope : Scope) (item : Item) (rest : List ℕ) → ItemRead
made_item s i rest = ((add_item s i).0, item_part i (add_item s i), rest)

pub item_reads : (most : ℕ) (seen : List (List ℕ)) (s : Scope) (i : Item) (text : List ℕ)
    (more : List Token) → OfItem kinds.Syntax s.names most seen i
    → BeginsWithoutMark marks.OpenBracket more → AreTokens text (spell_item i more)
    → IsMadeOrBreaksRule (made_item s i) (λ k. OfItem k s.names most seen i)
    (add_item s i).0.table.types more
    (item_at most seen s text)
unfolding item_at
item_reads most seen s i text more free apart h =
    let p = add_type s i.type in
    out_bind (type_at s text) (λ t. new_name_at (is_version_3 s.names) most seen t.2 >>= λ n.
    lengths_at (most_lengths (is_version_3 s.names) n.1) n.1
    >>= λ l. Ok (item_read (add_arrays l.0 (t.0, t.1)) n.0 l.1))
    (type_reads s i.type text (word i.name ∷ spell_lengths i.lengths more) free.0 refl h)
    (λ a ta ka.
    out_bind (new_name_at (is_version_3 s.names) most seen a)
    (λ n. lengths_at (most_lengths (is_version_3 s.names) n.1) n.1
    >>= λ l. Ok (item_read (add_arrays l.0 p) n.0 l.1))
    (new_name_reads (is_version_3 s.names) (add_type s i.type).0.table.types most seen a i.name
    (spell_lengths i.lengths more)
    free.1 ta)
    (λ b tb kb.
    out_bind (lengths_at (most_lengths (is_version_3 s.names) b) b)
    (λ l. Ok (item_read (add_arrays l.0 p) i.name l.1))
    (lengths_reads (add_type s i.type).0.table.types s.names i.lengths b more free.2 apart tb)
    (λ c tc kc. good c tc (λ k. (ka k, kb k, kc k)))
    (λ k w. w.2) (arrays_more i.lengths (add_type s i.type)))
    (λ k w. w.1) (arrays_more i.lengths (add_type s i.type)))
    (λ k w. w.0) (arrays_more i.lengths (add_type s i.type))

-- ---- members

-- a type doesn't begin with a mark
pub type_apart : (e : TypeExpr) (more : List Token) → BeginsWithoutMark marks.CloseBrace
    (spell_type e more)
type_apart (Base p) more = refl
type_apart _ more = refl

abbrev made_member : (seen : List (List ℕ)) (parts : List Part) (scope : Scope) (item : Item)
    (rest : List ℕ) → Bool × MembersSoFar
made_member seen parts s i rest = (
  false,
  (
    (add_item s i).0,
    seen ++ i.name ∷ [],
    parts ++ item_part i (add_item s i) ∷ [],
    rest,
  ),
)

member_reads : (seen : List (List ℕ)) (parts : List Part) (s : Scope) (i : Item)
    (text : List ℕ) (more : List Token) → OfItem kinds.Syntax s.names 256 seen i
    → AreTokens text (spell_item i (mark marks.Semicolon ∷ more))
    → IsMadeOrBreaksRule (made_member seen parts s i) (λ k. OfItem k s.names 256 seen i)
    (add_item s i).0.table.types more (member_at (s, seen, parts, text))
unfolding member_at
member_reads seen parts s i text more free h =
    out_bind (item_at 256 seen s text) (λ i. mark_at marks.Semicolon i.2
    >>= λ r. Ok (false, (i.0, seen ++ (i.1).name ∷ [], parts ++ i.1 ∷ [], r)))
    (item_reads 256 seen s i text (mark marks.Semicolon ∷ more) free refl h)
    (λ rest m keeps. rw (mark_again marks.Semicolon rest more m) (good m.0 m.2 keeps)) (λ k w. w)
    within_same

abbrev pub made_members : (parts : List Part) (scope : Scope) (items : List Item) (rest : List ℕ) →
    MembersRead
made_members parts s is rest = ((add_items s is).0, parts ++ (add_items s is).1, rest)

run_on : (n : ℕ) (m : MembersSoFar) → mark_if marks.CloseBrace m.3 ≡ Ok None
    → members_run (suc n) m ≡ (member_at m >>= then_run n)
unfolding member_step
run_on n m h = search (arith, then_run, step_first)

run_end : (n : ℕ) (m : MembersSoFar) (rest : List ℕ) → mark_if marks.CloseBrace m.3 ≡ Ok (Some rest)
    → members_run (suc n) m ≡ Ok (m.0, m.2, rest)
unfolding in_steps member_step
run_end n m rest h = rw h refl

closes : (seen : List (List ℕ)) (parts : List Part) (s : Scope) (names : Names) (rest : List ℕ)
    (more : List Token) → AreTokens rest more
    → IsMadeOrBreaksRule (made_members parts s []) (λ k. OfItems k names 256 seen [])
    (add_items s []).0.table.types more (Ok (s, parts, rest))
unfolding OfItems add_items
closes seen parts s names rest more m = search (arith, append-nil, good)

made_on : (parts : List Part) (s : Scope) (i : Item) (is : List Item) (names : Names)
    (seen : List (List ℕ)) (more : List Token) (r : Result MembersRead TokenError)
    → ((k : FaultKind) → OfItem k names 256 seen i)
    → IsMadeOrBreaksRule (made_members (parts ++ item_part i (add_item s i) ∷ []) (add_item s i).0
    is)
    (λ k. OfItems k names 256 (seen ++ i.name ∷ []) is)
    (add_items (add_item s i).0 is).0.table.types more r
    → IsMadeOrBreaksRule (made_members parts s (i ∷ is)) (λ k. OfItems k names 256 seen (i ∷ is))
    (add_items s (i ∷ is)).0.table.types more r
unfolding OfItems add_items
made_on parts s i is names seen more r first o =
    let same = append_assoc parts (item_part i (add_item s i) ∷ [])
    (add_items (add_item s i).0 is).1 in
    out_more (subst (λ ps. IsMadeOrBreaksRule {X = MembersRead}
    (λ rest. ((add_items (add_item s i).0 is).0, ps, rest))
    (λ k. OfItems k names 256 (seen ++ i.name ∷ []) is)
    (add_items (add_item s i).0 is).0.table.types more r) same o)
    (λ k w. (first k, w)) (λ k w. w.1)

-- a member, and then the others
member_on : (n : ℕ) (seen : List (List ℕ)) (parts : List Part) (s : Scope) (names : Names)
    (i : Item) (is : List Item) (more : List Token) → s.names ≡ names
    → (r : Result (Bool × MembersSoFar) TokenError)
    → IsMadeOrBreaksRule (made_member seen parts s i) (λ k. OfItem k names 256 seen i)
    (add_item s i).0.table.types (spell_items is more) r
    → ((rest : List ℕ) → AreTokens rest (spell_items is more)
    → ((k : FaultKind) → OfItem k names 256 seen i)
    → IsMadeOrBreaksRule (made_members (parts ++ item_part i (add_item s i) ∷ []) (add_item s i).0
    is)
    (λ k. OfItems k names 256 (seen ++ i.name ∷ []) is)
    (add_items (add_item s i).0 is).0.table.types more
    (members_run n (
      (add_item s i).0,
      seen ++ i.name ∷ [],
      parts ++ item_part i (add_item s i) ∷ [],
      rest,
    )))
    → IsMadeOrBreaksRule (made_members parts s (i ∷ is)) (λ k. OfItems k names 256 seen (i ∷ is))
    (add_items s (i ∷ is)).0.table.types more
    (r >>= then_run n)
unfolding OfItems add_items
member_on n seen parts s names i is more same r o on =
    out_bind r (then_run n) o
    (λ rest m keeps. made_on parts s i is names seen more
    (members_run n (
      (add_item s i).0,
      seen ++ i.name ∷ [],
      parts ++ item_part i (add_item s i) ∷ [],
      rest,
    )) keeps (on rest m keeps))
    (λ k w. w.0) (items_more (add_item s i).0 is)

pub members_reads : (is : List Item) (n : ℕ) (seen : List (List ℕ)) (parts : List Part)
    (s : Scope) (names : Names) (text : List ℕ) (more : List Token) → s.names ≡ names
    → n + length seen ≡ 257 → length seen ≤ 256
    → OfItems kinds.Syntax names 256 seen is → AreTokens text (spell_items is more)
    → IsMadeOrBreaksRule (made_members parts s is) (λ k. OfItems k names 256 seen is)
    (add_items s is).0.table.types more (members_run n (s, seen, parts, text))
unfolding OfItems
members_reads [] zero seen parts s names text more same n few free h = absurd (omega arith)
members_reads (i ∷ is) zero seen parts s names text more same n few free h =
    absurd (omega arith)
members_reads [] (suc n) seen parts s names text more same fuel few free h =
    rw (run_end n (s, seen, parts, text) h.0 (mark_if_again marks.CloseBrace text more h))
    (closes seen parts s names h.0 more h.2)
members_reads (i ∷ is) (suc n) seen parts s names text more same fuel few free h =
    let apart = if_apart marks.CloseBrace text
    (spell_item i (mark marks.Semicolon ∷ spell_items is more))
    (type_apart i.type (word i.name ∷ spell_lengths i.lengths
    (mark marks.Semicolon ∷ spell_items is more))) h in
    rw (run_on n (s, seen, parts, text) apart)
    (member_on n seen parts s names i is more same (member_at (s, seen, parts, text))
    (subst (λ ns. IsMadeOrBreaksRule (made_member seen parts s i) (λ k. OfItem k ns 256 seen i)
    (add_item s i).0.table.types (spell_items is more)
    (member_at (s, seen, parts, text))) same
    (member_reads seen parts s i text (spell_items is more)
    (subst (λ ns. OfItem kinds.Syntax ns 256 seen i) (sym same) free.0) h))
    (λ rest m keeps.
    let lt = (keeps kinds.Limit).1.1 in
    members_reads is n (seen ++ i.name ∷ []) (parts ++ item_part i (add_item s i) ∷ [])
    (add_item s i).0 names rest more (item_names s i ∙ same)
    (omega (arith, length-append seen (i.name ∷ [])))
    (omega (arith, length-append seen (i.name ∷ []))) free.1 m))

-- ---- the end of a declaration

end_by : (at : ℕ) (s : Scope) (rule : FaultKind → Type 0) (rest : List ℕ) (more : List Token) (v :
    Bool)
    → leb (depth_of s.table.types) 24 ≡ v → AreTokens rest more → ((k : FaultKind) → rule k)
    → IsMadeOrBreaksRule {X = DeclarationRead} (λ rest. (s, rest)) rule s.table.types more
    (cond v (Ok (s, rest)) (Err (too_deep at)))
end_by at s rule rest more true d m keeps = good rest m keeps
end_by at s rule rest more false d m keeps = search (arith, broken, leb-false)

-- the end of a declaration that keeps the other rules
pub end_reads : (at : ℕ) (s : Scope) (rule : FaultKind → Type 0) (text : List ℕ) (more : List Token)
    → AreTokens text (mark marks.Semicolon ∷ more) → ((k : FaultKind) → rule k)
    → IsMadeOrBreaksRule {X = DeclarationRead} (λ rest. (s, rest)) rule s.table.types more
    (declaration_end_at at s text)
unfolding declaration_end_at
end_reads at s rule text more h keeps =
    rw (mark_again marks.Semicolon text more h)
    (end_by at s rule h.0 more (leb (depth_of s.table.types) 24) refl h.2 keeps)
