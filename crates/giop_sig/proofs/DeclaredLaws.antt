-- Structs and exceptions, both ways: reading the spelling of one gives it or a rule that it breaks,
-- and the text that was read spells it.
use Rattle.std.proofs.Common.{◌≡◌, ℕ, ◌≤◌, Bool, true, false, cond, List, [], ◌∷◌, length, Option, Some, None, Ok, refl, sym, subst, arith}
use Rattle.std.specs.Prelude.{codes}
use Rattle.std.specs.Option.{is_some}
use Rattle.std.proofs.lemmas.Bool.{false≢true}
use Rattle.giop_tokens.specs.declared.fault.SigFaultKind.TheVariants as kinds
use Rattle.giop_tokens.specs.declared.marks.Mark.TheVariants as marks
use Rattle.giop_tokens.specs.Tokens.{Token, word, repository, mark, octets_left_at_token, AreTokens}
use Rattle.giop_tokens.specs.Reading.{◌>>=◌}
use Rattle.giop_tokens.specs.Readers.{mark_at}
use Rattle.giop_tokens.proofs.ReaderLaws.{bind_ok, TakesToken, mark_again, mark_if_again, mark_takes, repository_again, repository_few}
use Rattle.giop_sig.specs.declared.announced.TypeWord.TheVariants as type_words
use Rattle.giop_sig.specs.Table.{Node, exception_in}
use Rattle.giop_sig.specs.Table as nodes
use Rattle.giop_sig.specs.Grammar.{Item, spell_items, spell_identity, Structure, DeclaredException}
use Rattle.giop_sig.specs.Scopes.{Scope, AddedType, with_node, with_named, with_raised, add_items, add_struct_type, declare}
use Rattle.giop_sig.specs.Validity.{FaultKind, OfNonEmpty, OfItems, OfExceptionId, OfDeclaration}
use Rattle.giop_sig.specs.Outcomes.{refused}
use Rattle.giop_sig.specs.ItemReading.{announces_at, announcement_at, declared_name_at, structure_after, members_at, non_empty_list_at, IdentityRead, identity_at, DeclarationRead, declaration_end_at, type_end_at, structure_at, new_repository_at, exception_at, MembersRead}
use Rattle.giop_sig.proofs.AddTypeLaws.{within_same, within_on, HasNoFewerTypes, node_more, struct_more, named_more}
use Rattle.giop_sig.proofs.ReadingLaws.{IsMadeOrBreaksRule, good, broken, out_bind, if_apart}
use Rattle.giop_sig.proofs.ItemLaws.{declared_reads, members_reads, some_keeps, filled_end, filled_on, type_apart, some_none, unused_reads, end_reads}
use Rattle.giop_sig.proofs.AnnouncedLaws.{not_announced, identity_apart, announces_third, announcement_takes}
use Rattle.giop_sig.proofs.IdentityLaws.{identity_reads, IdentityTaken, identity_takes}
use Rattle.giop_sig.proofs.ItemTaken.{none_of, DeclaredTaken, declared_takes, filled_takes, members_takes, TakenMembers, TakenDeclarationEnd, end_takes, RepositoryTaken, new_repository_takes, TakenDeclaration}

-- what reading gives for a text that begins with members
filled_reads : (types : List Node) (is : List Item) (text : List ℕ) (more : List Token)
    → AreTokens text (spell_items is more)
    → IsMadeOrBreaksRule {X = List ℕ} (λ rest. rest) (λ k. OfNonEmpty k is) types
    (spell_items is more) (non_empty_list_at text)
filled_reads types [] text more h =
    rw (filled_end text h.0 (mark_if_again marks.CloseBrace text more h))
    (broken (refused kinds.Empty text) (λ none. none))
filled_reads types (i ∷ is) text more h = search (
  arith,
  filled_on,
  if_apart,
  type_apart,
  good,
  some_keeps,
)

-- ---- structs

-- the members of a struct, and the end of the declaration that they make
closed_reads : (at : ℕ) (s : Scope) (is : List Item) (h : AddedType → Scope) (rule : FaultKind →
    Type 0)
    (text : List ℕ) (more : List Token) → OfItems kinds.Syntax s.names 256 [] is
    → AreTokens text (spell_items is (mark marks.Semicolon ∷ more))
    → (((k : FaultKind) → OfItems k s.names 256 [] is) → (k : FaultKind) → rule k)
    → ((k : FaultKind) → rule k → OfItems k s.names 256 [] is)
    → HasNoFewerTypes (add_struct_type (add_items s is)).0 (h (add_struct_type (add_items s is)))
    → IsMadeOrBreaksRule {X = DeclarationRead} (λ rest. (
      h (add_struct_type (add_items s is)),
      rest,
    ))
    rule
    (h (add_struct_type (add_items s is))).table.types more
    (members_at s text >>= λ m. declaration_end_at at (h (with_node m.0 (nodes.members m.1))) m.2)
closed_reads at s is h rule text more free t on up le =
    let made = add_items s is in
    out_bind (members_at s text) (λ m. declaration_end_at at
    (h (with_node m.0 (nodes.members m.1))) m.2)
    (members_reads is 257 [] [] s s.names text (mark marks.Semicolon ∷ more) refl
    (omega arith) (omega arith) free t)
    (λ rest m keeps. end_reads at (h (add_struct_type made)) rule rest more m (on keeps))
    up (within_on (node_more made.0 (nodes.members made.1)) le)

pub structure_reads : (s : Scope) (w : List ℕ) (id : Option (List ℕ)) (is : List Item)
    (text : List ℕ) (more : List Token) → OfDeclaration kinds.Syntax s (Structure w id is)
    → AreTokens text (word w ∷ spell_identity id (mark marks.OpenBrace
    ∷ spell_items is (mark marks.Semicolon ∷ more)))
    → IsMadeOrBreaksRule {X = DeclarationRead} (λ rest. (declare s (Structure w id is), rest))
    (λ k. OfDeclaration k s (Structure w id is)) (declare s (Structure w id is)).table.types
    more (structure_at s text)
unfolding structure_at structure_after declare OfDeclaration
structure_reads s w id is text more free t =
    let at = octets_left_at_token text in
    let members = spell_items is (mark marks.Semicolon ∷ more) in
    let named = named_more w id (add_struct_type (add_items s is)) in
    let grown = within_on (struct_more s is) named in
    out_bind (declared_name_at s (Some type_words.Struct) s.table.declared text)
    (λ n. announces_at s n.1 >>= λ a. cond a (announcement_at s type_words.Struct text n.0 n.1)
    (structure_after s text n.0 n.1))
    (declared_reads s.table.types s (Some type_words.Struct) s.table.declared text w
    (spell_identity id (mark marks.OpenBrace ∷ members)) free.0 t)
    (λ a ta ka.
    rw (not_announced s a (spell_identity id (mark marks.OpenBrace ∷ members))
    (identity_apart id (mark marks.OpenBrace ∷ members) refl) ta)
    (out_bind (identity_at s a) (λ i. mark_at marks.OpenBrace i.1 >>= λ o. non_empty_list_at o
    >>= λ f. members_at s f >>= λ m. type_end_at at w i.0 m.0 (nodes.members m.1) m.2)
    (identity_reads s.table.types s id a (mark marks.OpenBrace) members refl free.1 ta)
    (λ i ti ki. rw (mark_again marks.OpenBrace i members ti)
    (out_bind (non_empty_list_at ti.0) (λ f. members_at s f
    >>= λ m. type_end_at at w id m.0 (nodes.members m.1) m.2)
    (filled_reads s.table.types is ti.0 (mark marks.Semicolon ∷ more) ti.2)
    (λ b tb kb. closed_reads at s is (with_named w id) (λ k. OfDeclaration k s (Structure w id is))
    b more free.3 tb (λ keeps k. (ka k, ki k, kb k, keeps k))
    (λ k h. h.3) named)
    (λ k h. h.2) grown))
    (λ k h. h.1) grown))
    (λ k h. h.0) grown

-- ---- what was read

structure_made : (s last : Scope) (whole text o f : List ℕ) (n : List ℕ × List ℕ)
    (i : IdentityRead) (m : MembersRead) (x : DeclarationRead) → TakesToken whole
    (word (codes "struct")) text
    → DeclaredTaken s (Some type_words.Struct) s.table.declared text n → IdentityTaken s n.1 i
    → mark_at marks.OpenBrace i.1 ≡ Ok o → o ≡ f
    → TakenMembers 257 [] [] s f m → TakenDeclarationEnd last m.2 x → TakenDeclaration s whole x
unfolding OfDeclaration
structure_made s last whole text o f n i m x before a d b same k e = record {
  declaration = Structure n.0 i.0 k.items;
  took = record {
    free = (a.free, d.took.free, tt, k.took.free);
    front = λ more h.
        let behind : AreTokens f (spell_items k.items (mark marks.Semicolon ∷ more)) =
        k.took.front (mark marks.Semicolon ∷ more)
        (mark_takes marks.Semicolon m.2 x.1 e.rest more h) in
        let members = spell_items k.items (mark marks.Semicolon ∷ more) in
        let braced = spell_identity i.0 (mark marks.OpenBrace ∷ members) in
        before (word n.0 ∷ braced) (a.front braced (d.took.front (mark marks.OpenBrace ∷ members)
        (mark_takes marks.OpenBrace i.1 o b members
        (subst (λ z. AreTokens z members) (sym same) behind))));
  };
  shallow = e.shallow;
}

structure_by : (s : Scope) (whole text : List ℕ) (n : List ℕ × List ℕ) (x : DeclarationRead)
    → TakesToken whole (word (codes "struct")) text
    → declared_name_at s (Some type_words.Struct) s.table.declared text ≡ Ok n
    → structure_after s text n.0 n.1 ≡ Ok x → TakenDeclaration s whole x
unfolding structure_after
structure_by s whole text n x before d e =
    let i = bind_ok _ _ x e in
    let o = bind_ok _ _ x i.2 in
    let f = bind_ok _ _ x o.2 in
    let m = bind_ok _ _ x f.2 in
    let last = with_named n.0 (i.0).0 (with_node (m.0).0 (nodes.members (m.0).1)) in
    structure_made s last whole text o.0 f.0 n i.0 m.0 x before
    (declared_takes s (Some type_words.Struct) s.table.declared text n d)
    (identity_takes s n.1 i.0 i.1) o.1
    (filled_takes o.0 f.0 f.1).0 (members_takes 257 [] [] s f.0 m.0 m.1)
    (end_takes (octets_left_at_token text) last (m.0).2 x m.2)

structure_or : (s : Scope) (whole text : List ℕ) (n : List ℕ × List ℕ) (x : DeclarationRead)
    (v : Bool)
    → TakesToken whole (word (codes "struct")) text
    → declared_name_at s (Some type_words.Struct) s.table.declared text ≡ Ok n
    → announces_at s n.1 ≡ Ok v
    → cond v (announcement_at s type_words.Struct text n.0 n.1) (structure_after s text n.0 n.1)
    ≡ Ok x → TakenDeclaration s whole x
structure_or s whole text n x true before d a e =
    announcement_takes s type_words.Struct whole text n x before d (announces_third s n.1 a) e
structure_or s whole text n x false before d a e = structure_by s whole text n x before d e

pub structure_takes : (s : Scope) (whole text : List ℕ) (x : DeclarationRead)
    → TakesToken whole (word (codes "struct")) text → structure_at s text ≡ Ok x
    → TakenDeclaration s whole x
unfolding structure_at
structure_takes s whole text x before e =
    let n = bind_ok {A = List ℕ × List ℕ} _ _ x e in
    let a = bind_ok {A = Bool} _ _ x n.2 in
    structure_or s whole text n.0 x a.0 before n.1 a.1 a.2

-- ---- exceptions

repository_keeps : (s : Scope) (r : List ℕ) → length r ≤ 128 → exception_in s.table r ≡ None
    → (k : FaultKind) → OfExceptionId k s r
repository_keeps s r short new kinds.Duplicate = new
repository_keeps s r short new kinds.Limit = short
repository_keeps s r short new _ = tt

repository_reads : (types : List Node) (s : Scope) (text r : List ℕ) (more : List Token)
    → AreTokens text (repository r ∷ more)
    → IsMadeOrBreaksRule {X = List ℕ × List ℕ} (λ rest. (r, rest)) (λ k. OfExceptionId k s r) types
    more
    (new_repository_at s text)
unfolding new_repository_at
repository_reads types s text r more h =
    let known = exception_in s.table r in
    let few = repository_few text (r, h.0) (repository_again text r more h) in
    rw (repository_again text r more h)
    (unused_reads (is_some known) false text r h.0 h.2 (some_none known)
    (λ q k. false≢true q) (λ q f. repository_keeps s r few (none_of known q)))

pub raise_reads : (s : Scope) (w i : List ℕ) (is : List Item) (text : List ℕ) (more : List Token)
    → OfDeclaration kinds.Syntax s (DeclaredException w i is)
    → AreTokens text (word w ∷ repository i ∷ mark marks.OpenBrace
    ∷ spell_items is (mark marks.Semicolon ∷ more))
    → IsMadeOrBreaksRule {X = DeclarationRead} (λ rest. (
      declare s (DeclaredException w i is),
      rest,
    ))
    (λ k. OfDeclaration k s (DeclaredException w i is))
    (declare s (DeclaredException w i is)).table.types more (exception_at s text)
unfolding exception_at declare OfDeclaration
raise_reads s w i is text more free t =
    let at = octets_left_at_token text in
    out_bind (declared_name_at s None (length s.table.exceptions) text)
    (λ n. new_repository_at s n.1 >>= λ i. mark_at marks.OpenBrace i.1 >>= λ o. members_at s o
    >>= λ m. declaration_end_at at (with_raised n.0 i.0 (with_node m.0 (nodes.members m.1))) m.2)
    (declared_reads s.table.types s None (length s.table.exceptions) text w
    (repository i ∷ mark marks.OpenBrace ∷ spell_items is (mark marks.Semicolon ∷ more)) free.0 t)
    (λ a ta ka.
    out_bind (new_repository_at s a) (λ i. mark_at marks.OpenBrace i.1 >>= λ o. members_at s o
    >>= λ m. declaration_end_at at (with_raised w i.0 (with_node m.0 (nodes.members m.1))) m.2)
    (repository_reads s.table.types s a i (mark marks.OpenBrace ∷ spell_items is
    (mark marks.Semicolon ∷ more)) ta)
    (λ b tb kb. rw (mark_again marks.OpenBrace b (spell_items is (mark marks.Semicolon ∷ more)) tb)
    (closed_reads at s is (with_raised w i) (λ k. OfDeclaration k s (DeclaredException w i is)) tb.0
    more free.2 tb.2 (λ keeps k. (ka k, kb k, keeps k))
    (λ k h. h.2) within_same))
    (λ k h. h.1) (struct_more s is))
    (λ k h. h.0) (struct_more s is)

raise_made : (s last : Scope) (whole text o : List ℕ) (n i : List ℕ × List ℕ) (m : MembersRead)
    (x : DeclarationRead) → TakesToken whole (word (codes "exception")) text
    → DeclaredTaken s None (length s.table.exceptions) text n → RepositoryTaken s n.1 i
    → mark_at marks.OpenBrace i.1 ≡ Ok o
    → TakenMembers 257 [] [] s o m → TakenDeclarationEnd last m.2 x → TakenDeclaration s whole x
unfolding OfDeclaration
raise_made s last whole text o n i m x before a d b k e = record {
  declaration = DeclaredException n.0 i.0 k.items;
  took = record {
    free = (a.free, tt, k.took.free);
    front = λ more h.
        let members = spell_items k.items (mark marks.Semicolon ∷ more) in
        let behind : AreTokens o members = k.took.front (mark marks.Semicolon ∷ more)
        (mark_takes marks.Semicolon m.2 x.1 e.rest more h) in
        before (word n.0 ∷ repository i.0 ∷ mark marks.OpenBrace ∷ members)
        (a.front (repository i.0 ∷ mark marks.OpenBrace ∷ members)
        (d.front (mark marks.OpenBrace ∷ members)
        (mark_takes marks.OpenBrace i.1 o b members behind)));
  };
  shallow = e.shallow;
}

pub raise_takes : (s : Scope) (whole text : List ℕ) (x : DeclarationRead)
    → TakesToken whole (word (codes "exception")) text → exception_at s text ≡ Ok x
    → TakenDeclaration s whole x
unfolding exception_at
raise_takes s whole text x before e =
    let n = bind_ok _ _ x e in
    let i = bind_ok _ _ x n.2 in
    let o = bind_ok _ _ x i.2 in
    let m = bind_ok _ _ x o.2 in
    let last = with_raised (n.0).0 (i.0).0 (with_node (m.0).0 (nodes.members (m.0).1)) in
    raise_made s last whole text o.0 n.0 i.0 m.0 x before
    (declared_takes s None (length s.table.exceptions) text n.0 n.1)
    (new_repository_takes s (n.0).1 i.0 i.1) o.1 (members_takes 257 [] [] s o.0 m.0 m.1)
    (end_takes (octets_left_at_token text) last (m.0).2 x m.2)
