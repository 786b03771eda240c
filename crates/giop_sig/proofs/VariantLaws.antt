-- The interfaces of an operation, both ways: reading the spelling of them gives them or a rule that
-- they break, and the text that was read spells them.
use Rattle.std.proofs.Common.{◌≡◌, ◌⊎◌, inl, inr, ℕ, zero, suc, ◌<◌, ◌≤◌, Bool, true, false, not, ◌&&◌, cond, leb, List, [], ◌∷◌, length, Option, Some, None, Result, Ok, Err, refl, sym, ap, subst, ◌∙◌, arith}
use Rattle.std.specs.Prelude.{codes}
use Rattle.std.specs.List.{list_any}
use Rattle.std.specs.Option.{is_some}
use Rattle.std.specs.Str.{bytes_eq}
use Rattle.std.proofs.lemmas.Bool.{leb-true, leb-false, false≢true}
use Rattle.giop_tokens.specs.declared.fault.TokenError.{TokenError}
use Rattle.giop_tokens.specs.declared.fault.SigFaultKind.TheVariants as kinds
use Rattle.giop_tokens.specs.declared.marks.Mark.TheVariants as marks
use Rattle.giop_tokens.specs.Tokens.{Token, repository, mark, AreTokens}
use Rattle.giop_tokens.specs.Reading.{◌>>=◌}
use Rattle.giop_tokens.specs.Readers.{misplaced, is_the_word, mark_if, keyword_if, repository_at}
use Rattle.giop_tokens.proofs.ReaderLaws.{if_other, bind_ok, ok_is, TakesToken, repository_again, repository_few, repository_takes, mark_if_again, mark_if_takes, keyword_if_again, keyword_if_takes}
use Rattle.giop_sig.specs.Interfaces.{Interfaces, is_key, of_text}
use Rattle.giop_sig.specs.Table.{Node, Table, operation_key, operation_number_of_key, with_keyed_operation, with_operation_in_interface, with_operation_in_all, with_operation_in_list}
use Rattle.giop_sig.specs.Grammar.{spell_more_interfaces, spell_interfaces}
use Rattle.giop_sig.specs.Scopes.{Names, is_version_3, Scope}
use Rattle.giop_sig.specs.Validity.{FaultKind, OfInterface, OfNewOperationKey, OfInterfaces, OfInterfaceList}
use Rattle.giop_sig.specs.Outcomes.{refused}
use Rattle.giop_sig.specs.CallReading.{interface_at, OperationStructs, InterfacesRead, with_table_by, operation_interface_at, after_comma, interface_end, key_in_interface, interface_step, too_many_interfaces, without_interfaces_at, interfaces_after_of, optional_interfaces_at, new_key_at}
use Rattle.giop_sig.specs.Repeats.{in_steps}
use Rattle.giop_sig.proofs.TypeLaws.{third_keeps}
use Rattle.giop_sig.proofs.AddTypeLaws.{within_same}
use Rattle.giop_sig.proofs.ReadingLaws.{IsMadeOrBreaksRule, good, broken, out_bind, out_more, BeginsWithoutMark, if_apart, SpellsUpTo}
use Rattle.giop_sig.proofs.ItemLaws.{some_none}
use Rattle.giop_sig.proofs.ItemTaken.{none_of, name_if_unused, unused_is}
use Rattle.giop_sig.proofs.TokensFew.{tokens_few}

-- ---- an interface

abbrev pub MayAddInterface : (interfaces : Interfaces) (id : List ℕ) → Type 0
MayAddInterface i id = (list_any (bytes_eq id) i.names ≡ true) ⊎ (length i.names < 1024)

interface_keeps : (i : Interfaces) (id : List ℕ) → length id ≤ 128 → MayAddInterface i id →
    (k : FaultKind)
    → OfInterface k i id
interface_keeps i id short room kinds.Limit = (short, room)
interface_keeps i id short room _ = tt

no_room : (i : Interfaces) (id : List ℕ) → list_any (bytes_eq id) i.names ≡ false
    → leb 1024 (length i.names) ≡ true → MayAddInterface i id → ⊥
no_room i id p q (inl known) = absurd (false≢true (sym p ∙ known))
no_room i id p q (inr few) = let k = leb-true 1024 (length i.names) q in omega arith

abbrev made_interface : (id rest : List ℕ) → List ℕ × List ℕ
made_interface id rest = (id, rest)

interface_by : (types : List Node) (i : Interfaces) (text id rest : List ℕ) (more : List Token)
    (a b : Bool) → list_any (bytes_eq id) i.names ≡ a → leb 1024 (length i.names) ≡ b
    → length id ≤ 128 → AreTokens rest more
    → IsMadeOrBreaksRule (made_interface id) (λ k. OfInterface k i id) types more
    (cond (not a && b) (Err (refused kinds.Limit text)) (Ok (id, rest)))
interface_by types i text id rest more true b p q short m =
    good rest m (interface_keeps i id short (inl p))
interface_by types i text id rest more false true p q short m =
    broken (refused kinds.Limit text) (inl (λ r. no_room i id p q r.1))
interface_by types i text id rest more false false p q short m =
    good rest m (interface_keeps i id short (inr (leb-false 1024 (length i.names) q)))

pub interface_reads : (types : List Node) (i : Interfaces) (text id : List ℕ) (more : List Token)
    → AreTokens text (repository id ∷ more)
    → IsMadeOrBreaksRule (made_interface id) (λ k. OfInterface k i id) types more (interface_at i
    text)
unfolding interface_at
interface_reads types i text id more h =
    let short = repository_few text (id, h.0) (repository_again text id more h) in
    rw (repository_again text id more h)
    (interface_by types i text id h.0 more (list_any (bytes_eq id) i.names)
    (leb 1024 (length i.names)) refl refl short h.2)

pub record TakenInterface (i : Interfaces) (text : List ℕ) (x : List ℕ × List ℕ) : Type 0 where
  pub short : length x.0 ≤ 128
  pub room : MayAddInterface i x.0
  pub front : TakesToken text (repository x.0) x.1

interface_taken_by : (i : Interfaces) (text : List ℕ) (y x : List ℕ × List ℕ) (a b : Bool)
    → list_any (bytes_eq y.0) i.names ≡ a → leb 1024 (length i.names) ≡ b
    → repository_at text ≡ Ok y
    → cond (not a && b) (Err (refused kinds.Limit text)) (Ok (y.0, y.1)) ≡ Ok x
    → TakenInterface i text x
interface_taken_by i text y x true b p q r e =
    subst (TakenInterface i text) (ok_is y x e) (record {
      short = repository_few text y r;
      room = inl p;
      front = repository_takes text y r;
    })
interface_taken_by i text y x false true p q r e = absurd cc
interface_taken_by i text y x false false p q r e =
    subst (TakenInterface i text) (ok_is y x e) (record {
      short = repository_few text y r;
      room = inr (leb-false 1024 (length i.names) q);
      front = repository_takes text y r;
    })

pub interface_takes : (i : Interfaces) (text : List ℕ) (x : List ℕ × List ℕ)
    → interface_at i text ≡ Ok x → TakenInterface i text x
unfolding interface_at
interface_takes i text x e =
    let y = bind_ok _ _ x e in
    interface_taken_by i text y.0 x (list_any (bytes_eq (y.0).0) i.names)
    (leb 1024 (length i.names)) refl refl y.1 y.2

-- ---- the interfaces in a list, as they are spelled

new_keeps : (t : Table) (key : List ℕ) → operation_number_of_key t key ≡ None → (k : FaultKind) →
    OfNewOperationKey k t key
new_keeps t key new kinds.Duplicate = new
new_keeps t key new _ = tt

-- the tokens after an interface and the comma after it
abbrev after_variant : (ids : List (List ℕ)) (more : List Token) → List Token
after_variant [] more = more
after_variant (id ∷ ids) more = repository id ∷ spell_more_interfaces ids more

abbrev is_last : (ids : List (List ℕ)) → Bool
is_last [] = true
is_last (id ∷ ids) = false

abbrev with_one : (operation : OperationStructs) (id : List ℕ) (scope : Scope) → Scope
with_one c id s = with_table_by (with_operation_in_interface c.name c.request c.reply id) s

abbrev made_variant : (operation : OperationStructs) (scope : Scope) (id : List ℕ)
    (ids : List (List ℕ))
    (rest : List ℕ) →
    Bool × InterfacesRead
made_variant c s id ids rest = (is_last ids, (with_one c id s, rest))

abbrev OfOneInterface : (kind : FaultKind) (operation : OperationStructs) (table : Table)
    (id : List ℕ) → Type 0
OfOneInterface k c t id = OfInterface k t.interfaces id × OfNewOperationKey k t
    (key_in_interface c t id)

new_by : (c : OperationStructs) (s : Scope) (text id rest : List ℕ) (more : List Token) (v : Bool)
    → is_some (operation_number_of_key s.table (key_in_interface c s.table id)) ≡ v
    → AreTokens rest more
    → ((k : FaultKind) → OfInterface k s.table.interfaces id)
    → IsMadeOrBreaksRule (made_interface id) (λ k. OfOneInterface k c s.table id) s.table.types more
    (cond v (Err (refused kinds.Duplicate text)) (Ok (id, rest)))
new_by c s text id rest more true e h keeps =
    broken (refused kinds.Duplicate text)
    (λ w. some_none (operation_number_of_key s.table (key_in_interface c s.table id)) e w.1)
new_by c s text id rest more false e h keeps = good rest h (λ k. (
  keeps k,
  new_keeps s.table (key_in_interface c s.table id)
      (none_of (operation_number_of_key s.table (key_in_interface c s.table id)) e) k,
))

new_reads : (c : OperationStructs) (s : Scope) (text id : List ℕ) (more : List Token)
    → AreTokens text (repository id ∷ more)
    → IsMadeOrBreaksRule (made_interface id) (λ k. OfOneInterface k c s.table id) s.table.types more
    (operation_interface_at c s.table text)
unfolding operation_interface_at
new_reads c s text id more h =
    out_bind (interface_at s.table.interfaces text)
    (λ i. cond (is_some (operation_number_of_key s.table (key_in_interface c s.table i.0)))
    (Err (refused kinds.Duplicate text)) (Ok (i.0, i.1)))
    (interface_reads s.table.types s.table.interfaces text id more h)
    (λ rest m keeps. new_by c s text id rest more
    (is_some (operation_number_of_key s.table (key_in_interface c s.table id))) refl m keeps)
    (λ k w. w.0) within_same

comma_reads : (c : OperationStructs) (s : Scope) (id : List ℕ) (ids : List (List ℕ))
    (text rest : List ℕ)
    (more : List Token) → BeginsWithoutMark marks.Comma more → AreTokens rest
    (spell_more_interfaces ids more)
    → ((k : FaultKind) → OfOneInterface k c s.table id)
    → IsMadeOrBreaksRule (made_variant c s id ids) (λ k. OfOneInterface k c s.table id)
    s.table.types
    (after_variant ids more) (mark_if marks.Comma rest >>= λ comma.
    Ok (interface_end c id (s, text) (after_comma rest comma)))
comma_reads c s id [] text rest more apart h keeps =
    rw (if_apart marks.Comma rest more apart h) (good rest h keeps)
comma_reads c s id (j ∷ js) text rest more apart h keeps =
    rw (mark_if_again marks.Comma rest (repository j ∷ spell_more_interfaces js more) h)
    (good h.0 h.2 keeps)

variant_reads : (c : OperationStructs) (s : Scope) (id : List ℕ) (ids : List (List ℕ))
    (text : List ℕ)
    (more : List Token) → BeginsWithoutMark marks.Comma more
    → AreTokens text (repository id ∷ spell_more_interfaces ids more)
    → IsMadeOrBreaksRule (made_variant c s id ids) (λ k. OfOneInterface k c s.table id)
    s.table.types
    (after_variant ids more) (interface_step c (s, text))
unfolding interface_step
variant_reads c s id ids text more apart h =
    out_bind (operation_interface_at c s.table text)
    (λ i. mark_if marks.Comma i.1
    >>= λ comma. Ok (interface_end c i.0 (s, text) (after_comma i.1 comma)))
    (new_reads c s text id (spell_more_interfaces ids more) h)
    (λ rest m keeps. comma_reads c s id ids text rest more apart m keeps)
    (λ k w. w) within_same

abbrev made_variants : (operation : OperationStructs) (scope : Scope) (ids : List (List ℕ))
    (rest : List ℕ)
    → InterfacesRead
made_variants c s ids rest =
    (with_table_by (with_operation_in_all c.name c.request c.reply ids) s, rest)

abbrev then_variants : (operation : OperationStructs) (n : ℕ) (x : Bool × InterfacesRead)
    → Result InterfacesRead TokenError
then_variants c n x =
    cond x.0 (Ok x.1) (in_steps (interface_step c) too_many_interfaces n x.1)

variants_reads : (ids : List (List ℕ)) (id : List ℕ) (n : ℕ) (c : OperationStructs) (s : Scope)
    (text : List ℕ) (more : List Token) → length ids < n → BeginsWithoutMark marks.Comma more
    → AreTokens text (repository id ∷ spell_more_interfaces ids more)
    → IsMadeOrBreaksRule (made_variants c s (id ∷ ids))
    (λ k. OfInterfaces k c.name c.request c.reply (id ∷ ids) s.table) s.table.types more
    (in_steps (interface_step c) too_many_interfaces n (s, text))
unfolding in_steps OfInterfaces
variants_reads ids id zero c s text more lt apart h = absurd (omega arith)
variants_reads [] id (suc n) c s text more lt apart h =
    out_bind (interface_step c (s, text)) (then_variants c n)
    (variant_reads c s id [] text more apart h)
    (λ rest m keeps. good rest m (λ k. ((keeps k).0, (keeps k).1, tt)))
    (λ k w. (w.0, w.1)) within_same
variants_reads (j ∷ js) id (suc n) c s text more lt apart h =
    out_bind (interface_step c (s, text)) (then_variants c n)
    (variant_reads c s id (j ∷ js) text more apart h)
    (λ rest m keeps. out_more
    (variants_reads js j n c (with_one c id s) rest more (omega arith) apart m)
    (λ k w. ((keeps k).0, (keeps k).1, w)) (λ k w. w.2))
    (λ k w. (w.0, w.1)) within_same

-- ---- an operation with a list of interfaces, or without

plain_reads : (c : OperationStructs) (s : Scope) (at text : List ℕ) (more : List Token) (v : Bool)
    → is_some (operation_number_of_key s.table (operation_key 0 c.name)) ≡ v → AreTokens text more
    → IsMadeOrBreaksRule {X = InterfacesRead}
    (λ rest. (with_table_by (with_keyed_operation 0 c.name c.request c.reply) s, rest))
    (λ k. OfNewOperationKey k s.table (operation_key 0 c.name)) s.table.types more
    (cond v (Err (refused kinds.Duplicate at))
    (Ok (with_table_by (with_keyed_operation 0 c.name c.request c.reply) s, text)))
plain_reads c s at text more true e h =
    broken (refused kinds.Duplicate at)
    (some_none (operation_number_of_key s.table (operation_key 0 c.name)) e)
plain_reads c s at text more false e h =
    good text h (new_keeps s.table (operation_key 0 c.name)
    (none_of (operation_number_of_key s.table (operation_key 0 c.name)) e))

not_of : (text : List ℕ) (more : List Token) → AreTokens text (mark marks.Semicolon ∷ more)
    → keyword_if (codes "of") text ≡ Ok None
not_of text more h =
    if_other (is_the_word (codes "of")) text (mark marks.Semicolon) more h refl

none_by : (c : OperationStructs) (s : Scope) (at text : List ℕ) (more : List Token) (v : Bool)
    → is_version_3 s.names ≡ v → AreTokens text (mark marks.Semicolon ∷ more)
    → IsMadeOrBreaksRule {X = InterfacesRead}
    (λ rest. (with_table_by (with_keyed_operation 0 c.name c.request c.reply) s, rest))
    (λ k. OfNewOperationKey k s.table (operation_key 0 c.name)) s.table.types
    (mark marks.Semicolon ∷ more)
    (cond v (keyword_if (codes "of") text >>= interfaces_after_of at c (s, text))
    (without_interfaces_at at c (s, text)))
none_by c s at text more true e h =
    rw (not_of text more h)
    (plain_reads c s at text (mark marks.Semicolon ∷ more)
    (is_some (operation_number_of_key s.table (operation_key 0 c.name))) refl h)
none_by c s at text more false e h =
    plain_reads c s at text (mark marks.Semicolon ∷ more)
    (is_some (operation_number_of_key s.table (operation_key 0 c.name))) refl h

interfaces_few : (ids : List (List ℕ)) (more : List Token)
    → length ids ≤ length (spell_more_interfaces ids more)
interfaces_few [] more = omega arith
interfaces_few (id ∷ ids) more = omega (arith, interfaces_few ids more)

pub listed_reads : (ids : List (List ℕ)) (c : OperationStructs) (s : Scope) (at text : List ℕ)
    (more : List Token) → OfInterfaceList kinds.Syntax s.names c.name c.request c.reply ids s.table
    → AreTokens text (spell_interfaces ids (mark marks.Semicolon ∷ more))
    → IsMadeOrBreaksRule {X = InterfacesRead}
    (λ rest. (with_table_by (with_operation_in_list c.name c.request c.reply ids) s, rest))
    (λ k. OfInterfaceList k s.names c.name c.request c.reply ids s.table) s.table.types
    (mark marks.Semicolon ∷ more) (optional_interfaces_at at c (s, text))
unfolding optional_interfaces_at
listed_reads [] c s at text more free h =
    none_by c s at text more (is_version_3 s.names) refl h
listed_reads (id ∷ ids) c s at text more free h =
    let tail = spell_more_interfaces ids (mark marks.Semicolon ∷ more) in
    let few = tokens_few (repository id ∷ tail) h.0 h.2 in
    rw (free.0, keyword_if_again (codes "of") text (repository id ∷ tail) h)
    (out_more (variants_reads ids id (length h.0) c s h.0 (mark marks.Semicolon ∷ more)
    (omega (arith, few, interfaces_few ids (mark marks.Semicolon ∷ more))) refl h.2)
    (λ k w. (third_keeps s.names free.0 k, w)) (λ k w. w.1))

-- ---- the interfaces of a text that was read

pub record TakenVariants (c : OperationStructs) (text : List ℕ) (s : Scope)
    (x : InterfacesRead) : Type 0 where
  pub first : List ℕ
  pub others : List (List ℕ)
  pub front : (more : List Token) → AreTokens x.1 more
      → AreTokens text (repository first ∷ spell_more_interfaces others more)

comma_takes : (c : OperationStructs) (n : ℕ) (s : Scope) (text : List ℕ) (id : List ℕ × List ℕ)
    (o : Option (List ℕ)) (x : InterfacesRead) → TakesToken text (repository id.0) id.1
    → mark_if marks.Comma id.1 ≡ Ok o
    → then_variants c n (interface_end c id.0 (s, text) (after_comma id.1 o)) ≡ Ok x
    → ((s : Scope) (text : List ℕ)
    → in_steps (interface_step c) too_many_interfaces n (s, text) ≡ Ok x → TakenVariants c text s x)
    → TakenVariants c text s x
comma_takes c n s text id None x t h run on =
    subst (TakenVariants c text s) (ok_is (with_one c id.0 s, id.1) x run) (record {
      first = id.0;
      others = [];
      front = t;
    })
comma_takes c n s text id (Some r) x t h run on =
    let k = on (with_one c id.0 s) r run in
    record {
      first = id.0;
      others = k.first ∷ k.others;
      front = λ more h2. t (spell_more_interfaces (k.first ∷ k.others) more)
          (mark_if_takes marks.Comma id.1 r h
          (repository k.first ∷ spell_more_interfaces k.others more) (k.front more h2));
    }

-- what the code finds
pub new_variant_is : (c : OperationStructs) (t : Table) (text id rest : List ℕ) (v : Bool)
    → interface_at t.interfaces text ≡ Ok (id, rest)
    → is_some (operation_number_of_key t (key_in_interface c t id)) ≡ v
    → operation_interface_at c t text ≡ cond v (Err (refused kinds.Duplicate text)) (Ok (id, rest))
unfolding operation_interface_at
new_variant_is c t text id rest v e known = rw (e, known) refl

-- a new operation in an interface
pub record TakenVariant (c : OperationStructs) (t : Table) (text : List ℕ)
    (x : List ℕ × List ℕ) : Type 0
  where
    pub interface : TakenInterface t.interfaces text x
    pub new : operation_number_of_key t (key_in_interface c t x.0) ≡ None

new_taken_by : (c : OperationStructs) (t : Table) (text : List ℕ) (id x : List ℕ × List ℕ)
    (v : Bool)
    → is_some (operation_number_of_key t (key_in_interface c t id.0)) ≡ v
    → TakenInterface t.interfaces text id
    → cond v (Err (refused kinds.Duplicate text)) (Ok (id.0, id.1)) ≡ Ok x
    → TakenVariant c t text x
new_taken_by c t text id x true e a is = absurd cc
new_taken_by c t text id x false e a is =
    subst (TakenVariant c t text) (ok_is id x is) (record {
      interface = a;
      new = none_of (operation_number_of_key t (key_in_interface c t id.0)) e;
    })

pub new_variant_takes : (c : OperationStructs) (t : Table) (text : List ℕ) (x : List ℕ × List ℕ)
    → operation_interface_at c t text ≡ Ok x → TakenVariant c t text x
unfolding operation_interface_at
new_variant_takes c t text x e =
    let id = bind_ok {A = List ℕ × List ℕ} _ _ x e in
    new_taken_by c t text id.0 x (is_some (operation_number_of_key t
    (key_in_interface c t (id.0).0))) refl
    (interface_takes t.interfaces text id.0 id.1) id.2

variants_take : (n : ℕ) (c : OperationStructs) (s : Scope) (text : List ℕ) (x : InterfacesRead)
    → in_steps (interface_step c) too_many_interfaces n (s, text) ≡ Ok x → TakenVariants c text s x
unfolding in_steps interface_step
variants_take zero c s text x e = absurd cc
variants_take (suc n) c s text x e =
    let m = bind_ok (interface_step c (s, text)) (then_variants c n) x e in
    let id = bind_ok {A = List ℕ × List ℕ} _ _ m.0 m.1 in
    let o = bind_ok (mark_if marks.Comma (id.0).1)
    (λ comma. Ok (interface_end c (id.0).0 (s, text) (after_comma (id.0).1 comma))) m.0 id.2 in
    comma_takes c n s text id.0 o.0 x
    (new_variant_takes c s.table text id.0 id.1).interface.front o.1
    (ap (then_variants c n)
    (ok_is (interface_end c (id.0).0 (s, text) (after_comma (id.0).1 o.0)) m.0 o.2) ∙ m.2)
    (λ s text run. variants_take n c s text x run)

-- only files of version 3 have such a list
abbrev pub IsAllowedList : (names : Names) (ids : List (List ℕ)) → Type 0
IsAllowedList names [] = Unit {0}
IsAllowedList names (id ∷ ids) = is_version_3 names ≡ true

pub record TakenInterfaceList (names : Names) (text : List ℕ) (x : InterfacesRead) : Type 0 where
  pub ids : List (List ℕ)
  pub took : SpellsUpTo (spell_interfaces ids) (IsAllowedList names ids) text x.1

plain_taken : (c : OperationStructs) (s : Scope) (at text : List ℕ) (v : Bool) (x : InterfacesRead)
    → cond v (Err (refused kinds.Duplicate at))
    (Ok (with_table_by (with_keyed_operation 0 c.name c.request c.reply) s, text)) ≡ Ok x
    → TakenInterfaceList s.names text x
plain_taken c s at text true x e = absurd cc
plain_taken c s at text false x e =
    subst (TakenInterfaceList s.names text)
    (ok_is (with_table_by (with_keyed_operation 0 c.name c.request c.reply) s, text) x e) (record {
      ids = [];
      took = record { free = tt; front = λ more m. m };
    })

listed_taken_by : (c : OperationStructs) (s : Scope) (at text : List ℕ) (o : Option (List ℕ))
    (x : InterfacesRead)
    → is_version_3 s.names ≡ true → keyword_if (codes "of") text ≡ Ok o
    → interfaces_after_of at c (s, text) o ≡ Ok x → TakenInterfaceList s.names text x
listed_taken_by c s at text None x third h e =
    plain_taken c s at text (is_some (operation_number_of_key s.table (operation_key 0 c.name))) x e
listed_taken_by c s at text (Some r) x third h e =
    let k = variants_take (length r) c s r x e in
    record {
      ids = k.first ∷ k.others;
      took = record {
        free = third;
        front = λ more m. keyword_if_takes (codes "of") text r h
            (repository k.first ∷ spell_more_interfaces k.others more) (k.front more m);
      };
    }

listed_by_third : (c : OperationStructs) (s : Scope) (at text : List ℕ) (v : Bool)
    (x : InterfacesRead)
    → is_version_3 s.names ≡ v
    → cond v (keyword_if (codes "of") text >>= interfaces_after_of at c (s, text))
    (without_interfaces_at at c (s, text))
    ≡ Ok x → TakenInterfaceList s.names text x
listed_by_third c s at text true x third e =
    let o = bind_ok (keyword_if (codes "of") text) (interfaces_after_of at c (s, text)) x e in
    listed_taken_by c s at text o.0 x third o.1 o.2
listed_by_third c s at text false x third e =
    plain_taken c s at text (is_some (operation_number_of_key s.table (operation_key 0 c.name))) x e

pub listed_takes : (c : OperationStructs) (s : Scope) (at text : List ℕ) (x : InterfacesRead)
    → optional_interfaces_at at c (s, text) ≡ Ok x → TakenInterfaceList s.names text x
unfolding optional_interfaces_at
listed_takes c s at text x e = listed_by_third c s at text (is_version_3 s.names) x refl e

variants_free : (w : List ℕ) (request reply : ℕ) (ids : List (List ℕ)) (t : Table)
    → OfInterfaces kinds.Syntax w request reply ids t
unfolding OfInterfaces
variants_free w request reply [] t = tt
variants_free w request reply (id ∷ ids) t =
    (tt, tt, variants_free w request reply ids (with_operation_in_interface w request reply id t))

-- a list that is allowed keeps the rule about words
pub list_free : (names : Names) (w : List ℕ) (request reply : ℕ) (ids : List (List ℕ)) (t : Table)
    → IsAllowedList names ids → OfInterfaceList kinds.Syntax names w request reply ids t
list_free names w request reply [] t allowed = tt
list_free names w request reply (id ∷ ids) t allowed =
    (allowed, variants_free w request reply (id ∷ ids) t)

-- ---- the KEY of a text that was read

pub record TakenKey (s : Scope) (text : List ℕ) (x : List ℕ × List ℕ) : Type 0 where
  pub is : is_key x.0 ≡ true
  pub short : length x.0 ≤ 128
  pub new : of_text s.table.interfaces x.0 ≡ None
  pub front : TakesToken text (repository x.0) x.1

new_key_by : (s : Scope) (text : List ℕ) (y x : List ℕ × List ℕ) (v : Bool) → is_key y.0 ≡ v
    → repository_at text ≡ Ok y
    → cond (not v) (Err (misplaced text)) (name_if_unused (is_some (of_text s.table.interfaces y.0))
    (leb 16384 (length s.table.interfaces.keys)) text y) ≡ Ok x → TakenKey s text x
new_key_by s text y x true is r e =
    let u = unused_is (is_some (of_text s.table.interfaces y.0))
    (leb 16384 (length s.table.interfaces.keys)) text y x e in
    subst (TakenKey s text) u.0 (record {
      is = is;
      short = repository_few text y r;
      new = none_of (of_text s.table.interfaces y.0) u.1;
      front = repository_takes text y r;
    })
new_key_by s text y x false is r e = absurd cc

pub new_key_takes : (s : Scope) (text : List ℕ) (x : List ℕ × List ℕ) → new_key_at s text ≡ Ok x
    → TakenKey s text x
unfolding new_key_at
new_key_takes s text x e =
    let y = bind_ok _ _ x e in
    new_key_by s text y.0 x (is_key (y.0).0) refl y.1 y.2
