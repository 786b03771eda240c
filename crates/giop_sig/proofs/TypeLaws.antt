-- Reading the spelling of a type gives it, or a rule that it breaks.
use Rattle.std.proofs.Common.{◌≡◌, ℕ, zero, suc, ◌<◌, ◌≤◌, Bool, true, false, cond, ◌&&◌, ltb, List, ◌∷◌, length, Option, Some, None, Ok, Err, refl, subst, inl, arith}
use Rattle.std.specs.Prelude.{codes}
use Rattle.std.specs.Str.{bytes_eq}
use Rattle.std.proofs.lemmas.Slice.Eq.{bytes_eq-Decides}
use Rattle.std.proofs.lemmas.Bool.{ltb-true, ltb-false, false≢true}
use Rattle.giop_cdr.specs.declared.prim.Primitive.{Primitive}
use Rattle.giop_cdr.specs.declared.prim.Primitive.TheVariants as prims
use Rattle.giop_tokens.specs.declared.fault.SigFaultKind.TheVariants as kinds
use Rattle.giop_tokens.specs.declared.marks.Mark.TheVariants as marks
use Rattle.giop_tokens.specs.Tokens.{Token, word, mark, AreTokens}
use Rattle.giop_tokens.specs.Reading.{◌>>=◌}
use Rattle.giop_tokens.specs.Readers.{word_at, mark_at}
use Rattle.giop_tokens.specs.Names.{is_reserved}
use Rattle.giop_tokens.proofs.ReaderLaws.{word_again, mark_again}
use Rattle.giop_sig.specs.Grammar.{TypeExpr, Base, Text, Reference, AnyType, CodeType, WideChar, WideText, Named, SequenceOf, EncapsulationOf, base_word, spell_bound, spell_most, spell_type}
use Rattle.giop_sig.specs.Scopes.{Names, Announced, announced_as, declared_or_announced, type_named, has_encapsulations, is_version_3, Scope, named, base_number, number_or_0, sequence_node, add_text_type, add_sequence_type, add_type}
use Rattle.giop_sig.specs.Validity.{FaultKind, IsNotReserved, OfTypeName, OfVersion2, OfVersion3, OfType}
use Rattle.giop_sig.specs.Outcomes.{refused}
use Rattle.giop_sig.specs.declared.numbers.TheConstants.{WIDE_STRING}
use Rattle.giop_sig.specs.declared.read_types.Opener.TheVariants as openers
use Rattle.giop_sig.specs.TypeReading.{enclosed_size_at, comma_size_at, TypeRead, primitive_of_word, read_as, text_at, wide_text_at, opener_closed, type_if_found, named_type, leaf_after, leaf_at, opener_at, type_nested_at, type_at}
use Rattle.giop_sig.proofs.AddTypeLaws.{within_same, HasNoFewerTypes, node_more}
use Rattle.giop_sig.proofs.SizeReads.{enclosed_reads, most_reads}
use Rattle.giop_sig.proofs.TokensFew.{tokens_few}
use Rattle.giop_sig.proofs.TypeTaken.{some_is}
use Rattle.giop_sig.proofs.ReadingLaws.{IsMadeOrBreaksRule, good, broken, out_bind, BeginsWithoutMark}

-- ---- the word of a type

not_by : (third : Bool) (w v : List ℕ) (b : Bool) → bytes_eq w v ≡ b
    → is_reserved third w ≡ false → is_reserved third v ≡ true → bytes_eq w v ≡ false
not_by third w v true e free reserved = search (arith, false≢true, bytes_eq-Decides)
not_by third w v false e free reserved = e

-- a free name isn't a reserved word
pub is_not : (third : Bool) (w v : List ℕ) → is_reserved third w ≡ false
    → is_reserved third v ≡ true → bytes_eq w v ≡ false
is_not third w v free reserved = search (arith, not_by)

no_base : (third : Bool) (w : List ℕ) → is_reserved third w ≡ false → primitive_of_word w ≡ None
unfolding is_reserved
no_base third w free = search (arith, is_not)

-- a word that is reserved in version 3 is no free name there
no_later : (third : Bool) (w v : List ℕ) → is_reserved third w ≡ false
    → is_reserved true v ≡ true → (third && bytes_eq w v) ≡ false
no_later true w v free reserved = is_not true w v free reserved
no_later false w v free reserved = refl

base_word_of : (p : Primitive) → primitive_of_word (base_word p) ≡ Some (base_number p)
base_word_of prims.Octet = refl
base_word_of _ = refl

no_sequence : (p : Primitive) → bytes_eq (base_word p) (codes "sequence") ≡ false
no_sequence prims.Octet = refl
no_sequence _ = refl

no_encapsulation : (p : Primitive) → bytes_eq (base_word p) (codes "encapsulation") ≡ false
no_encapsulation prims.Octet = refl
no_encapsulation _ = refl

-- ---- types

abbrev pub type_added_and_rest : (scope : Scope) (type : TypeExpr) (rest : List ℕ) → TypeRead
type_added_and_rest s e rest = ((add_type s e).0, (add_type s e).1, rest)

-- a type whose first word begins no type with another one in it
leaf_first : (left : ℕ) (element : Bool) (s : Scope) (text w rest : List ℕ)
    → word_at text ≡ Ok (w, rest)
    → bytes_eq w (codes "sequence") ≡ false → bytes_eq w (codes "encapsulation") ≡ false
    → type_nested_at (suc left) element s text ≡ leaf_after element s text w rest
    (primitive_of_word w)
unfolding type_nested_at opener_at leaf_at
leaf_first left element s text w rest e p q = rw (e) (rw (p, q) (rw (e) refl))

base_reads : (left : ℕ) (element : Bool) (s : Scope) (p : Primitive) (text : List ℕ)
    (more : List Token) → AreTokens text (word (base_word p) ∷ more)
    → IsMadeOrBreaksRule (type_added_and_rest s (Base p)) (λ k. OfType k element s.names (Base p))
    (add_type s (Base p)).0.table.types more (type_nested_at (suc left) element s text)
unfolding OfType add_type
base_reads left element s p text more h =
    rw (
      leaf_first left element s text (base_word p) h.0 (word_again text (base_word p) more h)
          (no_sequence p) (no_encapsulation p),
      base_word_of p,
    ) (good h.0 h.2 (λ k. tt))

text_more : (s : Scope) (o : Option ℕ) → HasNoFewerTypes s (add_text_type s o).0
text_more s None = within_same
text_more s (Some n) = search (arith, node_more)

text_reads : (element : Bool) (s : Scope) (o : Option ℕ) (rest : List ℕ) (more : List Token)
    → BeginsWithoutMark marks.OpenAngle more → AreTokens rest (spell_bound o more)
    → IsMadeOrBreaksRule (type_added_and_rest s (Text o)) (λ k. OfType k element s.names (Text o))
    (add_type s (Text o)).0.table.types more (text_at s rest)
unfolding text_at OfType add_type
text_reads element s o rest more apart h =
    out_bind (enclosed_size_at marks.OpenAngle marks.CloseAngle rest)
    (λ b. Ok (read_as (add_text_type s b.0) b.1))
    (enclosed_reads s.table.types marks.OpenAngle marks.CloseAngle rest o more apart h)
    (λ r m keeps. good r m keeps) (λ k w. w) (text_more s o)

pub third_keeps : (names : Names) → is_version_3 names ≡ true → (k : FaultKind) → OfVersion3 k names
third_keeps names third kinds.Syntax = third
third_keeps names third _ = tt

wide_text_reads : (element : Bool) (s : Scope) (o : Option ℕ) (rest : List ℕ) (more : List Token)
    → is_version_3 s.names ≡ true → BeginsWithoutMark marks.OpenAngle more → AreTokens rest
    (spell_bound o more)
    → IsMadeOrBreaksRule (type_added_and_rest s (WideText o))
    (λ k. OfType k element s.names (WideText o))
    (add_type s (WideText o)).0.table.types more (wide_text_at s rest)
unfolding wide_text_at OfType add_type
wide_text_reads element s o rest more third apart h =
    out_bind {Y = TypeRead} (enclosed_size_at marks.OpenAngle marks.CloseAngle rest)
    (λ b. Ok (s, WIDE_STRING, b.1))
    (enclosed_reads s.table.types marks.OpenAngle marks.CloseAngle rest o more apart h)
    (λ r m keeps. good r m (λ k. (third_keeps s.names third k, keeps k))) (λ k w. w.1) within_same

named_keeps : (element : Bool) (names : Names) (w : List ℕ) (i : ℕ) → IsNotReserved
    (is_version_3 names) w
    → length w ≤ 64 → type_named element names w ≡ Some i → (k : FaultKind)
    → OfTypeName k element names w
named_keeps element names w i free short is kinds.Syntax = free
named_keeps element names w i free short is kinds.UnknownType = (i, is)
named_keeps element names w i free short is kinds.Limit = short
named_keeps element names w i free short is _ = tt

not_found : (element : Bool) (names : Names) (w : List ℕ) → type_named element names w ≡ None
    → (i : ℕ) × (type_named element names w ≡ Some i) → ⊥
not_found element names w e h = search (arith)

-- the same type is found if names that are only announced may be found, too
found_same : (element : Bool) (o : Option ℕ) (a : Option Announced) (i : ℕ)
    → declared_or_announced element o a ≡ Some i → number_or_0 (declared_or_announced true o a) ≡ i
found_same element (Some n) a i e = some_is n i e
found_same true None (Some a) i e = some_is a.type i e
found_same true None None i e = absurd cc
found_same false None a i e = absurd cc

abbrev found_number : (scope : Scope) (w rest : List ℕ) → TypeRead
found_number s w rest = (s, number_or_0 (type_named true s.names w), rest)

found_reads : (element : Bool) (s : Scope) (text w rest : List ℕ) (more : List Token)
    (o : Option ℕ) → type_named element s.names w ≡ o → IsNotReserved (is_version_3 s.names) w
    → length w ≤ 64 → AreTokens rest more
    → IsMadeOrBreaksRule (found_number s w) (λ k. OfTypeName k element s.names w)
    s.table.types more (type_if_found s text rest o)
found_reads element s text w rest more None e free short m =
    broken (refused kinds.UnknownType text) (not_found element s.names w e)
found_reads element s text w rest more (Some i) e free short m =
    subst (λ n. IsMadeOrBreaksRule (found_number s w)
    (λ k. OfTypeName k element s.names w) s.table.types more
    (Ok (s, n, rest)))
    (found_same element (named s.names w) (announced_as s.names w) i e)
    (good rest m (named_keeps element s.names w i free short e))

long_reads : (element : Bool) (s : Scope) (text w rest : List ℕ) (more : List Token) (v : Bool)
    → ltb 64 (length w) ≡ v → IsNotReserved (is_version_3 s.names) w → AreTokens rest more
    → IsMadeOrBreaksRule (found_number s w) (λ k. OfTypeName k element s.names w) s.table.types more
    (cond v (Err (refused kinds.Limit text))
    (type_if_found s text rest (type_named element s.names w)))
long_reads element s text w rest more true e free m =
    let long = ltb-true 64 (length w) e in
    broken (refused kinds.Limit text) (inl (λ short. absurd (omega (arith, long, short))))
long_reads element s text w rest more false e free m =
    found_reads element s text w rest more (type_named element s.names w) refl free
    (ltb-false 64 (length w) e) m

named_reads : (element : Bool) (s : Scope) (text w rest : List ℕ) (more : List Token)
    → IsNotReserved (is_version_3 s.names) w → AreTokens rest more
    → IsMadeOrBreaksRule (type_added_and_rest s (Named w)) (λ k. OfType k element s.names (Named w))
    (add_type s (Named w)).0.table.types more (named_type element s text w rest)
unfolding named_type OfType add_type
named_reads element s text w rest more free m =
    rw free (long_reads element s text w rest more (ltb 64 (length w)) refl free m)

name_reads : (left : ℕ) (element : Bool) (s : Scope) (w text : List ℕ) (more : List Token)
    → IsNotReserved (is_version_3 s.names) w → AreTokens text (word w ∷ more)
    → IsMadeOrBreaksRule (type_added_and_rest s (Named w)) (λ k. OfType k element s.names (Named w))
    (add_type s (Named w)).0.table.types more (type_nested_at (suc left) element s text)
unfolding is_reserved
name_reads left element s w text more free h =
    let third = is_version_3 s.names in
    rw (
      leaf_first left element s text w h.0 (word_again text w more h)
          (is_not third w (codes "sequence") free refl)
          (is_not third w (codes "encapsulation") free refl),
      no_base third w free,
      is_not third w (codes "string") free refl,
      is_not third w (codes "Object") free refl,
      no_later third w (codes "any") free refl,
      no_later third w (codes "TypeCode") free refl,
      no_later third w (codes "wchar") free refl,
      no_later third w (codes "wstring") free refl,
    ) (named_reads element s text w h.0 more free h.2)

-- what closes a sequence, after the type of its elements
closed_reads : (element : Bool) (s : Scope) (e : TypeExpr) (o : Option ℕ) (rest : List ℕ)
    (more : List Token) → AreTokens rest (spell_most o (mark marks.CloseAngle ∷ more))
    → ((k : FaultKind) → OfType k true s.names e)
    → (apart : BeginsWithoutMark marks.Comma (mark marks.CloseAngle ∷ more))
    → IsMadeOrBreaksRule (type_added_and_rest s (SequenceOf e o))
    (λ k. OfType k element s.names (SequenceOf e o))
    (add_type s (SequenceOf e o)).0.table.types more
    (opener_closed openers.Sequence (type_added_and_rest s e rest))
unfolding OfType add_type opener_closed
closed_reads element s e o rest more m keeps apart =
    out_bind (comma_size_at rest) (λ b. mark_at marks.CloseAngle b.1 >>= λ r.
    Ok (read_as (add_sequence_type b.0 (add_type s e)) r))
    (most_reads (add_type s e).0.table.types rest o (mark marks.CloseAngle ∷ more) apart m)
    (λ r n bound. rw (mark_again marks.CloseAngle r more n)
    (good n.0 n.2 (λ k. (keeps k, bound k))))
    (λ k w. w.1) (node_more (add_type s e).0
    (sequence_node ((add_type s e).0).table.types o (add_type s e).1))

version_keeps : (names : Names) → has_encapsulations names ≡ true → (k : FaultKind) →
    OfVersion2 k names
version_keeps names has kinds.Syntax = has
version_keeps names has _ = tt

-- what closes an encapsulation, after the type in it
held_reads : (element : Bool) (s : Scope) (e : TypeExpr) (rest : List ℕ) (more : List Token)
    → has_encapsulations s.names ≡ true → AreTokens rest (mark marks.CloseAngle ∷ more)
    → ((k : FaultKind) → OfType k false s.names e)
    → IsMadeOrBreaksRule (type_added_and_rest s (EncapsulationOf e))
    (λ k. OfType k element s.names (EncapsulationOf e))
    (add_type s (EncapsulationOf e)).0.table.types more
    (opener_closed openers.Encapsulation (type_added_and_rest s e rest))
unfolding OfType add_type opener_closed
held_reads element s e rest more has m keeps =
    rw (mark_again marks.CloseAngle rest more m)
    (good m.0 m.2 (λ k. (version_keeps s.names has k, keeps k)))

sequence_more : (s : Scope) (e : TypeExpr) (o : Option ℕ)
    → HasNoFewerTypes (add_type s e).0 (add_type s (SequenceOf e o)).0
unfolding add_type
sequence_more s e o = search (arith, node_more)

held_more : (s : Scope) (e : TypeExpr) → HasNoFewerTypes (add_type s e).0
    (add_type s (EncapsulationOf e)).0
unfolding add_type
held_more s e = search (arith, node_more)

most_apart : (o : Option ℕ) (more : List Token)
    → BeginsWithoutMark marks.OpenAngle (spell_most o (mark marks.CloseAngle ∷ more))
most_apart None more = refl
most_apart (Some n) more = refl

-- how many types an expression has around its leaf
abbrev nesting_depth : (type : TypeExpr) → ℕ
nesting_depth (SequenceOf e bound) = suc (nesting_depth e)
nesting_depth (EncapsulationOf e) = suc (nesting_depth e)
nesting_depth _ = 0

nest_few : (e : TypeExpr) (more : List Token) → nesting_depth e < length (spell_type e more)
nest_few (SequenceOf e bound) more =
    omega (arith, nest_few e (spell_most bound (mark marks.CloseAngle ∷ more)))
nest_few (EncapsulationOf e) more = omega (arith, nest_few e (mark marks.CloseAngle ∷ more))
nest_few _ more = omega arith

nested_reads : (left : ℕ) (element : Bool) (s : Scope) (e : TypeExpr) (text : List ℕ)
    (more : List Token)
    → nesting_depth e < left → OfType kinds.Syntax element s.names e
    → BeginsWithoutMark marks.OpenAngle more
    → AreTokens text (spell_type e more)
    → IsMadeOrBreaksRule (type_added_and_rest s e) (λ k. OfType k element s.names e)
    (add_type s e).0.table.types more
    (type_nested_at left element s text)
unfolding type_nested_at opener_at leaf_at OfType add_type
nested_reads zero element s e text more lt free apart h = absurd (omega arith)
nested_reads (suc left) element s (Base p) text more lt free apart h =
    base_reads left element s p text more h
nested_reads (suc left) element s (Text o) text more lt free apart h =
    rw (leaf_first left element s text (codes "string") h.0
    (word_again text (codes "string") (spell_bound o more) h) refl refl)
    (text_reads element s o h.0 more apart h.2)
nested_reads (suc left) element s Reference text more lt free apart h =
    rw (leaf_first left element s text (codes "Object") h.0
    (word_again text (codes "Object") more h) refl refl)
    (good h.0 h.2 (λ k. tt))
nested_reads (suc left) element s AnyType text more lt free apart h =
    rw (
      leaf_first left element s text (codes "any") h.0
          (word_again text (codes "any") more h) refl refl,
      free,
    )
    (good h.0 h.2 (λ k. third_keeps s.names free k))
nested_reads (suc left) element s CodeType text more lt free apart h =
    rw (
      leaf_first left element s text (codes "TypeCode") h.0
          (word_again text (codes "TypeCode") more h) refl refl,
      free,
    )
    (good h.0 h.2 (λ k. third_keeps s.names free k))
nested_reads (suc left) element s WideChar text more lt free apart h =
    rw (
      leaf_first left element s text (codes "wchar") h.0
          (word_again text (codes "wchar") more h) refl refl,
      free,
    )
    (good h.0 h.2 (λ k. third_keeps s.names free k))
nested_reads (suc left) element s (WideText o) text more lt free apart h =
    rw (
      leaf_first left element s text (codes "wstring") h.0
          (word_again text (codes "wstring") (spell_bound o more) h) refl refl,
      free.0,
    )
    (wide_text_reads element s o h.0 more free.0 apart h.2)
nested_reads (suc left) element s (Named w) text more lt free apart h =
    name_reads left element s w text more free h
nested_reads (suc left) element s (SequenceOf e o) text more lt free apart h =
    let tail = spell_most o (mark marks.CloseAngle ∷ more) in
    rw (
      word_again text (codes "sequence") (mark marks.OpenAngle ∷ spell_type e tail) h,
      mark_again marks.OpenAngle h.0 (spell_type e tail) h.2,
    )
    (out_bind (type_nested_at left true s (h.2).0) (opener_closed openers.Sequence)
    (nested_reads left true s e (h.2).0 tail (omega arith) free.0 (most_apart o more) (h.2).2)
    (λ rest m keeps. closed_reads element s e o rest more m keeps refl) (λ k w. w.0)
    (sequence_more s e o))
nested_reads (suc left) element s (EncapsulationOf e) text more lt free apart h =
    let tail = mark marks.CloseAngle ∷ more in
    rw (
      word_again text (codes "encapsulation") (mark marks.OpenAngle ∷ spell_type e tail) h,
      free.0,
      mark_again marks.OpenAngle h.0 (spell_type e tail) h.2,
    )
    (out_bind (type_nested_at left false s (h.2).0) (opener_closed openers.Encapsulation)
    (nested_reads left false s e (h.2).0 tail (omega arith) free.1 refl (h.2).2)
    (λ rest m keeps. held_reads element s e rest more free.0 m keeps) (λ k w. w.1) (held_more s e))

-- what reading gives for a text that begins with a type
pub type_reads : (s : Scope) (e : TypeExpr) (text : List ℕ) (more : List Token)
    → OfType kinds.Syntax false s.names e → BeginsWithoutMark marks.OpenAngle more
    → AreTokens text (spell_type e more)
    → IsMadeOrBreaksRule (type_added_and_rest s e) (λ k. OfType k false s.names e)
    (add_type s e).0.table.types
    more (type_at s text)
type_reads s e text more free apart h =
    nested_reads (length text) false s e text more
    (omega (arith, nest_few e more, tokens_few (spell_type e more) text h)) free apart h
