-- A type that was read: the text that was read spells it, and other types may have it as a part.
use Rattle.std.proofs.Common.{◌≡◌, ℕ, zero, suc, ◌<◌, Bool, true, false, cond, ◌&&◌, eqb, ltb, List, [], ◌∷◌, ◌++◌, length, Option, Some, None, Result, Ok, Err, append_assoc, refl, sym, subst, ◌∙◌, inl, inr, lit<, arith}
use Rattle.std.specs.Prelude.{codes}
use Rattle.std.specs.List.{AllByRecursion}
use Rattle.std.specs.Map.{lookup}
use Rattle.std.specs.Str.{bytes_eq}
use Rattle.std.proofs.lemmas.List.{length-append, append-nil}
use Rattle.std.proofs.Math.Seq.{get_or-append_seam}
use Rattle.std.proofs.lemmas.Slice.Eq.{bytes_eq-Decides}
use Rattle.giop_cdr.specs.declared.prim.Primitive.{Primitive}
use Rattle.giop_cdr.specs.declared.prim.Primitive.TheVariants as prims
use Rattle.giop_cdr.specs.declared.prim.Primitive.TheVariants.{Octet}
use Rattle.giop_tokens.specs.declared.fault.TokenError.{TokenError}
use Rattle.giop_tokens.specs.declared.fault.SigFaultKind.TheVariants as kinds
use Rattle.giop_tokens.specs.declared.marks.Mark.TheVariants as marks
use Rattle.giop_sig.specs.declared.numbers.TheConstants.{IOR, TYPE_CODE, ANY, STRING, WIDE_CHAR, WIDE_STRING, CONTEXT_ID, THIRD_LEN}
use Rattle.giop_tokens.specs.Tokens.{Token, word, mark, AreTokens}
use Rattle.giop_tokens.specs.Readers.{misplaced, word_at, mark_at}
use Rattle.giop_tokens.specs.Reading.{◌>>=◌}
use Rattle.giop_tokens.specs.Names.{is_reserved}
use Rattle.giop_tokens.proofs.ReaderLaws.{bind_ok, ok_is, TakesToken, word_takes, mark_takes}
use Rattle.giop_sig.specs.Table.{Node, node_in, TakesOctet}
use Rattle.giop_sig.specs.Table as nodes
use Rattle.giop_sig.specs.AnyTypes.{first_types}
use Rattle.giop_sig.specs.RequestList.{option_flatten}
use Rattle.giop_sig.specs.Grammar.{TypeExpr, Base, Text, Reference, AnyType, CodeType, WideChar, WideText, Named, SequenceOf, EncapsulationOf, base_word, spell_most, spell_type}
use Rattle.giop_sig.specs.declared.read_types.Opener.{Opener}
use Rattle.giop_sig.specs.declared.read_types.Opener.TheVariants as openers
use Rattle.giop_sig.specs.Scopes.{Names, Announced, announced_as, announced_index, declared_or_announced, sequence_by, type_named, has_encapsulations, is_version_3, Scope, AddedType, named, base_number, with_node, sequence_node, add_text_type, add_sequence_type, add_encapsulation_type, reference_number}
use Rattle.giop_sig.specs.Validity.{OfType}
use Rattle.giop_sig.specs.ScopeViews.{CanBeInner, IsAnnounced, IsAnnouncedName, IsKnown, IsDeclaredName, IsScope}
use Rattle.giop_sig.specs.Outcomes.{refused}
use Rattle.giop_sig.specs.TypeReading.{TypeRead, comma_size_at, primitive_of_word, read_as, text_at, wide_text_at, opener_closed, opens_element, type_if_found, named_type, is_version_3_word, leaf_after, leaf_at, Opened, opened_by, opener_after, opener_at, type_after, type_nested_at, type_at}
use Rattle.giop_sig.proofs.Builtins.{first_known, first_leaf, first_takes, first_third}
use Rattle.giop_sig.proofs.SizeTaken.{enclosed_takes, most_takes, bound_free}
use Rattle.giop_sig.proofs.ScopeLaws.{known_stays, scope_grows}
use Rattle.giop_sig.proofs.ReadingLaws.{SpellsUpTo}

-- ---- what was added

-- only types were added
pub record AddsOnlyTypes (s t : Scope) : Type 0 where
  pub types : (more : List Node) × (t.table.types ≡ s.table.types ++ more)
  pub names : t.names ≡ s.names
  pub operations : t.table.operations ≡ s.table.operations
  pub exceptions : t.table.exceptions ≡ s.table.exceptions
  pub declared : t.table.declared ≡ s.table.declared
  pub called : t.table.called ≡ s.table.called
  pub interfaces : t.table.interfaces ≡ s.table.interfaces
  pub identities : t.table.identities ≡ s.table.identities

pub grows_none : (s : Scope) → AddsOnlyTypes s s
grows_none s = search (arith, append-nil)

pub grows_on : (r s t : Scope) → AddsOnlyTypes r s → AddsOnlyTypes s t → AddsOnlyTypes r t
grows_on r s t a b = search (arith, append_assoc)

pub grows_known : (s t : Scope) (i : ℕ) → AddsOnlyTypes s t → IsKnown s.table.types i
    → IsKnown t.table.types i
grows_known s t i g is = subst (λ ns. IsKnown ns i) (sym (g.types).1)
    (known_stays s.table.types (g.types).0 i is)

pub node_grows : (s : Scope) (n : Node) → AddsOnlyTypes s (with_node s n).0
node_grows s n = search (arith)

-- a node that was added may be a part
pub node_known : (s : Scope) (n : Node) → TakesOctet n
    → IsKnown (with_node s n).0.table.types (with_node s n).1
node_known s n takes = search (arith, length-append, get_or-append_seam)

-- the scope after a type, whose number may be that of a part
pub record IsKnownInScope (p : AddedType) : Type 0 where
  pub scope : IsScope p.0
  pub known : IsKnown (p.0).table.types p.1

-- the same for a type that may be in another one, perhaps as that of a sequence's elements
pub record CanBeInnerInScope (element : Bool) (p : AddedType) : Type 0 where
  pub scope : IsScope p.0
  pub stands : CanBeInner element (p.0).table.version (p.0).table.types p.1

pub known_stands : (element : Bool) (version : ℕ) (types : List Node) (i : ℕ) → IsKnown types i
    → CanBeInner element version types i
known_stands true version types i known = inl known
known_stands false version types i known = known

-- this is still true after one more node
pub sound_node : (s : Scope) (n : Node) → IsScope s → TakesOctet n → IsKnownInScope (with_node s n)
sound_node s n is takes = search (arith, scope_grows, node_known)

-- ---- types

pub record TakenType (s : Scope) (text : List ℕ) (x : TypeRead) : Type 0 where
  pub expr : TypeExpr
  pub took : SpellsUpTo (spell_type expr) (OfType kinds.Syntax false s.names expr) text x.2
  pub grows : AddsOnlyTypes s x.0
  pub sound : IsScope s → IsKnownInScope (x.0, x.1)

-- a type that was read, perhaps as that of a sequence's elements
pub record TakenInnerType (element : Bool) (s : Scope) (text : List ℕ) (x : TypeRead) : Type 0 where
  pub expr : TypeExpr
  pub took : SpellsUpTo (spell_type expr) (OfType kinds.Syntax element s.names expr) text x.2
  pub grows : AddsOnlyTypes s x.0
  pub sound : IsScope s → CanBeInnerInScope element (x.0, x.1)

free_in : (element : Bool) (names : Names) (e : TypeExpr) → OfType kinds.Syntax false names e
    → OfType kinds.Syntax element names e
unfolding OfType
free_in element names (Base p) free = free
free_in element names _ free = free

taken_in : (element : Bool) (s : Scope) (text : List ℕ) (x : TypeRead) → TakenType s text x
    → TakenInnerType element s text x
taken_in element s text x t = record {
  expr = t.expr;
  took = record { free = free_in element s.names t.expr t.took.free; front = t.took.front };
  grows = t.grows;
  sound = λ is.
      let h = t.sound is in record {
        scope = h.scope;
        stands = known_stands element (x.0).table.version (x.0).table.types x.1 h.known;
      };
}

taken_type : (s : Scope) (text : List ℕ) (x : TypeRead) → TakenInnerType false s text x
    → TakenType s text x
taken_type s text x t = record {
  expr = t.expr;
  took = t.took;
  grows = t.grows;
  sound = λ is. let h = t.sound is in record { scope = h.scope; known = h.stands };
}

known_after : (types more : List Node) (version k : ℕ) → types ≡ first_types version ++ more
    → IsKnown (first_types version) k → IsKnown types k
known_after types more version k e is =
    subst (λ ns. IsKnown ns k) (sym e) (known_stays (first_types version) more k is)

-- the types that the file began with
same_known : (s : Scope) (k : ℕ) → IsScope s → k < length (first_types s.names.version)
    → IsKnownInScope (s, k)
same_known s k is lt = record {
  scope = is;
  known = known_after s.table.types (is.begins).0 s.names.version k (is.begins).1
      (record { below = lt; takes = first_takes s.names.version k lt });
}

leaf_known : (s : Scope) (k : ℕ) → IsScope s → k < CONTEXT_ID → IsKnownInScope (s, k)
leaf_known s k is lt = same_known s k is (first_leaf s.names.version k lt)

third_known : (s : Scope) (k : ℕ) → IsScope s → is_version_3 s.names ≡ true → k < THIRD_LEN
    → IsKnownInScope (s, k)
third_known s k is third lt = same_known s k is (first_third s.names.version k third lt)

pub base_sound : (s : Scope) (p : Primitive) → IsScope s → IsKnownInScope (s, base_number p)
base_sound s prims.Octet is = leaf_known s 0 is (lit< tt)
base_sound s prims.Char is = leaf_known s 1 is (lit< tt)
base_sound s prims.Boolean is = leaf_known s 2 is (lit< tt)
base_sound s prims.Short is = leaf_known s 3 is (lit< tt)
base_sound s prims.UShort is = leaf_known s 4 is (lit< tt)
base_sound s prims.Long is = leaf_known s 5 is (lit< tt)
base_sound s prims.ULong is = leaf_known s 6 is (lit< tt)
base_sound s prims.LongLong is = leaf_known s 7 is (lit< tt)
base_sound s prims.ULongLong is = leaf_known s 8 is (lit< tt)
base_sound s prims.Float is = leaf_known s 9 is (lit< tt)
base_sound s prims.Double is = leaf_known s 10 is (lit< tt)

-- the word of a primitive, and its number
abbrev BaseWord : (w : List ℕ) (k : ℕ) → Type 0
BaseWord w k = (p : Primitive) × (w ≡ base_word p) × (base_number p ≡ k)

pick_by : (p : Primitive) (w : List ℕ) (k : ℕ) (o : Option ℕ) (v : Bool)
    → bytes_eq w (base_word p) ≡ v → cond v (Some (base_number p)) o ≡ Some k
    → (o ≡ Some k → BaseWord w k) → BaseWord w k
pick_by p w k o true same e on = search (arith, bytes_eq-Decides)
pick_by p w k o false same e on = on e

pick : (p : Primitive) (w : List ℕ) (k : ℕ) (o : Option ℕ)
    → cond (bytes_eq w (base_word p)) (Some (base_number p)) o ≡ Some k
    → (o ≡ Some k → BaseWord w k) → BaseWord w k
pick p w k o e on = search (arith, pick_by)

base_from : (w : List ℕ) (k : ℕ) → primitive_of_word w ≡ Some k → BaseWord w k
base_from w k e =
    pick prims.Octet w k _ e (λ e. pick prims.Char w k _ e
    (λ e. pick prims.Boolean w k _ e (λ e.
    pick prims.Short w k _ e (λ e. pick prims.UShort w k _ e (λ e.
    pick prims.Long w k _ e (λ e. pick prims.ULong w k _ e
    (λ e. pick prims.LongLong w k _ e (λ e.
    pick prims.ULongLong w k _ e (λ e. pick prims.Float w k _ e (λ e.
    pick prims.Double w k _ e (λ e. absurd cc)))))))))))

base_took : (s : Scope) (text w rest : List ℕ) (k : ℕ) → TakesToken text (word w) rest
    → BaseWord w k
    → TakenType s text (s, k, rest)
unfolding OfType
base_took s text w rest k t b = record {
  expr = Base b.0;
  took = record { free = tt; front = subst (λ v. TakesToken text (word v) rest) b.1 t };
  grows = grows_none s;
  sound = λ is. subst (λ n. IsKnownInScope (s, n)) b.2 (base_sound s b.0 is);
}

text_type_sound : (s : Scope) (b : Option ℕ) → IsScope s → IsKnownInScope (add_text_type s b)
text_type_sound s None is = leaf_known s STRING is (lit< tt)
text_type_sound s (Some n) is = search (arith, sound_node)

text_type_grows : (s : Scope) (b : Option ℕ) → AddsOnlyTypes s (add_text_type s b).0
text_type_grows s None = grows_none s
text_type_grows s (Some n) = search (arith, node_grows)

text_took : (s : Scope) (text w rest : List ℕ) (x : TypeRead) → TakesToken text (word w) rest
    → w ≡ codes "string" → text_at s rest ≡ Ok x → TakenType s text x
unfolding text_at OfType
text_took s text w rest x t same e =
    let b = bind_ok {A = Option ℕ × List ℕ} _ _ x e in
    let bound = enclosed_takes marks.OpenAngle marks.CloseAngle rest b.0 b.1 in
    subst (TakenType s text) (ok_is (read_as (add_text_type s (b.0).0) (b.0).1) x b.2) (record {
      expr = Text (b.0).0;
      took = record {
        free = bound_free (b.0).0;
        front =
            λ more m. subst (λ v. TakesToken text (word v) rest) same t _ (bound.front more m);
      };
      grows = text_type_grows s (b.0).0;
      sound = λ is. text_type_sound s (b.0).0 is;
    })

pub some_is : {X : Type 0} (x y : X) → Some x ≡ Some y → x ≡ y
some_is x y e = cc

-- a name that was found is that of a type
found_known : (types : List Node) (names : List (List ℕ × Option ℕ)) (w : List ℕ) (k : ℕ) (v : Bool)
    (e : List ℕ × Option ℕ) → bytes_eq w e.0 ≡ v → IsDeclaredName types e
    → (option_flatten (lookup (bytes_eq w) names) ≡ Some k → IsKnown types k)
    → option_flatten (cond v (Some e.1) (lookup (bytes_eq w) names)) ≡ Some k → IsKnown types k
found_known types names w k true e same is rest h = search (arith)
found_known types names w k false e same is rest h = rest h

pub named_known : (types : List Node) (names : List (List ℕ × Option ℕ)) (w : List ℕ) (k : ℕ)
    → AllByRecursion (IsDeclaredName types) names
    → option_flatten (lookup (bytes_eq w) names) ≡ Some k → IsKnown types k
named_known types [] w k all h = absurd cc
named_known types (e ∷ es) w k all h = found_known types es w k (bytes_eq w e.0) e refl all.0
    (named_known types es w k all.1) h

-- a name that was found is announced
announced_by : (version : ℕ) (types : List Node) (xs : List (List ℕ × Announced)) (w : List ℕ)
    (a : Announced) (v : Bool) (e : List ℕ × Announced) → IsAnnounced version types e.1.type
    → (lookup (bytes_eq w) xs ≡ Some a → IsAnnounced version types a.type)
    → cond v (Some e.1) (lookup (bytes_eq w) xs) ≡ Some a → IsAnnounced version types a.type
announced_by version types xs w a true e is rest h =
    subst (λ (b : Announced). IsAnnounced version types b.type) (some_one e.1 a h) is
  where
    some_one : (b c : Announced) → Some b ≡ Some c → b ≡ c
    some_one b c h = cc
announced_by version types xs w a false e is rest h = rest h

announced_known : (version : ℕ) (types : List Node) (xs : List (List ℕ × Announced)) (w : List ℕ)
    (a : Announced) → AllByRecursion (IsAnnouncedName version types) xs
    → lookup (bytes_eq w) xs ≡ Some a → IsAnnounced version types a.type
announced_known version types [] w a all h = absurd cc
announced_known version types (e ∷ es) w a all h =
    announced_by version types es w a (bytes_eq w e.0) e all.0
    (announced_known version types es w a all.1) h

stands_by : (element : Bool) (s : Scope) (w : List ℕ) (k : ℕ) (o : Option ℕ)
    (a : Option Announced) → IsScope s → named s.names w ≡ o → announced_as s.names w ≡ a
    → declared_or_announced element o a ≡ Some k
    → CanBeInner element s.table.version s.table.types k
stands_by element s w k (Some n) a is p q e =
    known_stands element s.table.version s.table.types k
    (named_known s.table.types s.names.known w k is.names (p ∙ e))
stands_by true s w k None (Some a) is p q e =
    let same : a.type ≡ k = some_is a.type k e in
    inr (subst (IsAnnounced s.table.version s.table.types) same
    (announced_known s.table.version s.table.types s.names.announced w a is.announced q))
stands_by true s w k None None is p q e = absurd cc
stands_by false s w k None a is p q e = absurd cc

found_by : (element : Bool) (s : Scope) (text w rest : List ℕ) (x : TypeRead) (o : Option ℕ)
    → type_named element s.names w ≡ o
    → is_reserved (is_version_3 s.names) w ≡ false → TakesToken text (word w) rest
    → type_if_found s text rest o ≡ Ok x → TakenInnerType element s text x
unfolding OfType
found_by element s text w rest x None o free t e = absurd cc
found_by element s text w rest x (Some n) o free t e =
    subst (TakenInnerType element s text) (ok_is (s, n, rest) x e) (record {
      expr = Named w;
      took = record { free = free; front = t };
      grows = grows_none s;
      sound = λ is. record {
        scope = is;
        stands = stands_by element s w n (named s.names w) (announced_as s.names w) is refl refl
            o;
      };
    })

named_by : (element : Bool) (s : Scope) (text w rest : List ℕ) (x : TypeRead) (a b : Bool)
    → is_reserved (is_version_3 s.names) w ≡ a
    → TakesToken text (word w) rest → cond a (Err (misplaced text))
    (cond b (Err (refused kinds.Limit text)) (type_if_found s text rest
    (type_named element s.names w)))
    ≡ Ok x → TakenInnerType element s text x
named_by element s text w rest x true b free t e = absurd cc
named_by element s text w rest x false true free t e = absurd cc
named_by element s text w rest x false false free t e =
    found_by element s text w rest x (type_named element s.names w) refl free t e

named_took : (element : Bool) (s : Scope) (text w rest : List ℕ) (x : TypeRead)
    → TakesToken text (word w) rest → named_type element s text w rest ≡ Ok x
    → TakenInnerType element s text x
unfolding named_type
named_took element s text w rest x t e =
    named_by element s text w rest x (is_reserved (is_version_3 s.names) w)
    (ltb 64 (length w)) refl t e

later_is : (w v : List ℕ) (third : Bool) → (third && bytes_eq w v) ≡ true
    → (third ≡ true) × (w ≡ v)
later_is w v true e = (refl, (bytes_eq-Decides w v).0 e)
later_is w v false e = absurd cc

-- a type of a word that only version 3 has
later_took : (s : Scope) (text w v rest : List ℕ) (k : ℕ) (expr : TypeExpr)
    → TakesToken text (word w) rest → is_version_3_word s w v ≡ true
    → ((more : List Token) → spell_type expr more ≡ word v ∷ more)
    → (is_version_3 s.names ≡ true → OfType kinds.Syntax false s.names expr) → k < THIRD_LEN
    → TakenType s text (s, k, rest)
later_took s text w v rest k expr t later spells free lt =
    let is = later_is w v (is_version_3 s.names) later in
    record {
      expr = expr;
      took = record {
        free = free is.0;
        front = λ more m. subst (AreTokens text) (sym (spells more))
            (subst (λ u. TakesToken text (word u) rest) is.1 t more m);
      };
      grows = grows_none s;
      sound = λ h. third_known s k h is.0 lt;
    }

wide_text_took : (s : Scope) (text w rest : List ℕ) (x : TypeRead) → TakesToken text (word w) rest
    → is_version_3_word s w (codes "wstring") ≡ true → wide_text_at s rest ≡ Ok x
    → TakenType s text x
unfolding wide_text_at OfType
wide_text_took s text w rest x t later e =
    let is = later_is w (codes "wstring") (is_version_3 s.names) later in
    let b = bind_ok {A = Option ℕ × List ℕ} _ _ x e in
    let bound = enclosed_takes marks.OpenAngle marks.CloseAngle rest b.0 b.1 in
    subst (TakenType s text) (ok_is (s, WIDE_STRING, (b.0).1) x b.2) (record {
      expr = WideText (b.0).0;
      took = record {
        free = (is.0, bound_free (b.0).0);
        front =
            λ more m. subst (λ v. TakesToken text (word v) rest) is.1 t _ (bound.front more m);
      };
      grows = grows_none s;
      sound = λ h. third_known s WIDE_STRING h is.0 (lit< tt);
    })

wide_by : (element : Bool) (s : Scope) (text w rest : List ℕ) (x : TypeRead)
    → TakesToken text (word w) rest
    → (a b : Bool) → is_version_3_word s w (codes "wchar") ≡ a → is_version_3_word s w
    (codes "wstring") ≡ b
    → cond a (Ok (s, WIDE_CHAR, rest))
    (cond b (wide_text_at s rest) (named_type element s text w rest))
    ≡ Ok x → TakenInnerType element s text x
unfolding OfType
wide_by element s text w rest x t true b p q e = taken_in element s text x
    (subst (TakenType s text) (ok_is (s, WIDE_CHAR, rest) x e)
    (later_took s text w (codes "wchar") rest WIDE_CHAR WideChar t p (λ more. refl) (λ is. is)
    (lit< tt)))
wide_by element s text w rest x t false true p q e =
    taken_in element s text x (wide_text_took s text w rest x t q e)
wide_by element s text w rest x t false false p q e = named_took element s text w rest x t e

-- wide text for its word, or the type of a name
abbrev wide_or_named : (element : Bool) (scope : Scope) (text w rest : List ℕ) →
    Result TypeRead TokenError
wide_or_named element s text w rest =
    cond (is_version_3_word s w (codes "wchar")) (Ok (s, WIDE_CHAR, rest))
    (cond (is_version_3_word s w (codes "wstring")) (wide_text_at s rest)
    (named_type element s text w rest))

later_by : (element : Bool) (s : Scope) (text w rest : List ℕ) (x : TypeRead)
    → TakesToken text (word w) rest
    → (a b : Bool) → is_version_3_word s w (codes "any") ≡ a → is_version_3_word s w
    (codes "TypeCode") ≡ b
    → cond a (Ok (s, ANY, rest))
    (cond b (Ok (s, TYPE_CODE, rest)) (wide_or_named element s text w rest))
    ≡ Ok x → TakenInnerType element s text x
unfolding OfType
later_by element s text w rest x t true b p q e = taken_in element s text x
    (subst (TakenType s text) (ok_is (s, ANY, rest) x e)
    (later_took s text w (codes "any") rest ANY AnyType t p (λ more. refl) (λ is. is)
    (lit< tt)))
later_by element s text w rest x t false true p q e = taken_in element s text x
    (subst (TakenType s text) (ok_is (s, TYPE_CODE, rest) x e)
    (later_took s text w (codes "TypeCode") rest TYPE_CODE CodeType t q (λ more. refl) (λ is. is)
    (lit< tt)))
later_by element s text w rest x t false false p q e =
    wide_by element s text w rest x t (is_version_3_word s w (codes "wchar"))
    (is_version_3_word s w (codes "wstring")) refl refl e

-- a type for a word of version 3, or for a name
abbrev later_or_named : (element : Bool) (scope : Scope) (text w rest : List ℕ) →
    Result TypeRead TokenError
later_or_named element s text w rest =
    cond (is_version_3_word s w (codes "any")) (Ok (s, ANY, rest))
    (cond (is_version_3_word s w (codes "TypeCode")) (Ok (s, TYPE_CODE, rest))
    (wide_or_named element s text w rest))

leaf_by : (element : Bool) (s : Scope) (text w rest : List ℕ) (x : TypeRead)
    → TakesToken text (word w) rest
    → (a b : Bool) → bytes_eq w (codes "string") ≡ a → bytes_eq w (codes "Object") ≡ b
    → cond a (text_at s rest)
    (cond b (Ok (s, reference_number s.names, rest)) (later_or_named element s text w rest))
    ≡ Ok x → TakenInnerType element s text x
unfolding OfType
leaf_by element s text w rest x t true b p q e = taken_in element s text x
    (text_took s text w rest x t ((bytes_eq-Decides w (codes "string")).0 p) e)
leaf_by element s text w rest x t false true p q e = taken_in element s text x
    (subst (TakenType s text) (ok_is (s, reference_number s.names, rest) x e) (record {
      expr = Reference;
      took = record {
        free = tt;
        front = subst (λ v. TakesToken text (word v) rest)
            ((bytes_eq-Decides w (codes "Object")).0 q) t;
      };
      grows = grows_none s;
      sound = λ is. same_known s (reference_number s.names) is
          (first_known s.names.version IOR (lit< tt));
    }))
leaf_by element s text w rest x t false false p q e =
    later_by element s text w rest x t (is_version_3_word s w (codes "any"))
    (is_version_3_word s w (codes "TypeCode")) refl refl e

leaf_took : (element : Bool) (s : Scope) (text w rest : List ℕ) (x : TypeRead) (o : Option ℕ)
    → TakesToken text (word w) rest → primitive_of_word w ≡ o → leaf_after element s text w rest o
    ≡ Ok x
    → TakenInnerType element s text x
leaf_took element s text w rest x (Some k) t b e = taken_in element s text x
    (subst (TakenType s text) (ok_is (s, k, rest) x e)
    (base_took s text w rest k t (base_from w k b)))
leaf_took element s text w rest x None t b e =
    leaf_by element s text w rest x t (bytes_eq w (codes "string")) (bytes_eq w (codes "Object"))
    refl refl e

pub leaf_takes : (element : Bool) (s : Scope) (text : List ℕ) (x : TypeRead)
    → leaf_at element s text ≡ Ok x → TakenInnerType element s text x
unfolding leaf_at
leaf_takes element s text x e =
    let w = bind_ok (word_at text) (λ w. leaf_after element s text w.0 w.1 (primitive_of_word w.0))
    x e in
    leaf_took element s text (w.0).0 (w.0).1 x (primitive_of_word (w.0).0)
    (word_takes text w.0 w.1) refl w.2

-- ---- types with others in them

-- the word that begins a type
abbrev opener_word : (opener : Opener) → List ℕ
opener_word openers.Sequence = codes "sequence"
opener_word openers.Encapsulation = codes "encapsulation"

-- only files of version 2 or later may have an encapsulation
abbrev IsAllowed : (names : Names) (opener : Opener) → Type 0
IsAllowed names openers.Sequence = Unit {0}
IsAllowed names openers.Encapsulation = has_encapsulations names ≡ true

-- an opener that was read
record TakenOpener (s : Scope) (text : List ℕ) (o : Opened) : Type 0 where
  allowed : IsAllowed s.names o.0
  front : (more : List Token) → AreTokens o.1 more
      → AreTokens text (word (opener_word o.0) ∷ mark marks.OpenAngle ∷ more)

opened_by_took : (s : Scope) (text w rest : List ℕ) (k : Opener) (o : Opened)
    → TakesToken text (word w) rest → w ≡ opener_word k → IsAllowed s.names k
    → opened_by k rest ≡ Ok (Some o) → TakenOpener s text o
opened_by_took s text w rest k o t same allowed e =
    let m = bind_ok {A = List ℕ} _ _ (Some o) e in
    let is : (k, m.0) ≡ o = some_is (k, m.0) o (ok_is (Some (k, m.0)) (Some o) m.2) in
    subst (TakenOpener s text) is (record {
      allowed = allowed;
      front = λ more h. subst (λ v. TakesToken text (word v) rest) same t
          (mark marks.OpenAngle ∷ more) (mark_takes marks.OpenAngle rest m.0 m.1 more h);
    })

opener_by : (s : Scope) (text w rest : List ℕ) (o : Opened) (a b c : Bool)
    → TakesToken text (word w) rest → bytes_eq w (codes "sequence") ≡ a
    → bytes_eq w (codes "encapsulation") ≡ b → has_encapsulations s.names ≡ c
    → cond a (opened_by openers.Sequence rest)
    (cond b (cond c (opened_by openers.Encapsulation rest) (Err (misplaced text))) (Ok None))
    ≡ Ok (Some o) → TakenOpener s text o
opener_by s text w rest o true b c t p q r e =
    opened_by_took s text w rest openers.Sequence o t
    ((bytes_eq-Decides w (codes "sequence")).0 p) tt e
opener_by s text w rest o false true true t p q r e =
    opened_by_took s text w rest openers.Encapsulation o t
    ((bytes_eq-Decides w (codes "encapsulation")).0 q) r e
opener_by s text w rest o false true false t p q r e = absurd cc
opener_by s text w rest o false false c t p q r e =
    let none : None ≡ Some o = ok_is {A = Option Opened} None (Some o) e in absurd cc

opener_takes : (s : Scope) (text : List ℕ) (o : Opened) → opener_at s text ≡ Ok (Some o)
    → TakenOpener s text o
unfolding opener_at
opener_takes s text o e =
    let w = bind_ok (word_at text) (λ w. opener_after s text w.0 w.1) (Some o) e in
    let v = (w.0).0 in
    opener_by s text v (w.0).1 o (bytes_eq v (codes "sequence"))
    (bytes_eq v (codes "encapsulation")) (has_encapsulations s.names) (word_takes text w.0 w.1)
    refl refl refl w.2

sequence_takes_octet : (bound : Option ℕ) (n : ℕ) (v : Bool) (o : Option ℕ)
    → TakesOctet (cond v (nodes.octets bound) (sequence_by bound n o))
sequence_takes_octet bound n true o = tt
sequence_takes_octet bound n false None = tt
sequence_takes_octet bound n false (Some index) = tt

-- a sequence takes an octet
sequence_takes : (types : List Node) (bound : Option ℕ) (n : ℕ)
    → TakesOctet (sequence_node types bound n)
sequence_takes types bound n =
    sequence_takes_octet bound n (eqb n 0) (announced_index (node_in types n))

-- what was closed may be a part, too
pub closed_sound : (o : Opener) (t x : TypeRead) → opener_closed o t ≡ Ok x → IsScope t.0
    → IsKnownInScope (x.0, x.1)
unfolding opener_closed
closed_sound openers.Sequence t x e is =
    let b = bind_ok (comma_size_at t.2) (λ b. mark_at marks.CloseAngle b.1
    >>= λ r. Ok (read_as (add_sequence_type b.0 (t.0, t.1)) r)) x e in
    let r = bind_ok (mark_at marks.CloseAngle (b.0).1)
    (λ r. Ok (read_as (add_sequence_type (b.0).0 (t.0, t.1)) r)) x b.2 in
    subst (λ (y : TypeRead). IsKnownInScope (y.0, y.1))
    (ok_is (read_as (add_sequence_type (b.0).0 (t.0, t.1)) r.0) x r.2)
    (sound_node t.0 (sequence_node (t.0).table.types (b.0).0 t.1) is
    (sequence_takes (t.0).table.types (b.0).0 t.1))
closed_sound openers.Encapsulation t x e is =
    let r = bind_ok (mark_at marks.CloseAngle t.2)
    (λ r. Ok (read_as (add_encapsulation_type (t.0, t.1)) r)) x e in
    subst (λ (y : TypeRead). IsKnownInScope (y.0, y.1))
    (ok_is (read_as (add_encapsulation_type (t.0, t.1)) r.0) x r.2)
    (sound_node t.0 (nodes.encapsulation t.1) is tt)

closed_took : (s : Scope) (text : List ℕ) (o : Opener) (inner : List ℕ) (t x : TypeRead)
    → TakenOpener s text (o, inner) → TakenInnerType (opens_element o) s inner t → opener_closed o t
    ≡ Ok x
    → TakenType s text x
unfolding OfType opener_closed
closed_took s text openers.Sequence inner t x k u e =
    let b = bind_ok {A = Option ℕ × List ℕ} _ _ x e in
    let r = bind_ok {A = List ℕ} _ _ x b.2 in
    let bound = most_takes t.2 b.0 b.1 in
    let node = sequence_node (t.0).table.types (b.0).0 t.1 in
    subst (TakenType s text) (ok_is (read_as (add_sequence_type (b.0).0 (t.0, t.1)) r.0) x r.2)
    (record {
      expr = SequenceOf u.expr (b.0).0;
      took = record {
        free = (u.took.free, bound_free (b.0).0);
        front = λ more m.
            let tail = spell_most (b.0).0 (mark marks.CloseAngle ∷ more) in
            k.front (spell_type u.expr tail) (u.took.front tail
            (bound.front (mark marks.CloseAngle ∷ more)
            (mark_takes marks.CloseAngle (b.0).1 r.0 r.1 more m)));
      };
      grows = grows_on s t.0 (with_node t.0 node).0 u.grows (node_grows t.0 node);
      sound = λ is. let h = u.sound is in sound_node t.0 node h.scope
          (sequence_takes (t.0).table.types (b.0).0 t.1);
    })
closed_took s text openers.Encapsulation inner t x k u e =
    let r = bind_ok {A = List ℕ} _ _ x e in
    let node = nodes.encapsulation t.1 in
    subst (TakenType s text) (ok_is (read_as (add_encapsulation_type (t.0, t.1)) r.0) x r.2)
    (record {
      expr = EncapsulationOf u.expr;
      took = record {
        free = (k.allowed, u.took.free);
        front = λ more m.
            let tail = mark marks.CloseAngle ∷ more in
            k.front (spell_type u.expr tail)
            (u.took.front tail (mark_takes marks.CloseAngle t.2 r.0 r.1 more m));
      };
      grows = grows_on s t.0 (with_node t.0 node).0 u.grows (node_grows t.0 node);
      sound = λ is. let h = u.sound is in sound_node t.0 node h.scope tt;
    })

type_by : (inner : Bool → List ℕ → Result TypeRead TokenError) (element : Bool) (s : Scope)
    (text : List ℕ) (o : Option Opened) (x : TypeRead)
    → ((b : Bool) (text : List ℕ) (y : TypeRead) → inner b text ≡ Ok y → TakenInnerType b s text y)
    → opener_at s text ≡ Ok o → type_after inner element s text o ≡ Ok x
    → TakenInnerType element s text x
type_by inner element s text None x takes h e = leaf_takes element s text x e
type_by inner element s text (Some o) x takes h e =
    let t = bind_ok (inner (opens_element o.0) o.1) (opener_closed o.0) x e in
    taken_in element s text x
    (closed_took s text o.0 o.1 t.0 x (opener_takes s text o h)
    (takes (opens_element o.0) o.1 t.0 t.1) t.2)

nested_takes : (left : ℕ) (element : Bool) (s : Scope) (text : List ℕ) (x : TypeRead)
    → type_nested_at left element s text ≡ Ok x → TakenInnerType element s text x
unfolding type_nested_at
nested_takes zero element s text x e = absurd cc
nested_takes (suc left) element s text x e =
    let inner : Bool → List ℕ → Result TypeRead TokenError = λ b. type_nested_at left b s in
    let o = bind_ok (opener_at s text) (type_after inner element s text) x e in
    type_by inner element s text o.0 x (λ b t y h. nested_takes left b s t y h) o.1 o.2

pub type_takes : (s : Scope) (text : List ℕ) (x : TypeRead) → type_at s text ≡ Ok x
    → TakenType s text x
type_takes s text x e = taken_type s text x (nested_takes (length text) false s text x e)

-- ---- what the code requires of a sequence's elements

-- a node that stands for an announcement
pub node_announced : (s : Scope) (index : ℕ) → s.table.version ≡ 3
    → IsAnnounced (with_node s (nodes.announced index)).0.table.version
    (with_node s (nodes.announced index)).0.table.types (with_node s (nodes.announced index)).1
node_announced s index third = record {
  third = third;
  below = omega (arith, length-append s.table.types (nodes.announced index ∷ []));
  is = (index, get_or-append_seam s.table.types (nodes.announced index) [] (nodes.prim Octet));
}
