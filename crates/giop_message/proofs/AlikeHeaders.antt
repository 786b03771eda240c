-- The types of headers, and of the bodies that no signature file declares, differ between the
-- versions of signature files only in the names of numbers.
use Rattle.std.proofs.Common.{◌≡◌, ℕ, zero, suc, ◌+◌, ◌-◌, ◌<◌, ◌≤◌, ◌⊎◌, inl, inr, Bool, true, false, List, [], ◌∷◌, ◌++◌, length, map, Option, Some, None, refl, sym, ap, ◌∙◌, subst, lit<, lit≤, arith}
use Rattle.std.specs.Prelude.{◌&&◌, ◌==◌, not, cond, ltb, leb, codes, slice_get, IfSome}
use Rattle.std.specs.List.{list_all}
use Rattle.std.specs.Option.{option_map}
use Rattle.std.specs.Str.{bytes_eq}
use Rattle.std.proofs.lemmas.Bool.{false≢true, cases_lt, le-leb, le-ltb, lt-ltb, ltb-true}
use Rattle.std.proofs.lemmas.List.{length-map}
use Rattle.std.proofs.lemmas.Option.{slice_get-map}
use Rattle.giop_cdr.specs.declared.number.Number.{Number}
use Rattle.giop_cdr.specs.declared.prim.Primitive.TheVariants as prims
use Rattle.giop_sig.specs.declared.types.Fixed.{Fixed}
use Rattle.giop_sig.specs.declared.types.Fixed.TheVariants as fixeds
use Rattle.giop_sig.specs.Kinds.{is_kind}
use Rattle.giop_sig.specs.Types.{Cases, Scalar, Plain, Enum, Marked, interpreted_by, Ty, Single, Struct, discriminator_name}
use Rattle.giop_sig.specs.Table.{Part, Case, Node, case_part, case_with, name_of, node_in, selected}
use Rattle.giop_sig.specs.Table as nodes
use Rattle.giop_sig.specs.Trees.{PartLimits, tree_of_node, part_tree, node_in_room, octet_type, limits_in_room, scalar_or_octet, selected_by, tree, tree_at}
use Rattle.giop_sig.specs.Builtin.{builtin_types, number_in_version, older_number, renumbered, renumbered_case, renumbered_part}
use Rattle.giop_sig.specs.AnyTypes.{any_types, first_table, first_types, version_3_types}
use Rattle.giop_sig.specs.HeaderTypes.{BeginsWithId, cell_of_minor, header_rows, header_type, fixed_type, fixed_type_in_version_3}
use Rattle.giop_sig.proofs.Builtins.{header_built_in, in_older, in_third, later_older, leaf_older}
use Rattle.giop_decode.specs.ReadResult
use Rattle.giop_decode.specs.ReadResult.{PathSegment, Name, Switch, Held}
use Rattle.giop_decode.specs.Noted.{is_member}
use Rattle.giop_decode.proofs.ReadingLaws.{switch_member}
use Rattle.giop_message.proofs.AlikeReadings.{AreAlike, AreAlikeScalars}

-- ---- numbers

-- Types by their numbers in version 3: the first of the four types of numbers that have names, the
-- first one after these, and how many types there are except those of anys.
abbrev first_named : ℕ
first_named = 13

abbrev first_later : ℕ
first_later = 17

abbrev type_count : ℕ
type_count = 45

-- the type of a number without a name
abbrev ulong : ℕ
ulong = 6

-- whether a type is one of the four
abbrev is_named : (n : ℕ) → Bool
is_named n = leb first_named n && ltb n first_later

-- if a type is one of the four, it isn't at the path of a request id
abbrev IsElsewhere : (n : ℕ) (path : List PathSegment) → Type 0
IsElsewhere n path = is_named n ≡ true → is_member (codes "request_id") path ≡ false

abbrev has_unnamed_id_type : (part : Part) → Bool
has_unnamed_id_type p =
    ltb p.type type_count && not (bytes_eq (codes "request_id") p.name && is_named p.type)

-- nodes that are made of built-in types, in which the number of a request id has no name
abbrev has_unnamed_id_types : Node → Bool
has_unnamed_id_types (nodes.members parts) = list_all has_unnamed_id_type parts
has_unnamed_id_types (nodes.union switch cases otherwise) =
    (ltb switch type_count && not (is_named switch)) && list_all
    (λ c. has_unnamed_id_type c.part) cases
has_unnamed_id_types (nodes.sequence bound element) = ltb element type_count
has_unnamed_id_types (nodes.array size element) = ltb element type_count
has_unnamed_id_types (nodes.encapsulation held) = ltb held type_count
has_unnamed_id_types (nodes.tagged special tag inner other) =
    list_all has_unnamed_id_type (tag ∷ inner ∷ other ∷ [])
has_unnamed_id_types (nodes.any code) = false
has_unnamed_id_types (nodes.typecode wide kind cases) = false
has_unnamed_id_types (nodes.announced place) = false
has_unnamed_id_types (nodes.recursive bound element) = false
has_unnamed_id_types node = true

both_true : (a b : Bool) → (a && b) ≡ true → (a ≡ true) × (b ≡ true)
both_true true b e = (refl, e)
both_true false b e = absurd (false≢true e)

not_both : (a b : Bool) → not (a && b) ≡ true → b ≡ true → a ≡ false
not_both true true e f = absurd (false≢true e)
not_both true false e f = absurd (false≢true f)
not_both false b e f = refl

-- ---- paths

name_member : (path : List PathSegment) (name : List ℕ) →
    bytes_eq (codes "request_id") name ≡ false →
    is_member (codes "request_id") (path ++ Name name ∷ []) ≡ false
name_member [] name e = e
name_member (a ∷ []) name e = refl
name_member (a ∷ b ∷ path) name e = refl

index_member : (path : List PathSegment) (i : ℕ) →
    is_member (codes "request_id") (path ++ ReadResult.Index i ∷ []) ≡ false
index_member [] i = refl
index_member (a ∷ []) i = refl
index_member (a ∷ b ∷ path) i = refl

held_member : (path : List PathSegment) →
    is_member (codes "request_id") (path ++ Held ∷ []) ≡ false
held_member [] = refl
held_member (a ∷ []) = refl
held_member (a ∷ b ∷ path) = refl

-- ---- scalars

scalars_alike : (path : List PathSegment) (A B : Ty) → AreAlike path A B →
    AreAlikeScalars path (scalar_or_octet A) (scalar_or_octet B)
scalars_alike path (Single x) (Single y) alike = alike
scalars_alike path (Single x) _ alike = absurd alike
scalars_alike path _ (Single y) alike = absurd alike
scalars_alike path A B alike = inl refl

same_value : (path : List PathSegment) (x y : Scalar) → AreAlikeScalars path x y → (n : ℕ) →
    interpreted_by x n ≡ interpreted_by y n
same_value path x y (inl e) n = ap (λ z. interpreted_by z n) e
same_value path x y (inr (mark, e, f, none, deep)) n = rw (e, f) refl

-- at the path of a request id, the scalars are the same
abbrev id_path : List PathSegment
id_path = Name (codes "request_id") ∷ []

same_scalar : (x y : Scalar) → AreAlikeScalars id_path x y → x ≡ y
same_scalar x y (inl e) = e
same_scalar x y (inr (mark, e, f, none, deep)) = absurd (false≢true (sym deep))

-- if a discriminator is no tag, its type alone gives its name
cases_tag : (n m : ℕ) (x y : Scalar) (names others : ℕ → List ℕ) → x ≡ y →
    discriminator_name (Cases n) x names ≡ discriminator_name (Cases m) y others
cases_tag n m x y names others e = go x ∙ ap (λ z. discriminator_name (Cases m) z others) e
  where
    go : (z : Scalar) → discriminator_name (Cases n) z names ≡ discriminator_name (Cases m) z others
    go (Plain p) = refl
    go (Enum size words) = refl
    go (Marked mark) = refl

same_case : (f : ℕ → ℕ) (n : Number) (cases : List Case) →
    case_with n (map (renumbered_case f) cases) ≡ case_with n cases
same_case f n [] = refl
same_case f n (c ∷ cs) = search (arith, same_case f n cs)

case_parts : (f : ℕ → ℕ) (o : Option Case) →
    case_part (option_map (renumbered_case f) o) ≡ option_map (renumbered_part f) (case_part o)
case_parts f None = refl
case_parts f (Some c) = refl

fit_part : (ps : List Part) (i : ℕ) → list_all has_unnamed_id_type ps ≡ true →
    IfSome (slice_get ps i) (λ p. has_unnamed_id_type p ≡ true)
fit_part [] i e = tt
fit_part (p ∷ ps) zero e = (both_true (has_unnamed_id_type p) (list_all has_unnamed_id_type ps) e).0
fit_part (p ∷ ps) (suc i) e =
    fit_part ps i (both_true (has_unnamed_id_type p) (list_all has_unnamed_id_type ps) e).1

fit_case : (cs : List Case) (i : ℕ) → list_all (λ c. has_unnamed_id_type c.part) cs ≡ true →
    IfSome (case_part (slice_get cs i)) (λ p. has_unnamed_id_type p ≡ true)
fit_case [] i e = tt
fit_case (c ∷ cs) zero e =
    (both_true (has_unnamed_id_type c.part) (list_all (λ c. has_unnamed_id_type c.part) cs) e).0
fit_case (c ∷ cs) (suc i) e =
    fit_case cs i (both_true (has_unnamed_id_type c.part) (list_all
    (λ c. has_unnamed_id_type c.part) cs) e).1

-- ---- nodes with numbers of two versions

module _ (f g : ℕ → ℕ) (C D : ℕ → Ty) (each : (n : ℕ) → n < type_count →
    (path : List PathSegment) → IsElsewhere n path → AreAlike path (C (f n)) (D (g n))) where
  abbrev AlikeParts : (path : List PathSegment) (p q : Option Part) → Type 0
  AlikeParts path p q = (name_of p ≡ name_of q)
      × AreAlike (path ++ Name (name_of p) ∷ []) (part_tree C p) (part_tree D q)

  part_alike : (path : List PathSegment) (o : Option Part) →
      IfSome o (λ p. has_unnamed_id_type p ≡ true) →
      AlikeParts path (option_map (renumbered_part f) o) (option_map (renumbered_part g) o)
  part_alike path None e = (refl, inl refl)
  part_alike path (Some p) e =
      let tests = both_true (ltb p.type type_count)
      (not (bytes_eq (codes "request_id") p.name && is_named p.type)) e in (
        refl,
        each p.type (ltb-true p.type type_count tests.0) (path ++ Name p.name ∷ []) (λ named.
            name_member path p.name
            (not_both (bytes_eq (codes "request_id") p.name) (is_named p.type) tests.1 named)),
      )

  parts_alike : (path : List PathSegment) (ps : List Part) (i : ℕ) →
      list_all has_unnamed_id_type ps ≡ true →
      AlikeParts path (slice_get (map (renumbered_part f) ps) i)
      (slice_get (map (renumbered_part g) ps) i)
  parts_alike path ps i e =
      rw (slice_get-map (renumbered_part f) ps i, slice_get-map (renumbered_part g) ps i)
      (part_alike path (slice_get ps i) (fit_part ps i e))

  cases_alike : (path : List PathSegment) (cs : List Case) (i : ℕ) →
      list_all (λ c. has_unnamed_id_type c.part) cs ≡ true →
      AlikeParts path (case_part (slice_get (map (renumbered_case f) cs) i))
      (case_part (slice_get (map (renumbered_case g) cs) i))
  cases_alike path cs i e =
      rw (
        slice_get-map (renumbered_case f) cs i,
        slice_get-map (renumbered_case g) cs i,
        case_parts f (slice_get cs i),
        case_parts g (slice_get cs i),
      )
      (part_alike path (case_part (slice_get cs i)) (fit_case cs i e))

  same_selected : (path : List PathSegment) (x y : Scalar) → AreAlikeScalars path x y →
      (node other : Node) → ((k : Number) → selected node k ≡ selected other k) → (n : ℕ) →
      selected_by (selected node) (interpreted_by x n)
      ≡ selected_by (selected other) (interpreted_by y n)
  same_selected path x y alike node other same n =
      rw (same_value path x y alike n) (go (interpreted_by y n))
    where
      go : (o : Option Number) →
          selected_by (selected node) o ≡ selected_by (selected other) o
      go None = refl
      go (Some k) = same k

  grown_alike : (h h' : PartLimits) (room : ℕ) (path : List PathSegment) (node : Node) →
      has_unnamed_id_types node ≡ true → AreAlike path (tree_of_node h C
      (node_in_room room (renumbered f node)))
      (tree_of_node h' D (node_in_room room (renumbered g node)))
  grown_alike h h' room path (nodes.members parts) e = (
    length-map parts (renumbered_part f) ∙ sym (length-map parts (renumbered_part g)),
    λ i. (parts_alike path parts i e).0,
    λ i. (parts_alike path parts i e).1,
  )
  grown_alike h h' room path (nodes.union switch cases otherwise) e =
      let tests = both_true (ltb switch type_count && not (is_named switch))
      (list_all (λ c. has_unnamed_id_type c.part) cases) e in
      let small = both_true (ltb switch type_count) (not (is_named switch)) tests.0 in
      let x = scalar_or_octet (C (f switch)) in
      let y = scalar_or_octet (D (g switch)) in
      let alike : AreAlikeScalars id_path x y = scalars_alike id_path (C (f switch)) (D (g switch))
      (each switch (ltb-true switch type_count small.0) id_path
      (λ named. absurd (false≢true (rw named at small.1)))) in (
        cases_tag (length (map (renumbered_case f) cases))
            (length (map (renumbered_case g) cases)) x y _ _ (same_scalar x y alike),
        inl (same_scalar x y alike),
        same_selected id_path x y alike (renumbered f (nodes.union switch cases otherwise))
            (renumbered g (nodes.union switch cases otherwise))
            (λ k. ap (λ found. nodes.case_or found otherwise)
            (same_case f k cases ∙ sym (same_case g k cases))),
        λ i. (cases_alike path cases i tests.1).0,
        λ i. (cases_alike path cases i tests.1).1,
      )
  grown_alike h h' room path (nodes.sequence bound element) e = (
    refl,
    λ i.
        each element (ltb-true element type_count e) (path ++ ReadResult.Index i ∷ [])
        (λ named. index_member path i),
  )
  grown_alike h h' room path (nodes.array size element) e = (
    refl,
    λ i.
        each element (ltb-true element type_count e) (path ++ ReadResult.Index i ∷ [])
        (λ named. index_member path i),
  )
  grown_alike h h' room path (nodes.encapsulation held) e =
      each held (ltb-true held type_count e) (path ++ Held ∷ []) (λ named. held_member path)
  grown_alike h h' room path (nodes.tagged special tag inner other) e =
      let place = path ++ Switch (Some tag.name) ∷ [] in
      let test = both_true (ltb tag.type type_count)
      (not (bytes_eq (codes "request_id") tag.name && is_named tag.type))
      (both_true (has_unnamed_id_type tag) (list_all has_unnamed_id_type (inner ∷ other
      ∷ [])) e).0 in
      let x = scalar_or_octet (C (f tag.type)) in
      let y = scalar_or_octet (D (g tag.type)) in
      let alike : AreAlikeScalars place x y = scalars_alike place (C (f tag.type)) (D (g tag.type))
      (each tag.type (ltb-true tag.type type_count test.0) place
      (λ named. switch_member (codes "request_id") path (Some tag.name))) in (
        refl,
        alike,
        same_selected place x y alike (renumbered f (nodes.tagged special tag inner other))
            (renumbered g (nodes.tagged special tag inner other)) (λ k. refl),
        λ i. (parts_alike path (tag ∷ inner ∷ other ∷ []) i e).0,
        λ i. (parts_alike path (tag ∷ inner ∷ other ∷ []) i e).1,
      )
  grown_alike h h' room path (nodes.any code) e = absurd (false≢true e)
  grown_alike h h' room path (nodes.typecode wide kind cases) e = absurd (false≢true e)
  grown_alike h h' room path (nodes.announced place) e = absurd (false≢true e)
  grown_alike h h' room path (nodes.recursive bound element) e = absurd (false≢true e)
  grown_alike h h' room path (nodes.prim p) e = inl refl
  grown_alike h h' room path (nodes.marked mark) e = inl refl
  grown_alike h h' room path (nodes.enumeration names) e = inl refl
  grown_alike h h' room path _ e = refl

-- ---- the nodes of two versions

fit_test : ℕ → List Node → Bool
fit_test zero types = true
fit_test (suc n) [] = true
fit_test (suc n) (node ∷ types) = has_unnamed_id_types node && fit_test n types

fit_by : (n : ℕ) (types : List Node) (i : ℕ) → fit_test n types ≡ true → i < n →
    has_unnamed_id_types (node_in types i) ≡ true
unfolding fit_test
fit_by zero types i e below = absurd (omega arith)
fit_by (suc n) [] i e below = refl
fit_by (suc n) (node ∷ types) zero e below = (both_true (has_unnamed_id_types node)
    (fit_test n types) e).0
fit_by (suc n) (node ∷ types) (suc i) e below =
    fit_by n types i (both_true (has_unnamed_id_types node) (fit_test n types) e).1 (omega arith)

third_fit : (n : ℕ) → n < type_count → has_unnamed_id_types (node_in version_3_types n) ≡ true
unfolding fit_test version_3_types
third_fit n below = fit_by type_count version_3_types n refl below

third_len : type_count ≤ length version_3_types
unfolding version_3_types any_types
third_len = lit≤ tt

builtin_len : length builtin_types ≡ older_number type_count
unfolding builtin_types
builtin_len = refl

older_leaf : (n : ℕ) → n < first_named → older_number n ≡ n
older_leaf n less = rw (lt-ltb n first_named less) refl

older_named : (n : ℕ) → first_named ≤ n → n < first_later → older_number n ≡ ulong
older_named n least less = rw (le-ltb n first_named least, lt-ltb n first_later less) refl

older_later : (n : ℕ) → first_later ≤ n → older_number n ≡ n - 4
older_later n least =
    rw (le-ltb n first_named (omega (arith, least)), le-ltb n first_later least) refl

-- a type that isn't one of the four
abbrev IsUnnamed : (n : ℕ) → Type 0
IsUnnamed n = (n < first_named) ⊎ (first_later ≤ n)

older_node : (n : ℕ) → n < type_count → IsUnnamed n →
    renumbered older_number (node_in version_3_types n) ≡ node_in builtin_types (older_number n)
older_node n below (inl less) =
    leaf_older n less (omega (arith, builtin_len))
    ∙ ap (node_in builtin_types) (sym (older_leaf n less))
older_node n below (inr least) =
    let e : n - 4 + 4 ≡ n = omega arith in
    ap (λ k. renumbered older_number (node_in version_3_types k)) (sym e)
    ∙ later_older (n - 4) (omega arith) (omega (arith, builtin_len))
    ∙ ap (node_in builtin_types) (sym (older_later n least))

version_node : (version n : ℕ) → n < type_count → IsUnnamed n →
    renumbered (number_in_version version) (node_in version_3_types n)
    ≡ node_in (first_types version) (number_in_version version n)
version_node version n below unnamed = go (version == 3) refl
  where
    go : (v : Bool) → (version == 3) ≡ v → renumbered (number_in_version version)
        (node_in version_3_types n) ≡ node_in (first_types version) (cond v n (older_number n))
    go true e = in_third version n e
        (subst (λ v. n < length (cond v version_3_types builtin_types)) (sym e)
        (omega (arith, third_len)))
    go false e = in_older version n (older_number n) e (older_node n below unnamed)

-- the node of a number that has a name
named_node : (k : ℕ) → k < 4 → (mark : ℕ)
    × (node_in version_3_types (first_named + k) ≡ nodes.marked mark) × (is_kind mark ≡ false)
unfolding version_3_types
named_node zero below = (3, refl, refl)
named_node (suc zero) below = (4, refl, refl)
named_node (suc (suc zero)) below = (5, refl, refl)
named_node (suc (suc (suc zero))) below = (6, refl, refl)
named_node (suc (suc (suc (suc k)))) below = absurd (omega arith)

ulong_node : node_in builtin_types ulong ≡ nodes.prim prims.ULong
unfolding builtin_types
ulong_node = refl

module _ (h h' : PartLimits) (C D : ℕ → Ty) (room : ℕ) (path : List PathSegment)
    (elsewhere : is_member (codes "request_id") path ≡ false) where
  marks_alike : (node other : Node) (mark : ℕ) → node ≡ nodes.prim prims.ULong →
      (other ≡ nodes.marked mark) × (is_kind mark ≡ false) →
      AreAlike path (tree_of_node h C (node_in_room room node))
      (tree_of_node h' D (node_in_room room other))
  marks_alike node other mark e (f, none) = rw (e, f) (inr (mark, refl, refl, none, elsewhere))

  named_alike : (v : Bool) (n : ℕ) → first_named ≤ n → n < first_later →
      AreAlike path (tree_of_node h C (node_in_room room (node_in builtin_types (older_number n))))
      (tree_of_node h' D (node_in_room room (node_in (cond v version_3_types builtin_types)
      (cond v n (older_number n)))))
  named_alike true n least less =
      let k = n - first_named in
      let at : first_named + k ≡ n = omega (arith, least) in
      let m = named_node k (omega (arith, least, less)) in
      marks_alike (node_in builtin_types (older_number n)) (node_in version_3_types n) m.0
      (ap (node_in builtin_types) (older_named n least less) ∙ ulong_node)
      (ap (node_in version_3_types) (sym at) ∙ m.1, m.2)
  named_alike false n least less =
      rw (older_named n least less, ulong_node) (inl refl)

-- ---- trees

module _ (version : ℕ) (h h' : PartLimits) (room : ℕ) (C D : ℕ → Ty)
    (each : (n : ℕ) → n < type_count → (path : List PathSegment) → IsElsewhere n path →
    AreAlike path (C (older_number n)) (D (number_in_version version n))) where
  nodes_alike : (n : ℕ) → n < type_count → (path : List PathSegment) → IsElsewhere n path →
      AreAlike path (tree_of_node h C (node_in_room room (node_in builtin_types (older_number n))))
      (tree_of_node h' D (node_in_room room (node_in (first_types version)
      (number_in_version version n))))
  nodes_alike n below path elsewhere = go (cases_lt n first_named) (cases_lt n first_later)
    where
      unnamed : IsUnnamed n → AreAlike path
          (tree_of_node h C (node_in_room room (node_in builtin_types (older_number n))))
          (tree_of_node h' D (node_in_room room (node_in (first_types version)
          (number_in_version version n))))
      unnamed is = rw (sym (older_node n below is), sym (version_node version n below is))
          (grown_alike older_number (number_in_version version) C D each h h' room path
          (node_in version_3_types n) (third_fit n below))

      go : (n < first_named) ⊎ (first_named ≤ n) → (n < first_later) ⊎ (first_later ≤ n) →
          AreAlike path (tree_of_node h C (node_in_room room
          (node_in builtin_types (older_number n))))
          (tree_of_node h' D (node_in_room room (node_in (first_types version)
          (number_in_version version n))))
      go (inl less) after = unnamed (inl less)
      go (inr least) (inr later) = unnamed (inr later)
      go (inr least) (inl less) = named_alike h h' C D room path
          (elsewhere (rw (le-leb first_named n least, lt-ltb n first_later less) refl))
          (version == 3) n least less

trees_alike : (version room n : ℕ) → n < type_count → (path : List PathSegment) →
    IsElsewhere n path → AreAlike path (tree_at (first_table 1) room (older_number n))
    (tree_at (first_table version) room (number_in_version version n))
unfolding tree_at
trees_alike version zero = nodes_alike version (limits_in_room (first_table 1) 0)
    (limits_in_room (first_table version) 0) 0 (λ k. octet_type) (λ k. octet_type)
    (λ n below path elsewhere. inl refl)
trees_alike version (suc room) = nodes_alike version (limits_in_room (first_table 1) room)
    (limits_in_room (first_table version) room) room (tree_at (first_table 1) room)
    (tree_at (first_table version) room) (trees_alike version room)

-- ---- headers and bodies

abbrev pub AreAlikeFound : (A B : Option Ty) → Type 0
AreAlikeFound None None = Unit {0}
AreAlikeFound (Some A) (Some B) = AreAlike [] A B
AreAlikeFound A B = ⊥

cell_alike : (version : ℕ) (cell : Option ℕ) →
    IfSome (option_map (number_in_version 3) cell) (λ n. n < type_count) →
    AreAlikeFound (option_map (tree (first_table 1)) (option_map (number_in_version 1) cell))
    (option_map (tree (first_table version)) (option_map (number_in_version version) cell))
cell_alike version None below = tt
cell_alike version (Some n) below = trees_alike version 24 n below [] (λ named. refl)

pub headers_alike : (version minor kind : ℕ) →
    AreAlikeFound (header_type 1 minor kind) (header_type version minor kind)
headers_alike version minor kind =
    cell_alike version (cell_of_minor (slice_get header_rows kind) minor)
    (header_built_in 3 minor kind)

fixed_below : (fixed : Fixed) → fixed_type_in_version_3 fixed < type_count
fixed_below fixeds.ExceptionId = lit< tt
fixed_below fixeds.SystemException = lit< tt
fixed_below fixeds.Forward = lit< tt
fixed_below fixeds.Addressing = lit< tt

pub fixed_alike : (version : ℕ) (fixed : Fixed) →
    AreAlike [] (fixed_type 1 fixed) (fixed_type version fixed)
fixed_alike version fixed =
    trees_alike version 24 (fixed_type_in_version_3 fixed) (fixed_below fixed) [] (λ named. refl)

-- if P holds of a header type of version 1, and P passes from each type to those that are alike, P
-- holds of the header type of another version
pub found_alike : (P : Ty → Type 0) → ((A B : Ty) → AreAlike [] A B → P A → P B) →
    (a b : Option Ty) → AreAlikeFound a b → IfSome a P → IfSome b P
found_alike P keeps a None alike h = tt
found_alike P keeps (Some A) (Some B) alike h = keeps A B alike h
found_alike P keeps None (Some B) alike h = absurd alike

-- ---- the request id

id_number : (B : Ty) → AreAlike id_path (Single (Plain prims.ULong)) B →
    B ≡ Single (Plain prims.ULong)
id_number (Single y) alike = ap Single (sym (same_scalar (Plain prims.ULong) y alike))
id_number B alike = absurd alike

struct_begins : (n : ℕ) (names : ℕ → List ℕ) (parts : ℕ → Ty) (B : Ty) →
    names 0 ≡ codes "request_id" → parts 0 ≡ Single (Plain prims.ULong) →
    AreAlike [] (Struct (suc n) names parts) B → BeginsWithId B
struct_begins n names parts (Struct m others bodies) name_is long (same, called, each) = (
  n,
  others,
  bodies,
  ap (λ k. Struct k others bodies) (sym same),
  sym (called 0) ∙ name_is,
  id_number (bodies 0) (subst (λ T. AreAlike id_path T (bodies 0)) long
      (subst (λ name. AreAlike (Name name ∷ []) (parts 0) (bodies 0)) name_is (each 0))),
)
struct_begins n names parts B name_is long alike = absurd alike

begins_alike : (A B : Ty) → AreAlike [] A B → BeginsWithId A → BeginsWithId B
begins_alike A B alike (n, names, parts, is, name_is, long) =
    struct_begins n names parts B name_is long (subst (λ T. AreAlike [] T B) is alike)

begins_in : (a b : Option Ty) → AreAlikeFound a b → (T : Ty) → a ≡ Some T → BeginsWithId T →
    (U : Ty) × (b ≡ Some U) × BeginsWithId U
begins_in None b alike T is begins = absurd cc
begins_in (Some A) None alike T is begins = absurd alike
begins_in (Some A) (Some B) alike T is begins =
    (B, refl, begins_alike A B alike (subst (λ o. IfSome o BeginsWithId) (sym is) begins))

-- if a header begins with its request id in version 1, it does so in each version
pub begins_in_each : (version minor kind : ℕ) (T : Ty) → header_type 1 minor kind ≡ Some T →
    BeginsWithId T → (U : Ty) × (header_type version minor kind ≡ Some U) × BeginsWithId U
begins_in_each version minor kind = begins_in (header_type 1 minor kind)
    (header_type version minor kind) (headers_alike version minor kind)
