-- The types of each version are a table, which computed tests show, and each catalogue begins with
-- those of its version.
use Rattle.std.proofs.Common.{◌≡◌, ℕ, zero, suc, ◌+◌, ◌-◌, ◌^◌, ◌<◌, ◌≤◌, Bool, true, false, ◌&&◌, ltb, leb, List, [], ◌∷◌, ◌++◌, length, map, get_or, Option, Some, None, refl, sym, ap, ◌∙◌, subst, take, lit<, lit≤, arith}
use Rattle.std.specs.Prelude.{slice_get, IfSome, cond, not, ◌==◌}
use Rattle.std.specs.Option.{option_map}
use Rattle.std.specs.List.{AllByRecursion}
use Rattle.std.proofs.lemmas.Bool.{eqb-true, ltb-true, ltb-false, leb-true}
use Rattle.std.proofs.Math.Seq.{get_or-append_right}
use Rattle.std.proofs.lemmas.List.{append-nil, get_or-map, get_or_append_left, length-append, length-take-le, get_or-take}
use Rattle.std.proofs.lemmas.List.Elements.{All-from_recursion}
use Rattle.giop_cdr.specs.declared.prim.Primitive.TheVariants.{Octet}
use Rattle.giop_sig.specs.declared.types.Selected.TheVariants as selecteds
use Rattle.giop_sig.specs.declared.types.Fixed.{Fixed}
use Rattle.giop_sig.specs.declared.types.Fixed.TheVariants as fixeds
use Rattle.giop_sig.specs.declared.numbers.TheConstants.{BUILTIN_LEN, CODE_SETS, CONTEXT_ID, THIRD_LEN, ULONG}
use Rattle.giop_sig.specs.Fits.{IsFit}
use Rattle.giop_sig.specs.Table.{Node, Part, Case, Table, node_in, takes_octet, IsFormed, IsPartNumber, IsPart, IsDiscriminatorNumber, TakesOctet, IsScalarNode}
use Rattle.giop_sig.specs.Table as nodes
use Rattle.giop_sig.specs.Trees.{tree, depth_at, depth_in, depth_of, parameters_room, AreFormed, AreTypes, AllHaveParameterTypes, IsResolved, HasParameterTypes, IsParameterType}
use Rattle.giop_sig.specs.Heard.{first_fronts}
use Rattle.giop_sig.specs.Builtin.{builtin_types, compound_types, leaf_types, numbers_with_names, number_in_version, older_number, renumbered}
use Rattle.giop_sig.specs.AnyTypes.{any_types, first_table, first_types, version_3_types}
use Rattle.giop_sig.specs.HeaderTypes.{fixed_type_number, fixed_type_in_version_3, header_type_number, header_rows, header_type, flattened_cell, cell_of_minor, AreBeforeVersion3, IsBeforeVersion3, IsTable, KnowsAnys, TableOf}
use Rattle.giop_sig.proofs.Rooms.{tree_moved}
use Rattle.giop_sig.proofs.Formed.{SameNodes, formed_moved}
use Rattle.giop_sig.proofs.Depths.{FormedBelow, HasNoAnyOrRecursion, deepest_more}
use Rattle.giop_sig.proofs.Solid.{both, fit_at, takes_by}

scalar_test : Node → Bool
scalar_test (nodes.prim p) = true
scalar_test (nodes.enumeration names) = true
scalar_test (nodes.marked mark) = true
scalar_test node = false

scalar_by : (node : Node) → scalar_test node ≡ true → IsScalarNode node
unfolding scalar_test
scalar_by (nodes.prim p) e = tt
scalar_by (nodes.enumeration names) e = tt
scalar_by (nodes.marked mark) e = tt
scalar_by _ e = absurd cc

switch_test : List Node → ℕ → ℕ → Bool
switch_test types n i = ltb i n && scalar_test (node_in types i)

switch_by : (types : List Node) (n i : ℕ) → switch_test types n i ≡ true
    → IsDiscriminatorNumber types n i
unfolding switch_test
switch_by types n i e = search (arith, both, ltb, ltb-true, scalar_by)

inner_test : List Node → ℕ → ℕ → Bool
inner_test types n i = ltb i n && takes_octet (node_in types i)

inner_by : (types : List Node) (n i : ℕ) → inner_test types n i ≡ true → IsPartNumber types n i
unfolding inner_test
inner_by types n i e = search (arith, both, ltb, ltb-true, takes_by)

part_test : List Node → ℕ → Part → Bool
part_test types n p = inner_test types n p.type && leb (length p.name) 64

part_by : (types : List Node) (n : ℕ) (p : Part) → part_test types n p ≡ true → IsPart types n p
unfolding part_test
part_by types n p e = search (arith, both, leb, inner_by, leb-true)

parts_test : List Node → ℕ → List Part → Bool
parts_test types n [] = true
parts_test types n (p ∷ ps) = part_test types n p && parts_test types n ps

parts_by : (types : List Node) (n : ℕ) (ps : List Part) → parts_test types n ps ≡ true
    → AllByRecursion (IsPart types n) ps
unfolding parts_test
parts_by types n [] e = tt
parts_by types n (p ∷ ps) e = let k = both (part_test types n p) (parts_test types n ps) e in
    (part_by types n p k.0, parts_by types n ps k.1)

cases_test : List Node → ℕ → List Case → Bool
cases_test types n [] = true
cases_test types n (c ∷ cs) = part_test types n c.part && cases_test types n cs

cases_by : (types : List Node) (n : ℕ) (cs : List Case) → cases_test types n cs ≡ true
    → AllByRecursion (λ c. IsPart types n c.part) cs
unfolding cases_test
cases_by types n [] e = tt
cases_by types n (c ∷ cs) e = let k = both (part_test types n c.part) (cases_test types n cs) e in
    (part_by types n c.part k.0, cases_by types n cs k.1)

narrow_test : List Node → ℕ → Option ℕ → List Case → Bool
narrow_test types n wide [] = true
narrow_test types n wide (c ∷ cs) =
    part_test types n (nodes.narrow_part wide c.part) && narrow_test types n wide cs

narrow_by : (types : List Node) (n : ℕ) (wide : Option ℕ) (cs : List Case)
    → narrow_test types n wide cs ≡ true
    → AllByRecursion (λ c. IsPart types n (nodes.narrow_part wide c.part)) cs
unfolding narrow_test
narrow_by types n wide [] e = tt
narrow_by types n wide (c ∷ cs) e =
    let p = nodes.narrow_part wide c.part in
    let k = both (part_test types n p) (narrow_test types n wide cs) e in
    (part_by types n p k.0, narrow_by types n wide cs k.1)

names_test : List (List ℕ) → Bool
names_test [] = true
names_test (x ∷ xs) = leb (length x) 64 && names_test xs

names_by : (xs : List (List ℕ)) → names_test xs ≡ true
    → AllByRecursion (λ name. length name ≤ 64) xs
unfolding names_test
names_by [] e = tt
names_by (x ∷ xs) e = let k = both (leb (length x) 64) (names_test xs) e in
    (leb-true (length x) 64 k.0, names_by xs k.1)

-- this test finds a union well formed only if it has no default
node_test : List Node → ℕ → Node → Bool
node_test types n (nodes.enumeration names) = leb (length names) 1024 && names_test names
node_test types n (nodes.members parts) = leb (length parts) 256 && parts_test types n parts
node_test types n (nodes.union switch cases selecteds.Refused) =
    switch_test types n switch && (leb (length cases) 256 && cases_test types n cases)
node_test types n (nodes.union switch cases otherwise) = false
node_test types n (nodes.sequence bound element) = inner_test types n element
node_test types n (nodes.array count element) = ltb 0 count && inner_test types n element
node_test types n (nodes.encapsulation held) = inner_test types n held
node_test types n (nodes.tagged special tag inner other) =
    switch_test types n tag.type && parts_test types n (tag ∷ inner ∷ other ∷ [])
node_test types n (nodes.any code) = inner_test types n code
node_test types n (nodes.recursive bound element) = false
node_test types n (nodes.typecode wide kind cases) =
    switch_test types n kind && (leb (length cases) 256 && narrow_test types n wide cases)
node_test types n _ = true

node_by : (types : List Node) (n : ℕ) (node : Node)
    → node_test types n node ≡ true → IsFormed types n node
unfolding node_test
node_by types n (nodes.enumeration names) e =
    let k = both (leb (length names) 1024) (names_test names) e in (
      leb-true (length names) 1024 k.0,
      All-from_recursion (λ name. length name ≤ 64) names
          (names_by names k.1),
    )
node_by types n (nodes.members parts) e =
    let k = both (leb (length parts) 256) (parts_test types n parts) e in (
      leb-true (length parts) 256 k.0,
      All-from_recursion (IsPart types n) parts
          (parts_by types n parts k.1),
    )
node_by types n (nodes.union switch cases selecteds.Refused) e =
    let k = both (switch_test types n switch) (leb (length cases) 256 && cases_test types n cases) e
    in
    let c = both (leb (length cases) 256) (cases_test types n cases) k.1 in (
      switch_by types n switch k.0,
      leb-true (length cases) 256 c.0,
      All-from_recursion (λ (x : Case). IsPart types n x.part) cases (cases_by types n cases c.1),
      tt,
    )
node_by types n (nodes.union switch cases (selecteds.Case i)) e = absurd cc
node_by types n (nodes.union switch cases selecteds.Nothing) e = absurd cc
node_by types n (nodes.sequence bound element) e = inner_by types n element e
node_by types n (nodes.array count element) e = search (arith, both, ltb, ltb-true, inner_by)
node_by types n (nodes.encapsulation held) e = inner_by types n held e
node_by types n (nodes.tagged special tag inner other) e =
    let k = both (switch_test types n tag.type) (parts_test types n (tag ∷ inner ∷ other ∷ [])) e in
    let p = parts_by types n (tag ∷ inner ∷ other ∷ []) k.1 in
    (switch_by types n tag.type k.0, p.0, p.1.0, p.1.1.0)
node_by types n (nodes.any code) e = inner_by types n code e
node_by types n (nodes.recursive bound element) e = absurd cc
node_by types n (nodes.typecode wide kind cases) e =
    let k = both (switch_test types n kind)
    (leb (length cases) 256 && narrow_test types n wide cases) e in
    let c = both (leb (length cases) 256) (narrow_test types n wide cases) k.1 in (
      switch_by types n kind k.0,
      leb-true (length cases) 256 c.0,
      All-from_recursion (λ (x : Case). IsPart types n (nodes.narrow_part wide x.part)) cases
          (narrow_by types n wide cases c.1),
    )
node_by types n _ e = tt

table_test : List Node → ℕ → List Node → Bool
table_test types n [] = true
table_test types n (x ∷ xs) = node_test types n x && table_test types (suc n) xs

table_by : (types : List Node) (n : ℕ) (xs : List Node) (i k : ℕ) → table_test types n xs ≡ true
    → i < length xs → k ≡ n + i → IsFormed types k (get_or xs i (nodes.prim Octet))
unfolding table_test
table_by types n [] i k e lt at = absurd (omega arith)
table_by types n (x ∷ xs) zero k e lt at = search (arith, both, node_by)
table_by types n (x ∷ xs) (suc i) k e lt at =
    let b = both (node_test types n x) (table_test types (suc n) xs) e in
    table_by types (suc n) xs i k b.1 (omega arith) (omega arith)

-- ---- the types of each version

-- the deepest type of each version is the header of a 1.2 request
builtin_depth : depth_of builtin_types ≡ 9
unfolding depth_of depth_at builtin_types
builtin_depth = refl

third_depth : depth_of version_3_types ≡ 9
unfolding depth_of depth_at version_3_types any_types
third_depth = refl

depth_by : (v : Bool) → depth_of (cond v version_3_types builtin_types) ≡ 9
depth_by true = third_depth
depth_by false = builtin_depth

first_depth : (version : ℕ) → depth_of (first_types version) ≡ 9
first_depth version = depth_by (version == 3)

builtin_test : table_test builtin_types 0 builtin_types ≡ true
unfolding table_test node_test names_test cases_test parts_test part_test switch_test inner_test
    scalar_test builtin_types
builtin_test = refl

third_test : table_test version_3_types 0 version_3_types ≡ true
unfolding table_test node_test names_test cases_test narrow_test parts_test part_test switch_test
    inner_test scalar_test version_3_types any_types
third_test = refl

are_by : (v : Bool) → AreFormed (cond v version_3_types builtin_types)
unfolding builtin_types version_3_types any_types
are_by true = record {
  few = lit< tt;
  formed = λ i lt. table_by version_3_types 0 version_3_types i i third_test lt (omega arith);
}
are_by false = record {
  few = lit< tt;
  formed = λ i lt. table_by builtin_types 0 builtin_types i i builtin_test lt (omega arith);
}

-- none of the types is recursive
unfoldable pub is_recursive : (node : Node) → Bool
is_recursive (nodes.recursive bound element) = true
is_recursive node = false

unfoldable pub none_recursive : (nodes : List Node) → Bool
none_recursive [] = true
none_recursive (n ∷ ns) = not (is_recursive n) && none_recursive ns

settled_by : (types : List Node) (node : Node) → not (is_recursive node) ≡ true
    → IsResolved types node
unfolding is_recursive
settled_by types (nodes.recursive bound element) e = absurd cc
settled_by types _ e = tt

none_settled : (types ns : List Node) (i : ℕ) → none_recursive ns ≡ true → i < length ns
    → IsResolved types (node_in ns i)
unfolding none_recursive
none_settled types [] i e lt = absurd (omega arith)
none_settled types (n ∷ ns) zero e lt =
    settled_by types n (both (not (is_recursive n)) (none_recursive ns) e).0
none_settled types (n ∷ ns) (suc i) e lt =
    none_settled types ns i (both (not (is_recursive n)) (none_recursive ns) e).1 (omega arith)

pub first_none : (v : Bool) → none_recursive (cond v version_3_types builtin_types) ≡ true
unfolding none_recursive is_recursive builtin_types version_3_types any_types
first_none true = refl
first_none false = refl

-- the first types are those of a table
pub first_are : (version : ℕ) → AreTypes (first_types version)
first_are version = record {
  placed = are_by (version == 3);
  shallow = omega (arith, first_depth version);
  settled = λ i lt. none_settled (first_types version) (first_types version) i
      (first_none (version == 3)) lt;
}

pub first_shallow : (version : ℕ) → depth_of (first_types version) ≤ 24
first_shallow version = (first_are version).shallow

few_by : (v : Bool) → length (cond v version_3_types builtin_types) ≤ THIRD_LEN
unfolding builtin_types version_3_types any_types
few_by true = lit≤ tt
few_by false = lit≤ tt

pub first_few : (version : ℕ) → length (first_types version) ≤ THIRD_LEN
first_few version = few_by (version == 3)

pub more_by : (v w : Bool) → (v ≡ true → w ≡ true)
    → length (cond v version_3_types builtin_types) ≤ length (cond w version_3_types builtin_types)
unfolding builtin_types version_3_types any_types
more_by true true on = lit≤ tt
more_by true false on = let e = on refl in absurd cc
more_by false true on = lit≤ tt
more_by false false on = lit≤ tt

-- ---- which of the types have to do with anys

plain_test : Node → Bool
plain_test nodes.wide_text = false
plain_test nodes.wide_char = false
plain_test (nodes.marked mark) = false
plain_test (nodes.any code) = false
plain_test (nodes.announced index) = false
plain_test (nodes.recursive bound element) = false
plain_test (nodes.typecode wide kind cases) = false
plain_test node = true

plain_by : (node : Node) → plain_test node ≡ true → IsBeforeVersion3 node
unfolding plain_test
plain_by nodes.wide_text e = absurd cc
plain_by nodes.wide_char e = absurd cc
plain_by (nodes.marked mark) e = absurd cc
plain_by (nodes.any code) e = absurd cc
plain_by (nodes.announced index) e = absurd cc
plain_by (nodes.recursive bound element) e = absurd cc
plain_by (nodes.typecode wide kind cases) e = absurd cc
plain_by _ e = tt

all_plain_test : List Node → Bool
all_plain_test [] = true
all_plain_test (x ∷ xs) = plain_test x && all_plain_test xs

all_plain_by : (xs : List Node) → all_plain_test xs ≡ true → AreBeforeVersion3 xs
unfolding all_plain_test
all_plain_by [] e i lt = absurd (omega arith)
all_plain_by (x ∷ xs) e zero lt = search (arith, both, plain_by)
all_plain_by (x ∷ xs) e (suc i) lt = let k = both (plain_test x) (all_plain_test xs) e in
    all_plain_by xs k.1 i (omega arith)

-- no type of versions 1 and 2 has to do with anys
builtin_plain : AreBeforeVersion3 builtin_types
unfolding all_plain_test plain_test builtin_types
builtin_plain = all_plain_by builtin_types refl

pub wide_plain : (types : List Node) (node : Node) → IsBeforeVersion3 node
    → HasParameterTypes types node
wide_plain types (nodes.typecode wide kind cases) plain = absurd plain
wide_plain types _ plain = tt

plain_wide : (types : List Node) → AreBeforeVersion3 types → AllHaveParameterTypes types
plain_wide types are i lt = wide_plain types (node_in types i) (are i lt)

first_anys : (version : ℕ) (types : List Node) → ((version ≡ 3 → ⊥) → AreBeforeVersion3 types)
    → AllHaveParameterTypes types → KnowsAnys version types first_fronts
first_anys version types plain wide = record {
  plain = plain;
  wide = wide;
  short = All-from_recursion (λ front. length front ≤ 129) first_fronts
      (lit≤ tt, (lit≤ tt, (lit≤ tt, tt)));
  few = lit≤ tt;
}

wide_part_test : List Node → ℕ → Bool
wide_part_test types i =
    ltb i (length types) && (takes_octet (node_in types i) && leb
    (depth_in types i) parameters_room)

wide_part_by : (types : List Node) (i : ℕ) → wide_part_test types i ≡ true → IsParameterType types i
unfolding wide_part_test
wide_part_by types i e =
    let k = both (ltb i (length types))
    (takes_octet (node_in types i) && leb (depth_in types i) parameters_room) e in
    let t = both (takes_octet (node_in types i)) (leb (depth_in types i) parameters_room) k.1 in
    record {
      known = ltb-true i (length types) k.0;
      takes = takes_by (node_in types i) t.0;
      shallow = leb-true (depth_in types i) parameters_room t.1;
    }

wide_cases_test : List Node → List Case → Bool
wide_cases_test types [] = true
wide_cases_test types (c ∷ cs) = wide_part_test types c.part.type && wide_cases_test types cs

wide_cases_by : (types : List Node) (cs : List Case) → wide_cases_test types cs ≡ true
    → AllByRecursion (λ c. IsParameterType types c.part.type) cs
unfolding wide_cases_test
wide_cases_by types [] e = tt
wide_cases_by types (c ∷ cs) e =
    let k = both (wide_part_test types c.part.type) (wide_cases_test types cs) e in
    (wide_part_by types c.part.type k.0, wide_cases_by types cs k.1)

wide_test : List Node → Node → Bool
wide_test types (nodes.typecode wide kind cases) = wide_cases_test types cases
wide_test types node = true

wide_by : (types : List Node) (node : Node) → wide_test types node ≡ true
    → HasParameterTypes types node
unfolding wide_test
wide_by types (nodes.typecode wide kind cases) e =
    All-from_recursion (λ (c : Case). IsParameterType types c.part.type) cases
    (wide_cases_by types cases e)
wide_by types _ e = tt

all_wide_test : List Node → List Node → Bool
all_wide_test types [] = true
all_wide_test types (x ∷ xs) = wide_test types x && all_wide_test types xs

all_wide_by : (types xs : List Node) (i : ℕ) → all_wide_test types xs ≡ true → i < length xs
    → HasParameterTypes types (node_in xs i)
unfolding all_wide_test
all_wide_by types [] i e lt = absurd (omega arith)
all_wide_by types (x ∷ xs) zero e lt = search (arith, both, wide_by)
all_wide_by types (x ∷ xs) (suc i) e lt =
    let k = both (wide_test types x) (all_wide_test types xs) e in
    all_wide_by types xs i k.1 (omega arith)

third_wide_test : all_wide_test version_3_types version_3_types ≡ true
unfolding all_wide_test wide_test wide_cases_test wide_part_test depth_at version_3_types any_types
third_wide_test = refl

third_wide : AllHaveParameterTypes version_3_types
third_wide i lt = all_wide_by version_3_types version_3_types i third_wide_test lt

anys_by : (version : ℕ) (v : Bool) → (version == 3) ≡ v
    → KnowsAnys version (cond v version_3_types builtin_types) first_fronts
anys_by version true third = first_anys version version_3_types
    (λ other. absurd (other (eqb-true version 3 third))) third_wide
anys_by version false other = first_anys version builtin_types (λ other. builtin_plain)
    (plain_wide builtin_types builtin_plain)

-- the table of a file without declarations
pub builtin_is : (version : ℕ) → IsTable (first_table version)
builtin_is version = record {
  types = first_are version;
  begins = ([], search (append-nil));
  operations = search (arith);
  exceptions = search (arith);
  operations_distinct = λ i j li lj e. absurd (omega arith);
  exceptions_distinct = λ i j li lj e. absurd (omega arith);
  operations_few = lit≤ tt;
  exceptions_few = lit≤ tt;
  declared_few = lit≤ tt;
  called_few = lit≤ tt;
  identities = search (arith);
  identities_distinct = λ i j li lj e. absurd (omega arith);
  interfaces_few = lit≤ tt;
  anys = anys_by version (version == 3) refl;
}

pub first_is : (version : ℕ) → TableOf AreFormed (first_table version)
first_is version = let is = builtin_is version in record {
  types = is.types.placed;
  begins = is.begins;
  operations = is.operations;
  exceptions = is.exceptions;
  operations_distinct = is.operations_distinct;
  exceptions_distinct = is.exceptions_distinct;
  operations_few = is.operations_few;
  exceptions_few = is.exceptions_few;
  declared_few = is.declared_few;
  called_few = is.called_few;
  identities = is.identities;
  identities_distinct = is.identities_distinct;
  interfaces_few = is.interfaces_few;
  anys = is.anys;
}

-- ---- the first types, one by one

-- the next type can be added
pub next_formed : (all : List Node) (n : ℕ) (types : List Node) (node : Node) → AreFormed all
    → n < length all → types ≡ take n all → node ≡ node_in all n
    → IsFormed types (length types) node
next_formed all n types node are lt front is =
    let length_is : length types ≡ n = ap length front ∙ length-take-le n all (omega arith) in
    subst (λ k. IsFormed types k node) (sym length_is)
    (subst (IsFormed types n) (sym is)
    (formed_moved all types n (node_in all n)
    (λ i below. sym (ap (λ xs. node_in xs i) front ∙ get_or-take n all i (nodes.prim Octet) below))
    (are.formed n lt)))

pub next_few : (all : List Node) (n : ℕ) (types : List Node) → AreFormed all
    → n < length all → types ≡ take n all → length types + 1 < 2 ^ 32
next_few all n types are lt front =
    omega (arith, ap length front, length-take-le n all (omega arith), are.few)

-- the types after the built-in ones
pub third_node : (n : ℕ) → BUILTIN_LEN ≤ n
    → node_in version_3_types n ≡ node_in any_types (n - BUILTIN_LEN)
unfolding version_3_types
third_node n le =
    get_or-append_right (leaf_types ++ numbers_with_names ++ compound_types) any_types n
    (nodes.prim Octet) le

third_same : map (renumbered (λ n. n)) version_3_types ≡ version_3_types
unfolding version_3_types any_types
third_same = refl

-- a type of version 3, with the numbers of its version
numbered_third : (n : ℕ) → n < length version_3_types
    → renumbered (λ n. n) (node_in version_3_types n) ≡ node_in version_3_types n
numbered_third n lt =
    sym (get_or-map (renumbered (λ n. n)) version_3_types n (nodes.prim Octet)
    (nodes.prim Octet) lt)
    ∙ ap (λ types. node_in types n) third_same

numbered_older : (n : ℕ) → n < length builtin_types
    → node_in builtin_types n ≡ renumbered older_number (node_in (leaf_types ++ compound_types) n)
unfolding builtin_types
numbered_older n lt =
    get_or-map (renumbered older_number) (leaf_types ++ compound_types) n (nodes.prim Octet)
    (nodes.prim Octet) lt

-- types with the same number in each version
leaf_by : (n : ℕ) → n < CONTEXT_ID
    → node_in version_3_types n ≡ node_in (leaf_types ++ compound_types) n
unfolding version_3_types
leaf_by n lt =
    get_or_append_left leaf_types (numbers_with_names ++ compound_types ++ any_types)
    (nodes.prim Octet) n
    lt
    ∙ sym (get_or_append_left leaf_types compound_types (nodes.prim Octet) n lt)

-- types whose number is greater by 4 in version 3
later_by : (n : ℕ) → CONTEXT_ID ≤ n → n < length builtin_types
    → node_in version_3_types (n + 4) ≡ node_in (leaf_types ++ compound_types) n
unfolding version_3_types builtin_types
later_by n le lt =
    let less : n + 4 - 17 ≡ n - CONTEXT_ID = omega arith in
    get_or-append_right (leaf_types ++ numbers_with_names) (compound_types ++ any_types) (n + 4)
    (nodes.prim Octet) (omega arith)
    ∙ ap (node_in (compound_types ++ any_types)) less
    ∙ get_or_append_left compound_types any_types (nodes.prim Octet) (n - CONTEXT_ID) (omega arith)
    ∙ sym (get_or-append_right leaf_types compound_types n (nodes.prim Octet) le)

pub leaf_older : (n : ℕ) → n < CONTEXT_ID → n < length builtin_types
    → renumbered older_number (node_in version_3_types n) ≡ node_in builtin_types n
leaf_older n front lt = ap (renumbered older_number) (leaf_by n front) ∙ sym (numbered_older n lt)

pub later_older : (n : ℕ) → CONTEXT_ID ≤ n → n < length builtin_types
    → renumbered older_number (node_in version_3_types (n + 4)) ≡ node_in builtin_types n
later_older n le lt = ap (renumbered older_number) (later_by n le lt) ∙ sym (numbered_older n lt)

pub later_few : (n : ℕ) → n < length builtin_types → n + 4 < THIRD_LEN
unfolding builtin_types
later_few n lt = omega arith

third_by : (v : Bool) (n : ℕ) → v ≡ true → n < length (cond v version_3_types builtin_types)
    → renumbered (λ k. cond v k (older_number k)) (node_in version_3_types n)
    ≡ node_in (cond v version_3_types builtin_types) n
third_by true n third lt = numbered_third n lt
third_by false n third lt = absurd cc

older_by : (v : Bool) (k n : ℕ) → v ≡ false
    → renumbered older_number (node_in version_3_types k) ≡ node_in builtin_types n
    → renumbered (λ k. cond v k (older_number k)) (node_in version_3_types k)
    ≡ node_in (cond v version_3_types builtin_types) n
older_by true k n other same = absurd cc
older_by false k n other same = same

known_by : (v : Bool) (n : ℕ) → v ≡ false → n < length (cond v version_3_types builtin_types)
    → n < length builtin_types
known_by true n other lt = absurd cc
known_by false n other lt = lt

-- the type of a number in version 3
pub in_third : (version n : ℕ) → (version == 3) ≡ true → n < length (first_types version)
    → renumbered (number_in_version version) (node_in version_3_types n) ≡ node_in
    (first_types version) n
in_third version n third lt = third_by (version == 3) n third lt

-- the type of a number in another version
pub in_older : (version k n : ℕ) → (version == 3) ≡ false
    → renumbered older_number (node_in version_3_types k) ≡ node_in builtin_types n
    → renumbered (number_in_version version) (node_in version_3_types k) ≡ node_in
    (first_types version) n
in_older version k n other same = older_by (version == 3) k n other same

pub known_third : (version n : ℕ) → n < length (first_types version) → n < THIRD_LEN
known_third version n lt = omega (arith, first_few version)

pub known_older : (version n : ℕ) → (version == 3) ≡ false → n < length (first_types version)
    → n < length builtin_types
known_older version n other lt = known_by (version == 3) n other lt

-- ---- in each catalogue

-- how many types of a version are before those of anys
abbrev pub builtin_len : (version : ℕ) → ℕ
builtin_len version = number_in_version version BUILTIN_LEN

front_by : (v : Bool)
    → cond v BUILTIN_LEN (older_number BUILTIN_LEN) ≤ length (cond v version_3_types builtin_types)
unfolding builtin_types version_3_types any_types
front_by true = lit≤ tt
front_by false = lit≤ tt

first_front : (version : ℕ) → builtin_len version ≤ length (first_types version)
first_front version = front_by (version == 3)

pub builtin_known : (t : Table) (i : ℕ) → IsTable t → i < builtin_len t.version
    → i < length t.types
builtin_known t i laws lt =
    let b = laws.begins in
    omega (
      arith,
      ap length b.1,
      length-append (first_types t.version) b.0,
      first_front t.version,
    )

all_take_test : List Node → Bool
all_take_test [] = true
all_take_test (x ∷ xs) = takes_octet x && all_take_test xs

all_take_by : (xs : List Node) (i : ℕ) → all_take_test xs ≡ true → i < length xs
    → TakesOctet (node_in xs i)
unfolding all_take_test
all_take_by [] i e lt = absurd (omega arith)
all_take_by (x ∷ xs) zero e lt = search (arith, both, takes_by)
all_take_by (x ∷ xs) (suc i) e lt = let k = both (takes_octet x) (all_take_test xs) e in
    all_take_by xs i k.1 (omega arith)

takes_by_version : (v : Bool) (i : ℕ) → i < length (cond v version_3_types builtin_types)
    → TakesOctet (node_in (cond v version_3_types builtin_types) i)
unfolding all_take_test builtin_types version_3_types any_types
takes_by_version true i lt = all_take_by version_3_types i refl lt
takes_by_version false i lt = all_take_by builtin_types i refl lt

-- each of the first types takes an octet
pub first_takes : (version i : ℕ) → i < length (first_types version)
    → TakesOctet (node_in (first_types version) i)
first_takes version i lt = takes_by_version (version == 3) i lt

steady_test : Node → Bool
steady_test (nodes.any code) = false
steady_test (nodes.recursive bound element) = false
steady_test (nodes.typecode wide kind cases) = false
steady_test node = true

steady_by : (node : Node) → steady_test node ≡ true → HasNoAnyOrRecursion node
unfolding steady_test
steady_by (nodes.any code) e = absurd cc
steady_by (nodes.recursive bound element) e = absurd cc
steady_by (nodes.typecode wide kind cases) e = absurd cc
steady_by _ e = tt

all_steady_test : ℕ → List Node → Bool
all_steady_test zero xs = true
all_steady_test (suc n) [] = true
all_steady_test (suc n) (x ∷ xs) = steady_test x && all_steady_test n xs

all_steady_by : (n : ℕ) (xs : List Node) (i : ℕ) → all_steady_test n xs ≡ true → i < n
    → HasNoAnyOrRecursion (node_in xs i)
unfolding all_steady_test
all_steady_by zero xs i e lt = absurd (omega arith)
all_steady_by (suc n) [] i e lt = tt
all_steady_by (suc n) (x ∷ xs) zero e lt = search (arith, both, steady_by)
all_steady_by (suc n) (x ∷ xs) (suc i) e lt =
    let k = both (steady_test x) (all_steady_test n xs) e in all_steady_by n xs i k.1 (omega arith)

steady_in : (v : Bool) (i : ℕ) → i < cond v BUILTIN_LEN (older_number BUILTIN_LEN)
    → HasNoAnyOrRecursion (node_in (cond v version_3_types builtin_types) i)
unfolding all_steady_test steady_test builtin_types version_3_types
steady_in true i lt = all_steady_by BUILTIN_LEN version_3_types i refl lt
steady_in false i lt = all_steady_by (older_number BUILTIN_LEN) builtin_types i refl lt

first_same : (t : Table) → IsTable t
    → SameNodes (first_types t.version) t.types (builtin_len t.version)
first_same t laws i lt = let b = laws.begins in
    let below : i < length (first_types t.version) = omega (arith, first_front t.version) in
    sym (ap (λ types. node_in types i) b.1
    ∙ get_or_append_left (first_types t.version) b.0 (nodes.prim Octet) i below)

first_placed : (version : ℕ) → FormedBelow (first_types version) (builtin_len version)
first_placed version i lt =
    (first_are version).placed.formed i (omega (arith, first_front version))

older_less : (a b : Bool) (n : ℕ) → ltb n CONTEXT_ID ≡ a → ltb n CODE_SETS ≡ b
    → n < BUILTIN_LEN → cond a n (cond b ULONG (n - 4)) < older_number BUILTIN_LEN
older_less true b n e f lt = omega (arith, ltb-true n CONTEXT_ID e)
older_less false true n e f lt = lit< tt
older_less false false n e f lt = omega (arith, ltb-false n CODE_SETS f)

less_by : (v : Bool) (n : ℕ) → n < BUILTIN_LEN
    → cond v n (older_number n) < cond v BUILTIN_LEN (older_number BUILTIN_LEN)
less_by true n lt = lt
less_by false n lt = older_less (ltb n CONTEXT_ID) (ltb n CODE_SETS) n refl refl lt

-- a built-in type is one in each version
number_less : (version n : ℕ) → n < BUILTIN_LEN → number_in_version version n < builtin_len version
number_less version n lt = less_by (version == 3) n lt

-- the first types that a file's types may have as parts: those with the same number in each version
least_by : (v : Bool) → 41 ≤ length (cond v version_3_types builtin_types)
unfolding builtin_types version_3_types any_types
least_by true = lit≤ tt
least_by false = lit≤ tt

pub first_leaf : (version k : ℕ) → k < CONTEXT_ID → k < length (first_types version)
first_leaf version k lt = omega (arith, least_by (version == 3))

-- built-in types are known
pub first_known : (version k : ℕ) → k < BUILTIN_LEN
    → number_in_version version k < length (first_types version)
first_known version k lt = omega (arith, number_less version k lt, first_front version)

-- in version 3 all first types are known
whole_by : (v : Bool) → v ≡ true → length (cond v version_3_types builtin_types) ≡ THIRD_LEN
unfolding version_3_types any_types
whole_by true third = refl
whole_by false third = absurd cc

pub first_third : (version k : ℕ) → (version == 3) ≡ true → k < THIRD_LEN
    → k < length (first_types version)
first_third version k third lt = omega (arith, whole_by (version == 3) third)

-- a type before those of anys has the same tree in each catalogue of its version
pub builtin_tree : (t : Table) (i : ℕ) → IsTable t → i < builtin_len t.version
    → tree t i ≡ tree (first_table t.version) i
builtin_tree t i laws lt =
    sym (tree_moved (first_table t.version) t (builtin_len t.version) 24 i
    (first_placed t.version) (λ k below. steady_in (t.version == 3) k below) (first_same t laws) lt)

pub builtin_fit : (t : Table) (i : ℕ) → IsTable t → i < builtin_len t.version
    → IsFit 24 (tree t i)
builtin_fit t i laws lt =
    let below : i < length (first_types t.version) = omega (arith, first_front t.version) in
    subst (IsFit 24) (sym (builtin_tree t i laws lt))
    (fit_at (first_table t.version) i (first_are t.version) (builtin_is t.version).anys.wide below
    (first_takes t.version i below))

-- ---- the header types

cell_test : Option ℕ → Bool
cell_test None = true
cell_test (Some n) = ltb n BUILTIN_LEN

row_test : List (Option ℕ) → Bool
row_test [] = true
row_test (c ∷ cs) = cell_test c && row_test cs

rows_test : List (List (Option ℕ)) → Bool
rows_test [] = true
rows_test (r ∷ rs) = row_test r && rows_test rs

cell_by : (c : Option ℕ) → cell_test c ≡ true → IfSome c (λ n. n < BUILTIN_LEN)
unfolding cell_test
cell_by None e = tt
cell_by (Some n) e = ltb-true n BUILTIN_LEN e

row_by : (cs : List (Option ℕ)) (i : ℕ) → row_test cs ≡ true
    → IfSome (flattened_cell (slice_get cs i)) (λ n. n < BUILTIN_LEN)
unfolding row_test
row_by [] i e = tt
row_by (c ∷ cs) zero e = search (arith, both, cell_by)
row_by (c ∷ cs) (suc i) e = let k = both (cell_test c) (row_test cs) e in row_by cs i k.1

rows_by : (rs : List (List (Option ℕ))) (i minor : ℕ) → rows_test rs ≡ true
    → IfSome (cell_of_minor (slice_get rs i) minor) (λ n. n < BUILTIN_LEN)
unfolding rows_test
rows_by [] i minor e = tt
rows_by (r ∷ rs) zero minor e = search (arith, both, row_by)
rows_by (r ∷ rs) (suc i) minor e = let k = both (row_test r) (rows_test rs) e in
    rows_by rs i minor k.1

some_less : (version : ℕ) (o : Option ℕ) → IfSome o (λ n. n < BUILTIN_LEN)
    → IfSome (option_map (number_in_version version) o) (λ n. n < builtin_len version)
some_less version None less = tt
some_less version (Some n) less = number_less version n less

pub header_built_in : (version minor kind : ℕ)
    → IfSome (header_type_number version minor kind) (λ n. n < builtin_len version)
unfolding rows_test row_test cell_test
header_built_in version minor kind =
    some_less version (cell_of_minor (slice_get header_rows kind) minor)
    (rows_by header_rows kind minor refl)

header_tree : (t : Table) (o : Option ℕ) → IsTable t
    → IfSome o (λ n. n < builtin_len t.version)
    → option_map (tree t) o ≡ option_map (tree (first_table t.version)) o
header_tree t None laws lt = refl
header_tree t (Some n) laws lt = ap Some (builtin_tree t n laws lt)

-- what is true of a number is true of what has that number
pub some_numbered : {X Y : Type 0} (P : Y → Type 0) (f : X → Y) (r : Option X) (o : Option Y)
    → option_map f r ≡ o → IfSome o P → IfSome r (λ x. P (f x))
some_numbered P f None o e h = tt
some_numbered P f (Some x) o e h = search (arith)

pub some_known : (t : Table) (o : Option ℕ) → IsTable t
    → IfSome o (λ n. n < builtin_len t.version) → IfSome o (λ n. n < length t.types)
some_known t None laws lt = tt
some_known t (Some n) laws lt = builtin_known t n laws lt

pub some_fit : (t : Table) (o : Option ℕ) → IsTable t
    → IfSome o (λ n. n < builtin_len t.version) → IfSome o (λ n. IsFit 24 (tree t n))
some_fit t None laws lt = tt
some_fit t (Some n) laws lt = builtin_fit t n laws lt

map_twice : {X Y Z : Type 0} (f : X → Y) (g : Y → Z) (r : Option X)
    → option_map (λ x. g (f x)) r ≡ option_map g (option_map f r)
map_twice f g None = refl
map_twice f g (Some x) = refl

-- the tree of the header type that was found
pub header_found : {X : Type 0} (t : Table) (f : X → ℕ) (r : Option X) (minor kind : ℕ) → IsTable t
    → option_map f r ≡ header_type_number t.version minor kind
    → option_map (λ x. tree t (f x)) r ≡ header_type t.version minor kind
header_found t f r minor kind laws e =
    map_twice f (tree t) r ∙ ap (option_map (tree t)) e
    ∙ header_tree t (header_type_number t.version minor kind) laws
    (header_built_in t.version minor kind)

-- each catalogue is at least as deep as its built-in types
pub least_depth : (t : Table) → IsTable t → 9 ≤ depth_of t.types
least_depth t laws = let b = laws.begins in
    subst (λ types. 9 ≤ depth_of types) (sym b.1)
    (omega (arith, first_depth t.version, deepest_more (first_types t.version) b.0))

third_fixed_less : (f : Fixed) → fixed_type_in_version_3 f < BUILTIN_LEN
third_fixed_less fixeds.ExceptionId = lit< tt
third_fixed_less _ = lit< tt

pub fixed_built_in : (version : ℕ) (f : Fixed) → fixed_type_number version f < builtin_len version
fixed_built_in version f = number_less version (fixed_type_in_version_3 f) (third_fixed_less f)
