-- The end of a file: recursive sequences get the types that were declared, and all else stays.
use Rattle.std.proofs.Common.{◌≡◌, ◌⊎◌, inl, inr, ℕ, zero, suc, ◌+◌, ◌<◌, ◌≤◌, true, List, [], ◌∷◌, ◌++◌, length, map, get_or, Option, Some, None, refl, sym, ap, subst, ◌∙◌, arith}
use Rattle.std.specs.Prelude.{not, ◌==◌}
use Rattle.std.specs.List.{AllByRecursion}
use Rattle.std.proofs.lemmas.Bool.{cases_lt}
use Rattle.std.proofs.lemmas.List.{get_or-map, get_or_past, length-map, map-append}
use Rattle.std.proofs.lemmas.List.Elements.{All-from_recursion, recursion_from_All}
use Rattle.giop_cdr.specs.declared.prim.Primitive.TheVariants.{Octet}
use Rattle.giop_sig.specs.Types.{most}
use Rattle.giop_sig.specs.Table.{Case, Node, Table, Operation, Exception, Identity, IsFormed, IsScalarNode, TakesOctet, node_in, part_at, shape_of, type_of}
use Rattle.giop_sig.specs.Table as nodes
use Rattle.giop_sig.specs.AnyTypes.{first_types}
use Rattle.giop_sig.specs.Trees.{depth_by, depth_at, depth_in, depth_of, shape_has_wide_text, has_wide_text_within, has_wide_text, AreFormed, AreResolved, AllHaveParameterTypes, IsResolved, IsElementType, HasParameterTypes, IsParameterType}
use Rattle.giop_sig.specs.HeaderTypes.{AreBeforeVersion3, IsBeforeVersion3, IsOperation, IsException, IsIdentity, KnowsAnys, TableOf}
use Rattle.giop_sig.specs.Scopes.{Announced, Scope, named, number_or_0, settled, resolved_node, declared_type_at, types_of_announced, with_resolved_types}
use Rattle.giop_sig.specs.ScopeViews.{IsAnnouncedName, IsDeclaredName, IsKnown, IsKnownType, IsScope, IsDraft}
use Rattle.giop_sig.proofs.Depths.{by_same, most_same}
use Rattle.giop_sig.proofs.Wides.{wide_same}
use Rattle.giop_sig.proofs.Formed.{AlikeBelow, formed_alike, inner_moved}
use Rattle.giop_sig.proofs.Solid.{both}
use Rattle.giop_sig.proofs.Builtins.{is_recursive, none_recursive, first_none}
use Rattle.giop_sig.proofs.TypeTaken.{base_sound, named_known}

-- ---- a node

takes_settled : (ts : List (Option ℕ)) (node : Node) → TakesOctet node
    → TakesOctet (resolved_node ts node)
takes_settled ts (nodes.recursive bound index) takes = tt
takes_settled ts _ takes = takes

scalar_settled : (ts : List (Option ℕ)) (node : Node) → IsScalarNode node
    → IsScalarNode (resolved_node ts node)
scalar_settled ts (nodes.recursive bound index) is = is
scalar_settled ts _ is = is

plain_settled : (ts : List (Option ℕ)) (node : Node) → IsBeforeVersion3 node → IsBeforeVersion3
    (resolved_node ts node)
plain_settled ts (nodes.recursive bound index) is = is
plain_settled ts _ is = is

formed_settled : (ts : List (Option ℕ)) (types : List Node) (i : ℕ) (node : Node)
    → IsFormed types i node → IsFormed types i (resolved_node ts node)
formed_settled ts types i (nodes.recursive bound index) is = is
formed_settled ts types i _ is = is

announced_settled : (ts : List (Option ℕ)) (node : Node) (index : ℕ)
    → node ≡ nodes.announced index → resolved_node ts node ≡ nodes.announced index
announced_settled ts node index e = ap (resolved_node ts) e

-- ---- types

module _ (ts : List (Option ℕ)) (types : List Node) where
  abbrev ended : List Node
  ended = map (resolved_node ts) types

  node_by : (i : ℕ) → (i < length types) ⊎ (length types ≤ i)
      → node_in ended i ≡ resolved_node ts (node_in types i)
  node_by i (inl lt) = get_or-map (resolved_node ts) types i (nodes.prim Octet)
      (nodes.prim Octet) lt
  node_by i (inr le) =
      get_or_past ended i (nodes.prim Octet)
      (omega (arith, length-map types (resolved_node ts)))
      ∙ ap (resolved_node ts) (sym (get_or_past types i (nodes.prim Octet) le))

  pub node_settled : (i : ℕ) → node_in ended i ≡ resolved_node ts (node_in types i)
  node_settled i = node_by i (cases_lt i (length types))

  pub size_settled : length ended ≡ length types
  size_settled = length-map types (resolved_node ts)

  depth_node : (n : ℕ) (node : Node) → ((i : ℕ) → depth_at ended n i ≡ depth_at types n i)
      → depth_by (shape_of (resolved_node ts node))
      (λ k. depth_at ended n (type_of (part_at (resolved_node ts node) k)))
      ≡ depth_by (shape_of node) (λ k. depth_at types n (type_of (part_at node k)))
  depth_node n (nodes.recursive bound index) same = refl
  depth_node n node same =
      by_same (shape_of node) _ _ (λ k has. same (type_of (part_at node k)))

  depth_at_settled : (n i : ℕ) → depth_at ended n i ≡ depth_at types n i
  unfolding depth_at
  depth_at_settled zero i = refl
  depth_at_settled (suc n) i =
      ap (λ node. depth_by (shape_of node) (λ k. depth_at ended n (type_of (part_at node k))))
      (node_settled i)
      ∙ depth_node n (node_in types i) (depth_at_settled n)

  wide_node : (n : ℕ) (node : Node) → ((i : ℕ) → has_wide_text_within ended n i
      ≡ has_wide_text_within types n i)
      → shape_has_wide_text (shape_of (resolved_node ts node))
      (λ k. has_wide_text_within ended n (type_of (part_at (resolved_node ts node) k)))
      ≡ shape_has_wide_text (shape_of node) (λ k. has_wide_text_within types n
      (type_of (part_at node k)))
  wide_node n (nodes.recursive bound index) same = refl
  wide_node n node same = wide_same (shape_of node) _ _ (λ k has. same (type_of (part_at node k)))

  wide_at_settled : (n i : ℕ) → has_wide_text_within ended n i ≡ has_wide_text_within types n i
  unfolding has_wide_text_within
  wide_at_settled zero i = refl
  wide_at_settled (suc n) i =
      ap (λ node. shape_has_wide_text (shape_of node)
      (λ k. has_wide_text_within ended n (type_of (part_at node k))))
      (node_settled i)
      ∙ wide_node n (node_in types i) (wide_at_settled n)

  -- each type keeps its depth
  pub depth_in_settled : (i : ℕ) → depth_in ended i ≡ depth_in types i
  depth_in_settled i = depth_at_settled (i + 25) i

  pub wide_in_settled : (i : ℕ) → has_wide_text ended i ≡ has_wide_text types i
  wide_in_settled i = wide_at_settled (i + 25) i

  pub deepest_settled : depth_of ended ≡ depth_of types
  unfolding depth_of
  deepest_settled =
      ap (λ n. most n (depth_in ended)) size_settled
      ∙ most_same (length types) (depth_in ended) (depth_in types) (λ i lt. depth_in_settled i)

  alike_settled : (n : ℕ) → AlikeBelow types ended n
  alike_settled n = record {
    takes = λ i lt takes. subst TakesOctet (sym (node_settled i))
        (takes_settled ts (node_in types i) takes);
    scalar = λ i lt is. subst IsScalarNode (sym (node_settled i))
        (scalar_settled ts (node_in types i) is);
  }

  pub are_settled : AreFormed types → AreFormed ended
  are_settled are = record {
    few = let few = are.few in omega (arith, size_settled);
    formed = λ i lt.
        let below : i < length types = omega (arith, size_settled) in
        subst (IsFormed ended i) (sym (node_settled i))
        (formed_settled ts ended i (node_in types i)
        (formed_alike types ended i (node_in types i) (alike_settled i) (are.formed i below)));
  }

  pub known_settled : (i : ℕ) → IsKnown types i → IsKnown ended i
  known_settled i is =
      let moved = inner_moved types ended (length types) i (alike_settled (length types)) is in
      let below = moved.below in
      record { below = omega (arith, size_settled); takes = moved.takes }

  -- ---- what is true of a table

  plain_all : AreBeforeVersion3 types → AreBeforeVersion3 ended
  plain_all are i lt =
      subst IsBeforeVersion3 (sym (node_settled i))
      (plain_settled ts (node_in types i) (are i (omega (arith, size_settled))))

  wide_part : (i : ℕ) → IsParameterType types i → IsParameterType ended i
  wide_part i is =
      let known = is.known in
      let shallow = is.shallow in
      record {
        known = omega (arith, size_settled);
        takes = subst TakesOctet (sym (node_settled i))
            (takes_settled ts (node_in types i) is.takes);
        shallow = omega (arith, depth_in_settled i);
      }

  wide_cases : (cs : List Case) → AllByRecursion (λ c. IsParameterType types c.part.type) cs
      → AllByRecursion (λ c. IsParameterType ended c.part.type) cs
  wide_cases [] all = tt
  wide_cases (c ∷ cs) all = (wide_part c.part.type all.0, wide_cases cs all.1)

  wide_kind : (node : Node) → HasParameterTypes types node → HasParameterTypes ended
      (resolved_node ts node)
  wide_kind (nodes.typecode wide kind cases) is =
      All-from_recursion (λ (c : Case). IsParameterType ended c.part.type) cases
      (wide_cases cases
      (recursion_from_All (λ (c : Case). IsParameterType types c.part.type) cases is))
  wide_kind (nodes.recursive bound index) is = tt
  wide_kind _ is = tt

  wide_all : AllHaveParameterTypes types → AllHaveParameterTypes ended
  wide_all are i lt =
      subst (HasParameterTypes ended) (sym (node_settled i))
      (wide_kind (node_in types i) (are i (omega (arith, size_settled))))

  operation_settled : (o : Operation) → IsOperation types o → IsOperation ended o
  operation_settled o is =
      let request = is.request in
      let reply = is.reply in
      record {
        short = is.short;
        request = omega (arith, size_settled);
        reply = omega (arith, size_settled);
      }

  exception_settled : (e : Exception) → IsException types e → IsException ended e
  exception_settled e is =
      let members = is.members in
      record { short = is.short; members = omega (arith, size_settled) }

  identity_settled : (e : Identity) → IsIdentity types e → IsIdentity ended e
  identity_settled e is =
      let type = is.type in record { short = is.short; type = omega (arith, size_settled) }

  pub anys_settled : (version : ℕ) (fronts : List (List ℕ)) → KnowsAnys version types fronts
      → KnowsAnys version ended fronts
  anys_settled version fronts is = record {
    plain = λ other. plain_all (is.plain other);
    wide = wide_all is.wide;
    short = is.short;
    few = is.few;
  }

-- ---- the types that a file begins with

node_stays : (ts : List (Option ℕ)) (n : Node) → not (is_recursive n) ≡ true
    → resolved_node ts n ≡ n
unfolding is_recursive
node_stays ts (nodes.recursive bound index) e = absurd cc
node_stays ts (nodes.prim p) e = refl
node_stays ts _ e = refl

none_changed : (ts : List (Option ℕ)) (ns : List Node) → none_recursive ns ≡ true
    → map (resolved_node ts) ns ≡ ns
unfolding none_recursive
none_changed ts [] e = refl
none_changed ts (n ∷ ns) e =
    let k = both (not (is_recursive n)) (none_recursive ns) e in
    ap (λ m. m ∷ map (resolved_node ts) ns) (node_stays ts n k.0)
    ∙ ap (λ ms. n ∷ ms) (none_changed ts ns k.1)

begins_settled : (ts : List (Option ℕ)) (version : ℕ) (types more : List Node)
    → types ≡ first_types version ++ more
    → map (resolved_node ts) types ≡ first_types version ++ map (resolved_node ts) more
begins_settled ts version types more e =
    ap (map (resolved_node ts)) e
    ∙ map-append (resolved_node ts) (first_types version) more
    ∙ ap (λ ns. ns ++ map (resolved_node ts) more)
    (none_changed ts (first_types version) (first_none (version == 3)))

pub table_settled : (ts : List (Option ℕ)) (t : Table) → TableOf AreFormed t
    → TableOf AreFormed (with_resolved_types ts t)
table_settled ts t is = record {
  types = are_settled ts t.types is.types;
  begins = (
    map (resolved_node ts) is.begins.0,
    begins_settled ts t.version t.types is.begins.0 is.begins.1,
  );
  operations = λ k d lt. operation_settled ts t.types (get_or t.operations k d)
      (is.operations k d lt);
  exceptions = λ k d lt. exception_settled ts t.types (get_or t.exceptions k d)
      (is.exceptions k d lt);
  operations_distinct = is.operations_distinct;
  exceptions_distinct = is.exceptions_distinct;
  operations_few = is.operations_few;
  exceptions_few = is.exceptions_few;
  declared_few = is.declared_few;
  called_few = is.called_few;
  identities = λ k d lt. identity_settled ts t.types (get_or t.identities k d)
      (is.identities k d lt);
  identities_distinct = is.identities_distinct;
  interfaces_few = is.interfaces_few;
  anys = anys_settled ts t.types t.version t.fronts is.anys;
}

-- ---- a scope

type_settled : (ts : List (Option ℕ)) (types : List Node) (o : Option ℕ) → IsKnownType types o
    → IsKnownType (map (resolved_node ts) types) o
type_settled ts types None is = tt
type_settled ts types (Some i) is = known_settled ts types i is

names_settled : (ts : List (Option ℕ)) (types : List Node) (names : List (List ℕ × Option ℕ))
    → AllByRecursion (IsDeclaredName types) names
    → AllByRecursion (IsDeclaredName (map (resolved_node ts) types)) names
names_settled ts types [] all = tt
names_settled ts types (e ∷ es) all = (
  record { short = all.0.short; type = type_settled ts types e.1 all.0.type },
  names_settled ts types es all.1,
)

all_announced : (ts : List (Option ℕ)) (version : ℕ) (types : List Node)
    (xs : List (List ℕ × Announced)) → AllByRecursion (IsAnnouncedName version types) xs
    → AllByRecursion (IsAnnouncedName version (map (resolved_node ts) types)) xs
all_announced ts version types [] all = tt
all_announced ts version types (e ∷ es) all = (
  record {
    third = all.0.third;
    below = let below = all.0.below in omega (arith, size_settled ts types);
    is = (
      all.0.is.0,
      node_settled ts types e.1.type
          ∙ announced_settled ts (node_in types e.1.type) all.0.is.0 all.0.is.1,
    );
  },
  all_announced ts version types es all.1,
)

pub draft_settled : (s : Scope) → IsDraft s → IsDraft (settled s)
draft_settled s is =
    let ts = types_of_announced s.names in
    record {
      scope = record {
        begins = (
          map (resolved_node ts) is.scope.begins.0,
          begins_settled ts s.names.version s.table.types is.scope.begins.0
              is.scope.begins.1,
        );
        names = names_settled ts s.table.types s.names.known is.scope.names;
        announced = all_announced ts s.table.version s.table.types s.names.announced
            is.scope.announced;
      };
      table = table_settled ts s.table is.table;
    }

-- ---- the types that were declared

known_target : (types : List Node) (i : ℕ) → IsKnown types i → IsElementType types i
known_target types i is = record { known = is.below; takes = is.takes }

number_known : (s : Scope) (w : List ℕ) (o : Option ℕ) → IsScope s → named s.names w ≡ o
    → IsKnown s.table.types (number_or_0 o)
number_known s w None is e = (base_sound s Octet is).known
number_known s w (Some k) is e = named_known s.table.types s.names.known w k is.names e

target_known : (s : Scope) (xs : List (List ℕ × Announced)) (index : ℕ) → IsScope s
    → IsKnown s.table.types (declared_type_at (map (λ e. named s.names e.0) xs) index)
target_known s [] index is = (base_sound s Octet is).known
target_known s (e ∷ es) zero is = number_known s e.0 (named s.names e.0) is refl
target_known s (e ∷ es) (suc index) is = target_known s es index is

-- each recursive sequence has a type of the table
settled_by : (s : Scope) (node : Node) → IsScope s
    → IsResolved (settled s).table.types (resolved_node (types_of_announced s.names) node)
settled_by s (nodes.recursive bound index) is =
    known_target (settled s).table.types (declared_type_at (types_of_announced s.names) index)
    (known_settled (types_of_announced s.names) s.table.types
    (declared_type_at (types_of_announced s.names) index)
    (target_known s s.names.announced index is))
settled_by s _ is = tt

pub scope_settled : (s : Scope) → IsScope s → AreResolved (settled s).table.types
scope_settled s is i lt =
    subst (IsResolved (settled s).table.types)
    (sym (node_settled (types_of_announced s.names) s.table.types i))
    (settled_by s (node_in s.table.types i) is)
