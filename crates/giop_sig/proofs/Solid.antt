-- Each type of a table but the empty struct takes at least one octet, and fits in any room that is
-- at least its depth.
use Rattle.std.proofs.Common.{◌≡◌, ℕ, zero, suc, ◌<◌, ◌≤◌, Bool, true, false, cond, ◌&&◌, List, [], ◌∷◌, length, Option, Some, None, refl, sym, subst, ◌⊎◌, inl, inr, arith}
use Rattle.std.proofs.lemmas.List.Quantifiers.{position-Some}
use Rattle.std.proofs.lemmas.List.{get_or_past}
use Rattle.std.proofs.lemmas.List.Elements.{recursion_from_All}
use Rattle.std.proofs.lemmas.Bool.{leb-true, ltb-false, ltb-true}
use Rattle.std.specs.List.{AllByRecursion}
use Rattle.std.specs.Prelude.{nat_le, nat_lt, not, slice_get}
use Rattle.giop_cdr.specs.declared.number.Number.{Number}
use Rattle.giop_cdr.specs.declared.prim.Primitive.TheVariants.{Octet}
use Rattle.giop_sig.specs.declared.types.Selected.{Selected}
use Rattle.giop_sig.specs.declared.types.Selected.TheVariants as selecteds
use Rattle.giop_sig.specs.Types.{interpreted_by, Ty, HasMember, HasSmallerPart, InferredType, Untold, Awaits, Offers, Is, Empty, Unknown, Then, Stops, sequel, part_of}
use Rattle.giop_sig.specs.Fits.{IsFit, IsRoot, IsEmptyStruct}
use Rattle.giop_sig.specs.Table.{Node, Part, Case, Table, case_part, node_at, node_in, takes_octet, shape_of, part_at, type_of, switch_at, selected, case_or, IsFormed, IsCaseBelow, TakesOctet}
use Rattle.giop_sig.specs.Table as nodes
use Rattle.giop_sig.specs.Trees.{PartLimits, any_inference, limits_in_room, has_room, can_be_value, node_in_room, parameters_room, AllHaveParameterTypes, HasParameterTypes, IsParameterType, tree_of_node, octet_type, scalar_or_octet, selected_by, tree_at, tree, depth_in, has_wide_text, AreFormed, AreTypes}
use Rattle.giop_sig.proofs.Nodes.{case_below, inner_index, part_grown}
use Rattle.giop_sig.proofs.Formed.{part_formed}
use Rattle.giop_sig.proofs.Depths.{depth_within, part_shallower, some_depth}

-- ---- a case that is selected exists

case_of_below : (count : ℕ) (found : Option ℕ) (otherwise : Selected) (i : ℕ)
    → ((k : ℕ) → found ≡ Some k → k < count) → IsCaseBelow count otherwise
    → case_or found otherwise ≡ selecteds.Case i → i < count
case_of_below count (Some k) otherwise i found below e = let same : k ≡ i = cc in let lt =
    found k refl in omega arith
case_of_below count None otherwise i found below e = search (arith)

tag_below : (v : Bool) (i : ℕ)
    → cond v (selecteds.Case 1) (selecteds.Case 2) ≡ selecteds.Case i → i < 3
tag_below true i e = search (arith)
tag_below false i e = search (arith)

pub selected_below : (types : List Node) (n : ℕ) (node : Node) (number : Number) (i : ℕ)
    → IsFormed types n node → selected node number ≡ selecteds.Case i → HasMember (shape_of node) i
selected_below types n (nodes.union switch cases otherwise) number i formed e = search (
  arith,
  case_of_below,
  position-Some,
)
selected_below types n (nodes.tagged special tag inner other) number i formed e = search (
  arith,
  tag_below,
)
selected_below types n (nodes.typecode wide kind cases) number i formed e = search (
  arith,
  case_of_below,
  position-Some,
)
selected_below types n _ number i formed e = absurd cc

taken_below : (types : List Node) (n : ℕ) (node : Node) (o : Option Number)
    (i : ℕ) → IsFormed types n node
    → selected_by (selected node) o ≡ selecteds.Case i → HasMember (shape_of node) i
taken_below types n node None i formed e = absurd cc
taken_below types n node (Some number) i formed e = search (arith, selected_below)

-- ---- room for a type

some_part : (p : Part) (ps : List Part) → 0 < length (p ∷ ps)
some_part p ps = omega arith

abbrev PartsFit : (limits : PartLimits) (f : ℕ → Ty) (node : Node) (d : ℕ) → Type 0
PartsFit h f node d =
    (k : ℕ) → HasSmallerPart (shape_of node) k → IsFit d (part_of (tree_of_node h f node) k)

-- what an any selects fits, and so do the elements of a recursive sequence
record FollowersFit (h : PartLimits) (f : ℕ → Ty) (d : ℕ) : Type 0 where
  sequels : (told : InferredType) (i : ℕ) → sequel h.hearing told ≡ Then i → IsFit d (f i)
  elements : (i : ℕ) → h.fits i ≡ true → IsFit d (f i)

grown_fit : (types : List Node) (n : ℕ) (node : Node) (h : PartLimits) (f : ℕ → Ty) (d room : ℕ)
    → IsFormed types n node → TakesOctet node → PartsFit h f (node_in_room room node) d
    → FollowersFit h f d
    → IsFit (suc d) (tree_of_node h f (node_in_room room node))
unfolding IsFit
grown_fit types n (nodes.members []) h f d room formed takes parts others = absurd takes
grown_fit types n (nodes.members (p ∷ ps)) h f d room formed takes parts others =
    (some_part p ps, parts)
grown_fit types n (nodes.union switch cases otherwise) h f d room formed takes parts others = (
  λ k i e. taken_below types n (nodes.union switch cases otherwise)
      (interpreted_by (scalar_or_octet (f switch)) k) i formed e,
  parts,
)
grown_fit types n (nodes.sequence bound element) h f d room formed takes parts others = parts 0 tt
grown_fit types n (nodes.array count element) h f d room formed takes parts others =
    (formed.0, parts 0 tt)
grown_fit types n (nodes.encapsulation held) h f d room formed takes parts others = parts 0 tt
grown_fit types n (nodes.tagged special tag one other) h f d room formed takes parts others = (
  λ k i e. taken_below types n (nodes.tagged special tag one other)
      (interpreted_by (scalar_or_octet (f tag.type)) k) i formed e,
  parts,
)
grown_fit types n (nodes.any code) h f d room formed takes parts others =
    (parts 0 refl, others.sequels)
grown_fit types n (nodes.announced index) h f d room formed takes parts others = absurd takes
grown_fit types n (nodes.recursive bound element) h f d room formed takes parts others =
    others.elements element
grown_fit types n (nodes.typecode wide kind cases) h f d room formed takes parts others = (
  λ k i e. taken_below types n (nodes.typecode wide kind cases)
      (interpreted_by (scalar_or_octet (f kind)) k) i formed e,
  parts,
)
grown_fit types n _ h f d room formed takes parts others = tt

-- ---- what an any selects

pub both : (a b : Bool) → (a && b) ≡ true → (a ≡ true) × (b ≡ true)
both true b e = (refl, e)
both false b e = absurd cc

-- what can follow is a type of the table that takes an octet and has room
pub record CanFollow (t : Table) (room i : ℕ) : Type 0 where
  pub known : i < length t.types
  pub takes : TakesOctet (node_at t i)
  pub shallow : depth_in t.types i ≤ room

pub takes_by : (node : Node) → takes_octet node ≡ true → TakesOctet node
takes_by (nodes.members []) e = absurd cc
takes_by (nodes.announced index) e = absurd cc
takes_by _ e = tt

pub can_follow : (t : Table) (room i : ℕ) → can_be_value t room i ≡ true → CanFollow t room i
can_follow t room i e =
    let a = both (nat_lt i (length t.types) && takes_octet (node_at t i))
    (nat_le (depth_in t.types i) room)
    (both (has_room t room i) (not (t.forbids_wide && has_wide_text t.types i)) e).0 in
    let b = both (nat_lt i (length t.types)) (takes_octet (node_at t i)) a.0 in
    record {
      known = ltb-true i (length t.types) b.0;
      takes = takes_by (node_at t i) b.1;
      shallow = leb-true (depth_in t.types i) room a.1;
    }

then_by : (v : Bool) (i k : ℕ) → cond v (Then i) Stops ≡ Then k → (v ≡ true) × (i ≡ k)
then_by true i k e = (refl, cc)
then_by false i k e = absurd cc

pub selected_follows : (t : Table) (room : ℕ) (told : InferredType) (k : ℕ)
    → sequel (any_inference t room) told ≡ Then k → CanFollow t room k
selected_follows t room Untold k e = absurd cc
selected_follows t room (Awaits octets) k e = absurd cc
selected_follows t room (Offers i) k e = absurd cc
selected_follows t room (Is i) k e = let is = then_by (can_be_value t room i) i k e in
    subst (CanFollow t room) is.1 (can_follow t room i is.0)
selected_follows t room Empty k e = absurd cc
selected_follows t room Unknown k e = absurd cc

-- ---- what comes after the kind of a TypeCode, if there is room

wide_read : (types : List Node) (cs : List Case) (i : ℕ) (p : Part)
    → AllByRecursion (λ c. IsParameterType types c.part.type) cs
    → case_part (slice_get cs i) ≡ Some p → IsParameterType types p.type
wide_read types [] i p all e = absurd cc
wide_read types (c ∷ cs) zero p all e = let same : c.part ≡ p = cc in
    subst (λ (q : Part). IsParameterType types q.type) same all.0
wide_read types (c ∷ cs) (suc i) p all e = wide_read types cs i p all.1 e

-- a part with a smaller number
inner_room : (t : Table) (i room k : ℕ) → AreFormed t.types → i < length t.types
    → depth_in t.types i ≤ suc room → HasSmallerPart (shape_of (node_at t i)) k
    → CanFollow t room (type_of (part_at (node_at t i) k))
inner_room t i room k are lt le has =
    let is = part_formed t.types i (node_at t i) k (are.formed i lt) has in
    let below = is.below in
    record {
      known = omega arith;
      takes = is.takes;
      shallow = omega (arith, part_shallower t.types i k are lt has);
    }

code_room : (t : Table) (i room k : ℕ) (wide : Option ℕ) (kind : ℕ) (cases : List Case)
    → AreFormed t.types → AllHaveParameterTypes t.types → i < length t.types
    → depth_in t.types i ≤ suc room
    → nodes.typecode wide kind cases ≡ node_at t i → k < length cases
    → (v : Bool) → nat_lt room parameters_room ≡ v
    → CanFollow t room (type_of (part_at (nodes.typecode (cond v wide None) kind cases) k))
code_room t i room k wide kind cases are w lt le e has true little =
    let there = subst (λ n. HasSmallerPart (shape_of n) k) e has in
    subst (λ n. CanFollow t room (type_of (part_at n k))) (sym e)
    (inner_room t i room k are lt le there)
code_room t i room k wide kind cases are w lt le e has false much =
    let p = case_below cases k has in
    let all = subst (HasParameterTypes t.types) (sym e) (w i lt) in
    let is = wide_read t.types cases k p.0
    (recursion_from_All (λ (c : Case). IsParameterType t.types c.part.type) cases all) p.1 in
    let room_is = ltb-false room parameters_room much in
    rw (p.1) (record {
      known = is.known;
      takes = is.takes;
      shallow = omega (arith, is.shallow, room_is);
    })

part_room : (t : Table) (i room k : ℕ) (node : Node) → AreFormed t.types
    → AllHaveParameterTypes t.types
    → i < length t.types → depth_in t.types i ≤ suc room → node ≡ node_at t i
    → HasSmallerPart (shape_of (node_in_room room node)) k
    → CanFollow t room (type_of (part_at (node_in_room room node) k))
part_room t i room k (nodes.typecode wide kind cases) are w lt le e has =
    code_room t i room k wide kind cases are w lt le e has (nat_lt room parameters_room) refl
part_room t i room k node are w lt le e has =
    subst (λ n. CanFollow t room (type_of (part_at n k))) (sym e)
    (inner_room t i room k are lt le (subst (λ n. HasSmallerPart (shape_of n) k) e has))

-- a type fits if the room is at least its depth
pub fits : (t : Table) (room i : ℕ) → AreFormed t.types → AllHaveParameterTypes t.types
    → i < length t.types
    → TakesOctet (node_at t i) → depth_in t.types i ≤ room → IsFit room (tree_at t room i)
unfolding tree_at
fits t zero i are w lt takes le = absurd (omega (arith, some_depth t.types i))
fits t (suc room) i are w lt takes le =
    let node = node_at t i in
    grown_fit t.types i node (limits_in_room t room) (tree_at t room) room room
    (are.formed i lt) takes
    (λ k has. let is = part_room t i room k node are w lt le refl has in
    subst (IsFit room) (part_grown (limits_in_room t room) (tree_at t room)
    (node_in_room room node) k
    (inner_index (node_in_room room node) k has))
    (fits t room (type_of (part_at (node_in_room room node) k)) are w is.known is.takes is.shallow))
    (record {
      sequels = λ told k e. let is = selected_follows t room told k e in
          fits t room k are w is.known is.takes is.shallow;
      elements = λ k e. let is = can_follow t room k e in
          fits t room k are w is.known is.takes is.shallow;
    })

octet_fits : IsFit 1 octet_type
unfolding IsFit
octet_fits = tt

-- a part of a type is a type of the table, in any room
pub any_room : (t : Table) (i room k : ℕ) (node : Node) → AreFormed t.types
    → AllHaveParameterTypes t.types
    → i < length t.types → node ≡ node_at t i → HasSmallerPart (shape_of (node_in_room room node)) k
    → (type_of (part_at (node_in_room room node) k) < length t.types)
    × TakesOctet (node_at t (type_of (part_at (node_in_room room node) k)))
any_room t i room k (nodes.typecode wide kind cases) are w lt e has =
    code_known t i k wide kind cases are w lt e has (nat_lt room parameters_room)
  where
    code_known : (t : Table) (i k : ℕ) (wide : Option ℕ) (kind : ℕ) (cases : List Case)
        → AreFormed t.types → AllHaveParameterTypes t.types → i < length t.types
        → nodes.typecode wide kind cases ≡ node_at t i → k < length cases → (v : Bool)
        → (type_of (part_at (nodes.typecode (cond v wide None) kind cases) k) < length t.types)
        × TakesOctet (node_at t
        (type_of (part_at (nodes.typecode (cond v wide None) kind cases) k)))
    code_known t i k wide kind cases are w lt e has true =
        let is = part_formed t.types i (nodes.typecode wide kind cases) k
        (subst (IsFormed t.types i) (sym e) (are.formed i lt)) has in
        let below = is.below in
        (omega arith, is.takes)
    code_known t i k wide kind cases are w lt e has false =
        let p = case_below cases k has in
        let all = subst (HasParameterTypes t.types) (sym e) (w i lt) in
        let is = wide_read t.types cases k p.0
        (recursion_from_All (λ (c : Case). IsParameterType t.types c.part.type) cases all) p.1 in
        rw (p.1) (is.known, is.takes)
any_room t i room k node are w lt e has =
    let is = part_formed t.types i node k (subst (IsFormed t.types i) (sym e) (are.formed i lt)) has
    in
    let below = is.below in
    (omega arith, is.takes)

-- a tree that is cut off at its room fits too
pub fit_each : (t : Table) (room i : ℕ) → AreFormed t.types → AllHaveParameterTypes t.types
    → i < length t.types
    → TakesOctet (node_at t i) → IsFit (suc (suc room)) (tree_at t room i)
unfolding tree_at
fit_each t zero i are w lt takes =
    grown_fit t.types i (node_at t i) (limits_in_room t 0) (λ k. octet_type) 1 0 (are.formed i lt)
    takes
    (λ k has. subst (IsFit 1) (part_grown (limits_in_room t 0) (λ k. octet_type)
    (node_in_room 0 (node_at t i)) k (inner_index (node_in_room 0 (node_at t i)) k has)) octet_fits)
    (record { sequels = λ told k e. octet_fits; elements = λ k e. octet_fits })
fit_each t (suc room) i are w lt takes =
    let node = node_at t i in
    grown_fit t.types i node (limits_in_room t room) (tree_at t room) (suc (suc room)) room
    (are.formed i lt) takes
    (λ k has. let is = any_room t i room k node are w lt refl has in
    subst (IsFit (suc (suc room))) (part_grown (limits_in_room t room) (tree_at t room)
    (node_in_room room node) k (inner_index (node_in_room room node) k has))
    (fit_each t room (type_of (part_at (node_in_room room node) k)) are w is.0 is.1))
    (record {
      sequels = λ told k e. let is = selected_follows t room told k e in
          fit_each t room k are w is.known is.takes;
      elements = λ k e. let is = can_follow t room k e in
          fit_each t room k are w is.known is.takes;
    })

-- a type that fits takes an octet
takes_fit : (h : PartLimits) (f : ℕ → Ty) (room : ℕ) (node : Node) (d : ℕ)
    → IsFit d (tree_of_node h f (node_in_room room node)) → TakesOctet node
unfolding IsFit
takes_fit h f room (nodes.members []) zero fit = absurd fit
takes_fit h f room (nodes.members []) (suc d) fit = absurd (omega (arith, fit.0))
takes_fit h f room (nodes.announced index) zero fit = absurd fit
takes_fit h f room (nodes.announced index) (suc d) fit = absurd (omega (arith, fit.0))
takes_fit h f room _ d fit = tt

-- a number without a type is an octet
past_fits : (t : Table) (room i : ℕ) → node_at t i ≡ nodes.prim Octet
    → IsFit (suc (suc room)) (tree_at t room i)
unfolding tree_at IsFit
past_fits t zero i e =
    subst (λ node. IsFit 2 (tree_of_node (limits_in_room t 0) (λ k. octet_type)
    (node_in_room 0 node))) (sym e) tt
past_fits t (suc room) i e =
    subst (λ node. IsFit (suc (suc (suc room)))
    (tree_of_node (limits_in_room t room) (tree_at t room) (node_in_room room node))) (sym e) tt

pub fit_in_room : (t : Table) (i d a room : ℕ) → AreFormed t.types → AllHaveParameterTypes t.types
    → IsFit d (tree_at t a i)
    → (i < length t.types) ⊎ (length t.types ≤ i) → IsFit (suc (suc room)) (tree_at t room i)
unfolding tree_at
fit_in_room t i d zero room are w fit (inl lt) =
    fit_each t room i are w lt
    (takes_fit (limits_in_room t 0) (λ k. octet_type) 0 (node_at t i) d fit)
fit_in_room t i d (suc a) room are w fit (inl lt) =
    fit_each t room i are w lt (takes_fit (limits_in_room t a) (tree_at t a) a (node_at t i) d fit)
fit_in_room t i d a room are w fit (inr le) =
    past_fits t room i (get_or_past t.types i (nodes.prim Octet) le)

pub fit_at : (t : Table) (i : ℕ) → AreTypes t.types → AllHaveParameterTypes t.types
    → i < length t.types
    → TakesOctet (node_at t i) → IsFit 24 (tree t i)
fit_at t i are w known takes =
    fits t 24 i are.placed w known takes
    (omega (arith, depth_within t.types i known, are.shallow))

-- a type that takes no octet is the empty struct
takes_or_empty : (h : PartLimits) (f : ℕ → Ty) (room : ℕ) (node : Node)
    → TakesOctet node ⊎ IsEmptyStruct (tree_of_node h f (node_in_room room node))
takes_or_empty h f room (nodes.members []) = inr tt
takes_or_empty h f room (nodes.announced index) = inr tt
takes_or_empty h f room _ = inl tt

root_by : (t : Table) (i : ℕ) → AreTypes t.types → AllHaveParameterTypes t.types
    → i < length t.types
    → TakesOctet (node_at t i)
    ⊎ IsEmptyStruct (tree_of_node (limits_in_room t 23) (tree_at t 23)
    (node_in_room 23 (node_at t i)))
    → IsRoot (tree t i)
unfolding tree_at
root_by t i are w known (inl takes) = inl (fit_at t i are w known takes)
root_by t i are w known (inr empty) = inr empty

-- each type of a table may be at the root of a message
pub root_at : (t : Table) (i : ℕ) → AreTypes t.types → AllHaveParameterTypes t.types
    → i < length t.types
    → IsRoot (tree t i)
root_at t i are w known =
    root_by t i are w known (takes_or_empty (limits_in_room t 23) (tree_at t 23) 23 (node_at t i))
