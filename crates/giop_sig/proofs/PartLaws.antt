-- What other crates may use of a table's types: their parts, their depth, that each may be at the
-- root of a message, and what is the same in any room.
use Rattle.std.proofs.Common.{arith, ◌≡◌, ℕ, suc, ◌<◌, ◌≤◌, length, refl, sym, ap, subst, ◌∙◌}
use Rattle.std.proofs.lemmas.Bool.{cases_lt}
use Rattle.giop_sig.specs.Fits.{IsFit, IsRoot}
use Rattle.giop_sig.specs.HeaderTypes.{AreBeforeVersion3, IsTable}
use Rattle.giop_sig.specs.Table.{Node, Table, name_of, node_at, part_at, part_number, switch_at, type_of}
use Rattle.giop_sig.specs.Trees.{node_in_room, part_number_in, tree, tree_at, depth_of}
use Rattle.giop_sig.specs.Types.{Ty, HasIndex, HasSmallerPart, HasShape, IsUnion, depth, part_of, shape_in, switch_of}
use Rattle.giop_sig.specs.declared.types.Shape.{Shape}
use Rattle.giop_sig.specs.declared.types.Shape.TheVariants as shapes
use Rattle.giop_sig.proofs.Depths.{depth_tree, depth_within}
use Rattle.giop_sig.proofs.Nodes.{has_shape, in_name, in_part, shape_index}
use Rattle.giop_sig.proofs.Solid.{fit_in_room}
use Rattle.giop_sig.proofs.Tables.{IsNodeOfType, entered, part_below, part_in_room, part_known_in, part_room, root_entered, shape_at, switch_room}

-- the part at an index has a smaller number, and its tree is that of the part, in one level of room
-- less
pub record IsPartTypeAt (t : Table) (id i part : ℕ) : Type 0 where
  pub below : part < id
  pub same : (room : ℕ) → tree_at t room part ≡ part_of (tree_at t (suc room) id) i

at_number : (t : Table) (id : ℕ) → IsTable t → id < length t.types → IsNodeOfType t id
    (node_at t id)
at_number t id laws known = search (arith, entered)

pub part_is : (t : Table) (id i : ℕ) → IsTable t → id < length t.types
    → (IsUnion (shape_in (tree t id)) → ⊥) → HasSmallerPart (shape_in (tree t id)) i
    → IsPartTypeAt t id i (part_number t id i)
part_is t id i laws known none has =
    let e = at_number t id laws known in
    let index = shape_index (shape_in (tree t id)) i has in
    record {
      below = part_below t id i (part_number t id i) (node_at t id) e has refl;
      same = λ room. part_room t id i (part_number t id i) room (node_at t id) e none index refl;
    }

-- the part at an index, in its room
pub part_in_is : (t : Table) (room id i : ℕ) → IsTable t → id < length t.types
    → HasIndex (shape_in (tree t id)) i
    → tree_at t room (part_number_in t room id i) ≡ part_of (tree_at t (suc room) id) i
part_in_is t room id i laws known has =
    part_in_room t id i (part_number_in t room id i) room (node_at t id) (at_number t id laws known)
    has refl

-- this part is a type of the table
pub part_in_known : (t : Table) (room id i : ℕ) → IsTable t → id < length t.types
    → HasIndex (shape_in (tree t id)) i
    → (shape_in (tree t id) ≡ shapes.Led → i ≤ length t.types)
    → part_number_in t room id i < length t.types
part_in_known t room id i laws known has led =
    part_known_in t id i (part_number_in t room id i) room (node_at t id)
    (at_number t id laws known) has led refl

-- the number of a part is the same in any room, apart from parts of a union
pub same_number : (t : Table) (a room id i : ℕ) → (IsUnion (shape_in (tree_at t a id)) → ⊥)
    → part_number t id i ≡ part_number_in t room id i
same_number t a room id i none =
    ap type_of (sym (in_part room (node_at t id) i
    (λ is. none (subst IsUnion (sym (shape_at t a id)) is))))

-- the names of parts are the same in any room
pub named_in_room : (room : ℕ) (node : Node) (i : ℕ)
    → name_of (part_at (node_in_room room node) i) ≡ name_of (part_at node i)
named_in_room room node i = in_name room node i

pub root_is : (t : Table) (id : ℕ) → IsTable t → id < length t.types → IsRoot (tree t id)
root_is t id laws known = search (arith, root_entered, at_number)

pub depth_is : (t : Table) (id : ℕ) → AreBeforeVersion3 t.types → id < length t.types
    → depth (tree t id) ≤ depth_of t.types
depth_is t id plain known = omega (arith, depth_tree t id plain, depth_within t.types id known)

-- ---- the same in any room

pub shape_room : (t : Table) (a b id : ℕ) → shape_in (tree_at t a id) ≡ shape_in (tree_at t b id)
shape_room t a b id = shape_at t a id ∙ sym (shape_at t b id)

shape_is : (T : Ty) (s : Shape) → HasShape T s → s ≡ shape_in T
shape_is T (shapes.Prim p) has = sym (ap shape_in has)
shape_is T (shapes.Enumeration count) has = sym (ap shape_in has.1)
shape_is T (shapes.Marked mark) has = sym (ap shape_in has)
shape_is T shapes.Led has = sym (ap shape_in has.3)
shape_is T (shapes.Text bound) has = sym (ap shape_in has)
shape_is T (shapes.Octets bound) has = sym (ap shape_in has)
shape_is T shapes.WideText has = sym (ap shape_in has)
shape_is T shapes.WideChar has = sym (ap shape_in has)
shape_is T (shapes.Members count) has = sym (ap shape_in has.2)
shape_is T (shapes.Union count) has = sym (ap shape_in has.4)
shape_is T (shapes.Sequence bound) has = sym (ap shape_in has.1)
shape_is T (shapes.Array count) has = sym (ap shape_in has.1)
shape_is T (shapes.Recursive bound) has = sym (ap shape_in has.2)
shape_is T shapes.Encapsulation has = sym (ap shape_in has.1)
shape_is T shapes.Tagged has = sym (ap shape_in has.4)

pub has_shape_room : (t : Table) (a b id : ℕ) (s : Shape) → HasShape (tree_at t a id) s
    → HasShape (tree_at t b id) s
has_shape_room t a b id s has =
    subst (HasShape (tree_at t b id))
    (sym (shape_is (tree_at t a id) s has ∙ shape_room t a b id)) (has_shape (tree_at t b id))

-- a type that fits in one room fits in any
pub fit_room : (t : Table) (id d a room : ℕ) → IsTable t → IsFit d (tree_at t a id)
    → IsFit (suc (suc room)) (tree_at t room id)
fit_room t id d a room laws fit =
    fit_in_room t id d a room laws.types.placed laws.anys.wide fit (cases_lt id (length t.types))

-- a discriminator takes no room
pub switch_same : (t : Table) (a b id : ℕ) → IsTable t → id < length t.types
    → IsUnion (shape_in (tree t id))
    → switch_of (tree_at t (suc a) id) ≡ switch_of (tree_at t (suc b) id)
switch_same t a b id laws known is =
    let node = node_at t id in
    let e = at_number t id laws known in
    sym (switch_room t id (switch_at node) a a node e is refl)
    ∙ switch_room t id (switch_at node) a b node e is refl
