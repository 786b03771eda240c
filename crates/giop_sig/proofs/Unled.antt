-- In a table without anys, types have no part that tells what comes after it, and no recursive
-- sequence.
use Rattle.std.proofs.Common.{ℕ, zero, suc, Option, Some, None, sym, subst}
use Rattle.std.specs.Prelude.{slice_get}
use Rattle.giop_sig.specs.HeaderTypes.{AreBeforeVersion3, IsBeforeVersion3}
use Rattle.giop_sig.specs.Table.{Table, Node, Part, node_at, part_at}
use Rattle.giop_sig.specs.Table as nodes
use Rattle.giop_sig.specs.Trees.{PartLimits, limits_in_room, tree_of_node, part_tree, octet_type, tree_at}
use Rattle.giop_sig.specs.Types.{Ty, Struct, Union, Sequence, Array, Encapsulation, Recursive, Led}
use Rattle.giop_sig.proofs.Depths.{plain_in, plain_node}

-- a type without a part that tells what comes after it and without a recursive sequence
abbrev pub HasNoLed : (type : Ty) → Type 0
HasNoLed (Struct count names parts) = (i : ℕ) → HasNoLed (parts i)
HasNoLed (Union choice scalar select names cases) = (i : ℕ) → HasNoLed (cases i)
HasNoLed (Sequence bound T) = HasNoLed T
HasNoLed (Array count T) = HasNoLed T
HasNoLed (Encapsulation T) = HasNoLed T
HasNoLed (Recursive bound fits T) = ⊥
HasNoLed (Led h F parts) = ⊥
HasNoLed T = Unit {0}

part_none : (trees : ℕ → Ty) → ((i : ℕ) → HasNoLed (trees i)) → (p : Option Part)
    → HasNoLed (part_tree trees p)
part_none trees h None = tt
part_none trees h (Some p) = h p.type

grown_none : (room : PartLimits) (trees : ℕ → Ty) → ((i : ℕ) → HasNoLed (trees i)) → (node : Node)
    → IsBeforeVersion3 node → HasNoLed (tree_of_node room trees node)
grown_none room trees h (nodes.members parts) plain = λ i. part_none trees h (slice_get parts i)
grown_none room trees h (nodes.union switch cases otherwise) plain =
    λ i. part_none trees h (part_at (nodes.union switch cases otherwise) i)
grown_none room trees h (nodes.sequence bound element) plain = h element
grown_none room trees h (nodes.array count element) plain = h element
grown_none room trees h (nodes.encapsulation held) plain = h held
grown_none room trees h (nodes.tagged special tag inner other) plain =
    λ i. part_none trees h (part_at (nodes.tagged special tag inner other) i)
grown_none room trees h (nodes.any code) plain = absurd plain
grown_none room trees h (nodes.announced index) plain = absurd plain
grown_none room trees h (nodes.recursive bound element) plain = absurd plain
grown_none room trees h (nodes.typecode wide kind cases) plain = absurd plain
grown_none room trees h node plain = tt

pub room_none : (C : Table) → AreBeforeVersion3 C.types → (room i : ℕ) → HasNoLed (tree_at C room i)
unfolding tree_at
room_none C are zero i =
    let plain = plain_node C.types i are in
    subst (λ n. HasNoLed (tree_of_node (limits_in_room C 0) (λ k. octet_type) n))
    (sym (plain_in 0 (node_at C i) plain))
    (grown_none (limits_in_room C 0) (λ k. octet_type) (λ k. tt) (node_at C i) plain)
room_none C are (suc room) i =
    let plain = plain_node C.types i are in
    subst (λ n. HasNoLed (tree_of_node (limits_in_room C room) (tree_at C room) n))
    (sym (plain_in room (node_at C i) plain))
    (grown_none (limits_in_room C room) (tree_at C room) (room_none C are room) (node_at C i) plain)
