use Rattle.std.proofs.Common.{◌-◌, ◌≤◌, ◌<◌, ◌*◌, set}
use Rattle.tcp_slots.specs.Ranks.{HaveSameLeaves}
use Rattle.tcp_slots.proofs.Trees.{IsTreeButParent}
use Rattle.tcp_slots.proofs.ranks.set_leaf.Given as goal

abbrev pub invariant-loop-node : goal.invariant-loop-node
invariant-loop-node l = record {
  first : 1 ≤ l.node;
  last : l.node < 2 * l.slots;
  tree : IsTreeButParent l.slots l.node l.nodes;
  leaves : HaveSameLeaves l.slots l.nodes (set l.fn.nodes l.leaf l.rank);
}

abbrev pub decreases-loop-node : goal.decreases-loop-node
decreases-loop-node l = l.node - 1
