use Rattle.std.proofs.Common.{◌≡◌, ◌≤◌, ◌<◌, ◌*◌, ◌+◌, get_or, set}
use Rattle.std.specs.Prelude.{min}
use Rattle.tcp_slots.specs.Ranks.{HaveSameLeaves}
use Rattle.tcp_slots.proofs.Trees.{IsTreeButNode}
use Rattle.tcp_slots.proofs.ranks.lower_leaf.Given as goal

abbrev pub invariant-loop-node : goal.invariant-loop-node
invariant-loop-node l = record {
  within : l.node < l.slots;
  tree : IsTreeButNode l.slots l.node l.nodes;
  own : 1 ≤ l.node → min l.rank (get_or l.nodes l.node 0)
      ≡ min (get_or l.nodes (2 * l.node) 0) (get_or l.nodes (2 * l.node + 1) 0);
  leaves : HaveSameLeaves l.slots l.nodes (set l.fn.nodes l.leaf l.rank);
}

abbrev pub decreases-loop-node : goal.decreases-loop-node
decreases-loop-node l = l.node
