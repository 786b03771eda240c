use Rattle.std.proofs.Common.{◌-◌, ◌*◌}
use Rattle.tcp_slots.proofs.Leaves.{LeastLeavesAreBelow}
use Rattle.tcp_slots.proofs.ranks.Ranks.unique_least.Given as goal

abbrev pub invariant-loop-node : goal.invariant-loop-node
invariant-loop-node l = LeastLeavesAreBelow l.self.slots l.self.nodes.items l.node

abbrev pub decreases-loop-node : goal.decreases-loop-node
decreases-loop-node l = 2 * l.self.slots - l.node
