use Rattle.std.proofs.Common.{◌≡◌}
use Rattle.tcp_connections.specs.Ranks.{AreAtMost}
use Rattle.tcp_connections.proofs.flows.slot_of_least_true_rank.Given as goal

abbrev pub invariant-loop-left : goal.invariant-loop-left
invariant-loop-left l =
    (l.ranks.slots ≡ l.fn.ranks.slots)
    × AreAtMost l.ranks.slots l.ranks.nodes.items l.states l.came.ids.items l.stamps.last.items

abbrev pub decreases-loop-left : goal.decreases-loop-left
decreases-loop-left l = l.left
