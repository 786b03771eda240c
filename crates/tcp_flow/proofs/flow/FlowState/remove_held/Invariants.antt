use Rattle.std.proofs.Common.{◌≡◌, length}
use Rattle.tcp_waiting.specs.Payload.{oldest_index}
use Rattle.tcp_flow.specs.Flow.{held_by_others}
use Rattle.tcp_flow.proofs.flow.FlowState.remove_held.Given as goal

abbrev pub invariant-loop-first : goal.invariant-loop-first
invariant-loop-first l =
    (l.first ≡ oldest_index l.self.id l.self.next l.pool.held)
    × (held_by_others l.self.id l.pool.held ≡ held_by_others l.self.id l.initial.pool.held)
    × (l.pool.blocks ≡ l.initial.pool.blocks)

abbrev pub decreases-loop-first : goal.decreases-loop-first
decreases-loop-first l = length l.pool.held
