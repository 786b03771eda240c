use Rattle.std.proofs.Common.{◌≡◌, length}
use Rattle.tcp_waiting.specs.Payload.{oldest_index}
use Rattle.tcp_flow.specs.Flow.{Flow, drained_at_most, drained_due}
use Rattle.tcp_flow.specs.State.{IsState}
use Rattle.tcp_flow.proofs.flow.FlowState.drain_due.Given as goal

abbrev pub invariant-loop-first : goal.invariant-loop-first
invariant-loop-first g l =
    (l.first ≡ oldest_index l.self.id l.self.next l.pool.held)
    × ((f : Flow) → IsState (g.T.Listener.observed l.initial.to) l.initial.self l.initial.pool.held
    f
    → (d : Flow) × (IsState (g.T.Listener.observed l.to) l.self l.pool.held d
    × (drained_at_most g.T.Listener.reader (length l.pool.held) d
    ≡ drained_due g.T.Listener.reader f)))
    × (l.self.id ≡ l.initial.self.id)
    × (l.pool.blocks ≡ l.initial.pool.blocks)

abbrev pub decreases-loop-first : goal.decreases-loop-first
decreases-loop-first g l = length l.pool.held
