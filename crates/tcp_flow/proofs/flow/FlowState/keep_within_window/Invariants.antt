use Rattle.std.proofs.Common.{◌≡◌}
use Rattle.tcp_flow.specs.Flow.{Flow, within_window}
use Rattle.tcp_flow.specs.State.{IsState}
use Rattle.tcp_flow.proofs.flow.FlowState.keep_within_window.Given as goal

abbrev pub invariant-loop-left : goal.invariant-loop-left
invariant-loop-left g l =
    ((f : Flow) → IsState (g.T.Listener.observed l.initial.to) l.initial.self l.initial.pool.held f
    → (d : Flow) × (IsState (g.T.Listener.observed l.to) l.self l.pool.held d
    × (within_window g.T.Listener.reader l.left d
    ≡ within_window g.T.Listener.reader l.initial.left f)))
    × (l.self.id ≡ l.initial.self.id)
    × (l.pool.blocks ≡ l.initial.pool.blocks)

abbrev pub decreases-loop-left : goal.decreases-loop-left
decreases-loop-left g l = l.left
