use Rattle.std.proofs.Common.{◌≡◌, ◌+◌, length}
use Rattle.tcp_streams.specs.Lives.{lives}
use Rattle.tcp_connections.specs.Connections.{State, gaps_from}
use Rattle.tcp_connections.specs.State.{IsState}
use Rattle.tcp_connections.proofs.Ending.{HoldNothingBefore}
use Rattle.tcp_connections.proofs.connections.Connections.make_end_gaps.Given as goal

abbrev pub invariant-loop-left : goal.invariant-loop-left
invariant-loop-left g l =
    (w : State) → IsState (g.L.Listener.observed l.initial.to.listener) l.initial.to.live.items
    l.initial.self w
    → (v : State) × (IsState (g.L.Listener.observed l.to.listener) l.to.live.items l.self v
    × ((gaps_from g.L.Listener.reader l.left l.rank v
    ≡ gaps_from g.L.Listener.reader (length w.held + length (lives w.events)) 0 w)
    × HoldNothingBefore l.left l.rank v))

abbrev pub decreases-loop-left : goal.decreases-loop-left
decreases-loop-left g l = l.left
