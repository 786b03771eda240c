use Rattle.std.proofs.Common.{◌≡◌, ◌≤◌, length}
use Rattle.tcp_connections.specs.Connections.{State, emptied, gaps_at}
use Rattle.tcp_connections.specs.State.{IsState}
use Rattle.tcp_connections.proofs.connections.Connections.empty_flow.Given as goal

abbrev pub invariant-loop-left : goal.invariant-loop-left
invariant-loop-left g l =
    (w : State) → IsState (g.L.Listener.observed l.initial.to.listener) l.initial.to.live.items
    l.initial.self w
    → (v : State) × (IsState (g.L.Listener.observed l.to.listener) l.to.live.items l.self v
    × ((gaps_at g.L.Listener.reader l.left v l.id ≡ emptied g.L.Listener.reader w l.id)
    × (length v.held ≤ l.left)))

abbrev pub decreases-loop-left : goal.decreases-loop-left
decreases-loop-left g l = l.left
