use Rattle.std.proofs.Common.{◌≡◌, ◌≤◌, length}
use Rattle.tcp_connections.specs.Connections.{State, relieved, within_pool}
use Rattle.tcp_connections.specs.State.{IsStateOver}
use Rattle.tcp_connections.proofs.connections.Connections.relieve.Given as goal

abbrev pub invariant-loop-left : goal.invariant-loop-left
invariant-loop-left g l =
    (w : State) → IsStateOver 256 (g.L.Listener.observed l.initial.to.listener)
    l.initial.to.live.items l.initial.self w
    → (v : State)
    × (IsStateOver 256 (g.L.Listener.observed l.to.listener) l.to.live.items l.self v
    × ((relieved g.L.Listener.reader l.left v ≡ within_pool g.L.Listener.reader w)
    × (length v.held ≤ l.left)))

abbrev pub decreases-loop-left : goal.decreases-loop-left
decreases-loop-left g l = l.left
