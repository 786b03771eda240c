use Rattle.std.proofs.Common.{◌≡◌, ◌-◌, drop}
use Rattle.tcp_streams.specs.Lives.{lives}
use Rattle.tcp_connections.specs.Connections.{State, all_closed}
use Rattle.tcp_connections.specs.State.{IsAt}
use Rattle.tcp_connections.proofs.connections.Connections.close_all.Given as goal

abbrev pub invariant-loop-rank : goal.invariant-loop-rank
invariant-loop-rank g l =
    ((w : State) → IsAt (g.L.Listener.observed l.initial.to.listener) l.initial.to.live.items
    l.initial.self w
    → (v : State) × (IsAt (g.L.Listener.observed l.to.listener) l.to.live.items l.self v
    × ((lives v.events ≡ lives w.events)
    × (all_closed (drop l.rank (lives w.events)) v ≡ all_closed (lives w.events) w))))
    × (l.self.pool.held ≡ l.initial.self.pool.held)

abbrev pub decreases-loop-rank : goal.decreases-loop-rank
decreases-loop-rank g l = l.count - l.rank
