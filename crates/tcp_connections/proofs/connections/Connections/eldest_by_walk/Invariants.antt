use Rattle.std.proofs.Common.{◌≡◌, ◌≤◌, ◌<◌, ◌-◌, [], length}
use Rattle.tcp_connections.specs.Connections.{eldest}
use Rattle.tcp_connections.specs.State.{state_of}
use Rattle.tcp_connections.proofs.connections.Connections.eldest_by_walk.Given as goal

abbrev pub invariant-loop-index : goal.invariant-loop-index
invariant-loop-index l =
    (l.index ≤ length l.self.table.keys) × (l.best < length l.self.table.keys)
    × (l.best ≡ eldest (state_of l.self []) l.index)

abbrev pub decreases-loop-index : goal.decreases-loop-index
decreases-loop-index l = length l.self.table.keys - l.index
