use Rattle.std.proofs.Common.{◌≡◌, ◌-◌, length, drop, get_or}
use Rattle.tcp_connections.specs.Connections.{heaviest_from}
use Rattle.tcp_connections.proofs.connections.Connections.heaviest_by_walk.Given as goal

abbrev pub invariant-loop-id : goal.invariant-loop-id
invariant-loop-id g l =
    heaviest_from l.self.pool.held l.best (drop l.rank l.to.live.items)
    ≡ heaviest_from l.self.pool.held (get_or l.to.live.items 0 0) l.to.live.items

abbrev pub decreases-loop-id : goal.decreases-loop-id
decreases-loop-id g l = length l.to.live.items - l.rank
