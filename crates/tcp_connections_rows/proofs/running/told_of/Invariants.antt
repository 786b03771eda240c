use Rattle.std.proofs.Common.{◌≡◌, ◌-◌, length}
use Rattle.tcp_connections.specs.State.{HasState}
use Rattle.tcp_connections_rows.proofs.running.told_of.Given as goal

abbrev pub invariant-loop-index : goal.invariant-loop-index
invariant-loop-index l =
    HasState (λ events. Unit {0}) l.streams.live.items l.known
    × (l.known.segments ≡ l.index)

abbrev pub decreases-loop-index : goal.decreases-loop-index
decreases-loop-index l = length l.steps - l.index
