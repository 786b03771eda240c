use Rattle.std.proofs.Common.{◌≤◌, ◌-◌}
use Rattle.tcp_waiting.specs.Payload.{place_of}
use Rattle.tcp_waiting.proofs.pool.Pool.place_between.Given as goal

abbrev pub invariant-loop-low : goal.invariant-loop-low
invariant-loop-low l = (l.low ≤ place_of l.wanted l.self.held)
    × (place_of l.wanted l.self.held ≤ l.high)

abbrev pub decreases-loop-low : goal.decreases-loop-low
decreases-loop-low l = l.high - l.low
