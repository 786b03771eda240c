use Rattle.std.proofs.Common.{◌≤◌, ◌-◌, length}
use Rattle.tcp_waiting.specs.Payload.{place_of}
use Rattle.tcp_waiting.proofs.pool.Pool.bounds.Given as goal

abbrev pub invariant-loop-low : goal.invariant-loop-low
invariant-loop-low l = (l.low ≤ place_of l.wanted l.self.held)
    × (place_of l.wanted l.self.held ≤ l.high) × (l.high ≤ length l.self.held)

abbrev pub decreases-loop-low : goal.decreases-loop-low
decreases-loop-low l = l.high - l.low
