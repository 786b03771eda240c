use Rattle.std.proofs.Common.{◌≡◌, ◌≤◌, ◌+◌, ◌-◌, ℕ, length, drop}
use Rattle.std.specs.Option.{option_map}
use Rattle.tcp_flow.specs.Flow.{index_of_header}
use Rattle.tcp_flow.proofs.flow.index_of_header.Given as goal

abbrev pub invariant-loop-index : goal.invariant-loop-index
invariant-loop-index l = (l.index ≤ length l.octets)
    × (index_of_header l.octets ≡ option_map (λ (k : ℕ). l.index + k)
    (index_of_header (drop l.index l.octets)))

abbrev pub decreases-loop-index : goal.decreases-loop-index
decreases-loop-index l = length l.octets - l.index
