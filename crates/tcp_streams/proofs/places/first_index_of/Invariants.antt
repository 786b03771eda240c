use Rattle.std.proofs.Common.{◌≡◌, ◌≤◌, ◌+◌, ◌-◌, ℕ, length, drop}
use Rattle.std.specs.Option.{option_map}
use Rattle.tcp_streams.specs.Lives.{index_of}
use Rattle.tcp_streams.proofs.places.first_index_of.Given as goal

abbrev pub invariant-loop-index : goal.invariant-loop-index
invariant-loop-index l =
    (l.index ≤ length l.numbers.items)
    × (index_of l.wanted l.numbers.items ≡ option_map (λ (k : ℕ). l.index + k)
    (index_of l.wanted (drop l.index l.numbers.items)))

abbrev pub decreases-loop-index : goal.decreases-loop-index
decreases-loop-index l = length l.numbers.items - l.index
