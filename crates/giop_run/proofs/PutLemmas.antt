-- The count of puts, of which some are recent.
use Rattle.std.proofs.Common.{◌≡◌, ℕ, ◌+◌, ◌-◌, ◌^◌, min, arith}
use Rattle.giop_print.specs.Output.{saturating_next}

-- one more recent put is one more put, except that a count of 2^64 - 1 stays
pub one_more_recent : (puts recent : ℕ) →
    min (puts + (recent + 1)) (2 ^ 64 - 1) ≡ saturating_next (min (puts + recent) (2 ^ 64 - 1))
unfolding saturating_next
one_more_recent puts recent = omega arith
