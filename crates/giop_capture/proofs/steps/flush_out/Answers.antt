-- If the flush of an out failed, the out has failed.
use Rattle.std.proofs.Common.{◌<◌, ℕ, refl, arith}
use Rattle.giop_print.specs.Output.{saturating_next}
use Rattle.giop_capture.proofs.steps.flush_out.Goals as goal

counted_some : (n : ℕ) → 0 < saturating_next n
unfolding saturating_next
counted_some n = omega arith

pub returns-in-Err-clause-refused : goal.returns-in-Err-clause-refused
returns-in-Err-clause-refused g c =
    (c.flush.new.self, refl, rw c.in-Err.ensures.failures (counted_some _))
