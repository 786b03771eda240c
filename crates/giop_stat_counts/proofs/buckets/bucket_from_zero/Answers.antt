use Rattle.std.proofs.Common.{◌≡◌, ℕ, ◌+◌, ◌^◌, ◌/◌, arith, add-one, inr}
use Rattle.std.proofs.Math.Nat.{div-div-eq-div-mul, pow-suc}
use Rattle.giop_stat_counts.proofs.buckets.bucket_from_zero.Goals as goal

halved : (time after digits : ℕ) → digits ≡ time / 2 ^ after → digits / 2 ≡ time / 2 ^ (after + 1)
halved time after digits e = rw (e, add-one, pow-suc) (div-div-eq-div-mul time (2 ^ after) 2)

pub loop-after-preserved : goal.loop-after-preserved
loop-after-preserved c = (halved _ _ _ c.loop-after.invariant.0, inr (omega arith))
