use Rattle.std.proofs.Common.{ℕ, ◌+◌, ◌*◌, ◌/◌, ◌^◌, ◌<◌, ◌≤◌, arith}
use Rattle.std.proofs.lemmas.Nat.{mul-le}
use Rattle.giop_stat_counts.proofs.buckets.middle_of_bucket.Goals as goal

room : (digits width : ℕ) → digits < 64 → width ≤ 2 ^ 38 → digits * width + width / 2 < 2 ^ 64
room digits width d w = omega (arith, mul-le digits width 63 (2 ^ 38) (omega arith) w)

pub overflow_mul-result : goal.overflow_mul-result
overflow_mul-result c =
    omega (
      arith,
      room _ _ c.after_and_first_digits-after.ensures.digits c.bucket_width-width.ensures.most,
    )

pub overflow_add-result : goal.overflow_add-result
overflow_add-result c =
    omega (
      arith,
      room _ _ c.after_and_first_digits-after.ensures.digits c.bucket_width-width.ensures.most,
    )
