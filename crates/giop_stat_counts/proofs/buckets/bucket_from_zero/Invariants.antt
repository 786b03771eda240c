use Rattle.std.proofs.Common.{◌≡◌, ◌^◌, ◌/◌, ◌≤◌, ◌⊎◌}
use Rattle.giop_stat_counts.proofs.buckets.bucket_from_zero.Given as goal

abbrev pub invariant-loop-after : goal.invariant-loop-after
invariant-loop-after l = (l.digits ≡ l.time / 2 ^ l.after) × ((l.after ≡ 0) ⊎ (32 ≤ l.digits))
