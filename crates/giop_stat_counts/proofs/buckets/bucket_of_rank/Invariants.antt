use Rattle.std.proofs.Common.{◌≡◌, ◌+◌, ◌<◌, take, sum}
use Rattle.giop_stat_counts.proofs.buckets.bucket_of_rank.Given as goal

abbrev pub invariant-loop-i : goal.invariant-loop-i
invariant-loop-i l = (l.left + sum (take l.i l.counts) ≡ l.rank) × (0 < l.left)
