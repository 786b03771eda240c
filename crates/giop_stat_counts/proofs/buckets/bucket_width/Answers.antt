use Rattle.std.proofs.Common.{ℕ, ◌^◌, ◌*◌, ◌%◌, ◌≤◌, arith}
use Rattle.std.proofs.Math.Nat.{pow-le-pow_right}
use Rattle.std.proofs.lemmas.Nat.{one_shl}
use Rattle.giop_stat_counts.proofs.buckets.bucket_width.Goals as goal

most : (after : ℕ) → after ≤ 38 → (1 * 2 ^ after) % 2 ^ 64 ≤ 2 ^ 38
most after h = rw (one_shl after 64 (omega arith)) (pow-le-pow_right {n = 2} (omega arith) h)

pub returns-clause-most : goal.returns-clause-most
returns-clause-most c = most c.args.after c.requires
