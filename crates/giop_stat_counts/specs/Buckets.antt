-- The buckets in which times are counted (docs/FORMATS.md, Counts).

use Rattle.std.specs.Prelude.{◌≡◌, ℕ, ◌+◌, ◌*◌, ◌^◌, ◌/◌, ◌<◌, ◌≤◌, ◌⊎◌}

-- the number of a bucket is made of the first six binary digits of its numbers and of how many
-- digits follow; each number below 64 has a bucket of its own
abbrev pub IsBucketOf : (time bucket_number : ℕ) → Type 0
IsBucketOf time bucket = (after : ℕ) × (bucket ≡ 1 + 32 * after + time / 2 ^ after)
    × (time / 2 ^ after < 64) × ((after ≡ 0) ⊎ (32 ≤ time / 2 ^ after))

-- the middle of the numbers of a bucket
abbrev pub IsMiddleOf : (bucket_number middle_time : ℕ) → Type 0
IsMiddleOf bucket middle = (after : ℕ) × (digits : ℕ) × (bucket ≡ 1 + 32 * after + digits)
    × (digits < 64) × ((after ≡ 0) ⊎ (32 ≤ digits)) × (middle ≡ digits * 2 ^ after + 2 ^ after / 2)
