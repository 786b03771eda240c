-- Counts (docs/FORMATS.md, Counts).

use Rattle.std.specs.Prelude.{ℕ, ◌+◌, ◌-◌, ◌^◌, Bool, min, if◌then◌else◌}

-- a count, or one more if `is_one_more` is true; the greatest number of 64 bits stays
abbrev pub plus_one_if : (saturating_count : ℕ) (is_one_more : Bool) → ℕ
plus_one_if count is_one_more = min (count + (if is_one_more then 1 else 0)) (2 ^ 64 - 1)
