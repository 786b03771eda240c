-- What is kept of the ids of a table by their remainders (state). Each removal of an id that isn't
-- the last one moves the ids after it up by one. So a number that was at most the index of an id
-- when the id came is at most the id's index now plus the number of these removals since then.
use Rattle.std.specs.Prelude.{◌≡◌, ◌==◌, ◌<◌, ◌≤◌, ◌^◌, ℕ, ◌+◌, ◌%◌, List, length, get_or}
use Rattle.std.specs.List.{count_by}

-- minus the removals, the number is at most the index of each id that has this remainder
abbrev pub IsLowerBound : (keys : List ℕ)
    (divisor removals remainder index_bound_with_removals : ℕ) → Type 0
IsLowerBound keys divisor removals remainder first =
    (i : ℕ) → i < length keys → get_or keys i 0 % divisor ≡ remainder → first ≤ i + removals

-- for each remainder: how many ids have it, and an index before which none of them is
pub record AreIndexedByRemainder (divisor : ℕ)
    (keys counts_by_remainder firsts_by_remainder : List ℕ) (removals : ℕ) : Type 0 where
  pub counts_many : length counts_by_remainder ≡ divisor
  pub firsts_many : length firsts_by_remainder ≡ divisor
  pub counted : (r : ℕ) → r < divisor →
      get_or counts_by_remainder r 0 ≡ count_by (λ k. k % divisor == r) keys
  pub before : (r : ℕ) → r < divisor →
      IsLowerBound keys divisor removals r (get_or firsts_by_remainder r 0)
  pub range : (r : ℕ) → r < divisor → get_or firsts_by_remainder r 0 < 2 ^ 64
