-- The messages that are counted, by their times (docs/FORMATS.md, Counts).

use Rattle.std.specs.Prelude.{ℕ, Bool, true, false, not, ◌&&◌, ◌==◌, List, [], ◌∷◌, length, slice_index, drop, take, nat_lt, min, if◌then◌else◌}

-- whether a time has its day: a T follows the day
abbrev pub has_day : (time : List ℕ) → Bool
has_day time = nat_lt 10 (length time) && slice_index time 10 == 84

-- the part of a time that is compared with another time: without its day if the other one has no
-- day
abbrev pub comparable_part : (time other_time : List ℕ) → List ℕ
comparable_part time other = if has_day other then time else drop (min (length time) 11) time

-- the order of texts, octet by octet
abbrev pub comes_before : (one other : List ℕ) → Bool
comes_before one [] = false
comes_before [] (y ∷ ys) = true
comes_before (x ∷ xs) (y ∷ ys) = if x == y then comes_before xs ys else nat_lt x y

-- an empty time isn't known
abbrev pub is_known_time : (time : List ℕ) → Bool
is_known_time time = nat_lt 0 (length time)

abbrev pub is_at_or_after : (time first_time : List ℕ) → Bool
is_at_or_after time first =
    is_known_time time && not (comes_before (comparable_part time first) first)

-- the first octets of a time, as many as another time has
abbrev pub front_as_long_as : (time other_time : List ℕ) → List ℕ
front_as_long_as time other = take (min (length time) (length other)) time

-- whether a time isn't after the last one, or begins with it
abbrev pub is_up_to : (time last_time_or_front : List ℕ) → Bool
is_up_to time last =
    is_known_time time
    && not (comes_before last (front_as_long_as (comparable_part time last) last))
