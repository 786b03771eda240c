-- Times and spans of time as text (RFC 3339, Internet Date/Time Format; docs/FORMATS.md; meaning).
-- A time is nanoseconds since 1970-01-01 UTC, without leap seconds.
use Rattle.std.specs.Prelude.{ℕ, zero, suc, ◌+◌, ◌-◌, ◌*◌, ◌/◌, ◌%◌, ◌^◌, List, [], ◌∷◌, ◌++◌, Option, Some, None, nat_le, nat_lt, if◌then◌else◌, codes, decimal}
use Rattle.httpdate.specs.Calendar.{days_of_years, days_of_months}
use Rattle.httpdate.specs.Text.{two_digits, four_digits}

-- the greatest number, at most `most`, at which `f` isn't above a number, if `f` rises
unfoldable pub greatest_within : (rising_function : ℕ → ℕ) (most_argument value_bound : ℕ) → ℕ
greatest_within f zero number = zero
greatest_within f (suc most) number =
    if nat_le (f (suc most)) number then suc most else greatest_within f most number

-- ---- the day

-- the number of years from 1970 to 9999
abbrev pub years_to_9999 : ℕ
years_to_9999 = 8030

-- the number of whole years from 1970 on that these days make
abbrev pub whole_years_of : (days_since_1970 : ℕ) → ℕ
whole_years_of days = greatest_within days_of_years (years_to_9999 - 1) days

-- the number of whole months of a year that its first days make
abbrev pub whole_months_of : (year day_of_year : ℕ) → ℕ
whole_months_of year days = greatest_within (days_of_months year) 11 days

-- a day of a year, by the days of the year before it: `11-23`
abbrev pub month_and_day : (year day_of_year : ℕ) → List ℕ
month_and_day year days =
    two_digits (whole_months_of year days + 1) ++ (codes "-"
    ++ two_digits (days - days_of_months year (whole_months_of year days) + 1))

-- a day of the Gregorian calendar, by the number of whole years from 1970 on and of the days of its
-- year before it: `2026-11-23`
unfoldable pub day_text : (years_since_1970 day_of_year : ℕ) → List ℕ
day_text passed days =
    four_digits (1970 + passed) ++ (codes "-" ++ month_and_day (1970 + passed) days)

-- a day of the Gregorian calendar, by the number of days from 1970 on before it
abbrev pub date_text : (days_since_1970 : ℕ) → List ℕ
date_text days = day_text (whole_years_of days) (days - days_of_years (whole_years_of days))

-- ---- the time of the day

-- the hour, the minute and the second, by the seconds of the day: `08:13:25`
unfoldable pub time_of_day_text : (second_of_day : ℕ) → List ℕ
time_of_day_text seconds =
    two_digits (seconds / 3600)
    ++ (codes ":" ++ (two_digits (seconds % 3600 / 60) ++ (codes ":" ++ two_digits (seconds % 60))))

-- the last decimal digits of a number, by how many
unfoldable pub last_digits : (digit_count number : ℕ) → List ℕ
last_digits zero number = []
last_digits (suc count) number = (48 + number / 10 ^ count % 10) ∷ last_digits count number

abbrev pub nanoseconds_per_second : ℕ
nanoseconds_per_second = 1_000_000_000

abbrev pub nanoseconds_per_day : ℕ
nanoseconds_per_day = 86_400 * nanoseconds_per_second

-- the second of a time, by the seconds from 1970 on: `2026-11-23T08:13:25.`
unfoldable pub date_and_second_text : (seconds_since_1970 : ℕ) → List ℕ
date_and_second_text seconds =
    date_text (seconds / 86_400) ++ (codes "T" ++ (time_of_day_text (seconds % 86_400)
    ++ codes "."))

-- a time: `2026-11-23T08:13:25.580228123Z`
unfoldable pub instant_text : (nanoseconds_since_1970 : ℕ) → List ℕ
instant_text time = date_and_second_text (time / nanoseconds_per_second)
    ++ (last_digits 9 (time % nanoseconds_per_second) ++ codes "Z")

-- the text of a time; if there is no time, or it is after the year 9999, the text is `-`
unfoldable pub time_text : (nanoseconds_since_1970 : Option ℕ) → List ℕ
time_text None = codes "-"
time_text (Some time) =
    if nat_lt (time / nanoseconds_per_day) (days_of_years years_to_9999) then instant_text time
    else codes "-"

-- ---- spans

-- a number of nanoseconds as seconds: `0.000228123`
unfoldable pub seconds_text : (nanoseconds : ℕ) → List ℕ
seconds_text nanoseconds =
    decimal (nanoseconds / nanoseconds_per_second)
    ++ (codes "." ++ last_digits 9 (nanoseconds % nanoseconds_per_second))

-- the span from one time to another, with `-` in front if it goes back; if a time is missing, `-`
-- alone
unfoldable pub span_text : (from to : Option ℕ) → List ℕ
span_text None to = codes "-"
span_text (Some from) None = codes "-"
span_text (Some from) (Some to) =
    if nat_le from to then seconds_text (to - from) else codes "-" ++ seconds_text (from - to)
