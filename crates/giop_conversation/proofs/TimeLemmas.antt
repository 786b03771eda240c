-- The years and months that days make, and how long a number of seconds is.
use Rattle.std.proofs.Common.{◌≡◌, ℕ, zero, suc, ◌+◌, ◌-◌, ◌*◌, ◌/◌, ◌%◌, ◌^◌, ◌≤◌, ◌<◌, List, [], ◌∷◌, ◌++◌, length, decimal, get_or, codes, nat_lt, Some, subst, Bool, true, false, ◌&&◌, T, eqb, eqb→eq, eq-zero-or-pos, nat_le, inl, inr, refl, sym, arith, append-nil, append_assoc, add-one}
use lib.Ieee.Fits.{and_l, and_r}
use Rattle.giop_conversation.specs.declared.times.TheConstants.{PAIRS}
use Rattle.httpdate.specs.Text.{two_digits}
use Rattle.std.proofs.lemmas.Bool.Decides.{nat_tests}
use Rattle.std.proofs.lemmas.Bool.{cases_lt, leb-true, leb-false, le-ltb}
use Rattle.httpdate.specs.Calendar.{days_in_year, days_of_years, days_in_month, days_of_months}
use Rattle.httpdate.proofs.CalendarLemmas.{days_of_years_closed, days_of_months_closed}
use Rattle.std.proofs.lemmas.Fmt.{length-decimal-le_wide}
use Rattle.giop_conversation.specs.Times.{greatest_within, years_to_9999, whole_years_of, whole_months_of, last_digits, nanoseconds_per_second, nanoseconds_per_day, day_text, time_of_day_text, date_and_second_text, instant_text, time_text}

rises : (f : ℕ → ℕ) → ((n : ℕ) → f n ≤ f (suc n)) → (k more : ℕ) → f k ≤ f (more + k)
rises f up k zero = search (arith)
rises f up k (suc more) = search (arith, rises f up k more)

rises_to : (f : ℕ → ℕ) → ((n : ℕ) → f n ≤ f (suc n)) → (k later : ℕ) → k ≤ later → f k ≤ f later
rises_to f up k later low =
    let same : (later - k) + k ≡ later = omega (arith, low) in
    rw same at (rises f up k (later - k))

last_is : (f : ℕ → ℕ) → ((n : ℕ) → f n ≤ f (suc n)) → (most k n : ℕ) → k ≤ most → f k ≤ n →
    (k < most → n < f (suc k)) → greatest_within f most n ≡ k
unfolding greatest_within
last_is f up zero k n few low high = omega (arith, few)
last_is f up (suc most) k n few low high =
    elim (cases_lt k (suc most)) [
      | inl less ↦ before less (nat_le (f (suc most)) n) refl
          (last_is f up most k n (omega (arith, less)) low (λ fewer. high (omega (arith, fewer))))
      | inr whole ↦ at_most (nat_le (f (suc most)) n) refl (omega (arith, few, whole))
    ]
  where
    before : k < suc most → (b : Bool) → nat_le (f (suc most)) n ≡ b → greatest_within f most n
        ≡ k →
        greatest_within f (suc most) n ≡ k
    before less true is rest =
        absurd (omega (
          arith,
          leb-true _ _ is,
          high less,
          rises_to f up (suc k) (suc most)
              (omega (arith, less)),
        ))
    before less false is rest = rw is rest

    at_most : (b : Bool) → nat_le (f (suc most)) n ≡ b → k ≡ suc most →
        greatest_within f (suc most) n ≡ k
    at_most true is same = rw is (sym same)
    at_most false is same = search (arith, leb-false)

years_rise : (n : ℕ) → days_of_years n ≤ days_of_years (suc n)
unfolding days_of_years
years_rise n = omega arith

year_more : (n : ℕ) → days_of_years (suc n) ≡ days_of_years n + days_in_year (1970 + n)
unfolding days_of_years
year_more n = refl

months_rise : (year n : ℕ) → days_of_months year n ≤ days_of_months year (suc n)
unfolding days_of_months
months_rise year n = omega arith

month_more : (year n : ℕ) →
    days_of_months year (suc n) ≡ days_of_months year n + days_in_month year (suc n)
unfolding days_of_months
month_more year n = refl

pub year_next : (n : ℕ) → days_of_years (n + 1) ≡ days_of_years n + days_in_year (1970 + n)
year_next n = rw add-one (year_more n)

-- no year is longer than 366 days
pub years_short : (n : ℕ) → days_of_years n ≤ 366 * n
unfolding days_of_years
years_short zero = omega arith
years_short (suc n) = grind (arith, nat_tests, years_short n)

-- the number of days in years, without a sum over each year
pub years_closed : (n : ℕ) →
    365 * (n + 369) + (n + 369) / 4 - (n + 369) / 100 + (n + 369) / 400 - 134774 ≡ days_of_years n
years_closed n = search (arith, days_of_years_closed)

pub year_found : (days passed left : ℕ) → passed < years_to_9999 → days_of_years passed + left
    ≡ days →
    left < days_in_year (1970 + passed) →
    (days < days_of_years years_to_9999) × (passed ≡ whole_years_of days) × (passed < years_to_9999)
    × (left ≡ days - days_of_years passed) × (left < days_in_year (1970 + passed))
year_found days passed left some is short =
    let more = year_more passed in
    let all = rises_to days_of_years years_rise (suc passed) years_to_9999 some in (
      omega (arith, more, all, is, short),
      sym (last_is days_of_years years_rise (years_to_9999 - 1) passed days (omega (arith, some))
          (omega (arith, is)) (λ _. omega (arith, more, is, short))),
      some,
      omega (arith, is),
      short,
    )

pub month_found : (year days passed left : ℕ) → passed ≤ 11 →
    days_of_months year passed + left ≡ days →
    (passed < 11 → left < days_in_month year (passed + 1)) →
    (passed ≡ whole_months_of year days) × (left ≡ days - days_of_months year passed)
month_found year days passed left some is short =
    let more = month_more year passed in (
      sym (last_is (days_of_months year) (months_rise year) 11 passed days some (omega (arith, is))
          (λ less. omega (arith, more, is, rw add-one at (short less)))),
      omega (arith, is),
    )

-- the months before a day of a year, and the days that are left
pub record IsMonth (year days passed left : ℕ) : Type 0 where
  pub before : days_of_months year passed + left ≡ days
  pub short : left < days_in_month year (passed + 1)
  pub few : passed ≤ 11

-- the month of a day in January and February
pub early_month : (year days passed : ℕ) → days < days_in_year year - 306 →
    passed ≡ (12 * days + 6) / 367 → IsMonth year days passed (days - (367 * passed + 5) / 12)
early_month year days zero early is = search (arith, days_of_months_closed)
early_month year days (suc zero) early is = search (arith, days_of_months_closed)
early_month year days (suc (suc passed)) early is = absurd (grind arith)

-- the month of a later day
pub late_month : (year days even passed : ℕ) → days < days_in_year year →
    days_in_year year - 306 ≤ days → even ≡ days + 61 - (days_in_year year - 306) →
    passed ≡ (12 * even + 6) / 367 → IsMonth year days passed (even - (367 * passed + 5) / 12)
late_month year days even zero within late same is = absurd (grind arith)
late_month year days even (suc zero) within late same is = absurd (grind arith)
late_month year days even (suc (suc zero)) within late same is =
    let before = days_of_months_closed year 2 (omega arith) in
    record { before = grind (arith, before); short = grind arith; few = omega arith }
late_month year days even (suc (suc (suc zero))) within late same is =
    let before = days_of_months_closed year 3 (omega arith) in
    record { before = grind (arith, before); short = grind arith; few = omega arith }
late_month year days even (suc (suc (suc (suc zero)))) within late same is =
    let before = days_of_months_closed year 4 (omega arith) in
    record { before = grind (arith, before); short = grind arith; few = omega arith }
late_month year days even (suc (suc (suc (suc (suc zero))))) within late same is =
    let before = days_of_months_closed year 5 (omega arith) in
    record { before = grind (arith, before); short = grind arith; few = omega arith }
late_month year days even (suc (suc (suc (suc (suc (suc zero)))))) within late same is =
    let before = days_of_months_closed year 6 (omega arith) in
    record { before = grind (arith, before); short = grind arith; few = omega arith }
late_month year days even (suc (suc (suc (suc (suc (suc (suc zero))))))) within late same is =
    let before = days_of_months_closed year 7 (omega arith) in
    record { before = grind (arith, before); short = grind arith; few = omega arith }
late_month year days even (suc (suc (suc (suc (suc (suc (suc (suc zero)))))))) within late same is =
    let before = days_of_months_closed year 8 (omega arith) in
    record { before = grind (arith, before); short = grind arith; few = omega arith }
late_month year days even (suc (suc (suc (suc (suc (suc (suc (suc (suc zero)))))))))
    within late same is =
    let before = days_of_months_closed year 9 (omega arith) in
    record { before = grind (arith, before); short = grind arith; few = omega arith }
late_month year days even (suc (suc (suc (suc (suc (suc (suc (suc (suc (suc zero))))))))))
    within late same is =
    let before = days_of_months_closed year 10 (omega arith) in
    record { before = grind (arith, before); short = grind arith; few = omega arith }
late_month year days even (suc (suc (suc (suc (suc (suc (suc (suc (suc (suc (suc zero)))))))))))
    within late same is =
    let before = days_of_months_closed year 11 (omega arith) in
    record { before = grind (arith, before); short = grind arith; few = omega arith }
late_month year days even
    (suc (suc (suc (suc (suc (suc (suc (suc (suc (suc (suc (suc passed))))))))))))
    within late same is =
    absurd (grind arith)

pub month_is : (year days even passed : ℕ) → days < days_in_year year →
    (days < days_in_year year - 306 → even ≡ days) →
    (days_in_year year - 306 ≤ days → even ≡ days + 61 - (days_in_year year - 306)) →
    passed ≡ (12 * even + 6) / 367 → IsMonth year days passed (even - (367 * passed + 5) / 12)
month_is year days even passed within early late is =
    elim (cases_lt days (days_in_year year - 306)) [
      | inl less ↦ let same = early less in
          subst (λ e. IsMonth year days passed (e - (367 * passed + 5) / 12)) (sym same)
          (early_month year days passed less (rw same at is))
      | inr more ↦ late_month year days even passed within more (late more) is
    ]

-- the two decimal digits of each number stand in a table
are_pairs : ℕ → Bool
are_pairs zero = true
are_pairs (suc n) = (eqb (get_or PAIRS (n * 2) 0) (48 + n / 10)
    && eqb (get_or PAIRS (n * 2 + 1) 0) (48 + n % 10)) && are_pairs n

pairs_below : (most n : ℕ) → T (are_pairs most) → n < most →
    (get_or PAIRS (n * 2) 0 ≡ 48 + n / 10) × (get_or PAIRS (n * 2 + 1) 0 ≡ 48 + n % 10)
unfolding are_pairs
pairs_below zero n t few = absurd (omega (arith, few))
pairs_below (suc most) n t few =
    elim (eq-zero-or-pos (most - n)) [
      | inl z ↦ let e : n ≡ most = omega (arith, z, few) in let a = and_l _ (are_pairs most) t in
          rw e (eqb→eq _ _ (and_l _ _ a), eqb→eq _ _ (and_r _ _ a))
      | inr g ↦ pairs_below most n (and_r _ (are_pairs most) t) (omega (arith, g))
    ]

pub pair_at : (n : ℕ) → n < 100 →
    (get_or PAIRS (n * 2) 0 ≡ 48 + n / 10) × (get_or PAIRS (n * 2 + 1) 0 ≡ 48 + n % 10)
unfolding are_pairs
pair_at n few = pairs_below 100 n tt few

both : {x y : ℕ} {xs ys : List ℕ} → x ≡ y → xs ≡ ys → x ∷ xs ≡ y ∷ ys
both first rest = rw first (rw rest refl)

-- nine digits, the last eight of them by twos
pub nine_digits : (n : ℕ) (text : List ℕ) →
    (48 + n / 10000 / 10000 % 10) ∷ (two_digits (n / 10000 / 100 % 100)
    ++ (two_digits (n / 10000 % 100) ++ (two_digits (n % 10000 / 100)
    ++ (two_digits (n % 10000 % 100) ++ text))))
    ≡ last_digits 9 n ++ text
unfolding last_digits
nine_digits n text = search (arith, both)

-- the first second of 1970
pub first_day : (0 < days_of_years years_to_9999) × (0 ≡ whole_years_of 0)
unfolding days_of_years
first_day =
    let found = year_found 0 0 0 (omega arith) refl (omega arith) in (found.0, found.1)

first_date : (passed : ℕ) → passed ≡ 0 →
    day_text passed (0 - days_of_years passed) ≡ codes "1970-01-01"
unfolding day_text greatest_within days_of_months days_of_years
first_date passed is = rw is refl

pub first_second : date_and_second_text 0 ≡ codes "1970-01-01T00:00:00."
unfolding date_and_second_text time_of_day_text
first_second = search (arith, first_date, first_day)

-- a second by the year and the day that it is in
pub second_is : (seconds passed days : ℕ) → passed ≡ whole_years_of (seconds / 86_400) →
    days ≡ seconds / 86_400 - days_of_years passed →
    (day_text passed days ++ (codes "T" ++ (time_of_day_text (seconds % 86_400) ++ codes ".")))
    ++ []
    ≡ date_and_second_text seconds
unfolding date_and_second_text
second_is seconds passed days year day = search (arith, append-nil)

-- a time by its second
pub time_is : (n seconds : ℕ) → seconds ≡ n / nanoseconds_per_second →
    nat_lt (seconds / 86_400) (days_of_years years_to_9999) ≡ true →
    time_text (Some n) ≡ date_and_second_text seconds ++ (last_digits 9 (n % nanoseconds_per_second)
    ++ codes "Z")
unfolding time_text instant_text
time_is n seconds is early = search (arith)

pub time_put : (n seconds : ℕ) (octets text : List ℕ) → seconds ≡ n / nanoseconds_per_second →
    nat_lt (seconds / 86_400) (days_of_years years_to_9999) ≡ true → octets ≡ date_and_second_text
    seconds →
    octets ++ (last_digits 9 (n % nanoseconds_per_second) ++ (codes "Z" ++ text))
    ≡ time_text (Some n) ++ text
unfolding last_digits
time_put n seconds octets text is early shown =
    rw (shown, time_is n seconds is early)
    (sym (append_assoc (date_and_second_text seconds) (last_digits 9 (n % nanoseconds_per_second)
    ++ codes "Z") text))

-- a time after the last year of four digits is written as `-`
pub none_put : (n seconds : ℕ) → seconds ≡ n / nanoseconds_per_second →
    nat_lt (seconds / 86_400) (days_of_years years_to_9999) ≡ false → time_text (Some n) ≡ codes "-"
unfolding time_text
none_put n seconds is late = search (arith)

-- so is a time of 2^64 seconds or more, which is after that year
pub late_text : (n : ℕ) → 18446744073709551616 ≤ n / nanoseconds_per_second → time_text (Some n)
    ≡ codes "-"
unfolding time_text
late_text n late = search (arith, years_short, nat_lt, le-ltb)

-- seconds of a span have at most 30 digits
pub seconds_short : (n : ℕ) → n < 2 ^ 128 → length (decimal (n / nanoseconds_per_second)) ≤ 30
seconds_short n fits = search (arith, length-decimal-le_wide)
