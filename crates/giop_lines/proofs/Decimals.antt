-- Decimal numbers without leading zeros.
use Rattle.std.proofs.Common.{◌≡◌, ℕ, zero, suc, ◌-◌, ◌^◌, ◌<◌, ◌≤◌, false, eqb, List, [], ◌∷◌, length, get_or, take, sym, ap, subst, ◌∙◌, arith}
use Rattle.std.proofs.Math.Nat.{pow-le-pow_right}
use Rattle.std.specs.Prelude.{Option, None, Result, Ok, Err}
use Rattle.std.specs.Result.{OkIff, result_ok}
use Rattle.std.specs.Char.{digit_value}
use Rattle.std.specs.Fmt.{decimal}
use Rattle.std.specs.Str.Parse.{AllDigits, digits_value}
use Rattle.std.proofs.lemmas.Fmt.{decimal_is_IsNumeral, length-decimal-le, first_decimal, decimal-digits_value, decimal_digit}
use Rattle.std.proofs.lemmas.Str.Parse.{IsNumeralModel, numerals_by_value, tells_digits, digit_from_value}
use Rattle.std.proofs.lemmas.Str.{digit_value_digit}
use Rattle.std.proofs.lemmas.Int.Digits.{digits_value-lt}
use Rattle.std.proofs.lemmas.List.{length-take}
use Rattle.giop_lines.specs.Numbers.{IsNumberBelow}

own : IsNumeralModel (AllDigits 10) (digits_value 10)
own = numerals_by_value (AllDigits 10) tells_digits

pub AllDigits-at : (ds : List ℕ) (i : ℕ) → AllDigits 10 ds → i < length ds
    → digit_value (get_or ds i 0) < 10
AllDigits-at [] i h lt = absurd (omega arith)
AllDigits-at (d ∷ ds) zero h lt = h.0
AllDigits-at (d ∷ ds) (suc i) h lt = AllDigits-at ds i h.1 (omega arith)

-- the digits of a number below 2^64
pub record IsDecimalDigits (ds : List ℕ) (n : ℕ) : Type 0 where
  pub some : 0 < length ds
  pub digits : AllDigits 10 ds
  pub value : digits_value 10 ds ≡ n
  pub leading : get_or ds 0 0 ≡ 48 → length ds ≡ 1

zero_written : length (decimal 0) ≡ 1
zero_written = ap length (decimal_digit 0 (omega arith))

decimal_leading : (n : ℕ) → n < 2 ^ 64 → get_or (decimal n) 0 0 ≡ 48 → length (decimal n) ≡ 1
decimal_leading zero lt e = zero_written
decimal_leading (suc n) lt e = absurd (omega (arith, first_decimal (suc n) (omega arith) lt))

pub is_written : (ds : List ℕ) (n : ℕ) → n < 2 ^ 64 → ds ≡ decimal n → IsDecimalDigits ds n
is_written ds n lt e =
    let k = decimal_is_IsNumeral n lt in
    subst (λ (xs : List ℕ). IsDecimalDigits xs n) (sym e)
    (record { some = k.0.0; digits = k.0.1; value = k.1; leading = decimal_leading n lt })

pub written_is : (ds : List ℕ) (n : ℕ) → n < 2 ^ 64 → IsDecimalDigits ds n → ds ≡ decimal n
written_is ds n lt w = sym (decimal-digits_value own ds w.digits w.some w.leading
    (omega (arith, w.value))) ∙ ap decimal w.value

-- a number below 10^k has at most k digits
pub is_short : (k : ℕ) (ds : List ℕ) (n : ℕ) → 0 < k → n < 10 ^ k → n < 2 ^ 64
    → ds ≡ decimal n → length ds ≤ k
is_short k ds n pos small lt e = omega (arith, ap length e, length-decimal-le k n pos small lt)

pub digit_is : (b : ℕ) → 48 ≤ b → b ≤ 57 → digit_value b ≡ b - 48
digit_is b low high = omega (arith, digit_value_digit b (low, high))

pub is_digit_octet : (b : ℕ) → digit_value b < 10 → (48 ≤ b) × (b ≤ 57)
is_digit_octet b h = let k = digit_from_value b h in (omega arith, omega arith)

-- if a text is no number below a limit in decimal, there is none to be read
pub not_below : (limit : ℕ) (ds : List ℕ) (r : Option ℕ) → r ≡ None
    → ((n : ℕ) → n < limit → ds ≡ decimal n → ⊥) → IsNumberBelow limit ds r
not_below limit ds r e h = subst (λ (o : Option ℕ). IsNumberBelow limit ds o) (sym e) h

-- digits are those of the number that is read, if it is below the limit
pub is_number : {E : Type 0} (limit : ℕ) → limit ≤ 2 ^ 64 → (ds : List ℕ) (n : ℕ) (v : Result ℕ E)
    → IsDecimalDigits ds n → OkIff v (n < limit) n → IsNumberBelow limit ds (result_ok v)
is_number limit le ds n (Ok m) w h =
    subst (λ (k : ℕ). ds ≡ decimal k) (sym h.1) (written_is ds n (omega (arith, h.0)) w)
is_number limit le ds n (Err e) w h = λ m small e2.
    h (omega (arith, w.value, (is_written ds m (omega arith) e2).value))

pub is_some_length : (k : ℕ) → false ≡ eqb k 0 → 0 < k
is_some_length zero e = absurd cc
is_some_length (suc k) e = omega arith

-- digits are those of only one number
pub same_number : (ds : List ℕ) (m n : ℕ) → m < 2 ^ 64 → n < 2 ^ 64 → ds ≡ decimal m
    → ds ≡ decimal n → m ≡ n
same_number ds m n lm ln em en = sym (is_written ds m lm em).value ∙ (is_written ds n ln en).value
