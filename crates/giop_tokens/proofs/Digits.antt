-- Digits, and the number that they are.
use Rattle.std.proofs.Common.{◌≡◌, ℕ, zero, suc, ◌-◌, ◌^◌, ◌<◌, ◌≤◌, Bool, true, false, cond, List, [], ◌∷◌, length, get_or, take, refl, sym, ap, subst, ◌∙◌, arith}
use Rattle.std.proofs.Math.Nat.{pow-le-pow_right}
use Rattle.std.specs.Prelude.{◌&&◌, ◌||◌, not, ◌==◌, Some, None, decimal, slice_index}
use Rattle.std.specs.List.{list_all, AllByRecursion}
use Rattle.std.proofs.lemmas.Fmt.{decimal_is_IsNumeral, length-decimal-le, first_decimal, decimal-digits_value, decimal_digit}
use Rattle.std.proofs.lemmas.Str.Parse.{IsNumeralModel, numerals_by_value, tells_digits, digit_from_value}
use Rattle.std.specs.Char.{digit_value}
use Rattle.std.specs.Str.Parse.{AllDigits, digits_value}
use Rattle.std.proofs.lemmas.Str.{digit_value_digit}
use Rattle.std.proofs.lemmas.Int.Digits.{digits_value-lt}
use Rattle.std.proofs.lemmas.List.{length-take}
use Rattle.std.proofs.lemmas.Bool.{and_parts, leb-true, ltb-true, eqb-true, eqb-false, le-leb, lt-ltb}
use Rattle.giop_tokens.specs.Tokens.{is_digit, is_word_octet, is_number, number_of}

pub digit_bounds : (b : ℕ) → is_digit b ≡ true → (48 ≤ b) × (b ≤ 57)
digit_bounds b e = search (arith, and_parts, leb-true)

pub digit_is : (b : ℕ) → is_digit b ≡ true → digit_value b ≡ b - 48
digit_is b e = search (arith, digit_bounds, digit_value_digit)

pub digit_small : (b : ℕ) → is_digit b ≡ true → digit_value b < 10
digit_small b e = search (arith, digit_bounds, digit_is)

-- if all octets are digits, each of them is one
pub digit_at : (ds : List ℕ) (i : ℕ) → list_all is_digit ds ≡ true → i < length ds →
    is_digit (get_or ds i 0) ≡ true
digit_at [] i h lt = absurd (omega arith)
digit_at (d ∷ ds) zero h lt = search (arith, and_parts)
digit_at (d ∷ ds) (suc i) h lt = digit_at ds i (and_parts (is_digit d) (list_all is_digit ds) h).1
    (omega arith)

pub all_digits : (ds : List ℕ) → list_all is_digit ds ≡ true → AllDigits 10 ds
all_digits [] h = tt
all_digits (d ∷ ds) h = let k = and_parts (is_digit d) (list_all is_digit ds) h in
    (digit_small d k.0, all_digits ds k.1)

-- the number of the first digits, without the last, of at most twenty
pub value_small : (ds : List ℕ) (i : ℕ) → i < length ds → length ds ≤ 20 →
    AllDigits 10 (take i ds) → digits_value 10 (take i ds) < 10 ^ 19
value_small ds i lt most h = search (arith, take, length-take, digits_value-lt, pow-le-pow_right)

-- ---- The number that a word is, and how the number is written in decimal.

some_is : (x y : ℕ) → Some x ≡ Some y → x ≡ y
some_is x y e = cc

own : IsNumeralModel (AllDigits 10) (digits_value 10)
own = numerals_by_value (AllDigits 10) tells_digits

is_digit_from : (b : ℕ) → digit_value b < 10 → is_digit b ≡ true
is_digit_from b h = search (arith, digit_from_value, le-leb)

are_digits_from : (ds : List ℕ) → AllDigits 10 ds → list_all is_digit ds ≡ true
are_digits_from [] h = refl
are_digits_from (d ∷ ds) h = rw (is_digit_from d h.0, are_digits_from ds h.1) refl

-- the conditions under which a word is a number
pub record IsNumber (w : List ℕ) : Type 0 where
  pub some : 1 ≤ length w
  pub few : length w ≤ 20
  pub digits : list_all is_digit w ≡ true
  pub leading : (length w == 1 || not (slice_index w 0 == 48)) ≡ true
  pub value : digits_value 10 w < 2 ^ 64

pub number_true : (w : List ℕ) → IsNumber w → is_number w ≡ true
unfolding is_number
number_true w n = search (arith, le-leb, lt-ltb)

five : (a b c d e : Bool) → (a && b && c && d && e) ≡ true → (a ≡ true) × (b ≡ true) × (c ≡ true)
    × (d ≡ true) × (e ≡ true)
five true true true true true h = search (arith)
five false b c d e h = absurd cc
five true false c d e h = absurd cc
five true true false d e h = absurd cc
five true true true false e h = absurd cc
five true true true true false h = absurd cc

pub number_parts : (w : List ℕ) → is_number w ≡ true → IsNumber w
unfolding is_number
number_parts w h = search (arith, five, leb-true, ltb-true)

leading_by : (n : ℕ) (v : Bool) → n == 1 ≡ v → (b : ℕ) → (b ≡ 48 → n ≡ 1) → (u : Bool) →
    b == 48 ≡ u → (n == 1 || not (b == 48)) ≡ true
leading_by n true e b h u f = rw e refl
leading_by n false e b h false f = rw (e, f) refl
leading_by n false e b h true f = search (arith, eqb-false, eqb-true)

leading_from : (n : ℕ) (b : ℕ) → (n == 1 || not (b == 48)) ≡ true → b ≡ 48 → n ≡ 1
leading_from n b h e = search (arith, eqb-true)

decimal_leading : (n : ℕ) → n < 2 ^ 64 → slice_index (decimal n) 0 ≡ 48 → length (decimal n) ≡ 1
decimal_leading zero lt e = search (arith, decimal_digit)
decimal_leading (suc n) lt e = search (arith, first_decimal)

pub decimal_value : (n : ℕ) → n < 2 ^ 64 → digits_value 10 (decimal n) ≡ n
decimal_value n lt = (decimal_is_IsNumeral n lt).1

pub decimal_is_number : (n : ℕ) → n < 2 ^ 64 → IsNumber (decimal n)
decimal_is_number n lt =
    let k = decimal_is_IsNumeral n lt in
    record {
      some = omega (arith, k.0.0);
      few = length-decimal-le 20 n (omega arith) (omega arith) lt;
      digits = are_digits_from (decimal n) k.0.1;
      leading = leading_by (length (decimal n)) (length (decimal n) == 1) refl
          (slice_index (decimal n) 0) (decimal_leading n lt) (slice_index (decimal n) 0 == 48) refl;
      value = omega (arith, k.1);
    }

-- there is only one way to write a number
pub number_is_decimal : (w : List ℕ) → IsNumber w → decimal (digits_value 10 w) ≡ w
number_is_decimal w n = decimal-digits_value own w (all_digits w n.digits) n.some
    (leading_from (length w) (slice_index w 0) n.leading) n.value

-- a number that is written in decimal is read again
pub number_of_decimal : (n : ℕ) → n < 2 ^ 64 → number_of (decimal n) ≡ Some n
number_of_decimal n lt = search (arith, number_true, decimal_is_number, decimal_value)

number_by : (w : List ℕ) (v : Bool) (n : ℕ) → is_number w ≡ v →
    cond v (Some (digits_value 10 w)) None ≡ Some n → IsNumber w × (w ≡ decimal n) × (n < 2 ^ 64)
number_by w false n e h = absurd cc
number_by w true n e h =
    let k = number_parts w e in
    let same : digits_value 10 w ≡ n = some_is (digits_value 10 w) n h in
    (k, sym (number_is_decimal w k) ∙ ap decimal same, subst (λ m. m < 2 ^ 64) same k.value)

-- a word that is a number is that number, written in decimal
pub number_of_is : (w : List ℕ) (n : ℕ) → number_of w ≡ Some n → IsNumber w × (w ≡ decimal n)
    × (n < 2 ^ 64)
number_of_is w n h = number_by w (is_number w) n refl h

or_third : (a b c d : Bool) → c ≡ true → (a || b || c || d) ≡ true
or_third true b c d e = refl
or_third false true c d e = refl
or_third false false c d e = rw e refl

-- a digit is a word octet
pub digit_is_word : (b : ℕ) → is_digit b ≡ true → is_word_octet b ≡ true
digit_is_word b e = search (arith, or_third)

pub digits_are_word : (w : List ℕ) → list_all is_digit w ≡ true →
    AllByRecursion (λ b. is_word_octet b ≡ true) w
digits_are_word [] h = tt
digits_are_word (b ∷ w) h = let k = and_parts (is_digit b) (list_all is_digit w) h in
    (digit_is_word b k.0, digits_are_word w k.1)
