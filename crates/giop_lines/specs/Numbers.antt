-- Numbers as lines have them. Each number has only one form (docs/FORMATS.md, Lines; meaning).
use Rattle.std.specs.Prelude.{◌≡◌, Bool, ◌&&◌, ◌||◌, nat_le, ℕ, ℤ, negsuc, suc, ◌≤◌, ◌^◌, ◌<◌, List, length, decimal, Option, MatchOption, FitsSigned}
use Rattle.std.specs.Int.{w64}
use Rattle.std.specs.Fmt.{signed_decimal}
use Rattle.giop_print.specs.Text.{hex_digit, hex_number}

-- the number below a limit that is written in decimal as this text; none if no such number is
abbrev pub IsNumberBelow : (limit : ℕ) (text : List ℕ) (number_or_none : Option ℕ) → Type 0
IsNumberBelow limit text number = MatchOption number
    ((n : ℕ) → n < limit → text ≡ decimal n → ⊥)
    (λ n. text ≡ decimal n)

-- the same for numbers that aren't 0
abbrev pub IsOrdinal : (text : List ℕ) (nonzero_64_bit_number : Option ℕ) → Type 0
IsOrdinal text number = MatchOption number
    ((n : ℕ) → 0 < n → n < 2 ^ 64 → text ≡ decimal n → ⊥)
    (λ n. (text ≡ decimal n) × (0 < n))

-- the same for numbers that may have a sign: a number below zero has one
abbrev pub IsInteger : (text : List ℕ) (signed_64_bit_number : Option ℤ) → Type 0
IsInteger text number = MatchOption number
    ((z : ℤ) → FitsSigned w64 z → text ≡ signed_decimal z → ⊥)
    (λ z. text ≡ signed_decimal z)

-- the same for the digits of a number below zero, without its sign
abbrev pub IsNegativeDigits : (digits_without_sign : List ℕ) (negative_number : Option ℤ) → Type 0
IsNegativeDigits digits number = MatchOption number
    ((n : ℕ) → 0 < n → n ≤ 2 ^ 63 → digits ≡ decimal n → ⊥)
    (λ z. (n : ℕ) × (z ≡ negsuc n) × (digits ≡ decimal (suc n)))

-- the number below 16 that has this octet as its digit
abbrev pub IsHexDigitValue : (digit_octet : ℕ) (value_below_16 : Option ℕ) → Type 0
IsHexDigitValue octet digit = MatchOption digit
    ((d : ℕ) → d < 16 → octet ≡ hex_digit d → ⊥)
    (λ d. (octet ≡ hex_digit d) × (d < 16))

-- a lower-case hexadecimal digit
abbrev pub is_hex_digit : (lower_case_digit : ℕ) → Bool
is_hex_digit octet = (nat_le 48 octet && nat_le octet 57) || (nat_le 97 octet && nat_le octet 102)

-- the text is the hexadecimal digits of this number
abbrev pub IsHexNumber : (text : List ℕ) (number : ℕ) → Type 0
IsHexNumber text number = text ≡ hex_number (length text) number
