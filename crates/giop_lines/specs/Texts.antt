-- The octets of strings and of octet sequences as lines have them (docs/FORMATS.md, Values;
-- meaning).
use Rattle.std.specs.Prelude.{◌≡◌, false, ℕ, ◌<◌, ◌≤◌, List, ◌++◌, length, All, Option, MatchOption}
use Rattle.std.specs.Borrow.{Bor}
use Rattle.giop_print.specs.Text.{is_plain, hex_octet, escaped_octet, escaped, hex}

-- the octet at the front of a text, and what follows it; none if there isn't any
abbrev pub IsFirstOctet : (escaped_text : List ℕ)
    (first_octet_and_rest : Option (ℕ × Bor (List ℕ))) → Type 0
IsFirstOctet text first = MatchOption first
    ((x : ℕ) (rest : List ℕ) → x < 256 → text ≡ escaped_octet x ++ rest → ⊥)
    (λ f. (f.0 < 256) × (text ≡ escaped_octet f.0 ++ f.1.now))

-- the same for the two digits of an escape
abbrev pub IsEscapeDigits : (text_from_digits : List ℕ)
    (octet_and_rest : Option (ℕ × Bor (List ℕ))) → Type 0
IsEscapeDigits digits first = MatchOption first
    ((x : ℕ) (rest : List ℕ) → x < 256 → is_plain x ≡ false → digits ≡ hex_octet x ++ rest → ⊥)
    (λ f. (f.0 < 256) × (is_plain f.0 ≡ false) × (digits ≡ hex_octet f.0 ++ f.1.now))

-- the same for two hexadecimal digits
abbrev pub IsHexPair : (text_from_digits : List ℕ) (octet_and_rest : Option (ℕ × Bor (List ℕ))) →
    Type 0
IsHexPair digits first = MatchOption first
    ((x : ℕ) (rest : List ℕ) → x < 256 → digits ≡ hex_octet x ++ rest → ⊥)
    (λ f. (f.0 < 256) × (digits ≡ hex_octet f.0 ++ f.1.now))

-- the text stands for at most `most_octets` octets
pub record IsEscapedText (most_octets : ℕ) (text : List ℕ) : Type 0 where
  pub octets : List ℕ
  pub small : All (λ x. x < 256) octets
  pub few : length octets ≤ most_octets
  pub spelled : text ≡ escaped octets

-- the digits are the hexadecimal digits of 1 to 32 octets
pub record AreHexOctets (digits_of_1_to_32_octets : List ℕ) : Type 0 where
  pub octets : List ℕ
  pub small : All (λ x. x < 256) octets
  pub some : 0 < length octets
  pub few : length octets ≤ 32
  pub spelled : digits_of_1_to_32_octets ≡ hex octets
