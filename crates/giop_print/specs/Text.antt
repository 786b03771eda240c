-- How octets and numbers are spelled in a line (docs/FORMATS.md; meaning).
use Rattle.std.specs.Prelude.{ℕ, zero, suc, ◌/◌, ◌%◌, ◌^◌, ◌==◌, ◌||◌, Bool, false, nat_lt, if◌then◌else◌, not, List, [], ◌∷◌, ◌++◌, slice_index, codes, flat_map}

-- the digit of a number below 16
abbrev pub hex_digit : (number_below_16 : ℕ) → ℕ
hex_digit number = slice_index (codes "0123456789abcdef") number

-- the two digits of an octet
abbrev pub hex_octet : (octet : ℕ) → List ℕ
hex_octet octet = hex_digit (octet / 16) ∷ hex_digit (octet % 16) ∷ []

-- the digits of octets, two for each
unfoldable pub hex : (octets : List ℕ) → List ℕ
hex octets = flat_map hex_octet octets

-- this many digits of a number, the lowest last
unfoldable pub hex_number : (digit_count number : ℕ) → List ℕ
hex_number zero number = []
hex_number (suc digits) number = hex_digit (number / 16 ^ digits % 16) ∷ hex_number digits number

-- whether an octet stands for itself: 20 to 7e (hexadecimal), except the quote and the backslash
abbrev pub is_plain : (octet_of_quoted_text : ℕ) → Bool
is_plain octet = if nat_lt octet 32 then false else
    (if nat_lt 126 octet then false else not (octet == 34 || octet == 92))

-- the text of an octet between quotes: itself, or \x and its two digits
abbrev pub escaped_octet : (octet : ℕ) → List ℕ
escaped_octet octet = if is_plain octet then octet ∷ [] else codes "\\x" ++ hex_octet octet

unfoldable pub escaped : (octets : List ℕ) → List ℕ
escaped octets = flat_map escaped_octet octets

-- the text of octets, between quotes
abbrev pub quoted : (octets : List ℕ) → List ℕ
quoted octets = codes "\"" ++ escaped octets ++ codes "\""

-- pieces, one after another
abbrev pub joined : (pieces : List (List ℕ)) → List ℕ
joined [] = []
joined (piece ∷ pieces) = piece ++ joined pieces
