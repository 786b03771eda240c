-- Interfaces, and the interface of an object key (docs/FORMATS.md, Signature file; meaning).
use Rattle.std.specs.Prelude.{◌≡◌, ℕ, zero, suc, ◌+◌, ◌-◌, ◌/◌, ◌%◌, ◌<◌, ◌≤◌, ◌==◌, ◌&&◌, ◌||◌, Bool, if◌then◌else◌, nat_le, nat_lt, List, [], ◌∷◌, ◌++◌, length, take, Option, Some, None, codes, slice_index_or}
use Rattle.std.specs.Map.{lookup}
use Rattle.std.specs.Option.{option_or}
use Rattle.std.specs.List.{list_all, list_any, position_or_len}
use Rattle.std.specs.Str.{bytes_eq}

-- the repository ids of the interfaces; and the KEYs as they are spelled, each with the number of
-- its interface
pub record Interfaces : Type 0 where
  pub names : List (List ℕ)
  pub keys : List (List ℕ × ℕ)

abbrev pub no_interfaces : Interfaces
no_interfaces = record { names = []; keys = [] }

-- ---- how a KEY is spelled

-- a hexadecimal digit
abbrev pub digit : (value_below_16 : ℕ) → ℕ
digit number = if nat_lt number 10 then 48 + number else 87 + number

-- octets as hexadecimal digits
abbrev pub hex : (octets : List ℕ) → List ℕ
hex [] = []
hex (b ∷ bs) = digit (b / 16) ∷ digit (b % 16) ∷ hex bs

-- the KEY for just this key
abbrev pub whole_text : (object_key : List ℕ) → List ℕ
whole_text key = hex key

-- the KEY for all keys that begin with these octets
abbrev pub front_text : (object_key_front : List ℕ) → List ℕ
front_text octets = hex octets ++ codes "*"

abbrev pub is_digit : (lower_hex_digit : ℕ) → Bool
is_digit octet = (nat_le 48 octet && nat_le octet 57) || (nat_le 97 octet && nat_le octet 102)

-- the digits of a KEY, without the last octet if that is *
abbrev pub digits_of : (hex_text_perhaps_with_star : List ℕ) → List ℕ
digits_of text =
    if slice_index_or text (length text - 1) 0 == 42 then take (length text - 1) text else text

-- whether a KEY is spelled like this: with an even number of hexadecimal digits in lower case, and
-- perhaps *
abbrev pub is_key : (hex_text_perhaps_with_star : List ℕ) → Bool
is_key text = list_all is_digit (digits_of text) && (length (digits_of text) % 2 == 0)

-- ---- what is added

-- the number of the interface with a repository id; the next number if it is new
abbrev pub number_of : (interfaces : Interfaces) (repository_id : List ℕ) → ℕ
number_of i id = position_or_len (bytes_eq id) i.names

-- the interfaces with one more, if it is new
abbrev pub with_interface : (interfaces : Interfaces) (repository_id_if_new : List ℕ) → Interfaces
with_interface i id = record i {
  names = if list_any (bytes_eq id) i.names then i.names else i.names ++ id ∷ [];
}

-- the interfaces with one more KEY
abbrev pub with_key : (interfaces : Interfaces) (key_text repository_id : List ℕ) → Interfaces
with_key i text id = record (with_interface i id) {
  keys = i.keys ++ (text, number_of i id) ∷ [];
}

-- ---- which interface

-- the interface of a KEY
abbrev pub of_text : (interfaces : Interfaces) (key_text : List ℕ) → Option ℕ
of_text i text = lookup (bytes_eq text) i.keys

-- the interface of the longest front of a key that has one, among the fronts of at most `count`
-- octets
unfoldable pub longest_front : (interfaces : Interfaces) (object_key : List ℕ)
    (most_front_octets : ℕ) → Option ℕ
longest_front i key zero = of_text i (front_text [])
longest_front i key (suc count) =
    option_or (of_text i (front_text (take (suc count) key))) (longest_front i key count)

-- the interface of an object key
abbrev pub of_key : (interfaces : Interfaces) (object_key : List ℕ) → Option ℕ
of_key i key =
    if nat_lt 128 (length key) then None
    else option_or (of_text i (whole_text key)) (longest_front i key (length key))

-- the interface of an object key is that of the KEY for just this key, or else of the longest KEY
-- with * that it begins with, or else there is none; a key of more than 128 octets has none
pub record IsInterfaceOf (interfaces : Interfaces) (object_key : List ℕ)
    (interface_number : Option ℕ) : Type 0 where
  pub long : 128 < length object_key → interface_number ≡ None
  pub whole : length object_key ≤ 128 → (n : ℕ)
      → of_text interfaces (whole_text object_key) ≡ Some n → interface_number ≡ Some n
  pub front : length object_key ≤ 128 → of_text interfaces (whole_text object_key) ≡ None → (n : ℕ)
      (front rest : List ℕ) → object_key ≡ front ++ rest
      → of_text interfaces (front_text front) ≡ Some n
      → ((longer more : List ℕ) → object_key ≡ longer ++ more → length front < length longer
      → of_text interfaces (front_text longer) ≡ None) → interface_number ≡ Some n
  pub none : length object_key ≤ 128 → of_text interfaces (whole_text object_key) ≡ None
      → ((front rest : List ℕ) → object_key ≡ front ++ rest
      → of_text interfaces (front_text front) ≡ None)
      → interface_number ≡ None
