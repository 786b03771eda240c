-- The octets of words and names (docs/FORMATS.md, Lines; meaning).
use Rattle.std.specs.Prelude.{ℕ, Bool, not, ◌||◌, ◌&&◌, ◌==◌, List, length, slice_index, nat_le, nat_lt}
use Rattle.std.specs.List.{list_all}

abbrev pub is_decimal_digit : (octet : ℕ) → Bool
is_decimal_digit octet = nat_le 48 octet && nat_le octet 57

abbrev pub is_lower_case : (octet : ℕ) → Bool
is_lower_case octet = nat_le 97 octet && nat_le octet 122

abbrev pub is_upper_case : (octet : ℕ) → Bool
is_upper_case octet = nat_le 65 octet && nat_le octet 90

-- 21 to 7e
abbrev pub is_graphic_octet : (octet : ℕ) → Bool
is_graphic_octet octet = nat_le 33 octet && nat_le octet 126

-- 20 to 7e
abbrev pub is_printable_octet : (octet : ℕ) → Bool
is_printable_octet octet = octet == 32 || is_graphic_octet octet

-- a letter, a digit or _
abbrev pub is_name_octet : (octet : ℕ) → Bool
is_name_octet octet = is_lower_case octet || is_upper_case octet || is_decimal_digit octet
    || octet == 95

-- a small letter, a digit, a point or a hyphen
abbrev pub is_word_octet : (octet_of_fault_word : ℕ) → Bool
is_word_octet octet = is_lower_case octet || is_decimal_digit octet || octet == 46 || octet == 45

-- whether this is the name of an operation or interface, or a repository id
abbrev pub is_graphic_name : (name : List ℕ) → Bool
is_graphic_name name = nat_lt 0 (length name) && nat_le (length name) 128
    && list_all is_graphic_octet name

-- whether this is the name of a type's member
abbrev pub is_member_name : (name : List ℕ) → Bool
is_member_name name = nat_lt 0 (length name) && nat_le (length name) 64
    && not (is_decimal_digit (slice_index name 0)) && list_all is_name_octet name

-- whether this is the word of a fault, or of a stream's end
abbrev pub is_fault_or_closing_word : (lower_case_initial_word : List ℕ) → Bool
is_fault_or_closing_word word = nat_lt 0 (length word) && is_lower_case (slice_index word 0)
    && list_all is_word_octet word

-- whether this is the word of a message type
abbrev pub is_message_type_word : (upper_case_initial_word : List ℕ) → Bool
is_message_type_word word = nat_lt 0 (length word) && is_upper_case (slice_index word 0)
    && list_all (λ b. is_lower_case b || is_upper_case b) word

-- whether this is text that a line of a later version may have
abbrev pub is_printable_text : (text : List ℕ) → Bool
is_printable_text text = list_all is_printable_octet text
