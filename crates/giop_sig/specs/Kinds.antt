-- Numbers with a mark that are kinds of a TypeCode, and their words (CDR Transfer Syntax,
-- Pseudo-Object Types, TypeCode; meaning).
use Rattle.std.specs.Prelude.{ℕ, ◌==◌, ◌||◌, Bool, cond, codes, List, [], ◌∷◌, Option, Some, None, slice_get}

-- Whether a number with this mark is a kind. Mark 0 is that of a kind that tells the type of a
-- value, 1 that of the bound of a sequence, 2 that of any other kind, and 3 to 6 are those of
-- numbers that may have names (Names).
abbrev pub is_kind : (mark_of_number : ℕ) → Bool
is_kind mark = (mark == 0) || (mark == 2)

-- the words of the kinds, from kind 0 on
abbrev pub kind_words : List (List ℕ)
kind_words =
    codes "tk_null" ∷ codes "tk_void" ∷ codes "tk_short" ∷ codes "tk_long"
    ∷ codes "tk_ushort" ∷ codes "tk_ulong" ∷ codes "tk_float" ∷ codes "tk_double"
    ∷ codes "tk_boolean" ∷ codes "tk_char" ∷ codes "tk_octet" ∷ codes "tk_any"
    ∷ codes "tk_TypeCode" ∷ codes "tk_Principal" ∷ codes "tk_objref" ∷ codes "tk_struct"
    ∷ codes "tk_union" ∷ codes "tk_enum" ∷ codes "tk_string" ∷ codes "tk_sequence"
    ∷ codes "tk_array" ∷ codes "tk_alias" ∷ codes "tk_except" ∷ codes "tk_longlong"
    ∷ codes "tk_ulonglong" ∷ codes "tk_longdouble" ∷ codes "tk_wchar" ∷ codes "tk_wstring"
    ∷ codes "tk_fixed" ∷ codes "tk_value" ∷ codes "tk_value_box" ∷ codes "tk_native"
    ∷ codes "tk_abstract_interface" ∷ codes "tk_local_interface" ∷ codes "tk_component"
    ∷ codes "tk_home" ∷ codes "tk_event" ∷ []

-- the word of a kind; 4294967295 isn't a kind, and refers to an earlier TypeCode
abbrev pub kind_word : (typecode_kind : ℕ) → Option (List ℕ)
kind_word number =
    cond (number == 4294967295) (Some (codes "indirection")) (slice_get kind_words number)

-- the word of a number with this mark; none if it isn't a kind
abbrev pub marked_word : (mark_of_number number : ℕ) → Option (List ℕ)
marked_word mark number = cond (is_kind mark) (kind_word number) None
