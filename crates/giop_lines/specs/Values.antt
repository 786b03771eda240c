-- The text of each value after its path (docs/FORMATS.md, Values; meaning).
use Rattle.std.specs.Prelude.{◌≡◌, ℕ, true, ◌⊎◌, List, [], ◌∷◌, ◌++◌, codes, decimal}
use Rattle.std.specs.Fmt.{signed_decimal}
use Rattle.giop_print.specs.Text.{hex_number}
use Rattle.giop_print.specs.Lines.{order_word, truth_word, more_word}
use Rattle.giop_lines.specs.declared.line.Content.{Content}
use Rattle.giop_lines.specs.declared.line.Content.TheVariants as contents
use Rattle.giop_lines.specs.declared.line.Piece.{Piece}
use Rattle.giop_lines.specs.declared.line.Value.{Value}
use Rattle.giop_lines.specs.declared.line.Value.TheVariants as values
use Rattle.giop_lines.specs.Names.{is_member_name}
use Rattle.giop_lines.specs.Texts.{IsEscapedText, AreHexOctets}

-- the word of a content's kind
abbrev pub content_word : Content → List ℕ
content_word contents.Text = codes "string "
content_word contents.Octets = codes "octets "
content_word contents.WideString = codes "wstring "
content_word contents.WideChar = codes "wchar "
content_word contents.Rest = codes "rest "

abbrev pub in_quotes : (text : List ℕ) → List ℕ
in_quotes text = codes "\"" ++ (text ++ codes "\"")

-- a space and some digits
abbrev pub spaced_digits : (digits : List ℕ) → List ℕ
spaced_digits [] = []
spaced_digits (d ∷ ds) = codes " " ++ (d ∷ ds)

abbrev pub content_text : (content : Content) (spelled_octets : List ℕ) → List ℕ
content_text contents.Text octets = codes " " ++ in_quotes octets
content_text contents.Octets octets = spaced_digits octets
content_text contents.WideString octets = spaced_digits octets
content_text contents.WideChar octets = spaced_digits octets
content_text contents.Rest octets = spaced_digits octets

-- a content that is written in hexadecimal, and may be empty
abbrev pub IsHexContent : Content → Type 0
IsHexContent contents.Text = ⊥
IsHexContent contents.Octets = Unit {0}
IsHexContent contents.WideString = Unit {0}
IsHexContent contents.WideChar = Unit {0}
IsHexContent contents.Rest = ⊥

-- a piece after the word of its kind
abbrev pub piece_text : Piece → List ℕ
piece_text p = codes "@" ++ (decimal p.offset ++ (content_text p.content p.octets.now
    ++ more_word p.more))

abbrev pub value_text : Value → List ℕ
value_text (values.Octet n) = codes "octet " ++ decimal n
value_text (values.Short z) = codes "short " ++ signed_decimal z
value_text (values.UShort n) = codes "ushort " ++ decimal n
value_text (values.Long z) = codes "long " ++ signed_decimal z
value_text (values.ULong n) = codes "ulong " ++ decimal n
value_text (values.Named n name) = codes "ulong " ++ (decimal n ++ (codes " " ++ name.now))
value_text (values.LongLong z) = codes "longlong " ++ signed_decimal z
value_text (values.ULongLong n) = codes "ulonglong " ++ decimal n
value_text (values.Float n) = codes "float " ++ hex_number 8 n
value_text (values.Double n) = codes "double " ++ hex_number 16 n
value_text (values.Boolean truth) = codes "boolean " ++ truth_word truth
value_text (values.Char c) = codes "char " ++ in_quotes c.now
value_text (values.Enum name) = codes "enum " ++ name.now
value_text (values.Count n) = codes "count " ++ decimal n
value_text (values.Encapsulation n) = codes "encapsulation " ++ decimal n
value_text (values.Order order) = codes "order " ++ order_word order
value_text (values.Piece piece) = content_word piece.content ++ piece_text piece

abbrev pub AreHexOctetsOrNone : (digits_or_empty : List ℕ) → Type 0
AreHexOctetsOrNone octets = (octets ≡ []) ⊎ AreHexOctets octets

-- what the octets of a piece may be
abbrev pub AreOctetsOfContent : (content : Content) (spelled_octets : List ℕ) → Type 0
AreOctetsOfContent contents.Text octets = IsEscapedText 32 octets
AreOctetsOfContent contents.Octets octets = AreHexOctetsOrNone octets
AreOctetsOfContent contents.WideString octets = AreHexOctetsOrNone octets
AreOctetsOfContent contents.WideChar octets = AreHexOctetsOrNone octets
AreOctetsOfContent contents.Rest octets = AreHexOctets octets

-- what the fields of a value may be, beyond the ranges of their numbers
abbrev pub IsValue : Value → Type 0
IsValue (values.Char c) = IsEscapedText 1 c.now
IsValue (values.Enum name) = is_member_name name.now ≡ true
IsValue (values.Piece piece) = AreOctetsOfContent piece.content piece.octets.now
IsValue other = Unit {0}
