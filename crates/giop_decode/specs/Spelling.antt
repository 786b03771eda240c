-- The text of the lines of a reading, in a message and below a root (docs/FORMATS.md; meaning).
use Rattle.std.specs.Prelude.{ℕ, List, [], ◌∷◌, ◌++◌, Option, Some, None, codes, decimal}
use Rattle.giop_cdr.specs.Numbers.{interpreted_as}
use Rattle.giop_cdr.specs.Primitives.{size_of}
use Rattle.giop_cdr.specs.declared.number.Number.{Number as Taken}
use Rattle.giop_cdr.specs.declared.prim.Primitive.{Primitive}
use Rattle.giop_decode.specs.ReadResult.{PathSegment, Name, Index, Switch, Value, Number, Count, Piece, ValueAt, Held, Size, Ordered}
use Rattle.giop_print.specs.Lines.{kind_word, spaced, number_text, spaced_hex, more_word, order_word}
use Rattle.giop_print.specs.Paths.{root_word, name_segment, index_segment}
use Rattle.giop_print.specs.Text.{joined, quoted}
use Rattle.giop_print.specs.declared.path.Root.{Root}
use Rattle.giop_sig.specs.Kinds.{marked_word}
use Rattle.giop_sig.specs.Names.{marked_name}
use Rattle.giop_sig.specs.Types.{Plain, Enum, Marked, Text, OctetKind, Octets, Raw, WideText, WideChar, Encapsulation}

-- the text of a segment: a name after a dot, or an index in brackets
abbrev pub segment_text : (segment : PathSegment) → List ℕ
segment_text (Name name) = name_segment name
segment_text (Index i) = index_segment i
segment_text (Switch None) = name_segment (codes "switch")
segment_text (Switch (Some name)) = name_segment name
segment_text Held = []

-- the text of segments, one after another
abbrev pub segments_text : (path_segments : List PathSegment) → List ℕ
segments_text [] = []
segments_text (s ∷ ss) = segment_text s ++ segments_text ss

-- the text of a path below a root
unfoldable pub path_text : (root : Root) (path : List PathSegment) → List ℕ
path_text root path = root_word root ++ segments_text path

-- the words of a number that is a value of its primitive type
abbrev pub number_words : (primitive : Primitive) (valid_number : Option Taken) → List (List ℕ)
number_words p None = []
number_words p (Some number) = spaced (kind_word p) ∷ number_text (size_of p) number ∷ []

-- the words of a number with a mark: a kind has a word, and any other number may have a name after
-- it
abbrev pub marked_words : (word_of_kind name_of_number : Option (List ℕ)) (number : ℕ) →
    List (List ℕ)
marked_words (Some word) name number = codes " enum " ∷ word ∷ []
marked_words None (Some name) number = codes " ulong " ∷ decimal number ∷ codes " " ∷ name ∷ []
marked_words None None number = codes " ulong " ∷ decimal number ∷ []

-- the word of a piece of counted octets
abbrev pub octets_word : (kind : OctetKind) → List ℕ
octets_word (Raw bound) = codes " octets @"
octets_word WideText = codes " wstring @"
octets_word WideChar = codes " wchar @"

-- the words of a value's line, after its path
abbrev pub value_words : (value : Value) → List (List ℕ)
value_words (Number (Plain p) n) = number_words p (interpreted_as p n)
value_words (Number (Enum count names) n) = codes " enum " ∷ names n ∷ []
value_words (Number (Marked mark) n) = marked_words (marked_word mark n) (marked_name mark n) n
value_words (Count n) = codes " count " ∷ decimal n ∷ []
value_words (Piece (Text bound) offset octets more) =
    codes " string @" ∷ decimal offset ∷ (codes " " ++ quoted octets) ∷ more_word more ∷ []
value_words (Piece (Octets kind) offset octets more) =
    octets_word kind ∷ decimal offset ∷ spaced_hex octets ∷ more_word more ∷ []
value_words (Piece (Encapsulation T) offset octets more) =
    codes " rest @" ∷ decimal offset ∷ spaced_hex octets ∷ []
value_words (Size n) = codes " encapsulation " ∷ decimal n ∷ []
value_words (Ordered order) = codes " order " ∷ order_word order ∷ []
value_words value = []

-- the line of a value at a path, in the message with this number
abbrev pub value_text : (message_number : ℕ) (text_of_path : List ℕ) (value : Value) → List ℕ
value_text message path value =
    joined (codes "m" ∷ decimal message ∷ codes " " ∷ path ∷ (value_words value ++ codes "\n" ∷ []))

-- the line of a value, in the message with this number and below a root
abbrev pub line_text : (message_number : ℕ) (root : Root) (line : ValueAt) → List ℕ
line_text message root l = value_text message (path_text root l.path) l.value

-- the text of lines, one after another
unfoldable pub lines_text : (message_number : ℕ) (root : Root) (lines : List ValueAt) → List ℕ
lines_text message root [] = []
lines_text message root (l ∷ ls) = line_text message root l ++ lines_text message root ls
