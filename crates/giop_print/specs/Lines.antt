-- The text of each line (docs/FORMATS.md; meaning).
use Rattle.std.specs.Prelude.{ℕ, ◌*◌, List, [], ◌∷◌, ◌++◌, Bool, true, false, ◌==◌, if◌then◌else◌, Option, Some, None, codes, decimal}
use Rattle.std.specs.Fmt.{signed_decimal}
use Rattle.giop_cdr.specs.declared.order.Order.{Order}
use Rattle.giop_cdr.specs.declared.order.Order.TheVariants.{Big, Little}
use Rattle.giop_cdr.specs.declared.prim.Primitive.{Primitive}
use Rattle.giop_cdr.specs.declared.prim.Primitive.TheVariants as prims
use Rattle.giop_cdr.specs.declared.number.Number.{Number}
use Rattle.giop_cdr.specs.declared.number.Number.TheVariants.{Unsigned, Signed, Bits, Truth, Char}
use Rattle.giop_cdr.specs.Primitives.{size_of}
use Rattle.giop_print.specs.declared.value.Value.{Value}
use Rattle.giop_print.specs.declared.value.Value.TheVariants as values
use Rattle.giop_print.specs.declared.value.Piece.{Piece}
use Rattle.giop_print.specs.declared.value.Piece.TheVariants as pieces
use Rattle.giop_print.specs.Text.{hex, hex_number, quoted, joined}

abbrev pub order_word : (order : Order) → List ℕ
order_word Big = codes "big"
order_word Little = codes "little"

-- the word of a message type, or its number if the type is above 7
unfoldable pub type_word : (message_type : ℕ) → List ℕ
type_word message_type =
    if message_type == 0 then codes "Request"
    else (if message_type == 1 then codes "Reply"
    else (if message_type == 2 then codes "CancelRequest"
    else (if message_type == 3 then codes "LocateRequest"
    else (if message_type == 4 then codes "LocateReply"
    else (if message_type == 5 then codes "CloseConnection"
    else (if message_type == 6 then codes "MessageError"
    else (if message_type == 7 then codes "Fragment"
    else decimal message_type)))))))

abbrev pub more_word : (more_follows : Bool) → List ℕ
more_word true = codes " more"
more_word false = []

abbrev pub truth_word : (value : Bool) → List ℕ
truth_word true = codes "true"
truth_word false = codes "false"

-- the word of a primitive's kind
abbrev pub kind_word : (prim : Primitive) → List ℕ
kind_word prims.Octet = codes "octet"
kind_word prims.Char = codes "char"
kind_word prims.Boolean = codes "boolean"
kind_word prims.Short = codes "short"
kind_word prims.UShort = codes "ushort"
kind_word prims.Long = codes "long"
kind_word prims.ULong = codes "ulong"
kind_word prims.LongLong = codes "longlong"
kind_word prims.ULongLong = codes "ulonglong"
kind_word prims.Float = codes "float"
kind_word prims.Double = codes "double"

-- the text of a number of a primitive of this size; bits have two digits for each octet
abbrev pub number_text : (primitive_size : ℕ) (number : Number) → List ℕ
number_text size (Unsigned n) = decimal n
number_text size (Signed z) = signed_decimal z
number_text size (Bits n) = hex_number (2 * size) n
number_text size (Truth truth) = truth_word truth
number_text size (Char c) = quoted (c ∷ [])

-- a word between spaces
abbrev pub spaced : (word : List ℕ) → List ℕ
spaced word = codes " " ++ word ++ codes " "

-- the line of a value of a kind; the word of the kind already has its spaces
unfoldable pub kind_line : (message_number : ℕ) (path spaced_kind_word value_text : List ℕ) → List ℕ
kind_line message path kind text =
    joined (codes "m" ∷ decimal message ∷ codes " " ∷ path ∷ kind ∷ text ∷ codes "\n" ∷ [])

-- the text of a number with its name: a word, and the code after it if there is one
abbrev pub named_text : (number : ℕ) (name_of_number : List ℕ) (code_after_name : Option ℕ) → List ℕ
named_text number word None = decimal number ++ (codes " " ++ word)
named_text number word (Some code) =
    decimal number ++ (codes " " ++ (word ++ (codes " " ++ decimal code)))

abbrev pub value_line : (message_number : ℕ) (path : List ℕ) (value : Value) → List ℕ
value_line message path (values.Primitive prim number) =
    kind_line message path (spaced (kind_word prim)) (number_text (size_of prim) number)
value_line message path (values.Enum name) = kind_line message path (codes " enum ") name.now
value_line message path (values.Count count) =
    kind_line message path (codes " count ") (decimal count)
value_line message path (values.Named number word code) =
    kind_line message path (codes " ulong ") (named_text number word.now code)

-- the octets of a piece
abbrev pub piece_octets : (piece : Piece) → List ℕ
piece_octets (pieces.Text octets) = octets.now
piece_octets (pieces.Octets octets) = octets.now
piece_octets (pieces.WideText octets) = octets.now
piece_octets (pieces.WideChar octets) = octets.now

abbrev pub piece_word : (piece : Piece) → List ℕ
piece_word (pieces.Text octets) = codes " string @"
piece_word (pieces.Octets octets) = codes " octets @"
piece_word (pieces.WideText octets) = codes " wstring @"
piece_word (pieces.WideChar octets) = codes " wchar @"

-- a space and the digits of some octets
abbrev pub spaced_hex : (octets : List ℕ) → List ℕ
spaced_hex [] = []
spaced_hex (x ∷ xs) = codes " " ++ hex (x ∷ xs)

abbrev pub piece_text : (piece : Piece) → List ℕ
piece_text (pieces.Text octets) = codes " " ++ quoted octets.now
piece_text piece = spaced_hex (piece_octets piece)

-- the text of a piece whose octets are followed by more octets
abbrev pub split_piece_text : (held_piece : Piece) (next_octets : List ℕ) → List ℕ
split_piece_text (pieces.Text octets) next = codes " " ++ quoted (octets.now ++ next)
split_piece_text piece next = spaced_hex (piece_octets piece ++ next)

-- the line of a part of a content: its offset in the content, its text, and whether more comes
unfoldable pub content_line : (message_number : ℕ) (path spaced_content_word : List ℕ)
    (offset_in_content : ℕ) (text more_text : List ℕ) → List ℕ
content_line message path word offset text more =
    joined (codes "m" ∷ decimal message ∷ codes " " ∷ path ∷ word ∷ decimal offset ∷ text ∷ more
    ∷ codes "\n" ∷ [])

abbrev pub piece_line : (message_number : ℕ) (path : List ℕ) (piece : Piece) (offset_in_content : ℕ)
    (more_follows : Bool) → List ℕ
piece_line message path piece offset more =
    content_line message path (piece_word piece) offset (piece_text piece) (more_word more)

abbrev pub split_piece_line : (message_number : ℕ) (path : List ℕ) (held_piece : Piece)
    (next_octets : List ℕ) (offset_in_content : ℕ) (more_follows : Bool) → List ℕ
split_piece_line message path held octets offset more =
    content_line message path (piece_word held) offset (split_piece_text held octets)
    (more_word more)

-- the lines of an encapsulation: how many octets it has, their order, and the octets that are left
-- after its value
abbrev pub encapsulation_line : (message_number : ℕ) (path : List ℕ) (encapsulation_length : ℕ) →
    List ℕ
encapsulation_line message path length =
    kind_line message path (codes " encapsulation ") (decimal length)

abbrev pub order_line : (message_number : ℕ) (path : List ℕ) (order : Order) → List ℕ
order_line message path order = kind_line message path (codes " order ") (order_word order)

abbrev pub inner_rest_line : (message_number : ℕ) (path : List ℕ) (offset_in_rest : ℕ)
    (octets_of_rest : List ℕ) → List ℕ
inner_rest_line message path offset octets =
    content_line message path (codes " rest @") offset (spaced_hex octets) []

unfoldable pub rest_line : (message_number offset_in_rest : ℕ) (octets_of_rest : List ℕ) → List ℕ
rest_line message offset octets =
    joined (codes "m" ∷ decimal message ∷ codes " rest @" ∷ decimal offset ∷ codes " " ∷ hex octets
    ∷ codes "\n" ∷ [])

unfoldable pub start_line : (message_number minor_version : ℕ) (order : Order)
    (message_type message_size : ℕ) (more_fragments : Bool) → List ℕ
start_line message minor order kind size more =
    joined (codes "m" ∷ decimal message ∷ codes " start 1." ∷ decimal minor ∷ codes " "
    ∷ order_word order ∷ codes " " ∷ type_word kind ∷ codes " size " ∷ decimal size ∷ more_word more
    ∷ codes "\n" ∷ [])

unfoldable pub call_line : (message_number request_id : ℕ) (operation_name : List ℕ) → List ℕ
call_line message id name =
    joined (codes "m" ∷ decimal message ∷ codes " call " ∷ decimal id ∷ codes " " ∷ name ∷ codes
    "\n" ∷ [])

-- the line of a Request whose object key has an interface
unfoldable pub interface_call_line : (message_number request_id : ℕ)
    (operation_name interface : List ℕ) → List ℕ
interface_call_line message id name interface =
    joined (codes "m" ∷ decimal message ∷ codes " call " ∷ decimal id ∷ codes " " ∷ name
    ∷ codes " " ∷ interface ∷ codes "\n" ∷ [])

unfoldable pub continues_line : (fragment_number opener_number : ℕ) → List ℕ
continues_line fragment opener =
    joined (codes "m" ∷ decimal fragment ∷ codes " continues m" ∷ decimal opener ∷ codes "\n" ∷ [])

unfoldable pub cancelled_line : (message_number canceller_number : ℕ) → List ℕ
cancelled_line message canceller =
    joined (codes "m" ∷ decimal message ∷ codes " cancelled by m" ∷ decimal canceller ∷ codes "\n" ∷ [])

unfoldable pub fault_line : (message_number : ℕ) (fault_word : List ℕ) (place_in_stream : ℕ) →
    List ℕ
fault_line message word place =
    joined (codes "m" ∷ decimal message ∷ codes " fault " ∷ word ∷ codes " at " ∷ decimal place
    ∷ codes "\n" ∷ [])

unfoldable pub end_line : (message_number : ℕ) → List ℕ
end_line message = joined (codes "m" ∷ decimal message ∷ codes " end\n" ∷ [])

unfoldable pub stream_fault_line : (fault_word : List ℕ) (place_in_stream : ℕ) → List ℕ
stream_fault_line word place =
    joined (codes "stream fault " ∷ word ∷ codes " at " ∷ decimal place ∷ codes "\n" ∷ [])

unfoldable pub unfinished_line : (message_number : ℕ) → List ℕ
unfinished_line message = joined (codes "m" ∷ decimal message ∷ codes " unfinished\n" ∷ [])

unfoldable pub total_line : (message_count fault_count octet_count : ℕ) → List ℕ
total_line messages faults octets =
    joined (codes "total messages " ∷ decimal messages ∷ codes " faults " ∷ decimal faults
    ∷ codes " octets " ∷ decimal octets ∷ codes "\n" ∷ [])
