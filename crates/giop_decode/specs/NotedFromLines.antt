-- What is noted of a reading, from all of its lines at once: the request id of a header, whether it
-- expects a reply, its object key, the last enum, and the last string that is whole (meaning).
use Rattle.std.specs.Prelude.{◌≡◌, ℕ, zero, suc, ◌+◌, ◌&&◌, Bool, true, false, cond, List, [], ◌∷◌, ◌++◌, length, take, drop, Option, Some, None, filter_map, flat_map, codes}
use Rattle.std.specs.List.{AllByRecursion as Each, last_or}
use Rattle.giop_cdr.specs.declared.prim.Primitive.TheVariants as prims
use Rattle.giop_decode.specs.Noted.{Noted, expects_after, ends_in_string, is_key_path, is_member, name_if_short}
use Rattle.giop_decode.specs.Pieces.{full_pieces}
use Rattle.giop_decode.specs.ReadResult.{Value, Number, Piece, ValueAt, Read, lines_of}
use Rattle.giop_sig.specs.Types.{Plain, Enum, Octets, Raw, Text}

-- ---- numbers

-- the number of a value, if it is that of an enum
abbrev pub enum_of : (value : Value) → Option ℕ
enum_of (Number (Enum count names) n) = Some n
enum_of value = None

-- the numbers of the lines that have enums
abbrev pub enums : (lines : List ValueAt) → List ℕ
enums lines = filter_map (λ l. enum_of l.value) lines

-- the number of a value, if it is an unsigned long
abbrev pub ulong_of : (value : Value) → Option ℕ
ulong_of (Number (Plain prims.ULong) n) = Some n
ulong_of value = None

-- the number of a line, if it is the root's member `request_id` in a header
abbrev pub id_of : (is_header : Bool) (line : ValueAt) → Option ℕ
id_of is_header l =
    cond (is_header && is_member (codes "request_id") l.path) (ulong_of l.value) None

-- the numbers of such lines; a header has one
abbrev pub request_ids : (is_header : Bool) (lines : List ValueAt) → List ℕ
request_ids is_header lines = filter_map (id_of is_header) lines

-- the first of these numbers
abbrev pub first_in : (numbers : List ℕ) → Option ℕ
first_in [] = None
first_in (n ∷ ns) = Some n

-- whether a reply is expected, if this line says it
abbrev pub expected_by : (is_header : Bool) (line : ValueAt) → Option Bool
expected_by is_header l = expects_after is_header l.path l.value None

-- what such lines say; the header of a Request has one
abbrev pub expectations : (is_header : Bool) (lines : List ValueAt) → List Bool
expectations is_header lines = filter_map (expected_by is_header) lines

-- ---- strings

-- a piece of a string: where in the content it begins, its octets, and whether more pieces come
pub record TextPiece : Type 0 where
  pub offset : ℕ
  pub octets : List ℕ
  pub more : Bool

-- one with these fields
abbrev pub piece : (offset_in_string : ℕ) (octets : List ℕ) (more_pieces_come : Bool) → TextPiece
piece offset octets more = record { offset = offset; octets = octets; more = more }

-- the piece of a string that a value has, if it has one
abbrev pub text_of : (value : Value) → Option TextPiece
text_of (Piece (Text bound) offset octets more) = Some (piece offset octets more)
text_of value = None

-- the pieces of strings that lines have
abbrev pub text_pieces : (lines : List ValueAt) → List TextPiece
text_pieces lines = filter_map (λ l. text_of l.value) lines

-- a content from an offset in it on; `full` of its pieces aren't the last, and have 32 octets each
abbrev pub pieces_from : (full_piece_count offset_in_content : ℕ) (octets_from_offset : List ℕ) →
    List TextPiece
pieces_from zero offset octets = piece offset octets false ∷ []
pieces_from (suc full) offset octets =
    piece offset (take 32 octets) true ∷ pieces_from full (offset + 32) (drop 32 octets)

-- the pieces of a whole content
abbrev pub pieces_of : (content : List ℕ) → List TextPiece
pieces_of content = pieces_from (full_pieces (length content)) 0 content

-- pieces none of which is the last
abbrev pub AreUnended : (pieces : List TextPiece) → Type 0
AreUnended pieces = Each (λ p. p.more ≡ true) pieces

-- The strings of a reading, in order: the contents of the strings that are whole, and the pieces of
-- one that has begun and not ended.
pub record Strings (read : Read) : Type 0 where
  pub contents : List (List ℕ)
  pub begun : List TextPiece
  pub lines : text_pieces (lines_of read) ≡ flat_map pieces_of contents ++ begun
  pub unended : AreUnended begun
  pub none : ends_in_string read ≡ false → begun ≡ []

-- ---- object keys

-- the piece of an object key that a value has; `is_key` says whether one is at this place
abbrev pub key_of : (is_at_object_key : Bool) (value : Value) → Option TextPiece
key_of is_key (Piece (Octets (Raw bound)) offset octets more) =
    cond is_key (Some (piece offset octets more)) None
key_of is_key value = None

-- the piece of an object key that a line in a header has
abbrev pub key_piece : (is_header : Bool) (line : ValueAt) → Option TextPiece
key_piece is_header l = key_of (is_header && is_key_path l.path) l.value

abbrev pub key_pieces : (is_header : Bool) (lines : List ValueAt) → List TextPiece
key_pieces is_header lines = filter_map (key_piece is_header) lines

-- The last content that these pieces give, if it has at most 128 octets; none within a content.
-- `last` is the content before them, and `so_far` what has come of the next one.
abbrev pub last_content : (content_before : Option (List ℕ)) (octets_since : List ℕ)
    (text_pieces : List TextPiece) → Option (List ℕ)
last_content last so_far [] = last
last_content last so_far (p ∷ ps) =
    cond p.more (last_content None (so_far ++ p.octets) ps)
    (last_content (name_if_short (so_far ++ p.octets)) [] ps)

-- ---- what is noted

-- a string of more than 128 octets is no name
abbrev pub name_of : (last_whole_string : Option (List ℕ)) → Option (List ℕ)
name_of None = None
name_of (Some content) = name_if_short content

-- this is what is noted of a reading; `is_header` says whether it is one of a header
pub record IsNotedOfReading (is_header : Bool) (read : Read) (noted : Noted) : Type 0 where
  -- the request id of the header
  pub request_id : noted.request_id ≡ first_in (request_ids is_header (lines_of read))
  -- the number of the last line that has an enum
  pub status : noted.status ≡ last_or None (enums (lines_of read))
  -- what the last line says that says whether the header expects a reply
  pub expects_reply : noted.expects_reply ≡ last_or None (expectations is_header (lines_of read))
  pub strings : Strings read
  -- the last string that is whole, if it has at most 128 octets; none while a later string comes,
  -- after the last octet of its length
  pub name : noted.name ≡ cond (ends_in_string read) None (name_of (last_or None strings.contents))
  -- if no line has an enum, and no string comes before the last piece of an object key
  pub key : (front back : List ValueAt) → lines_of read ≡ front ++ back → enums (lines_of read)
      ≡ [] → text_pieces front ≡ [] → key_pieces is_header back ≡ [] →
      noted.key ≡ last_content None [] (key_pieces is_header front)
