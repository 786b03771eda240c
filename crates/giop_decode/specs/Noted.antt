-- What is noted of a reading, line by line: the request id of a header, whether it expects a reply,
-- its object key, the number of the last enum, and the last string that is complete (meaning).
use Rattle.std.specs.Prelude.{ℕ, ◌%◌, ◌==◌, ◌&&◌, ◌||◌, Bool, true, false, cond, ltb, List, [], ◌∷◌, ◌++◌, length, Option, Some, None, codes}
use Rattle.std.specs.Option.{is_none}
use Rattle.std.specs.Str.{bytes_eq}
use Rattle.giop_cdr.specs.declared.prim.Primitive.TheVariants as prims
use Rattle.giop_decode.specs.ReadResult.{PathSegment, Name, Value, Number, Piece, ValueAt, Leaf, Content, Read, Done, Short, Fault, lines_of}
use Rattle.giop_print.specs.declared.path.Root.{Root}
use Rattle.giop_print.specs.declared.path.Root.TheVariants as roots
use Rattle.giop_decode.specs.declared.progress.ValueFault.TheVariants as kinds
use Rattle.giop_sig.specs.Types.{Plain, Enum, Ty, Text, Octets, Raw}

pub record Noted : Type 0 where
  -- the request id of a header, from the first line that has one
  pub request_id : Option ℕ
  -- the number of the last enum
  pub status : Option ℕ
  -- whether a header expects a reply, from the last member that says it
  pub expects_reply : Option Bool
  -- the last string, if it has at most 128 octets
  pub name : Option (List ℕ)
  -- the octets that have come of a string that hasn't ended
  pub so_far : List ℕ
  -- the object key of a header, if it has at most 128 octets
  pub key : Option (List ℕ)
  -- the octets that have come of an object key that hasn't ended
  pub key_so_far : List ℕ

-- whether a segment is that of the member with this name
abbrev pub is_name : (member_name : List ℕ) (segment : PathSegment) → Bool
is_name name (Name octets) = bytes_eq name octets
is_name name segment = false

-- whether a path is that of the root's member with this name
abbrev pub is_member : (member_name : List ℕ) (path_below_root : List PathSegment) → Bool
is_member name (segment ∷ []) = is_name name segment
is_member name path = false

-- The path of the object key in a header: a member of the header in GIOP 1.0 and 1.1, and of its
-- target in 1.2 (GIOP Message Formats, Request Header).
abbrev pub is_key_path : (path_below_root : List PathSegment) → Bool
is_key_path (segment ∷ []) = is_name (codes "object_key") segment
is_key_path (outer ∷ inner ∷ []) =
    is_name (codes "target") outer && is_name (codes "object_key") inner
is_key_path path = false

-- a string of more than 128 octets is no name
abbrev pub name_if_short : (octets : List ℕ) → Option (List ℕ)
name_if_short octets = cond (ltb 128 (length octets)) None (Some octets)

-- after a piece of a string whose end is to come
abbrev pub with_string_piece : (before : Noted) (piece_octets : List ℕ) → Noted
with_string_piece h octets = record h { name = None; so_far = h.so_far ++ octets; key_so_far = [] }

-- after the end of a string: this is the last one, and no piece of another has come
abbrev pub with_string_ended : (before : Noted) → Noted
with_string_ended h = record h { name = name_if_short h.so_far; so_far = [] }

-- after a piece of a string; `more` says whether more pieces come
abbrev pub note_string_piece : (before : Noted) (piece_octets : List ℕ) (more_pieces_come : Bool) →
    Noted
note_string_piece h octets true = with_string_piece h octets
note_string_piece h octets false = with_string_ended (with_string_piece h octets)

-- the first of two numbers, if there is one, or else the second
abbrev pub first_present : (first later : Option ℕ) → Option ℕ
first_present (Some first) later = Some first
first_present None later = later

-- after one more value; `is_id` says whether it is a request id
abbrev pub note_value : (is_request_id : Bool) (before : Noted) (value : Value) → Noted
note_value is_id h (Number (Plain prims.ULong) n) =
    record h { request_id = first_present h.request_id (cond is_id (Some n) None) }
note_value is_id h (Number (Enum count names) n) = record h { status = Some n; key = None }
note_value is_id h (Piece (Text bound) offset octets more) = note_string_piece h octets more
note_value is_id h value = h

-- An object key is noted before all strings and enums: in the header of a Request the operation
-- comes after it, and there is no enum.
abbrev pub may_have_key : (noted : Noted) → Bool
may_have_key h = is_none h.name && ((length h.so_far == 0) && is_none h.status)

-- after a piece of an object key whose end is to come
abbrev pub with_key_piece : (before : Noted) (piece_octets : List ℕ) → Noted
with_key_piece h octets = record h { key = None; key_so_far = h.key_so_far ++ octets }

-- after the end of an object key
abbrev pub with_key_ended : (before : Noted) → Noted
with_key_ended h = record h { key = name_if_short h.key_so_far; key_so_far = [] }

-- after a piece of an object key; `more` says whether more pieces come
abbrev pub note_key_piece : (before : Noted) (piece_octets : List ℕ) (more_pieces_come : Bool) →
    Noted
note_key_piece h octets more =
    cond (may_have_key h)
    (cond more (with_key_piece h octets) (with_key_ended (with_key_piece h octets))) h

-- after one more value; `is_key` says whether it is at the place of an object key
abbrev pub note_key : (is_at_object_key : Bool) (before : Noted) (value : Value) → Noted
note_key is_key h (Piece (Octets (Raw bound)) offset octets more) =
    cond is_key (note_key_piece h octets more) h
note_key is_key h value = h

-- Whether a reply is expected, after one more value. GIOP 1.0 and 1.1 say it with a boolean, 1.2
-- with bit 0 of an octet (GIOP Message Formats, Request Header).
abbrev pub expects_after : (is_header : Bool) (path : List PathSegment) (value : Value)
    (expects_reply_before : Option Bool) → Option Bool
expects_after is_header path (Number (Plain prims.Boolean) n) before =
    cond (is_header && is_member (codes "response_expected") path) (Some (n % 2 == 1)) before
expects_after is_header path (Number (Plain prims.Octet) n) before =
    cond (is_header && is_member (codes "response_flags") path) (Some (n % 2 == 1)) before
expects_after is_header path value before = before

-- the same notes, but with this
abbrev pub with_expects : (before : Noted) (expects_reply : Option Bool) → Noted
with_expects h expects = record h { expects_reply = expects }

-- after one more line; `is_header` says whether it is one of a header
abbrev pub note_line : (is_header : Bool) (before : Noted) (line : ValueAt) → Noted
note_line is_header h l =
    note_key (is_header && is_key_path l.path)
    (with_expects (note_value (is_header && is_member (codes "request_id") l.path) h l.value)
    (expects_after is_header l.path l.value h.expects_reply)) l.value

-- after these lines, one after another
abbrev pub note_lines : (is_header : Bool) (before : Noted) (lines : List ValueAt) → Noted
note_lines is_header h [] = h
note_lines is_header h (l ∷ ls) = note_lines is_header (note_line is_header h l) ls

-- before the first line
abbrev pub nothing_noted : Noted
nothing_noted = record {
  request_id = None;
  status = None;
  expects_reply = None;
  name = None;
  so_far = [];
  key = None;
  key_so_far = [];
}

-- whether the innermost part is the content of a string: its length was read, and its end wasn't
abbrev pub in_string_content : (leaf : Leaf) → Bool
in_string_content (Content (Text bound) total offset piece) = true
in_string_content leaf = false

-- whether a type is that of a string
abbrev pub is_text : (T : Ty) → Bool
is_text (Text bound) = true
is_text T = false

-- whether a reading ends within a string, or at a fault in one
abbrev pub ends_in_string : (read : Read) → Bool
ends_in_string (Done lines at rest) = false
ends_in_string (Short lines at outer leaf) = in_string_content leaf
ends_in_string (Fault lines at kinds.Untyped T) = false
ends_in_string (Fault lines at kind T) = is_text T

-- within a string there is no name
abbrev pub without_name_if : (is_within_string : Bool) (before : Noted) → Noted
without_name_if false h = h
without_name_if true h = record h { name = None }

-- what is noted of a reading
abbrev pub noted_of : (is_header : Bool) (r : Read) → Noted
noted_of is_header r = without_name_if (ends_in_string r)
    (note_lines is_header nothing_noted (lines_of r))

-- whether a value is a string's last piece
abbrev pub ends_text : (value : Value) → Bool
ends_text (Piece (Text bound) offset octets false) = true
ends_text value = false

-- whether a line ends the operation of a Request's header
abbrev pub ends_operation : (is_header : Bool) (line : ValueAt) → Bool
ends_operation is_header l =
    is_header && (is_member (codes "operation") l.path && ends_text l.value)

-- whether one of these lines ends the operation of a Request's header
abbrev pub names_operation : (is_header : Bool) (lines : List ValueAt) → Bool
names_operation is_header [] = false
names_operation is_header (l ∷ ls) = ends_operation is_header l || names_operation is_header ls

-- whether this is the root of a header, whose request id and operation are known by their names
abbrev pub is_header_root : (root : Root) → Bool
is_header_root roots.Header = true
is_header_root root = false
