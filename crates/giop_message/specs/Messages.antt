-- One joined message: the reading of all its octets as one piece (GIOP Message Formats;
-- docs/FORMATS.md; meaning). Offsets are counted from the first octet of the message, so its octets
-- after the header begin at 12.
use Rattle.std.specs.Prelude.{ℕ, zero, suc, ◌+◌, ◌/◌, Bool, true, false, ◌&&◌, ◌||◌, List, [], ◌∷◌, ◌++◌, length, take, drop, Option, Some, None, ◌==◌, nat_lt, nat_le, if◌then◌else◌}
use Rattle.std.specs.List.{list_all}
use Rattle.giop_cdr.specs.Alignment.{padding}
use Rattle.giop_print.specs.declared.path.Root.{Root}
use Rattle.giop_print.specs.declared.path.Root.TheVariants as roots
use Rattle.giop_sig.specs.Types.{Ty, Struct}
use Rattle.giop_decode.specs.declared.progress.ValueFault.{ValueFault}
use Rattle.giop_decode.specs.ReadResult.{Coding, PathSegment, Value, ValueAt, OpenPart, Leaf, Read, Done, Short, Fault}
use Rattle.giop_decode.specs.Reading.{reading}
use Rattle.giop_decode.specs.Noted.{Noted, nothing_noted, note_line, note_lines, ends_operation, is_header_root}
use Rattle.giop_message.specs.declared.part.Section.{Section}
use Rattle.giop_message.specs.declared.part.Section.TheVariants as sections
use Rattle.giop_message.specs.Headers.{minor, kind, order}
use Rattle.giop_message.specs.Signatures.{Signatures}

-- ---- lines

pub data MessageLine : Type 0 where
  -- a value below a root
  ValueLine : Root → List PathSegment → Value → MessageLine
  -- the id and the operation of a Request, and the interface of its object key
  CallLine : ℕ → List ℕ → Option (List ℕ) → MessageLine
  -- octets of the rest, and their offset in the rest
  RestLine : ℕ → List ℕ → MessageLine
  -- the fault of a value
  FaultLine : ValueFault → MessageLine
  -- the line of a close: the header or the typed body is incomplete, or the message ends
  ShortLine : MessageLine
  EndLine : MessageLine

-- a line, and the offset after the octet that completes it
pub record LineAt : Type 0 where
  pub at : ℕ
  pub message_line : MessageLine

unfoldable pub line_at : (offset_after_last_octet : ℕ) (message_line : MessageLine) → LineAt
line_at at message_line = record { at = at; message_line = message_line }

-- What can end in a message without a line of its own: the header, with what is noted of it; and
-- the name of the exception that the message raises, of at most 128 octets (GIOP Message Formats,
-- Reply Body).
pub data Mark : Type 0 where
  HeaderMark : Noted → Mark
  NameMark : List ℕ → Mark

-- what a message has said so far
pub record Said : Type 0 where
  pub lines : List LineAt
  pub marks : List Mark

abbrev pub only_lines : (lines : List LineAt) → Said
only_lines lines = record { lines = lines; marks = [] }

abbrev pub nothing_said : Said
nothing_said = only_lines []

-- a printable octet of ASCII other than the space
abbrev pub is_graphic : (octet : ℕ) → Bool
is_graphic octet = nat_le 33 octet && nat_le octet 126

-- whether a call line can show an operation; a name that is noted has at most 128 octets
unfoldable pub is_graphic_name : (name : List ℕ) → Bool
is_graphic_name name = nat_lt 0 (length name) && list_all is_graphic name

unfoldable pub call_line_if_named : (offset_after_last_octet : ℕ) (request_id : Option ℕ)
    (name_shown_if_graphic interface : Option (List ℕ)) → List LineAt
call_line_if_named at (Some id) (Some name) interface =
    if is_graphic_name name then line_at at (CallLine id name interface) ∷ [] else []
call_line_if_named at id name interface = []

-- what the call lines of a section are made from: whether the section is a Request's header, and
-- which interface an object key has
pub record CallSource : Type 0 where
  pub is_request : Bool
  pub interface : Option (List ℕ) → Option (List ℕ)

-- the section has no call
abbrev pub no_calls : CallSource
no_calls = record { is_request = false; interface = λ key. None }

-- The call line comes after the line that ends the operation of a Request.
unfoldable pub call_lines_after : (call_source : CallSource) (value_line : ValueAt)
    (noted_with_line : Noted) → List LineAt
call_lines_after calling l h =
    if ends_operation calling.is_request l
    then call_line_if_named l.at h.request_id h.name (calling.interface h.key) else []

-- The lines of a reading below a root, if this was noted before them.
unfoldable pub section_lines : (root : Root) (call_source : CallSource) (noted_before : Noted)
    (value_lines : List ValueAt) → List LineAt
section_lines root calling h [] = []
section_lines root calling h (l ∷ ls) =
    let now = note_line (is_header_root root) h l in
    (line_at l.at (ValueLine root l.path l.value) ∷ call_lines_after calling l now)
    ++ section_lines root calling now ls

-- ---- the stage of a message

-- The type of a body: none, this type, the type of the exception whose repository id comes first,
-- or the type of a system exception.
pub data BodyType : Type 0 where
  Untyped : BodyType
  Typed : Ty → BodyType
  UserException : BodyType
  SystemException : BodyType

-- the root of a section's lines
abbrev pub root_of : (section : Section) → Root
root_of sections.Header = roots.Header
root_of sections.Exception = roots.Exception
root_of sections.SystemException = roots.Body
root_of sections.Body = roots.Body

pub data Stage : Type 0 where
  -- in a part that is read as a value: what is noted of it, and what has begun and not ended
  In_typed : Section → Noted → List OpenPart → Leaf → Stage
  In_padding : BodyType → Stage
  -- in the rest: the offset at which its last part begins, and the octets of that part
  In_rest : ℕ → List ℕ → Stage
  -- after a fault
  Over : Stage

-- The result of reading a message: what it has said, the offset at its end, and its stage there.
pub data MessageReading : Type 0 where
  ReadTo : Said → ℕ → Stage → MessageReading

-- what was said first, and then what was said after it
abbrev pub said_both : (said_first said_after : Said) → Said
said_both front said = record {
  lines = front.lines ++ said.lines;
  marks = front.marks ++ said.marks;
}

unfoldable pub with_front : (said_before : Said) (reading : MessageReading) → MessageReading
with_front front (ReadTo said at stage) = ReadTo (said_both front said) at stage

abbrev pub name_marks : (exception_name : Option (List ℕ)) → List Mark
name_marks None = []
name_marks (Some name) = NameMark name ∷ []

-- The mark at the end of a section, from what is noted of the section. An exception's name is the
-- last string of its section: the repository id, or the name of a system exception.
abbrev pub end_marks : (section : Section) (noted_of_section : Noted) → List Mark
end_marks sections.Header h = HeaderMark h ∷ []
end_marks sections.Exception h = name_marks h.name
end_marks sections.SystemException h = name_marks h.name
end_marks sections.Body h = []

-- A section, and what follows it, from what is noted of the section. A fault has its own line in
-- the place of the value's line, and ends the message.
unfoldable pub section_then : (section : Section) (call_source : CallSource)
    (read_what_follows : Noted → ℕ → List ℕ → MessageReading) (noted_before : Noted)
    (section_read : Read) → MessageReading
section_then section calling next h (Done lines at s) =
    let root = root_of section in
    let now = note_lines (is_header_root root) h lines in
    with_front
    (record { lines = section_lines root calling h lines; marks = end_marks section now })
    (next now at s)
section_then section calling next h (Short lines at outer leaf) =
    let root = root_of section in
    ReadTo (only_lines (section_lines root calling h lines)) at
    (In_typed section (note_lines (is_header_root root) h lines) outer leaf)
section_then section calling next h (Fault lines at why T) =
    ReadTo (only_lines (section_lines (root_of section) calling h lines
    ++ line_at at (FaultLine why) ∷ [])) at Over

-- ---- the rest

-- the rest in parts of 32 octets; this many parts are full
unfoldable pub read_rest_in_parts : (full_parts_of_32 offset_in_rest offset_in_message : ℕ)
    (octets_of_rest : List ℕ) → MessageReading
read_rest_in_parts zero offset at octets = ReadTo nothing_said (at + length octets)
    (In_rest offset octets)
read_rest_in_parts (suc full) offset at octets =
    with_front (only_lines (line_at (at + 32) (RestLine offset (take 32 octets)) ∷ []))
    (read_rest_in_parts full (offset + 32) (at + 32) (drop 32 octets))

unfoldable pub read_rest : (offset_in_message : ℕ) (octets_of_rest : List ℕ) → MessageReading
read_rest at octets = read_rest_in_parts (length octets / 32) 0 at octets

-- ---- bodies

-- how the octets of a message's values are taken
abbrev pub coding_of : (S : Signatures) (header : List ℕ) → Coding
coding_of S header = record { order = order header; phase = S.phase }

unfoldable pub read_typed : (coding : Coding) (body_type : Ty) (offset_in_message : ℕ)
    (octets : List ℕ) → MessageReading
read_typed coding T at octets = section_then sections.Body no_calls (λ h. read_rest) nothing_noted
    (reading coding [] T at octets)

unfoldable pub read_typed_if_some : (coding : Coding) (body_type : Option Ty)
    (offset_in_message : ℕ) (octets : List ℕ) → MessageReading
read_typed_if_some coding None at octets = read_rest at octets
read_typed_if_some coding (Some T) at octets = read_typed coding T at octets

unfoldable pub members_of : (S : Signatures) (header : List ℕ)
    (exception_repository_id : Option (List ℕ)) → Option Ty
members_of S header None = None
members_of S header (Some repository) = S.members (minor header) repository

-- the members of the exception whose repository id has come
unfoldable pub read_after_exception : (S : Signatures) (header : List ℕ) (noted : Noted)
    (offset_in_message : ℕ)
    (octets : List ℕ) → MessageReading
read_after_exception S header h = read_typed_if_some (coding_of S header)
    (members_of S header h.name)

unfoldable pub read_body : (S : Signatures) (header : List ℕ) (body_type : BodyType)
    (offset_in_message : ℕ) (octets : List ℕ) → MessageReading
read_body S header Untyped at octets = read_rest at octets
read_body S header (Typed T) at octets = read_typed (coding_of S header) T at octets
read_body S header UserException at octets =
    section_then sections.Exception no_calls (read_after_exception S header) nothing_noted
    (reading (coding_of S header) [] S.exception_id at octets)
read_body S header SystemException at octets =
    section_then sections.SystemException no_calls (λ h. read_rest) nothing_noted
    (reading (coding_of S header) [] S.system_exception at octets)

unfoldable pub typed_if_some : (type : Option Ty) → BodyType
typed_if_some None = Untyped
typed_if_some (Some T) = Typed T

-- the body of a Request, from its operation, which is the last string of its header, and from its
-- object key
unfoldable pub request_body : (S : Signatures) (header : List ℕ)
    (object_key operation_name : Option (List ℕ)) → BodyType
request_body S header key None = Untyped
request_body S header key (Some name) = typed_if_some (S.request (minor header) name key)

unfoldable pub result_body : (S : Signatures) (header : List ℕ) (request_id : Option ℕ) → BodyType
result_body S header None = Untyped
result_body S header (Some id) = typed_if_some (S.reply (minor header) id)

-- the body of a Reply, from its status: NO_EXCEPTION, USER_EXCEPTION, SYSTEM_EXCEPTION,
-- LOCATION_FORWARD, LOCATION_FORWARD_PERM, NEEDS_ADDRESSING_MODE
unfoldable pub reply_body : (S : Signatures) (header : List ℕ)
    (request_id reply_status : Option ℕ) → BodyType
reply_body S header id None = Untyped
reply_body S header id (Some status) =
    if status == 0 then result_body S header id
    else (if status == 1 then UserException
    else (if status == 2 then SystemException
    else (if (status == 3) || (status == 4) then Typed S.forward
    else (if status == 5 then Typed S.addressing
    else Untyped))))

unfoldable pub is_request : (header : List ℕ) → Bool
is_request header = kind header == 0

-- the body of a LocateReply, from its status: OBJECT_FORWARD, OBJECT_FORWARD_PERM,
-- LOC_SYSTEM_EXCEPTION, LOC_NEEDS_ADDRESSING_MODE (GIOP Message Formats, LocateReply Body). It
-- raises nothing, since it answers no call.
unfoldable pub locate_body : (S : Signatures) (locate_status : Option ℕ) → BodyType
locate_body S None = Untyped
locate_body S (Some status) =
    if S.has_locate_bodies then
    (if (status == 2) || (status == 3) then Typed S.forward
    else (if status == 4 then Typed S.system_exception
    else (if status == 5 then Typed S.addressing
    else Untyped)))
    else Untyped

-- the body of a message, from what is noted of its header; messages of other types have no typed
-- body
unfoldable pub body_of : (S : Signatures) (header : List ℕ) (noted_of_header : Noted) → BodyType
body_of S header h =
    if is_request header then request_body S header h.key h.name
    else (if kind header == 1 then reply_body S header h.request_id h.status
    else (if kind header == 4 then locate_body S h.status
    else Untyped))

-- the message is a Request or a Reply of 1.2: its body begins at the next multiple of 8
unfoldable pub has_aligned_body : (header : List ℕ) → Bool
has_aligned_body header = nat_lt (kind header) 2 && (minor header == 2)

-- ---- a message

-- a body after the padding up to the next multiple of 8
unfoldable pub read_padding_and_body : (S : Signatures) (header : List ℕ) (body_type : BodyType)
    (offset_in_message : ℕ)
    (octets : List ℕ) → MessageReading
read_padding_and_body S header b at octets =
    if nat_lt (length octets) (padding at 8) then ReadTo nothing_said (at + length octets)
    (In_padding b)
    else read_body S header b (at + padding at 8) (drop (padding at 8) octets)

unfoldable pub read_after_header : (S : Signatures) (header : List ℕ) (noted : Noted)
    (offset_in_message : ℕ) (octets : List ℕ) → MessageReading
read_after_header S header h at octets =
    if has_aligned_body header then read_padding_and_body S header (body_of S header h) at octets
    else read_body S header (body_of S header h) at octets

-- what the call line of a message with this header is made from
abbrev pub header_call_source : (S : Signatures) (header : List ℕ) → CallSource
header_call_source S header = record { is_request = is_request header; interface = S.interface }

unfoldable pub read_header_and_rest : (S : Signatures) (header : List ℕ) (header_type : Option Ty)
    (offset_in_message : ℕ)
    (octets : List ℕ) → MessageReading
read_header_and_rest S header None at octets = read_rest at octets
read_header_and_rest S header (Some T) at octets =
    section_then sections.Header (header_call_source S header)
    (read_after_header S header) nothing_noted
    (reading (coding_of S header) [] T at octets)

-- a message with this header of 12 octets, and these octets after it
unfoldable pub read_message : (S : Signatures) (header octets_after_header : List ℕ) →
    MessageReading
read_message S header octets = read_header_and_rest S header (S.header (minor header)
    (kind header)) 12 octets

-- what the call lines of a section are made from
abbrev pub section_call_source : (S : Signatures) (header : List ℕ) (section : Section) → CallSource
section_call_source S header sections.Header = header_call_source S header
section_call_source S header sections.Exception = no_calls
section_call_source S header sections.SystemException = no_calls
section_call_source S header sections.Body = no_calls

-- what follows a section, from what is noted of the section
abbrev pub read_after_section : (S : Signatures) (header : List ℕ) (section : Section)
    (noted : Noted) (offset_in_message : ℕ)
    (octets : List ℕ) → MessageReading
read_after_section S header sections.Header = read_after_header S header
read_after_section S header sections.Exception = read_after_exception S header
read_after_section S header sections.SystemException = λ h. read_rest
read_after_section S header sections.Body = λ h. read_rest

-- a section that goes on after this was noted of it, and what follows the section
abbrev pub section_and_rest : (S : Signatures) (header : List ℕ) (section : Section)
    (noted_before : Noted) (section_read : Read) → MessageReading
section_and_rest S header section = section_then section (section_call_source S header section)
    (read_after_section S header section)

-- ---- the close of a message

-- whether a body needs no octets, so that a message may end in the padding before it
unfoldable pub body_may_be_missing : (untyped_or_empty_body : BodyType) → Bool
body_may_be_missing Untyped = true
body_may_be_missing (Typed (Struct zero names parts)) = true
body_may_be_missing b = false

unfoldable pub lines_of_close : (stage : Stage) → List MessageLine
lines_of_close (In_typed section h outer leaf) = ShortLine ∷ []
lines_of_close (In_padding b) = if body_may_be_missing b then EndLine ∷ [] else ShortLine ∷ []
lines_of_close (In_rest offset []) = EndLine ∷ []
lines_of_close (In_rest offset (x ∷ held)) = RestLine offset (x ∷ held) ∷ EndLine ∷ []
lines_of_close Over = EndLine ∷ []

unfoldable pub message_lines : (reading_to_here : MessageReading) → List LineAt
message_lines (ReadTo said at stage) = said.lines

unfoldable pub message_marks : (reading_to_here : MessageReading) → List Mark
message_marks (ReadTo said at stage) = said.marks

unfoldable pub stage_of : (reading : MessageReading) → Stage
stage_of (ReadTo said at stage) = stage
