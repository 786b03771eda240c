-- What a message keeps of the octets after its header that it has taken, in a clause for each
-- field; and what its calls write (state).
use Rattle.std.specs.Prelude.{◌≡◌, ℕ, ◌+◌, ◌-◌, ◌<◌, ◌≤◌, Bool, true, false, cond, List, [], ◌∷◌, ◌++◌, length, take, drop, flat_map, Some, None, IfSome}
use Rattle.giop_sig.specs.Types.{Ty}
use Rattle.giop_sig.specs.Table.{Table, in_version, asked_number}
use Rattle.giop_sig.specs.Trees.{tree}
use Rattle.giop_sig.specs.HeaderTypes.{header_type}
use Rattle.giop_sig.specs.RequestList.{Entry, AgreesWithList}
use Rattle.giop_decode.specs.declared.decoder.Decoder.{Decoder}
use Rattle.giop_decode.specs.Reading.{reading}
use Rattle.giop_decode.specs.Noted.{nothing_noted}
use Rattle.giop_decode.specs.DecoderState as decoder
use Rattle.giop_message.specs.declared.message.Message.{Message}
use Rattle.giop_message.specs.declared.part.Part.{Part}
use Rattle.giop_message.specs.declared.part.Part.TheVariants as parts
use Rattle.giop_message.specs.declared.part.Section.{Section}
use Rattle.giop_message.specs.declared.part.Section.TheVariants as sections
use Rattle.giop_message.specs.declared.body_type.BodyTypeId.{BodyTypeId}
use Rattle.giop_message.specs.declared.body_type.BodyTypeId.TheVariants as body_type_ids
use Rattle.giop_message.specs.Headers.{minor, kind}
use Rattle.giop_message.specs.Phases.{Phase, IsShiftedFrom}
use Rattle.giop_message.specs.MessageReader.{LineClass, TimedLine}
use Rattle.giop_message.specs.Text.{line_class_text}
use Rattle.giop_message.specs.Signatures.{Signatures, RequestTable, Answer, Answers, signatures_of}
use Rattle.giop_message.specs.Messages.{coding_of, MessageLine, ShortLine, LineAt, Said, nothing_said, BodyType, Untyped, Typed, UserException, SystemException, In_padding, In_rest, ReadTo, with_front, section_and_rest, root_of, read_message, message_lines, stage_of}
use Rattle.giop_message.specs.ReaderOfTable.{line_class_of, text_of, first_request_id, is_over}

-- ---- what is written

-- the text of a line at a place of the stream
unfoldable pub message_line_text : (message_number place_in_stream : ℕ) (line : MessageLine) →
    List ℕ
message_line_text number place s = line_class_text place number (line_class_of s) (text_of s)

-- The text of lines after an offset of the message. `place` octets of the stream came up to that
-- offset.
unfoldable pub message_lines_text : (message_number stream_octets_at_offset offset_in_message : ℕ)
    (lines_after_offset : List LineAt) → List ℕ
message_lines_text number place offset emitted =
    flat_map (λ t. message_line_text number (place + (t.at - offset)) t.message_line) emitted

-- the lines that more octets add
unfoldable pub more_lines : (S : Signatures) (header octets_before more_octets : List ℕ) →
    List LineAt
more_lines S header octets more = drop (length (message_lines (read_message S header octets)))
    (message_lines (read_message S header (octets ++ more)))

-- the text of these lines, if `place` octets of the stream came before these octets
unfoldable pub more_lines_text : (S : Signatures) (message_number stream_octets_before_more : ℕ)
    (header octets_before more_octets : List ℕ) → List ℕ
more_lines_text S number place header octets more = message_lines_text number place
    (12 + length octets)
    (more_lines S header octets more)

unfoldable pub closing_text : (message_number place_in_stream : ℕ)
    (closing_lines : List MessageLine) → List ℕ
closing_text number place speeches = flat_map (message_line_text number place) speeches

-- the same text for timed lines, whose octets are counted from 1 after the header: `before` octets
-- of the message came before, and `place` octets of the stream
unfoldable pub timed_lines_text : (message_number stream_octets_before message_octets_before : ℕ)
    (timed_lines : List TimedLine) → List ℕ
timed_lines_text number place before timed_lines =
    flat_map (λ r. line_class_text (place + (r.at - before)) number r.line_class r.text) timed_lines

unfoldable pub closes_text : (message_number place_in_stream : ℕ)
    (classes_and_texts : List (LineClass × List ℕ)) → List ℕ
closes_text number place line_classes = flat_map (λ l. line_class_text place number l.0 l.1)
    line_classes

unfoldable pub is_short_close : (closing_lines : List MessageLine) → Bool
is_short_close (ShortLine ∷ more) = true
is_short_close speeches = false

-- ---- a message and its catalogue

-- this is the table of a request list, with the operations of this catalogue's table
abbrev pub IsRequestTableOf : (C : Table) (request_table : RequestTable) → Type 0
IsRequestTableOf C request_table = (entries : List Entry) ×
    AgreesWithList (asked_number C) entries request_table

-- the operations are those of this table
abbrev pub AreKnown : (C : Table) (answered_operations : Answer) → Type 0
AreKnown C answer = (id : ℕ) → IfSome (answer id) (λ o. o.0 < length C.operations)

abbrev pub body_type : (C : Table) (body_type_id : BodyTypeId) → BodyType
body_type C body_type_ids.Nothing = Untyped
body_type C (body_type_ids.Type of) = Typed (tree C of.0)
body_type C body_type_ids.Exception = UserException
body_type C body_type_ids.SystemException = SystemException

-- the type is one of the table
abbrev pub IsKnown : (C : Table) (body_type_id : BodyTypeId) → Type 0
IsKnown C body_type_ids.Nothing = Unit {0}
IsKnown C (body_type_ids.Type of) = of.0 < length C.types
IsKnown C body_type_ids.Exception = Unit {0}
IsKnown C body_type_ids.SystemException = Unit {0}

-- the decoder fits the table, and reads as messages of this minor version are read
pub record FitsVersion (C : Table) (minor_version : ℕ) (d : Decoder) : Type 0 where
  pub fits : decoder.Fits C d
  pub version : decoder.IsOfVersion minor_version C d

-- the part fits a message of this minor version that has taken this number of octets; if the part
-- is a section, this is its decoder
abbrev pub FitsPart : (C : Table) (minor_version message_octets_taken : ℕ) (decoder : Decoder)
    (part : Part) → Type 0
FitsPart C minor at d (parts.Typed section) = FitsVersion C minor d
FitsPart C minor at d (parts.Padding body_type_id) = IsKnown C body_type_id
FitsPart C minor at d (parts.Rest r) = r.offset + length r.held.items ≤ at

-- the message isn't faulted, and its types are those of the table
abbrev pub Fits : (C : Table) (message : Message) → Type 0
Fits C m = FitsPart C (minor m.header) m.at m.decoder m.part

-- how many of its octets a message has taken, with the 12 of its header
abbrev pub octets_taken : (message_with_header : Message) → ℕ
octets_taken m = m.at

-- ---- a message that follows a list of octets

-- If the section is the header, it is the first section of the message: nothing is said before it,
-- no octet comes before it, and its type is the header's in this version of signature files.
abbrev pub IsFirstIfHeader : (signature_file_version : ℕ) (header : List ℕ) (section : Section)
    (section_type : Ty) (said_before : Said) (octets_before : List ℕ) → Type 0
IsFirstIfHeader version header sections.Header T before front =
    (header_type version (minor header) (kind header) ≡ Some T) × (before ≡ nothing_said)
    × (front ≡ [])
IsFirstIfHeader version header sections.Exception T before front = Unit {0}
IsFirstIfHeader version header sections.SystemException T before front = Unit {0}
IsFirstIfHeader version header sections.Body T before front = Unit {0}

-- Some lines were said, and then a section begins; a decoder reads the octets of the section as a
-- value of a type.
pub record Decodes (C : Table) (S : Signatures) (message_number : ℕ)
    (header octets_after_header : List ℕ) (section : Section) (d : Decoder) : Type 0 where
  pub T : Ty
  pub before : Said
  pub front : List ℕ
  pub octets : List ℕ
  pub since : octets_after_header ≡ front ++ octets
  pub is : read_message S header octets_after_header ≡ with_front before
      (section_and_rest S header section nothing_noted
      (reading (coding_of S header) [] T (12 + length front) octets))
  pub first : IsFirstIfHeader C.version header section T before front
  pub reads : decoder.Reads C T (coding_of S header) (12 + length front) message_number
      (root_of section) d octets

-- at which stage a message with this number and header is after these octets: from the part to
-- which the next octet belongs, and from the decoder of a section
abbrev pub PartFollows : (C : Table) (answers : Answers) (phase : Phase) (message_number : ℕ)
    (header octets_after_header : List ℕ) (decoder : Decoder) (part : Part) → Type 0
PartFollows C answers phase number header octets d (parts.Typed section) =
    Decodes C (signatures_of C (answers number) phase) number header octets section d
PartFollows C answers phase number header octets d (parts.Padding body_type_id) =
    (said : Said) × (read_message (signatures_of C (answers number) phase) header octets
    ≡ ReadTo said (12 + length octets)
    (In_padding (body_type (in_version (minor header) C) body_type_id)))
PartFollows C answers phase number header octets d (parts.Rest r) =
    (said : Said) × (read_message (signatures_of C (answers number) phase) header octets
    ≡ ReadTo said (12 + length octets) (In_rest r.offset r.held.items))

-- whether the section is the header
abbrev pub is_header : (section : Section) → Bool
is_header sections.Header = true
is_header sections.Exception = false
is_header sections.SystemException = false
is_header sections.Body = false

abbrev pub in_header : (part : Part) → Bool
in_header (parts.Typed section) = is_header section
in_header (parts.Padding body_type_id) = false
in_header (parts.Rest r) = false

-- The message's fields are those of a reading of its header and these octets after it, with padding
-- counted by this phase; no payload is joined to them after the last one. While the header is
-- being read, its decoder has the request id.
pub record Follows (C : Table) (answers : Answers) (phase : Phase) (message_number : ℕ)
    (header : List ℕ) (message : Message) (octets_after_header : List ℕ) : Type 0 where
  pub same_number : message.number ≡ message_number
  pub same_header : message.header ≡ header
  pub id : message.id ≡ cond (in_header message.part) None
      (first_request_id (message_lines (read_message (signatures_of C
      (answers message_number) phase) header octets_after_header)))
  pub at : message.at ≡ 12 + length octets_after_header
  pub counted : IsShiftedFrom phase message.lacks message.at
  pub stands : PartFollows C answers phase message_number header octets_after_header
      message.decoder message.part

-- ---- the calls of a message

-- The message is faulted at the n-th of these octets, counted from 1.
pub record FaultedAt (S : Signatures) (header octets_before more_octets : List ℕ)
    (octets_up_to_fault : ℕ) : Type 0 where
  pub some : 0 < octets_up_to_fault
  pub within : octets_up_to_fault ≤ length more_octets
  pub here : is_over (stage_of (read_message S header
      (octets_before ++ take octets_up_to_fault more_octets))) ≡ true
  pub not_before : is_over (stage_of (read_message S header
      (octets_before ++ take (octets_up_to_fault - 1) more_octets))) ≡ false
