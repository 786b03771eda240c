-- What the parts of a message's code do: the text of an octet, and the stage of a message after a
-- part that has ended (steps). Only private contracts cite these definitions.
use Rattle.std.specs.Prelude.{◌≡◌, ℕ, ◌+◌, Bool, true, false, List, [], ◌∷◌, ◌++◌, length, take, Option, Some, None, ◌&&◌, nat_lt, if◌then◌else◌}
use Rattle.giop_cdr.specs.Alignment.{padding}
use Rattle.giop_print.specs.Lines.{call_line, interface_call_line, fault_line, rest_line}
use Rattle.giop_sig.specs.declared.types.OpId.{OpId}
use Rattle.giop_sig.specs.Types.{Ty}
use Rattle.giop_sig.specs.Table.{Table}
use Rattle.giop_decode.specs.declared.decoder.Decoder.{Decoder}
use Rattle.giop_decode.specs.ReadResult.{Read, Done, Short, Fault}
use Rattle.giop_decode.specs.Reading.{reading}
use Rattle.giop_decode.specs.Noted.{Noted, nothing_noted, noted_of}
use Rattle.giop_decode.specs.DecoderState.{KeepsNoted}
use Rattle.giop_message.specs.declared.message.Message.{Message}
use Rattle.giop_message.specs.declared.part.Section.{Section}
use Rattle.giop_message.specs.declared.part.Section.TheVariants as sections
use Rattle.giop_message.specs.declared.part.Part.{Part}
use Rattle.giop_message.specs.declared.part.Part.TheVariants as parts
use Rattle.giop_message.specs.Phases.{Phase, IsShiftedFrom}
use Rattle.giop_message.specs.Text.{fault_word}
use Rattle.giop_message.specs.Signatures.{Signatures, Answers, signatures_of}
use Rattle.giop_message.specs.Messages
use Rattle.giop_message.specs.Messages.{coding_of, Said, BodyType, Untyped, is_graphic_name, is_request, has_aligned_body, body_of, members_of, typed_if_some, with_front, section_and_rest, root_of, read_message}
use Rattle.giop_message.specs.HeaderEnds.{CallEvent, header_event, raise_event}
use Rattle.giop_message.specs.MessageState.{IsFirstIfHeader, PartFollows, Follows, FaultedAt}

-- the line of a reading's fault; the octet of the fault has this place in the stream
abbrev pub fault_text : (message_number fault_place_in_stream : ℕ) (read : Read) → List ℕ
fault_text number place (Done lines at rest) = []
fault_text number place (Short lines at outer leaf) = []
fault_text number place (Fault lines at why T) = fault_line number (fault_word why) place

-- the line of a call, with its interface or without one
abbrev pub call_line_with : (message_number request_id : ℕ) (operation_name : List ℕ)
    (interface : Option (List ℕ)) → List ℕ
call_line_with number id operation None = call_line number id operation
call_line_with number id operation (Some interface) = interface_call_line number id operation
    interface

-- the line of a call, if a call line can show it
unfoldable pub call_line_if_shown : (message_number : ℕ) (request_id : Option ℕ)
    (name_shown_if_graphic interface : Option (List ℕ)) → List ℕ
call_line_if_shown number (Some id) (Some operation) interface =
    if is_graphic_name operation then call_line_with number id operation interface else []
call_line_if_shown number id operation interface = []

-- the line of a call, if this is the header of a Request
unfoldable pub call_line_of_request : (S : Signatures) (message_number : ℕ) (header : List ℕ)
    (noted : Noted) →
    List ℕ
call_line_of_request S number header h =
    if is_request header then call_line_if_shown number h.request_id h.name
    (S.interface h.key) else []

-- the type of what follows a section, from what is noted of the section
abbrev pub body_type_after : (S : Signatures) (header : List ℕ) (section : Section)
    (noted : Noted) →
    BodyType
body_type_after S header sections.Header h = body_of S header h
body_type_after S header sections.Exception h = typed_if_some (members_of S header h.name)
body_type_after S header sections.SystemException h = Untyped
body_type_after S header sections.Body h = Untyped

-- whether there is padding between a section that ends at this offset and what follows it
abbrev pub has_padding_after : (header : List ℕ) (section : Section) (section_end_offset : ℕ) → Bool
has_padding_after header sections.Header at = has_aligned_body header && nat_lt 0 (padding at 8)
has_padding_after header sections.Exception at = false
has_padding_after header sections.SystemException at = false
has_padding_after header sections.Body at = false

-- the message has this number and this header, has taken this many octets, and counts padding by
-- this phase
pub record HasTaken (phase : Phase) (message_number : ℕ) (header : List ℕ) (message : Message)
    (octets_as_many_as_taken : List ℕ) : Type 0
  where
    pub same_number : message.number ≡ message_number
    pub same_header : message.header ≡ header
    pub at : message.at ≡ 12 + length octets_as_many_as_taken
    pub counted : IsShiftedFrom phase message.lacks message.at

-- if a message has said what came before and then reads as `m`, the new part fits `m`
abbrev pub NewPartReads : (C : Table) (answers : Answers) (phase : Phase) (message_number : ℕ)
    (header : List ℕ) (old new : Message) (octets_after_header : List ℕ)
    (reading_from_new_part : Messages.MessageReading) → Type 0
NewPartReads C answers phase number header old new octets m =
    HasTaken phase number header old octets → (before : Said) →
    read_message (signatures_of C (answers number) phase) header octets ≡ with_front before m →
    PartFollows C answers phase number header octets new.decoder new.part

-- If a message has said what came before, and then a section of this type begins, and no octet of
-- it has come, the new part is that section.
abbrev pub NewSectionReads : (C : Table) (answers : Answers) (phase : Phase) (message_number : ℕ)
    (header : List ℕ) (old new : Message) (octets_before_section : List ℕ) (section : Section)
    (section_type : Ty) → Type 0
NewSectionReads C answers phase number header old new octets section T =
    HasTaken phase number header old octets → (before : Said) →
    IsFirstIfHeader C.version header section T
    before octets →
    (let S = signatures_of C (answers number) phase in read_message S header octets
    ≡ with_front before (section_and_rest S header section
    nothing_noted (reading (coding_of S header) [] T (12 + length octets) []))) →
    PartFollows C answers phase number header octets new.decoder new.part

-- the part is read as a value
abbrev pub IsInSection : (part : Part) → Type 0
IsInSection (parts.Typed section) = Unit {0}
IsInSection part = ⊥

-- the part is this section, and its decoder has the notes of this reading
abbrev pub HasEndedSection : (C : Table) (decoder : Decoder) (part : Part) (section : Section)
    (section_reading : Read) → Type 0
HasEndedSection C d (parts.Typed held) section r = (held ≡ section) ×
    KeepsNoted C (root_of section) d r
HasEndedSection C d part section r = ⊥

-- what is told when a section ends: from its reading, and, if it is a header, from the operation
-- that it names
abbrev pub section_event : (section : Section) (message_number : ℕ) (header : List ℕ)
    (section_reading : Read) (operation_if_header : Option OpId) → Option CallEvent
section_event sections.Header number header r operation =
    header_event number header (noted_of true r) operation
section_event sections.Exception number header r operation =
    raise_event number (noted_of false r).name
section_event sections.SystemException number header r operation =
    raise_event number (noted_of false r).name
section_event sections.Body number header r operation = None

-- the line of the last part of a rest, or nothing if that part has no octets
abbrev pub held_text : (message_number offset_in_rest : ℕ) (last_rest_octets : List ℕ) → List ℕ
held_text number offset [] = []
held_text number offset (x ∷ held) = rest_line number offset (x ∷ held)

abbrev pub last_rest_text : (message_number : ℕ) (part : Part) → List ℕ
last_rest_text number (parts.Typed section) = []
last_rest_text number (parts.Padding body_type_id) = []
last_rest_text number (parts.Rest r) = held_text number r.offset r.held.items

-- ---- one call over a run of octets

-- the call took `count` octets: the message is over at the last of them, or it follows the longer
-- list
abbrev pub TookSome : (C : Table) (answers : Answers) (phase : Phase) (message_number : ℕ)
    (header : List ℕ) (message : Message) (octets_before given_octets : List ℕ) (taken_count : ℕ)
    (is_faulted : Bool) → Type 0
TookSome C answers phase number header m taken octets count false =
    Follows C answers phase number header m (taken ++ take count octets)
TookSome C answers phase number header m taken octets count true =
    FaultedAt (signatures_of C (answers number) phase) header taken octets count
