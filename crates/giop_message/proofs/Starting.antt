-- A message whose header has come, and what begins after one of its parts.
use Rattle.std.proofs.Common.{◌≡◌, ℕ, zero, Bool, true, false, List, [], Option, option_map, option_and_then, Some, None, refl, sym, add-zero, arith}
use Rattle.std.specs.Prelude.{◌&&◌, nat_lt, if◌then◌else◌}
use Rattle.std.proofs.lemmas.Bool.{ltb-false, ne_eqb, false≢true}
use Rattle.giop_cdr.specs.Alignment.{padding}
use Rattle.giop_decode.specs.ReadResult.{Coding}
use Rattle.giop_sig.specs.Types.{Ty, Struct}
use Rattle.giop_sig.specs.Fits.{IsFit, IsEmptyStruct}
use Rattle.giop_decode.specs.Reading.{reading}
use Rattle.giop_decode.specs.Noted.{Noted, nothing_noted}
use Rattle.giop_message.specs.Phases.{Phase}
use Rattle.giop_message.specs.declared.part.Section.{Section}
use Rattle.giop_message.specs.declared.part.Section.TheVariants as sections
use Rattle.giop_message.specs.Headers.{minor, kind}
use Rattle.giop_sig.specs.Table.{Table, in_version}
use Rattle.giop_message.specs.Signatures.{Signatures, Answer, request_type, signatures_of}
use Rattle.giop_message.specs.HeaderEnds.{operation_of}
use Rattle.giop_message.specs.MessageState.{is_header}
use Rattle.giop_message.specs.Messages.{coding_of, Said, nothing_said, section_lines, ReadTo, In_rest, In_padding, with_front, section_then, read_rest, read_rest_in_parts, read_typed, BodyType, read_body, body_of, read_padding_and_body, read_typed_if_some, members_of, typed_if_some, read_after_exception, Untyped, Typed, body_may_be_missing, is_request, request_body, reply_body, locate_body, read_after_header, read_header_and_rest, message_lines, read_message, read_after_section, section_and_rest}
use Rattle.giop_message.specs.MessageSteps.{has_padding_after, body_type_after}
use Rattle.giop_message.proofs.Going.{front_none, none_front}
use Rattle.giop_message.proofs.Causal.{message_silent}
use Rattle.giop_message.proofs.Octets.{told_silent}

-- a type that takes at least one octet isn't the empty struct
pub fit_some : (T : Ty) → IsFit 24 T → IsEmptyStruct T → ⊥
unfolding IsFit
fit_some (Struct zero names parts) fit empty = absurd (omega (arith, fit.0))
fit_some T fit empty = absurd empty

-- before its first octet, a message has no line
pub none_told : (S : Signatures) (header : List ℕ) → message_lines (read_message S header []) ≡ []
none_told S header = search (arith, told_silent, message_silent)

-- if there is no header type, the message is in its rest before its first octet
pub none_rests : (S : Signatures) (header : List ℕ) → S.header (minor header) (kind header) ≡ None →
    read_message S header [] ≡ ReadTo nothing_said 12 (In_rest 0 [])
unfolding read_message read_header_and_rest read_rest read_rest_in_parts
none_rests S header e = rw e refl

-- if there is a header type, the message is in its header before its first octet
pub header_first : (S : Signatures) (header : List ℕ) (T : Ty) →
    S.header (minor header) (kind header) ≡ Some T → read_message S header []
    ≡ with_front nothing_said
    (section_and_rest S header sections.Header nothing_noted
    (reading (coding_of S header) [] T 12 []))
unfolding read_message read_header_and_rest
header_first S header T e = rw (e, front_none) refl

-- ---- after a part that has ended, before the next octet

pub rest_is : (n : ℕ) → read_rest n [] ≡ ReadTo nothing_said n (In_rest 0 [])
unfolding read_rest read_rest_in_parts
rest_is n = rw add-zero refl

pub front_rests : (before : Said) (n : ℕ) →
    with_front before (read_rest n []) ≡ ReadTo before n (In_rest 0 [])
front_rests before n = search (arith, rest_is, none_front)

-- a section has ended, and no octet after it has come: there is padding before what follows, or
-- there is none
by_tests : (S : Signatures) (header : List ℕ) (b : BodyType) (n : ℕ) (aligned some : Bool) →
    nat_lt 0 (padding n 8) ≡ some →
    (if aligned then read_padding_and_body S header b n [] else read_body S header b n [])
    ≡ (if aligned && some then ReadTo nothing_said n (In_padding b) else read_body S header b n [])
unfolding read_padding_and_body
by_tests S header b n false some e = refl
by_tests S header b n true true e = rw (e, add-zero) refl
by_tests S header b n true false e = search (arith, ltb-false, add-zero)

option_body : (S : Signatures) (header : List ℕ) (found : Option Ty) (n : ℕ) →
    read_typed_if_some (coding_of S header) found n [] ≡ read_body S header
    (typed_if_some found) n []
unfolding read_typed_if_some read_body typed_if_some
option_body S header None n = refl
option_body S header (Some T) n = refl

follows_by : (S : Signatures) (header : List ℕ) (section : Section) (h : Noted) (n : ℕ) →
    read_after_section S header section h n []
    ≡ (if has_padding_after header section n then ReadTo nothing_said n
    (In_padding (body_type_after S header section h))
    else read_body S header (body_type_after S header section h) n [])
unfolding read_after_header read_after_exception read_body
follows_by S header sections.Header h n = search (arith, by_tests)
follows_by S header sections.Exception h n = search (arith, option_body)
follows_by S header sections.SystemException h n = refl
follows_by S header sections.Body h n = refl

pub left_padded : (S : Signatures) (header : List ℕ) (section : Section) (h : Noted) (n : ℕ) →
    has_padding_after header section n ≡ true →
    read_after_section S header section h n []
    ≡ ReadTo nothing_said n (In_padding (body_type_after S header section h))
left_padded S header section h n e = search (arith, follows_by)

pub left_bare : (S : Signatures) (header : List ℕ) (section : Section) (h : Noted) (n : ℕ) →
    has_padding_after header section n ≡ false →
    read_after_section S header section h n [] ≡ read_body S header
    (body_type_after S header section h) n []
left_bare S header section h n e = search (arith, follows_by)

-- the empty struct is done at once
pub empty_rests : (coding : Coding) (T : Ty) (n : ℕ) → body_may_be_missing (Typed T) ≡ true →
    read_typed coding T n [] ≡ read_rest n []
unfolding read_typed section_then section_lines body_may_be_missing
empty_rests coding (Struct zero names parts) n empty = front_none (read_rest n [])
empty_rests coding T n empty = absurd (false≢true empty)

-- no other type is done at once
pub some_not_empty : (T : Ty) → body_may_be_missing (Typed T) ≡ false → IsEmptyStruct T → ⊥
unfolding body_may_be_missing
some_not_empty (Struct zero names parts) e empty = false≢true (sym e)
some_not_empty T e empty = empty

-- ---- the body of each message type

pub request_wants : (S : Signatures) (header : List ℕ) (h : Noted) → kind header ≡ 0 →
    body_of S header h ≡ request_body S header h.key h.name
unfolding body_of is_request
request_wants S header h e = rw e refl

pub reply_wants : (S : Signatures) (header : List ℕ) (h : Noted) → kind header ≡ 1 →
    body_of S header h ≡ reply_body S header h.request_id h.status
unfolding body_of is_request
reply_wants S header h e = rw e refl

pub locate_wants : (S : Signatures) (header : List ℕ) (h : Noted) → kind header ≡ 4 →
    body_of S header h ≡ locate_body S h.status
unfolding body_of is_request
locate_wants S header h e = rw e refl

pub others_want : (S : Signatures) (header : List ℕ) (h : Noted) → (kind header ≡ 0 → ⊥) →
    (kind header ≡ 1 → ⊥) → (kind header ≡ 4 → ⊥) → body_of S header h ≡ Untyped
unfolding body_of is_request
others_want S header h f g k = search (arith, ne_eqb)

-- the body of a Request, from the operation that it names
pub named_body : (C : Table) (answer : Answer) (phase : Phase) (header : List ℕ) (n : Noted) →
    kind header ≡ 0 →
    typed_if_some (option_and_then (request_type (in_version (minor header) C))
    (operation_of C header n))
    ≡ request_body (signatures_of C answer phase) header n.key n.name
unfolding operation_of signatures_of request_body typed_if_some
named_body C answer phase header n request = search (arith, option_map, option_and_then)

-- After a header only, what follows a section depends on what the ids answer.
pub wanted_agree : (C : Table) (a b : Answer) (phase : Phase) (header : List ℕ) (section : Section)
    (h : Noted) →
    (is_header section ≡ true → a ≡ b) →
    body_type_after (signatures_of C a phase) header section h
    ≡ body_type_after (signatures_of C b phase) header section h
unfolding signatures_of members_of
wanted_agree C a b phase header sections.Header h same = search (arith)
wanted_agree C a b phase header sections.Exception h same = search (arith)
wanted_agree C a b phase header sections.SystemException h same = refl
wanted_agree C a b phase header sections.Body h same = refl
