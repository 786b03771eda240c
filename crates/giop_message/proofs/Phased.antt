-- A message is the same by phases that agree before the end of its octets.
use Rattle.std.proofs.Common.{◌≡◌, ℕ, ◌+◌, ◌<◌, ◌≤◌, ◌⊎◌, inl, inr, Bool, true, false, List, [], ◌∷◌, ◌++◌, length, drop, Option, Some, None, refl, sym, ap, add-zero, add_assoc, ◌∙◌, arith, length-append, length-drop}
use Rattle.std.specs.Prelude.{if◌then◌else◌}
use Rattle.std.proofs.lemmas.Bool.{cases_lt}
use Rattle.giop_cdr.specs.Alignment.{padding}
use Rattle.giop_sig.specs.Types.{Ty}
use Rattle.giop_sig.specs.Table.{Table}
use Rattle.giop_sig.specs.Builtin.{builtin_table}
use Rattle.giop_decode.specs.ReadResult as readings
use Rattle.giop_decode.specs.ReadResult.{Coding, ValueAt, Read, Done, Short, Fault}
use Rattle.giop_decode.specs.Reading.{reading}
use Rattle.giop_decode.specs.ReadingSteps.{IsEmptyResult, IsOctetResult, root_after_octet, root_step}
use Rattle.giop_decode.specs.Noted.{Noted, nothing_noted}
use Rattle.giop_decode.proofs.ReadingLaws.{length_one_more, reading_goes, reading_phased, reading_quiet, root_now}
use Rattle.giop_message.specs.declared.part.Section.{Section}
use Rattle.giop_message.specs.declared.part.Section.TheVariants as sections
use Rattle.giop_message.specs.Headers.{minor, kind}
use Rattle.giop_message.specs.Phases.{Phase, AgreeBefore}
use Rattle.giop_message.specs.MessageReader.{UsesPhaseBeforeEnd}
use Rattle.giop_message.specs.Signatures.{Signatures, Answer, Answers, signatures_of}
use Rattle.giop_message.specs.Messages.{coding_of, no_calls, section_call_source, CallSource, BodyType, Untyped, Typed, UserException, SystemException, MessageReading, with_front, section_then, request_body, result_body, reply_body, locate_body, read_rest, read_typed, read_typed_if_some, members_of, read_after_exception, read_body, body_of, read_padding_and_body, has_aligned_body, read_after_header, read_header_and_rest, read_message, read_after_section, section_and_rest}
use Rattle.giop_message.specs.HeaderEnds.{marks, header_ends}
use Rattle.giop_message.specs.ReaderOfTable.{message_reader, timed_lines_by, lines_of_close_by}
use Rattle.giop_message.proofs.Causal.{grown}
use Rattle.giop_message.proofs.Going.{padded_waits, padded_begins}

-- ---- where a reading ends

-- the reading has ended or goes on, and the octets after it end at this offset
abbrev pub EndsAtOffset : (end : ℕ) (read : Read) → Type 0
EndsAtOffset end (Done lines at rest) = at + length rest ≡ end
EndsAtOffset end (Short lines at outer leaf) = at ≡ end
EndsAtOffset end (Fault lines at why T) = Unit {0}

none_ends : (n : ℕ) (r : Read) → IsEmptyResult n r → EndsAtOffset n r
none_ends n (Done lines at rest) h = rw (h.1, h.2, add-zero) refl
none_ends n (Short lines at outer leaf) h = h.1
none_ends n (Fault lines at why T) h = tt

now_ends : (n : ℕ) (front : List ValueAt) (r : Read) → IsOctetResult n r →
    EndsAtOffset n (readings.with_front front r)
now_ends n front (Done lines at rest) h = rw (h.1, h.2, add-zero) refl
now_ends n front (Short lines at outer leaf) h = h.1
now_ends n front (Fault lines at why T) h = tt

more_ends : (coding : Coding) (n b : ℕ) (r : Read) → EndsAtOffset n r →
    EndsAtOffset (n + 1) (root_after_octet coding [] r b)
more_ends coding n b (Done lines at rest) h = omega (arith, length_one_more rest b, h)
more_ends coding n b (Short lines at outer leaf) h =
    rw (← h) (now_ends (at + 1) lines (root_step coding [] outer leaf at b)
    (root_now coding [] outer leaf at b))
more_ends coding n b (Fault lines at why T) h = tt

-- a reading ends with its octets
pub reading_ends : (coding : Coding) (T : Ty) (at : ℕ) (s : List ℕ) →
    EndsAtOffset (at + length s) (reading coding [] T at s)
reading_ends coding T at s =
    grown (λ (xs : List ℕ). EndsAtOffset (at + length xs) (reading coding [] T at xs)) more [] s
    (rw add-zero (none_ends at (reading coding [] T at []) (reading_quiet coding [] T at)))
  where
    more : (xs : List ℕ) (b : ℕ) → EndsAtOffset (at + length xs) (reading coding [] T at xs) →
        EndsAtOffset (at + length (xs ++ b ∷ [])) (reading coding [] T at (xs ++ b ∷ []))
    more xs b h = rw (length_one_more xs b, reading_goes, ← add_assoc)
        (more_ends coding (at + length xs) b (reading coding [] T at xs) h)

-- ---- the parts of a message

module _ (S : Signatures) (other : Phase) (header : List ℕ) where
  abbrev pub Other : Signatures
  Other = record S { phase = other }

  module _ (end : ℕ) (agree : AgreeBefore end S.phase other) where
    -- octets that end there are read so by both phases
    abbrev Alike : (f g : ℕ → List ℕ → MessageReading) → Type 0
    Alike f g = (at : ℕ) (s : List ℕ) → at + length s ≡ end → f at s ≡ g at s

    same_reading : (T : Ty) (at : ℕ) (s : List ℕ) → at + length s ≡ end →
        reading (coding_of S header) [] T at s ≡ reading (coding_of Other header) [] T at s
    same_reading T at s e = reading_phased (coding_of S header) (coding_of Other header) [] T at s
        refl (rw e agree)

    section_same : (section : Section) (is : CallSource) (next onward : Noted → ℕ → List ℕ →
        MessageReading) →
        ((h : Noted) → Alike (next h) (onward h)) → (r : Read) → EndsAtOffset end r →
        section_then section is next nothing_noted r
        ≡ section_then section is onward nothing_noted r
    unfolding section_then
    section_same section is next onward each (Done lines at rest) e =
        ap (with_front _) (each _ at rest e)
    section_same section is next onward each (Short lines at outer leaf) e = refl
    section_same section is next onward each (Fault lines at why T) e = refl

    section_alike : (section : Section) (is : CallSource)
        (next onward : Noted → ℕ → List ℕ → MessageReading) →
        ((h : Noted) → Alike (next h) (onward h)) → (T : Ty) →
        Alike (λ at s. section_then section is next nothing_noted
        (reading (coding_of S header) [] T at s))
        (λ at s. section_then section is onward nothing_noted
        (reading (coding_of Other header) [] T at s))
    section_alike section is next onward each T at s e =
        section_same section is next onward each (reading (coding_of S header) [] T at s)
        (rw (← e) (reading_ends (coding_of S header) T at s))
        ∙ ap (section_then section is onward nothing_noted) (same_reading T at s e)

    rest_alike : (h : Noted) → Alike read_rest read_rest
    rest_alike h at s e = refl

    typed_alike : (T : Ty) →
        Alike (read_typed (coding_of S header) T) (read_typed (coding_of Other header) T)
    unfolding read_typed
    typed_alike T = section_alike sections.Body no_calls (λ h. read_rest)
        (λ h. read_rest) rest_alike T

    option_alike : (found : Option Ty) →
        Alike (read_typed_if_some (coding_of S header) found)
        (read_typed_if_some (coding_of Other header) found)
    unfolding read_typed_if_some
    option_alike None at s e = refl
    option_alike (Some T) at s e = typed_alike T at s e

    exception_alike : (h : Noted) → Alike (read_after_exception S header h)
        (read_after_exception Other header h)
    unfolding read_after_exception members_of
    exception_alike h = option_alike _

    body_alike : (t : BodyType) → Alike (read_body S header t) (read_body Other header t)
    unfolding read_body
    body_alike Untyped at s e = refl
    body_alike (Typed T) at s e = typed_alike T at s e
    body_alike UserException at s e =
        section_alike sections.Exception no_calls (read_after_exception S header)
        (read_after_exception Other header) exception_alike S.exception_id at s e
    body_alike SystemException at s e =
        section_alike sections.SystemException no_calls (λ h. read_rest) (λ h. read_rest) rest_alike
        S.system_exception at s e

    padded_alike : (t : BodyType) → Alike (read_padding_and_body S header t)
        (read_padding_and_body Other header t)
    padded_alike t at s e = go (cases_lt (length s) (padding at 8))
      where
        go : (length s < padding at 8) ⊎ (padding at 8 ≤ length s) →
            read_padding_and_body S header t at s ≡ read_padding_and_body Other header t at s
        go (inl few) = padded_waits S header t at s few ∙ sym (padded_waits Other header t at s few)
        go (inr enough) =
            padded_begins S header t at s enough
            ∙ (body_alike t (at + padding at 8) (drop (padding at 8) s)
            (omega (arith, length-drop (padding at 8) s, enough, e))
            ∙ sym (padded_begins Other header t at s enough))

    header_alike : (h : Noted) → Alike (read_after_header S header h)
        (read_after_header Other header h)
    unfolding read_after_header body_of request_body result_body reply_body locate_body
    header_alike h at s e = go (has_aligned_body header)
      where
        go : (aligned : Bool) →
            (if aligned then read_padding_and_body S header (body_of S header h) at s
            else read_body S header (body_of S header h) at s)
            ≡ (if aligned then read_padding_and_body Other header (body_of Other header h) at s
            else read_body Other header (body_of Other header h) at s)
        go true = padded_alike (body_of S header h) at s e
        go false = body_alike (body_of S header h) at s e

    pub after_alike : (section : Section) (h : Noted) →
        Alike (read_after_section S header section h) (read_after_section Other header section h)
    after_alike sections.Header h = header_alike h
    after_alike sections.Exception h = exception_alike h
    after_alike sections.SystemException h = rest_alike h
    after_alike sections.Body h = rest_alike h

    -- a section, and what follows it
    pub whole_alike : (section : Section) (T : Ty) →
        Alike (λ at s. section_and_rest S header section nothing_noted
        (reading (coding_of S header) [] T at s))
        (λ at s. section_and_rest Other header section nothing_noted
        (reading (coding_of Other header) [] T at s))
    whole_alike section T = section_alike section (section_call_source S header section)
        (read_after_section S header section) (read_after_section Other header section)
        (after_alike section) T

    found_alike : (found : Option Ty) → Alike (read_header_and_rest S header found)
        (read_header_and_rest Other header found)
    unfolding read_header_and_rest
    found_alike None at s e = refl
    found_alike (Some T) at s e = whole_alike sections.Header T at s e

  pub message_alike : (s : List ℕ) → AgreeBefore (12 + length s) S.phase other →
      read_message S header s ≡ read_message Other header s
  unfolding read_message
  message_alike s agree =
      found_alike (12 + length s) agree (S.header (minor header) (kind header)) 12 s refl

-- ---- the same for a table, and what the ids answer

pub message_phased : (C : Table) (answer : Answer) (phase other : Phase) (header s : List ℕ) →
    AgreeBefore (12 + length s) phase other →
    read_message (signatures_of C answer phase) header s ≡ read_message
    (signatures_of C answer other)
    header s
unfolding signatures_of
message_phased C answer phase other header s agree =
    message_alike (signatures_of C answer phase) other header s agree

pub ends_phased : (phase other : Phase) (number : ℕ) (header s more : List ℕ) →
    AgreeBefore (12 + length (s ++ more)) phase other →
    header_ends phase number header s more ≡ header_ends other number header s more
unfolding header_ends marks
ends_phased phase other number header s more agree =
    let both = message_phased builtin_table (λ id. None) phase other header in
    let front = both s (λ at less. agree at (omega (arith, length-append s more, less))) in
    rw (front, both (s ++ more) agree) refl

pub lines_phased : (C : Table) (answers : Answers) → UsesPhaseBeforeEnd (message_reader C answers)
unfolding timed_lines_by lines_of_close_by
lines_phased C answers = record {
  reads = λ phase other number header xs agree. rw (message_phased C (answers number) phase other
      header xs agree) refl;
  closes = λ phase other number header xs agree. rw (message_phased C (answers number) phase other
      header xs agree) refl;
}
