-- The marks of a message: more octets only add marks, one octet adds at most one, and they are the
-- same with each table and whatever the ids answer.
use Rattle.std.proofs.Common.{◌≡◌, ℕ, zero, suc, ◌+◌, ◌⊎◌, inl, inr, Bool, true, false, List, [], ◌∷◌, ◌++◌, length, map, drop, Option, Some, None, refl, sym, ap, subst, ◌∙◌, append-nil, append_assoc, add-zero, arith}
use Rattle.std.specs.Prelude.{◌==◌, nat_lt, if◌then◌else◌}
use Rattle.std.proofs.Math.Seq.{drop-append_seam}
use Rattle.std.proofs.lemmas.Bool.{cases_lt, lt-ltb, false≢true}
use Rattle.giop_cdr.specs.Alignment.{padding}
use Rattle.giop_sig.specs.Types.{Ty}
use Rattle.giop_sig.specs.Table.{Table}
use Rattle.giop_sig.specs.Builtin.{builtin_table}
use Rattle.giop_sig.specs.HeaderTypes.{fixed_type}
use Rattle.giop_sig.specs.declared.types.Fixed.{Fixed}
use Rattle.giop_sig.specs.declared.types.Fixed.TheVariants as fixeds
use Rattle.giop_decode.specs.ReadResult.{Coding, OpenPart, Leaf, Read, Done, Short, Fault}
use Rattle.giop_decode.specs.Reading.{reading}
use Rattle.giop_decode.specs.ReadingSteps.{IsEmptyResult, root_step}
use Rattle.giop_decode.specs.Noted.{Noted, nothing_noted, note_lines, is_header_root}
use Rattle.giop_decode.proofs.ReadingLaws.{reading_quiet, root_now}
use Rattle.giop_message.specs.Phases.{Phase}
use Rattle.giop_message.specs.declared.part.Section.{Section}
use Rattle.giop_message.specs.declared.part.Section.TheVariants as sections
use Rattle.giop_message.specs.Headers.{minor, kind, order}
use Rattle.giop_message.specs.Signatures.{Signatures, Answer, signatures_of}
use Rattle.giop_message.specs.Messages.{coding_of, no_calls, Mark, HeaderMark, NameMark, RestLine, line_at, Said, only_lines, nothing_said, BodyType, Untyped, Typed, UserException, SystemException, Stage, In_typed, In_padding, In_rest, Over, MessageReading, ReadTo, with_front, name_marks, end_marks, section_then, read_rest_in_parts, read_rest, read_typed, read_typed_if_some, read_after_exception, typed_if_some, request_body, result_body, reply_body, locate_body, read_body, body_of, read_padding_and_body, read_after_header, read_header_and_rest, read_message, message_marks, stage_of, root_of, read_after_section, section_and_rest}
use Rattle.giop_message.specs.StageSteps.{rest_step, message_step, read_one_more, read_more}
use Rattle.giop_message.specs.HeaderEnds.{marks, header_end_at, header_ends}
use Rattle.giop_message.specs.MessageState.{is_header}
use Rattle.giop_message.proofs.AlikeReadings.{Outcome, Ended, Open, Faulted, HasSameOutcome, outcome, reading_same}
use Rattle.giop_message.proofs.AlikeHeaders.{AreAlikeFound, fixed_alike, headers_alike}
use Rattle.giop_message.proofs.Going.{message_resumes, after_has, body_has}
use Rattle.giop_message.proofs.Octets.{stage_front}
use Rattle.giop_message.proofs.Parts.{ReadsAll, now_all}

pub marks_front : (front : Said) (m : MessageReading) →
    message_marks (with_front front m) ≡ front.marks ++ message_marks m
unfolding message_marks with_front
marks_front front (ReadTo said at stage) = refl

-- ---- a rest has no marks, and a body has none except the mark of the name with which it begins

rest_in_unmarked : (full offset at : ℕ) (s : List ℕ) → message_marks
    (read_rest_in_parts full offset at s) ≡ []
unfolding read_rest_in_parts message_marks
rest_in_unmarked zero offset at s = refl
rest_in_unmarked (suc full) offset at s =
    marks_front _ _ ∙ rest_in_unmarked full (offset + 32) (at + 32) (drop 32 s)

pub rest_unmarked : (at : ℕ) (s : List ℕ) → message_marks (read_rest at s) ≡ []
unfolding read_rest
rest_unmarked at s = rest_in_unmarked _ 0 at s

-- the mark of a section after this reading, if this was noted before
abbrev pub marks_after_reading : (section : Section) (noted : Noted) (reading : Read) → List Mark
marks_after_reading section h (Done lines at s) =
    end_marks section (note_lines (is_header_root (root_of section)) h lines)
marks_after_reading section h (Short lines at outer leaf) = []
marks_after_reading section h (Fault lines at why T) = []

section_marks : (section : Section) (next : Noted → ℕ → List ℕ → MessageReading) →
    ((h : Noted) (at : ℕ) (s : List ℕ) → message_marks (next h at s) ≡ []) → (r : Read) →
    message_marks (section_then section no_calls next nothing_noted r)
    ≡ marks_after_reading section nothing_noted r
unfolding section_then message_marks
section_marks section next none (Done lines at s) = search (arith, marks_front, append-nil)
section_marks section next none (Short lines at outer leaf) = refl
section_marks section next none (Fault lines at why T) = refl

body_unended : (r : Read) → marks_after_reading sections.Body nothing_noted r ≡ []
body_unended (Done lines at s) = refl
body_unended (Short lines at outer leaf) = refl
body_unended (Fault lines at why T) = refl

-- the mark of a section, from the outcome of its reading
abbrev marks_of_outcome : (section : Section) (outcome : Outcome) → List Mark
marks_of_outcome section (Ended now at s) = end_marks section now
marks_of_outcome section (Open now at) = []
marks_of_outcome section (Faulted now at why) = []

ended_shows : (section : Section) (h : Noted) (r : Read) →
    marks_after_reading section h r ≡ marks_of_outcome section (outcome (is_header_root
    (root_of section)) h r)
ended_shows section h (Done lines at s) = refl
ended_shows section h (Short lines at outer leaf) = refl
ended_shows section h (Fault lines at why T) = refl

ended_same : (section : Section) (h : Noted) (r q : Read) →
    HasSameOutcome (is_header_root (root_of section)) r q →
    marks_after_reading section h r ≡ marks_after_reading section h q
ended_same section h r q same = ended_shows section h r
    ∙ (ap (marks_of_outcome section) (same.shows h) ∙ sym (ended_shows section h q))

module _ (header : List ℕ) where
  typed_unmarked : (coding : Coding) (T : Ty) (at : ℕ) (s : List ℕ) →
      message_marks (read_typed coding T at s) ≡ []
  unfolding read_typed
  typed_unmarked coding T at s = search (arith, section_marks, body_unended, rest_unmarked)

  members_unmarked : (S : Signatures) (h : Noted) (at : ℕ) (s : List ℕ) →
      message_marks (read_after_exception S header h at s) ≡ []
  unfolding read_after_exception read_typed_if_some
  members_unmarked S h at s = search (arith, rest_unmarked, typed_unmarked)

  abbrev Raising : (S : Signatures) (body_type : BodyType) (offset : ℕ) (octets : List ℕ) →
      List Mark
  Raising S Untyped at s = []
  Raising S (Typed T) at s = []
  Raising S UserException at s =
      marks_after_reading sections.Exception nothing_noted (reading
      (coding_of S header) [] S.exception_id at s)
  Raising S SystemException at s =
      marks_after_reading sections.SystemException nothing_noted
      (reading (coding_of S header) [] S.system_exception at s)

  body_marks : (S : Signatures) (b : BodyType) (at : ℕ) (s : List ℕ) →
      message_marks (read_body S header b at s) ≡ Raising S b at s
  unfolding read_body
  body_marks S Untyped at s = rest_unmarked at s
  body_marks S (Typed T) at s = typed_unmarked (coding_of S header) T at s
  body_marks S UserException at s =
      section_marks sections.Exception (read_after_exception S header) (members_unmarked S) _
  body_marks S SystemException at s =
      section_marks sections.SystemException (λ h. read_rest) (λ h. rest_unmarked) _

  type_raises : (S : Signatures) (found : Option Ty) (at : ℕ) (s : List ℕ) →
      Raising S (typed_if_some found) at s ≡ []
  unfolding typed_if_some
  type_raises S None at s = refl
  type_raises S (Some T) at s = refl

  request_raises : (S : Signatures) (key name : Option (List ℕ)) (at : ℕ) (s : List ℕ) →
      Raising S (request_body S header key name) at s ≡ []
  unfolding request_body
  request_raises S key None at s = refl
  request_raises S key (Some name) at s = type_raises S (S.request (minor header) name key) at s

  result_raises : (S : Signatures) (id : Option ℕ) (at : ℕ) (s : List ℕ) →
      Raising S (result_body S header id) at s ≡ []
  unfolding result_body
  result_raises S None at s = refl
  result_raises S (Some id) at s = type_raises S (S.reply (minor header) id) at s

  locate_raises : (S : Signatures) (status : Option ℕ) (at : ℕ) (s : List ℕ) →
      Raising S (locate_body S status) at s ≡ []
  unfolding locate_body
  locate_raises S None at s = refl
  locate_raises S (Some status) at s = search (arith)

  -- ---- the marks are the same with each table, whatever the ids answer

  module _ (C : Table) (x y : Answer) (phase : Phase) where
    abbrev Sx : Signatures
    Sx = signatures_of builtin_table x phase

    abbrev Sy : Signatures
    Sy = signatures_of C y phase

    -- padding is counted by the same phase with each table
    abbrev Alike : Coding
    Alike = record { order = order header; phase = phase }

    fixed_same : (section : Section) (fixed : Fixed) (at : ℕ) (s : List ℕ) →
        marks_after_reading section nothing_noted (reading Alike [] (fixed_type 1 fixed) at s)
        ≡ marks_after_reading section nothing_noted
        (reading Alike [] (fixed_type C.version fixed) at s)
    fixed_same section fixed at s = ended_same section nothing_noted _ _
        (reading_same (is_header_root (root_of section)) Alike []
        (fixed_type 1 fixed) (fixed_type C.version fixed) (fixed_alike C.version fixed) at s)

    user_same : (at : ℕ) (s : List ℕ) →
        Raising Sx UserException at s ≡ Raising Sy UserException at s
    unfolding signatures_of
    user_same at s = fixed_same sections.Exception fixeds.ExceptionId at s

    system_same : (at : ℕ) (s : List ℕ) →
        Raising Sx SystemException at s ≡ Raising Sy SystemException at s
    unfolding signatures_of
    system_same at s = fixed_same sections.SystemException fixeds.SystemException at s

    reply_same : (id status : Option ℕ) (at : ℕ) (s : List ℕ) →
        Raising Sx (reply_body Sx header id status) at s
        ≡ Raising Sy (reply_body Sy header id status) at s
    unfolding reply_body
    reply_same id None at s = refl
    reply_same id (Some status) at s = search (arith, result_raises, user_same, system_same)

    raising_same : (h : Noted) (at : ℕ) (s : List ℕ) →
        Raising Sx (body_of Sx header h) at s ≡ Raising Sy (body_of Sy header h) at s
    unfolding body_of
    raising_same h at s = search (arith, request_raises, reply_same, locate_raises)

    body_same : (h : Noted) (at : ℕ) (s : List ℕ) →
        message_marks (read_body Sx header (body_of Sx header h) at s)
        ≡ message_marks (read_body Sy header (body_of Sy header h) at s)
    body_same h at s = body_marks Sx (body_of Sx header h) at s
        ∙ (raising_same h at s ∙ sym (body_marks Sy (body_of Sy header h) at s))

    padded_same : (h : Noted) (at : ℕ) (s : List ℕ) →
        message_marks (read_padding_and_body Sx header (body_of Sx header h) at s)
        ≡ message_marks (read_padding_and_body Sy header (body_of Sy header h) at s)
    unfolding read_padding_and_body message_marks
    padded_same h at s = search (arith, body_same)

    after_same : (h : Noted) (at : ℕ) (s : List ℕ) →
        message_marks (read_after_header Sx header h at s)
        ≡ message_marks (read_after_header Sy header h at s)
    unfolding read_after_header
    after_same h at s = search (arith, body_same, padded_same)

    -- the marks of a message, from the outcome of the header's reading
    abbrev Through : (S : Signatures) (outcome : Outcome) → List Mark
    Through S (Ended now at s) = HeaderMark now ∷ message_marks
        (read_after_header S header now at s)
    Through S (Open now at) = []
    Through S (Faulted now at why) = []

    through_shows : (S : Signatures) (r : Read) →
        message_marks (section_and_rest S header sections.Header nothing_noted r)
        ≡ Through S (outcome true nothing_noted r)
    unfolding section_then message_marks
    through_shows S (Done lines at s) = marks_front _ _
    through_shows S (Short lines at outer leaf) = refl
    through_shows S (Fault lines at why T) = refl

    outcome_same : (o : Outcome) → Through Sx o ≡ Through Sy o
    outcome_same (Ended now at s) = ap (λ (ms : List Mark). HeaderMark now ∷ ms)
        (after_same now at s)
    outcome_same (Open now at) = refl
    outcome_same (Faulted now at why) = refl

    through_same : (r q : Read) → HasSameOutcome true r q →
        message_marks (section_and_rest Sx header sections.Header nothing_noted r)
        ≡ message_marks (section_and_rest Sy header sections.Header nothing_noted q)
    through_same r q same = through_shows Sx r ∙ (ap (Through Sx) (same.shows nothing_noted)
        ∙ (outcome_same (outcome true nothing_noted q) ∙ sym (through_shows Sy q)))

    marks_same : (a b : Option Ty) → AreAlikeFound a b → (s : List ℕ) →
        message_marks (read_header_and_rest Sx header a 12 s) ≡ message_marks
        (read_header_and_rest Sy header b 12 s)
    unfolding read_header_and_rest signatures_of
    marks_same None None alike s = refl
    marks_same (Some A) (Some B) alike s = through_same
        (reading Alike [] A 12 s) (reading Alike [] B 12 s)
        (reading_same true Alike [] A B alike 12 s)
    marks_same a b alike s = absurd alike

pub marks_are : (C : Table) (answer : Answer) (phase : Phase) (header s : List ℕ) →
    marks phase header s ≡ message_marks (read_message (signatures_of C answer phase) header s)
unfolding marks read_message signatures_of
marks_are C answer phase header s = marks_same header C (λ id. None) answer phase _ _
    (headers_alike C.version (minor header) (kind header)) s

pub ends_alike : (C : Table) (answer : Answer) (phase : Phase) (number : ℕ)
    (header s more : List ℕ) →
    header_ends phase number header s more ≡ map (header_end_at number header)
    (drop (length (message_marks (read_message (signatures_of C answer phase) header s)))
    (message_marks (read_message (signatures_of C answer phase) header (s ++ more))))
unfolding header_ends
ends_alike C answer phase number header s more =
    rw (marks_are C answer phase header s, marks_are C answer phase header (s ++ more)) refl

-- ---- more octets

-- More octets add marks after those that were there.
goes_marks : (S : Signatures) (header t : List ℕ) (m : MessageReading) →
    (later : List Mark) × (message_marks (read_more S header m t) ≡ message_marks m ++ later)
unfolding read_one_more message_marks
goes_marks S header [] m = ([], sym (append-nil (message_marks m)))
goes_marks S header (b ∷ t) (ReadTo said at stage) =
    let step = message_step S header at stage b in
    let more = goes_marks S header t (with_front said step) in (
      message_marks step ++ more.0,
      more.1 ∙ (ap (λ ms. ms ++ more.0) (marks_front said step)
          ∙ append_assoc said.marks (message_marks step) more.0),
    )

pub marks_on : (phase : Phase) (header s more : List ℕ) →
    (later : List Mark) × (marks phase header (s ++ more) ≡ marks phase header s ++ later)
unfolding marks
marks_on phase header s more =
    let S = signatures_of builtin_table (λ id. None) phase in
    let all = goes_marks S header more (read_message S header s) in
    (all.0, ap message_marks (message_resumes S header s more) ∙ all.1)

pub ends_by : (phase : Phase) (number : ℕ) (header s more : List ℕ) (later : List Mark) →
    marks phase header (s ++ more) ≡ marks phase header s ++ later →
    header_ends phase number header s more ≡ map (header_end_at number header) later
unfolding header_ends
ends_by phase number header s more later e = search (arith, drop, drop-append_seam)

-- What ends in more octets are the marks that these octets add to the message.
pub ends_are : (C : Table) (answer : Answer) (phase : Phase) (number : ℕ) (header s more : List ℕ)
    (later : List Mark) → message_marks (read_message (signatures_of C answer phase) header (s
    ++ more))
    ≡ message_marks (read_message (signatures_of C answer phase) header s) ++ later →
    header_ends phase number header s more ≡ map (header_end_at number header) later
ends_are C answer phase number header s more later e =
    ends_by phase number header s more later (marks_are C answer phase header (s ++ more)
    ∙ (e ∙ ap (λ ms. ms ++ later) (sym (marks_are C answer phase header s))))

pub unmarked : (C : Table) (answer : Answer) (phase : Phase) (number : ℕ) (header s more : List ℕ) →
    message_marks (read_message (signatures_of C answer phase) header (s ++ more))
    ≡ message_marks (read_message (signatures_of C answer phase) header s) →
    header_ends phase number header s more ≡ []
unmarked C answer phase number header s more e = ends_are C answer phase number header s more []
    (e ∙ sym (append-nil _))

-- ---- one octet

-- whether the message is in its header
abbrev pub is_in_header : (stage : Stage) → Bool
is_in_header (In_typed section h outer leaf) = is_header section
is_in_header (In_padding b) = false
is_in_header (In_rest offset held) = false
is_in_header Over = false

-- A part after the header has no mark before its first octet, and it is in no header.
record IsPastHeader (reader : ℕ → List ℕ → MessageReading) : Type 0 where
  quiet : (n : ℕ) → message_marks (reader n []) ≡ []
  past : (at : ℕ) (s : List ℕ) → is_in_header (stage_of (reader at s)) ≡ false

rest_in_past : (full offset at : ℕ) (s : List ℕ) →
    is_in_header (stage_of (read_rest_in_parts full offset at s)) ≡ false
unfolding read_rest_in_parts stage_of
rest_in_past zero offset at s = refl
rest_in_past (suc full) offset at s =
    ap is_in_header (stage_front _ _) ∙ rest_in_past full (offset + 32) (at + 32) (drop 32 s)

rest_past : IsPastHeader read_rest
unfolding read_rest
rest_past = record {
  quiet = λ n. rest_unmarked n [];
  past = λ at s. rest_in_past _ 0 at s;
}

nothing_ended : (section : Section) → is_header section ≡ false →
    end_marks section nothing_noted ≡ []
nothing_ended sections.Header e = absurd (false≢true (sym e))
nothing_ended sections.Exception e = refl
nothing_ended sections.SystemException e = refl
nothing_ended sections.Body e = refl

-- there is no mark; or the mark of a header, if the message is in it; or the mark of a name
abbrev pub AtMostOneMark : (stage : Stage) (ms : List Mark) → Type 0
AtMostOneMark stage ms = (ms ≡ [])
    ⊎ (((n : Noted) × (ms ≡ HeaderMark n ∷ []) × (is_in_header stage ≡ true))
    ⊎ ((name : List ℕ) × (ms ≡ NameMark name ∷ [])))

name_one : (stage : Stage) (name : Option (List ℕ)) → AtMostOneMark stage (name_marks name)
name_one stage None = inl refl
name_one stage (Some name) = inr (inr (name, refl))

section_one : (section : Section) (h now : Noted) (outer : List OpenPart) (leaf : Leaf) →
    AtMostOneMark (In_typed section h outer leaf) (end_marks section now)
section_one sections.Header h now outer leaf = inr (inl (now, refl, refl))
section_one sections.Exception h now outer leaf =
    name_one (In_typed sections.Exception h outer leaf) now.name
section_one sections.SystemException h now outer leaf =
    name_one (In_typed sections.SystemException h outer leaf) now.name
section_one sections.Body h now outer leaf = inl refl

ended_one : (section : Section) (h : Noted) (outer : List OpenPart) (leaf : Leaf) (r : Read) →
    AtMostOneMark (In_typed section h outer leaf) (marks_after_reading section h r)
ended_one section h outer leaf (Done lines at s) = section_one section h _ outer leaf
ended_one section h outer leaf (Short lines at outer' leaf') = inl refl
ended_one section h outer leaf (Fault lines at why T) = inl refl

module _ (S : Signatures) (header : List ℕ) where
  module _ (section : Section) (other : is_header section ≡ false)
      (next : (h : Noted) → IsPastHeader (read_after_section S header section h)) where
    section_quiet : (n : ℕ) (r : Read) → IsEmptyResult n r →
        message_marks (section_and_rest S header section nothing_noted r) ≡ []
    unfolding section_then message_marks
    section_quiet n (Done lines at s) h =
        rw (h.0, h.2) (marks_front _ _
        ∙ rw (nothing_ended section other) ((next nothing_noted).quiet at))
    section_quiet n (Short lines at outer leaf) h = refl
    section_quiet n (Fault lines at why T) h = absurd h

    section_past : (r : Read) →
        is_in_header (stage_of (section_and_rest S header section nothing_noted r)) ≡ false
    unfolding section_then stage_of
    section_past (Done lines at s) = ap is_in_header (stage_front _ _) ∙ (next _).past at s
    section_past (Short lines at outer leaf) = other
    section_past (Fault lines at why T) = refl

  reads_past : (section : Section) (T : Ty) → is_header section ≡ false →
      ((h : Noted) → IsPastHeader (read_after_section S header section h)) →
      IsPastHeader (λ at s. section_and_rest S header section nothing_noted
      (reading (coding_of S header) [] T at s))
  reads_past section T other next = record {
    quiet = λ n. section_quiet section other next n _
        (reading_quiet (coding_of S header) [] T n);
    past = λ at s. section_past section other next _;
  }

  padded_past : (t : BodyType) → IsPastHeader (read_body S header t) →
      IsPastHeader (read_padding_and_body S header t)
  unfolding read_padding_and_body message_marks stage_of
  padded_past t next = record {
    quiet = λ n. search (arith, cases_lt, drop, lt-ltb, add-zero);
    past = λ at s. search (arith);
  }

  body_past : (t : BodyType) → IsPastHeader (read_body S header t)
  body_past t = body_has S header IsPastHeader rest_past reads_past padded_past t

  after_past : (section : Section) (h : Noted) → IsPastHeader
      (read_after_section S header section h)
  after_past section h = after_has S header IsPastHeader rest_past reads_past padded_past section h

  -- the marks of a section, if no octet is left after it
  pub marks_ended : (section : Section) (h : Noted) (r : Read) → ReadsAll r →
      message_marks (section_and_rest S header section h r) ≡ marks_after_reading section h r
  unfolding section_then message_marks
  marks_ended section h (Done lines at s) all =
      let now = note_lines (is_header_root (root_of section)) h lines in
      rw all (marks_front _ _ ∙ (ap (λ (ms : List Mark). end_marks section now ++ ms)
      ((after_past section now).quiet at) ∙ append-nil (end_marks section now)))
  marks_ended section h (Short lines at outer leaf) all = refl
  marks_ended section h (Fault lines at why T) all = refl

  -- ---- a step

  pub rest_step_marks : (offset : ℕ) (held : List ℕ) (at : ℕ) →
      message_marks (rest_step offset held at) ≡ []
  unfolding rest_step message_marks
  rest_step_marks offset held at = search (arith)

  pub rest_goes_unmarked : (t : List ℕ) (said : Said) (at offset : ℕ) (held : List ℕ) →
      message_marks (read_more S header (ReadTo said at (In_rest offset held)) t) ≡ said.marks
  unfolding read_one_more message_step rest_step with_front message_marks
  rest_goes_unmarked [] said at offset held = refl
  rest_goes_unmarked (b ∷ t) said at offset held =
      go (length (held ++ b ∷ []) == 32) (λ said. rest_goes_unmarked t said (at + 1))
    where
      go : (full : Bool) → ((said' : Said) (offset' : ℕ) (held' : List ℕ) →
          message_marks (read_more S header (ReadTo said' (at + 1) (In_rest offset' held')) t)
          ≡ said'.marks) → message_marks (read_more S header (with_front said
          (if full then
          ReadTo (only_lines (line_at (at + 1) (RestLine offset (held ++ b ∷ [])) ∷ []))
          (at + 1) (In_rest (offset + 32) [])
          else ReadTo nothing_said (at + 1) (In_rest offset (held ++ b ∷ [])))) t) ≡ said.marks
      go true more = more _ (offset + 32) [] ∙ append-nil said.marks
      go false more = more _ offset (held ++ b ∷ []) ∙ append-nil said.marks

  pub padding_step_marks : (at : ℕ) (t : BodyType) (b : ℕ) →
      message_marks (message_step S header at (In_padding t) b) ≡ []
  unfolding message_step message_marks
  padding_step_marks at t b = go (nat_lt 1 (padding at 8))
    where
      go : (test : Bool) → message_marks
          (if test then ReadTo nothing_said (at + 1) (In_padding t)
          else read_body S header t (at + 1) [])
          ≡ []
      go true = refl
      go false = (body_past t).quiet (at + 1)

  step_one : (at : ℕ) (stage : Stage) (b : ℕ) →
      AtMostOneMark stage (message_marks (message_step S header at stage b))
  unfolding message_step message_marks
  step_one at (In_typed section h outer leaf) b =
      let r = root_step (coding_of S header) [] outer leaf at b in
      subst (AtMostOneMark (In_typed section h outer leaf))
      (sym (marks_ended section h r (now_all (at + 1) r
      (root_now (coding_of S header) [] outer leaf at b))))
      (ended_one section h outer leaf r)
  step_one at (In_padding t) b = inl (padding_step_marks at t b)
  step_one at (In_rest offset held) b = inl (rest_step_marks offset (held ++ b ∷ []) (at + 1))
  step_one at Over b = inl refl

  -- the marks that one octet adds
  pub marks_of_octet : (m : MessageReading) (b : ℕ) → (ms : List Mark)
      × (message_marks (read_one_more S header m b) ≡ message_marks m ++ ms) ×
      AtMostOneMark (stage_of m) ms
  unfolding read_one_more message_marks stage_of
  marks_of_octet (ReadTo said at stage) b =
      (message_marks (message_step S header at stage b), marks_front said _, step_one at stage b)

  -- If a message is in its header, it has no mark.
  in_header_unmarked : (found : Option Ty) (s : List ℕ) →
      is_in_header (stage_of (read_header_and_rest S header found 12 s)) ≡ true →
      message_marks (read_header_and_rest S header found 12 s) ≡ []
  unfolding read_header_and_rest section_then stage_of message_marks
  in_header_unmarked None s e = rest_unmarked 12 s
  in_header_unmarked (Some T) s e = go (reading (coding_of S header) [] T 12 s) e
    where
      go : (r : Read) →
          is_in_header (stage_of (section_and_rest S header sections.Header nothing_noted r))
          ≡ true →
          message_marks (section_and_rest S header sections.Header nothing_noted r) ≡ []
      go (Done lines at z) e =
          let none = ap is_in_header (stage_front _ _) ∙ (after_past sections.Header _).past at z in
          absurd (false≢true (sym none ∙ e))
      go (Short lines at outer leaf) e = refl
      go (Fault lines at why T) e = refl

  pub head_unmarked : (s : List ℕ) → is_in_header (stage_of (read_message S header s)) ≡ true →
      message_marks (read_message S header s) ≡ []
  unfolding read_message
  head_unmarked s e = in_header_unmarked _ s e
