-- Reading a message with one more octet is one step from the stage of the message.
use Rattle.std.proofs.Common.{◌≡◌, ℕ, zero, suc, ◌+◌, ◌-◌, ◌/◌, ◌<◌, ◌≤◌, Bool, true, false, List, [], ◌∷◌, ◌++◌, length, take, drop, Option, Some, None, refl, sym, ap, ◌∙◌, append_assoc, append-nil, arith, length-drop, le_of_eq, add-zero, add_assoc, ◌⊎◌, inl, inr}
use Rattle.std.specs.Prelude.{if◌then◌else◌}
use Rattle.std.proofs.Math.Seq.{take-length, drop-length}
use Rattle.std.proofs.lemmas.List.{take-append-le, drop-append-le, drop_all}
use Rattle.std.proofs.lemmas.Bool.{cases_lt, lt-ltb, le-ltb, eq-eqb, ne_eqb}
use Rattle.giop_cdr.specs.Alignment.{padding}
use Rattle.giop_print.specs.declared.path.Root.{Root}
use Rattle.giop_sig.specs.Types.{Ty}
use Rattle.giop_decode.specs.ReadResult
use Rattle.giop_decode.specs.ReadResult.{ValueAt, Read, Done, Short, Fault}
use Rattle.giop_decode.specs.Reading.{reading}
use Rattle.giop_decode.specs.ReadingSteps as decoder
use Rattle.giop_decode.specs.Noted.{Noted, nothing_noted, note_line, note_lines, is_header_root}
use Rattle.giop_decode.proofs.ReadingLaws.{noted-append, length_one_more, reading_goes}
use Rattle.giop_message.specs.declared.part.Section.{Section}
use Rattle.giop_message.specs.declared.part.Section.TheVariants as sections
use Rattle.giop_message.specs.Headers.{minor, kind}
use Rattle.giop_message.specs.Signatures.{Signatures}
use Rattle.giop_message.specs.Messages.{coding_of, CallSource, Said, only_lines, nothing_said, said_both, ValueLine, RestLine, line_at, call_lines_after, section_lines, BodyType, Untyped, Typed, UserException, SystemException, Stage, In_padding, In_rest, Over, MessageReading, ReadTo, with_front, section_then, read_rest_in_parts, read_rest, read_typed, read_typed_if_some, read_after_exception, read_body, body_of, has_aligned_body, read_padding_and_body, read_after_header, read_header_and_rest, read_message, root_of, section_call_source, read_after_section, section_and_rest}
use Rattle.giop_message.specs.MessageState.{is_header}
use Rattle.giop_message.specs.StageSteps.{rest_step, message_step, read_one_more, read_more}

-- a reader for which one more octet is one step
abbrev pub ReadsOctetByOctet : (S : Signatures) (header : List ℕ) (reader : ℕ → List ℕ →
    MessageReading) → Type 0
ReadsOctetByOctet S header reader = (at : ℕ) (s : List ℕ) (b : ℕ) →
    reader at (s ++ b ∷ []) ≡ read_one_more S header (reader at s) b

pub front_twice : (front mid : Said) (m : MessageReading) →
    with_front front (with_front mid m) ≡ with_front (said_both front mid) m
unfolding with_front
front_twice front mid (ReadTo said at stage) = rw (
  append_assoc front.lines mid.lines said.lines,
  append_assoc front.marks mid.marks said.marks,
) refl

pub front_none : (m : MessageReading) → with_front nothing_said m ≡ m
unfolding with_front
front_none (ReadTo said at stage) = refl

pub none_front : (front : Said) (at : ℕ) (stage : Stage) →
    with_front front (ReadTo nothing_said at stage) ≡ ReadTo front at stage
unfolding with_front
none_front front at stage = rw (append-nil front.lines, append-nil front.marks) refl

pub front_advance : (S : Signatures) (header : List ℕ) (front : Said) (m : MessageReading) (b : ℕ) →
    with_front front (read_one_more S header m b) ≡ read_one_more S header (with_front front m) b
unfolding with_front read_one_more
front_advance S header front (ReadTo said at stage) b = search (arith, front_twice)

pub stays : (S : Signatures) (header : List ℕ) (said : Said) (at b : ℕ) →
    ReadTo said at Over ≡ read_one_more S header (ReadTo said at Over) b
unfolding read_one_more message_step
stays S header said at b = search (arith, none_front)

-- ---- lines in two parts

pub section_lines_append : (root : Root) (is : CallSource) (h : Noted) (xs ys : List ValueAt) →
    section_lines root is h (xs ++ ys) ≡ section_lines root is h xs
    ++ section_lines root is (note_lines (is_header_root root) h xs) ys
unfolding section_lines
section_lines_append root is h [] ys = refl
section_lines_append root is h (x ∷ xs) ys =
    let now = note_line (is_header_root root) h x in
    let first = line_at x.at (ValueLine root x.path x.value) ∷ call_lines_after is x now in
    ap (λ ls. first ++ ls) (section_lines_append root is now xs ys)
    ∙ sym (append_assoc first (section_lines root is now xs)
    (section_lines root is (note_lines (is_header_root root) now xs) ys))

module _ (section : Section) (is : CallSource) (next : Noted → ℕ → List ℕ → MessageReading) where
  abbrev R : Root
  R = root_of section

  pub passes_front : (h : Noted) (front : List ValueAt) (r : Read) →
      section_then section is next h (ReadResult.with_front front r)
      ≡ with_front (only_lines (section_lines R is h front))
      (section_then section is next (note_lines (is_header_root R) h front) r)
  unfolding section_then with_front
  passes_front h front (Done lines at s) = search (
    arith,
    section_lines_append,
    noted-append,
    front_twice,
  )
  passes_front h front (Short lines at outer leaf) = search (
    arith,
    section_lines_append,
    noted-append,
  )
  passes_front h front (Fault lines at why T) = search (arith, section_lines_append, append_assoc)

-- a section goes on as its reading does, if what follows the section goes on
pub through_goes : (S : Signatures) (header : List ℕ) (section : Section) →
    ((h : Noted) → ReadsOctetByOctet S header (read_after_section S header section h)) →
    (h : Noted) (r : Read) (b : ℕ) →
    section_and_rest S header section h (decoder.root_after_octet (coding_of S header) [] r b)
    ≡ read_one_more S header (section_and_rest S header section h r) b
unfolding section_then with_front read_one_more message_step
through_goes S header section goes h (Done lines at s) b = search (arith, front_advance)
through_goes S header section goes h (Short lines at outer leaf) b =
    passes_front section (section_call_source S header section)
    (read_after_section S header section) h lines
    (decoder.root_step (coding_of S header) [] outer leaf at b)
through_goes S header section goes h (Fault lines at why T) b = search (arith, stays)

-- ---- the rest

pub rest_step_full : (offset : ℕ) (held : List ℕ) (at : ℕ) → length held ≡ 32 →
    rest_step offset held at ≡ ReadTo (only_lines (line_at at (RestLine offset held) ∷ [])) at
    (In_rest (offset + 32) [])
unfolding rest_step
rest_step_full offset held at e = rw eq-eqb refl

pub rest_step_more : (offset : ℕ) (held : List ℕ) (at : ℕ) → length held < 32 →
    rest_step offset held at ≡ ReadTo nothing_said at (In_rest offset held)
unfolding rest_step
rest_step_more offset held at h = search (arith, ne_eqb)

rest_in_goes : (S : Signatures) (header : List ℕ) (full more offset at : ℕ) (s : List ℕ) (b : ℕ) →
    full ≡ length s / 32 → more ≡ (length s + 1) / 32 →
    read_rest_in_parts more offset at (s ++ b ∷ []) ≡ read_one_more S header
    (read_rest_in_parts full offset at s) b
unfolding read_rest_in_parts read_one_more message_step with_front
rest_in_goes S header zero zero offset at s b e f = search (
  arith,
  length_one_more,
  rest_step_more,
  front_none,
  add_assoc,
)
rest_in_goes S header zero (suc zero) offset at s b e f =
    let l : length (s ++ b ∷ []) ≡ 32 = omega (arith, length_one_more s b) in
    let n : at + 32 ≡ (at + length s) + 1 = omega (arith, length_one_more s b) in
    rw (rest_step_full offset (s ++ b ∷ []) ((at + length s) + 1) l, ← l, take-length, drop-length)
    (rw (l, n, add-zero) refl)
rest_in_goes S header zero (suc (suc more)) offset at s b e f = absurd (omega arith)
rest_in_goes S header (suc full) zero offset at s b e f = absurd (omega arith)
rest_in_goes S header (suc full) (suc more) offset at s b e f =
    let l : 32 ≤ length s = omega arith in
    let front = only_lines (line_at (at + 32) (RestLine offset (take 32 s)) ∷ []) in
    rw (take-append-le 32 s (b ∷ []) l, drop-append-le 32 s (b ∷ []) l)
    (ap (with_front front)
    (rest_in_goes S header full more (offset + 32) (at + 32) (drop 32 s) b
    (omega (arith, length-drop 32 s)) (omega (arith, length-drop 32 s)))
    ∙ front_advance S header front (read_rest_in_parts full (offset + 32) (at + 32) (drop 32 s)) b)

pub rest_goes : (S : Signatures) (header : List ℕ) → ReadsOctetByOctet S header read_rest
unfolding read_rest
rest_goes S header at s b = search (arith, rest_in_goes, length_one_more)

-- ---- the padding

pub padded_waits : (S : Signatures) (header : List ℕ) (t : BodyType) (at : ℕ) (s : List ℕ) →
    length s < padding at 8 →
    read_padding_and_body S header t at s ≡ ReadTo nothing_said (at + length s) (In_padding t)
unfolding read_padding_and_body
padded_waits S header t at s h = rw lt-ltb refl

pub padded_begins : (S : Signatures) (header : List ℕ) (t : BodyType) (at : ℕ) (s : List ℕ) →
    padding at 8 ≤ length s → read_padding_and_body S header t at s
    ≡ read_body S header t (at + padding at 8) (drop (padding at 8) s)
unfolding read_padding_and_body
padded_begins S header t at s h = rw le-ltb refl

-- the padding from a later offset
pad_less : (at k : ℕ) → k < padding at 8 → padding (at + k) 8 ≡ padding at 8 - k
unfolding padding
pad_less at k h = omega arith

module _ (S : Signatures) (header : List ℕ) (t : BodyType) (at b : ℕ) (s : List ℕ) where
  padding_waits : 1 < padding (at + length s) 8 →
      ReadTo nothing_said (at + length (s ++ b ∷ [])) (In_padding t)
      ≡ read_one_more S header (ReadTo nothing_said (at + length s) (In_padding t)) b
  unfolding read_one_more message_step
  padding_waits m = search (arith, lt-ltb, front_none, length_one_more, add_assoc)

  padding_begins : padding at 8 ≡ length (s ++ b ∷ []) → padding (at + length s) 8 ≤ 1 →
      read_body S header t (at + padding at 8) (drop (padding at 8) (s ++ b ∷ []))
      ≡ read_one_more S header (ReadTo nothing_said (at + length s) (In_padding t)) b
  unfolding read_one_more message_step
  padding_begins l m = search (arith, length_one_more, le-ltb, front_none, drop_all, le_of_eq)

padded_goes : (S : Signatures) (header : List ℕ) (t : BodyType) →
    ReadsOctetByOctet S header (read_body S header t) →
    ReadsOctetByOctet S header (read_padding_and_body S header t)
padded_goes S header t goes at s b = go (cases_lt (length s) (padding at 8))
    (cases_lt (length s + 1) (padding at 8))
  where
    go : (length s < padding at 8) ⊎ (padding at 8 ≤ length s) →
        (length s + 1 < padding at 8) ⊎ (padding at 8 ≤ length s + 1) →
        read_padding_and_body S header t at (s ++ b ∷ []) ≡ read_one_more S header
        (read_padding_and_body S header t at s) b
    go (inl h) (inl k) = search (arith, length_one_more, pad_less, padded_waits, padding_waits)
    go (inl h) (inr k) = search (
      arith,
      length_one_more,
      pad_less,
      padded_begins,
      le_of_eq,
      padded_waits,
      padding_begins,
    )
    go (inr h) _ = search (arith, length_one_more, padded_begins, drop-append-le, drop)

-- ---- a message

-- P holds of each part after a header and of what follows it, if P holds of the rest; of a section,
-- if it holds of what follows the section; and of a body after padding, if it holds of the body.
module _ (S : Signatures) (header : List ℕ) (P : (ℕ → List ℕ → MessageReading) →
    Type 0) (rests : P read_rest)
    (reads : (section : Section) (T : Ty) → is_header section ≡ false →
    ((h : Noted) → P (read_after_section S header section h)) →
    P (λ at s. section_and_rest S header section nothing_noted
    (reading (coding_of S header) [] T at s)))
    (pads : (t : BodyType) → P (read_body S header t) → P (read_padding_and_body S header t)) where
  typed_has : (T : Ty) → P (read_typed (coding_of S header) T)
  unfolding read_typed
  typed_has T = reads sections.Body T refl (λ h. rests)

  option_has : (found : Option Ty) → P (read_typed_if_some (coding_of S header) found)
  unfolding read_typed_if_some
  option_has None = rests
  option_has (Some T) = typed_has T

  exception_has : (h : Noted) → P (read_after_exception S header h)
  unfolding read_after_exception
  exception_has h = search (arith, option_has)

  pub body_has : (t : BodyType) → P (read_body S header t)
  unfolding read_body
  body_has Untyped = rests
  body_has (Typed T) = typed_has T
  body_has UserException = reads sections.Exception S.exception_id refl exception_has
  body_has SystemException = reads sections.SystemException S.system_exception refl
      (λ h. rests)

  header_has : (h : Noted) → P (read_after_header S header h)
  unfolding read_after_header
  header_has h = go (has_aligned_body header)
    where
      go : (aligned : Bool) → P (λ at s. if aligned then read_padding_and_body S header
          (body_of S header h) at s
          else read_body S header (body_of S header h) at s)
      go true = pads (body_of S header h) (body_has (body_of S header h))
      go false = body_has (body_of S header h)

  pub after_has : (section : Section) (h : Noted) → P (read_after_section S header section h)
  after_has sections.Header h = header_has h
  after_has sections.Exception h = exception_has h
  after_has sections.SystemException h = rests
  after_has sections.Body h = rests

  -- P holds of a message, if it also holds of a header when it holds of what follows the header
  module _ (heads : (T : Ty) → ((h : Noted) → P (read_after_section S header sections.Header h)) →
      P (λ at s. section_and_rest S header sections.Header nothing_noted
      (reading (coding_of S header) [] T at s))) where
    message_by : (found : Option Ty) → P (read_header_and_rest S header found)
    unfolding read_header_and_rest
    message_by None = rests
    message_by (Some T) = heads T header_has

    pub message_has : P (read_header_and_rest S header (S.header (minor header) (kind header)))
    message_has = search (arith, message_by)

reads_go : (S : Signatures) (header : List ℕ) (section : Section) (T : Ty) →
    ((h : Noted) → ReadsOctetByOctet S header (read_after_section S header section h)) →
    ReadsOctetByOctet S header (λ at s. section_and_rest S header section nothing_noted
    (reading (coding_of S header) [] T at s))
reads_go S header section T goes at s b = search (arith, reading_goes, through_goes)

pub after_goes : (S : Signatures) (header : List ℕ) (section : Section) (h : Noted) →
    ReadsOctetByOctet S header (read_after_section S header section h)
after_goes S header = after_has S header (ReadsOctetByOctet S header) (rest_goes S header)
    (λ section T past. reads_go S header section T) (padded_goes S header)

-- One more octet is one step.
pub message_goes : (S : Signatures) (header s : List ℕ) (b : ℕ) →
    read_message S header (s ++ b ∷ []) ≡ read_one_more S header (read_message S header s) b
unfolding read_message
message_goes S header s b =
    message_has S header (ReadsOctetByOctet S header) (rest_goes S header)
    (λ section T past. reads_go S header section T) (padded_goes S header)
    (reads_go S header sections.Header) 12 s b

-- more octets are as many steps
pub message_resumes : (S : Signatures) (header s t : List ℕ) →
    read_message S header (s ++ t) ≡ read_more S header (read_message S header s) t
message_resumes S header s [] = search (arith, append-nil)
message_resumes S header s (b ∷ t) = search (
  arith,
  append_assoc,
  message_goes,
  message_resumes S
      header (s ++ b ∷ []) t,
)
