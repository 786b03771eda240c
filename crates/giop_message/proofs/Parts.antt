-- One octet of the section in which a message is: the message after the octet, its lines and its
-- text.
use Rattle.std.proofs.Common.{◌≡◌, ℕ, ◌+◌, Bool, List, [], ◌∷◌, ◌++◌, length, refl, sym, ap, subst, ◌∙◌, append_assoc, append-nil, arith, length-append}
use Rattle.std.proofs.Math.Seq.{drop-append_seam}
use Rattle.giop_print.specs.declared.path.Root.{Root}
use Rattle.giop_decode.specs.declared.progress.Progress.TheVariants as progress
use Rattle.giop_decode.specs.ReadResult
use Rattle.giop_decode.specs.ReadResult.{Coding, ValueAt, OpenPart, Leaf, Read, Done, Short, Fault, lines_of}
use Rattle.giop_decode.specs.Reading.{reading as whole_of}
use Rattle.giop_decode.specs.ReadingSteps as decoder
use Rattle.giop_decode.specs.ReadingSteps.{IsOctetResult}
use Rattle.giop_decode.specs.Noted.{Noted, nothing_noted, note_lines, is_header_root, names_operation}
use Rattle.giop_decode.specs.Runs.{IsAnswerToOctet}
use Rattle.giop_decode.specs.DecoderState as decoders
use Rattle.giop_decode.specs.Spelling.{lines_text}
use Rattle.giop_decode.proofs.ReadingLaws.{length_one_more, lines_front, reading_goes, root_now}
use Rattle.giop_sig.specs.Types.{Ty}
use Rattle.giop_message.specs.declared.part.Section.{Section}
use Rattle.giop_message.specs.Signatures.{Signatures}
use Rattle.giop_message.specs.Messages.{coding_of, CallSource, Said, section_lines, MessageReading, with_front, section_then, read_message, message_lines, root_of, section_call_source, section_and_rest}
use Rattle.giop_message.specs.MessageState.{message_lines_text, more_lines, more_lines_text, IsFirstIfHeader}
use Rattle.giop_message.specs.MessageSteps.{fault_text}
use Rattle.giop_message.proofs.Going.{front_twice, front_advance, passes_front, through_goes, after_goes, message_goes}
use Rattle.giop_message.proofs.Causal.{after_silent}
use Rattle.giop_message.proofs.LastParts.{NoCallIfFaulted, root_none}
use Rattle.giop_message.proofs.Octets.{told_front, told_silent, due_is, fault_lines_of, first_call, step_text}

-- A section that a message has begun: the version of the message's signature file, the message's
-- number and header, the section and its type, and the lines and octets before it.
pub record BegunSection : Type 0 where
  pub S : Signatures
  pub version : ℕ
  pub number : ℕ
  pub header : List ℕ
  pub section : Section
  pub T : Ty
  pub before : Said
  pub front : List ℕ

module _ (w : BegunSection) where
  open w use {S, version, header, section, T, before, front}

  -- the offset at which the section begins
  abbrev pub start : ℕ
  start = 12 + length front

  -- the reading of the section's octets
  abbrev pub reading : (octets : List ℕ) → Read
  reading octets = whole_of (coding_of S header) [] T start octets

  -- whether the next octet ends an operation
  abbrev pub is_named : (octets : List ℕ) (b : ℕ) → Bool
  is_named octets b = names_operation (is_header_root (root_of section))
      (decoders.added_lines (coding_of S header) T start octets b)

  -- the message, from this reading of the section
  abbrev pub message_by_reading : (reading : Read) → MessageReading
  message_by_reading r = with_front before (section_and_rest S header section nothing_noted r)

  -- A message that is in the section after these octets of it: what the reading of the octets has
  -- begun and not ended.
  pub record IsInsideSection (s octets : List ℕ) : Type 0 where
    pub since : s ≡ front ++ octets
    pub is : read_message S header s ≡ message_by_reading (reading octets)
    pub first : IsFirstIfHeader version header section T before front
    pub lines : List ValueAt
    pub outer : List OpenPart
    pub leaf : Leaf
    pub was_short : reading octets ≡ Short lines (start + length octets) outer leaf

-- ---- a section, from the reading of its octets

-- if a reading is done, it has read all octets
abbrev pub ReadsAll : (reading : Read) → Type 0
ReadsAll (Done lines at rest) = rest ≡ []
ReadsAll r = Unit {0}

pub now_all : (n : ℕ) (st : Read) → IsOctetResult n st → ReadsAll st
now_all n (Done lines at rest) now = now.2
now_all n r now = tt

-- the lines of a section are all lines of the message from there on, since what follows it has none
-- before its next octet
pub passed_section_lines : (S : Signatures) (header : List ℕ) (section : Section) (h : Noted)
    (r : Read) →
    ReadsAll r → message_lines (section_and_rest S header section h r)
    ≡ section_lines (root_of section) (section_call_source S header section) h (lines_of r)
    ++ fault_lines_of r
unfolding section_then message_lines
passed_section_lines S header section h (Done lines at rest) all = search (
  arith,
  told_front,
  told_silent,
  after_silent,
)
passed_section_lines S header section h (Short lines at outer leaf) all = search (arith, append-nil)
passed_section_lines S header section h (Fault lines at why T) all = refl

short_told : (S : Signatures) (header : List ℕ) (section : Section) (before : Said)
    (lines : List ValueAt) (at : ℕ) (outer : List OpenPart) (leaf : Leaf) →
    message_lines (with_front before (section_and_rest S header section nothing_noted
    (Short lines at outer leaf)))
    ≡ before.lines ++ section_lines (root_of section) (section_call_source S header section)
    nothing_noted lines
unfolding section_then with_front message_lines
short_told S header section before lines at outer leaf = refl

fault_front : (number place : ℕ) (front : List ValueAt) (r : Read) →
    fault_text number place (ReadResult.with_front front r) ≡ fault_text number place r
fault_front number place front (Done lines at rest) = refl
fault_front number place front r = refl

-- if a reading is done, it is at this offset
abbrev pub IsDoneAt : (n : ℕ) (reading : Read) → Type 0
IsDoneAt n (Done lines at rest) = at ≡ n
IsDoneAt n r = Unit {0}

offset_is : (n : ℕ) (r st : Read) (lines : List ValueAt) → r ≡ ReadResult.with_front lines st →
    IsOctetResult n st →
    IsDoneAt n r
offset_is n r (Done ls at rest) lines e now = search (arith)
offset_is n r q lines e now = subst (IsDoneAt n) (sym e) tt

-- what a reading that goes on has begun and not ended at this offset
short_by : (n end : ℕ) (named : Bool) (r st : Read) (lines : List ValueAt) →
    r ≡ ReadResult.with_front lines st → IsOctetResult n st →
    decoders.IsAnswer end named progress.More r →
    (ls : List ValueAt) × (outer : List OpenPart) × (leaf : Leaf) × (r ≡ Short ls n outer leaf)
short_by n end named r (Short ls at outer leaf) lines e now answer = search (arith)
short_by n end named r _ lines e now answer = search (arith)

-- ---- an octet of the section

pub goes_one : (w : BegunSection) (s octets : List ℕ) →
    read_message w.S w.header s ≡ message_by_reading w (reading w octets) →
    (b : ℕ) → read_message w.S w.header (s ++ b ∷ []) ≡ message_by_reading w (reading w (octets ++ b
    ∷ []))
goes_one w s octets is b = search (
  arith,
  message_goes,
  front_advance,
  through_goes,
  after_goes,
  reading_goes,
)

module _ (w : BegunSection) (s octets : List ℕ) (i : IsInsideSection w s octets) (b : ℕ) where
  open w use {S, number, header, section, T, before, front}

  abbrev R : Root
  R = root_of section

  abbrev Is : CallSource
  Is = section_call_source S header section

  abbrev coding : Coding
  coding = coding_of S header

  -- the offset of the section's next octet
  abbrev Here : ℕ
  Here = start w + length octets

  abbrev pub Next : Read
  Next = reading w (octets ++ b ∷ [])

  abbrev pub Added : Read
  Added = decoder.root_step coding [] i.outer i.leaf Here b

  abbrev pub noted_before : Noted
  noted_before = note_lines (is_header_root R) nothing_noted i.lines

  pub next_is : Next ≡ ReadResult.with_front i.lines Added
  next_is = search (arith, reading_goes)

  pub added_now : IsOctetResult (Here + 1) Added
  added_now = search (arith, root_now)

  pub added_none : NoCallIfFaulted Is.is_request Added
  added_none = search (arith, root_none)

  pub lines_due : decoders.added_lines (coding_of S header) T (start w) octets b ≡ lines_of Added
  lines_due = search (arith, next_is, lines_front, drop-append_seam)

  pub goes_more : read_message S header (s ++ b ∷ []) ≡ message_by_reading w Next
  goes_more = goes_one w s octets i.is b

  due_here : more_lines S header s (b ∷ []) ≡ section_lines R Is noted_before (lines_of Added)
      ++ fault_lines_of Added
  due_here = search (
    arith,
    due_is,
    goes_more,
    next_is,
    passes_front,
    front_twice,
    short_told,
    passed_section_lines,
    now_all,
    added_now,
  )

  here_is : Here ≡ 12 + length s
  here_is = search (arith, length-append)

  -- the text of the octet: its line or its fault, and its call
  pub text_here : (place : ℕ) → more_lines_text S number place header s (b ∷ []) ≡
      (lines_text number R (decoders.added_lines (coding_of S header) T (start w) octets b)
      ++ fault_text number (place + 1) Next)
      ++ message_lines_text number place (12 + length s)
      (first_call R Is noted_before (lines_of Added))
  unfolding more_lines_text
  text_here place = search (
    arith,
    here_is,
    added_now,
    due_here,
    step_text,
    added_none,
    lines_due,
    next_is,
    fault_front,
  )

  -- the section goes on after the octet
  pub inside_on : IsAnswerToOctet (coding_of S header) T (start w) R octets b progress.More →
      IsInsideSection w (s ++ b ∷ []) (octets ++ b ∷ [])
  inside_on answer =
      let g = short_by (Here + 1) (start w + length (octets ++ b ∷ [])) (is_named w octets b) Next
      Added i.lines next_is added_now answer in
      let n : Here + 1 ≡ start w + length (octets ++ b ∷ []) =
      omega (arith, length_one_more octets b) in
      record {
        since = ap (λ xs. xs ++ b ∷ []) i.since ∙ append_assoc front octets (b ∷ []);
        is = goes_more;
        first = i.first;
        lines = g.0;
        outer = g.1;
        leaf = g.2;
        was_short = g.3 ∙ ap (λ k. Short g.0 k g.1 g.2) n;
      }

  -- the section ends with the octet
  pub ends_here : IsDoneAt (12 + length (s ++ b ∷ [])) Next
  ends_here = search (arith, here_is, length_one_more, offset_is, next_is, added_now)
