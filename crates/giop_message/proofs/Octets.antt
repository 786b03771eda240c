-- The lines of one octet of a section, and their text.
use Rattle.std.proofs.Common.{◌≡◌, ℕ, ◌+◌, false, List, [], ◌∷◌, ◌++◌, refl, sym, ap, ◌∙◌, append_assoc, append-nil, arith}
use Rattle.std.specs.List.{AllByRecursion as Each}
use Rattle.std.proofs.Math.Seq.{drop-append_seam}
use Rattle.std.proofs.lemmas.List.Concat.{flat_map-append}
use Rattle.giop_print.specs.declared.path.Root.{Root}
use Rattle.giop_decode.specs.ReadResult.{ValueAt, Read, Done, Short, Fault, lines_of}
use Rattle.giop_decode.specs.ReadingSteps.{IsOctetResult, AtMostOneAt}
use Rattle.giop_decode.specs.Noted.{Noted, note_line, ends_operation, is_header_root}
use Rattle.giop_decode.specs.Spelling.{line_text, lines_text}
use Rattle.giop_message.specs.Signatures.{Signatures}
use Rattle.giop_message.specs.Messages.{CallSource, Said, ValueLine, FaultLine, LineAt, line_at, call_lines_after, section_lines, MessageReading, ReadTo, with_front, read_message, message_lines, stage_of}
use Rattle.giop_message.specs.ReaderOfTable.{line_class_of, text_of}
use Rattle.giop_message.specs.MessageState.{message_line_text, message_lines_text, more_lines}
use Rattle.giop_message.specs.MessageSteps.{fault_text}
use Rattle.giop_message.proofs.Causal.{HasNoLinesAt}
use Rattle.giop_message.proofs.LastParts.{NoCallIfFaulted}
use Rattle.giop_message.proofs.StepLines.{one_of}
use Rattle.giop_message.proofs.Spelling.{said_is_line}

pub told_front : (front : Said) (m : MessageReading) →
    message_lines (with_front front m) ≡ front.lines ++ message_lines m
unfolding message_lines with_front
told_front front (ReadTo said at stage) = refl

pub stage_front : (front : Said) (m : MessageReading) → stage_of (with_front front m) ≡ stage_of m
unfolding stage_of with_front
stage_front front (ReadTo said at stage) = refl

pub told_silent : (n : ℕ) (m : MessageReading) → HasNoLinesAt n m → message_lines m ≡ []
unfolding message_lines
told_silent n (ReadTo said at stage) h = h.0

-- the lines of more octets are those after the lines so far
pub due_is : (S : Signatures) (header s more : List ℕ) (before : Said) (m n : MessageReading) →
    read_message S header s ≡ m →
    read_message S header (s ++ more) ≡ with_front before n → message_lines m ≡ before.lines →
    more_lines S header s more ≡ message_lines n
unfolding more_lines
due_is S header s more before m n is now same = search (arith, told_front, drop-append_seam)

-- the line of a fault, which comes after the others
abbrev pub fault_lines_of : (reading : Read) → List LineAt
fault_lines_of (Fault lines at why T) = line_at at (FaultLine why) ∷ []
fault_lines_of _ = []

-- ---- the text

text_both : (number place offset : ℕ) (xs ys : List LineAt) →
    message_lines_text number place offset (xs ++ ys)
    ≡ message_lines_text number place offset xs ++ message_lines_text number place offset ys
unfolding message_lines_text
text_both number place offset xs ys = search (arith, flat_map-append)

-- the call line of the first of these lines
abbrev pub first_call : (root : Root) (is : CallSource) (noted : Noted) (lines : List ValueAt) →
    List LineAt
first_call root is h [] = []
first_call root is h (l ∷ ls) = call_lines_after is l (note_line (is_header_root root) h l)

numbered_lines : (number place offset at : ℕ) (root : Root) (l : ValueAt) →
    message_lines_text number place offset (line_at at (ValueLine root l.path l.value) ∷ [])
    ≡ line_text number root l
unfolding message_lines_text message_line_text line_class_of line_at
numbered_lines number place offset at root l = search (arith, append-nil, said_is_line)

section_lines_text : (number place offset n : ℕ) (root : Root) (is : CallSource) (h : Noted)
    (lines : List ValueAt) →
    AtMostOneAt n lines → message_lines_text number place offset (section_lines root is h lines)
    ≡ lines_text number root lines ++ message_lines_text number place offset
    (first_call root is h lines)
unfolding section_lines lines_text
section_lines_text number place offset n root is h [] one = refl
section_lines_text number place offset n root is h (l ∷ []) one =
    let called = call_lines_after is l (note_line (is_header_root root) h l) in
    ap (message_lines_text number place offset)
    (append-nil (line_at l.at (ValueLine root l.path l.value) ∷ called))
    ∙ (text_both number place offset (line_at l.at (ValueLine root l.path l.value) ∷ []) called
    ∙ ap (λ z. z ++ message_lines_text number place offset called)
    (numbered_lines number place offset l.at root l
    ∙ sym (append-nil (line_text number root l))))
section_lines_text number place offset n root is h (l ∷ l' ∷ ls) one = absurd one

wrongs_text : (number place n : ℕ) (st : Read) → IsOctetResult (n + 1) st →
    message_lines_text number place n (fault_lines_of st) ≡ fault_text number (place + 1) st
unfolding message_lines_text message_line_text line_class_of text_of line_at
wrongs_text number place n (Fault lines at why T) now = search (arith, append-nil)
wrongs_text number place n _ now = refl

-- if no line ends an operation, there is no call
pub no_first : (root : Root) (is : CallSource) (h : Noted) (lines : List ValueAt) →
    Each (λ l. ends_operation is.is_request l ≡ false) lines → first_call root is h lines ≡ []
unfolding call_lines_after
no_first root is h [] each = refl
no_first root is h (l ∷ ls) each = rw each.0 refl

-- An octet with a fault has no call, so it makes no difference if the text of the fault comes
-- before the text of a call.
swapped : (number place n : ℕ) (root : Root) (is : CallSource) (h : Noted) (st : Read) →
    IsOctetResult (n + 1) st →
    NoCallIfFaulted is.is_request st → lines_text number root (lines_of st)
    ++ (message_lines_text number place n (first_call root is h (lines_of st))
    ++ fault_text number (place + 1) st)
    ≡ (lines_text number root (lines_of st) ++ fault_text number (place + 1) st)
    ++ message_lines_text number place n (first_call root is h (lines_of st))
unfolding lines_text message_lines_text
swapped number place n root is h (Done lines at rest) now none = search (arith, append-nil)
swapped number place n root is h (Short lines at outer leaf) now none = search (arith, append-nil)
swapped number place n root is h (Fault lines at why T) now none = search (
  arith,
  no_first,
  append-nil,
)

pub step_text : (number place n : ℕ) (root : Root) (is : CallSource) (h : Noted) (st : Read) →
    IsOctetResult (n + 1) st → NoCallIfFaulted is.is_request st →
    message_lines_text number place n (section_lines root is h (lines_of st) ++ fault_lines_of st)
    ≡ (lines_text number root (lines_of st) ++ fault_text number (place + 1) st)
    ++ message_lines_text number place n (first_call root is h (lines_of st))
step_text number place n root is h st now none = search (
  arith,
  text_both,
  wrongs_text,
  section_lines_text,
  one_of,
  append_assoc,
  swapped,
)
