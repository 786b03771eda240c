-- A message after an octet: after a part of the rest, no octet is held; after a fault, the message
-- is over.
use Rattle.std.proofs.Common.{arith, ◌≡◌, ℕ, ◌+◌, Bool, true, false, List, [], ◌∷◌, ◌++◌, length, map, drop, refl, sym, ◌∙◌, append-nil, inl, inr}
use Rattle.std.specs.List.{list_any}
use Rattle.std.proofs.lemmas.Bool.{false≢true}
use Rattle.std.specs.Prelude.{if◌then◌else◌}
use Rattle.std.proofs.Math.Seq.{drop-append_seam}
use Rattle.giop_print.specs.declared.path.Root.{Root}
use Rattle.giop_decode.specs.ReadResult.{ValueAt, Read, Done, Short, Fault as Faulted}
use Rattle.giop_decode.specs.ReadingSteps as decoder
use Rattle.giop_decode.specs.ReadingSteps.{IsOctetResult, root_step}
use Rattle.giop_decode.specs.Noted.{Noted, note_line, note_lines, is_header_root}
use Rattle.giop_decode.proofs.ReadingLaws.{root_now}
use Rattle.giop_message.specs.declared.part.Section.{Section}
use Rattle.giop_message.specs.MessageState.{more_lines}
use Rattle.giop_message.specs.Messages.{coding_of, CallSource, Said, only_lines, nothing_said, RestLine, LineAt, line_at, call_lines_after, section_lines, Stage, In_typed, In_padding, In_rest, Over, MessageReading, ReadTo, with_front, section_then, read_message, message_lines, stage_of, root_of, section_call_source, read_after_section}
use Rattle.giop_message.specs.ReaderOfTable.{line_class_of, timed_line_of, next_lines_by}
use Rattle.giop_message.specs.MessageReader.{LineClass, Rest, is_fault_class}
use Rattle.giop_message.specs.Signatures.{Signatures}
use Rattle.giop_message.specs.StageSteps.{rest_step, message_step, read_one_more}
use Rattle.giop_message.proofs.AtOctet.{due_said_is}
use Rattle.giop_message.proofs.Causal.{HasNoLinesAt, IsAtMostOneCall, calls_is, body_silent, after_silent}
use Rattle.giop_message.proofs.Going.{message_goes}

abbrev pub LineClasses : (emitted : List LineAt) → List LineClass
LineClasses emitted = map (λ t. line_class_of t.message_line) emitted

-- after lines of these classes: if they are one part of the rest, no octet is held; if one is a
-- fault, the message is over
abbrev pub StageFitsClasses : (line_classes : List LineClass) (stage : Stage) → Type 0
StageFitsClasses line_classes stage = (line_classes ≡ Rest ∷ [] → (offset : ℕ) ×
    (stage ≡ In_rest offset []))
    × (list_any is_fault_class line_classes ≡ true → stage ≡ Over)

abbrev StageFitsLines : (reading : MessageReading) → Type 0
StageFitsLines (ReadTo said at stage) = StageFitsClasses (LineClasses said.lines) stage

silent_settles : (n : ℕ) (m : MessageReading) → HasNoLinesAt n m → StageFitsLines m
silent_settles n (ReadTo said at stage) h = search (arith, false≢true)

-- the lines of a typed part are no faults
section_lines_faultless : (root : Root) (is : CallSource) (h : Noted) (lines : List ValueAt) →
    list_any is_fault_class (LineClasses (section_lines root is h lines)) ≡ false
unfolding section_lines line_at line_class_of
section_lines_faultless root is h [] = refl
section_lines_faultless root is h (l ∷ ls) =
    let now = note_line (is_header_root root) h l in
    behind (call_lines_after is l now) (section_lines root is now ls) (calls_is is l now)
    (section_lines_faultless root is now ls)
  where
    behind : (called emitted : List LineAt) → IsAtMostOneCall l.at called →
        list_any is_fault_class (LineClasses emitted) ≡ false →
        list_any is_fault_class (LineClasses (called ++ emitted)) ≡ false
    behind called emitted (inl e) h = rw e h
    behind called emitted (inr f) h = rw f.3 h

-- the lines of a typed part begin with a value
section_lines_leave : (root : Root) (is : CallSource) (h : Noted) (lines : List ValueAt) (stage :
    Stage) →
    StageFitsClasses (LineClasses (section_lines root is h lines)) stage
unfolding section_lines line_at line_class_of
section_lines_leave root is h [] stage = search (arith, false≢true)
section_lines_leave root is h (l ∷ ls) stage = (
  λ e. absurd cc,
  λ e. absurd (false≢true
      (sym (section_lines_faultless root is h (l ∷ ls)) ∙ e)),
)

front_settles : (n : ℕ) (front : Said) (m : MessageReading) →
    ((stage : Stage) → StageFitsClasses (LineClasses front.lines) stage) → HasNoLinesAt n m →
    StageFitsLines (with_front front m)
unfolding with_front
front_settles n front (ReadTo said at stage) h k = rw (k.0, append-nil front.lines) (h stage)

module _ (section : Section) (is : CallSource) (next : Noted → ℕ → List ℕ → MessageReading) (n : ℕ)
    (silent : (k : Noted) → HasNoLinesAt n (next k n [])) where
  abbrev R : Root
  R = root_of section

  passes_settles : (k : Noted) (r : Read) → IsOctetResult n r →
      StageFitsLines (section_then section is next k r)
  unfolding section_then line_at line_class_of section_lines
  passes_settles k (Done lines at s) h =
      let now = note_lines (is_header_root R) k lines in
      rw (h.1, h.2) (front_settles n _ (next now n [])
      (section_lines_leave R is k lines) (silent now))
  passes_settles k (Short lines at outer leaf) h = search (arith, section_lines_leave)
  passes_settles k (Faulted [] at why T) h = (λ e. absurd cc, λ e. refl)
  passes_settles k (Faulted (l ∷ ls) at why T) h = (λ e. absurd cc, λ e. refl)

rest_settles : (offset : ℕ) (held : List ℕ) (n : ℕ) (test : Bool) →
    StageFitsLines (if test then ReadTo (only_lines (line_at n (RestLine offset held) ∷ [])) n
    (In_rest (offset + 32) [])
    else ReadTo nothing_said n (In_rest offset held))
unfolding line_at line_class_of
rest_settles offset held n true = search (arith, false≢true)
rest_settles offset held n false = search (arith, false≢true)

step_settles : (S : Signatures) (header : List ℕ) (at : ℕ) (stage : Stage) (b : ℕ) →
    StageFitsLines (message_step S header at stage b)
unfolding message_step rest_step
step_settles S header at (In_typed section k outer leaf) b =
    passes_settles section (section_call_source S header section)
    (read_after_section S header section) (at + 1)
    (λ k. after_silent S header section k (at + 1)) k
    (decoder.root_step (coding_of S header) [] outer leaf at b)
    (root_now (coding_of S header) [] outer leaf at b)
step_settles S header at (In_padding t) b = search (arith, false≢true, silent_settles, body_silent)
step_settles S header at (In_rest offset held) b = search (arith, rest_settles)
step_settles S header at Over b = search (arith, false≢true)

-- the lines of an octet, and the stage of the message after it
advance_settles : (S : Signatures) (header : List ℕ) (m : MessageReading) (b : ℕ) →
    StageFitsClasses (LineClasses (drop (length (message_lines m)) (message_lines
    (read_one_more S header m b))))
    (stage_of (read_one_more S header m b))
unfolding read_one_more with_front message_lines stage_of
advance_settles S header (ReadTo said at stage) b = search (
  arith,
  step_settles,
  drop,
  drop-append_seam,
)

classes_of_lines : (emitted : List LineAt) →
    map (λ r. r.line_class) (map timed_line_of emitted) ≡ LineClasses emitted
classes_of_lines [] = refl
classes_of_lines (t ∷ ts) = search (arith, classes_of_lines ts)

pub octet_leaves : (S : Signatures) (header xs : List ℕ) (x : ℕ) →
    StageFitsClasses (map (λ r. r.line_class) (next_lines_by S header xs x))
    (stage_of (read_message S header (xs ++ x ∷ [])))
unfolding more_lines
octet_leaves S header xs x =
    rw (
      due_said_is S header xs x,
      classes_of_lines (more_lines S header xs (x ∷ [])),
      message_goes S header xs x,
    ) (advance_settles S header (read_message S header xs) x)
