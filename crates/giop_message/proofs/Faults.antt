-- A message is over exactly if its lines have a fault.
use Rattle.std.proofs.Common.{arith, ◌≡◌, ℕ, zero, suc, ◌+◌, Bool, true, false, List, [], ◌∷◌, ◌++◌, take, drop, refl, sym, ◌∙◌, inl, inr}
use Rattle.std.specs.Prelude.{◌||◌}
use Rattle.std.specs.List.{list_any}
use Rattle.giop_print.specs.declared.path.Root.{Root}
use Rattle.giop_sig.specs.Types.{Ty}
use Rattle.giop_decode.specs.ReadResult.{ValueAt, Read, Done, Short, Fault}
use Rattle.giop_decode.specs.Reading.{reading}
use Rattle.giop_decode.specs.Noted.{Noted, nothing_noted, note_line, is_header_root}
use Rattle.giop_message.specs.declared.part.Section.{Section}
use Rattle.giop_message.specs.declared.part.Section.TheVariants as sections
use Rattle.giop_message.specs.Headers.{minor, kind}
use Rattle.giop_message.specs.Signatures.{Signatures}
use Rattle.giop_message.specs.Messages.{coding_of, CallSource, Said, LineAt, line_at, call_lines_after, section_lines, BodyType, MessageReading, ReadTo, with_front, section_then, read_rest_in_parts, read_rest, read_body, read_padding_and_body, read_header_and_rest, read_message, message_lines, stage_of, root_of, read_after_section, section_and_rest}
use Rattle.giop_message.specs.ReaderOfTable.{line_class_of, is_over, is_fault_line}
use Rattle.giop_message.proofs.Going.{after_has, message_has}
use Rattle.giop_message.proofs.Causal.{IsAtMostOneCall, calls_is}

abbrev pub IsOverIffFaultLine : (reading : MessageReading) → Type 0
IsOverIffFaultLine (ReadTo said at stage) = is_over stage ≡ list_any is_fault_line said.lines

step_by : (a b c d : Bool) → (a || b) ≡ false → (b ≡ false → c ≡ d) → (a || c) ≡ d
step_by true b c d h f = absurd cc
step_by false b c d h f = f h

any_append : (xs ys : List LineAt) → list_any is_fault_line xs ≡ false →
    list_any is_fault_line (xs ++ ys) ≡ list_any is_fault_line ys
any_append [] ys h = refl
any_append (x ∷ xs) ys h = step_by (is_fault_line x) (list_any is_fault_line xs)
    (list_any is_fault_line (xs ++ ys)) (list_any is_fault_line ys) h (any_append xs ys)

none_call : (n : ℕ) (emitted : List LineAt) → IsAtMostOneCall n emitted →
    list_any is_fault_line emitted ≡ false
unfolding is_fault_line line_class_of line_at
none_call n emitted (inl e) = rw e refl
none_call n emitted (inr f) = rw f.3 refl

none_told : (root : Root) (is : CallSource) (h : Noted) (lines : List ValueAt) →
    list_any is_fault_line (section_lines root is h lines) ≡ false
unfolding section_lines is_fault_line line_class_of line_at
none_told root is h [] = refl
none_told root is h (l ∷ ls) =
    let now = note_line (is_header_root root) h l in
    any_append (call_lines_after is l now) (section_lines root is now ls)
    (none_call l.at (call_lines_after is l now) (calls_is is l now)) ∙ none_told root is now ls

front_tallies : (front : Said) (m : MessageReading) → list_any is_fault_line front.lines ≡ false →
    IsOverIffFaultLine m →
    IsOverIffFaultLine (with_front front m)
unfolding with_front
front_tallies front (ReadTo said at stage) h k = search (arith, any_append)

module _ (section : Section) (is : CallSource) (next : Noted → ℕ → List ℕ → MessageReading)
    (tallies : (k : Noted) (at : ℕ) (s : List ℕ) → IsOverIffFaultLine (next k at s)) where
  abbrev R : Root
  R = root_of section

  passes_tallies : (k : Noted) (r : Read) → IsOverIffFaultLine (section_then section is next k r)
  unfolding section_then is_over is_fault_line line_class_of line_at
  passes_tallies k (Done lines at s) = search (arith, front_tallies, none_told)
  passes_tallies k (Short lines at outer leaf) = sym (none_told R is k lines)
  passes_tallies k (Fault lines at why T) = search (arith, any_append, none_told)

rest_tallies : (full offset at : ℕ) (s : List ℕ) → IsOverIffFaultLine
    (read_rest_in_parts full offset at s)
unfolding read_rest_in_parts is_over is_fault_line line_class_of line_at
rest_tallies zero offset at s = refl
rest_tallies (suc full) offset at s = search (
  arith,
  front_tallies,
  take,
  drop,
  rest_tallies full
      (offset + 32) (at + 32) (drop 32 s),
)

-- each message of a reader has the line of a fault exactly if it is over
abbrev AreOverIffFaultLine : (reader : ℕ → List ℕ → MessageReading) → Type 0
AreOverIffFaultLine reader = (at : ℕ) (s : List ℕ) → IsOverIffFaultLine (reader at s)

all_rest : AreOverIffFaultLine read_rest
unfolding read_rest
all_rest at s = rest_tallies _ 0 at s

module _ (S : Signatures) (header : List ℕ) where
  reads_tally : (section : Section) (T : Ty) → ((h : Noted) →
      AreOverIffFaultLine (read_after_section S header section h)) →
      AreOverIffFaultLine (λ at s. section_and_rest S header section nothing_noted
      (reading (coding_of S header) [] T at s))
  reads_tally section T tallies at s = search (arith, passes_tallies)

  padded_tallies : (t : BodyType) → AreOverIffFaultLine (read_body S header t) →
      AreOverIffFaultLine (read_padding_and_body S header t)
  unfolding read_padding_and_body is_over
  padded_tallies t tallies at s = search (arith, drop)

  pub after_tallies : (section : Section) (k : Noted) → AreOverIffFaultLine
      (read_after_section S header section k)
  after_tallies section k = after_has S header AreOverIffFaultLine all_rest
      (λ section T past. reads_tally section T) padded_tallies section k

  message_tallies : AreOverIffFaultLine (read_header_and_rest S header (S.header (minor header)
      (kind header)))
  message_tallies = message_has S header AreOverIffFaultLine all_rest
      (λ section T past. reads_tally section T) padded_tallies (reads_tally sections.Header)

over_of : (m : MessageReading) → IsOverIffFaultLine m → is_over (stage_of m)
    ≡ list_any is_fault_line
    (message_lines m)
unfolding stage_of message_lines
over_of (ReadTo said at stage) h = h

pub over_where_faulted : (S : Signatures) (header s : List ℕ) →
    is_over (stage_of (read_message S header s)) ≡ list_any is_fault_line (message_lines
    (read_message S header s))
unfolding read_message
over_where_faulted S header s = over_of (read_message S header s) (message_tallies S header 12 s)
