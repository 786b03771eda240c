-- The close of a message that follows a list of octets: its lines, from the message's part, and its
-- text.
use Rattle.std.proofs.Common.{◌≡◌, ℕ, zero, suc, Bool, true, false, List, [], ◌∷◌, ◌++◌, refl, sym, ap, ◌∙◌, append-nil, arith}
use Rattle.std.specs.Prelude.{◌==◌, codes, if◌then◌else◌, not}
use Rattle.std.proofs.lemmas.Bool.{false≢true, ne_eqb}
use Rattle.giop_print.specs.Lines.{fault_line, end_line, rest_line}
use Rattle.giop_sig.specs.declared.types.Shape.{Shape}
use Rattle.giop_sig.specs.declared.types.Shape.TheVariants as shapes
use Rattle.giop_sig.specs.Types.{Cases, Ty, Plain, Single, Struct, Union, Octets, Raw, WideText, WideChar, shape_in}
use Rattle.giop_sig.specs.Table.{Table, in_version}
use Rattle.giop_message.specs.Phases.{Phase}
use Rattle.giop_message.specs.Headers.{minor}
use Rattle.giop_decode.specs.ReadResult.{ValueAt, OpenPart, Leaf, Short}
use Rattle.giop_decode.specs.Noted.{Noted}
use Rattle.giop_message.specs.declared.message.Message.{Message as Struct_of}
use Rattle.giop_message.specs.declared.part.Section.{Section}
use Rattle.giop_message.specs.declared.part.Part.{Part}
use Rattle.giop_message.specs.declared.part.Part.TheVariants as parts
use Rattle.giop_message.specs.declared.part.Rest.{Rest}
use Rattle.giop_message.specs.declared.body_type.BodyTypeId.{BodyTypeId}
use Rattle.giop_message.specs.Signatures.{Signatures, Answers, signatures_of}
use Rattle.giop_message.specs.Messages.{MessageLine, RestLine, ShortLine, EndLine, BodyType, Typed, body_may_be_missing, Stage, In_typed, In_padding, In_rest, Over, section_then, read_message, stage_of, lines_of_close, section_and_rest}
use Rattle.giop_message.specs.ReaderOfTable.{line_class_of, text_of}
use Rattle.giop_message.specs.MessageState.{message_line_text, closing_text, is_short_close, body_type, Fits, Follows}
use Rattle.giop_message.specs.MessageSteps.{held_text, last_rest_text}
use Rattle.giop_message.proofs.Spelling.{rest_said, end_said}
use Rattle.giop_message.proofs.Octets.{stage_front}

-- ---- the empty struct

count_in : Shape → ℕ
count_in (shapes.Members count) = count
count_in shape = 0

members_of : {m n : ℕ} → shapes.Members m ≡ shapes.Members n → m ≡ n
unfolding count_in
members_of e = ap count_in e

suc_none : (n : ℕ) → suc n ≡ 0 → ⊥
suc_none n e = omega (arith, e)

pub lacks_members : (T : Ty) (count : ℕ) → shape_in T ≡ shapes.Members count →
    (count == 0) ≡ body_may_be_missing (Typed T)
unfolding body_may_be_missing
lacks_members (Struct zero names parts) count e = search (arith, members_of)
lacks_members (Struct (suc n) names parts) count e = search (arith, ne_eqb, suc_none, members_of)
lacks_members (Single (Plain p)) count e = absurd cc
lacks_members (Union (Cases n) scalar select names cases) count e = absurd cc
lacks_members (Octets (Raw bound)) count e = absurd cc
lacks_members (Octets WideText) count e = absurd cc
lacks_members (Octets WideChar) count e = absurd cc
lacks_members T count e = absurd cc

pub lacks_none : (T : Ty) → ((count : ℕ) → shape_in T ≡ shapes.Members count → ⊥) →
    false ≡ body_may_be_missing (Typed T)
unfolding body_may_be_missing
lacks_none (Struct count names parts) other = absurd (other count refl)
lacks_none T other = refl

-- ---- the part in which the message is

short_stage : (S : Signatures) (header : List ℕ) (section : Section) (h : Noted) (lines : List
    ValueAt)
    (at : ℕ) (outer : List OpenPart) (leaf : Leaf) →
    lines_of_close (stage_of (section_and_rest S header section h (Short lines at outer leaf)))
    ≡ ShortLine ∷ []
unfolding section_then stage_of lines_of_close
short_stage S header section h lines at outer leaf = refl

module _ {C : Table} {answers : Answers} {phase : Phase} {number : ℕ} {header : List ℕ}
    {m : Struct_of} {s : List ℕ}
    (f : Follows C answers phase number header m s) (fits : Fits C m) where
  abbrev At : Stage
  At = stage_of (read_message (signatures_of C (answers number) phase) header s)

  -- inside a section, the close is short
  pub section_short : {section : Section} → m.part ≡ parts.Typed section →
      lines_of_close At ≡ ShortLine ∷ []
  section_short {section} is = search (arith, stage_front, short_stage)

  pub padding_stage : {body_type_id : BodyTypeId} → m.part ≡ parts.Padding body_type_id →
      At ≡ In_padding (body_type (in_version (minor header) C) body_type_id)
  unfolding stage_of
  padding_stage is = search (arith)

  pub rest_stage : {r : Rest} → m.part ≡ parts.Rest r → At ≡ In_rest r.offset r.held.items
  unfolding stage_of
  rest_stage is = search (arith)

-- ---- the text of the close

lack_short : (test : Bool) → is_short_close (if test then EndLine ∷ [] else ShortLine ∷ [])
    ≡ not test
unfolding is_short_close
lack_short true = refl
lack_short false = refl

pub padding_short : (b : BodyType) → is_short_close (lines_of_close (In_padding b)) ≡ not
    (body_may_be_missing b)
unfolding lines_of_close
padding_short b = search (arith, lack_short)

pub rest_short : (offset : ℕ) (held : List ℕ) → is_short_close (lines_of_close
    (In_rest offset held)) ≡ false
unfolding lines_of_close is_short_close
rest_short offset [] = refl
rest_short offset (x ∷ held) = refl

if_short : (test : Bool) → is_short_close (if test then EndLine ∷ [] else ShortLine ∷ []) ≡ true →
    (if test then EndLine ∷ [] else ShortLine ∷ []) ≡ ShortLine ∷ []
unfolding is_short_close
if_short true e = absurd (false≢true e)
if_short false e = refl

pub short_is : (stage : Stage) → is_short_close (lines_of_close stage) ≡ true →
    lines_of_close stage ≡ ShortLine ∷ []
unfolding lines_of_close is_short_close
short_is (In_typed section h outer leaf) e = refl
short_is (In_padding b) e = search (arith, if_short)
short_is (In_rest offset []) e = absurd (false≢true e)
short_is (In_rest offset (x ∷ held)) e = absurd (false≢true e)
short_is Over e = absurd (false≢true e)

pub short_text : (number place : ℕ) (stage : Stage) → is_short_close (lines_of_close stage) ≡ true →
    closing_text number place (lines_of_close stage) ≡ fault_line number (codes "short") place
unfolding closing_text message_line_text line_class_of text_of
short_text number place stage e = rw (short_is stage e) (append-nil _)

if_ends : (test : Bool) → is_short_close (if test then EndLine ∷ [] else ShortLine ∷ []) ≡ false →
    (if test then EndLine ∷ [] else ShortLine ∷ []) ≡ EndLine ∷ []
unfolding is_short_close
if_ends true e = refl
if_ends false e = absurd (false≢true (sym e))

ends_text_is : (number place : ℕ) → closing_text number place (EndLine ∷ []) ≡ end_line number
unfolding closing_text message_line_text line_class_of text_of
ends_text_is number place = append-nil _ ∙ end_said number

last_then : (number place offset : ℕ) (held : List ℕ) →
    closing_text number place (RestLine offset held ∷ EndLine ∷ [])
    ≡ rest_line number offset held ++ end_line number
unfolding closing_text message_line_text line_class_of text_of
last_then number place offset held = search (arith, rest_said, append-nil, end_said)

rest_ends : (number place offset : ℕ) (held : List ℕ) →
    closing_text number place (lines_of_close (In_rest offset held))
    ≡ held_text number offset held ++ end_line number
unfolding lines_of_close
rest_ends number place offset [] = ends_text_is number place
rest_ends number place offset (x ∷ held) = search (arith, last_then)

module _ {C : Table} {answers : Answers} {phase : Phase} {number : ℕ} {header : List ℕ}
    {m : Struct_of} {s : List ℕ}
    (f : Follows C answers phase number header m s) (fits : Fits C m) (place : ℕ) where
  abbrev Close : List MessageLine
  Close = lines_of_close (stage_of (read_message (signatures_of C (answers number) phase) header s))

  ended_by : (p : Part) → m.part ≡ p → is_short_close Close ≡ false →
      closing_text number place Close ≡ last_rest_text number p ++ end_line number
  unfolding lines_of_close is_short_close
  ended_by (parts.Typed section) is e =
      absurd (false≢true (sym (rw (section_short f fits is) at e)))
  ended_by (parts.Padding body_type_id) is e = search (arith, padding_stage, if_ends, ends_text_is)
  ended_by (parts.Rest r) is e = ap (λ stage. closing_text number place (lines_of_close stage))
      (rest_stage f fits is) ∙ rest_ends number place r.offset r.held.items

  pub ended_text : is_short_close Close ≡ false →
      closing_text number place Close ≡ last_rest_text m.number m.part ++ end_line m.number
  ended_text e = search (arith, ended_by)
