-- The close ends a message; and if a message begins with its request id, its first four octets have
-- no line except the line of the id.
use Rattle.std.proofs.Common.{◌≡◌, ℕ, suc, ◌%◌, ◌<◌, ◌≤◌, ◌⊎◌, inl, inr, Bool, true, false, List, [], ◌∷◌, ◌++◌, length, map, Option, Some, None, refl, ap, ◌∙◌, append-nil, arith}
use Rattle.std.specs.Prelude.{◌&&◌, ◌||◌, IfSome, codes}
use Rattle.std.proofs.lemmas.Bool.{eqb-true}
use Rattle.std.specs.List.{AllByRecursion as Each}
use Rattle.giop_cdr.specs.Alignment.{padding}
use Rattle.giop_cdr.specs.Numbers.{num}
use Rattle.giop_cdr.specs.declared.prim.Primitive.TheVariants as prims
use Rattle.giop_print.specs.declared.path.Root.TheVariants as roots
use Rattle.giop_sig.specs.Types.{Ty, Plain, Single, Struct}
use Rattle.giop_sig.specs.Table.{Table}
use Rattle.giop_sig.specs.HeaderTypes.{BeginsWithId, RequestIdStandsFirst, header_type}
use Rattle.giop_sig.proofs.HeaderLaws.{id_first}
use Rattle.giop_decode.specs.ReadResult as spine
use Rattle.giop_decode.specs.ReadResult.{Coding, PathSegment, Name, ValueAt, Number, line, Part, Read, Done, Short, read_then, within, Fault}
use Rattle.giop_decode.specs.Pieces.{block, number}
use Rattle.giop_decode.specs.Reading.{read, left_after, parts_from, reading, done_if_untyped}
use Rattle.giop_decode.specs.ReadingSteps.{IsEmptyResult, part_at}
use Rattle.giop_decode.specs.Noted.{Noted, nothing_noted, ends_operation}
use Rattle.giop_decode.proofs.ReadingLaws.{quiet_parts, part_quiet}
use Rattle.giop_message.specs.Phases.{Phase}
use Rattle.giop_message.specs.declared.part.Section.TheVariants as sections
use Rattle.giop_message.specs.Headers.{minor, kind, order, is_opener_1_2, is_fragment_1_2, is_cancel_request, begins_with_request_id}
use Rattle.giop_message.specs.MessageReader.{Value, ClosesWithLastLine, HasOnlyValuesInId}
use Rattle.giop_message.specs.Signatures.{Signatures, Answer, signatures_of}
use Rattle.giop_message.specs.Messages.{coding_of, header_call_source, CallSource, ValueLine, LineAt, line_at, call_lines_after, section_lines, MessageReading, section_then, read_rest_in_parts, read_rest, read_after_header, read_header_and_rest, read_message, message_lines, lines_of_close}
use Rattle.giop_message.specs.ReaderOfTable.{line_class_of, timed_line_of, timed_lines_by, lines_of_close_by, reader_by, HeadersBeginWithIds, request_id_in, first_some, first_request_id}
use Rattle.giop_message.proofs.Going.{passes_front}
use Rattle.giop_message.proofs.Octets.{told_front, told_silent}
use Rattle.giop_message.proofs.Causal.{HasNoLinesAt, passes_silent, after_silent, told_begins}

-- ---- the close

pub is_ending : (S : Phase → ℕ → Signatures) → ClosesWithLastLine (reader_by S)
unfolding lines_of_close_by line_class_of lines_of_close
is_ending S = search (arith, map)

-- ---- an unsigned long at the front

-- the line of a number ends no operation
no_operation : (is path_is : Bool) → (is && (path_is && false)) ≡ false
no_operation true true = refl
no_operation true false = refl
no_operation false path_is = refl

number_no_operation : (is : Bool) (path : List PathSegment) (n : ℕ) →
    ends_operation is (line 16 path (Number (Plain prims.ULong) n)) ≡ false
number_no_operation is path n = search (arith, no_operation)

section_lines_id : (is : CallSource) (path : List PathSegment) (n : ℕ) →
    section_lines roots.Header is nothing_noted (line 16 path (Number (Plain prims.ULong) n) ∷ [])
    ≡ line_at 16 (ValueLine roots.Header path (Number (Plain prims.ULong) n)) ∷ []
unfolding section_lines call_lines_after
section_lines_id is path n = search (arith, number_no_operation)

module _ (coding : Coding) (even : coding.phase 12 % 4 ≡ 0) (path : List PathSegment) where
  read_four : (a b c d : ℕ) →
      read coding path (Single (Plain prims.ULong)) 12 (a ∷ b ∷ c ∷ d ∷ [])
      ≡ Done (line 16 path (Number (Plain prims.ULong) (num coding.order (a ∷ b ∷ c ∷ d ∷ []))) ∷
      []) 16 []
  unfolding number block padding
  read_four a b c d = rw even refl

-- the first part of a struct, if it is an unsigned long
module _ (coding : Coding) (even : coding.phase 12 % 4 ≡ 0) (n : ℕ) (of : ℕ → List ℕ)
    (parts : ℕ → Ty) (is : parts 0 ≡ Single (Plain prims.ULong)) where
  next : ℕ → List ℕ → Read
  next = parts_from (part_at coding [] (Struct (suc n) of parts) (suc n)) n 1

  -- the reading of a struct whose first part is read so
  in_first : List ℕ → Read → Read
  in_first xs r = done_if_untyped (left_after 12 xs)
      (read_then (within (Part (Struct (suc n) of parts) 0 (suc n)) r) next)

  first_part : (xs : List ℕ) → reading coding [] (Struct (suc n) of parts) 12 xs
      ≡ in_first xs (read coding (Name (of 0) ∷ []) (Single (Plain prims.ULong)) 12 xs)
  unfolding next in_first
  first_part xs = search (arith, next, in_first)

  id_line : List ℕ → ValueAt
  id_line xs = line 16 (Name (of 0) ∷ []) (Number (Plain prims.ULong) (num coding.order xs))

  next_quiet : IsEmptyResult 16 (next 16 [])
  unfolding next
  next_quiet = search (arith, quiet_parts, part_quiet)

  rooted_quiet : (left : ℕ → List ℕ) (front : List ValueAt) (q : Read) → IsEmptyResult 16 q →
      done_if_untyped left (spine.with_front front q) ≡ spine.with_front front q
  rooted_quiet left front (Done lines at rest) h = refl
  rooted_quiet left front (Short lines at outer leaf) h = refl
  rooted_quiet left front (Fault lines at why T) h = absurd h

  first_four : (a b c d : ℕ) →
      reading coding [] (Struct (suc n) of parts) 12 (a ∷ b ∷ c ∷ d ∷ [])
      ≡ spine.with_front (id_line (a ∷ b ∷ c ∷ d ∷ []) ∷ []) (next 16 [])
  unfolding id_line in_first
  first_four a b c d = search (arith, first_part, in_first, read_four, rooted_quiet, next_quiet)

  module _ (is_req : CallSource) (onward : Noted → ℕ → List ℕ → MessageReading)
      (silent : (h : Noted) → HasNoLinesAt 16 (onward h 16 [])) where
    told_few : (xs : List ℕ) → length xs < 4 →
        message_lines (section_then sections.Header is_req onward nothing_noted
        (reading coding [] (Struct (suc n) of parts) 12 xs)) ≡ []
    unfolding in_first number block padding section_then section_lines message_lines
    told_few [] h = search (arith, first_part)
    told_few (a ∷ []) h = search (arith, first_part)
    told_few (a ∷ b ∷ []) h = search (arith, first_part)
    told_few (a ∷ b ∷ c ∷ []) h = search (arith, first_part)
    told_few (a ∷ b ∷ c ∷ d ∷ xs) h = absurd (omega arith)

    told_four : (a b c d : ℕ) → message_lines
        (section_then sections.Header is_req onward nothing_noted
        (reading coding [] (Struct (suc n) of parts) 12 (a ∷ b ∷ c ∷ d ∷ []))) ≡ line_at 16
        (ValueLine roots.Header (Name (of 0) ∷ [])
        (Number (Plain prims.ULong) (num coding.order (a ∷ b ∷ c ∷ d ∷ [])))) ∷ []
    unfolding id_line
    told_four a b c d = search (
      arith,
      first_four,
      passes_front,
      next,
      told_front,
      told_silent,
      passes_silent,
      next_quiet,
      append-nil,
      section_lines_id,
    )

-- a header that begins with its request id
module _ (S : Signatures) (header : List ℕ) where
  unfoldable pub id_line_of : (octets : List ℕ) → List LineAt
  id_line_of xs = line_at 16 (ValueLine roots.Header (Name (codes "request_id") ∷ [])
      (Number (Plain prims.ULong) (num (order header) xs))) ∷ []

  pub few_by : S.phase 12 % 4 ≡ 0 → (T : Ty) → BeginsWithId T → (xs : List ℕ) → length xs < 4 →
      message_lines (read_header_and_rest S header (Some T) 12 xs) ≡ []
  unfolding read_header_and_rest
  few_by even T (n, of, parts, is, name_is, long) xs h =
      ap (λ U. message_lines (read_header_and_rest S header (Some U) 12 xs)) is
      ∙ told_few (coding_of S header) even n of parts long (header_call_source S header)
      (read_after_header S header)
      (λ h. after_silent S header sections.Header h 16) xs h

  pub four_by : S.phase 12 % 4 ≡ 0 → (T : Ty) → BeginsWithId T → (a b c d : ℕ) →
      message_lines (read_header_and_rest S header (Some T) 12 (a ∷ b ∷ c ∷ d ∷ []))
      ≡ id_line_of (a ∷ b ∷ c ∷ d ∷ [])
  unfolding read_header_and_rest id_line_of
  four_by even T (n, of, parts, is, name_is, long) a b c d =
      ap (λ U. message_lines (read_header_and_rest S header (Some U) 12 (a ∷ b ∷ c ∷ d ∷ []))) is
      ∙ (told_four (coding_of S header) even n of parts long (header_call_source S header)
      (read_after_header S header)
      (λ h. after_silent S header sections.Header h 16) a b c d
      ∙ ap (λ name. line_at 16 (ValueLine roots.Header (Name name ∷ [])
      (Number (Plain prims.ULong) (num (order header) (a ∷ b ∷ c ∷ d ∷ [])))) ∷ []) name_is)

  -- if there is no header type, the first octets are those of the rest
  rest_few : (xs : List ℕ) → length xs ≤ 4 → message_lines
      (read_header_and_rest S header None 12 xs) ≡ []
  unfolding read_header_and_rest read_rest read_rest_in_parts message_lines
  rest_few (a ∷ b ∷ c ∷ d ∷ e ∷ xs) h = absurd (omega arith)
  rest_few _ h = refl

  AreValueLines : List LineAt → Type 0
  AreValueLines ts = Each (λ r. r.line_class ≡ Value) (map timed_line_of ts)

  named_by : S.phase 12 % 4 ≡ 0 → (found : Option Ty) → IfSome found BeginsWithId → (xs : List ℕ) →
      length xs ≤ 4 →
      AreValueLines (message_lines (read_header_and_rest S header found 12 xs))
  unfolding AreValueLines line_class_of line_at id_line_of
  named_by even None begins xs h = rw (rest_few xs h) tt
  named_by even (Some T) begins [] h = search (arith, few_by)
  named_by even (Some T) begins (a ∷ []) h = search (arith, few_by)
  named_by even (Some T) begins (a ∷ b ∷ []) h = search (arith, few_by)
  named_by even (Some T) begins (a ∷ b ∷ c ∷ []) h = search (arith, few_by)
  named_by even (Some T) begins (a ∷ b ∷ c ∷ d ∷ []) h = search (arith, four_by)
  named_by even (Some T) begins (a ∷ b ∷ c ∷ d ∷ e ∷ xs) h = absurd (omega arith)

  id_four : S.phase 12 % 4 ≡ 0 → (T : Ty) → BeginsWithId T → (a b c d : ℕ) (later : List LineAt) →
      first_request_id (message_lines (read_header_and_rest S header (Some T) 12 (a ∷ b ∷ c ∷ d
      ∷ []))
      ++ later)
      ≡ Some (num (order header) (a ∷ b ∷ c ∷ d ∷ []))
  unfolding first_request_id request_id_in first_some line_at id_line_of
  id_four even T begins a b c d later = search (arith, four_by)

pub is_named : (S : Phase → ℕ → Signatures) →
    ((phase : Phase) (number : ℕ) → (S phase number).phase ≡ phase) →
    ((phase : Phase) (number : ℕ) → HeadersBeginWithIds (S phase number)) →
    HasOnlyValuesInId (reader_by S)
unfolding timed_lines_by read_message AreValueLines
is_named S own ids = record {
  named = λ phase number header xs even by few.
      named_by (S phase number) header (rw own even)
      ((S phase number).header (minor header) (kind header))
      ((ids phase number).begins header by) xs few;
}

-- The request id of the header is the number of the first four octets.
pub id_is_said : (S : Signatures) → S.phase 12 % 4 ≡ 0 → (header : List ℕ) (T : Ty) →
    S.header (minor header) (kind header) ≡ Some T → BeginsWithId T → (a b c d : ℕ) (xs : List ℕ) →
    first_request_id (message_lines (read_message S header (a ∷ b ∷ c ∷ d ∷ xs)))
    ≡ Some (num (order header) (a ∷ b ∷ c ∷ d ∷ []))
unfolding read_message
id_is_said S even header T found begins a b c d xs =
    let g = told_begins S header (a ∷ b ∷ c ∷ d ∷ []) xs in
    ap first_request_id g.1 ∙ rw found (id_four S header even T begins a b c d g.0)

-- ---- the catalogue's headers

first_by : (two more fragmented seven cancel : Bool) →
    ((two && more && fragmented) || (two && seven) || cancel) ≡ true →
    (two ≡ true) ⊎ (cancel ≡ true)
first_by true more fragmented seven cancel e = inl refl
first_by false more fragmented seven cancel e = inr e

goes_first : (header : List ℕ) → begins_with_request_id header ≡ true →
    RequestIdStandsFirst (minor header) (kind header)
unfolding is_opener_1_2 is_fragment_1_2 is_cancel_request
goes_first header by = search (arith, first_by, eqb-true)

pub begins_with_id : (version : ℕ) (header : List ℕ) → begins_with_request_id header ≡ true →
    IfSome (header_type version (minor header) (kind header)) BeginsWithId
begins_with_id version header by =
    id_first version (minor header) (kind header) (goes_first header by)

-- Where the request id stands first in a message, the type of its header begins with that id.
pub signatures_have_ids : (C : Table) (answer : Answer) (phase : Phase) →
    HeadersBeginWithIds (signatures_of C answer phase)
unfolding signatures_of
signatures_have_ids C answer phase = search (arith, begins_with_id)
