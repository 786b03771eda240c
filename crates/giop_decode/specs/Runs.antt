-- What a decoder that has read a list does with more octets that are taken as a run (state).
use Rattle.std.specs.Prelude.{◌≡◌, ℕ, suc, ◌+◌, ◌-◌, ◌%◌, ◌<◌, ◌≤◌, false, List, [], ◌∷◌, ◌++◌, length, take, drop, get_or, Some, None, Result, IfOk, MatchResult}
use Rattle.giop_decode.specs.declared.decoder.Decoder.{Decoder}
use Rattle.giop_decode.specs.declared.frame.Frame.{Frame}
use Rattle.giop_decode.specs.declared.progress.Progress.{Progress}
use Rattle.giop_decode.specs.declared.progress.Progress.TheVariants as progress
use Rattle.giop_decode.specs.ReadResult.{Coding, ValueAt, PathSegment, lines_of}
use Rattle.giop_decode.specs.Reading.{reading}
use Rattle.giop_decode.specs.Noted.{is_header_root, names_operation}
use Rattle.giop_decode.specs.SeenState.{Fits, GoesOn, IsDone, Reads, KeepsNoted, IsAnswer, IsFault, added_lines}
use Rattle.giop_decode.specs.Spelling.{lines_text}
use Rattle.giop_print.specs.Output.{OutLog, Wrote, WroteFront}
use Rattle.giop_print.specs.declared.path.Root.{Root}
use Rattle.giop_sig.specs.Types.{Ty}
use Rattle.giop_sig.specs.Table.{Table}
use Rattle.giop_sig.specs.Trees.{tree_at}
use Rattle.giop_sig.specs.declared.types.TypeId.{TypeId}
use Rattle.giop_decode.specs.declared.leaf.Leaf.{Leaf as Innermost}
use Rattle.giop_decode.specs.declared.leaf.Leaf.TheVariants as innermost
use Rattle.giop_decode.specs.declared.leaf.Step.{Step}
use Rattle.giop_decode.specs.Pieces.{terminator_size}
use Rattle.giop_decode.specs.NameBuffer.{string_offset}
use Rattle.giop_decode.specs.NotingSteps.{OutputFitsString, StringGoesOn, leaf_in_string}
use Rattle.giop_decode.specs.ReadingSteps.{LeavesNumberIncomplete, after_number, leading_width, leaf_step}
use Rattle.giop_decode.specs.Transitions.{HasOutput, HaveOctetsLeft, IsOutput, HoldsNothingAfter, TransitionFits, TransitionGives, innermost_coding, leaf_of, leaf_type, held_after_output, frames_after_octets, tree_in, after_transition}

-- the lines of more octets
abbrev pub added_lines_of_run : (coding : Coding) (T : Ty) (offset_of_first_octet : ℕ)
    (octets_taken_before octets_of_run : List ℕ) → List ValueAt
added_lines_of_run coding T at taken octets =
    drop (length (lines_of (reading coding [] T at taken)))
    (lines_of (reading coding [] T at (taken ++ octets)))

-- the answer to one octet after a list
abbrev pub IsAnswerToOctet : (coding : Coding) (T : Ty) (offset_of_first_octet : ℕ) (root : Root)
    (octets_taken_before : List ℕ) (next_octet : ℕ) (answer : Progress) → Type 0
IsAnswerToOctet coding T at root octets octet p =
    IsAnswer (at + length (octets ++ octet ∷ []))
    (names_operation (is_header_root root) (added_lines coding T at octets octet)) p
    (reading coding [] T at (octets ++ octet ∷ []))

-- The answers to more octets, one after another: after each but the last the value goes on, and no
-- operation has ended there.
abbrev pub AreAnswersToOctets : (coding : Coding) (T : Ty) (offset_of_first_octet : ℕ) (root : Root)
    (octets_taken_before octets_of_run : List ℕ) (last_answer : Progress) → Type 0
AreAnswersToOctets coding T at root octets [] p = p ≡ progress.More
AreAnswersToOctets coding T at root octets (octet ∷ []) p =
    IsAnswerToOctet coding T at root octets octet p
AreAnswersToOctets coding T at root octets (octet ∷ next ∷ more) p =
    IsAnswerToOctet coding T at root octets octet progress.More
    × AreAnswersToOctets coding T at root (octets ++ octet ∷ []) (next ∷ more) p

-- A decoder that has read a list gives this answer to these octets. It has then read the longer
-- list, unless there is a fault.
pub record TakesRun (C : Table) (T : Ty) (coding : Coding)
    (offset_of_first_octet message_number : ℕ) (root : Root) (d : Decoder)
    (octets_taken_before octets_of_run : List ℕ) (last_answer : Progress) : Type 0 where
  pub answers : AreAnswersToOctets coding T offset_of_first_octet root octets_taken_before
      octets_of_run last_answer
  pub reads : (IsFault last_answer → ⊥) → Reads C T coding offset_of_first_octet message_number root
      d (octets_taken_before ++ octets_of_run)
  pub keeps_noted : KeepsNoted C root d (reading coding [] T offset_of_first_octet
      (octets_taken_before ++ octets_of_run))

-- A put failed at one of these octets, before which the value went on. A front of the lines up to
-- that octet was written.
pub record BreaksOff (T : Ty) (coding : Coding) (offset_of_first_octet message_number : ℕ)
    (root : Root) (octets_taken_before octets_of_run : List ℕ) (log_before log_after : OutLog)
    : Type 0 where
  pub front : List ℕ
  pub octet : ℕ
  pub rest : List ℕ
  pub all : octets_of_run ≡ front ++ octet ∷ rest
  pub answers : AreAnswersToOctets coding T offset_of_first_octet root octets_taken_before front
      progress.More
  pub wrote : WroteFront log_before log_after
      (lines_text message_number root (added_lines_of_run coding T offset_of_first_octet
      octets_taken_before (front ++ octet ∷ [])))

-- the lines of the octets that a run took, or those up to the octet at which a put failed
abbrev pub WritesRun : {E : Type 0} (result : Result (ℕ × Progress) E) (T : Ty) (coding : Coding)
    (offset_of_first_octet message_number : ℕ) (root : Root)
    (octets_taken_before octets_of_run : List ℕ) (log_before log_after : OutLog) → Type 0
WritesRun result T coding at message root s octets before after =
    MatchResult result
    (λ taken. Wrote before after
    (lines_text message root (added_lines_of_run coding T at s (take taken.0 octets))))
    (λ _. BreaksOff T coding at message root s octets before after)

-- A decoder takes some of these octets as a run, and becomes the new one. The result is how many,
-- and the answer to the last of them; or a put failed.
pub record TakesSome {E : Type 0} (C : Table) (old new : Decoder) (octets_offered : List ℕ)
    (log_before log_after : OutLog) (result : Result (ℕ × Progress) E) : Type 0 where
  -- for any list that the old decoder has read, the lines of the octets that are taken were written
  pub writes : (T : Ty) (coding : Coding) (at message : ℕ) (root : Root) (s : List ℕ) →
      Reads C T coding at message root old s →
      WritesRun result T coding at message root s octets_offered log_before log_after
  -- the new decoder has then read these octets after the list
  pub takes : IfOk result (λ taken. (T : Ty) (coding : Coding) (at message : ℕ) (root : Root)
      (s : List ℕ) → Reads C T coding at message root old s →
      TakesRun C T coding at message root new s (take taken.0 octets_offered) taken.1)
  -- there are at least one and at most all of them
  pub within : IfOk result (λ taken. taken.0 ≤ length octets_offered)
  pub some : IfOk result (λ taken. 0 < taken.0)
  -- a value that goes on can be taken from there
  pub fits : IfOk result (λ taken. GoesOn taken.1 → Fits C new)
  -- the answer is that the value has ended only if it has
  pub done : IfOk result (λ taken. taken.1 ≡ progress.Done → IsDone new)

-- ---- octets that are only added to a piece

-- a decoder has then read the longer list, and these octets give no line
pub record TakesWithoutLine (C : Table) (T : Ty) (coding : Coding)
    (offset_of_first_octet message_number : ℕ) (root : Root) (new : Decoder)
    (octets_taken_before octets_of_run : List ℕ) : Type 0 where
  pub takes : TakesRun C T coding offset_of_first_octet message_number root new octets_taken_before
      octets_of_run progress.More
  pub quiet : added_lines_of_run coding T offset_of_first_octet octets_taken_before octets_of_run
      ≡ []

-- the same for any list that the decoder has read before
abbrev pub AlwaysTakesWithoutLine : (C : Table) (d new : Decoder) (octets_of_run : List ℕ) → Type 0
AlwaysTakesWithoutLine C d new octets =
    (T : Ty) (coding : Coding) (at message : ℕ) (root : Root) (s : List ℕ) →
    Reads C T coding at message root d s → TakesWithoutLine C T coding at message root new s octets

-- ---- the number that begins a part, or the octet with the byte order of an encapsulation

-- A step that the octets of a part of this type may make, if nothing of the part is held. Its
-- transition and output fit the type, and it leads into a string only by the string's length.
pub record IsStepBy (T : Ty) (type_index : ℕ) (step : Step) : Type 0 where
  pub transition_fits : TransitionFits T type_index step.transition [] []
  pub has_output : HasOutput T step.output
  pub output_fits_string : OutputFitsString T false step.transition step.output
  pub string_goes_on : (n : ℕ) → StringGoesOn T None step.transition step.output n

-- the same in any room
abbrev pub IsStep : (C : Table) (type_index : ℕ) (step : Step) → Type 0
IsStep C of step = (room : ℕ) → IsStepBy (tree_at C (suc room) of) of step

-- the step that this number makes, in any room
abbrev pub IsStepOf : (C : Table) (type_index leading_number : ℕ) (step : Step) → Type 0
IsStepOf C of number step =
    (room : ℕ) (coding : Coding) (path : List PathSegment) (at : ℕ) →
    TransitionGives (tree_at C (suc room) of) step.transition step.output [] [] path at
    (after_number coding path (tree_at C (suc room) of) number at [])

-- ---- octets that are taken together

-- what is held after octets that are only added to it
abbrev pub AreHeldAfter : (C : Table) (d : Decoder) (innermost : Innermost)
    (octets_added held_of_number_after held_of_piece_after : List ℕ) → Type 0
AreHeldAfter C d (innermost.Number of) octets carry piece =
    LeavesNumberIncomplete (leading_width (tree_in C d.outer.items of.0))
    (innermost_coding d.order d.at d.outer.items).1
    d.carry octets
    carry
    × (piece ≡ d.piece.items)
AreHeldAfter C d (innermost.Opening of count) octets carry piece =
    (octets ≡ []) × (carry ≡ d.carry) × (piece ≡ d.piece.items)
AreHeldAfter C d (innermost.Content of total offset) octets carry piece =
    (carry ≡ d.carry) × (piece ≡ d.piece.items ++ octets)
    × (32 < total - offset → length piece < 32)
    × (total - offset ≤ 32 → length piece < total - offset + terminator_size
    (tree_in C d.outer.items of.0))

-- `octet_count` octets at the front of these are taken together, and no encapsulation ends before
-- the last of them. All but the last are only added to what is held. The last makes this step, in
-- which `kept_of_number` and `kept_of_piece` are kept. A piece has the octets that are kept, and
-- then the rest.
pub record TakenTogether (C : Table) (d : Decoder) (octets : List ℕ) (part_type : TypeId)
    (octet_count : ℕ) (step : Step) (piece_octets_after_kept kept_of_number kept_of_piece : List ℕ)
    : Type 0 where
  pub leaf : Innermost
  pub goes_on : d.leaf ≡ Some leaf
  pub same : leaf_type leaf ≡ part_type.0
  pub some : 0 < octet_count
  pub within : octet_count ≤ length octets
  pub ahead : HaveOctetsLeft (frames_after_octets (octet_count - 1) d.outer.items)
  pub short : length kept_of_piece + length piece_octets_after_kept ≤ 32
  -- what is held before the last of these octets
  pub carry : List ℕ
  pub piece : List ℕ
  pub adds : AreHeldAfter C d leaf (take (octet_count - 1) octets) carry piece
  -- the step and the lines of the last octet
  pub transition_fits : TransitionFits (tree_in C d.outer.items part_type.0) part_type.0
      step.transition
      kept_of_number
      (held_after_output step.output kept_of_piece)
  pub lets_go : HoldsNothingAfter step.transition kept_of_number
      (held_after_output step.output kept_of_piece)
  pub has_output : HasOutput (tree_in C d.outer.items part_type.0) step.output
  pub output_fits_string : OutputFitsString (tree_in C d.outer.items part_type.0)
      (leaf_in_string (tree_in C d.outer.items part_type.0) leaf) step.transition step.output
  pub string_goes_on : StringGoesOn (tree_in C d.outer.items part_type.0)
      (string_offset (tree_in C d.outer.items part_type.0) leaf) step.transition step.output
      (length (kept_of_piece ++ piece_octets_after_kept))
  pub lines : Coding → List PathSegment → ℕ → List ValueAt
  pub comes : (coding : Coding) (path : List PathSegment) (here : ℕ) →
      coding.order ≡ (innermost_coding d.order d.at d.outer.items).0 →
      coding.phase here % 8
      ≡ ((innermost_coding d.order d.at d.outer.items).1 + (octet_count - 1)) % 8 →
      leaf_step coding path (leaf_of C d.outer.items leaf carry piece) here
      (get_or octets (octet_count - 1) 0)
      ≡ after_transition (tree_in C d.outer.items part_type.0) step.transition kept_of_number
      (held_after_output step.output kept_of_piece) (lines coding path here) (here + 1)
  pub says : (coding : Coding) (path : List PathSegment) (here : ℕ) →
      IsOutput (tree_in C d.outer.items part_type.0) path (here + 1) step.output
      (kept_of_piece ++ piece_octets_after_kept)
      (lines coding path here)

-- the innermost part is a content
abbrev pub IsContent : (leaf : Innermost) → Type 0
IsContent (innermost.Content of total offset) = Unit {0}
IsContent leaf = ⊥

-- `count` more octets leave the piece of a content within these frames incomplete, some of whose
-- octets are held
abbrev pub LeavesPieceIncomplete : (C : Table) (frames : List Frame) (leaf : Innermost)
    (piece_octets_held : List ℕ) (octets_added : ℕ) → Type 0
LeavesPieceIncomplete C frames (innermost.Content of total offset) piece count =
    (32 < total - offset → length piece + count < 32)
    × (total - offset ≤ 32 → length piece + count < total - offset + terminator_size
    (tree_in C frames of.0))
LeavesPieceIncomplete C frames leaf piece count = ⊥

-- A decoder at octets that are taken together, and what it has become: it keeps what the last of
-- them leaves in place of what was held.
pub record HasHeldTogether (C : Table) (d now : Decoder) (octets : List ℕ) (part_type : TypeId)
    (octet_count : ℕ) (step : Step) (piece_octets_after_kept : List ℕ) : Type 0 where
  pub fits : Fits C d
  pub order : now.order ≡ d.order
  pub head : now.head ≡ d.head
  pub forbids_wide : now.forbids_wide ≡ d.forbids_wide
  pub at : now.at ≡ d.at
  pub outer : now.outer.items ≡ d.outer.items
  pub inside : now.inside ≡ d.inside
  pub leaf : now.leaf ≡ d.leaf
  pub notes : now.notes ≡ d.notes
  pub together : TakenTogether C d octets part_type octet_count step piece_octets_after_kept
      now.carry now.piece.items
