-- What an octet of the innermost part does after its line was written (steps).
use Rattle.std.specs.Prelude.{◌≡◌, ℕ, ◌+◌, ◌%◌, Bool, List, [], ◌++◌}
use Rattle.giop_decode.specs.declared.decoder.Decoder.{Decoder}
use Rattle.giop_decode.specs.declared.frame.Frame.{Frame}
use Rattle.giop_decode.specs.declared.leaf.Finished.{Finished}
use Rattle.giop_decode.specs.declared.leaf.Step.{Step}
use Rattle.giop_decode.specs.declared.progress.Progress.{Progress}
use Rattle.giop_decode.specs.Heard.{FramesHear}
use Rattle.giop_decode.specs.ReadResult.{Coding, ValueAt}
use Rattle.giop_decode.specs.ReadingSteps.{path_in}
use Rattle.giop_decode.specs.SeenState.{NotesFitRoot, CanStandAt, GoesOn, HoldsNoted}
use Rattle.giop_decode.specs.DecoderSteps.{AgreesWithReading, FitsAroundPart, IsAfterTransition, root_after_transition}
use Rattle.giop_decode.specs.Noted.{Noted, ends_in_string, is_header_root, note_lines, without_name_if}
use Rattle.giop_decode.specs.NotingSteps.{clears_name, transition_in_string}
use Rattle.giop_decode.specs.Transitions.{IsOutput, open_parts, frames_after_octet, tree_in}
use Rattle.giop_sig.specs.Table.{Table}

-- The lines, up to this offset, of what an octet finishes: those of a part within these frames,
-- which are at offset `here`.
abbrev pub AreFinishedLines : (C : Table) (frames_around : List Frame) (finished : Finished)
    (offset_of_frames offset_of_lines : ℕ) (lines : List ValueAt) → Type 0
AreFinishedLines C outer finished here at lines =
    IsOutput (tree_in C outer finished.of.0) (path_in [] (open_parts C here outer)) at
    finished.output
    (finished.held.now ++ finished.rest.now) lines

-- The lines that the step gives up to this offset, for a part of this type within the frames around
-- it, which are at offset `here`: those of its output. A piece has the octets that are held, and
-- then the rest.
abbrev pub AreStepLines : (C : Table) (d : Decoder) (part_type_index : ℕ) (step : Step)
    (octets_after_held : List ℕ) (offset_of_frames offset_of_lines : ℕ) (lines : List ValueAt) →
    Type 0
AreStepLines C d of step rest here at lines =
    IsOutput (tree_in C d.outer.items of) (path_in [] (open_parts C here d.outer.items)) at
    step.output
    (d.piece.items ++ rest) lines

-- a decoder at an octet of a part of this type; the octet was counted since, and its line was heard
-- in the parts around
pub record HasCountedOctet (C : Table) (d now : Decoder) (part_type_index : ℕ) (step : Step)
    (octets_after_held : List ℕ) : Type 0
  where
    pub around : FitsAroundPart C d part_type_index
    pub order : now.order ≡ d.order
    pub head : now.head ≡ d.head
    pub forbids_wide : now.forbids_wide ≡ d.forbids_wide
    pub at : now.at ≡ (d.at + 1) % 8
    pub outer : FramesHear C (frames_after_octet d.outer.items) now.outer.items part_type_index
        step.output
        (d.piece.items ++ octets_after_held)
    pub inside : now.inside ≡ d.inside
    pub carry : now.carry ≡ d.carry
    pub piece : now.piece ≡ d.piece
    pub notes : now.notes ≡ d.notes

-- The output of the octet was noted and its transition made, with this answer.
pub record NotesAndAdvances (C : Table) (d new : Decoder) (part_type_index : ℕ) (step : Step)
    (octets_after_held : List ℕ) (p : Progress) : Type 0 where
  pub order : new.order ≡ d.order
  pub head : new.head ≡ d.head
  pub forbids_wide : new.forbids_wide ≡ d.forbids_wide
  -- one octet further on
  pub here : (coding : Coding) (here : ℕ) → CanStandAt coding d here →
      CanStandAt coding new (here + 1)
  pub next : GoesOn p → IsAfterTransition C d new part_type_index step.transition
  pub steps : (coding : Coding) (here : ℕ) (lines : List ValueAt) →
      AreStepLines C d part_type_index step octets_after_held here (here + 1) lines →
      AgreesWithReading C new p (here + 1) (root_after_transition coding C d part_type_index
      step.transition
      step.output lines here)
  pub inside : (coding : Coding) (here : ℕ) (lines : List ValueAt) →
      AreStepLines C d part_type_index step octets_after_held here (here + 1) lines →
      ends_in_string (root_after_transition coding C d part_type_index step.transition step.output
      lines here)
      ≡ transition_in_string (tree_in C d.outer.items part_type_index) step.transition
  pub of_root : NotesFitRoot C d.head.root d.notes → NotesFitRoot C d.head.root new.notes
  pub notes : (asked : Bool) (h : Noted) (here at : ℕ) (lines : List ValueAt) →
      HoldsNoted C asked d.notes h → AreStepLines C d part_type_index step octets_after_held here at
      lines →
      HoldsNoted C asked new.notes (without_name_if (clears_name step.output)
      (note_lines (is_header_root d.head.root) h lines))
