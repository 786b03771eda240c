-- The path of the innermost part, and its text, from the fields of a decoder (steps).
use Rattle.std.specs.Prelude.{ℕ, ◌<◌, List, [], ◌∷◌, ◌++◌, length, Option, Some, None}
use Rattle.giop_decode.specs.declared.frame.Frame.{Frame}
use Rattle.giop_decode.specs.declared.frame.Stage.{Stage}
use Rattle.giop_decode.specs.ReadResult.{PathSegment}
use Rattle.giop_decode.specs.Spelling.{segment_text, path_text}
use Rattle.giop_decode.specs.ReadingSteps.{segment_in, path_in}
use Rattle.giop_decode.specs.Transitions.{open_part, open_parts, switch_segment, tree_in}
use Rattle.giop_print.specs.Paths.{HeadView}
use Rattle.giop_sig.specs.Table.{Table}
use Rattle.giop_sig.specs.Trees.{tree}
use Rattle.giop_sig.specs.Types.{shape_in, IsUnion}
use Rattle.giop_sig.specs.declared.types.TypeId.{TypeId}

-- a type of the table that has a discriminator, or no type
abbrev pub IsUnionOrNone : (C : Table) (union : Option TypeId) → Type 0
IsUnionOrNone C None = Unit {0}
IsUnionOrNone C (Some of) = (of.0 < length C.types) × IsUnion (shape_in (tree C of.0))

-- the segment of a discriminator within these frames, if one is meant
abbrev pub discriminator_segments : (C : Table) (frames : List Frame) (union : Option TypeId) →
    List PathSegment
discriminator_segments C frames None = []
discriminator_segments C frames (Some of) = switch_segment (tree_in C frames of.0) ∷ []

-- the text of that segment, which is the same in any room
abbrev pub discriminator_text : (C : Table) (union : Option TypeId) → List ℕ
discriminator_text C None = []
discriminator_text C (Some of) = segment_text (switch_segment (tree C of.0))

-- which part of an any's frame is being read: its type at place 0, as long as that tells what comes
-- after it
abbrev pub led_part_index : (telling_stage : Option Stage) (place : ℕ) → ℕ
led_part_index None index = index
led_part_index (Some stage) index = 0

-- the text of a frame's segment; neither the room nor the offset of the frame makes a difference
abbrev pub frame_text : (C : Table) (frame : Frame) → List ℕ
frame_text C f = segment_text (segment_in (open_part C 24 0 f))

-- the text of the segments of frames
abbrev pub frames_text : (C : Table) (outer : List Frame) → List ℕ
frames_text C [] = []
frames_text C (f ∷ outer) = frame_text C f ++ frames_text C outer

-- where the innermost part is, or its discriminator: the message and root, the frames around it,
-- and the union whose discriminator is meant
pub record PathView : Type 0 where
  pub table : Table
  pub head : HeadView
  pub frames : List Frame
  pub union : Option TypeId

-- the text of its path; the offset of the parts around it makes no difference
abbrev pub current_path_text : (here : PathView) → List ℕ
current_path_text h =
    path_text h.head.root
    (path_in [] (open_parts h.table 0 h.frames) ++ discriminator_segments h.table h.frames h.union)
