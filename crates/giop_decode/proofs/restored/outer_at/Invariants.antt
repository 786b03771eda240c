use Rattle.std.proofs.Common.{◌≡◌, List, [], ◌∷◌, ◌++◌, length}
use Rattle.std.specs.List.{AllByRecursion}
use Rattle.giop_decode.specs.declared.frame.Frame.{Frame}
use Rattle.giop_decode.specs.Stored.{saved_frames, FrameHasRange}
use Rattle.giop_decode.proofs.StoredFrames.{FramesLeft}
use Rattle.giop_decode.proofs.restored.outer_at.Given as goal

abbrev pub invariant-loop-rest : goal.invariant-loop-rest
invariant-loop-rest l = (frames : List Frame) (own : Frame) → AllByRecursion FrameHasRange frames →
    l.octets ≡ saved_frames (frames ++ own ∷ []) → FramesLeft frames l.outer.items own l.rest

abbrev pub decreases-loop-rest : goal.decreases-loop-rest
decreases-loop-rest l = length l.rest
