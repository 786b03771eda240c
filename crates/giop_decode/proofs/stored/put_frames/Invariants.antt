use Rattle.std.proofs.Common.{◌≡◌, ◌*◌, take}
use Rattle.std.specs.List.{AllByRecursion}
use Rattle.arrayvec.specs.ArrayVec.{array_vec_len}
use Rattle.giop_decode.specs.Stored.{frame_size, saved_frames, FrameHasRange}
use Rattle.giop_decode.proofs.stored.put_frames.Given as goal

abbrev pub invariant-loop-frame : goal.invariant-loop-frame
invariant-loop-frame l = record {
  items : l.out.items ≡ saved_frames (take l.frame-index l.outer);
  len : array_vec_len l.out ≡ frame_size * l.frame-index;
  range : AllByRecursion FrameHasRange (take l.frame-index l.outer);
}
