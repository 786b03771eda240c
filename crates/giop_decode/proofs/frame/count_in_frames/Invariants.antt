use Rattle.giop_decode.proofs.Surrounding.{AreFirstMapped}
use Rattle.giop_decode.specs.Transitions.{frame_after_octets}
use Rattle.giop_decode.proofs.frame.count_in_frames.Given as goal

abbrev pub invariant-loop-frame : goal.invariant-loop-frame
invariant-loop-frame l = AreFirstMapped (frame_after_octets l.fn.octets) l.frame-index l.frame-items
    l.fn.outer.items
