use Rattle.giop_decode.proofs.Surrounding.{AreFirstMapped}
use Rattle.giop_decode.specs.Transitions.{frame_after_sign}
use Rattle.giop_decode.proofs.hearing.tell_frames_sign.Given as goal

abbrev pub invariant-loop-frame : goal.invariant-loop-frame
invariant-loop-frame l = AreFirstMapped (frame_after_sign l.catalogue l.sign) l.frame-index
    l.frame-items l.fn.outer.items
