use Rattle.std.proofs.Common.{arith}
use Rattle.giop_decode.specs.Transitions.{frame_after_sign}
use Rattle.giop_decode.proofs.HeardFrames.{known_counted}
use Rattle.giop_decode.proofs.Surrounding.{counted_more}
use Rattle.giop_decode.proofs.hearing.tell_frames_sign.Goals as goal

pub frame_after_sign-requires : goal.frame_after_sign-requires
frame_after_sign-requires c =
    known_counted c.args.catalogue.now (frame_after_sign c.args.catalogue.now c.args.sign)
    c.loop-frame.frame-index c.loop-frame.frame-items _ _ c.loop-frame.invariant c.requires
    (omega arith)

pub loop-frame-preserved : goal.loop-frame-preserved
loop-frame-preserved c =
    counted_more (frame_after_sign c.args.catalogue.now c.args.sign) c.loop-frame.frame-index
    c.loop-frame.frame-items _ _ _ c.loop-frame.invariant (omega arith) c.frame_after_sign.ensures
