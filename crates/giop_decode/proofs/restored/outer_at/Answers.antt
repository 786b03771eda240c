use Rattle.std.proofs.Common.{arith}
use Rattle.giop_decode.proofs.StoredFrames.{frame_more, frames_ended}
use Rattle.giop_decode.proofs.restored.outer_at.Goals as goal

pub loop-rest-preserved : goal.loop-rest-preserved
loop-rest-preserved c frames own range is =
    frame_more frames c.loop-rest.outer.items _ own _ c.loop-rest.rest.now _
    (c.loop-rest.invariant frames own range is) (omega arith) c.split_at.ensures.back
    c.push.ensures.items c.frame_at.ensures

pub returns-after-loop-rest : goal.returns-after-loop-rest
returns-after-loop-rest c frames own range few is =
    frames_ended frames c.loop-rest.outer.items own c.loop-rest.rest.now
    (c.loop-rest.invariant frames own range is) few (omega arith)
