use Rattle.std.proofs.Common.{◌-◌, arith}
use Rattle.giop_decode.specs.Transitions.{frame_after_octets}
use Rattle.giop_decode.proofs.Surrounding.{counted_more, counted_ahead_by}
use Rattle.giop_decode.proofs.frame.count_in_frames.Goals as goal

pub loop-frame-preserved : goal.loop-frame-preserved
loop-frame-preserved c =
    counted_more (frame_after_octets c.args.octets) c.loop-frame.frame-index
    c.loop-frame.frame-items _ _ _ c.loop-frame.invariant (omega arith)
    c.frame_after_octets.ensures.ticked

pub frame_after_octets-requires : goal.frame_after_octets-requires
frame_after_octets-requires c =
    record {
      ahead = counted_ahead_by (frame_after_octets c.args.octets) (c.args.octets - 1)
          c.loop-frame.frame-index c.loop-frame.frame-items _ _ c.loop-frame.invariant
          c.requires.ahead (omega arith);
    }
