use Rattle.std.proofs.Common.{arith}
use Rattle.giop_decode.proofs.Counting.{before_more}
use Rattle.giop_decode.proofs.frame.octets_before_ends.Goals as goal

pub loop-frame-preserved : goal.loop-frame-preserved
loop-frame-preserved c =
    let e = c.octets_before_end-count.ensures in (
      omega (arith, e.within, c.loop-frame.invariant.0),
      before_more c.args.outer.now c.loop-frame.frame-index c.loop-frame.count
          c.octets_before_end-count.result _ c.loop-frame-test.true e.within
          c.loop-frame.invariant.1 e.ahead,
    )
