use Rattle.std.proofs.Common.{◌+◌, arith}
use Rattle.tcp_streams.proofs.Placed.{stamped_note}
use Rattle.tcp_streams.proofs.places.stamp.Goals as goal

pub loop-index-preserved : goal.loop-index-preserved
loop-index-preserved c = (
  omega arith,
  rw c.note.ensures (stamped_note c.loop-index.stamps.flows.items c.index.result.now
      (c.loop-index.index + 1) c.args.ids.now.items (omega arith) c.loop-index.invariant.1),
)
