use Rattle.std.proofs.Common.{replicate}
use Rattle.giop_decode.proofs.StoredFields.{put_together}
use Rattle.giop_decode.specs.Stored.{saved_inside, saved_stage}
use Rattle.giop_octets.specs.Fields.{four}
use Rattle.giop_decode.proofs.stored.put_frame.Goals as goal

pub returns-clause-put : goal.returns-clause-put
returns-clause-put c =
    let frame = c.args.frame in
    rw (
      c.put_zeros.ensures.put,
      c.push-2.ensures.items,
      c.saved_stage.ensures,
      c.push.ensures.items,
      c.saved_inside.ensures,
    )
    (rw (c.put_four-3.ensures.put, c.put_four-2.ensures.put, c.put_four.ensures.put)
    (put_together c.args.out.now.items (four frame.of.0) (four frame.index) (four frame.count)
    (replicate 10 0) (saved_inside frame.inside) (saved_stage frame.told)))
