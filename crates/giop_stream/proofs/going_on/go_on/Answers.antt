use Rattle.std.proofs.Common.{◌++◌}
use Rattle.giop_stream.proofs.StreamLines.ReadOn.{rules_is, remaining_by, final_by}
use Rattle.giop_stream.proofs.going_on.go_on.Goals as goal

pub returns-in-Ok-clause-text : goal.returns-in-Ok-clause-text
returns-in-Ok-clause-text g c n p s =
    let held = c.in-Ok.ensures.again n p s in
    remaining_by c.feed_to_end.result _ _ _ _ p c.args.rest.now
    (rules_is c.in-Ok.engine _ _ n c.in-Ok.ensures.table c.in-Ok.ensures.request_table held.0)
    (c.feed_to_end.ensures.text p held.1)

pub returns-in-Ok-clause-totals : goal.returns-in-Ok-clause-totals
returns-in-Ok-clause-totals g c n p s =
    let held = c.in-Ok.ensures.again n p s in
    final_by c.feed_to_end.result _ _ (p ++ c.args.rest.now)
    (rules_is c.in-Ok.engine _ _ n c.in-Ok.ensures.table c.in-Ok.ensures.request_table held.0)
    (c.feed_to_end.ensures.totals p held.1)
