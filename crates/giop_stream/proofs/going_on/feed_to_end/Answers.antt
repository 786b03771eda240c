use Rattle.std.proofs.Common.{◌++◌}
use Rattle.giop_stream.specs.declared.status.Status.{Status}
use Rattle.giop_stream.specs.declared.status.Totals.{Totals}
use Rattle.giop_stream.specs.EngineHolds.{added}
use Rattle.giop_stream.proofs.StreamLines.ReadOn.{going_on, stopped_before, never_failed, leaves_sound, rules_is, closing_by, final_by}
use Rattle.giop_stream.proofs.going_on.feed_to_end.Goals as goal

pub returns-in-Ok-clause-text : goal.returns-in-Ok-clause-text
unfolding added
returns-in-Ok-clause-text g c p h =
    let same = rules_is c.feed.new.self _ _ _ c.in-Ok.ensures.same.0 c.in-Ok.ensures.same.1
    c.in-Ok.ensures.most in
    going_on _ p c.args.rest.now _ _ _ c.finish.result (c.in-Ok.ensures.text p h)
    (closing_by c.finish.result _ _ _ _ (p ++ c.args.rest.now) same
    (c.finish.ensures.text (p ++ c.args.rest.now) (c.in-Ok.ensures.held p h)))
    (never_failed c.finish.result _ c.finish.ensures.sound c.in-Ok.ensures.leaves.1)

pub returns-in-Ok-clause-totals : goal.returns-in-Ok-clause-totals
returns-in-Ok-clause-totals g c p h =
    let same = rules_is c.feed.new.self _ _ _ c.in-Ok.ensures.same.0 c.in-Ok.ensures.same.1
    c.in-Ok.ensures.most in
    final_by c.finish.result _ _ (p ++ c.args.rest.now) same
    (c.finish.ensures.totals (p ++ c.args.rest.now) (c.in-Ok.ensures.held p h))

pub returns-in-Err-clause-text : goal.returns-in-Err-clause-text
unfolding added
returns-in-Err-clause-text g c p h =
    stopped_before Status Totals _ p c.args.rest.now _ _ c.in-Err.stop (c.in-Err.ensures.text p h)
    (leaves_sound Status c.in-Err.stop _ _ c.in-Err.ensures.leaves c.requires.sound)
