use Rattle.std.proofs.Common.{ap, ◌∙◌}
use Rattle.giop_print.specs.declared.path.Root.TheVariants as roots
use Rattle.giop_message.specs.HeaderEnds.{after_event, reply_event}
use Rattle.giop_message.proofs.notifying.notify_of_reply.Goals as goal

pub returns-in-Some-clause-told : goal.returns-in-Some-clause-told
returns-in-Some-clause-told g c C r keeps_noted =
    let st = g.Q.Correspondent.state c.args.correspondent.now in
    c.on_answer.ensures
    ∙ ap (λ o. after_event g.Q.Correspondent.notified st (reply_event c.args.number o))
    (c.in-Some.ensures C roots.Header r keeps_noted)

pub returns-in_default-clause-told : goal.returns-in_default-clause-told
returns-in_default-clause-told g c C r keeps_noted =
    let st = g.Q.Correspondent.state c.args.correspondent.now in
    ap (λ o. after_event g.Q.Correspondent.notified st (reply_event c.args.number o))
    (c.in_default.ensures C roots.Header r keeps_noted)
