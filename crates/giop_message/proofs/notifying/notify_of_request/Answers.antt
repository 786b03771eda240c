use Rattle.std.proofs.Common.{true, ap, ◌∙◌}
use Rattle.giop_print.specs.declared.path.Root.TheVariants as roots
use Rattle.giop_decode.specs.Noted.{noted_of}
use Rattle.giop_message.specs.HeaderEnds.{Requested, shown_name, after_event, request_event}
use Rattle.giop_message.proofs.notifying.notify_of_request.Goals as goal

pub returns-in_default-clause-told : goal.returns-in_default-clause-told
returns-in_default-clause-told g c C r keeps_noted =
    let st = g.Q.Correspondent.state c.args.correspondent.now in
    ap (λ o. after_event g.Q.Correspondent.notified st
    (request_event c.args.number o (noted_of true r).name c.args.operation
    (noted_of true r).expects_reply))
    (c.in_default.ensures C roots.Header r keeps_noted)

pub returns-clause-told : goal.returns-clause-told
returns-clause-told g c C r keeps_noted =
    let st = g.Q.Correspondent.state c.args.correspondent.now in
    c.on_call.ensures
    ∙ (ap (λ name. g.Q.Correspondent.notified st
    (Requested c.args.number c.in-Some.id name c.args.operation
    c.expects_reply-expects_reply.result))
    (c.shown_name.ensures ∙ ap shown_name (c.name.ensures C roots.Header r keeps_noted))
    ∙ (ap (λ expects. g.Q.Correspondent.notified st
    (Requested c.args.number c.in-Some.id (shown_name (noted_of true r).name) c.args.operation
    expects)) (c.expects_reply-expects_reply.ensures C r keeps_noted)
    ∙ ap (λ o. after_event g.Q.Correspondent.notified st
    (request_event c.args.number o (noted_of true r).name c.args.operation
    (noted_of true r).expects_reply))
    (c.in-Some.ensures C roots.Header r keeps_noted)))
