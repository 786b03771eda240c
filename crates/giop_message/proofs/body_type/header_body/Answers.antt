use Rattle.std.proofs.Common.{true, sym, ap, ◌∙◌}
use Rattle.giop_decode.specs.Noted.{noted_of}
use Rattle.giop_print.specs.declared.path.Root.TheVariants as roots
use Rattle.std.specs.Option.{option_and_then}
use Rattle.giop_sig.specs.Table.{in_version}
use Rattle.giop_message.specs.Headers.{minor}
use Rattle.giop_message.specs.Messages.{typed_if_some}
use Rattle.giop_message.specs.Signatures.{request_type, signatures_of}
use Rattle.giop_message.proofs.Starting.{named_body, request_wants, reply_wants, locate_wants, others_want}
use Rattle.giop_message.proofs.body_type.header_body.Goals as goal

pub returns-then-kind_of-eq0-clause-is : goal.returns-then-kind_of-eq0-clause-is
returns-then-kind_of-eq0-clause-is g c phase r keeps_noted is =
    let C = c.args.catalogue.now in
    let answer = g.Q.Correspondent.answer (g.Q.Correspondent.state c.args.correspondent.now) in
    let request = sym c.kind_of.ensures ∙ c.if-kind_of-eq0.true in
    c.request_body.ensures.is ∙ (ap (λ o. typed_if_some
    (option_and_then (request_type (in_version (minor c.args.header.now) C)) o)) is
    ∙ (named_body C answer phase c.args.header.now (noted_of true r) request
    ∙ sym (request_wants (signatures_of C answer phase) c.args.header.now (noted_of true r)
    request)))

pub returns-then-kind_of-eq1-clause-is : goal.returns-then-kind_of-eq1-clause-is
returns-then-kind_of-eq1-clause-is g c phase r keeps_noted is =
    let S = signatures_of c.args.catalogue.now
    (g.Q.Correspondent.answer (g.Q.Correspondent.state c.args.correspondent.now)) phase in
    c.reply_body.ensures.is phase ∙ (rw (
      c.request_id.ensures c.args.catalogue.now roots.Header r keeps_noted,
      c.status.ensures c.args.catalogue.now roots.Header r keeps_noted,
    )
    (sym (reply_wants S c.args.header.now (noted_of true r)
    (sym c.kind_of-2.ensures ∙ c.if-kind_of-eq1.true))))

pub returns-clause-is : goal.returns-clause-is
returns-clause-is g c phase r keeps_noted is =
    let S = signatures_of c.args.catalogue.now
    (g.Q.Correspondent.answer (g.Q.Correspondent.state c.args.correspondent.now)) phase in
    sym (others_want S c.args.header.now (noted_of true r)
    (λ e. c.if-kind_of-eq0.false (c.kind_of.ensures ∙ e))
    (λ e. c.if-kind_of-eq1.false (c.kind_of-2.ensures ∙ e))
    (λ e. c.if-kind_of-eq4.false (c.kind_of-3.ensures ∙ e)))

pub returns-then-kind_of-eq4-clause-is : goal.returns-then-kind_of-eq4-clause-is
returns-then-kind_of-eq4-clause-is g c phase r keeps_noted is =
    let answer = g.Q.Correspondent.answer (g.Q.Correspondent.state c.args.correspondent.now) in
    let S = signatures_of c.args.catalogue.now answer phase in
    c.locate_body.ensures.is answer phase ∙ (rw
    (c.status-then-kind_of-eq4.ensures c.args.catalogue.now roots.Header r keeps_noted)
    (sym (locate_wants S c.args.header.now (noted_of true r)
    (sym c.kind_of-3.ensures ∙ c.if-kind_of-eq4.true))))
