use Rattle.std.proofs.Common.{◌≡◌, arith, refl, sym, ap, subst, ◌∙◌}
use Rattle.std.proofs.lemmas.Result.{on_ok_weaker}
use Rattle.giop_print.proofs.Writing.{writes_failed}
use Rattle.giop_checkpoint.specs.declared.fault.StreamFault.TheVariants.{StreamLimit}
use Rattle.giop_message.specs.HeaderEnds.{AgreesAtEnds, after_ends}
use Rattle.giop_stream.specs.Rules.{rules_by}
use Rattle.giop_stream.specs.FramingView.{framing_view}
use Rattle.giop_stream.proofs.SlotSteps.AtHeader.{ready_later}
use Rattle.giop_stream.proofs.SlotSteps.Performing.{nothing_text}
use Rattle.giop_stream.proofs.CodeSteps.MessageEnds.{on_err}
use Rattle.giop_stream.proofs.CodeSteps.OutsideMessages.{none_by, ready_stopped, stopped_step, limit_step, ended_text, ended_shows}
use Rattle.giop_stream.proofs.CodeSteps.HeaderEndSteps.{told_stopped, told_limit, told_heads, at_payload, any_ok}
use Rattle.giop_stream.proofs.StreamLines.MoreOctets.{one_run}
use Rattle.giop_stream.proofs.framing.Framing.step.Goals as goal

pub returns-then-is_some-clause-does : goal.returns-then-is_some-clause-does
returns-then-is_some-clause-does g c a s r h agrees =
    rw (stopped_step c.args.catalogue.now a c.args.self.now.slots.slots.most
    (framing_view c.args.self.now) s h c.args.octet
    (sym c.is_some.ensures ∙ c.if-is_some.true)) (record { text = nothing_text _; shows = h })

pub returns-then-self-ge-LIMIT-clause-does : goal.returns-then-self-ge-LIMIT-clause-does
returns-then-self-ge-LIMIT-clause-does g c a s r h agrees =
    let C = c.args.catalogue.now in
    let kept = a in
    let m = framing_view c.args.self.now in
    let free = none_by c.args.self.now.stopped (sym c.is_some.ensures ∙ c.if-is_some.false) in
    rw (limit_step C kept c.args.self.now.slots.slots.most m s h c.args.octet free
    (omega (arith, c.if-self-ge-LIMIT.true))) (record {
      text = rw (← ended_text C kept c.args.self.now.slots.slots.most m s h StreamLimit)
          c.stop_at_fault.ensures.text;
      shows = on_ok_weaker c.stop_at_fault.result (λ e.
          rw e (ended_shows C kept c.args.self.now.slots.slots.most m s h StreamLimit _ refl refl
          refl)) c.stop_at_fault.ensures.state;
    })

pub returns-then-self-ge-LIMIT-clause-ready : goal.returns-then-self-ge-LIMIT-clause-ready
returns-then-self-ge-LIMIT-clause-ready g c =
    on_ok_weaker c.stop_at_fault.result
    (λ e. ready_stopped c.args.catalogue.now _ (framing_view c.stop_at_fault.new.self) StreamLimit _
    e
    (ready_later c.args.catalogue.now _ _ _ (omega arith) c.requires.ready))
    c.stop_at_fault.ensures.state

pub returns-then-is_some-clause-told : goal.returns-then-is_some-clause-told
returns-then-is_some-clause-told g c a s r h agrees =
    told_stopped g.Q.Correspondent.notified c.args.catalogue.now a c.args.self.now.slots.slots.most
    s r (framing_view c.args.self.now) h _ c.args.octet
    (sym c.is_some.ensures ∙ c.if-is_some.true)

pub returns-then-self-ge-LIMIT-clause-told : goal.returns-then-self-ge-LIMIT-clause-told
returns-then-self-ge-LIMIT-clause-told g c =
    any_ok c.stop_at_fault.result (λ _ a s r h agrees.
    told_limit g.Q.Correspondent.notified c.args.catalogue.now a c.args.self.now.slots.slots.most s
    r (framing_view c.args.self.now) h _ c.args.octet
    (none_by c.args.self.now.stopped (sym c.is_some.ensures ∙ c.if-is_some.false))
    (omega (arith, c.if-self-ge-LIMIT.true)))

pub returns-then-len-lt12-clause-told : goal.returns-then-len-lt12-clause-told
returns-then-len-lt12-clause-told g c =
    any_ok c.header_octet.result (λ _ a s r h agrees.
    told_heads g.Q.Correspondent.notified c.args.catalogue.now a c.args.self.now.slots.slots.most s
    r (framing_view c.args.self.now) h _ c.args.octet
    (none_by c.args.self.now.stopped (sym c.is_some.ensures ∙ c.if-is_some.false))
    (omega (arith, c.len.ensures.value, c.if-len-lt12.true)))

pub returns-in_err-payload_octets-clause-does : goal.returns-in_err-payload_octets-clause-does
returns-in_err-payload_octets-clause-does g c a s r h agrees =
    let at = at_payload g.Q.Correspondent.notified c.args.catalogue.now a
    c.args.self.now.slots.slots.most s r (framing_view c.args.self.now) h
    (g.Q.Correspondent.state c.args.correspondent.now) c.args.octet
    (none_by c.args.self.now.stopped (sym c.is_some.ensures ∙ c.if-is_some.false))
    (omega (arith, c.if-self-ge-LIMIT.false)) in
    let agrees_here = subst (AgreesAtEnds g.Q.Correspondent.answer g.Q.Correspondent.notified
    c.args.catalogue.now (g.Q.Correspondent.state c.args.correspondent.now) a) at agrees in
    let t = c.in_err-payload_octets.ensures.does a s r h agrees_here in
    let one : t.n ≡ 1 = omega (arith, t.within, t.some) in
    let does = rw (
      one,
      one_run (rules_by c.args.catalogue.now a
          c.args.self.now.slots.slots.most) s c.args.octet,
    ) at t.all in
    let failed = c.from_residual.ensures.0 in
    record {
      text = writes_failed c.from_residual.result _ _ _ failed does.text;
      shows = on_err _ c.from_residual.result failed;
    }

pub returns-in_ok-payload_octets-clause-does : goal.returns-in_ok-payload_octets-clause-does
returns-in_ok-payload_octets-clause-does g c a s r h agrees =
    let at = at_payload g.Q.Correspondent.notified c.args.catalogue.now a
    c.args.self.now.slots.slots.most s r (framing_view c.args.self.now) h
    (g.Q.Correspondent.state c.args.correspondent.now) c.args.octet
    (none_by c.args.self.now.stopped (sym c.is_some.ensures ∙ c.if-is_some.false))
    (omega (arith, c.if-self-ge-LIMIT.false)) in
    let agrees_here = subst (AgreesAtEnds g.Q.Correspondent.answer g.Q.Correspondent.notified
    c.args.catalogue.now (g.Q.Correspondent.state c.args.correspondent.now) a) at agrees in
    let t = c.in_ok-payload_octets.ensures.does a s r h agrees_here in
    let one : t.n ≡ 1 = omega (arith, t.within, t.some) in
    let does = rw (
      one,
      one_run (rules_by c.args.catalogue.now a
          c.args.self.now.slots.slots.most) s c.args.octet,
    ) at t.all in
    record { text = does.text; shows = does.shows }

pub returns-in_ok-payload_octets-clause-told : goal.returns-in_ok-payload_octets-clause-told
returns-in_ok-payload_octets-clause-told g c a s r h agrees =
    let at = at_payload g.Q.Correspondent.notified c.args.catalogue.now a
    c.args.self.now.slots.slots.most s r (framing_view c.args.self.now) h
    (g.Q.Correspondent.state c.args.correspondent.now) c.args.octet
    (none_by c.args.self.now.stopped (sym c.is_some.ensures ∙ c.if-is_some.false))
    (omega (arith, c.if-self-ge-LIMIT.false)) in
    let agrees_here = subst (AgreesAtEnds g.Q.Correspondent.answer g.Q.Correspondent.notified
    c.args.catalogue.now (g.Q.Correspondent.state c.args.correspondent.now) a) at agrees in
    let ok = c.in_ok-payload_octets.ensures in
    let one : c.in_ok-payload_octets.field-0 ≡ 1 = omega (arith, ok.some, ok.within) in
    rw one at (ok.told a s r h agrees_here)
    ∙ sym (ap (after_ends g.Q.Correspondent.notified c.args.catalogue.now
    (g.Q.Correspondent.state c.args.correspondent.now)) at)
