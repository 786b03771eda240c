use Rattle.std.proofs.Common.{◌≡◌, arith, [], ◌∷◌, ◌++◌, length, refl, sym, ap, subst, ◌∙◌}
use Rattle.std.proofs.lemmas.Result.{on_ok_weaker}
use Rattle.giop_print.proofs.Writing.{wrote-nil}
use Rattle.giop_stream.specs.HeaderOctets.{last_octet_fault}
use Rattle.giop_stream.specs.EngineView.{FramingView}
use Rattle.giop_stream.specs.FramingView.{framing_view}
use Rattle.giop_stream.specs.EngineStep.{header_octet_step}
use Rattle.giop_stream.specs.ViewOfState.{Shows}
use Rattle.giop_stream.proofs.SlotSteps.AtHeader.{ready_later}
use Rattle.giop_stream.proofs.CodeSteps.OutsideMessages.{pushed_is, ready_stopped, ended_text, ended_shows, wrong_step, held_step, held_shows, held_text}
use Rattle.giop_stream.proofs.framing.Framing.header_octet.Goals as goal

pub returns-in-Some-clause-does : goal.returns-in-Some-clause-does
returns-in-Some-clause-does g c =
    λ l s r h.
    let C = c.args.catalogue.now in
    let m = framing_view c.args.self.now in
    let x = c.args.octet in
    let w = ap last_octet_fault (sym (c.as_slice.ensures.value ∙ c.push.ensures.items))
    ∙ (sym c.last_octet_fault.ensures ∙ c.in-Some.is) in
    rw (wrong_step C l c.args.self.now.slots.slots.most m s h x c.requires.running c.requires.limit
    c.requires.held c.in-Some.fault w) (record {
      text = rw (← ended_text C l c.args.self.now.slots.slots.most m s h c.in-Some.fault)
          c.stop_at_fault.ensures.text;
      shows = on_ok_weaker c.stop_at_fault.result (λ e.
          rw e (ended_shows C l c.args.self.now.slots.slots.most m s h c.in-Some.fault _ refl refl
          refl)) c.stop_at_fault.ensures.state;
    })

pub returns-in-Some-clause-ready : goal.returns-in-Some-clause-ready
returns-in-Some-clause-ready g c =
    on_ok_weaker c.stop_at_fault.result (λ e. ready_stopped c.args.catalogue.now _
    (framing_view c.stop_at_fault.new.self) c.in-Some.fault _ e
    (ready_later c.args.catalogue.now _ _ _ (omega arith) c.requires.ready))
    c.stop_at_fault.ensures.state

pub returns-then-len-eq12-clause-does : goal.returns-then-len-eq12-clause-does
returns-then-len-eq12-clause-does g c = λ l s r h.
    let m = framing_view c.args.self.now in
    c.begin_at_header_end.ensures.does l s m c.args.octet r h
    (pushed_is m c.args.octet c.push.new.self.items c.push.ensures.items)

pub returns-clause-does : goal.returns-clause-does
returns-clause-does g c =
    λ l s r h.
    let C = c.args.catalogue.now in
    let m = framing_view c.args.self.now in
    let x = c.args.octet in
    let w = ap last_octet_fault (sym (c.as_slice.ensures.value ∙ c.push.ensures.items))
    ∙ (sym c.last_octet_fault.ensures ∙ c.in_default.is) in
    let other : length (m.header ++ x ∷ []) ≡ 12 → ⊥ =
    λ e. c.if-len-eq12.false (c.len.ensures.value ∙ (ap length c.push.ensures.items ∙ e)) in
    let few = c.requires.held in
    rw (held_step C l c.args.self.now.slots.slots.most m s h x c.requires.running c.requires.limit
    few w other) (record {
      text = rw (held_text C l c.args.self.now.slots.slots.most m s h x c.requires.running
          c.requires.limit few) (wrote-nil _);
      shows = subst (λ (n : FramingView). Shows C l n (header_octet_step s (m.header ++ x
          ∷ [])).state)
          (sym (pushed_is m x c.push.new.self.items c.push.ensures.items))
          (held_shows C l c.args.self.now.slots.slots.most m s h x c.requires.running
          c.requires.limit few other);
    })

pub returns-clause-ready : goal.returns-clause-ready
returns-clause-ready g c = ready_later c.args.catalogue.now _ _ _ (omega arith) c.requires.ready
