use Rattle.std.proofs.Common.{refl, sym, subst, ◌∙◌}
use Rattle.std.specs.Prelude.{OnOk}
use Rattle.tcp_waiting.specs.Payload.{payload}
use Rattle.tcp_flow.specs.Flow.{with_event, with_arrival_told, begun_if_awaited, delivered, taken}
use Rattle.tcp_flow.proofs.Steps.{taken_none, taken_live, taken_dead}
use Rattle.tcp_flow.proofs.States.{by_state, on_ok_equal}
use Rattle.tcp_flow.specs.State.{state, IsState}
use Rattle.tcp_flow.proofs.flow.FlowState.take.Goals as goal

pub returns-then-is_empty-clause-does : goal.returns-then-is_empty-clause-does
returns-then-is_empty-clause-does g c held f h =
    let F = g.T.Listener.reader in
    let p = payload c.args.self.now.id c.args.number c.args.octets.now c.args.arrival in
    let q = payload c.args.self.now.id c.without_old_octets-number.result.0
    c.without_old_octets-number.result.1.now
    c.args.arrival in
    let G = IsState (g.T.Listener.observed c.args.to.now) c.args.self.now held in
    by_state (λ f. G (taken F f p)) _ c.args.self.now held f h (λ events o.
    subst G (sym (taken_none F (state c.args.self.now held events) p q
    (c.without_old_octets-number.ensures.left c.args.arrival)
    (sym c.is_empty.ensures ∙ c.if-is_empty.true)))
    (record { observed = o; same = refl }))

pub returns-then-is_in_step-clause-does : goal.returns-then-is_in_step-clause-does
unfolding with_arrival_told with_event delivered
returns-then-is_in_step-clause-does g c held f h =
    let F = g.T.Listener.reader in
    let p = payload c.args.self.now.id c.args.number c.args.octets.now c.args.arrival in
    let q = payload c.args.self.now.id c.without_old_octets-number.result.0
    c.without_old_octets-number.result.1.now
    c.args.arrival in
    by_state (λ f. OnOk c.deliver.result (IsState (g.T.Listener.observed c.deliver.new.to)
    c.deliver.new.self held (taken F f p))) _ c.args.self.now held f h (λ events o.
    on_ok_equal c.deliver.result _ _ held _ _
    (sym (taken_live F (state c.args.self.now held events) p q
    (c.without_old_octets-number.ensures.left c.args.arrival)
    (sym c.is_empty.ensures ∙ c.if-is_empty.false)
    (sym c.is_in_step.ensures ∙ c.if-is_in_step.true)))
    (c.deliver.ensures.does held (begun_if_awaited
    (with_arrival_told (state c.args.self.now held events) p))
    c.args.arrival
    (c.in_ok-begin_if_awaited.ensures.does held
    (with_arrival_told (state c.args.self.now held events) p)
    (record { observed = c.on_arrival.ensures events o; same = refl }))))

pub returns-clause-does : goal.returns-clause-does
unfolding with_arrival_told with_event
returns-clause-does g c held f h =
    let F = g.T.Listener.reader in
    let p = payload c.args.self.now.id c.args.number c.args.octets.now c.args.arrival in
    let q = payload c.args.self.now.id c.without_old_octets-number.result.0
    c.without_old_octets-number.result.1.now
    c.args.arrival in
    let r = c.look_through.result in
    by_state (λ f. OnOk r (IsState (g.T.Listener.observed c.look_through.new.to)
    c.look_through.new.self held (taken F f p))) _ c.args.self.now held f h (λ events o.
    on_ok_equal r _ _ held _ _
    (sym (taken_dead F (state c.args.self.now held events) p q
    (c.without_old_octets-number.ensures.left c.args.arrival)
    (sym c.is_empty.ensures ∙ c.if-is_empty.false)
    (sym c.is_in_step.ensures ∙ c.if-is_in_step.false)))
    (c.look_through.ensures.does held (with_arrival_told (state c.args.self.now held events) p)
    c.args.arrival (record { observed = c.on_arrival.ensures events o; same = refl })))
