use Rattle.std.proofs.Common.{refl, sym, subst, ◌∙◌}
use Rattle.tcp_waiting.specs.Payload.{payload}
use Rattle.tcp_flow.specs.Flow.{with_event, delivered}
use Rattle.tcp_flow.specs.State.{state, IsState}
use Rattle.tcp_flow.proofs.States.{by_state, delivered_on, delivered_fault}
use Rattle.tcp_flow.proofs.flow.FlowState.deliver.Goals as goal

pub returns-in_ok-on_close-clause-does : goal.returns-in_ok-on_close-clause-does
unfolding with_event
returns-in_ok-on_close-clause-does g c held f arrival h =
    let F = g.T.Listener.reader in
    let p = payload c.args.self.now.id c.args.number c.args.octets.now arrival in
    let G = IsState (g.T.Listener.observed c.on_close.new.self) _ held in
    by_state (λ f. G (delivered F f p)) _ c.args.self.now held f h (λ events o.
    let d = c.in_ok-at.ensures.does events o in
    subst G (sym (delivered_fault F (state c.args.self.now held events) p c.in-Some.at
    (sym d.1 ∙ c.in-Some.is)))
    (record {
      observed = c.in_ok-on_close.ensures.does _ d.0;
      same = rw (c.number_after_octet-self.ensures, c.onward-self.ensures) refl;
    }))

pub returns-in_default-clause-does : goal.returns-in_default-clause-does
unfolding with_event
returns-in_default-clause-does g c held f arrival h =
    let F = g.T.Listener.reader in
    let p = payload c.args.self.now.id c.args.number c.args.octets.now arrival in
    let G = IsState (g.T.Listener.observed c.on_octets.new.self) _ held in
    by_state (λ f. G (delivered F f p)) _ c.args.self.now held f h (λ events o.
    let d = c.in_ok-at.ensures.does events o in
    subst G (sym (delivered_on F (state c.args.self.now held events) p
    (sym d.1 ∙ c.in_default.is)))
    (record { observed = d.0; same = rw c.onward-self.ensures refl }))
