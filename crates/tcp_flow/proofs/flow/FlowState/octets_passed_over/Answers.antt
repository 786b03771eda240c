use Rattle.std.proofs.Common.{◌≡◌, ◌<◌, length, None, refl, sym, ◌∙◌}
use Rattle.tcp_waiting.proofs.Order.{first_within}
use Rattle.tcp_flow.specs.Flow.{oldest_held, at, octets_passed_over}
use Rattle.tcp_flow.specs.State.{IsState}
use Rattle.tcp_flow.proofs.States.{by_state}
use Rattle.tcp_flow.proofs.flow.FlowState.octets_passed_over.Goals as goal

pub returns-then-not-is_live-clause-does : goal.returns-then-not-is_live-clause-does
unfolding octets_passed_over
returns-then-not-is_live-clause-does g c f h = (
  h,
  by_state (λ f. None ≡ octets_passed_over g.T.Listener.reader f) _ c.args.self.now
      c.args.pool.now.held f h
      (λ events o. rw (sym c.is_live.ensures ∙ c.if-not-is_live.true) refl),
)

pub returns-in_default-clause-does : goal.returns-in_default-clause-does
unfolding octets_passed_over oldest_held
returns-in_default-clause-does g c f h = (
  h,
  by_state (λ f. None ≡ octets_passed_over g.T.Listener.reader f) _ c.args.self.now
      c.args.pool.now.held f h
      (λ events o. rw (
        sym c.is_live.ensures ∙ c.if-not-is_live.false,
        sym c.oldest_index.ensures ∙ c.in_default.is,
      ) refl),
)

pub number-requires : goal.number-requires
number-requires g c =
    let within : c.in-Some.first < length c.args.pool.now.held =
    rw (sym c.oldest_index.ensures ∙ c.in-Some.is) at
    (first_within c.args.self.now.id c.args.self.now.next c.args.pool.now.held) in
    within

pub returns-clause-does : goal.returns-clause-does
unfolding octets_passed_over oldest_held at
returns-clause-does g c f h =
    let G = IsState (g.T.Listener.observed c.message_lacks.new.self) c.args.self.now
    c.args.pool.now.held in
    by_state (λ f. G f × (c.passable_octets.result ≡ octets_passed_over g.T.Listener.reader f)) _
    c.args.self.now
    c.args.pool.now.held f h (λ events o.
    let d = c.in_ok-lacking.ensures.does events o in (
      record { observed = d.0; same = refl },
      rw (
        sym c.is_live.ensures ∙ c.if-not-is_live.false,
        sym c.oldest_index.ensures ∙ c.in-Some.is,
        c.passable_octets.ensures,
        c.number.ensures,
        d.1,
      ) refl,
    ))
