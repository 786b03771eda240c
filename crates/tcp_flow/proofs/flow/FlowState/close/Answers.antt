use Rattle.std.proofs.Common.{refl, sym, subst, ◌∙◌}
use Rattle.std.proofs.lemmas.Bool.{cond-true, cond-false}
use Rattle.tcp_flow.specs.Flow.{with_event, lives, out_of_step, stream_closed, closed}
use Rattle.tcp_flow.specs.State.{state, IsState}
use Rattle.tcp_flow.proofs.States.{by_state}
use Rattle.tcp_flow.proofs.Truth.{closed_true}
use Rattle.tcp_flow.proofs.flow.FlowState.close.Goals as goal

pub returns-in_ok-on_close-clause-does : goal.returns-in_ok-on_close-clause-does
unfolding closed with_event
returns-in_ok-on_close-clause-does g c held f h =
    let G = IsState (g.T.Listener.observed c.on_close.new.self) _ held in
    by_state (λ f. G (closed f c.args.cause)) _ c.args.self.now held f h (λ events o.
    let s = state c.args.self.now held events in
    subst G (sym (cond-true (lives s.live s.waits) (stream_closed s s.next c.args.cause)
    (out_of_step s)
    (sym c.is_live-is_live.ensures ∙ c.if-is_live.true)))
    (record { observed = c.in_ok-on_close.ensures.does events o; same = refl }))

pub returns-else-is_live-clause-does : goal.returns-else-is_live-clause-does
unfolding closed with_event
returns-else-is_live-clause-does g c held f h =
    let G = IsState (g.T.Listener.observed c.args.to.now) _ held in
    by_state (λ f. G (closed f c.args.cause)) _ c.args.self.now held f h (λ events o.
    let s = state c.args.self.now held events in
    subst G (sym (cond-false (lives s.live s.waits) (stream_closed s s.next c.args.cause)
    (out_of_step s)
    (sym c.is_live-is_live.ensures ∙ c.if-is_live.false)))
    (record { observed = o; same = refl }))

pub returns-in_ok-on_close-clause-gapless : goal.returns-in_ok-on_close-clause-gapless
returns-in_ok-on_close-clause-gapless g c payloads held f h t =
    closed_true payloads f c.args.cause t

pub returns-else-is_live-clause-gapless : goal.returns-else-is_live-clause-gapless
returns-else-is_live-clause-gapless g c payloads held f h t =
    closed_true payloads f c.args.cause t
