use Rattle.std.proofs.Common.{None, is_some, refl, sym, subst, ◌∙◌}
use Rattle.std.specs.Prelude.{OnOk}
use Rattle.std.proofs.lemmas.Bool.{cond-true, cond-false}
use Rattle.tcp_flow.specs.declared.flow.CloseCause.TheVariants.{Fin}
use Rattle.tcp_flow.specs.Flow.{closed_at_fin, closed, drained_due, fin_is_reached}
use Rattle.tcp_flow.specs.State.{state, IsState}
use Rattle.tcp_flow.proofs.States.{by_state, on_ok_equal, with_fin}
use Rattle.tcp_flow.proofs.flow.FlowState.close_at_fin.Goals as goal

pub returns-then-fin_is_reached-clause-does : goal.returns-then-fin_is_reached-clause-does
unfolding closed_at_fin
returns-then-fin_is_reached-clause-does g c f h =
    let F = g.T.Listener.reader in
    let s = c.args.self.now in
    let held = c.args.pool.now.held in
    by_state (λ f. OnOk c.drain_due.result (IsState (g.T.Listener.observed c.drain_due.new.to)
    c.drain_due.new.self c.drain_due.new.pool.held (closed_at_fin F f))) _ s held f h (λ events o.
    let S = state s held events in
    on_ok_equal c.drain_due.result _ _ _ _ _
    (sym (cond-true (fin_is_reached s.next (is_some s.live) s.fin)
    (drained_due F (record (closed S Fin) { fin = None })) S
    (sym c.fin_is_reached.ensures ∙ c.if-fin_is_reached.true)))
    (c.drain_due.ensures.does _ (with_fin _ _ held (closed S Fin) None
    (c.in_ok-close.ensures.does held S (record { observed = o; same = refl })))))

pub returns-clause-does : goal.returns-clause-does
unfolding closed_at_fin
returns-clause-does g c f h =
    let F = g.T.Listener.reader in
    let s = c.args.self.now in
    let held = c.args.pool.now.held in
    let G = IsState (g.T.Listener.observed c.args.to.now) s held in
    by_state (λ f. G (closed_at_fin F f)) _ s held f h (λ events o.
    let S = state s held events in
    subst G (sym (cond-false (fin_is_reached s.next (is_some s.live) s.fin)
    (drained_due F (record (closed S Fin) { fin = None })) S
    (sym c.fin_is_reached.ensures ∙ c.if-fin_is_reached.false)))
    (record { observed = o; same = refl }))
