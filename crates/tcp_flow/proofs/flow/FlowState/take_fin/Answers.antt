use Rattle.std.proofs.Common.{◌≡◌, false, Some, is_some, nat_eq, ◌&&◌, refl, sym, ◌∙◌, subst}
use Rattle.std.specs.Prelude.{OnOk}
use Rattle.std.proofs.lemmas.Bool.{cond-true, cond-false, and_left, and_right, and_from, eq-eqb, ne_eqb}
use Rattle.tcp_waiting.specs.Numbers.{age}
use Rattle.tcp_flow.specs.Flow.{gone_on_with_held, fin_came}
use Rattle.tcp_flow.specs.State.{state, IsState}
use Rattle.tcp_flow.proofs.States.{by_state, on_ok_equal, with_fin}
use Rattle.tcp_flow.proofs.flow.FlowState.take_fin.Goals as goal
use Rattle.tcp_flow.proofs.flow.FlowState.take_fin.Goals.{else-is_in_step-via-then-is_in_step+else-age-eq0, else-is_in_step-via-else-is_in_step}

pub returns-then-age-eq0-clause-does : goal.returns-then-age-eq0-clause-does
unfolding fin_came
returns-then-age-eq0-clause-does g c f h =
    let F = g.T.Listener.reader in
    let s = c.args.self.now in
    let n = c.args.number in
    let held = c.args.pool.now.held in
    by_state (λ f. OnOk c.go_on_with_held.result
    (IsState (g.T.Listener.observed c.go_on_with_held.new.to)
    c.go_on_with_held.new.self c.go_on_with_held.new.pool.held (fin_came F f n))) _ s held f h
    (λ events o.
    let S = state s held events in
    on_ok_equal c.go_on_with_held.result _ _ _ _ _
    (sym (cond-true (is_some s.live && (nat_eq (age s.next n) 0))
    (gone_on_with_held F (record S { fin = Some n })) S
    (and_from (is_some s.live) (nat_eq (age s.next n) 0)
    (sym c.is_in_step.ensures ∙ c.if-is_in_step.true)
    (eq-eqb (age s.next n) 0 (sym c.age.ensures ∙ c.if-age-eq0.true)))))
    (c.go_on_with_held.ensures.does _ (with_fin _ s held S (Some n)
    (record { observed = o; same = refl }))))

pub returns-clause-does : goal.returns-clause-does
unfolding fin_came
returns-clause-does g c f h =
    let F = g.T.Listener.reader in
    let s = c.args.self.now in
    let n = c.args.number in
    let held = c.args.pool.now.held in
    let e : (is_some s.live && (nat_eq (age s.next n) 0)) ≡ false =
    elim c.else-is_in_step.branch [
      | else-is_in_step-via-then-is_in_step+else-age-eq0 w ↦ and_right (is_some s.live)
          (nat_eq (age s.next n) 0) (ne_eqb (age s.next n) 0
          (λ z. w.if-age-eq0.false (w.age.ensures ∙ z)))
      | else-is_in_step-via-else-is_in_step w ↦ and_left (is_some s.live) (nat_eq (age s.next n) 0)
          (sym c.is_in_step.ensures ∙ w.if-is_in_step.false)
    ] in
    let G = IsState (g.T.Listener.observed c.args.to.now) s held in
    by_state (λ f. G (fin_came F f n)) _ s held f h (λ events o.
    let S = state s held events in
    subst G (sym (cond-false (is_some s.live && (nat_eq (age s.next n) 0))
    (gone_on_with_held F (record S { fin = Some n })) S e))
    (record { observed = o; same = refl }))
