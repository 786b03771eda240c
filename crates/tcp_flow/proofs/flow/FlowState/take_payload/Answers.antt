use Rattle.std.proofs.Common.{◌≡◌, ◌+◌, ℕ, List, false, true, is_some, nat_eq, not, ◌&&◌, length, refl, sym, ◌∙◌, ap, subst, arith, inl, inr}
use Rattle.std.specs.Prelude.{OnOk}
use Rattle.std.proofs.lemmas.Bool.{or_left, or_right, or_from, not-true, not-false, and_cases, and_parts, both_ways}
use Rattle.tcp_waiting.specs.Numbers.{is_to_come}
use Rattle.tcp_waiting.specs.Payload.{Payload, payload, holds_as_long}
use Rattle.tcp_flow.specs.Flow.{Flow, oldest_held, within_window, without_stale_fin, closed_at_fin, gone_on_with_held, with_held, taken, payload_came}
use Rattle.tcp_flow.proofs.Direct.{came_direct, due_number, gone_on_held, nothing_kept}
use Rattle.tcp_flow.specs.State.{state, IsState}
use Rattle.tcp_flow.proofs.Steps.{came_nothing, came_held}
use Rattle.tcp_flow.proofs.States.{by_state, on_ok_equal, settled_flow}
use Rattle.tcp_flow.proofs.flow.FlowState.take_payload.Goals as goal

pub returns-then-is_empty-clause-does : goal.returns-then-is_empty-clause-does
returns-then-is_empty-clause-does g c f h =
    let F = g.T.Listener.reader in
    let s = c.args.self.now in
    let held = c.args.pool.now.held in
    let p = payload s.id c.args.number c.args.octets.now c.args.arrival in
    let q = payload s.id c.without_old_octets-number.result.0
    c.without_old_octets-number.result.1.now c.args.arrival in
    let G = IsState (g.T.Listener.observed c.args.to.now) s held in
    by_state (λ f. G (payload_came F f p)) _ s held f h (λ events o.
    subst G (sym (came_nothing F (state s held events) p q (c.without_old_octets-number.ensures.left
    c.args.arrival)
    (or_left (nat_eq (length q.octets) 0) (holds_as_long s.id q.number (length q.octets) held)
    (sym c.is_empty.ensures ∙ c.if-is_empty.true))))
    (record { observed = o; same = refl }))

pub returns-then-holds_as_long-clause-does : goal.returns-then-holds_as_long-clause-does
returns-then-holds_as_long-clause-does g c f h =
    let F = g.T.Listener.reader in
    let s = c.args.self.now in
    let held = c.args.pool.now.held in
    let p = payload s.id c.args.number c.args.octets.now c.args.arrival in
    let q = payload s.id c.without_old_octets-number.result.0
    c.without_old_octets-number.result.1.now c.args.arrival in
    let G = IsState (g.T.Listener.observed c.args.to.now) s held in
    by_state (λ f. G (payload_came F f p)) _ s held f h (λ events o.
    subst G (sym (came_nothing F (state s held events) p q (c.without_old_octets-number.ensures.left
    c.args.arrival)
    (or_right (nat_eq (length q.octets) 0) (holds_as_long s.id q.number (length q.octets) held)
    (sym c.holds_as_long.ensures ∙ c.if-holds_as_long.true))))
    (record { observed = o; same = refl }))

pub returns-clause-does : goal.returns-clause-does
unfolding with_held
returns-clause-does g c f h =
    let F = g.T.Listener.reader in
    let s = c.args.self.now in
    let held = c.args.pool.now.held in
    let p = payload s.id c.args.number c.args.octets.now c.args.arrival in
    let q = payload s.id c.without_old_octets-number.result.0
    c.without_old_octets-number.result.1.now c.args.arrival in
    let r = c.keep_within_window-2.result in
    by_state (λ f. OnOk r (IsState (g.T.Listener.observed c.keep_within_window-2.new.to)
    c.keep_within_window-2.new.self c.keep_within_window-2.new.pool.held (payload_came F f p)))
    _ s held f h (λ events o.
    let S = state s held events in
    let H : IsState _ s c.hold.new.self.held (with_held S q) =
    record {
      observed = o;
      same = ap (λ (ps : List Payload). state s ps events)
          c.hold.ensures.held;
    } in
    let n = gone_on_with_held F (with_held S q) in
    let due = and_parts (is_some s.live) (is_to_come s.next q.number)
    (not-false (is_some s.live && is_to_come s.next q.number)
    (sym c.is_due.ensures ∙ c.if-is_due.false)) in
    let start : IsState (g.T.Listener.observed c.args.to.now) s held S =
    record { observed = o; same = refl } in
    let held_on = gone_on_held F S q (settled_flow _ s held S start c.requires.settled) due.0 due.1
    in
    let e = ap (λ (f : Flow). within_window F
    (c.len-count-2.result + 1) f) held_on
    ∙ ap (λ (k : ℕ). within_window F (k + 1) n) c.len-count-2.ensures.held
    ∙ sym (came_held F S p q (c.without_old_octets-number.ensures.left c.args.arrival)
    (or_from (nat_eq (length q.octets) 0) (holds_as_long s.id q.number (length q.octets) held)
    (sym c.is_empty.ensures ∙ c.if-is_empty.false)
    (sym c.holds_as_long.ensures ∙ c.if-holds_as_long.false))) in
    on_ok_equal r _ _ _ _ _ e (c.keep_within_window-2.ensures.does
    (without_stale_fin (closed_at_fin F (with_held S q)))
    (c.in_ok-go_on_with_none_due.ensures.does (with_held S q) H)))

pub returns-then-keeps_nothing-clause-does : goal.returns-then-keeps_nothing-clause-does
unfolding oldest_held
returns-then-keeps_nothing-clause-does g c f h =
    let F = g.T.Listener.reader in
    let s = c.args.self.now in
    let held = c.args.pool.now.held in
    let p = payload s.id c.args.number c.args.octets.now c.args.arrival in
    let q = payload s.id c.without_old_octets-number.result.0
    c.without_old_octets-number.result.1.now c.args.arrival in
    let G = IsState (g.T.Listener.observed c.take.new.to) c.take.new.self held in
    let now : (is_some s.live && (is_to_come s.next q.number)) ≡ false =
    not-true (is_some s.live && (is_to_come s.next q.number))
    (sym c.is_due.ensures ∙ c.if-is_due.true) in
    by_state (λ f. G (payload_came F f p)) _ s held f h (λ events o.
    let S = state s held events in
    let start : IsState _ s held S = record { observed = o; same = refl } in
    let T = c.in_ok-take.ensures.does held S start in
    let direct = came_direct F S p q (c.without_old_octets-number.ensures.left c.args.arrival) refl
    (omega arith)
    (settled_flow _ s held S start c.requires.settled)
    (sym c.is_empty.ensures ∙ c.if-is_empty.false)
    (λ l. due_number s.next (is_some s.live) p q (omega arith) (omega arith) l
    (c.without_old_octets-number.ensures.left c.args.arrival)
    (elim (and_cases (is_some s.live) (is_to_come s.next q.number) now)
    [ inl x ↦ absurd (both_ways (is_some s.live) x l) | inr x ↦ x ]))
    now in
    let none : (not (is_some (oldest_held (taken F S q))) && not (is_some (taken F S q).fin))
    ≡ true =
    subst (λ (f : Flow). (not (is_some (oldest_held f)) && not (is_some f.fin)) ≡ true) T.same
    (sym c.keeps_nothing.ensures ∙ c.if-keeps_nothing.true) in
    subst G (sym (nothing_kept F (length held + 1) (taken F S q) none) ∙ sym direct) T)

pub returns-then-is_due-clause-does : goal.returns-then-is_due-clause-does
returns-then-is_due-clause-does g c f h =
    let F = g.T.Listener.reader in
    let s = c.args.self.now in
    let held = c.args.pool.now.held in
    let p = payload s.id c.args.number c.args.octets.now c.args.arrival in
    let q = payload s.id c.without_old_octets-number.result.0
    c.without_old_octets-number.result.1.now c.args.arrival in
    let r = c.keep_within_window.result in
    let now : (is_some s.live && (is_to_come s.next q.number)) ≡ false =
    not-true (is_some s.live && (is_to_come s.next q.number))
    (sym c.is_due.ensures ∙ c.if-is_due.true) in
    by_state (λ f. OnOk r (IsState (g.T.Listener.observed c.keep_within_window.new.to)
    c.keep_within_window.new.self c.keep_within_window.new.pool.held (payload_came F f p))) _ s
    held f h (λ events o.
    let S = state s held events in
    let start : IsState _ s held S = record { observed = o; same = refl } in
    let n = gone_on_with_held F (taken F S q) in
    let direct = came_direct F S p q (c.without_old_octets-number.ensures.left c.args.arrival) refl
    (omega arith)
    (settled_flow _ s held S start c.requires.settled)
    (sym c.is_empty.ensures ∙ c.if-is_empty.false)
    (λ l. due_number s.next (is_some s.live) p q (omega arith) (omega arith) l
    (c.without_old_octets-number.ensures.left c.args.arrival)
    (elim (and_cases (is_some s.live) (is_to_come s.next q.number) now)
    [ inl x ↦ absurd (both_ways (is_some s.live) x l) | inr x ↦ x ]))
    now in
    let e = ap (λ (k : ℕ). within_window F (k + 1) n) c.len-count.ensures.held
    ∙ sym direct in
    on_ok_equal r _ _ _ _ _ e (c.keep_within_window.ensures.does n
    (c.in_ok-go_on_with_held.ensures.does (taken F S q) (c.in_ok-take.ensures.does held S start))))
