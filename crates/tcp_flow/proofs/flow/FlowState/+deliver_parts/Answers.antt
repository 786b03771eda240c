use Rattle.std.proofs.Common.{◌≡◌, ℕ, ◌-◌, List, length, take, drop, get_or, refl, sym, subst, ap, ◌∙◌}
use Rattle.std.specs.Prelude.{OnOk}
use Rattle.tcp_waiting.specs.Payload.{payload}
use Rattle.tcp_flow.specs.Flow.{all_delivered, cut_up, delivered}
use Rattle.tcp_flow.proofs.States.{by_state, on_ok_equal}
use Rattle.tcp_flow.proofs.Lefts.{cut, whole_tail}
use Rattle.tcp_flow.proofs.Tails.{all_none, all_dead, all_live, cut_first, taken_up}
use Rattle.tcp_flow.specs.State.{state, IsState}
use Rattle.tcp_flow.proofs.flow.FlowState.+deliver_parts.Goals as goal
use Rattle.tcp_flow.proofs.flow.FlowState.+deliver_parts.Goals.{then-is_empty-via-then-is_empty, then-is_empty-via-else-is_empty+then-not-is_live}

pub returns-then-is_empty-clause-does : goal.returns-then-is_empty-clause-does
returns-then-is_empty-clause-does g t c held f arrival h =
    let F = g.T.Listener.reader in
    let s = c.args.self.now in
    let xss = cut_up c.args.octets.now c.args.parts.now in
    let G = IsState (g.T.Listener.observed c.args.to.now) s held in
    by_state (λ f. G (all_delivered F f arrival xss)) _ s held f h (λ events o.
    let S = state s held events in
    let same : all_delivered F S arrival xss ≡ S = elim c.then-is_empty.branch [
      | then-is_empty-via-then-is_empty w ↦ all_none F S arrival c.args.octets.now
          c.args.parts.now (sym c.is_empty.ensures ∙ w.if-is_empty.true)
      | then-is_empty-via-else-is_empty+then-not-is_live w ↦ all_dead F S arrival xss
          (sym w.is_live.ensures ∙ w.if-not-is_live.true)
    ] in
    subst G (sym same) (record { observed = o; same = refl }))

pub returns-clause-does : goal.returns-clause-does
returns-clause-does g t c held f arrival h =
    let F = g.T.Listener.reader in
    let s = c.args.self.now in
    let xs = c.args.octets.now in
    let ks = c.args.parts.now in
    let r = c.deliver_parts.result in
    by_state (λ f. OnOk r (IsState (g.T.Listener.observed c.deliver_parts.new.to)
    c.deliver_parts.new.self held (all_delivered F f arrival (cut_up xs ks)))) _ s held f h
    (λ events o.
    let S = state s held events in
    let k = get_or ks 0 0 in
    let m = c.min-end.ensures in
    let e = ap (λ (zs : List ℕ). all_delivered F (delivered F S (payload s.id s.next zs arrival))
    arrival (cut_up (take (length xs - c.min-end.result) (drop c.min-end.result xs))
    (take (length ks - 1) (drop 1 ks)))) (taken_up k c.min-end.result xs m)
    ∙ ap (λ (zs : List ℕ). all_delivered F (delivered F S (payload s.id s.next (take k xs) arrival))
    arrival (cut_up zs (take (length ks - 1) (drop 1 ks)))) (cut k c.min-end.result xs m)
    ∙ ap (λ (zs : List ℕ). all_delivered F (delivered F S (payload s.id s.next (take k xs) arrival))
    arrival (cut_up (drop k xs) zs)) (whole_tail ks 1)
    ∙ sym (ap (all_delivered F S arrival) (cut_first xs ks
    (sym c.is_empty.ensures ∙ c.if-is_empty.false))
    ∙ all_live F S arrival (take k xs) (cut_up (drop k xs) (drop 1 ks))
    (sym c.is_live.ensures ∙ c.if-not-is_live.false)) in
    on_ok_equal r _ _ held _ _ e
    (c.deliver_parts.ensures.does held _ arrival (c.in_ok-deliver.ensures.does held S arrival
    (record { observed = o; same = refl }))))
