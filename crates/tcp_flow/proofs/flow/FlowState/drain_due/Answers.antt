use Rattle.std.proofs.Common.{◌≡◌, ◌<◌, List, true, false, length, refl, sym, ◌∙◌, ap, subst, arith}
use Rattle.std.specs.List.{remove}
use Rattle.tcp_waiting.specs.Payload.{Payload, payload}
use Rattle.tcp_flow.specs.Flow.{Flow, Event, oldest_held, at, is_due, drained_at_most, drained_due, taken}
use Rattle.tcp_flow.specs.State.{state, IsState}
use Rattle.tcp_waiting.proofs.Order.{first_within}
use Rattle.tcp_flow.proofs.Steps.{flowing_none, flowing_stays, drain_takes, length_remove, due_now, due_reached, due_not}
use Rattle.tcp_flow.proofs.States.{by_state, held_of}
use Rattle.tcp_flow.proofs.flow.FlowState.drain_due.Goals as goal
use Rattle.tcp_flow.proofs.flow.FlowState.drain_due.Goals.{else-is_in_step-via-then-is_in_step+else-is_to_come, else-is_in_step-via-else-is_in_step}

pub loop-first-init : goal.loop-first-init
unfolding drained_due
loop-first-init g c = (
  c.oldest_index-first.ensures,
  (λ f h. (
    f,
    (
      h,
      ap (λ (ps : List Payload). drained_at_most g.T.Listener.reader (length ps) f)
          (held_of _ _ _ f h),
    ),
  )),
  refl,
  refl,
)

pub number-number-requires : goal.number-number-requires
number-number-requires g c =
    let within : c.in-Some.index < length c.loop-first.pool.held =
    rw (sym c.loop-first.invariant.0 ∙ c.in-Some.is) at
    (first_within c.loop-first.self.id c.loop-first.self.next c.loop-first.pool.held) in
    within

pub returns-then-is_to_come-clause-does : goal.returns-then-is_to_come-clause-does
unfolding oldest_held at
returns-then-is_to_come-clause-does g c f h =
    let F = g.T.Listener.reader in
    let s = c.loop-first.self in
    let held = c.loop-first.pool.held in
    let G = IsState (g.T.Listener.observed c.loop-first.to) s held in
    let i = c.loop-first.invariant.1 f h in
    by_state (λ d. drained_at_most F (length held) d ≡ drained_due F f → G (drained_due F f)) _ s
    held i.0
    i.1.0 (λ events o e.
    let d : is_due (state s held events) c.in-Some.index ≡ false =
    due_not (state s held events) c.in-Some.index (sym c.is_in_step.ensures ∙ c.if-is_in_step.true)
    (rw (← c.number-number.ensures, ← c.is_to_come.ensures) c.if-is_to_come.true) in
    subst G (sym (flowing_stays F (length held) (state s held events) c.in-Some.index
    (sym c.loop-first.invariant.0 ∙ c.in-Some.is) d) ∙ e)
    (record { observed = o; same = refl })) i.1.1

pub octets-requires : goal.octets-requires
octets-requires g c =
    let within : c.in-Some.index < length c.loop-first.pool.held =
    rw (sym c.loop-first.invariant.0 ∙ c.in-Some.is) at
    (first_within c.loop-first.self.id c.loop-first.self.next c.loop-first.pool.held) in
    within

pub arrival-requires : goal.arrival-requires
arrival-requires g c =
    let within : c.in-Some.index < length c.loop-first.pool.held =
    rw (sym c.loop-first.invariant.0 ∙ c.in-Some.is) at
    (first_within c.loop-first.self.id c.loop-first.self.next c.loop-first.pool.held) in
    within

pub remove-requires : goal.remove-requires
remove-requires g c =
    let within : c.in-Some.index < length c.loop-first.pool.held =
    rw (sym c.loop-first.invariant.0 ∙ c.in-Some.is) at
    (first_within c.loop-first.self.id c.loop-first.self.next c.loop-first.pool.held) in
    within

pub loop-first-smaller : goal.loop-first-smaller
loop-first-smaller g c =
    let within : c.in-Some.index < length c.loop-first.pool.held =
    rw (sym c.loop-first.invariant.0 ∙ c.in-Some.is) at
    (first_within c.loop-first.self.id c.loop-first.self.next c.loop-first.pool.held) in
    omega (
      arith,
      length_remove c.loop-first.pool.held c.in-Some.index within,
      ap length c.remove.ensures.held,
    )

pub loop-first-preserved : goal.loop-first-preserved
unfolding at
loop-first-preserved g c =
    let F = g.T.Listener.reader in
    let s = c.loop-first.self in
    let held = c.loop-first.pool.held in
    let index = c.in-Some.index in
    let rest = remove held index in
    let due : (events : List Event) → is_due (state s held events) index ≡ true = λ events.
    elim c.else-is_in_step.branch [
      | else-is_in_step-via-then-is_in_step+else-is_to_come w ↦
          due_reached (state s held events) index
          (rw (← c.number-number.ensures, ← w.is_to_come.ensures) w.if-is_to_come.false)
      | else-is_in_step-via-else-is_in_step w ↦ due_now (state s held events) index
          (sym c.is_in_step.ensures ∙ w.if-is_in_step.false)
    ] in (
      c.oldest_index-first-in-Some.ensures,
      (λ f h.
          let i = c.loop-first.invariant.1 f h in
          by_state (λ d. drained_at_most F (length held) d ≡ drained_due F f → (n : Flow)
          × (IsState (g.T.Listener.observed c.take.new.to) c.take.new.self
          c.remove.new.self.held n × (drained_at_most F (length c.remove.new.self.held) n
          ≡ drained_due F f))) _ s held i.0 i.1.0 (λ events o e.
          let t = c.in_ok-take.ensures.does rest (state s rest events)
          (record { observed = o; same = refl }) in
          let n = taken F (state s rest events)
          (payload s.id c.number-number.result c.octets.result.now c.arrival.result) in
          let same : n ≡ taken F (state s rest events)
          (payload s.id (at (state s held events) index).number
          (at (state s held events) index).octets (at (state s held events) index).arrival) =
          rw (← c.number-number.ensures, ← c.octets.ensures, ← c.arrival.ensures) refl in
          let e' = drain_takes F (state s held events) n index
          (sym c.loop-first.invariant.0 ∙ c.in-Some.is) (due events) same in
          (n, (rw c.remove.ensures.held t, rw c.remove.ensures.held (sym e' ∙ e)))) i.1.1),
      c.take.ensures.id ∙ c.loop-first.invariant.2,
      c.remove.ensures.blocks ∙ c.loop-first.invariant.3,
    )

pub returns-clause-does : goal.returns-clause-does
unfolding oldest_held
returns-clause-does g c f h =
    let F = g.T.Listener.reader in
    let s = c.loop-first.self in
    let held = c.loop-first.pool.held in
    let G = IsState (g.T.Listener.observed c.loop-first.to) s held in
    let i = c.loop-first.invariant.1 f h in
    by_state (λ d. drained_at_most F (length held) d ≡ drained_due F f → G (drained_due F f)) _ s
    held i.0
    i.1.0 (λ events o e.
    subst G (sym (flowing_none F (length held) (state s held events)
    (sym c.loop-first.invariant.0 ∙ c.in_default.is)) ∙ e)
    (record { observed = o; same = refl })) i.1.1
