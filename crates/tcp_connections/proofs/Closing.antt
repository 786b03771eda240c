-- After all streams have closed, no flow has a live stream or waits for one.
use Rattle.std.proofs.Common.{◌≡◌, ◌⊎◌, ℕ, suc, ◌+◌, ◌<◌, Bool, true, false, cond, nat_eq, List, [], ◌∷◌, length, drop, get_or, Option, Some, None, is_some, refl, sym, ◌∙◌, ap, subst, arith, inl, inr, true≢false, add-one, get_or-set_same, get_or-set_other}
use Rattle.std.proofs.Math.Seq.{drop-cons}
use Rattle.std.specs.Prelude.{Result, Ok, Err, OnOk}
use Rattle.std.proofs.lemmas.Bool.{cases_Bool, cases_eq, cond-true, cond-false, ne_eqb}
use Rattle.tcp_flow.specs.declared.flow.CloseCause.{CloseCause}
use Rattle.tcp_flow.specs.declared.flow.CloseCause.TheVariants.{Gap, End}
use Rattle.tcp_flow.specs.declared.flow.FlowState.{FlowState}
use Rattle.tcp_flow.specs.declared.flow.ListenerError.{ListenerError}
use Rattle.tcp_flow.specs.Flow.{Flow, Event, Closes, closed, stream_closed, out_of_step, with_event, lives as has_stream}
use Rattle.tcp_flow.specs.State.{state}
use Rattle.tcp_flow.proofs.Room.{closed_dead}
use Rattle.tcp_streams.specs.Lives.{lives, lives_behind, with_closed}
use Rattle.tcp_streams.proofs.Order.{lives_more}
use Rattle.tcp_connections.specs.declared.connections.Connections.{Connections}
use Rattle.tcp_connections.specs.Connections.{State, flow_at, flow_state, stream_start_of, stream_start_at, with_flow, closed_at, end_cause, all_closed}
use Rattle.tcp_connections.specs.State.{IsAt, times}
use Rattle.tcp_connections.proofs.Cases.{closed_none, closed_some}
use Rattle.tcp_connections.proofs.Sound.{some_within}

none_is : (o : Option ℕ) → is_some o ≡ false → o ≡ None
none_is None e = refl
none_is (Some n) e = absurd (true≢false e)

-- ---- What is true of flows that are out of step and of those that don't exist is true of all at
-- the end.

module _ (Q : Option FlowState → Type 0) (none : Q None)
    (gives : (s : FlowState) → s.live ≡ None → Q (Some s)) where
  -- a flow that closes is out of step
  closed_quiet : (w : State) (id : ℕ) (cause : CloseCause) → Q (flow_at (closed_at w id cause) id)
  unfolding with_flow
  closed_quiet w id cause = by (flow_at w id) refl
    where
      by : (o : Option FlowState) → flow_at w id ≡ o → Q (flow_at (closed_at w id cause) id)
      by None e = subst (λ (v : State). Q (flow_at v id)) (sym (closed_none w id cause e))
          (subst Q (sym e) none)
      by (Some s) e =
          let g : Flow = closed (state s w.held w.events) cause in
          subst (λ (v : State). Q (flow_at v id)) (sym (closed_some w id cause s e))
          (subst Q (sym (get_or-set_same w.flows id (Some (flow_state g)) None
          (some_within w.flows id s e)))
          (gives (flow_state g)
          (none_is g.live (closed_dead (state s w.held w.events) cause))))

  -- other flows stay
  beside_quiet : (w : State) (id j : ℕ) (cause : CloseCause) → (j ≡ id → ⊥) → Q (flow_at w j) →
      Q (flow_at (closed_at w id cause) j)
  unfolding with_flow
  beside_quiet w id j cause apart q = by (flow_at w id) refl
    where
      by : (o : Option FlowState) → flow_at w id ≡ o → Q (flow_at (closed_at w id cause) j)
      by None e = subst (λ (v : State). Q (flow_at v j)) (sym (closed_none w id cause e)) q
      by (Some s) e =
          let g : Flow = closed (state s w.held w.events) cause in
          subst (λ (v : State). Q (flow_at v j)) (sym (closed_some w id cause s e))
          (subst Q (sym (get_or-set_other w.flows id j (Some (flow_state g)) None apart)) q)

  pub all_quiet : (ids : List ℕ) (w : State) (j : ℕ) → (0 < times j ids) ⊎ Q (flow_at w j) →
      Q (flow_at (all_closed ids w) j)
  unfolding all_closed times
  all_quiet [] w j (inl l) = absurd (omega (arith, l))
  all_quiet [] w j (inr q) = q
  all_quiet (id ∷ ids) w j h =
      let cause : CloseCause = end_cause (flow_at w id) in
      let v : State = closed_at w id cause in
      all_quiet ids v j (elim (cases_eq j id) [
        | inl y ↦ inr (subst (λ (n : ℕ). Q (flow_at v n)) (sym y) (closed_quiet w id cause))
        | inr n ↦ elim h [
          | inl l ↦
              (let other : ◌≡◌ {A = ℕ} (cond (nat_eq id j) 1 0) 0 =
              rw (ne_eqb id j (λ o. n (sym o))) refl in
              inl (omega (arith, l, other)))
          | inr q ↦ inr (beside_quiet w id j cause n q)
        ]
      ])

-- ---- The end of a capture.

-- a stream that closes at the end keeps its place in the order
keeps_index : (w : State) (id : ℕ) (s : FlowState) (cause : CloseCause) → flow_at w id ≡ Some s →
    ((xs : List ℕ) → with_closed s.id cause xs ≡ xs)
    → lives (closed (state s w.held w.events) cause).events ≡ lives w.events
unfolding closed with_event lives_behind
keeps_index w id s cause e keeps =
    let f : Flow = state s w.held w.events in
    elim (cases_Bool (has_stream s.live s.waits)) [
      | inl y ↦ ap (λ (g : Flow). lives g.events)
          (cond-true (has_stream s.live s.waits) (stream_closed f f.next cause) (out_of_step f) y)
          ∙ lives_more [] w.events (Closes s.id cause) ∙ keeps (lives w.events)
      | inr z ↦ ap (λ (g : Flow). lives g.events)
          (cond-false (has_stream s.live s.waits) (stream_closed f f.next cause) (out_of_step f) z)
    ]

end_keeps : (b : Bool) (id : ℕ) (xs : List ℕ) → with_closed id (cond b Gap End) xs ≡ xs
end_keeps true id xs = refl
end_keeps false id xs = refl

pub end_lives : (w : State) (id : ℕ) →
    lives (closed_at w id (end_cause (flow_at w id))).events ≡ lives w.events
unfolding with_flow end_cause
end_lives w id = by (flow_at w id) refl
  where
    by : (o : Option FlowState) → flow_at w id ≡ o →
        lives (closed_at w id (end_cause (flow_at w id))).events ≡ lives w.events
    by None e = ap (λ (v : State). lives v.events) (closed_none w id (end_cause (flow_at w id)) e)
    by (Some s) e =
        ap (λ (o : Option FlowState). lives (closed_at w id (end_cause o)).events) e
        ∙ ap (λ (v : State). lives v.events) (closed_some w id (end_cause (Some s)) s e)
        ∙ keeps_index w id s (end_cause (Some s)) e (λ xs. end_keeps (is_some s.fin) s.id xs)

-- one more stream closes
pub closes_next : (xs : List ℕ) (i : ℕ) (w : State) → i < length xs →
    all_closed (drop i xs) w ≡ all_closed (drop (i + 1) xs)
    (closed_at w (get_or xs i 0) (end_cause (flow_at w (get_or xs i 0))))
unfolding all_closed
closes_next xs i w l =
    let d : drop i xs ≡ get_or xs i 0 ∷ drop (suc i) xs = drop-cons xs i 0 l in
    rw (add-one, d) refl

-- the code is at the end of a capture
pub none_at_end : {X : Type 0} (r : Result X ListenerError) (O : List Event → Type 0)
    (live : List ℕ) (c : Connections) (w : State)
    → ((id : ℕ) → is_some (stream_start_at w id) ≡ true → 0 < times id (lives w.events))
    → OnOk r (IsAt O live c (all_closed (lives w.events) w))
    → OnOk r ((id : ℕ) → stream_start_of (get_or c.flows.states.items id None) ≡ None)
unfolding stream_start_of
none_at_end (Ok x) O live c w told h = λ id.
    ap (λ (v : State). stream_start_at v id) h.same
    ∙ all_quiet (λ o. stream_start_of o ≡ None) refl (λ s e. e) (lives w.events) w id
    (elim (cases_Bool (is_some (stream_start_at w id))) [
      | inl y ↦ inl (told id y)
      | inr z ↦ inr (none_is (stream_start_at w id) z)
    ])
none_at_end (Err x) O live c w told h = tt
