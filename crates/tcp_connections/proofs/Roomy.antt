-- The number of slots stays, and each event is in a flow of one of them.
use Rattle.std.proofs.Common.{◌≡◌, ℕ, ◌+◌, ◌*◌, ◌/◌, ◌≤◌, Bool, true, false, cond, List, [], ◌∷◌, length, Option, Some, None, is_some, refl, sym, ◌∙◌, ap, inl, inr, arith, true≢false}
use Rattle.std.specs.List.{AllByRecursion}
use Rattle.std.proofs.lemmas.Bool.{cases_lt}
use Rattle.tcp_segment.specs.Segments.{Segment}
use Rattle.tcp_flow.specs.declared.flow.CloseCause.{CloseCause}
use Rattle.tcp_flow.specs.declared.flow.FlowState.{FlowState}
use Rattle.tcp_flow.specs.Flow.{Event, Opens, Begins, Delivers, Closes, OfCapture, Reader, closed, with_gap}
use Rattle.tcp_flow.specs.State.{state}
use Rattle.tcp_streams.specs.Lives.{lives}
use Rattle.tcp_connections.specs.Connections.{State, flow_at, with_flow, gapped, closed_at, step, after, gaps_from, ended}
use Rattle.tcp_connections.specs.Gapless.{HaveSlots}
use Rattle.tcp_connections.specs.Owned.{Standing, Unopened, Idle, Live, owner, is_of, behind, MayCome, standing, AllMayCome}
pub use Rattle.tcp_connections.proofs.Counted.{slots_in, step_slots}
use Rattle.tcp_connections.proofs.FollowOwned.{is_there}
use Rattle.tcp_connections.proofs.Owners.{IsOwned}
use Rattle.tcp_connections.proofs.Repeated.{gaps_keep, closes_keep}

-- ---- There are as many slots as before.

pub after_slots : (F : Reader) (w : State) (ss : List Segment) →
    slots_in (after F w ss) ≡ slots_in w
unfolding after
after_slots F w [] = refl
after_slots F w (s ∷ ss) = after_slots F (step F w s) ss ∙ step_slots F w s

gapped_slots : (F : Reader) (w : State) (id : ℕ) → slots_in (gapped F w id) ≡ slots_in w
unfolding gapped with_flow
gapped_slots F w id =
    elim (flow_at w id) as (λ (o : Option FlowState). slots_in (elim o [
      | None ↦ w
      | Some s ↦ with_flow w id (with_gap F (state s w.held w.events))
    ]) ≡ slots_in w) [ None ↦ refl | Some s ↦ refl ]

closed_slots : (w : State) (id : ℕ) (cause : CloseCause) →
    slots_in (closed_at w id cause) ≡ slots_in w
unfolding closed_at with_flow
closed_slots w id cause =
    elim (flow_at w id) as (λ (o : Option FlowState). slots_in (elim o [
      | None ↦ w
      | Some s ↦ with_flow w id (closed (state s w.held w.events) cause)
    ]) ≡ slots_in w) [ None ↦ refl | Some s ↦ refl ]

pub ended_slots : (F : Reader) (w : State) → slots_in (ended F w) ≡ slots_in w
unfolding ended
ended_slots F w =
    let many : ℕ = length w.held + length (lives w.events) in
    let v : State = gaps_from F many 0 w in
    let P : State → Type 0 = λ u. slots_in u ≡ slots_in w in
    closes_keep P (λ u id cause o. closed_slots u id cause ∙ o) (lives v.events) v
    (gaps_keep F P (λ u id o. gapped_slots F u id ∙ o) many 0 w refl)

-- ---- No event is in a flow beyond the slots.

-- an id that stands for no flow at the end never stood for one
unopened_before : (id : ℕ) (s : Standing) (es : List Event) → owner (standing id s es) ≡ None →
    owner s ≡ None
unfolding standing
unopened_before id s [] none = none
unopened_before id s (e ∷ es) none =
    back (is_of id e) s e (unopened_before id (cond (is_of id e) (behind s e) s) es none)
  where
    back : (b : Bool) (s : Standing) (e : Event) → owner (cond b (behind s e) s) ≡ None →
        owner s ≡ None
    back false s e h = h
    back true Unopened e h = refl
    back true (Idle o) (Opens k flow) h = absurd (true≢false (ap is_some h))
    back true (Idle o) (Begins k n) h = absurd (true≢false (ap is_some h))
    back true (Idle o) (Delivers k xs) h = absurd (true≢false (ap is_some h))
    back true (Idle o) (Closes k cause) h = absurd (true≢false (ap is_some h))
    back true (Idle o) (OfCapture event) h = absurd (true≢false (ap is_some h))
    back true (Live o n) (Opens k flow) h = absurd (true≢false (ap is_some h))
    back true (Live o n) (Begins k m) h = absurd (true≢false (ap is_some h))
    back true (Live o n) (Delivers k xs) h = absurd (true≢false (ap is_some h))
    back true (Live o n) (Closes k cause) h = absurd (true≢false (ap is_some h))
    back true (Live o n) (OfCapture event) h = absurd (true≢false (ap is_some h))

-- no event is in the flow of such an id
none_of : (segments : List Segment) (id : ℕ) (es : List Event) →
    AllMayCome segments id Unopened es → owner (standing id Unopened es) ≡ None →
    AllByRecursion (λ e. is_of id e ≡ false) es
unfolding AllMayCome standing
none_of segments id [] h none = tt
none_of segments id (e ∷ es) h none =
    by (λ rest none. none_of segments id es rest none) e (is_of id e) refl h.0 h.1 none
  where
    by : (AllMayCome segments id Unopened es → owner (standing id Unopened es) ≡ None →
        AllByRecursion (λ e. is_of id e ≡ false) es) →
        (e : Event) (b : Bool) → is_of id e ≡ b → (b ≡ true → MayCome segments Unopened e) →
        AllMayCome segments id (cond b (behind Unopened e) Unopened) es →
        owner (standing id (cond b (behind Unopened e) Unopened) es) ≡ None →
        (is_of id e ≡ false) × AllByRecursion (λ e. is_of id e ≡ false) es
    by on e false is may rest none = (is, on rest none)
    by on (Opens k flow) true is may rest none =
        absurd (true≢false (ap is_some (unopened_before id (Idle flow) es none)))
    by on (Begins k n) true is may rest none = absurd (may refl)
    by on (Delivers k xs) true is may rest none = absurd (may refl)
    by on (Closes k cause) true is may rest none = absurd (may refl)
    by on (OfCapture event) true is may rest none = absurd (may refl)

in_slots : (most : ℕ) (es : List Event) →
    ((id : ℕ) → 2 * most ≤ id → AllByRecursion (λ e. is_of id e ≡ false) es) → HaveSlots most es
in_slots most [] none = tt
in_slots most (e ∷ es) none = (
  λ id of.
      elim (cases_lt (id / 2) most) [
        | inl l ↦ l
        | inr g ↦ absurd (true≢false (sym (is_there e id of) ∙ (none id (omega (arith, g))).0))
      ],
  in_slots most es (λ id many. (none id many).1),
)

pub owned_slots : (segments : List Segment) (most : ℕ) (w : State) → IsOwned segments w →
    slots_in w ≡ most → HaveSlots most w.events
owned_slots segments most w h many =
    in_slots most w.events (λ id beyond. none_of segments id w.events (h.come id)
    (h.beyond id (omega (arith, many, beyond))))
