-- What is left after one flow was forgotten, and after both flows of a connection were.
use Rattle.std.proofs.Common.{◌≡◌, ℕ, ◌+◌, ◌*◌, ◌<◌, List, length, set, get_or, Option, Some, None, refl, sym, ◌∙◌, ap, subst, arith, length-set, get_or-set_same}
use Rattle.std.specs.List.{remove}
use Rattle.tcp_flow.specs.declared.flow.CloseCause.{CloseCause}
use Rattle.tcp_flow.specs.declared.flow.FlowState.{FlowState}
use Rattle.tcp_flow.specs.Flow.{closed, held_by_others}
use Rattle.tcp_flow.specs.State.{state}
use Rattle.tcp_streams.specs.declared.pair.EndpointPair.{EndpointPair}
use Rattle.tcp_streams.specs.declared.pair.Side.{Side}
use Rattle.tcp_streams.specs.declared.pair.Side.TheVariants.{FromLesser, FromGreater}
use Rattle.tcp_streams.specs.Pairs.{flow_id, opposite}
use Rattle.tcp_connections.specs.Connections.{State, flow_at, flow_forgotten, forgotten, slot_at}
use Rattle.tcp_connections.specs.State.{IsSound}
use Rattle.tcp_connections.proofs.Cases.{forgot_none, forgot_some}
use Rattle.tcp_connections.proofs.Sound.{none_stays, unknown_sound}

pub forgot_either : (P : State → Type 0) (w : State) (id : ℕ) (cause : CloseCause) →
    (flow_at w id ≡ None → P w)
    → ((s : FlowState) → flow_at w id ≡ Some s →
    P (record w {
      flows = set w.flows id None;
      held = held_by_others id w.held;
      events =
          (closed (state s w.held w.events) cause).events;
    }))
    → P (flow_forgotten w id cause)
forgot_either P w id cause n k = by (flow_at w id) refl
  where
    by : (o : Option FlowState) → flow_at w id ≡ o → P (flow_forgotten w id cause)
    by None e = subst P (sym (forgot_none w id cause e)) (n e)
    by (Some s) e = subst P (sym (forgot_some w id cause s e)) (k s e)

pub forgot_known : (w : State) (id : ℕ) (cause : CloseCause) →
    (flow_forgotten w id cause).known ≡ w.known
forgot_known w id cause = forgot_either (λ v. v.known ≡ w.known) w id cause (λ e. refl)
    (λ s e. refl)

pub forgot_slots : (w : State) (id : ℕ) (cause : CloseCause) →
    (flow_forgotten w id cause).slots ≡ w.slots
forgot_slots w id cause = forgot_either (λ v. v.slots ≡ w.slots) w id cause (λ e. refl)
    (λ s e. refl)

pub forgot_lasts : (w : State) (id : ℕ) (cause : CloseCause) →
    (flow_forgotten w id cause).lasts ≡ w.lasts
forgot_lasts w id cause = forgot_either (λ v. v.lasts ≡ w.lasts) w id cause (λ e. refl)
    (λ s e. refl)

pub forgot_flows : (w : State) (id : ℕ) (cause : CloseCause) →
    length (flow_forgotten w id cause).flows ≡ length w.flows
forgot_flows w id cause = forgot_either (λ v. length v.flows ≡ length w.flows) w id cause
    (λ e. refl) (λ s e. length-set w.flows id None)

gone : (w : State) (id : ℕ) (cause : CloseCause) → id < length w.flows →
    flow_at (flow_forgotten w id cause) id ≡ None
gone w id cause l = forgot_either (λ v. flow_at v id ≡ None) w id cause (λ e. e)
    (λ s e. get_or-set_same w.flows id None None l)

stays_gone : (w : State) (id j : ℕ) (cause : CloseCause) → id < length w.flows →
    flow_at w j ≡ None → flow_at (flow_forgotten w id cause) j ≡ None
stays_gone w id j cause l h = forgot_either (λ v. flow_at v j ≡ None) w id cause (λ e. h)
    (λ s e. none_stays w id j l h)

abbrev pub both_forgotten : (state : State) (slot : ℕ) (side : Side) (cause : CloseCause) → State
both_forgotten w slot side cause = flow_forgotten (flow_forgotten w (flow_id slot side) cause)
    (flow_id slot (opposite side)) cause

pub both_known : (w : State) (slot : ℕ) (side : Side) (cause : CloseCause) →
    (both_forgotten w slot side cause).known ≡ w.known
both_known w slot side cause = forgot_known (flow_forgotten w (flow_id slot side) cause)
    (flow_id slot (opposite side)) cause ∙ forgot_known w (flow_id slot side) cause

pub both_slots : (w : State) (slot : ℕ) (side : Side) (cause : CloseCause) →
    (both_forgotten w slot side cause).slots ≡ w.slots
both_slots w slot side cause = forgot_slots (flow_forgotten w (flow_id slot side) cause)
    (flow_id slot (opposite side)) cause ∙ forgot_slots w (flow_id slot side) cause

pub both_gone : (w : State) (slot : ℕ) (side : Side) (cause : CloseCause) →
    2 * slot + 1 < length w.flows
    → (flow_at (both_forgotten w slot side cause) (2 * slot) ≡ None)
    × (flow_at (both_forgotten w slot side cause) (2 * slot + 1) ≡ None)
both_gone w slot FromLesser cause l =
    let v : State = flow_forgotten w (2 * slot) cause in
    let m : length v.flows ≡ length w.flows = forgot_flows w (2 * slot) cause in (
      stays_gone v (2 * slot + 1) (2 * slot) cause (omega (arith, l, m))
          (gone w (2 * slot) cause (omega (arith, l))),
      gone v (2 * slot + 1) cause (omega (arith, l, m)),
    )
both_gone w slot FromGreater cause l =
    let v : State = flow_forgotten w (2 * slot + 1) cause in
    let m : length v.flows ≡ length w.flows = forgot_flows w (2 * slot + 1) cause in (
      gone v (2 * slot) cause (omega (arith, l, m)),
      stays_gone v (2 * slot) (2 * slot + 1) cause (omega (arith, l, m))
          (gone w (2 * slot + 1) cause l),
    )

-- after a connection was forgotten
pub forgotten_sound : (w : State) (index : ℕ) (side : Side) (cause : CloseCause) → IsSound w →
    IsSound (both_forgotten w (slot_at w index) side cause) → index < length w.known →
    2 * slot_at w index + 1 < length w.flows
    → IsSound (forgotten w index side cause)
unfolding forgotten
forgotten_sound w index side cause h k l m =
    let slot : ℕ = slot_at w index in
    let v : State = both_forgotten w slot side cause in
    let gone = both_gone w slot side cause m in
    unknown_sound v index slot k (omega (arith, l, ap length (both_known w slot side cause)))
    (ap (λ (rs : List ℕ). get_or rs index 0) (both_slots w slot side cause)) gone.0 gone.1

pub forgotten_known : (w : State) (index : ℕ) (side : Side) (cause : CloseCause) →
    (forgotten w index side cause).known ≡ remove w.known index
unfolding forgotten
forgotten_known w index side cause = ap (λ (ps : List EndpointPair). remove ps index)
    (both_known w (slot_at w index) side cause)

pub forgotten_lasts : (w : State) (index : ℕ) (side : Side) (cause : CloseCause) →
    (forgotten w index side cause).lasts ≡ w.lasts
unfolding forgotten
forgotten_lasts w index side cause =
    forgot_lasts (flow_forgotten w (flow_id (slot_at w index) side) cause)
    (flow_id (slot_at w index) (opposite side)) cause
    ∙ forgot_lasts w (flow_id (slot_at w index) side) cause
