-- A state stays sound, and its ids stand for their flows, after what comes for a flow and after a
-- gap.
use Rattle.std.proofs.Common.{◌≡◌, ℕ, ◌<◌, ◌^◌, List, [], length, Option, Some, None, is_some, refl, sym, ap, subst, get_or-set_same}
use Rattle.tcp_segment.specs.declared.endpoint.Flow.{Flow as Endpoints}
use Rattle.tcp_segment.specs.Segments.{Segment}
use Rattle.tcp_waiting.specs.declared.arrival.Arrival as origin
use Rattle.tcp_waiting.specs.Payload.{Payload, payload}
use Rattle.tcp_waiting.proofs.Counts.{first_none}
use Rattle.tcp_flow.specs.declared.flow.FlowState.{FlowState}
use Rattle.tcp_flow.specs.Flow.{Flow, Reader, Arrival, Octets, End, Hears, fresh, oldest_held, payload_came, with_gap, step as flow_step, first_payload, held_by_others}
use Rattle.tcp_flow.specs.Laws.{HoldsOnlyToCome}
use Rattle.tcp_flow.specs.State.{state}
use Rattle.tcp_flow.proofs.Direct.{came_settled, fin_settled, heard_settled, gap_settled, fresh_settled}
use Rattle.tcp_flow.proofs.Others.{step_others, gap_others}
use Rattle.tcp_flow.proofs.States.{settled_whatever}
use Rattle.tcp_connections.specs.Connections.{State, flow_at, flow_state, with_flow, arrived, began, gapped}
use Rattle.tcp_connections.specs.Owned.{IsPartOf}
use Rattle.tcp_connections.specs.State.{IsSound}
use Rattle.tcp_connections.proofs.Cases.{arrived_none, arrived_some, gapped_none, gapped_some}
use Rattle.tcp_connections.proofs.Owners.{IsStandingFlow, IsStandingOf, IsOwned, arrived_owns, began_owns, gapped_owns}
use Rattle.tcp_connections.proofs.Sound.{IsOfNoFreeSlot, some_within, apart_some, with_flow_sound}
use Rattle.tcp_connections.proofs.States.{beside_own}
use Rattle.tcp_connections.proofs.OwnFlows.{standing_after, owner_of}

-- what is true of a state after some of these segments
pub record IsSoundAmong (segments : List Segment) (state : State) : Type 0 where
  pub sound : IsSound state
  pub owns : IsOwned segments state

step_settled : (F : Reader) (f : Flow) (a : Arrival) → HoldsOnlyToCome f →
    (flow_step F f a).next < 2 ^ 32 → HoldsOnlyToCome (flow_step F f a)
unfolding flow_step
step_settled F f (Octets n octets arrival) t l = came_settled F f
    (payload f.id n octets arrival) t l
step_settled F f (End n) t l = fin_settled F f n t l
step_settled F f (Hears h) t l = heard_settled F (length f.held) h f t l

-- a flow is set that holds only what is to come
set_at : (segments : List Segment) (w : State) (id : ℕ) (f : Flow) → IsSound w →
    id < length w.flows → held_by_others id f.held ≡ held_by_others id w.held →
    (f.next < 2 ^ 32 → HoldsOnlyToCome f) → IsOfNoFreeSlot w id →
    IsOwned segments (with_flow w id f) → IsSoundAmong segments (with_flow w id f)
unfolding with_flow
set_at segments w id f h l beside settled apart owns =
    let t : IsStandingFlow segments id (standing_after f.events id) (flow_state f) =
    subst (IsStandingOf segments id (standing_after f.events id))
    (get_or-set_same w.flows id (Some (flow_state f)) None l) (owns.flows id) in
    record {
      sound = with_flow_sound w id f h l t.same beside
          (settled_whatever (flow_state f) f.held f.events [] (settled t.next)) apart;
      owns = owns;
    }

pub arrived_at : (segments : List Segment) (F : Reader) (w : State) (id : ℕ) (a : Arrival) →
    ((o : Endpoints) → owner_of w.events id ≡ Some o → (n : ℕ) (octets : List ℕ)
    (arrival : origin.Arrival) → a ≡ Octets n octets arrival → IsPartOf segments o n octets)
    → IsSoundAmong segments w → IsSoundAmong segments (arrived F w id a)
arrived_at segments F w id a part h = by (flow_at w id) refl
  where
    by : (o : Option FlowState) → flow_at w id ≡ o → IsSoundAmong segments (arrived F w id a)
    by None e = subst (IsSoundAmong segments) (sym (arrived_none F w id a e)) h
    by (Some s) e =
        let before : Flow = state s w.held w.events in
        let f : Flow = flow_step F before a in
        subst (IsSoundAmong segments) (sym (arrived_some F w id a s e))
        (set_at segments w id f h.sound (some_within w.flows id s e)
        (beside_own id s.id w.held f.held (h.sound.ids id s e) (step_others F before a))
        (step_settled F before a (settled_whatever s w.held [] w.events (h.sound.settled id s e)))
        (apart_some w id s h.sound e)
        (subst (IsOwned segments) (arrived_some F w id a s e)
        (arrived_owns segments F w id a part h.owns)))

pub began_at : (segments : List Segment) (F : Reader) (w : State) (id n : ℕ) (octets : List ℕ)
    (o : Endpoints) → n < 2 ^ 32 → flow_at w id ≡ None → id < length w.flows →
    IsOfNoFreeSlot w id → owner_of w.events id ≡ Some o → IsPartOf segments o n octets →
    IsSoundAmong segments w → IsSoundAmong segments (began F w id n octets)
unfolding began first_payload flow_step oldest_held
began_at segments F w id n octets o small e within apart own part h =
    let before : Flow = fresh id n w.held w.events in
    let p : Payload = payload id n octets w.arrival in
    set_at segments w id (payload_came F before p) h.sound within
    (step_others F before (Octets n octets w.arrival))
    (came_settled F before p
    (fresh_settled before refl (ap is_some (first_none id n w.held (h.sound.vacant id e)))))
    apart (began_owns segments F w id n octets o small e within own part h.owns)

pub gapped_at : (segments : List Segment) (F : Reader) (w : State) (id : ℕ) →
    IsSoundAmong segments w → IsSoundAmong segments (gapped F w id)
gapped_at segments F w id h = by (flow_at w id) refl
  where
    by : (o : Option FlowState) → flow_at w id ≡ o → IsSoundAmong segments (gapped F w id)
    by None e = subst (IsSoundAmong segments) (sym (gapped_none F w id e)) h
    by (Some s) e =
        let before : Flow = state s w.held w.events in
        let f : Flow = with_gap F before in
        subst (IsSoundAmong segments) (sym (gapped_some F w id s e))
        (set_at segments w id f h.sound (some_within w.flows id s e)
        (beside_own id s.id w.held f.held (h.sound.ids id s e) (gap_others F before))
        (gap_settled F before) (apart_some w id s h.sound e)
        (subst (IsOwned segments) (gapped_some F w id s e) (gapped_owns segments F w id h.owns)))
