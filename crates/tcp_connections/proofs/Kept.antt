-- A step of a flow leaves which connections are known, and their slots.
use Rattle.std.proofs.Common.{◌≡◌, ℕ, ◌/◌, Bool, cond, nat_lt, List, length, Option, Some, None, refl, sym, ◌∙◌, subst, arith, length-set}
use Rattle.tcp_segment.specs.Segments.{Segment}
use Rattle.tcp_flow.specs.declared.flow.FlowState.{FlowState}
use Rattle.tcp_flow.specs.Flow.{Flow, Passes, Reader, Arrival, Octets, End, with_gap, step as flow_step, first_payload}
use Rattle.tcp_flow.specs.State.{state}
use Rattle.tcp_flow.proofs.Preserving.{either}
use Rattle.tcp_streams.specs.declared.pair.Side.{Side}
use Rattle.tcp_streams.specs.declared.pair.Side.TheVariants.{FromLesser, FromGreater}
use Rattle.tcp_streams.specs.Pairs.{flow_id}
use Rattle.tcp_connections.specs.Connections.{State, flow_at, flow_state, with_flow, arrived, began, gapped, within_pool, heard, acknowledgement_heard, payload_taken, fin_taken, first_number, number_behind, is_first_payload, is_looked_through, looked_through, with_capture_event}
use Rattle.tcp_connections.proofs.Cases.{arrived_none, arrived_some, gapped_none, gapped_some}
use Rattle.tcp_connections.proofs.Repeated.{relieved_keep}

pub record HasSameConnections (before after : State) : Type 0 where
  pub known : after.known ≡ before.known
  pub slots : after.slots ≡ before.slots
  pub free : after.free ≡ before.free
  pub lasts : after.lasts ≡ before.lasts
  pub flows : length after.flows ≡ length before.flows
  pub segments : after.segments ≡ before.segments

pub kept_self : (w : State) → HasSameConnections w w
kept_self w = record {
  known = refl;
  slots = refl;
  free = refl;
  lasts = refl;
  flows = refl;
  segments = refl;
}

pub with_flow_kept : (w : State) (id : ℕ) (f : Flow) → HasSameConnections w (with_flow w id f)
unfolding with_flow
with_flow_kept w id f = record {
  known = refl;
  slots = refl;
  free = refl;
  lasts = refl;
  flows =
      length-set w.flows id (Some (flow_state f));
  segments = refl;
}

pub arrived_kept : (F : Reader) (w : State) (id : ℕ) (a : Arrival) →
    HasSameConnections w (arrived F w id a)
arrived_kept F w id a = by (flow_at w id) refl
  where
    by : (o : Option FlowState) → flow_at w id ≡ o → HasSameConnections w (arrived F w id a)
    by None e = subst (HasSameConnections w) (sym (arrived_none F w id a e)) (kept_self w)
    by (Some s) e = subst (HasSameConnections w) (sym (arrived_some F w id a s e))
        (with_flow_kept w id (flow_step F (state s w.held w.events) a))

pub began_kept : (F : Reader) (w : State) (id number : ℕ) (octets : List ℕ) →
    HasSameConnections w (began F w id number octets)
unfolding began
began_kept F w id number octets = with_flow_kept w id
    (first_payload F id number octets w.arrival w.held w.events)

pub heard_kept : (F : Reader) (w : State) (id : ℕ) (acknowledged : Option ℕ) (answers : Bool) →
    HasSameConnections w (heard F w id acknowledged answers)
unfolding heard
heard_kept F w id acknowledged answers = arrived_kept F w id _

pub acknowledgement_kept : (F : Reader) (w : State) (id : ℕ) (s : Segment) →
    HasSameConnections w (acknowledgement_heard F w id s)
acknowledgement_kept F w id s = heard_kept F w id s.acknowledgement (nat_lt 0 (length s.payload))

pub looked_kept : (w : State) (s : Segment) → HasSameConnections w (looked_through w s)
unfolding looked_through
looked_kept w s = either (HasSameConnections w) (is_looked_through w.ports s)
    (with_capture_event w (Passes s.payload)) w (record {
      known = refl;
      slots = refl;
      free = refl;
      lasts = refl;
      flows = refl;
      segments = refl;
    }) (kept_self w)

-- a gap
pub gapped_kept : (F : Reader) (v w : State) (id : ℕ) → HasSameConnections v w →
    HasSameConnections v (gapped F w id)
gapped_kept F v w id h = by (flow_at w id) refl
  where
    by : (o : Option FlowState) → flow_at w id ≡ o → HasSameConnections v (gapped F w id)
    by None e = subst (HasSameConnections v) (sym (gapped_none F w id e)) h
    by (Some s) e =
        let k = with_flow_kept w id (with_gap F (state s w.held w.events)) in
        subst (HasSameConnections v) (sym (gapped_some F w id s e)) (record {
          known = k.known ∙ h.known;
          slots = k.slots ∙ h.slots;
          free = k.free ∙ h.free;
          lasts = k.lasts ∙ h.lasts;
          flows = k.flows ∙ h.flows;
          segments = k.segments ∙ h.segments;
        })

pub payload_kept : (F : Reader) (w : State) (id : ℕ) (s : Segment) →
    HasSameConnections w (payload_taken F w id s)
unfolding payload_taken
payload_kept F w id s =
    elim (flow_at w id) as (λ (o : Option FlowState).
    HasSameConnections w (elim o [
      | None ↦ cond (is_first_payload w.ports s)
          (began F w id (first_number s) s.payload) (looked_through w s)
      | Some f ↦ cond s.reset w
          (within_pool F (arrived F w id (Octets (first_number s) s.payload w.arrival)))
    ])) [
      | None ↦ either (HasSameConnections w) (is_first_payload w.ports s)
          (began F w id (first_number s) s.payload)
          (looked_through w s) (began_kept F w id (first_number s) s.payload) (looked_kept w s)
      | Some f ↦
          (let v : State = arrived F w id (Octets (first_number s) s.payload w.arrival) in
          either (HasSameConnections w) s.reset w (within_pool F v) (kept_self w)
          (relieved_keep F (HasSameConnections w) (gapped_kept F w) (length v.held) v
          (arrived_kept F w id (Octets (first_number s) s.payload w.arrival))))
    ]

pub fin_kept : (F : Reader) (w : State) (id : ℕ) (s : Segment) →
    HasSameConnections w (fin_taken F w id s)
unfolding fin_taken
fin_kept F w id s = either (HasSameConnections w) s.fin (arrived F w id (End (number_behind s))) w
    (arrived_kept F w id (End (number_behind s))) (kept_self w)

-- the slot of an id
pub half : (slot : ℕ) (side : Side) → flow_id slot side / 2 ≡ slot
half slot FromLesser = omega arith
half slot FromGreater = omega arith
