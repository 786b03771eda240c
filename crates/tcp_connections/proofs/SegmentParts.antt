-- What is true of a state after some segments stays true after each part of what one more does:
-- something comes for a flow, a connection is forgotten, or one becomes known.
use Rattle.std.proofs.Common.{◌≡◌, ℕ, zero, suc, ◌+◌, ◌*◌, ◌<◌, Bool, true, false, cond, List, [], ◌∷◌, ◌++◌, length, take, set, get_or, Option, Some, None, unwrap_or, refl, sym, ap, subst, arith, inl, inr, true≢false, length-set}
use Rattle.std.specs.Prelude.{slice_get}
use Rattle.std.proofs.lemmas.Bool.{cases_lt}
use Rattle.tcp_segment.specs.Segments.{Segment}
use Rattle.tcp_segment.specs.declared.endpoint.Flow.{Flow as Endpoints}
use Rattle.tcp_waiting.specs.declared.arrival.Arrival as origin
use Rattle.tcp_flow.specs.declared.hearing.Heard.{Heard}
use Rattle.tcp_flow.specs.declared.flow.CloseCause.{CloseCause}
use Rattle.tcp_flow.specs.declared.flow.CloseCause.TheVariants.{Reset, Room}
use Rattle.tcp_flow.specs.declared.flow.FlowState.{FlowState}
use Rattle.tcp_flow.specs.Flow.{Event, CaptureEvent, Passes, OfCapture, Reader, Arrival, Octets, End, Hears, closed}
use Rattle.tcp_flow.specs.State.{state}
use Rattle.tcp_flow.proofs.Preserving.{either}
use Rattle.tcp_streams.specs.declared.pair.EndpointPair.{EndpointPair}
use Rattle.tcp_streams.specs.declared.pair.Side.{Side}
use Rattle.tcp_streams.specs.declared.pair.Side.TheVariants.{FromLesser, FromGreater}
use Rattle.tcp_streams.specs.Lives.{lives, elder_side}
use Rattle.tcp_streams.specs.Pairs.{opposite, flow_id}
use Rattle.tcp_connections.specs.Connections.{State, flow_at, within_pool, arrived, began, flow_forgotten, index_of, slot_at, shown, forgotten, flow_of_side, ended_by, shown_by_age, eldest, with_room, next_slot, rest_of_slots, made_known, first_number, number_behind, is_first_payload, is_looked_through, looked_through, is_reset, with_capture_event, fin_taken, heard, payload_taken, reset_taken}
use Rattle.tcp_connections.specs.Owned.{IsPartOf}
use Rattle.tcp_connections.specs.State.{IsSound, times}
use Rattle.tcp_connections.proofs.Cases.{room_there, room_made}
use Rattle.tcp_connections.proofs.Changes.{with_both_opened, with_none_come}
use Rattle.tcp_connections.proofs.Forgotten.{forgot_either, both_forgotten, forgotten_sound}
use Rattle.tcp_connections.proofs.Owners.{IsOwned}
use Rattle.tcp_connections.proofs.OwnersKnown.{IsOwnedMadeKnown, told_owns, forgot_owns, theirs_without, made_owns}
use Rattle.tcp_connections.proofs.Repeated.{relieved_keep}
use Rattle.tcp_connections.proofs.Settled.{IsSoundAmong, arrived_at, began_at, gapped_at}
use Rattle.tcp_connections.proofs.Shown.{shown_kept, shown_keeps}
use Rattle.tcp_connections.proofs.Sound.{IsOfNoFreeSlot, some_within, slot_below, sound_seen, forgot_sound, known_sound}
use Rattle.tcp_connections.proofs.Unknown.{eldest_within, next_free, next_below}
use Rattle.tcp_connections.proofs.OwnFlows.{owner_of}

unfoldable pub IsAmongSegments : (segments : List Segment) (segment : Segment) → Type 0
IsAmongSegments segments s = (k : ℕ) × (slice_get segments k ≡ Some s)

abbrev is_octets : (arrival : Arrival) → Bool
is_octets (Octets n octets arrival) = true
is_octets (End n) = false
is_octets (Hears h) = false

-- a segment's payload is one of its flow
own_part : (segments : List Segment) (w : State) (id : ℕ) (s : Segment) →
    IsAmongSegments segments s →
    owner_of w.events id ≡ Some s.flow → (o : Endpoints) → owner_of w.events id ≡ Some o → (n : ℕ)
    (octets : List ℕ) (arrival : origin.Arrival) →
    Octets (first_number s) s.payload w.arrival ≡ Octets n octets arrival →
    IsPartOf segments o n octets
unfolding IsAmongSegments
own_part segments w id s among own o is n octets arrival e = search (arith, unwrap_or)

pub fin_at : (segments : List Segment) (F : Reader) (w : State) (id : ℕ) (s : Segment) →
    IsSoundAmong segments w → IsSoundAmong segments (fin_taken F w id s)
unfolding fin_taken
fin_at segments F w id s h =
    let n : ℕ = number_behind s in
    either (IsSoundAmong segments) s.fin (arrived F w id (End n)) w
    (arrived_at segments F w id (End n)
    (λ o own k octets arrival e. absurd (true≢false (sym (ap is_octets e)))) h) h

pub heard_at : (segments : List Segment) (F : Reader) (w : State) (id : ℕ) (acknowledged : Option ℕ)
    (answers : Bool) → IsSoundAmong segments w →
    IsSoundAmong segments (heard F w id acknowledged answers)
unfolding heard
heard_at segments F w id acknowledged answers h =
    let packet : Heard =
    record { acknowledged = acknowledged; answers = answers; arrival = w.arrival } in
    arrived_at segments F w id (Hears packet)
    (λ o own k octets arrival e. absurd (true≢false (sym (ap is_octets e)))) h

pub first_at : (segments : List Segment) (F : Reader) (w : State) (id : ℕ) (s : Segment) →
    IsAmongSegments segments s → owner_of w.events id ≡ Some s.flow → IsSoundAmong segments w →
    flow_at w id ≡ None →
    id < length w.flows → IsOfNoFreeSlot w id
    → IsSoundAmong segments (began F w id (first_number s) s.payload)
first_at segments F w id s among own h e within apart =
    began_at segments F w id (first_number s) s.payload s.flow (omega arith) e within apart own
    (own_part segments w id s among own s.flow own (first_number s) s.payload w.arrival refl) h

later_at : (segments : List Segment) (F : Reader) (w : State) (id : ℕ) (s : Segment) →
    IsAmongSegments segments s → owner_of w.events id ≡ Some s.flow → IsSoundAmong segments w →
    IsSoundAmong segments
    (arrived F w id (Octets (first_number s) s.payload w.arrival))
later_at segments F w id s among own h =
    arrived_at segments F w id (Octets (first_number s) s.payload w.arrival)
    (own_part segments w id s among own) h

-- the listener is told of the capture
pub capture_at : (segments : List Segment) (w : State) (event : CaptureEvent) →
    IsSoundAmong segments w →
    IsSoundAmong segments (with_capture_event w event)
capture_at segments w event h =
    let events : List Event = w.events ++ OfCapture event ∷ [] in
    record {
      sound = sound_seen w w.lasts w.syns w.came w.segments events w.arrival refl h.sound;
      owns = told_owns segments w event h.owns;
    }

-- after octets in which no stream begins
pub looked_at : (segments : List Segment) (w : State) (s : Segment) → IsSoundAmong segments w →
    IsSoundAmong segments (looked_through w s)
unfolding looked_through
looked_at segments w s h =
    either (IsSoundAmong segments) (is_looked_through w.ports s)
    (with_capture_event w (Passes s.payload)) w (capture_at segments w (Passes s.payload) h) h

pooled_at : (segments : List Segment) (F : Reader) (w : State) → IsSoundAmong segments w →
    IsSoundAmong segments (within_pool F w)
pooled_at segments F w h =
    relieved_keep F (IsSoundAmong segments) (gapped_at segments F) (length w.held) w h

pub payload_at : (segments : List Segment) (F : Reader) (w : State) (id : ℕ) (s : Segment) →
    IsAmongSegments segments s → owner_of w.events id ≡ Some s.flow → IsSoundAmong segments w →
    id < length w.flows →
    IsOfNoFreeSlot w id → IsSoundAmong segments (payload_taken F w id s)
unfolding payload_taken
payload_at segments F w id s among own h within apart =
    let more : State = arrived F w id (Octets (first_number s) s.payload w.arrival) in
    let began_there : State = began F w id (first_number s) s.payload in
    elim (flow_at w id) as (λ (o : Option FlowState). flow_at w id ≡ o →
    IsSoundAmong segments (elim o [
      | None ↦ cond (is_first_payload w.ports s) began_there (looked_through w s)
      | Some f ↦ cond s.reset w (within_pool F more)
    ])) [
      | None ↦
          (λ e. either (IsSoundAmong segments) (is_first_payload w.ports s) began_there
          (looked_through w s) (first_at segments F w id s among own h e within apart)
          (looked_at segments w s h))
      | Some f ↦
          (λ e. either (IsSoundAmong segments) s.reset w (within_pool F more) h
          (pooled_at segments F more (later_at segments F w id s among own h)))
    ] refl

-- ---- A connection is forgotten.

flow_forgotten_at : (segments : List Segment) (w : State) (id : ℕ) (cause : CloseCause) →
    IsSoundAmong segments w → IsSoundAmong segments (flow_forgotten w id cause)
flow_forgotten_at segments w id cause h = record {
  sound = forgot_either IsSound w id cause (λ e. h.sound)
      (λ s e. forgot_sound w id (closed (state s w.held w.events) cause).events h.sound
      (some_within w.flows id s e));
  owns = forgot_owns segments w id cause h.owns;
}

pub id_within : (w : State) (slot : ℕ) (side : Side) → IsSound w → slot < length w.lasts →
    flow_id slot side < length w.flows
id_within w slot FromLesser h l = omega (arith, l, h.flows)
id_within w slot FromGreater h l = omega (arith, l, h.flows)

pub forgotten_at : (segments : List Segment) (w : State) (index : ℕ) (side : Side)
    (cause : CloseCause) → index < length w.known → IsSoundAmong segments w →
    IsSoundAmong segments (forgotten w index side cause)
unfolding forgotten
forgotten_at segments w index side cause l h =
    let slot : ℕ = slot_at w index in
    let v = flow_forgotten_at segments (flow_forgotten w (flow_id slot side) cause)
    (flow_id slot (opposite side)) cause
    (flow_forgotten_at segments w (flow_id slot side) cause h) in
    record {
      sound = forgotten_sound w index side cause h.sound v.sound l
          (id_within w slot FromGreater h.sound (slot_below w index h.sound l));
      owns = record {
        come = v.owns.come;
        flows = v.owns.flows;
        held = v.owns.held;
        known = theirs_without (owner_of (both_forgotten w slot side cause).events)
            (both_forgotten w slot side cause).known (both_forgotten w slot side cause).slots index
            v.owns.known;
        beyond = v.owns.beyond;
      };
    }

-- after what a connection holds was shown
pub shown_at : (segments : List Segment) (F : Reader) (w : State) (index slot : ℕ)
    (side other : Side) (cause : CloseCause) → index < length w.known → IsSoundAmong segments w →
    IsSoundAmong segments (forgotten (shown F w slot side) index other cause)
shown_at segments F w index slot side other cause l h =
    forgotten_at segments (shown F w slot side) index other cause
    (omega (arith, l, ap length (shown_kept F w slot side).known))
    (shown_keeps F (IsSoundAmong segments) (gapped_at segments F) w slot side h)

pub reset_at : (segments : List Segment) (F : Reader) (w : State) (index : ℕ) (side : Side)
    (s : Segment) → index < length w.known → IsSoundAmong segments w →
    IsSoundAmong segments (reset_taken F w index side s)
unfolding reset_taken
reset_at segments F w index side s l h =
    either (IsSoundAmong segments) (is_reset (flow_of_side w index side) s)
    (ended_by F w index side Reset) w
    (shown_at segments F w index (slot_at w index) side side Reset l h) h

pub with_room_at : (segments : List Segment) (F : Reader) (w : State) → IsSoundAmong segments w →
    IsSoundAmong segments (with_room F w)
with_room_at segments F w h =
    elim (cases_lt (length w.known) (length w.lasts)) [
      | inl l ↦ subst (IsSoundAmong segments) (sym (room_there F w l)) h
      | inr g ↦
          (let index : ℕ = eldest w (length w.known) in
          let slot : ℕ = slot_at w index in
          subst (IsSoundAmong segments) (sym (room_made F w g))
          (shown_at segments F w index slot (elder_side slot (lives w.events))
          (elder_side slot (lives (shown_by_age F w slot).events)) Room
          (eldest_within w (length w.known) (omega (arith, g, h.sound.some))) h))
    ]

-- ---- A connection becomes known.

last_of : (xs : List ℕ) (n : ℕ) → length xs ≡ suc n → xs ≡ take n xs ++ get_or xs n 0 ∷ []
last_of [] n e = absurd (omega (arith, e))
last_of (x ∷ []) zero e = refl
last_of (x ∷ []) (suc n) e = absurd (omega (arith, e))
last_of (x ∷ y ∷ ys) zero e = absurd (omega (arith, e))
last_of (x ∷ y ∷ ys) (suc n) e = search (arith, last_of (y ∷ ys) n (omega (arith, e)))

slots_parted : (free : List ℕ) → 0 < length free → free ≡ rest_of_slots free ++ next_slot free ∷ []
unfolding rest_of_slots next_slot
slots_parted free l = search (arith, last_of)

pub made_owner : (segments : List Segment) (w : State) (p : EndpointPair) →
    length w.known < length w.lasts → IsSound w → IsOwned segments w →
    IsOwnedMadeKnown segments w p (next_slot w.free)
made_owner segments w p l h owns =
    let slot : ℕ = next_slot w.free in
    let free : 0 < times slot w.free = next_free w h l in
    let none = h.freed slot free in
    made_owns segments w p (next_below w h l) none.0 none.1 (h.vacant (2 * slot) none.0)
    (h.vacant (2 * slot + 1) none.1) (omega (arith, free, h.once slot)) (sym h.pairs) owns

pub made_at : (segments : List Segment) (w : State) (p : EndpointPair) →
    length w.known < length w.lasts → index_of p w.known ≡ None → IsSoundAmong segments w →
    IsSoundAmong segments (made_known w p)
unfolding made_known
made_at segments w p l new h =
    let slot : ℕ = next_slot w.free in
    let had : w.free ≡ rest_of_slots w.free ++ slot ∷ [] =
    slots_parted w.free (omega (arith, l, h.sound.all)) in
    let lasts : List ℕ = set w.lasts slot w.segments in
    record {
      sound = known_sound w p (rest_of_slots w.free) slot lasts (set w.syns slot None)
          (with_none_come w.came slot) (with_both_opened slot p w.events) h.sound had new
          (length-set w.lasts slot w.segments);
      owns = (made_owner segments w p l h.sound h.owns).owns;
    }
