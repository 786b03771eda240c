-- The connections of a capture (RFC 9293): which are known, what their flows hold, and what happens
-- (meaning).
use Rattle.std.specs.Prelude.{ℕ, zero, suc, ◌+◌, ◌-◌, ◌*◌, ◌^◌, ◌==◌, min, Bool, true, false, cond, not, nat_eq, nat_lt, ◌&&◌, ◌||◌, List, [], ◌∷◌, ◌++◌, length, take, get_or, set, replicate, Option, Some, None, is_some}
use Rattle.std.specs.Option.{option_map}
use Rattle.std.specs.List.{insert, remove, list_any}
use Rattle.std.specs.Ordering.{is_eq, is_lt}
use Rattle.tcp_segment.specs.declared.endpoint.Flow as endpoints
use Rattle.tcp_segment.specs.Segments.{Segment}
use Rattle.tcp_waiting.specs.declared.arrival.Arrival as origin
use Rattle.tcp_waiting.specs.Numbers.{onward}
use Rattle.tcp_waiting.specs.Payload.{Payload, oldest_index, blocks_of, load_of}
use Rattle.tcp_flow.specs.declared.flow.CloseCause.{CloseCause}
use Rattle.tcp_flow.specs.declared.flow.CloseCause.TheVariants.{Reset, Syn, Room, Gap, End as CaptureEnd}
use Rattle.tcp_flow.specs.declared.flow.FlowState.{FlowState}
use Rattle.tcp_flow.specs.Flow.{Flow, Event, CaptureEvent, Opens, OfCapture, Passes, Reader, Arrival, Octets, End, Hears, is_near, stream_begin_in, is_header_beginning, lives as has_stream, closed, with_gap, step as flow_step, first_payload, held_by_others}
use Rattle.tcp_flow.specs.State.{state}
use Rattle.tcp_connections.specs.declared.syns.KeptSyn.{KeptSyn}
use Rattle.tcp_slots.specs.Slots.{slots_below}
use Rattle.tcp_streams.specs.declared.pair.EndpointPair.{EndpointPair}
use Rattle.tcp_streams.specs.declared.pair.Side.{Side}
use Rattle.tcp_streams.specs.declared.pair.Side.TheVariants.{FromLesser, FromGreater}
use Rattle.tcp_streams.specs.Pairs.{compare_pairs, pair_of, opposite, flow_id, flow_from}
use Rattle.tcp_streams.specs.Lives.{lives, elder_side}

-- `ports` are the chosen ports, and `blocks` is how many the pool has. `known` are the pairs that
-- are known, in order, and `slots` the slot of each. `free` are the slots that are free; the last
-- one is taken next. For each slot, `lasts` has the number of its last segment, and `syns` the SYN
-- that is kept. For each id, `came` says whether a segment came after the one that made its
-- connection known, and `flows` has the flow, from its first stream on. `held` is what waits,
-- `events` what has happened, `segments` how many segments came, and `arrival` the packet that is
-- read.
pub record State : Type 0 where
  pub ports : List ℕ
  pub blocks : ℕ
  pub known : List EndpointPair
  pub slots : List ℕ
  pub free : List ℕ
  pub lasts : List ℕ
  pub syns : List (Option KeptSyn)
  pub came : List Bool
  pub flows : List (Option FlowState)
  pub held : List Payload
  pub events : List Event
  pub segments : ℕ
  pub arrival : origin.Arrival

-- no connection is known, and there are `most` slots
abbrev pub none_known : (chosen_ports : List ℕ) (pool_block_count slot_count : ℕ)
    (events_so_far : List Event) → State
none_known ports blocks most events = record {
  ports = ports;
  blocks = blocks;
  known = [];
  slots = [];
  free = slots_below most;
  lasts = replicate most 0;
  syns = replicate most None;
  came = replicate (2 * most) false;
  flows = replicate (2 * most) None;
  held = [];
  events = events;
  segments = 0;
  arrival = record { time = None; packet = 0 };
}

-- the listener is told of what happens in the capture; nothing else changes
abbrev pub with_capture_event : (state : State) (event : CaptureEvent) → State
with_capture_event w event = record w { events = w.events ++ OfCapture event ∷ [] }

-- ---- One flow.

-- the flow of an id, from its first stream on
abbrev pub flow_at : (state : State) (flow_id : ℕ) → Option FlowState
flow_at w id = get_or w.flows id None

-- what is kept of a flow
abbrev pub flow_state : (flow : Flow) → FlowState
flow_state f = record {
  id = f.id;
  next = f.next;
  live = f.live;
  waits = f.waits;
  fin = f.fin;
  since = f.since;
  has_begun = f.has_begun;
  is_found = f.is_found;
  tail = f.tail;
}

-- the state after a flow was set
unfoldable pub with_flow : (state : State) (flow_id : ℕ) (flow : Flow) → State
with_flow w id f =
    record w { flows = set w.flows id (Some (flow_state f)); held = f.held; events = f.events }

-- something comes for a flow; nothing happens before its first payload
unfoldable pub arrived : (reader : Reader) (state : State) (flow_id : ℕ) (arrival : Arrival) → State
arrived F w id arrival =
    elim (flow_at w id) [
      | None ↦ w
      | Some s ↦ with_flow w id (flow_step F (state s w.held w.events) arrival)
    ]

-- the first payload of a flow comes
unfoldable pub began : (reader : Reader) (state : State) (flow_id first_octet_number : ℕ)
    (octets : List ℕ) → State
began F w id number octets =
    with_flow w id (first_payload F id number octets w.arrival w.held w.events)

-- a gap in a flow
unfoldable pub gapped : (reader : Reader) (state : State) (flow_id : ℕ) → State
gapped F w id =
    elim (flow_at w id) [
      | None ↦ w
      | Some s ↦ with_flow w id (with_gap F (state s w.held w.events))
    ]

-- whether a flow holds something
unfoldable pub is_holding : (held_by_all_flows : List Payload) (flow : Option FlowState) → Bool
is_holding held None = false
is_holding held (Some s) = is_some (oldest_index s.id s.next held)

-- gaps in a flow while it holds something, at most `count`
unfoldable pub gaps_at : (reader : Reader) (most_gaps : ℕ) (state : State) (flow_id : ℕ) → State
gaps_at F zero w id = w
gaps_at F (suc count) w id =
    elim (is_holding w.held (flow_at w id)) [
      | true ↦ gaps_at F count (gapped F w id) id
      | false ↦ w
    ]

-- gaps in a flow until it holds nothing: each leaves less
abbrev pub emptied : (reader : Reader) (state : State) (flow_id : ℕ) → State
emptied F w id = gaps_at F (length w.held) w id

-- the one of two flows that gives up if the pool is short: the one that holds more blocks, or the
-- first if both hold as many
abbrev pub heavier : (held_by_all_flows : List Payload) (one_flow_id other_flow_id : ℕ) → ℕ
heavier held one other = cond (nat_lt (load_of one held) (load_of other held)) other one

-- the one that gives up of a flow and others after it
unfoldable pub heaviest_from : (held_by_all_flows : List Payload) (first_flow_id : ℕ)
    (later_flow_ids : List ℕ) → ℕ
heaviest_from held id [] = id
heaviest_from held id (other ∷ ids) = heaviest_from held (heavier held id other) ids

-- the flow that gives up if the pool is short: the one that holds the most blocks; of several, the
-- one whose stream is the oldest
abbrev pub heaviest : (state : State) → ℕ
heaviest w = heaviest_from w.held (get_or (lives w.events) 0 0) (lives w.events)

-- gaps in the flow that gives up while the pool has too few blocks for what is held, at most
-- `count`
unfoldable pub relieved : (reader : Reader) (most_gaps : ℕ) (state : State) → State
relieved F zero w = w
relieved F (suc count) w =
    elim (nat_lt w.blocks (blocks_of w.held)) [
      | true ↦ relieved F count (gapped F w (heaviest w))
      | false ↦ w
    ]

-- gaps until the pool has enough blocks for what is held: each leaves less
abbrev pub within_pool : (reader : Reader) (state : State) → State
within_pool F w = relieved F (length w.held) w

-- a flow's live stream closes
unfoldable pub closed_at : (state : State) (flow_id : ℕ) (cause : CloseCause) → State
closed_at w id cause =
    elim (flow_at w id) [
      | None ↦ w
      | Some s ↦ with_flow w id (closed (state s w.held w.events) cause)
    ]

-- a flow is forgotten: its live stream closes, and what it holds is removed
unfoldable pub flow_forgotten : (state : State) (flow_id : ℕ) (cause : CloseCause) → State
flow_forgotten w id cause =
    elim (flow_at w id) [
      | None ↦ w
      | Some s ↦ (record w {
        flows = set w.flows id None;
        held = held_by_others id w.held;
        events = (closed (state s w.held w.events) cause).events;
      })
    ]

-- the number that the stream of a flow begins with, if it is live or waited for
unfoldable pub stream_start_of : (flow : Option FlowState) → Option ℕ
stream_start_of None = None
stream_start_of (Some s) = s.live

-- the same for the flow of an id
abbrev pub stream_start_at : (state : State) (flow_id : ℕ) → Option ℕ
stream_start_at w id = stream_start_of (flow_at w id)

-- ---- Which connections are known.

-- the index of a pair among those that are known, or at which it would be inserted
unfoldable pub insertion_index : (pair : EndpointPair) (known_pairs : List EndpointPair) → ℕ
insertion_index p [] = 0
insertion_index p (q ∷ qs) = cond (is_lt (compare_pairs q p)) (suc (insertion_index p qs)) 0

-- the index of a pair among those that are known
unfoldable pub index_of : (pair : EndpointPair) (known_pairs : List EndpointPair) → Option ℕ
index_of p [] = None
index_of p (q ∷ qs) = cond (is_eq (compare_pairs q p)) (Some 0) (option_map suc (index_of p qs))

-- the slot of the connection at an index
abbrev pub slot_at : (state : State) (index_among_known : ℕ) → ℕ
slot_at w index = get_or w.slots index 0

-- a connection is forgotten: first the flow of one side, then the other
unfoldable pub forgotten : (state : State) (index_among_known : ℕ) (side_to_close_first : Side)
    (cause : CloseCause) → State
forgotten w index side cause =
    let slot : ℕ = slot_at w index in
    let v : State =
    flow_forgotten (flow_forgotten w (flow_id slot side) cause)
    (flow_id slot (opposite side)) cause in
    record v {
      known = remove v.known index;
      slots = remove v.slots index;
      free = v.free ++ slot ∷ [];
    }

-- what the flows of a slot hold is shown, before its connection is forgotten: first that of the
-- flow of one side
unfoldable pub shown : (reader : Reader) (state : State) (slot : ℕ) (side_to_show_first : Side) →
    State
shown F w slot side = emptied F (emptied F w (flow_id slot side)) (flow_id slot (opposite side))

-- whether a stream of a flow is live
unfoldable pub has_live : (flow : Option FlowState) → Bool
has_live None = false
has_live (Some s) = has_stream s.live s.waits

-- whether a slot's connection has a live stream
abbrev pub is_live : (state : State) (slot : ℕ) → Bool
is_live w slot =
    has_live (flow_at w (flow_id slot FromLesser))
    || has_live (flow_at w (flow_id slot FromGreater))

-- whether segments of a flow came since its connection became known; in the flow that made it
-- known, the first payload counts
abbrev pub has_come : (state : State) (flow_id : ℕ) → Bool
has_come w id = is_some (flow_at w id) || get_or w.came id false

-- whether segments of both flows of a slot's connection came
abbrev pub both_have_come : (state : State) (slot : ℕ) → Bool
both_have_come w slot =
    has_come w (flow_id slot FromLesser) && has_come w (flow_id slot FromGreater)

-- how late a slot's connection makes room: 0 without a live stream, 1 if segments of one flow alone
-- came, and 2 for any other
abbrev pub room_class_of : (state : State) (slot : ℕ) → ℕ
room_class_of w slot = cond (is_live w slot) (cond (both_have_come w slot) 2 1) 0

-- whether the connection at one index was last seen before that at another
abbrev pub is_older : (state : State) (one_known_index other_known_index : ℕ) → Bool
is_older w one other =
    nat_lt (get_or w.lasts (slot_at w one) 0) (get_or w.lasts (slot_at w other) 0)

-- whether the connection at one index makes room before that at another: by their classes, then by
-- their last segments
abbrev pub makes_room_before : (state : State) (one_known_index other_known_index : ℕ) → Bool
makes_room_before w one other =
    nat_lt (room_class_of w (slot_at w one)) (room_class_of w (slot_at w other))
    || nat_eq (room_class_of w (slot_at w one))
    (room_class_of w (slot_at w other)) && is_older w one other

-- the index of the connection that makes room, among the first `count`
unfoldable pub eldest : (state : State) (known_pairs_compared : ℕ) → ℕ
eldest w zero = 0
eldest w (suc count) = cond (makes_room_before w count (eldest w count)) count (eldest w count)

-- what the connection of a slot holds is shown, first that of the flow whose stream began first
abbrev pub shown_by_age : (reader : Reader) (state : State) (slot : ℕ) → State
shown_by_age F w slot = shown F w slot (elder_side slot (lives w.events))

-- the connection at an index makes room: what it holds is shown, and then the stream that began
-- first closes first
abbrev pub cleared : (reader : Reader) (state : State) (index_among_known : ℕ) → State
cleared F w index =
    let v : State = shown_by_age F w (slot_at w index) in
    forgotten v index (elder_side (slot_at w index) (lives v.events)) Room

-- if no more connections may be known, one makes room
unfoldable pub with_room : (reader : Reader) (state : State) → State
with_room F w =
    cond (nat_lt (length w.known) (length w.lasts)) w (cleared F w (eldest w (length w.known)))

-- the slot that is taken next
unfoldable pub next_slot : (free_slots : List ℕ) → ℕ
next_slot free = get_or free (length free - 1) 0

-- the slots that are free after that one was taken
unfoldable pub rest_of_slots : (free_slots : List ℕ) → List ℕ
rest_of_slots free = take (length free - 1) free

-- a segment of a flow of the connection of a slot came
abbrev pub with_segment : (state : State) (slot flow_id : ℕ) → State
with_segment w slot id =
    record w { lasts = set w.lasts slot w.segments; came = set w.came id true }

-- a connection becomes known
unfoldable pub made_known : (state : State) (pair : EndpointPair) → State
made_known w p =
    let slot : ℕ = next_slot w.free in
    let index : ℕ = insertion_index p w.known in
    record w {
      known = insert w.known index p;
      slots = insert w.slots index slot;
      free = rest_of_slots w.free;
      lasts = set w.lasts slot w.segments;
      syns = set w.syns slot None;
      came = set (set w.came (flow_id slot FromLesser) false) (flow_id slot FromGreater) false;
      events = (w.events ++ Opens (flow_id slot FromLesser) (flow_from p FromLesser) ∷ [])
          ++ Opens (flow_id slot FromGreater) (flow_from p FromGreater) ∷ [];
    }

-- ---- A segment.

-- the number of the first octet; a SYN has a number of its own
abbrev pub first_number : (segment : Segment) → ℕ
first_number s = onward s.sequence (cond s.syn 1 0)

-- the number after the payload
abbrev pub number_behind : (segment : Segment) → ℕ
number_behind s = onward (first_number s) (length s.payload)

-- whether one of a flow's ports is chosen; if none is named, all are
abbrev pub has_chosen_port : (chosen_ports : List ℕ) (flow : endpoints.Flow) → Bool
has_chosen_port ports flow =
    nat_eq (length ports) 0 || list_any (λ port. port == flow.from.port) ports
    || list_any (λ port. port == flow.to.port) ports

-- whether a segment's payload is the first of its flow, for which nothing has come: the segment has
-- no RST, one of its ports is chosen, and a stream begins in the payload or it is a beginning of
-- the six octets
abbrev pub is_first_payload : (chosen_ports : List ℕ) (segment : Segment) → Bool
is_first_payload ports s =
    not s.reset && has_chosen_port ports s.flow
    && (is_some (stream_begin_in s.payload) || is_header_beginning s.payload)

-- whether a segment's payload is looked through, if nothing has come for its flow
abbrev pub is_looked_through : (chosen_ports : List ℕ) (segment : Segment) → Bool
is_looked_through ports s = not s.reset && has_chosen_port ports s.flow && nat_lt 0
    (length s.payload)

-- no stream begins in the payload of a segment
unfoldable pub looked_through : (state : State) (segment : Segment) → State
looked_through w s =
    cond (is_looked_through w.ports s) (with_capture_event w (Passes s.payload)) w

-- ---- A SYN of a known connection.

-- whether a number is near the one that is due in a flow that has begun
unfoldable pub is_near_due : (flow : Option FlowState) (sequence_number : ℕ) → Bool
is_near_due None number = false
is_near_due (Some f) number = is_near f.next number

-- whether a number is the flow's own: it is near the one that is due, or the stream begins with it
-- that is live or waited for
abbrev pub is_expected_number : (flow : Option FlowState) (sequence_number : ℕ) → Bool
is_expected_number flow number =
    is_near_due flow number
    || elim (stream_start_of flow) [ None ↦ false | Some first ↦ nat_eq first number ]

-- whether a segment of a flow is a SYN that is kept: it has no ACK, and the number after it isn't
-- the flow's own
abbrev pub is_syn_to_keep : (flow : Option FlowState) (segment : Segment) → Bool
is_syn_to_keep flow s =
    s.syn && not (is_some s.acknowledgement) && not (is_expected_number flow (onward s.sequence 1))

-- a SYN is kept, in place of an older one, and the segment does nothing more
unfoldable pub syn_kept : (state : State) (slot flow_id : ℕ) (segment : Segment) → State
syn_kept w slot id s =
    record (with_segment w slot id) {
      syns = set w.syns slot (Some (record { flow = id; number = onward s.sequence 1 }));
    }

-- the SYN that a slot's connection keeps
abbrev pub syn_at : (state : State) (slot : ℕ) → Option KeptSyn
syn_at w slot = get_or w.syns slot None

-- whether a segment of an id answers a SYN: it is of the opposite flow, has SYN and ACK, and
-- acknowledges the SYN
abbrev pub answers_syn : (kept_syn : KeptSyn) (segment_flow_id : ℕ) (segment : Segment) → Bool
answers_syn k id s =
    not (nat_eq k.flow id) && s.syn
    && elim s.acknowledgement [ None ↦ false | Some number ↦ nat_eq number k.number ]

-- whether a segment of an id follows a SYN: it has the payload after the SYN, in the same flow
abbrev pub follows_syn : (kept_syn : KeptSyn) (segment_flow_id : ℕ) (segment : Segment) → Bool
follows_syn k id s =
    nat_eq k.flow id && nat_eq s.sequence k.number && nat_lt 0 (length s.payload) && not s.syn
    && not s.reset

-- whether a segment begins its connection anew: it answers the SYN that is kept, or follows it
unfoldable pub begins_anew : (kept_syn : Option KeptSyn) (segment_flow_id : ℕ) (segment : Segment) →
    Bool
begins_anew None id s = false
begins_anew (Some k) id s = answers_syn k id s || follows_syn k id s

-- ---- What a segment does.

-- the FIN of a segment, if it has one
unfoldable pub fin_taken : (reader : Reader) (state : State) (flow_id : ℕ) (segment : Segment) →
    State
fin_taken F w id s = cond s.fin (arrived F w id (End (number_behind s))) w

-- a segment of a connection that isn't known
unfoldable pub unknown_taken : (reader : Reader) (state : State) (segment : Segment) → State
unknown_taken F w s =
    let v : State = with_room F w in
    let id : ℕ = flow_id (next_slot v.free) (pair_of s.flow).1 in
    cond (is_first_payload w.ports s)
    (fin_taken F (began F (made_known v (pair_of s.flow).0) id (first_number s) s.payload) id s)
    (looked_through w s)

-- the packet that is read tells a flow what it acknowledges of it, and whether it has octets of the
-- opposite flow
unfoldable pub heard : (reader : Reader) (state : State) (flow_id : ℕ)
    (acknowledged_number : Option ℕ) (has_opposite_octets : Bool) → State
heard F w id acknowledged answers = arrived F w id (Hears (record {
  acknowledged = acknowledged;
  answers = answers;
  arrival = w.arrival;
}))

-- a segment tells this to the opposite flow
abbrev pub acknowledgement_heard : (reader : Reader) (state : State) (opposite_flow_id : ℕ)
    (segment : Segment) → State
acknowledgement_heard F w id s = heard F w id s.acknowledgement (nat_lt 0 (length s.payload))

-- a payload: the first of its flow, or a later one, after which the pool may be short
unfoldable pub payload_taken : (reader : Reader) (state : State) (flow_id : ℕ) (segment : Segment) →
    State
payload_taken F w id s =
    elim (flow_at w id) [
      | None ↦
          cond (is_first_payload w.ports s) (began F w id (first_number s) s.payload)
          (looked_through w s)
      | Some f ↦ cond s.reset w
          (within_pool F (arrived F w id (Octets (first_number s) s.payload w.arrival)))
    ]

-- whether a segment of a flow is a RST that counts: its number is near the one that is due
abbrev pub is_reset : (flow : Option FlowState) (segment : Segment) → Bool
is_reset flow s = s.reset && is_near_due flow s.sequence

-- the flow of one side of the connection at an index
abbrev pub flow_of_side : (state : State) (index_among_known : ℕ) (side : Side) → Option FlowState
flow_of_side w index side = flow_at w (flow_id (slot_at w index) side)

-- what a connection holds is shown, and it is forgotten, because of a segment of one side
abbrev pub ended_by : (reader : Reader) (state : State) (index_among_known : ℕ)
    (segment_side : Side) (cause : CloseCause) → State
ended_by F w index side cause = forgotten (shown F w (slot_at w index) side) index side cause

-- the RST of a segment, if it counts
unfoldable pub reset_taken : (reader : Reader) (state : State) (index_among_known : ℕ)
    (segment_side : Side) (segment : Segment) → State
reset_taken F w index side s =
    cond (is_reset (flow_of_side w index side) s) (ended_by F w index side Reset) w

-- a segment of a known connection, up to its RST
abbrev pub before_reset : (reader : Reader) (state : State) (index_among_known : ℕ)
    (segment : Segment) → State
before_reset F w index s =
    let side : Side = (pair_of s.flow).1 in
    let slot : ℕ = slot_at w index in
    let id : ℕ = flow_id slot side in
    let seen : State = with_segment w slot id in
    let told : State = acknowledgement_heard F seen (flow_id slot (opposite side)) s in
    fin_taken F (payload_taken F told id s) id s

-- a segment of a known connection; at the end, its own flow is told of the packet, as what it holds
-- may be too old
unfoldable pub known_taken : (reader : Reader) (state : State) (index_among_known : ℕ)
    (segment : Segment) → State
known_taken F w index s =
    let side : Side = (pair_of s.flow).1 in
    heard F (reset_taken F (before_reset F w index s) index side s) (flow_id (slot_at w index) side)
    None false

-- one more segment
unfoldable pub step : (reader : Reader) (state : State) (segment : Segment) → State
step F w s =
    let v : State = record w { segments = w.segments + 1 } in
    let side : Side = (pair_of s.flow).1 in
    elim (index_of (pair_of s.flow).0 v.known) [
      | None ↦ unknown_taken F v s
      | Some index ↦
          cond (is_syn_to_keep (flow_of_side v index side) s)
          (syn_kept v (slot_at v index) (flow_id (slot_at v index) side) s)
          (cond (begins_anew (syn_at v (slot_at v index)) (flow_id (slot_at v index) side) s)
          (unknown_taken F (ended_by F v index side Syn) s) (known_taken F v index s))
    ]

-- all segments, in this order
unfoldable pub after : (reader : Reader) (state : State) (segments : List Segment) → State
after F w [] = w
after F w (s ∷ ss) = after F (step F w s) ss

-- ---- What happens in the capture apart from its segments.

-- one more packet is read, which came at this time, if it has one
abbrev pub with_packet : (state : State) (arrival_time : Option ℕ) → State
with_packet w time = record w {
  arrival = record { time = time; packet = min (w.arrival.packet + 1) (2 ^ 64 - 1) };
}

-- ---- The end of the capture.

-- while flows hold something, gaps in the one of them whose last stream began first; those before a
-- rank hold nothing
unfoldable pub gaps_from : (reader : Reader) (most_steps rank_by_stream_age : ℕ) (state : State) →
    State
gaps_from F zero rank w = w
gaps_from F (suc count) rank w =
    elim (nat_lt rank (length (lives w.events))) [
      | false ↦ w
      | true ↦
          (let id : ℕ = get_or (lives w.events) rank 0 in
          elim (is_holding w.held (flow_at w id)) [
            | true ↦ gaps_from F count rank (gapped F w id)
            | false ↦ gaps_from F count (suc rank) w
          ])
    ]

-- how a flow's live stream closes at the end: for a gap if a FIN is kept
unfoldable pub end_cause : (flow : Option FlowState) → CloseCause
end_cause None = CaptureEnd
end_cause (Some s) = cond (is_some s.fin) Gap CaptureEnd

-- the live streams of these flows close, one after another
unfoldable pub all_closed : (flow_ids : List ℕ) (state : State) → State
all_closed [] w = w
all_closed (id ∷ ids) w = all_closed ids (closed_at w id (end_cause (flow_at w id)))

-- the capture ends
unfoldable pub ended : (reader : Reader) (state : State) → State
ended F w =
    let v : State = gaps_from F (length w.held + length (lives w.events)) 0 w in
    all_closed (lives v.events) v
