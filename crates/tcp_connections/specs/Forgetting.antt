-- Which connections are forgotten: one to make room for another, and otherwise only by their own
-- segments (meaning).
use Rattle.std.specs.Prelude.{◌≡◌, ◌⊎◌, ℕ, ◌+◌, ◌<◌, ◌≤◌, true, length, get_or, Some, None}
use Rattle.tcp_segment.specs.Segments.{Segment}
use Rattle.tcp_streams.specs.declared.pair.EndpointPair.{EndpointPair}
use Rattle.tcp_streams.specs.Pairs.{pair_of, flow_id}
use Rattle.tcp_flow.specs.declared.flow.FlowState.{FlowState}
use Rattle.tcp_flow.specs.Flow.{Reader, is_near}
use Rattle.tcp_connections.specs.declared.syns.KeptSyn.{KeptSyn}
use Rattle.tcp_connections.specs.Connections.{State, index_of, slot_at, is_live, both_have_come, room_class_of, is_first_payload, cleared, with_room, flow_of_side, syn_at, answers_syn, follows_syn, before_reset}

-- the number of the last segment of the connection at an index
abbrev pub last_at : (state : State) (index_among_known : ℕ) → ℕ
last_at w index = get_or w.lasts (slot_at w index) 0

-- a connection without a live stream, if there is one; if not, one of which segments of one flow
-- alone came, if there is one; of several like that, the one that was seen longest ago
pub record IsEldest (state : State) (index_among_known : ℕ) : Type 0 where
  pub within : index_among_known < length state.known
  pub idle : is_live state (slot_at state index_among_known) ≡ true →
      (other : ℕ) → other < length state.known →
      is_live state (slot_at state other) ≡ true
  pub one_way : is_live state (slot_at state index_among_known) ≡ true →
      both_have_come state (slot_at state index_among_known) ≡ true →
      (other : ℕ) → other < length state.known → both_have_come state (slot_at state other) ≡ true
  pub oldest : (other : ℕ) → other < length state.known →
      room_class_of state (slot_at state other)
      ≡ room_class_of state (slot_at state index_among_known) →
      last_at state index_among_known ≤ last_at state other

-- the eldest connection makes room: what it holds is shown, and it is forgotten
pub record MakesRoom (reader : Reader) (state : State) : Type 0 where
  pub index : ℕ
  pub eldest : IsEldest state index
  pub cleared : with_room reader state ≡ cleared reader state index

-- another connection becomes known, no more may be, and the connection of this pair is the eldest
pub record MakesWay (state : State) (segment : Segment) (pair_to_forget : EndpointPair) :
    Type 0 where
  pub begins : is_first_payload state.ports segment ≡ true
  pub new : index_of (pair_of segment.flow).0 state.known ≡ None
  pub full : length state.lasts ≤ length state.known
  pub index : ℕ
  pub eldest : IsEldest state index
  pub is : get_or state.known index pair_to_forget ≡ pair_to_forget

-- a segment of the connection at an index has a RST that counts: after all else of the segment was
-- taken, the number that is due in its flow is at most W from its own
pub record IsReset (reader : Reader) (state : State) (segment : Segment) (index_among_known : ℕ) :
    Type 0 where
  pub flow : FlowState
  pub is : flow_of_side (before_reset reader
      (record state { segments = state.segments + 1 }) index_among_known segment) index_among_known
      (pair_of segment.flow).1 ≡ Some flow
  pub reset : segment.reset ≡ true
  pub near : is_near flow.next segment.sequence ≡ true

-- a segment of the connection at an index answers the SYN that is kept, or follows it
pub record BeginsAnew (state : State) (segment : Segment) (index_among_known : ℕ) : Type 0 where
  pub syn : KeptSyn
  pub kept : syn_at state (slot_at state index_among_known) ≡ Some syn
  pub is :
      (answers_syn syn (flow_id (slot_at state index_among_known) (pair_of segment.flow).1)
      segment ≡ true)
      ⊎ (follows_syn syn (flow_id (slot_at state index_among_known) (pair_of segment.flow).1)
      segment ≡ true)

-- a connection is forgotten by a segment of its own
pub record IsForgottenByOwn (reader : Reader) (state : State) (segment : Segment)
    (forgotten_pair : EndpointPair) : Type 0 where
  pub own : (pair_of segment.flow).0 ≡ forgotten_pair
  pub index : ℕ
  pub at : index_of forgotten_pair state.known ≡ Some index
  pub is : BeginsAnew state segment index ⊎ IsReset reader state segment index

-- A connection is forgotten only by a RST of one of its flows with a number near the one that is
-- due there, by a segment of its own that answers or follows a SYN, or to make room for another.
abbrev pub IsForgottenBy : (reader : Reader) (state : State) (segment : Segment)
    (forgotten_pair : EndpointPair) → Type 0
IsForgottenBy F w s p = IsForgottenByOwn F w s p ⊎ MakesWay w s p
