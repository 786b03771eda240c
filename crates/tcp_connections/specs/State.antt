-- The code's connections together with what has happened, and what is true of them.
use Rattle.std.specs.Prelude.{◌≡◌, ◌⊎◌, ℕ, cond, nat_eq, ◌+◌, ◌*◌, ◌^◌, ◌<◌, ◌≤◌, true, List, [], ◌∷◌, length, Some, None, is_some, OnOk, Result}
use Rattle.std.specs.List.Sorted.{IsStrictlySortedBy}
use Rattle.tcp_waiting.specs.Payload.{Payload, count_of, blocks_of, load_of}
use Rattle.tcp_flow.specs.declared.flow.FlowState.{FlowState}
use Rattle.tcp_flow.specs.declared.flow.ListenerError.{ListenerError}
use Rattle.tcp_flow.specs.Flow.{Event}
use Rattle.tcp_flow.specs.Laws.{HoldsOnlyToCome}
use Rattle.tcp_flow.specs.State.{state}
use Rattle.tcp_connections.specs.declared.connections.Connections.{Connections}
use Rattle.tcp_connections.specs.declared.givers.GapRanks.{GapRanks}
use Rattle.tcp_streams.specs.Pairs.{compare_pairs}
use Rattle.tcp_streams.specs.Lives.{lives}
use Rattle.tcp_connections.specs.Connections.{State, flow_at, stream_start_at}
use Rattle.tcp_connections.specs.Givers.{recency_of, noted_rank, rank_of}

-- how often a number is in a list
unfoldable pub times : (number : ℕ) (numbers : List ℕ) → ℕ
times number [] = 0
times number (x ∷ xs) = cond (nat_eq x number) 1 0 + times number xs

-- one number stands before another in a list
unfoldable pub StandBefore : (one other : ℕ) (numbers : List ℕ) → Type 0
StandBefore one other [] = ⊥
StandBefore one other (x ∷ xs) = ((x ≡ one) × (0 < times other xs)) ⊎ StandBefore one other xs

-- Each flow has its rank. Of two flows, the one whose last stream began later has a number that is
-- as great or greater.
pub record AreRanked (gap_ranks : GapRanks) (flow_count : ℕ) (held_by_all_flows : List Payload)
    (live_flow_ids_oldest_first : List ℕ) : Type 0 where
  pub many : gap_ranks.ranks.slots ≡ flow_count
  pub loads : (id : ℕ) → load_of id held_by_all_flows < 2 ^ 64
  pub ranks : (id : ℕ) → id < flow_count → noted_rank gap_ranks id
      ≡ rank_of (load_of id held_by_all_flows) (recency_of gap_ranks id)
  pub order : (a b : ℕ) → StandBefore a b live_flow_ids_oldest_first →
      recency_of gap_ranks a ≤ recency_of gap_ranks b

-- Each slot is that of one connection, or it is free and has no flows. The pairs are in order. Only
-- flows that have begun hold something, and all of it is to come.
pub record IsSound (connections : State) : Type 0 where
  pub some : 1 ≤ length connections.lasts
  pub most : length connections.lasts ≤ 65536
  pub pairs : length connections.slots ≡ length connections.known
  pub below : (slot : ℕ) → 0 < times slot connections.slots + times slot connections.free →
      slot < length connections.lasts
  pub once : (slot : ℕ) → times slot connections.slots + times slot connections.free ≤ 1
  pub freed : (slot : ℕ) → 0 < times slot connections.free
      → (flow_at connections (2 * slot) ≡ None) × (flow_at connections (2 * slot + 1) ≡ None)
  pub all : length connections.free + length connections.known ≡ length connections.lasts
  pub flows : length connections.flows ≡ 2 * length connections.lasts
  pub order : IsStrictlySortedBy compare_pairs connections.known
  pub ids : (id : ℕ) (s : FlowState) → flow_at connections id ≡ Some s → s.id ≡ id
  pub settled : (id : ℕ) (s : FlowState) → flow_at connections id ≡ Some s →
      HoldsOnlyToCome (state s connections.held [])
  pub vacant : (id : ℕ) → flow_at connections id ≡ None → count_of id connections.held ≡ 0

-- what the code has, together with what has happened
abbrev pub state_of : (connections_in_code : Connections) (events_so_far : List Event) → State
state_of c events = record {
  ports = c.ports.items;
  blocks = c.pool.blocks;
  known = c.table.keys;
  slots = c.table.slots;
  free = c.free.free.items;
  lasts = c.flows.stamps.last.items;
  syns = c.syns.kept.items;
  came = c.flows.came.ids.items;
  flows = c.flows.states.items;
  held = c.pool.held;
  events = events;
  segments = c.segments;
  arrival = c.arrival;
}

-- The code has a state: the listener has observed all that has happened, and
-- `live_flow_ids_oldest_first` are the flows whose streams are live or were closed by a gap. Each
-- flow in step is one of them. What is held takes at most `blocks_over_pool` blocks more than there
-- are. Each flow has its rank.
pub record IsStateOver (blocks_over_pool : ℕ) (Observed : List Event → Type 0)
    (live_flow_ids_oldest_first : List ℕ) (connections_in_code : Connections) (state : State) :
    Type 0 where
  pub observed : Observed state.events
  pub live : live_flow_ids_oldest_first ≡ lives state.events
  pub same : state_of connections_in_code state.events ≡ state
  pub told : (id : ℕ) → is_some (stream_start_at state id) ≡ true →
      0 < times id (lives state.events)
  pub sound : IsSound state
  pub blocks : blocks_of state.held ≤ state.blocks + blocks_over_pool
  pub free : connections_in_code.free.most ≡ length state.lasts
  pub room : connections_in_code.table.most ≡ length state.lasts
  pub ranked : AreRanked connections_in_code.givers (length state.flows) state.held
      (lives state.events)

-- the blocks are enough, as they are between segments
abbrev pub IsState : (Observed : List Event → Type 0) (live_flow_ids_oldest_first : List ℕ)
    (connections_in_code : Connections) (state : State) → Type 0
IsState = IsStateOver 0

-- the code has a state after the end of the capture, which needn't be sound
pub record IsAt (Observed : List Event → Type 0) (live_flow_ids_oldest_first : List ℕ)
    (connections_in_code : Connections) (state : State) : Type 0 where
  pub observed : Observed state.events
  pub live : live_flow_ids_oldest_first ≡ lives state.events
  pub same : state_of connections_in_code state.events ≡ state

-- the code has a state in which at most `over` blocks are missing
abbrev pub HasStateOver : (blocks_over_pool : ℕ) (Observed : List Event → Type 0)
    (live_flow_ids_oldest_first : List ℕ) (connections_in_code : Connections) → Type 0
HasStateOver over Observed live c = (w : State) × IsStateOver over Observed live c w

-- the code has a state
abbrev pub HasState : (Observed : List Event → Type 0) (live_flow_ids_oldest_first : List ℕ)
    (connections_in_code : Connections) → Type 0
HasState = HasStateOver 0

-- on Ok the code has the state that `step` makes of each that it had; at most `over` blocks were
-- missing before, and `rest` are afterwards
abbrev pub MakesOver : (blocks_over_before blocks_over_after : ℕ) {X : Type 0}
    (result : Result X ListenerError) (expected_step : State → State)
    (ObservedBefore : List Event → Type 0) (live_before : List ℕ) (connections_before : Connections)
    (ObservedAfter : List Event → Type 0) (live_after : List ℕ) (connections_after : Connections) →
    Type 0
MakesOver over rest result step Observed live before ObservedAfter live_after after =
    (w : State) → IsStateOver over Observed live before w → OnOk result
    (IsStateOver rest ObservedAfter live_after after (step w))

-- on Ok the code has the state that f makes of each that it had
abbrev pub Makes : {X : Type 0} (result : Result X ListenerError) (expected_step : State → State)
    (ObservedBefore : List Event → Type 0) (live_before : List ℕ) (connections_before : Connections)
    (ObservedAfter : List Event → Type 0) (live_after : List ℕ) (connections_after : Connections) →
    Type 0
Makes = MakesOver 0 0

-- the same at the end of the capture
abbrev pub Ends : {X : Type 0} (result : Result X ListenerError) (expected_step : State → State)
    (ObservedBefore : List Event → Type 0) (live_before : List ℕ) (connections_before : Connections)
    (ObservedAfter : List Event → Type 0) (live_after : List ℕ) (connections_after : Connections) →
    Type 0
Ends result step Observed live before ObservedAfter live_after after =
    (w : State) → IsAt Observed live before w → OnOk result
    (IsAt ObservedAfter live_after after (step w))
