-- The order in which connections make room, by a rank for each slot: first those without a live
-- stream, then those of which segments of one flow alone came, then all others; of several like
-- that, the one that was seen longest ago (meaning).
use Rattle.std.specs.Prelude.{◌≡◌, ℕ, ◌+◌, ◌*◌, ◌^◌, ◌<◌, ◌≤◌, Bool, true, false, cond, nat_eq, nat_lt, ◌&&◌, ◌||◌, List, length, get_or, Option, None, is_some}
use Rattle.tcp_flow.specs.declared.flow.FlowState.{FlowState}
use Rattle.tcp_slots.specs.Ranks.{rank_at}
use Rattle.tcp_connections.specs.Connections.{has_live}

-- whether segments of the flow of an id came since its connection became known
abbrev pub has_come_among : (flows_by_id : List (Option FlowState))
    (came_since_known_by_id : List Bool) (flow_id : ℕ) → Bool
has_come_among flows came id = is_some (get_or flows id None) || get_or came id false

-- whether the connection of a slot has a live stream
abbrev pub is_live_among : (flows_by_id : List (Option FlowState)) (slot : ℕ) → Bool
is_live_among flows slot =
    has_live (get_or flows (2 * slot) None) || has_live (get_or flows (2 * slot + 1) None)

-- whether segments of both flows of a slot's connection came
abbrev pub both_have_come_among : (flows_by_id : List (Option FlowState))
    (came_since_known_by_id : List Bool) (slot : ℕ) → Bool
both_have_come_among flows came slot =
    has_come_among flows came (2 * slot) && has_come_among flows came (2 * slot + 1)

-- how late the connection of a slot makes room
abbrev pub room_class_among : (flows_by_id : List (Option FlowState))
    (came_since_known_by_id : List Bool) (slot : ℕ) → ℕ
room_class_among flows came slot =
    cond (is_live_among flows slot) (cond (both_have_come_among flows came slot) 2 1) 0

-- whether the connection of one slot makes room before that of another: by their classes, then by
-- their last segments
abbrev pub is_before : (flows_by_id : List (Option FlowState)) (came_since_known_by_id : List Bool)
    (last_segment_by_slot : List ℕ) (one_slot other_slot : ℕ) → Bool
is_before flows came lasts one other =
    nat_lt (room_class_among flows came one) (room_class_among flows came other)
    || nat_eq (room_class_among flows came one) (room_class_among flows came other)
    && nat_lt (get_or lasts one 0) (get_or lasts other 0)

-- the connection of a slot makes room before all others
pub record IsBeforeAll (flows_by_id : List (Option FlowState)) (came_since_known_by_id : List Bool)
    (last_segment_by_slot : List ℕ) (slot : ℕ) : Type 0 where
  pub within : slot < length last_segment_by_slot
  pub before : (other : ℕ) → other < length last_segment_by_slot → (other ≡ slot → ⊥) →
      is_before flows_by_id came_since_known_by_id last_segment_by_slot slot other ≡ true

-- the rank of a slot: by its class, then by its last segment, whose number is less than 2^64
abbrev pub rank_among : (flows_by_id : List (Option FlowState)) (came_since_known_by_id : List Bool)
    (last_segment_by_slot : List ℕ) (slot : ℕ) → ℕ
rank_among flows came lasts slot = room_class_among flows came slot * 2 ^ 64 + get_or lasts slot 0

-- the noted rank of each slot is at most its true one
abbrev pub AreAtMost : (slot_count : ℕ) (noted_node_ranks : List ℕ)
    (flows_by_id : List (Option FlowState)) (came_since_known_by_id : List Bool)
    (last_segment_by_slot : List ℕ) → Type 0
AreAtMost slots nodes flows came lasts =
    (slot : ℕ) → slot < slots → rank_at slots nodes slot ≤ rank_among flows came lasts slot
