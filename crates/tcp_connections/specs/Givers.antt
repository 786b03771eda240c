-- Which flow gives up if the pool is short: the one of the least rank. A flow's rank goes by the
-- blocks that it holds, and then by its last stream (state).
use Rattle.std.specs.Prelude.{◌≡◌, ℕ, ◌+◌, ◌-◌, ◌*◌, ◌^◌, ◌<◌, ◌≤◌, cond, nat_eq, get_or, Option, Some}
use Rattle.tcp_slots.specs.Ranks.{rank_at}
use Rattle.tcp_connections.specs.declared.givers.GapRanks.{GapRanks}

-- the rank of a flow, by its blocks and its number: of two flows, the one that holds more blocks
-- has the lesser rank, or, if they hold as many, the one of the lesser number
abbrev pub rank_of : (blocks_held recency : ℕ) → ℕ
rank_of load number = (2 ^ 64 - 1 - load) * 2 ^ 64 + number

-- the number of a flow
abbrev pub recency_of : (ranks : GapRanks) (flow_id : ℕ) → ℕ
recency_of g id = get_or g.numbers.items id 0

-- the rank of a flow
abbrev pub noted_rank : (ranks : GapRanks) (flow_id : ℕ) → ℕ
noted_rank g id = rank_at g.ranks.slots g.ranks.nodes.items id

-- The rank of a flow was set, by these blocks and its number. The number is the greatest if the
-- last of all streams is the flow's; if not, it stays. Other flows keep theirs.
pub record IsRankSet (ranks_before ranks_after : GapRanks) (flow_id blocks_held : ℕ)
    (flow_of_last_stream : Option ℕ) : Type 0 where
  pub flows : ranks_after.ranks.slots ≡ ranks_before.ranks.slots
  pub small : blocks_held < 2 ^ 64
  pub ranks : (other : ℕ) → other < ranks_before.ranks.slots → noted_rank ranks_after other
      ≡ cond (nat_eq other flow_id) (rank_of blocks_held (recency_of ranks_after flow_id))
      (noted_rank ranks_before other)
  pub beside : (other : ℕ) → (other ≡ flow_id → ⊥) →
      recency_of ranks_after other ≡ recency_of ranks_before other
  pub same : (flow_of_last_stream ≡ Some flow_id → ⊥) →
      recency_of ranks_after flow_id ≡ recency_of ranks_before flow_id
  pub greatest : flow_of_last_stream ≡ Some flow_id → flow_id < ranks_before.ranks.slots →
      (other : ℕ) → recency_of ranks_after other ≤ recency_of ranks_after flow_id
