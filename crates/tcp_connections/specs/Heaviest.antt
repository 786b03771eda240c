-- Which flow gives up if the pool is short (meaning).
use Rattle.std.specs.Prelude.{◌≡◌, ℕ, ◌<◌, ◌≤◌, List, length, get_or}
use Rattle.tcp_waiting.specs.Payload.{Payload, load_of}

-- one of the flows, which are in the order of their streams, holds no fewer blocks than any other,
-- and more than each before it
pub record IsHeaviest (held : List Payload) (flow_ids_oldest_first : List ℕ)
    (flow_id : ℕ) : Type 0 where
  pub rank : ℕ
  pub within : rank < length flow_ids_oldest_first
  pub is : flow_id ≡ get_or flow_ids_oldest_first rank 0
  pub most : (k : ℕ) → k < length flow_ids_oldest_first →
      load_of (get_or flow_ids_oldest_first k 0) held ≤ load_of flow_id held
  pub first : (k : ℕ) → k < rank →
      load_of (get_or flow_ids_oldest_first k 0) held < load_of flow_id held
