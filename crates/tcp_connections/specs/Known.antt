-- The index of a pair among those that are known, and the slot of its connection (meaning).
use Rattle.std.specs.Prelude.{◌≡◌, ℕ, ◌<◌, List, length, get_or, Some}
use Rattle.tcp_streams.specs.declared.pair.EndpointPair.{EndpointPair}
use Rattle.tcp_connections.specs.Connections.{index_of}

-- a pair is known at an index, and its connection has this slot
pub record IsKnown (known_pairs : List EndpointPair) (slots_of_known_pairs : List ℕ)
    (pair : EndpointPair) (slot index_among_known : ℕ) : Type 0 where
  pub within : index_among_known < length known_pairs
  pub found : index_of pair known_pairs ≡ Some index_among_known
  pub slot_is : get_or slots_of_known_pairs index_among_known 0 ≡ slot
