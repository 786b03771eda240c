-- The ranks of slots in a tree, and which slot has the least (meaning).
use Rattle.std.specs.Prelude.{◌≡◌, ℕ, ◌+◌, ◌*◌, ◌<◌, ◌≤◌, List, length, get_or, min}

-- each node has the lesser rank of its two children; there are `slot_count` leaves, which come last
pub record IsTree (slot_count : ℕ) (node_ranks : List ℕ) : Type 0 where
  pub size : length node_ranks ≡ 2 * slot_count
  pub least : (i : ℕ) → 1 ≤ i → i < slot_count →
      get_or node_ranks i 0 ≡ min (get_or node_ranks (2 * i) 0) (get_or node_ranks (2 * i + 1) 0)

-- the rank of a slot
abbrev pub rank_at : (slot_count : ℕ) (node_ranks : List ℕ) (slot : ℕ) → ℕ
rank_at slots nodes slot = get_or nodes (slots + slot) 0

-- the leaves are the same
abbrev pub HaveSameLeaves : (slot_count : ℕ) (nodes_after nodes_before : List ℕ) → Type 0
HaveSameLeaves slots new old = (i : ℕ) → slots ≤ i → get_or new i 0 ≡ get_or old i 0

-- the rank of a slot is less than that of each other slot
pub record IsUniqueLeast (slot_count : ℕ) (node_ranks : List ℕ) (slot : ℕ) : Type 0 where
  pub within : slot < slot_count
  pub least : (other : ℕ) → other < slot_count → (other ≡ slot → ⊥) →
      rank_at slot_count node_ranks slot < rank_at slot_count node_ranks other
