-- A tree of ranks, while a leaf and the nodes above it are written.
use Rattle.std.proofs.Common.{◌≡◌, ℕ, ◌+◌, ◌*◌, ◌/◌, ◌<◌, ◌≤◌, List, length, get_or}
use Rattle.std.specs.Prelude.{min}

-- a node has the lesser rank of its two children
abbrev pub IsLesser : (nodes : List ℕ) (node : ℕ) → Type 0
IsLesser nodes i =
    get_or nodes i 0 ≡ min (get_or nodes (2 * i) 0) (get_or nodes (2 * i + 1) 0)

-- a tree, apart from the node above this one
pub record IsTreeButParent (slots index : ℕ) (nodes : List ℕ) : Type 0 where
  pub size : length nodes ≡ 2 * slots
  pub least : (i : ℕ) → 1 ≤ i → i < slots → (i ≡ index / 2 → ⊥) → IsLesser nodes i

-- a tree, apart from this node
pub record IsTreeButNode (slots index : ℕ) (nodes : List ℕ) : Type 0 where
  pub size : length nodes ≡ 2 * slots
  pub least : (i : ℕ) → 1 ≤ i → i < slots → (i ≡ index → ⊥) → IsLesser nodes i
