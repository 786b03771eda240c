-- Slots in an order: the blocks that hold them (state).
use Rattle.std.specs.Prelude.{◌≡◌, ℕ, zero, suc, ◌*◌, ◌<◌, ◌≤◌, List, [], ◌∷◌, length, map}
use Rattle.std.specs.List.{AllByRecursion, concat}
use Rattle.std.specs.VecDeque.{deque_items, deque_capacity}
use Rattle.std.specs.declared.collections.VecDeque.{VecDeque}
use Rattle.tcp_slots.specs.declared.order.Order.TheInside.{Inside}

-- the slots in order, and how many there is memory for
pub record OrderView : Type 0 where
  pub items : List ℕ
  pub most : ℕ

-- the slots of each block
abbrev pub rows_of : {Z : Type 0} (blocks : List (VecDeque ℕ Z)) → List (List ℕ)
rows_of blocks = map deque_items blocks

-- there are few blocks, and each has memory for a full block of slots
pub record HaveMemory {Z : Type 0} (blocks : List (VecDeque ℕ Z)) : Type 0 where
  pub few : length blocks ≤ 1025
  pub each : AllByRecursion (λ b. 1024 ≤ deque_capacity b) blocks

-- each row is full, apart from the last one that isn't empty
unfoldable pub IsFilled : (slots_by_block : List (List ℕ)) → Type 0
IsFilled [] = Unit {0}
IsFilled (r ∷ rs) = (length r ≤ 1024) × (length r < 1024 → concat rs ≡ []) × IsFilled rs

-- the same, but one row has a free place
unfoldable pub HasGap : (block_with_gap : ℕ) (slots_by_block : List (List ℕ)) → Type 0
HasGap gap [] = ⊥
HasGap zero (r ∷ rs) = (length r < 1024) × (suc (length r) < 1024 → concat rs ≡ []) × IsFilled rs
HasGap (suc gap) (r ∷ rs) = (length r ≡ 1024) × HasGap gap rs

abbrev pub order_of : Inside → OrderView
order_of a = record {
  items = concat (rows_of a.blocks.items);
  most = 1024 * length a.blocks.items;
}

-- the blocks are filled, their slots are counted, and they have memory
pub record IsSoundOrder (inside : Inside) : Type 0 where
  pub filled : IsFilled (rows_of inside.blocks.items)
  pub counted : inside.len ≡ length (concat (rows_of inside.blocks.items))
  pub memory : HaveMemory inside.blocks.items
