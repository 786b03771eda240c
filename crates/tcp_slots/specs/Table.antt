-- Which slot a key has (meaning), and what is kept of it (state).
use Rattle.std.specs.Prelude.{◌≡◌, ℕ, ◌≤◌, true, List, [], ◌∷◌, ◌++◌, length, get_or, Option, None, is_some}
use Rattle.std.specs.Option.{option_to_list}
use Rattle.std.specs.List.{AllByRecursion}
use Rattle.tcp_slots.specs.Order.{OrderView}

-- the keys that are known, in order, the slot of each, and how many keys there may be
pub record TableView (K : Type 0) : Type 0 where
  pub keys : List K
  pub slots : List ℕ
  pub most : ℕ

-- the last key of each of these slots
unfoldable pub keys_of : {K : Type 0} (last_keys_by_slot : List (Option K)) (slots : List ℕ) →
    List K
keys_of last [] = []
keys_of last (slot ∷ slots) = option_to_list (get_or last slot None) ++ keys_of last slots

abbrev pub table_of : {K : Type 0} (last_keys_by_slot : List (Option K)) (order : OrderView)
    (most_keys : ℕ) → TableView K
table_of last order most =
    record { keys = keys_of last order.items; slots = order.items; most = most }

-- each slot in the order has a key, and there is memory for all keys
pub record IsTable {K : Type 0} (last_keys_by_slot : List (Option K)) (order : OrderView)
    (most_keys : ℕ) : Type 0 where
  pub few : most_keys ≤ 65536
  pub memory : most_keys ≤ order.most
  pub keys : most_keys ≤ length last_keys_by_slot
  pub as_many : length (keys_of last_keys_by_slot order.items) ≡ length order.items
  pub known : AllByRecursion (λ slot. is_some (get_or last_keys_by_slot slot None) ≡ true)
      order.items
