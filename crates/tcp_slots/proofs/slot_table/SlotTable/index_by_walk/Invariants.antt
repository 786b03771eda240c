use Rattle.std.proofs.Common.{◌≡◌, ◌≤◌, ◌<◌, ◌-◌, ℕ, length, get_or}
use Rattle.tcp_slots.proofs.slot_table.SlotTable.index_by_walk.Given as goal

abbrev pub invariant-loop-index : goal.invariant-loop-index
invariant-loop-index g l = (l.index ≤ length l.self-inside.order.items)
    × ((k : ℕ) → k < l.index → get_or l.self-inside.order.items k 0 ≡ l.slot → ⊥)

abbrev pub decreases-loop-index : goal.decreases-loop-index
decreases-loop-index g l = length l.self-inside.order.items - l.index
