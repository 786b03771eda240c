use Rattle.std.proofs.Common.{◌≤◌, ◌-◌, length}
use Rattle.tcp_slots.proofs.Keys.{IsLeft}
use Rattle.tcp_slots.proofs.slot_table.SlotTable.index.Given as goal

abbrev pub invariant-loop-low : goal.invariant-loop-low
invariant-loop-low g l = (l.low ≤ l.high) × (l.high ≤ length l.self.keys)
    × IsLeft (λ y. g.K.Ord.cmp y l.key) l.self.keys l.low l.high

abbrev pub decreases-loop-low : goal.decreases-loop-low
decreases-loop-low g l = l.high - l.low
