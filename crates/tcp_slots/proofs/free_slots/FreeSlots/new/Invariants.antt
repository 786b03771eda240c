use Rattle.std.proofs.Common.{◌-◌, ◌≡◌, ◌≤◌}
use Rattle.std.specs.Vec.{vec_len, vec_capacity}
use Rattle.tcp_slots.specs.Slots.{slots_below}
use Rattle.tcp_slots.proofs.free_slots.FreeSlots.new.Given as goal

abbrev pub invariant-loop-slot : goal.invariant-loop-slot
invariant-loop-slot l =
    (l.free.items ≡ slots_below l.slot) × (vec_len l.free ≡ l.slot) × (l.slot ≤ l.most)
    × (l.most ≤ vec_capacity l.free)

abbrev pub decreases-loop-slot : goal.decreases-loop-slot
decreases-loop-slot l = l.most - l.slot
