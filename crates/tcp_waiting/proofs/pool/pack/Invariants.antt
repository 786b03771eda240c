use Rattle.std.proofs.Common.{◌≡◌, ◌≤◌, ◌-◌, length}
use Rattle.std.specs.Vec.{vec_capacity}
use Rattle.tcp_waiting.proofs.Packing.{IsPacking}
use Rattle.tcp_waiting.proofs.pool.pack.Given as goal

abbrev pub invariant-loop-index : goal.invariant-loop-index
invariant-loop-index l =
    IsPacking l.initial.octets.items l.initial.waiting.items l.index l.spare.items
    l.waiting.items
    × (l.waiting.room ≡ l.initial.waiting.room)
    × (vec_capacity l.initial.spare ≤ vec_capacity l.spare)

abbrev pub decreases-loop-index : goal.decreases-loop-index
decreases-loop-index l = length l.initial.waiting.items - l.index
