use Rattle.std.proofs.Common.{◌≡◌, ◌≤◌, ◌+◌, ◌-◌, length, take}
use Rattle.tcp_streams.specs.Places.{ids_of}
use Rattle.tcp_streams.proofs.places.id_at_rank.Given as goal

abbrev pub invariant-loop-index : goal.invariant-loop-index
invariant-loop-index l =
    (l.index ≤ length l.ids.items)
    × (length (ids_of (take l.index l.ids.items)) + l.left ≡ l.rank)

abbrev pub decreases-loop-index : goal.decreases-loop-index
decreases-loop-index l = length l.ids.items - l.index
