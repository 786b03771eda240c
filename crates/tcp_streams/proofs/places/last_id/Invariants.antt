use Rattle.std.proofs.Common.{◌≡◌, ℕ, List, length}
use Rattle.std.specs.Vec.{vec_capacity}
use Rattle.tcp_streams.specs.Places.{IsQueue, ids_of}
use Rattle.tcp_streams.proofs.places.last_id.Given as goal

abbrev pub invariant-loop-id : goal.invariant-loop-id
invariant-loop-id l = record {
  items : ids_of l.ids.items ≡ ids_of l.fn.ids.items;
  queue : (stamps : List ℕ) → IsQueue l.fn.ids.items stamps l.fn.front.places l.fn.front.count →
      IsQueue l.ids.items stamps l.front.places l.front.count;
  room : vec_capacity l.ids ≡ vec_capacity l.fn.ids;
}

abbrev pub decreases-loop-id : goal.decreases-loop-id
decreases-loop-id l = length l.ids.items
