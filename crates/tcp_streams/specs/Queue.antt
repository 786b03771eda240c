-- The flows of the live streams, in their order: what is kept of them (state).
use Rattle.std.specs.Prelude.{ℕ, ◌≤◌, List}
use Rattle.std.specs.Vec.{vec_capacity}
use Rattle.tcp_streams.specs.declared.queue.Queue.TheInside.{Inside}
use Rattle.tcp_streams.specs.Places.{IsQueue, ids_of}

-- the ids of flows, in their order
pub record QueueView : Type 0 where
  pub items : List ℕ

abbrev pub queue_of : Inside → QueueView
queue_of a = record { items = ids_of a.ids.items }

-- the places have room for each id
pub record IsSoundQueue (inside : Inside) : Type 0 where
  pub queue : IsQueue inside.ids.items inside.stamps.flows.items inside.front.places
      inside.front.count
  pub room : 262144 ≤ vec_capacity inside.ids
