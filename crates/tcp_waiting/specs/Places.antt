-- Payloads in an order: the order has an index for each, at which a slab has the payload (state).
use Rattle.std.specs.Prelude.{ℕ, ◌≡◌, ◌≤◌, ◌<◌, ◌^◌, eqb, List, length, map, reverse, None, IsSome, unwrap_or}
use Rattle.std.specs.List.{AllByRecursion, IsDistinct}
use Rattle.slab.specs.Slab.{Slab, get, slab_len}
use Rattle.tcp_waiting.specs.declared.pool.Waiting.{Waiting}
use Rattle.tcp_waiting.specs.declared.places.Places.TheInside.{Inside}

-- the payloads in order, and how many may wait without more memory
pub record PlacesView : Type 0 where
  pub items : List Waiting
  pub room : ℕ

-- the value for an index at which a slab has nothing
abbrev pub no_waiting : Waiting
no_waiting = record { time = None; packet = 0; flow = 0; number = 0; from = 0; count = 0 }

-- what a slab has at an index
abbrev pub waiting_under : (slots : Slab Waiting) (index_in_slab : ℕ) → Waiting
waiting_under slots number = unwrap_or (get slots number) no_waiting

-- the slots of the payloads in order: the last one comes first in what is kept
abbrev pub numbers_of : (inside : Inside) → List ℕ
numbers_of a = reverse a.order.items

abbrev pub places_of : Inside → PlacesView
places_of a = record { items = map (waiting_under a.slots) (numbers_of a); room = a.room }

-- the indices of an order are distinct, and the slab has something at each of them and nothing else
pub record IsOrderOfSlab (slab_indices : List ℕ) (slab : Slab Waiting) : Type 0 where
  pub distinct : IsDistinct eqb slab_indices
  pub held : AllByRecursion (λ number. IsSome (get slab number)) slab_indices
  pub counted : slab_len slab ≡ length slab_indices

pub record AreSoundPlaces (inside : Inside) : Type 0 where
  pub tied : IsOrderOfSlab (numbers_of inside) inside.slots
  pub order : inside.room ≤ inside.order.most
  pub slots : inside.room ≤ inside.slots.capacity
  pub small : inside.slots.capacity < 2 ^ 32
