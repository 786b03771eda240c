-- How the memory of a pool is laid out: where the octets of each payload are, in the payloads'
-- order.
use Rattle.std.specs.Prelude.{◌≡◌, ℕ, ◌+◌, ◌*◌, ◌^◌, ◌<◌, ◌≤◌, Bool, false, not, nat_eq, nat_lt, ◌&&◌, ◌||◌, List, [], ◌∷◌, ◌++◌, length, get_or, map, take, drop, Option, Some, None}
use Rattle.std.specs.List.{AllByRecursion}
use Rattle.std.specs.Vec.{vec_capacity}
use Rattle.tcp_waiting.specs.Payload.{Payload, payload, no_payload, blocks_of, load_of, key_of, ends_beyond_window}
use Rattle.tcp_waiting.specs.Pool.{PoolView}
use Rattle.tcp_waiting.specs.declared.pool.KnownEnds.{KnownEnds}
use Rattle.tcp_waiting.specs.declared.pool.Waiting.{Waiting}
use Rattle.tcp_waiting.specs.declared.pool.Pool.TheInside.{Inside}

abbrev pub octets_at : (memory : List ℕ) (offset octet_count : ℕ) → List ℕ
octets_at all from count = take count (drop from all)

abbrev pub payload_in : (memory : List ℕ) (waiting : Waiting) → Payload
payload_in all w =
    payload w.flow w.number (octets_at all w.from w.count) (record {
      time = w.time;
      packet =
          w.packet;
    })

-- the payloads, with their octets taken from the memory
abbrev pub held_in : (memory : List ℕ) (waitings : List Waiting) → List Payload
held_in all waitings = map (payload_in all) waitings

-- the octets of each payload are within the memory
abbrev pub AreWithin : (memory_size : ℕ) (waitings : List Waiting) → Type 0
AreWithin top waitings = AllByRecursion (λ w. w.from + w.count ≤ top) waitings

-- a payload that may wait: it has an octet, and its number and its length are less than 2^32
pub record IsSmall (payload : Payload) : Type 0 where
  pub number : payload.number < 2 ^ 32
  pub some : 0 < length payload.octets
  pub short : length payload.octets < 2 ^ 32

abbrev pub AreSmall : (payloads : List Payload) → Type 0
AreSmall payloads = AllByRecursion IsSmall payloads

-- the keys ascend: no payload has a greater key than a later one
unfoldable pub AreOrdered : (payloads : List Payload) → Type 0
AreOrdered [] = Unit {0}
AreOrdered (p ∷ ps) = AllByRecursion (λ q. key_of p ≤ key_of q) ps × AreOrdered ps

-- whether the payload at a place is one of this flow
abbrev pub is_of_flow_at : (place flow_id : ℕ) (payloads : List Payload) → Bool
is_of_flow_at place id payloads =
    nat_lt place (length payloads) && nat_eq (get_or payloads place no_payload).flow id

-- whether a flow holds a payload that ends more than W after `next`, other than those with this
-- number and length
unfoldable pub holds_beyond_window_but : (flow_id next excepted_number excepted_octet_count : ℕ)
    (payloads : List Payload) → Bool
holds_beyond_window_but id next number count [] = false
holds_beyond_window_but id next number count (p ∷ ps) =
    (nat_eq p.flow id && not (nat_eq p.number number && nat_eq (length p.octets) count)
    && ends_beyond_window next p.number (length p.octets)) || holds_beyond_window_but id next number
    count ps

abbrev pub pool_view_of : Inside → PoolView
pool_view_of a = record { held = held_in a.octets.items a.waiting.items; blocks = a.blocks }

-- the memory has room for all that may wait, and for a copy of the octets
pub record IsRoomy (inside : Inside) : Type 0 where
  pub most : inside.blocks ≤ 1048576
  pub places : inside.blocks + 256 ≤ inside.waiting.room
  pub octets : 1024 * (inside.blocks + 256) ≤ vec_capacity inside.octets
  pub spare : 1024 * (inside.blocks + 256) ≤ vec_capacity inside.spare
  pub fits : length inside.octets.items ≤ 1024 * (inside.blocks + 256)

-- for each flow below the length of `loads`, how many blocks it holds
abbrev pub CountLoads : (loads_by_flow : List ℕ) (held : List Payload) → Type 0
CountLoads loads held =
    (flow : ℕ) → flow < length loads → get_or loads flow 0 ≡ load_of flow held

-- what is known of the ends of each flow's payloads is true
abbrev pub AreTrueEnds : (known_ends_by_flow : List (Option KnownEnds)) (held : List Payload) →
    Type 0
AreTrueEnds nears held = (flow : ℕ) (n : KnownEnds) → get_or nears flow None ≡ Some n →
    holds_beyond_window_but flow n.base n.number n.count held ≡ false

-- no payload came before this time, as far as it is known when
abbrev pub CameNotBefore : (earliest_time : ℕ) (payloads : List Payload) → Type 0
CameNotBefore since payloads =
    AllByRecursion (λ p. (came : ℕ) → p.arrival.time ≡ Some came → since ≤ came) payloads

pub record IsSoundPool (inside : Inside) : Type 0 where
  pub within : AreWithin (length inside.octets.items) inside.waiting.items
  pub roomy : IsRoomy inside
  pub ordered : AreOrdered (held_in inside.octets.items inside.waiting.items)
  pub small : AreSmall (held_in inside.octets.items inside.waiting.items)
  pub used : inside.used ≡ blocks_of (held_in inside.octets.items inside.waiting.items)
  pub loads : CountLoads inside.loads.items (held_in inside.octets.items inside.waiting.items)
  pub nears : AreTrueEnds inside.nears.items (held_in inside.octets.items inside.waiting.items)
  pub since : CameNotBefore inside.since (held_in inside.octets.items inside.waiting.items)

-- the octets of the payloads one after another, without holes
unfoldable pub packed : (memory : List ℕ) (waitings : List Waiting) → List ℕ
packed all [] = []
packed all (w ∷ ws) = octets_at all w.from w.count ++ packed all ws

-- the payloads after their octets were packed, from this offset on
unfoldable pub placed_from : (offset : ℕ) (waitings : List Waiting) → List Waiting
placed_from offset [] = []
placed_from offset (w ∷ ws) = record w { from = offset } ∷ placed_from (offset + w.count) ws

unfoldable pub total_octets : (waitings : List Waiting) → ℕ
total_octets [] = 0
total_octets (w ∷ ws) = w.count + total_octets ws
