-- Payloads that wait: which of a flow is first, how many blocks they take, and how far they reach
-- (meaning).
use Rattle.std.specs.Prelude.{◌≡◌, ℕ, suc, ◌+◌, ◌-◌, ◌*◌, ◌^◌, ◌/◌, ◌<◌, Bool, false, cond, nat_lt, nat_le, nat_eq, ◌&&◌, ◌||◌, List, [], ◌∷◌, length, drop, Option, Some, None, get_or}
use Rattle.std.specs.List.{AllByRecursion, insert}
use Rattle.std.specs.Option.{option_map}
use Rattle.tcp_waiting.specs.declared.arrival.Arrival.{Arrival}
use Rattle.tcp_waiting.specs.Numbers.{ahead, onward, rank}

-- a payload: the id of its flow, the sequence number of its first octet, its octets, and the packet
-- that they came in
pub record Payload : Type 0 where
  pub flow : ℕ
  pub number : ℕ
  pub octets : List ℕ
  pub arrival : Arrival

abbrev pub payload : (flow_id first_octet_number : ℕ) (octets : List ℕ) (arrival : Arrival) →
    Payload
payload flow number octets arrival =
    record { flow = flow; number = number; octets = octets; arrival = arrival }

-- the value for an index that has no payload
abbrev pub no_payload : Payload
no_payload = payload 0 0 [] (record { time = None; packet = 0 })

-- a payload without its first `count` octets
abbrev pub without_first : (octet_count : ℕ) (payload : Payload) → Payload
without_first count p = record p { number = onward p.number count; octets = drop count p.octets }

-- the order of payloads as one number: by flow, then by the number of the first octet, then by the
-- length, which is less than 2^32
abbrev pub key : (flow_id first_octet_number octet_count : ℕ) → ℕ
key flow number count = (flow * 2 ^ 32 + number) * 2 ^ 32 + count

abbrev pub key_of : (payload : Payload) → ℕ
key_of p = key p.flow p.number (length p.octets)

-- the place of a key in this order: after all payloads with lesser keys
unfoldable pub place_of : (key : ℕ) (payloads : List Payload) → ℕ
place_of key [] = 0
place_of key (p ∷ ps) = cond (nat_lt (key_of p) key) (suc (place_of key ps)) 0

-- the payloads after one more was put in its place
abbrev pub put : (payload : Payload) (payloads : List Payload) → List Payload
put p payloads = insert payloads (place_of (key_of p) payloads) p

-- W: how many octets after `next` a held payload may end
abbrev pub window : ℕ
window = 1048576

-- the index of the payload of least rank that a flow holds; the first of them in order if several
-- have it
unfoldable pub oldest_with : (next : ℕ) (payload_in_front : Payload)
    (payloads_behind : List Payload) (oldest_index_behind : Option ℕ) → Option ℕ
oldest_with next p payloads None = Some 0
oldest_with next p payloads (Some index) =
    cond (nat_lt (rank next (get_or payloads index p).number) (rank next p.number))
    (Some (suc index))
    (Some 0)

unfoldable pub oldest_index : (flow_id next : ℕ) (payloads : List Payload) → Option ℕ
oldest_index id next [] = None
oldest_index id next (p ∷ ps) =
    cond (nat_eq p.flow id) (oldest_with next p ps (oldest_index id next ps))
    (option_map suc (oldest_index id next ps))

-- how many payloads a flow holds
unfoldable pub count_of : (flow_id : ℕ) (payloads : List Payload) → ℕ
count_of id [] = 0
count_of id (p ∷ ps) = cond (nat_eq p.flow id) 1 0 + count_of id ps

-- how many blocks of 1,024 octets the payloads take
unfoldable pub blocks_of : (payloads : List Payload) → ℕ
blocks_of [] = 0
blocks_of (p ∷ ps) = (length p.octets + 1023) / 1024 + blocks_of ps

-- how many blocks the payloads of a flow take: its load
unfoldable pub load_of : (flow_id : ℕ) (payloads : List Payload) → ℕ
load_of id [] = 0
load_of id (p ∷ ps) =
    cond (nat_eq p.flow id) ((length p.octets + 1023) / 1024) 0 + load_of id ps

-- whether a payload ends more than W after `next`
abbrev pub ends_beyond_window : (next first_octet_number octet_count : ℕ) → Bool
ends_beyond_window next number count = nat_lt window (ahead next number + count)

-- whether a flow holds a payload that ends more than W after `next`
unfoldable pub holds_beyond_window : (flow_id next : ℕ) (payloads : List Payload) → Bool
holds_beyond_window id next [] = false
holds_beyond_window id next (p ∷ ps) =
    (nat_eq p.flow id && ends_beyond_window next p.number (length p.octets)) || holds_beyond_window
    id next ps

-- whether a flow holds a payload with this number and at least this length
unfoldable pub holds_as_long : (flow_id first_octet_number least_octet_count : ℕ)
    (payloads : List Payload) → Bool
holds_as_long id number count [] = false
holds_as_long id number count (p ∷ ps) =
    (nat_eq p.flow id && nat_eq p.number number && nat_le count (length p.octets))
    || holds_as_long id number count ps

-- each payload came less than `age` nanoseconds before a time, as far as it is known when
abbrev pub AreYounger : (age_limit time : ℕ) (payloads : List Payload) → Type 0
AreYounger age time payloads =
    AllByRecursion (λ p. (came : ℕ) → p.arrival.time ≡ Some came → time - came < age) payloads
