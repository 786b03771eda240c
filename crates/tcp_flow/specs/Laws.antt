-- A stream has no gaps: each octet of it is what a payload of its flow has there.
use Rattle.std.specs.Prelude.{◌≡◌, ◌⊎◌, ℕ, ◌+◌, ◌<◌, ◌≤◌, ◌^◌, cond, List, [], ◌∷◌, length, take, drop, get_or, Option, Some, None, is_some, true, false}
use Rattle.std.specs.List.{AllByRecursion}
use Rattle.tcp_waiting.specs.Numbers.{onward, rank}
use Rattle.tcp_waiting.specs.Payload.{Payload, no_payload}
use Rattle.tcp_flow.specs.declared.tail.Tail.{Tail}
use Rattle.tcp_flow.specs.Flow.{Flow, Event, Opens, Begins, Delivers, Closes, flow_of, oldest_held, lives, parts_of}

-- from a number on, octets are those that a payload of the flow has from there up to its end
pub record IsPartOf (payloads : List Payload) (flow_id first_octet_number : ℕ) (octets : List ℕ) :
    Type 0 where
  pub index : ℕ
  pub among : index < length payloads
  pub own : (get_or payloads index no_payload).flow ≡ flow_id
  pub skipped : ℕ
  pub number_is : first_octet_number ≡ onward (get_or payloads index no_payload).number skipped
  pub octets_are : octets ≡ drop skipped (get_or payloads index no_payload).octets

-- an event of the flow, and the number that is due in the live stream before and after it
unfoldable pub OwnEventMayFollow : (payloads : List Payload) (flow_id : ℕ)
    (number_due_before : Option ℕ) (event : Event) (number_due_after : Option ℕ) → Type 0
OwnEventMayFollow payloads id None (Opens flow endpoints) None = Unit {0}
OwnEventMayFollow payloads id None (Begins flow start) (Some due) = start.number ≡ due
OwnEventMayFollow payloads id (Some due) (Delivers flow octets) (Some next) =
    IsPartOf payloads id due octets × (next ≡ onward due (length octets))
OwnEventMayFollow payloads id (Some due) (Closes flow cause) None = Unit {0}
OwnEventMayFollow payloads id before event behind = ⊥

-- an event: those of other flows and of the capture leave the number that is due
abbrev pub EventMayFollow : (payloads : List Payload) (flow_id : ℕ) (number_due_before : Option ℕ)
    (event : Event) (number_due_after : Option ℕ) → Type 0
EventMayFollow payloads id before event behind =
    ((flow_of event ≡ Some id) × OwnEventMayFollow payloads id before event behind)
    ⊎ ((flow_of event ≡ Some id → ⊥) × (before ≡ behind))

-- all events, one after another
unfoldable pub EventsMayFollow : (payloads : List Payload) (flow_id : ℕ)
    (number_due_before : Option ℕ) (events : List Event) (number_due_after : Option ℕ) → Type 0
EventsMayFollow payloads id before [] behind = before ≡ behind
EventsMayFollow payloads id before (h ∷ hs) behind =
    (due : Option ℕ)
    × (EventMayFollow payloads id before h due × EventsMayFollow payloads id due hs behind)

-- the number that is due, if a stream is live
abbrev pub due_of : (flow : Flow) → Option ℕ
due_of f = cond (lives f.live f.waits) (Some f.next) None

-- octets follow one another from a number on, and `Holds` is true of each part at its own number
unfoldable pub StandFrom : (Holds : ℕ → List ℕ → Type 0) (first_octet_number : ℕ)
    (parts : List (List ℕ)) → Type 0
StandFrom Holds number [] = Unit {0}
StandFrom Holds number (xs ∷ xss) =
    Holds number xs × StandFrom Holds (onward number (length xs)) xss

unfoldable pub total : (sizes : List ℕ) → ℕ
total [] = 0
total (n ∷ ns) = n + total ns

-- a tail: `Holds` is true of the octets of each of its payloads, which have five together at most
pub record IsTailOf (Holds : ℕ → List ℕ → Type 0) (tail : Tail) : Type 0 where
  pub number : tail.number < 2 ^ 32
  pub most : tail.octets ≤ 5
  pub room : length tail.parts ≡ 5
  pub all : total (take tail.count tail.parts) ≡ tail.octets
  pub stand : StandFrom Holds tail.number (parts_of tail)

-- the streams of a flow have no gaps, and what is held and the tail are parts of payloads
pub record IsGapless (payloads_that_came : List Payload) (flow : Flow) : Type 0 where
  pub next : flow.next < 2 ^ 32
  pub held : AllByRecursion (λ p. IsPartOf payloads_that_came p.flow p.number p.octets) flow.held
  pub tail : (t : Tail) → flow.tail ≡ Some t → IsTailOf (IsPartOf payloads_that_came flow.id) t
  pub events : EventsMayFollow payloads_that_came flow.id None flow.events (due_of flow)

-- each payload that a flow holds has a rank greater than `least`
unfoldable pub AreLater : (flow_id next_due_number rank_to_exceed : ℕ) (payloads : List Payload) →
    Type 0
AreLater id next least [] = Unit {0}
AreLater id next least (p ∷ ps) =
    (p.flow ≡ id → least < rank next p.number) × AreLater id next least ps

-- all payloads that a flow holds are to come, and it holds none if it isn't in step
pub record HoldsOnlyToCome (flow : Flow) : Type 0 where
  pub live : (is_some flow.live) ≡ true → AreLater flow.id flow.next (2 ^ 31) flow.held
  pub dead : (is_some flow.live) ≡ false → is_some (oldest_held flow) ≡ false
