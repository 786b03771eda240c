-- Streams have no gaps: the octets that are delivered between the beginning and the close of one
-- follow one another (RFC 9293, Sequence Numbers; meaning).
use Rattle.std.specs.Prelude.{◌≡◌, ℕ, ◌/◌, ◌<◌, List, Option, Some, None, slice_get}
use Rattle.std.specs.List.{AllByRecursion}
use Rattle.tcp_segment.specs.Segments.{Segment}
use Rattle.tcp_waiting.specs.Payload.{Payload}
use Rattle.tcp_flow.specs.Flow.{Event, flow_of}
use Rattle.tcp_flow.specs.Laws.{EventsMayFollow}
use Rattle.tcp_connections.specs.Connections.{first_number}

-- a payload is that of one of these segments
pub record IsOfSegment (segments : List Segment) (payload : Payload) : Type 0 where
  pub index : ℕ
  pub segment : Segment
  pub among : slice_get segments index ≡ Some segment
  pub number_is : payload.number ≡ first_number segment
  pub octets_are : payload.octets ≡ segment.payload

-- In each flow a stream begins only if none is live, and octets come and it closes only while it is
-- live. The octets are what a payload of the flow has from the number on that is due. Each payload
-- is that of a segment that came.
pub record AreGapless (segments : List Segment) (events : List Event) : Type 0 where
  pub payloads : List Payload
  pub came : AllByRecursion (IsOfSegment segments) payloads
  pub follow : (flow : ℕ) → (due : Option ℕ) × EventsMayFollow payloads flow None events due

-- the same, and each stream that began has closed
pub record AreWhole (segments : List Segment) (events : List Event) : Type 0 where
  pub payloads : List Payload
  pub came : AllByRecursion (IsOfSegment segments) payloads
  pub follow : (flow : ℕ) → EventsMayFollow payloads flow None events None

-- each event in a flow is in one of a connection whose slot is below `most`
abbrev pub HaveSlots : (slot_count : ℕ) (events : List Event) → Type 0
HaveSlots most events =
    AllByRecursion (λ e. (id : ℕ) → flow_of e ≡ Some id → id / 2 < most) events
