-- What is delivered is of the stream's own flow: octets of a segment between the endpoints that its
-- id stands for (RFC 9293, Sequence Numbers; meaning).
use Rattle.std.specs.Prelude.{◌≡◌, ℕ, Bool, true, false, cond, nat_eq, List, [], ◌∷◌, length, drop, Option, Some, None, slice_get}
use Rattle.tcp_segment.specs.declared.endpoint.Flow as endpoints
use Rattle.tcp_segment.specs.Segments.{Segment}
use Rattle.tcp_waiting.specs.Numbers.{onward}
use Rattle.tcp_flow.specs.Flow.{Event, Opens, Begins, Delivers, Closes, OfCapture}
use Rattle.tcp_connections.specs.Connections.{first_number}

-- from a number on, octets are those that a segment of a flow has from there up to its end
pub record IsPartOf (segments : List Segment) (flow : endpoints.Flow) (first_octet_number : ℕ)
    (octets : List ℕ) : Type 0 where
  pub index : ℕ
  pub segment : Segment
  pub among : slice_get segments index ≡ Some segment
  pub flow_is : segment.flow ≡ flow
  pub skipped : ℕ
  pub number_is : first_octet_number ≡ onward (first_number segment) skipped
  pub octets_are : octets ≡ drop skipped segment.payload

-- what an id stands for: no flow so far; the flow between these endpoints, which has no live
-- stream; or that flow with a live stream, in which this number is due
pub data Standing : Type 0 where
  Unopened : Standing
  Idle : endpoints.Flow → Standing
  Live : endpoints.Flow → (next_due_number : ℕ) → Standing

-- the flow that an id stands for
abbrev pub owner : (standing : Standing) → Option endpoints.Flow
owner Unopened = None
owner (Idle flow) = Some flow
owner (Live flow due) = Some flow

-- whether an event is of the flow of an id
abbrev pub is_of : (flow_id : ℕ) (event : Event) → Bool
is_of id (Opens flow endpoints) = nat_eq flow id
is_of id (Begins flow start) = nat_eq flow id
is_of id (Delivers flow octets) = nat_eq flow id
is_of id (Closes flow cause) = nat_eq flow id
is_of id (OfCapture event) = false

-- what an id stands for after an event of its flow: if it opens, it stands for these endpoints
abbrev pub behind : (standing_before : Standing) (own_event : Event) → Standing
behind s (Opens id flow) = Idle flow
behind (Idle flow) (Begins id start) = Live flow start.number
behind (Live flow due) (Delivers id octets) = Live flow (onward due (length octets))
behind (Live flow due) (Closes id cause) = Idle flow
behind s event = s

-- whether an event of the flow may come: octets come only while a stream is live, and are what a
-- segment of the flow has from the number on that is due
abbrev pub MayCome : (segments : List Segment) (standing_before : Standing) (own_event : Event) →
    Type 0
MayCome segments Unopened (Opens id flow) = Unit {0}
MayCome segments (Idle before) (Opens id flow) = Unit {0}
MayCome segments (Idle flow) (Begins id start) = Unit {0}
MayCome segments (Live flow due) (Delivers id octets) = IsPartOf segments flow due octets
MayCome segments (Live flow due) (Closes id cause) = Unit {0}
MayCome segments s event = ⊥

-- what an id stands for after all events
unfoldable pub standing : (flow_id : ℕ) (standing_before : Standing) (events : List Event) →
    Standing
standing id s [] = s
standing id s (e ∷ es) = standing id (cond (is_of id e) (behind s e) s) es

-- each event of the id's flow may come
unfoldable pub AllMayCome : (segments : List Segment) (flow_id : ℕ) (standing_before : Standing)
    (events : List Event) → Type 0
AllMayCome segments id s [] = Unit {0}
AllMayCome segments id s (e ∷ es) =
    (is_of id e ≡ true → MayCome segments s e)
    × AllMayCome segments id (cond (is_of id e) (behind s e) s) es

-- this is true of each id
abbrev pub AreOwned : (segments : List Segment) (events : List Event) → Type 0
AreOwned segments events = (id : ℕ) → AllMayCome segments id Unopened events
