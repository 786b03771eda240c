-- The streams of a capture by what has happened in its flows (meaning), and that connections have
-- read them (state). A connection has two flows, one with an even id and one with an odd id, and a
-- direction for each.
use Rattle.std.specs.Prelude.{ℕ, ◌/◌, ◌%◌, ◌==◌, List, [], ◌∷◌, ◌++◌, Option, None, IfSome, slice_get, if◌then◌else◌}
use Rattle.std.specs.Option.{option_map}
use Rattle.tcp_flow.specs.Flow.{Event, Begins, Delivers, Reader}
use Rattle.giop_stream.specs.Framing.{cut, lacking}
use Rattle.giop_conversation.specs.Directions.{DirectionView, HasRead, fault_place}
use Rattle.giop_conversation.specs.declared.conversation.Side.{Side}
use Rattle.giop_conversation.specs.declared.conversation.Side.TheVariants.{Even, Odd}
use Rattle.giop_conversation.specs.declared.conversation.Conversation.{Conversation}

-- ---- the streams

-- the octets of a flow's last stream after one more event, of this flow or of another
unfoldable pub octets_after_event : (flow_id : ℕ) (stream_before : List ℕ) (event : Event) → List ℕ
octets_after_event flow stream (Begins id start) = if id == flow then [] else stream
octets_after_event flow stream (Delivers id octets) = if id == flow then stream ++ octets
    else stream
octets_after_event flow stream _ = stream

-- the octets of a flow's last stream after these events, if they were `stream` before
unfoldable pub octets_after_events : (flow_id : ℕ) (stream_before : List ℕ) (events : List Event) →
    List ℕ
octets_after_events flow stream [] = stream
octets_after_events flow stream (e ∷ es) = octets_after_events flow (octets_after_event flow stream
    e) es

-- the octets that were delivered of a flow's last stream; none if none has begun
abbrev pub stream_octets_of : (flow_id : ℕ) (events : List Event) → List ℕ
stream_octets_of flow events = octets_after_events flow [] events

-- if an event delivers octets to a stream that has a stream fault after all of these events: the
-- number of the octet at which it has it, from 1
abbrev pub fault_at : (all_events : List Event) (event : Event) → Option ℕ
fault_at events (Delivers id octets) = fault_place (cut (stream_octets_of id events)).stop
fault_at events _ = None

-- the same number for the last event of a list
unfoldable pub last_fault_at : (all_events events_left : List Event) → Option ℕ
last_fault_at before [] = None
last_fault_at before (e ∷ []) = fault_at before e
last_fault_at before (e ∷ e' ∷ es) = last_fault_at before (e' ∷ es)

-- the number of the octet at which the last stream that got octets has a stream fault, if it has
-- one, by all that has happened
abbrev pub reader_faulted : (events : List Event) → Option ℕ
reader_faulted events = last_fault_at events events

-- how many octets are missing until the end of the message that a flow's last stream is in, by all
-- that has happened, if the message's header is complete; 0 if the stream is in none
abbrev pub reader_lacking : (events : List Event) (flow_id : ℕ) → Option ℕ
reader_lacking events flow = lacking (cut (stream_octets_of flow events))

-- the readers of the streams
abbrev pub stream_reader : Reader
stream_reader = record { faulted = reader_faulted; lacking = reader_lacking }

-- ---- the connections

abbrev pub side_of : (flow_id : ℕ) → Side
side_of flow = if flow % 2 == 0 then Even else Odd

abbrev pub other : Side → Side
other Even = Odd
other Odd = Even

-- the direction of one flow of a connection
abbrev pub direction : (side : Side) (connection : Conversation) → DirectionView
direction Even c = c.even
direction Odd c = c.odd

-- the direction of a flow, if its connection has a slot
abbrev pub direction_of : (conversations : List Conversation) (flow_id : ℕ) → Option DirectionView
direction_of slots flow = option_map (direction (side_of flow)) (slice_get slots (flow / 2))

-- The direction of each flow that has a slot has read the flow's last stream.
abbrev pub HaveFollowed : (conversations : List Conversation) (events : List Event) → Type 0
HaveFollowed slots events =
    (flow : ℕ) → IfSome (direction_of slots flow) (λ d. HasRead d.engine (stream_octets_of flow
    events))
