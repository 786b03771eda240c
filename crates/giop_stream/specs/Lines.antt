-- The lines of a stream, each with the place of its octet and its class (docs/FORMATS.md, Order;
-- meaning).
use Rattle.std.specs.Prelude.{ℕ, zero, suc, Bool, true, false, ◌&&◌, ◌||◌, List, [], ◌∷◌, ◌++◌, length, map, filter, flat_map, Option, Some, None, ◌==◌, if◌then◌else◌}
use Rattle.giop_checkpoint.specs.declared.fault.StreamFault.{StreamFault}
use Rattle.giop_stream.specs.declared.fault.FramingFault.{FramingFault}
use Rattle.giop_stream.specs.Framing.{cut}
use Rattle.giop_message.specs.Phases.{Phase, unbroken}
use Rattle.giop_message.specs.MessageReader.{LineClass, Value, Call, Rest, Fault, End, MessageReader, is_last_class}
use Rattle.giop_stream.specs.Rules.{Rules}
use Rattle.giop_stream.specs.Events.{Event, EventKind, Begins, Takes, Opens, Continues, Seams, Cancelled, Faults, Closes, events, joined_octets, phase_of}

-- The classes of lines. A framing fault has its class before the rest, so that the rest, the end
-- and the other faults of its octet come after it.
pub data Class : Type 0 where
  Start ValueClass CallClass Continuing Cancelling FramingFaultClass RestClass FaultClass EndClass
      Stop : Class

-- the order of the classes among the lines of one octet
abbrev pub rank : (class : Class) → ℕ
rank Start = 0
rank ValueClass = 1
rank CallClass = 2
rank Continuing = 3
rank Cancelling = 4
rank FramingFaultClass = 5
rank RestClass = 6
rank FaultClass = 7
rank EndClass = 8
rank Stop = 9

abbrev pub is_same_class : (a b : Class) → Bool
is_same_class a b = rank b == rank a

unfoldable pub classes : List Class
classes = Start ∷ ValueClass ∷ CallClass ∷ Continuing ∷ Cancelling ∷ FramingFaultClass ∷ RestClass ∷
    FaultClass ∷ EndClass ∷ Stop ∷ []

pub data Content : Type 0 where
  Started : List ℕ → Content  -- with this header
  Said : LineClass → List ℕ → Content  -- a line that the reader of the message gives
  ContinuesMessage : ℕ → Content  -- the message continues this message
  CancelledBy : ℕ → Content  -- this message cancels the message
  Faulted : FramingFault → Content
  Stopped : StreamFault → Content

abbrev pub class_of : (content : Content) → Class
class_of (Started header) = Start
class_of (Said Value text) = ValueClass
class_of (Said Call text) = CallClass
class_of (Said Rest text) = RestClass
class_of (Said Fault text) = FaultClass
class_of (Said End text) = EndClass
class_of (ContinuesMessage i) = Continuing
class_of (CancelledBy j) = Cancelling
class_of (Faulted fault) = FramingFaultClass
class_of (Stopped fault) = Stop

pub record StreamLine : Type 0 where
  pub place : ℕ
  pub number : ℕ  -- the number of the message; 0 for the stream
  pub content : Content

abbrev pub has_class : (class : Class) (line : StreamLine) → Bool
has_class c l = is_same_class c (class_of l.content)

-- a line of this event, with this content
unfoldable pub line : (event : Event) (content : Content) → StreamLine
line e content = record { place = e.place; number = e.subject.number; content = content }

-- what is kept of a message: its octets after the header, and what padding is counted by in them
pub record Kept : Type 0 where
  pub octets : List ℕ
  pub phase : Phase

-- of a message that has begun
abbrev pub nothing_kept : Kept
nothing_kept = record { octets = []; phase = unbroken }

-- what these events keep of the message of this number
abbrev pub kept_of : (message_number : ℕ) (events : List Event) → Kept
kept_of number events = record {
  octets = joined_octets number events;
  phase =
      phase_of number events;
}

-- The lines of one event. Of its message `so_far` is kept before the event, and `all` of the whole
-- stream.
unfoldable pub lines_of_event : (R : MessageReader) (event : Event)
    (kept_before kept_of_whole_stream : Kept) (event_kind : EventKind) → List StreamLine
lines_of_event R e so_far all Begins = line e (Started e.subject.header) ∷ []
lines_of_event R e so_far all (Takes x) =
    map (λ r. line e (Said r.line_class r.text))
    (filter (λ r. r.at == suc (length so_far.octets))
    (R.reads all.phase e.subject.number e.subject.header all.octets))
lines_of_event R e so_far all (Opens key) = []
lines_of_event R e so_far all (Continues i) = line e (ContinuesMessage i) ∷ []
lines_of_event R e so_far all Seams = []
lines_of_event R e so_far all (Cancelled j) = line e (CancelledBy j) ∷ []
lines_of_event R e so_far all (Faults fault) = line e (Faulted fault) ∷ []
lines_of_event R e so_far all Closes = map (λ l. line e (Said l.0 l.1))
    (R.closes so_far.phase e.subject.number e.subject.header so_far.octets)

-- The lines of these events. The events before them are `past`, and those of the whole stream are
-- `all`.
unfoldable pub lines_of_events : (R : MessageReader)
    (all_events events_before events : List Event) → List StreamLine
lines_of_events R all past [] = []
lines_of_events R all past (e ∷ es) =
    lines_of_event R e (kept_of e.subject.number past) (kept_of e.subject.number all) e.what
    ++ lines_of_events R all (past ++ e ∷ []) es

-- Lines in the order of their classes; and lines up to this place in the order of places, and at
-- each place in the order of classes.
unfoldable pub by_class : (lines : List StreamLine) → List StreamLine
by_class lines = flat_map (λ class. filter (has_class class) lines) classes

unfoldable pub in_order : (last_place : ℕ) (lines : List StreamLine) → List StreamLine
in_order zero lines = []
in_order (suc number) lines =
    in_order number lines ++ by_class (filter (λ l. l.place == suc number) lines)

-- whether a line ends its message: it is a fault, the cancelled line or the end
abbrev pub is_last_content : (content : Content) → Bool
is_last_content (Started header) = false
is_last_content (Said line_class text) = is_last_class line_class
is_last_content (ContinuesMessage i) = false
is_last_content (CancelledBy j) = true
is_last_content (Faulted fault) = true
is_last_content (Stopped fault) = false

unfoldable pub is_last_line_of : (message_number : ℕ) (stream_line : StreamLine) → Bool
is_last_line_of number l = (l.number == number) && is_last_content l.content

-- The lines of each message up to its first fault, cancelled line or end. There are none of a
-- message for which `is_over` is true.
unfoldable pub up_to_last_line : (is_message_over : ℕ → Bool) (lines : List StreamLine) →
    List StreamLine
up_to_last_line is_over [] = []
up_to_last_line is_over (l ∷ ls) =
    if is_over l.number then up_to_last_line is_over ls
    else l ∷ up_to_last_line (λ i. is_over i || is_last_line_of i l) ls

-- the lines of the messages
unfoldable pub lines_of_messages : (R : Rules) (stream : List ℕ) → List StreamLine
lines_of_messages R stream =
    let all = events R stream in
    up_to_last_line (λ i. false) (in_order (length stream) (lines_of_events R.reading all [] all))

unfoldable pub stop_line : (stop_place_and_fault : Option (ℕ × StreamFault)) → List StreamLine
stop_line None = []
stop_line (Some found) = record { place = found.0; number = 0; content = Stopped found.1 } ∷ []

-- All lines of the stream. No octet after the octet of the stream fault belongs to a message, so
-- the line of the stream fault is the last one.
unfoldable pub lines : (R : Rules) (stream : List ℕ) → List StreamLine
lines R stream = lines_of_messages R stream ++ stop_line (cut stream).stop
