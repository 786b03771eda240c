-- The events of a stream: what each octet of each message does, and to which message (meaning).
-- They determine the open messages, the octets of each joined message, and its lines (GIOP Message
-- Formats, Fragment Message, CancelRequest Message).
use Rattle.std.specs.Prelude.{ℕ, ◌+◌, ◌-◌, ◌<◌, Bool, true, false, not, ◌&&◌, ◌||◌, List, [], ◌∷◌, ◌++◌, length, get_or, take, filter, flat_map, Option, Some, None, is_none, nat_lt, nat_le, ◌==◌, if◌then◌else◌}
use Rattle.std.specs.List.{find, list_any, AllByRecursion as Each}
use Rattle.giop_cdr.specs.declared.order.Order.{Order}
use Rattle.giop_cdr.specs.declared.order.Order.TheVariants.{Big, Little}
use Rattle.giop_cdr.specs.Numbers.{num}
use Rattle.giop_stream.specs.declared.fault.FramingFault.{FramingFault}
use Rattle.giop_stream.specs.declared.fault.FramingFault.TheVariants.{OldFragment, Short, NoOpen, IdOpen, TooManyOpen, FragmentOrder}
use Rattle.giop_stream.specs.declared.fault.FramingFault.TheVariants as faults
use Rattle.giop_stream.specs.HeaderOctets.{fronts}
use Rattle.giop_message.specs.Headers.{order, has_more, size, is_cancel_request}
use Rattle.giop_message.specs.Phases.{Phase, unbroken, seamed}
use Rattle.giop_message.specs.MessageReader.{is_last_class, next_lines}
use Rattle.giop_stream.specs.Framing.{CutMessage, with_payload, cut, messages}
use Rattle.giop_stream.specs.Kinds.{is_fragmented_1_1, is_opener_1_1, has_fragments, is_any_fragment, is_too_short_for_id, lookup_offset, may_be_cancelled, header_fault}
use Rattle.giop_stream.specs.Rules.{Rules}

-- what an octet may do to a message
pub data EventKind : Type 0 where
  Begins : EventKind  -- its header is complete
  Takes : ℕ → EventKind  -- the joined message gets this octet
  Opens : Option ℕ → EventKind  -- it becomes open under this key
  Continues : ℕ → EventKind  -- it is a Fragment, and continues the message of this number
  Seams : EventKind  -- the payload of a Fragment of 1.1 begins, whose octets are joined to it
  Cancelled : ℕ → EventKind  -- the message of this number cancels it
  Faults : FramingFault → EventKind  -- it is faulted for its header, its request id or its size
  Closes : EventKind  -- the joined message is complete

-- the number and the header that name a message
pub record MessageKey : Type 0 where
  pub number : ℕ
  pub header : List ℕ

pub record Event : Type 0 where
  pub place : ℕ  -- the number in the stream of the octet that does it, from 1
  pub subject : MessageKey
  pub what : EventKind

-- An open message and its key: the request id by which its Fragments find it, or none in 1.1.
pub record Open : Type 0 where
  pub key : Option ℕ
  pub opener : MessageKey

-- What stands before an octet, of all that came before it.
pub record OpenState : Type 0 where
  pub still_open : List Open  -- the open messages
  -- Whether no Fragment of 1.1 is joined any more: nobody can tell which message it continues after
  -- a message of 1.1 was refused that Fragments may follow.
  pub mixed : Bool
  -- the request id of the open message without a key, if it has come, unless the message is over
  pub asked : Option ℕ

abbrev pub message_key : (message : CutMessage) → MessageKey
message_key m = record { number = m.number; header = m.header }

unfoldable pub place : (message : CutMessage) → ℕ
place m = m.before + 12 + length m.payload

-- an octet of a message: the last one of its header, or one of its payload
pub record MessageOctet : Type 0 where
  pub subject : MessageKey
  pub place : ℕ  -- the octet's number in the stream, from 1
  pub payload_count : ℕ  -- how many payload octets were read, with this one
  pub octet : ℕ

-- a message at its last octet that has come
abbrev pub last_octet_of : (message : CutMessage) → MessageOctet
last_octet_of m = record {
  subject = message_key m;
  place = place m;
  payload_count = length m.payload;
  octet = get_or m.payload (length m.payload - 1) 0;
}

-- The functions from here to `events_with_key` give the events of an octet of a message. In them
-- `key` is the message's key, and `other` is the message that was open under that key.

-- an event of the message itself
unfoldable pub own_event : (octet : MessageOctet) (event_kind : EventKind) → List Event
own_event now what = record { place = now.place; subject = now.subject; what = what } ∷ []

-- an event of the open message that has the same key
unfoldable pub event_of_open : (octet : MessageOctet) (open_message : Option Open)
    (event_kind : EventKind) → List Event
event_of_open now None what = []
event_of_open now (Some o) what = record { place = now.place; subject = o.opener; what = what } ∷ []

-- ---- The header's last octet.

abbrev pub fault_events : (octet : MessageOctet) (fault : Option FramingFault) → List Event
fault_events now None = []
fault_events now (Some fault) = own_event now (Faults fault)

unfoldable pub header_events : (octet : MessageOctet) → List Event
header_events now = own_event now Begins ++ fault_events now (header_fault now.subject.header)

-- ---- An octet of the payload. After a Fragment was looked for among the open messages, its octets
-- belong to the message that it continues.

unfoldable pub payload_events : (octet : MessageOctet) (open_under_key : Option Open) → List Event
payload_events now other =
    if is_any_fragment now.subject.header
    && nat_lt (lookup_offset now.subject.header) now.payload_count
    then event_of_open now other (Takes now.octet) else own_event now (Takes now.octet)

-- ---- The octet with which a message is looked for among the open messages: the fourth one of its
-- payload, which completes the request id; or, in 1.1, the last one of its header.

-- why a message can't be opened under this key, if this number of messages may be open at once

abbrev pub already_open_fault : (request_id : Option ℕ) → FramingFault
already_open_fault (Some id) = IdOpen
already_open_fault None = OldFragment

abbrev pub fault_if_full : (most_open_messages : ℕ) (still_open : List Open) → Option FramingFault
fault_if_full most still_open = if nat_le most (length still_open) then Some TooManyOpen else None

abbrev pub opening_fault : (most_open_messages : ℕ) (before : OpenState) (key : Option ℕ)
    (open_under_key : Option Open) → Option FramingFault
opening_fault most b key (Some other) = Some (already_open_fault key)
opening_fault most b key None =
    if is_none key && b.mixed then Some OldFragment else fault_if_full most b.still_open

abbrev pub open_events_unless : (now : MessageOctet) (key : Option ℕ)
    (fault : Option FramingFault) → List Event
open_events_unless now key None = own_event now (Opens key)
open_events_unless now key (Some fault) = own_event now (Faults fault)

-- the events of a message that Fragments continue

abbrev pub opening_events : (most_open_messages : ℕ) (before : OpenState) (now : MessageOctet)
    (key : Option ℕ) (open_under_key : Option Open) → List Event
opening_events most b now key other = open_events_unless now key (opening_fault most b key other)

-- the events of a Fragment

abbrev pub same_order : (one other : Order) → Bool
same_order Big Big = true
same_order Big Little = false
same_order Little Big = false
same_order Little Little = true

abbrev pub order_fault_events : (octet : MessageOctet) (opener : Open) → List Event
order_fault_events now o = if same_order (order now.subject.header)
    (order o.opener.header) then [] else
    event_of_open now (Some o) (Faults FragmentOrder)

abbrev pub seam_events : (octet : MessageOctet) (opener : Open) → List Event
seam_events now o = if is_fragmented_1_1 now.subject.header then event_of_open now
    (Some o) Seams else []

abbrev pub no_open_fault : (before : OpenState) (key : Option ℕ) → FramingFault
no_open_fault b key = if is_none key && b.mixed then OldFragment else NoOpen

abbrev pub fragment_events : (before : OpenState) (now : MessageOctet) (key : Option ℕ)
    (open_under_key : Option Open) → List Event
fragment_events b now key None = own_event now (Faults (no_open_fault b key))
fragment_events b now key (Some o) =
    own_event now (Continues o.opener.number) ++ (seam_events now o ++ order_fault_events now o)

-- the events of a CancelRequest: it closes the open message with its request id, or, if no open
-- message has it as its key, the one without a key whose header has given it

abbrev pub is_same_id : (id other : Option ℕ) → Bool
is_same_id (Some id) (Some other) = id == other
is_same_id (Some id) None = false
is_same_id None other = false

-- the open message that Fragments of 1.1 continue
unfoldable pub open_message_1_1 : (before : OpenState) → Option Open
open_message_1_1 b = if b.mixed then None else find (λ o. is_none o.key) b.still_open

abbrev pub open_to_cancel : (before : OpenState) (key_of_cancel_request : Option ℕ)
    (open_under_key : Option Open) → Option Open
open_to_cancel b key (Some o) = Some o
open_to_cancel b key None = if is_same_id key b.asked then open_message_1_1 b else None

abbrev pub cancel_event : (octet : MessageOctet) (message_to_cancel : Option Open) → List Event
cancel_event now None = []
cancel_event now (Some o) = if may_be_cancelled o.opener.header then event_of_open now (Some o)
    (Cancelled now.subject.number) else []

abbrev pub cancel_request_events : (before : OpenState) (now : MessageOctet) (key : Option ℕ)
    (open_under_key : Option Open) → List Event
cancel_request_events b now key other = cancel_event now (open_to_cancel b key other)

unfoldable pub naming_events : (most_open_messages : ℕ) (before : OpenState) (now : MessageOctet)
    (key : Option ℕ) (open_under_key : Option Open) → List Event
naming_events most b now key other =
    if is_any_fragment now.subject.header then fragment_events b now key other
    else if has_fragments now.subject.header then opening_events most b now key other
    else if is_cancel_request now.subject.header then cancel_request_events b now key other
    else []

-- ---- The message's last octet.

unfoldable pub message_end_events : (octet : MessageOctet) (open_under_key : Option Open) →
    List Event
message_end_events now other =
    if is_too_short_for_id now.subject.header then own_event now (Faults Short)
    else if has_fragments now.subject.header then []
    else if is_any_fragment now.subject.header then
    (if has_more now.subject.header then [] else event_of_open now other Closes)
    else own_event now Closes

-- ---- All that one octet does.

unfoldable pub events_with_key : (most_open_messages : ℕ) (before : OpenState) (now : MessageOctet)
    (key : Option ℕ) (open_under_key : Option Open) → List Event
events_with_key most b now key other =
    (if now.payload_count == 0 then header_events now else payload_events now other)
    ++ ((if now.payload_count == lookup_offset now.subject.header
    then naming_events most b now key other else [])
    ++ (if now.payload_count == size now.subject.header then message_end_events now other else []))

-- ---- The same for a message at its last octet that has come.

-- the request id of a message that begins with it
unfoldable pub id : (message : CutMessage) → ℕ
id m = num (order m.header) (take 4 m.payload)

-- the key of a message
unfoldable pub key : (message : CutMessage) → Option ℕ
key m = if is_fragmented_1_1 m.header then None else Some (id m)

-- the open message under a key; the one without a key is the one that Fragments of 1.1 continue
abbrev pub open_under : (before : OpenState) (key : Option ℕ) → Option Open
open_under b (Some id) = find (λ o. is_same_id o.key (Some id)) b.still_open
open_under b None = open_message_1_1 b

unfoldable pub opener_of : (before : OpenState) (message : CutMessage) → Option Open
opener_of b m = open_under b (key m)

-- whether a message is a Fragment that was looked for among the open messages
unfoldable pub is_named_fragment : (message : CutMessage) → Bool
is_named_fragment m = is_any_fragment m.header && nat_le (lookup_offset m.header) (length m.payload)

-- whether a message is a Fragment with octets that belong to the message that it continues
unfoldable pub has_joined_octets : (message : CutMessage) → Bool
has_joined_octets m = is_any_fragment m.header && nat_lt (lookup_offset m.header) (length m.payload)

abbrev pub events_at_header : (message_up_to_octet : CutMessage) → List Event
events_at_header m = header_events (last_octet_of m)

-- only what this octet does as one of the payload: a message takes it
abbrev pub events_at_octet : (before : OpenState) (message_up_to_octet : CutMessage) → List Event
events_at_octet b m = payload_events (last_octet_of m) (opener_of b m)

-- only what this octet does as the one with which the open message is looked for
abbrev pub events_at_name : (most_open_messages : ℕ) (before : OpenState)
    (message_up_to_octet : CutMessage) → List Event
events_at_name most b m = naming_events most b (last_octet_of m) (key m) (opener_of b m)

abbrev pub events_at_end : (before : OpenState) (message_up_to_octet : CutMessage) → List Event
events_at_end b m = message_end_events (last_octet_of m) (opener_of b m)

-- all that this octet does: as one of the header or the payload, as the one with which the open
-- message is looked for, and as the last one of the message
unfoldable pub events_of_octet : (most_open_messages : ℕ) (before : OpenState)
    (message_up_to_octet : CutMessage) → List Event
unfolding events_with_key
events_of_octet most b m = events_with_key most b (last_octet_of m) (key m) (opener_of b m)

-- all that the octets of m do, from the last octet of its header on, if this stood before it
unfoldable pub events_of : (most_open_messages : ℕ) (before : OpenState) (message : CutMessage) →
    List Event
events_of most b m =
    flat_map (λ front. events_of_octet most b (with_payload m front)) (fronts m.payload)

-- ---- The open messages after an event, and after several events.

unfoldable pub open_after_event : (still_open : List Open) (subject : MessageKey)
    (event_kind : EventKind) →
    List Open
open_after_event still_open subject (Opens key) = still_open ++ record {
  key = key;
  opener =
      subject;
} ∷ []
open_after_event still_open subject Closes = filter (λ o. not
    (o.opener.number == subject.number)) still_open
open_after_event still_open subject (Cancelled j) =
    filter (λ o. not (o.opener.number == subject.number)) still_open
open_after_event still_open subject Begins = still_open
open_after_event still_open subject (Takes x) = still_open
open_after_event still_open subject (Continues i) = still_open
open_after_event still_open subject Seams = still_open
open_after_event still_open subject (Faults fault) = still_open

unfoldable pub open_after_events : (still_open : List Open) (events : List Event) → List Open
open_after_events still_open [] = still_open
open_after_events still_open (e ∷ es) = open_after_events
    (open_after_event still_open e.subject e.what) es

-- ---- The octets of a joined message.

-- the octet that an event adds to a joined message, if it adds one
unfoldable pub octets_of_event : (event_kind : EventKind) → List ℕ
octets_of_event (Takes x) = x ∷ []
octets_of_event Begins = []
octets_of_event (Opens key) = []
octets_of_event (Continues i) = []
octets_of_event Seams = []
octets_of_event (Cancelled j) = []
octets_of_event (Faults fault) = []
octets_of_event Closes = []

-- the octets of the joined message of this number, after its header
unfoldable pub joined_octets : (message_number : ℕ) (events : List Event) → List ℕ
joined_octets number events =
    flat_map (λ e. if e.subject.number == number then octets_of_event e.what else []) events

-- what padding is counted by after an event of a message that has these octets
abbrev pub phase_after_event : (octets_so_far : List ℕ) (phase : Phase) (event_kind : EventKind) →
    Phase
phase_after_event so_far phase Seams = seamed phase (12 + length so_far)
phase_after_event so_far phase what = phase

-- the same after these events of the message of this number; the events before them are `past`
unfoldable pub phase_from : (message_number : ℕ) (phase_before : Phase)
    (events_before events : List Event) → Phase
phase_from number phase past [] = phase
phase_from number phase past (e ∷ es) =
    phase_from number
    (if e.subject.number == number then phase_after_event
    (joined_octets number past) phase e.what else phase)
    (past ++ e ∷ []) es

-- what padding is counted by in the joined message of this number
unfoldable pub phase_of : (message_number : ℕ) (events : List Event) → Phase
phase_of number events = phase_from number unbroken [] events

-- ---- What stands before an octet, by all events before it.

-- the event refuses a message of 1.1 that Fragments may follow
abbrev pub is_opening_fault : (event_kind : EventKind) → Bool
is_opening_fault (Faults faults.OldFragment) = true
is_opening_fault (Faults faults.TooManyOpen) = true
is_opening_fault what = false

unfoldable pub ends_joining : (event : Event) → Bool
ends_joining e = is_opener_1_1 e.subject.header && is_opening_fault e.what

-- whether an event ends its message, of which these octets came before it: a fault by the framing,
-- a cancel and a close do, and an octet whose reading has a last line
abbrev pub event_ends_message : (R : Rules) (phase : Phase) (octets_so_far : List ℕ) (event : Event)
    (event_kind : EventKind) → Bool
event_ends_message R phase so_far e (Takes x) = list_any (λ r. is_last_class r.line_class)
    (next_lines R.reading phase e.subject.number e.subject.header so_far x)
event_ends_message R phase so_far e (Cancelled j) = true
event_ends_message R phase so_far e (Faults fault) = true
event_ends_message R phase so_far e Closes = true
event_ends_message R phase so_far e what = false

-- whether these events end the message of this number; the events before them are `past`
unfoldable pub has_ended : (R : Rules) (message_number : ℕ) (events_before events : List Event) →
    Bool
has_ended R number past [] = false
has_ended R number past (e ∷ es) =
    ((e.subject.number == number) && event_ends_message R (phase_of number past)
    (joined_octets number past) e e.what)
    || has_ended R number (past ++ e ∷ []) es

abbrev pub pending_id : (R : Rules) (events_so_far : List Event) (open_message : Option Open) →
    Option ℕ
pending_id R past None = None
pending_id R past (Some o) = if has_ended R o.opener.number [] past then None else
    R.asks (phase_of o.opener.number past) o.opener.number o.opener.header
    (joined_octets o.opener.number past)

unfoldable pub before_by : (R : Rules) (events_so_far : List Event) → OpenState
before_by R past = record {
  still_open = open_after_events [] past;
  mixed = not R.joins || list_any ends_joining past;
  asked = pending_id R past (find (λ o. is_none o.key) (open_after_events [] past));
}

-- the events of these messages, after these events of the messages before them
unfoldable pub events_from : (R : Rules) (events_before : List Event) (messages : List CutMessage) →
    List Event
events_from R past [] = []
events_from R past (m ∷ ms) =
    let es = events_of R.most (before_by R past) m in
    es ++ events_from R (past ++ es) ms

-- the events of the stream
unfoldable pub events : (R : Rules) (stream : List ℕ) → List Event
events R stream = events_from R [] (messages (cut stream))

-- the messages that are open after the stream
unfoldable pub open_after : (R : Rules) (stream : List ℕ) → List Open
open_after R stream = open_after_events [] (events R stream)

-- the numbers of the open messages rise
abbrev pub NumbersRise : (still_open : List Open) → Type 0
NumbersRise [] = Unit {0}
NumbersRise (o ∷ still_open) = Each (λ a. o.opener.number < a.opener.number) still_open
    × NumbersRise still_open
