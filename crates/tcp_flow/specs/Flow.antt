-- One flow of a TCP connection, from its first stream on: what it holds, and what happens.
use Rattle.std.specs.Prelude.{ℕ, zero, suc, ◌+◌, ◌-◌, ◌*◌, ◌%◌, ◌^◌, Bool, true, false, cond, nat_lt, nat_le, nat_eq, ◌&&◌, ◌||◌, not, List, [], ◌∷◌, ◌++◌, length, take, drop, set, Option, Some, None, get_or, is_some, unwrap_or}
use Rattle.std.specs.Option.{option_map}
use Rattle.std.specs.List.{remove}
use Rattle.tcp_flow.specs.declared.flow.CloseCause.{CloseCause}
use Rattle.tcp_flow.specs.declared.flow.CloseCause.TheVariants.{Fin, Gap, Fault}
use Rattle.tcp_flow.specs.declared.flow.Start.{Start}
use Rattle.tcp_flow.specs.declared.tail.Tail.{Tail}
use Rattle.tcp_flow.specs.declared.hearing.Heard.{Heard}
use Rattle.tcp_segment.specs.declared.endpoint.Flow as endpoints
use Rattle.tcp_waiting.specs.declared.arrival.Arrival as origin
use Rattle.tcp_waiting.specs.Payload.{Payload, payload, no_payload, without_first, window, oldest_index, holds_beyond_window, holds_as_long, put}
use Rattle.tcp_waiting.specs.Numbers.{ahead, onward, age, is_to_come}

-- what happens in a capture apart from its flows: what is told next came in this packet; these
-- octets were looked through, and no stream begins in them; the capture has a fault of this word,
-- at the octet of this number
pub data CaptureEvent : Type 0 where
  ComesFrom : (packet : origin.Arrival) → CaptureEvent
  Passes : (octets_looked_through : List ℕ) → CaptureEvent
  HasFault : (fault_word : List ℕ) → (octet_number : ℕ) → CaptureEvent

-- what happens in flows, each named by its id: the id stands for the flow between these endpoints
-- from now on; a stream begins; octets are delivered to it; it closes; and what happens in the
-- capture
pub data Event : Type 0 where
  Opens : (flow_id : ℕ) → endpoints.Flow → Event
  Begins : (flow_id : ℕ) → Start → Event
  Delivers : (flow_id : ℕ) → (octets : List ℕ) → Event
  Closes : (flow_id : ℕ) → CloseCause → Event
  OfCapture : CaptureEvent → Event

-- the flow in which an event happens, if it happens in one
abbrev pub flow_of : (event : Event) → Option ℕ
flow_of (Opens id flow) = Some id
flow_of (Begins id start) = Some id
flow_of (Delivers id octets) = Some id
flow_of (Closes id cause) = Some id
flow_of (OfCapture event) = None

-- what the reader of the streams says after all that has happened: at which octet of the stream
-- that octets were delivered to last it is at a fault, counted from 1, if it is at one; and how
-- many octets the message lacks that the last stream of a flow is in, if its header is complete, or
-- 0 if the stream is in no message
pub record Reader : Type 0 where
  pub faulted : (events : List Event) → Option ℕ
  pub lacking : (events : List Event) → (flow_id : ℕ) → Option ℕ

-- A flow: `next` is the number that is due. While the flow is in step, `live` is the number that
-- its stream begins with, and `waits` says whether it waits for that stream. `fin` is a FIN to
-- come. While no stream lives, octets from `since` on are in no stream, and `tail` is what was
-- looked through last, if it may begin a header. `has_begun` says whether a stream has begun, and
-- `is_found` whether one was found. `held` is what all flows hold, in order, and `events` what has
-- happened in all of them.
pub record Flow : Type 0 where
  pub id : ℕ
  pub next : ℕ
  pub live : Option ℕ
  pub waits : Bool
  pub fin : Option ℕ
  pub since : ℕ
  pub has_begun : Bool
  pub is_found : Bool
  pub tail : Option Tail
  pub held : List Payload
  pub events : List Event

-- whether a number is at most W before or after the one that is due, as the window of a receiver
-- reaches (RFC 5961, Sections 3.2 and 4.2)
abbrev pub is_near : (next_due_number sequence_number : ℕ) → Bool
is_near next number = nat_le (ahead next number) window || nat_le (ahead number next) window

-- whether octets begin with `GIOP` 01 and 00, 01 or 02
abbrev pub is_header : (octets_from_here_on : List ℕ) → Bool
is_header octets =
    nat_le 6 (length octets) && nat_eq (get_or octets 0 0) 71 && nat_eq (get_or octets 1 0) 73
    && nat_eq (get_or octets 2 0) 79 && nat_eq (get_or octets 3 0) 80
    && nat_eq (get_or octets 4 0) 1 && nat_le (get_or octets 5 0) 2

-- the index of the first header
unfoldable pub index_of_header : (octets_to_search : List ℕ) → Option ℕ
index_of_header [] = None
index_of_header (x ∷ xs) = cond (is_header (x ∷ xs)) (Some 0) (option_map suc (index_of_header xs))

-- four octets as a number, the most significant first
abbrev pub big_endian_number : (first second third fourth : ℕ) → ℕ
big_endian_number first second third fourth = ((first * 256 + second) * 256 + third) * 256 + fourth

-- the size that a header of 12 octets has, in its byte order (GIOP Message Header)
abbrev pub message_size_in : (octets_from_header_on : List ℕ) → ℕ
message_size_in octets =
    cond (nat_eq (get_or octets 6 0 % 2) 1)
    (big_endian_number (get_or octets 11 0) (get_or octets 10 0) (get_or octets 9 0)
    (get_or octets 8 0))
    (big_endian_number (get_or octets 8 0) (get_or octets 9 0) (get_or octets 10 0)
    (get_or octets 11 0))

-- where the first message ends, if all of it is there
abbrev pub message_end : (octets_from_message_on : List ℕ) → Option ℕ
message_end octets =
    cond (nat_lt (length octets) 12) None
    (cond (nat_lt (length octets) (12 + message_size_in octets)) None
    (Some (12 + message_size_in octets)))

-- whether octets begin with the six octets, as far as they go
abbrev pub may_be_header : (octets_perhaps_too_few : List ℕ) → Bool
may_be_header octets =
    nat_eq (get_or octets 0 71) 71 && nat_eq (get_or octets 1 73) 73 && nat_eq (get_or octets 2 79)
    79
    && nat_eq (get_or octets 3 80) 80 && nat_eq (get_or octets 4 1) 1 && nat_le (get_or octets 5 0)
    2

-- whether messages follow one another up to the end, the last perhaps cut, and one of them is
-- whole, or one before them was (`whole`); at most `count` are looked at
unfoldable pub chain_from : (message_limit : ℕ) (whole_message_before : Bool)
    (octets_up_to_the_end : List ℕ) → Bool
chain_from zero whole octets = whole
chain_from (suc count) whole octets =
    cond (nat_eq (length octets) 0) whole
    (cond (may_be_header octets) (elim (message_end octets) [
      | None ↦ whole
      | Some end ↦ chain_from count true (drop end octets)
    ]) false)

-- whether messages follow one another up to the end, one of them whole
abbrev pub is_chain : (octets_up_to_the_end : List ℕ) → Bool
is_chain octets = chain_from (length octets) false octets

-- where a stream begins in octets that are looked through: at the first place with the six octets,
-- if it is the front or messages follow one another from it up to the end
unfoldable pub stream_begin_in : (octets_looked_through : List ℕ) → Option ℕ
stream_begin_in octets =
    elim (index_of_header octets) [
      | None ↦ None
      | Some place ↦ cond (nat_eq place 0 || is_chain (drop place octets)) (Some place) None
    ]

-- the first five of the six octets, which are the same in each version
abbrev pub first_five : List ℕ
first_five = 71 ∷ 73 ∷ 79 ∷ 80 ∷ 1 ∷ []

-- whether octets are the first one to five of the six octets
abbrev pub is_header_beginning : (octets : List ℕ) → Bool
is_header_beginning octets = nat_lt 0 (length octets) && nat_lt
    (length octets) 6 && may_be_header octets

-- octets, cut into parts of these lengths
unfoldable pub cut_up : (octets part_lengths : List ℕ) → List (List ℕ)
cut_up octets [] = []
cut_up octets (n ∷ ns) = take n octets ∷ cut_up (drop n octets) ns

-- the octets of a tail, which are the first of the six octets
abbrev pub octets_of : (tail : Tail) → List ℕ
octets_of t = take t.octets first_five

-- the octets of each payload of a tail
abbrev pub parts_of : (tail : Tail) → List (List ℕ)
parts_of t = cut_up first_five (take t.count t.parts)

-- the tail of one payload with a number and `count` octets
abbrev pub tail_of : (first_octet_number octet_count : ℕ) → Tail
tail_of n count = record {
  number = n;
  octets = count;
  count = 1;
  parts = count ∷ 0 ∷ 0 ∷ 0 ∷ 0 ∷ [];
}

-- a tail with one more payload of `count` octets; it has five payloads at most
abbrev pub lengthened : (tail : Tail) (new_payload_octet_count : ℕ) → Tail
lengthened t count =
    cond (nat_lt t.count 5) (record t {
      octets = t.octets + count;
      count = t.count + 1;
      parts = set t.parts t.count count;
    }) t

-- whether octets at a number go on from a tail: the tail ends there, and both together begin with
-- the six octets or are a beginning of them
abbrev pub is_continued_by : (tail : Tail) (first_octet_number : ℕ) (octets : List ℕ) → Bool
is_continued_by t number octets =
    nat_eq (onward t.number t.octets) number && may_be_header (octets_of t ++ octets)

-- the tail, if octets at a number go on from it
unfoldable pub tail_continued_by : (tail : Option Tail) (first_octet_number : ℕ) (octets : List ℕ) →
    Option Tail
tail_continued_by None number octets = None
tail_continued_by (Some t) number octets = cond (is_continued_by t number octets) (Some t) None

-- whether a stream lives, if the flow is in step or not and waits or not
abbrev pub lives : (stream_start_if_in_step : Option ℕ) (waits_for_stream : Bool) → Bool
lives live waits = is_some live && not waits

-- what is left of a payload without the octets before `next`; if the flow isn't in step and the
-- payload begins more than W before `next`, all of it is left
unfoldable pub without_old_octets : (next_due_number : ℕ) (flow_is_in_step : Bool)
    (payload : Payload) → Payload
without_old_octets next live p = cond (nat_lt window (age next p.number) && not live) p
    (without_first (age next p.number) p)

unfoldable pub with_event : (flow : Flow) (event : Event) → Flow
with_event f h = record f { events = f.events ++ h ∷ [] }

-- the flow is no longer in step
abbrev pub out_of_step : (flow : Flow) → Flow
out_of_step f = record f { live = None; waits = false }

-- the live stream closes, and octets from a number on are in no stream
abbrev pub stream_closed : (flow : Flow) (no_stream_from_number : ℕ) (cause : CloseCause) → Flow
stream_closed f since cause = with_event (record (out_of_step f) { since = since })
    (Closes f.id cause)

-- the number after an octet of the live stream; the octet is counted from 1
abbrev pub number_after_octet : (flow : Flow) (octet_of_stream_from_1 : ℕ) → ℕ
number_after_octet f at = onward (unwrap_or f.live f.next) at

-- the live stream closes if its reader is at a fault: what comes after the octet of the fault is in
-- no stream
unfoldable pub closed_at_fault : (flow : Flow) (fault_octet_of_stream_from_1 : Option ℕ) → Flow
closed_at_fault f None = f
closed_at_fault f (Some at) = stream_closed f (number_after_octet f at) Fault

-- octets are delivered to the live stream
abbrev pub delivered_unchecked : (flow : Flow) (payload : Payload) → Flow
delivered_unchecked f p =
    with_event (record f { next = onward p.number (length p.octets) }) (Delivers f.id p.octets)

-- octets are delivered to the live stream, and its reader may then be at a fault
unfoldable pub delivered : (reader : Reader) (flow : Flow) (payload : Payload) → Flow
delivered F f p = closed_at_fault (delivered_unchecked f p)
    (F.faulted (delivered_unchecked f p).events)

-- What a stream begins with that begins at a number. It is found if the flow didn't wait for it,
-- and octets before it are in no stream or the flow had a stream before it. It is also found if an
-- earlier stream of the flow was.
abbrev pub start_at : (flow : Flow) (first_octet_number : ℕ) → Start
start_at f n = record {
  number = n;
  passed = ahead f.since n;
  is_found = f.is_found || (not f.waits && (f.has_begun || nat_lt 0 (ahead f.since n)));
}

-- a stream begins at a number, which is then due
abbrev pub started : (flow : Flow) (first_octet_number : ℕ) → Flow
started f number = with_event (record f {
  next = number;
  live = Some number;
  waits = false;
  has_begun = true;
  is_found = (start_at f number).is_found;
  tail = None;
}) (Begins f.id (start_at f number))

-- the stream that the flow waits for, if it waits for one, begins with the octet that is due
abbrev pub begun_if_awaited : (flow : Flow) → Flow
begun_if_awaited f = cond f.waits (started f f.next) f

-- if a stream begins in a payload, the octets from there on are delivered to it; if not, the octets
-- were looked through in vain, and are the new tail if they are a beginning of the six octets
unfoldable pub begun_in_payload : (reader : Reader) (flow : Flow) (payload : Payload)
    (stream_begin_index : Option ℕ) → Flow
begun_in_payload F f p None =
    with_event (record f {
      tail = cond (is_header_beginning p.octets) (Some (tail_of p.number (length p.octets))) f.tail;
    }) (OfCapture (Passes p.octets))
begun_in_payload F f p (Some index) = delivered F (started f (onward p.number index))
    (without_first index p)

-- the octets of each payload are delivered while the stream lives; what comes after a fault of its
-- reader isn't
unfoldable pub all_delivered : (reader : Reader) (flow : Flow) (arrival_of_each : origin.Arrival)
    (octets_of_each_payload : List (List ℕ)) → Flow
all_delivered F f arrival [] = f
all_delivered F f arrival (xs ∷ xss) =
    cond (lives f.live f.waits)
    (all_delivered F (delivered F f (payload f.id f.next xs arrival)) arrival xss) f

-- a payload goes on from a tail: if both together have fewer than six octets, they are the new
-- tail; if not, a stream begins where the tail does, and gets the octets of both
unfoldable pub joined_to_tail : (reader : Reader) (flow : Flow) (payload : Payload)
    (tail : Tail) → Flow
joined_to_tail F f p t =
    cond (nat_lt (t.octets + length p.octets) 6)
    (with_event (record f { tail = Some (lengthened t (length p.octets)) })
    (OfCapture (Passes (octets_of t ++ p.octets))))
    (all_delivered F (started f t.number) p.arrival (parts_of t ++ p.octets ∷ []))

-- a payload is looked through, after the tail that it goes on from, if there is one
unfoldable pub looked_through : (reader : Reader) (flow : Flow) (payload : Payload)
    (tail_before_payload : Option Tail) → Flow
looked_through F f p None = begun_in_payload F f p (stream_begin_in p.octets)
looked_through F f p (Some t) = joined_to_tail F f p t

-- what is told next came in the packet of a payload
unfoldable pub with_arrival_told : (flow : Flow) (payload : Payload) → Flow
with_arrival_told f p = with_event f (OfCapture (ComesFrom p.arrival))

-- a payload is taken: it is delivered to the stream that is live or waited for, or looked through
-- for the beginning of one
unfoldable pub taken : (reader : Reader) (flow : Flow) (payload : Payload) → Flow
taken F f p =
    let q : Payload = without_old_octets f.next (is_some f.live) p in
    cond (nat_eq (length q.octets) 0) f
    (cond (is_some f.live) (delivered F (begun_if_awaited (with_arrival_told f p)) q)
    (looked_through F (with_arrival_told f p) q (tail_continued_by f.tail q.number q.octets)))

unfoldable pub oldest_held : (flow : Flow) → Option ℕ
oldest_held f = oldest_index f.id f.next f.held

unfoldable pub at : (flow : Flow) (index_in_all_held : ℕ) → Payload
at f index = get_or f.held index no_payload

-- whether the held payload at an index is taken now
unfoldable pub is_due : (flow : Flow) (index_in_all_held : ℕ) → Bool
is_due f index = not ((is_some f.live) && is_to_come f.next (at f index).number)

-- the first held payload is taken while it is due, at most `count` times
unfoldable pub drained_at_most : (reader : Reader) (most_payloads : ℕ) (flow : Flow) → Flow
drained_at_most F zero f = f
drained_at_most F (suc count) f =
    elim (oldest_held f) [
      | None ↦ f
      | Some i ↦
          elim (is_due f i) [
            | true ↦
                drained_at_most F count (taken F (record f { held = remove f.held i }) (at f i))
            | false ↦ f
          ]
    ]

unfoldable pub drained_due : (reader : Reader) (flow : Flow) → Flow
drained_due F f = drained_at_most F (length f.held) f

-- whether the FIN that is kept is reached
unfoldable pub fin_is_reached : (next_due_number : ℕ) (flow_is_in_step : Bool)
    (fin_number : Option ℕ) → Bool
fin_is_reached next live None = false
fin_is_reached next live (Some number) = live && not (is_to_come next number)

-- the live stream closes, if there is one, and the flow is no longer in step
unfoldable pub closed : (flow : Flow) (cause : CloseCause) → Flow
closed f cause = cond (lives f.live f.waits) (stream_closed f f.next cause) (out_of_step f)

-- a FIN is kept only while the flow is in step
unfoldable pub without_stale_fin : (flow : Flow) → Flow
without_stale_fin f = cond (is_some f.live) f (record f { fin = None })

-- if the FIN is reached, the stream closes or is no longer waited for, and the held payloads that
-- are due are taken
unfoldable pub closed_at_fin : (reader : Reader) (flow : Flow) → Flow
closed_at_fin F f =
    cond (fin_is_reached f.next (is_some f.live) f.fin)
    (drained_due F (record (closed f Fin) { fin = None })) f

-- the flow goes on: held payloads that are due are taken, and the stream closes if its FIN is
-- reached
unfoldable pub gone_on_with_held : (reader : Reader) (flow : Flow) → Flow
gone_on_with_held F f = without_stale_fin (closed_at_fin F (drained_due F f))

-- how many octets a gap passes over: all that a message lacks, if they are fewer than 2^31 and a
-- payload at `number` begins no further on than they end
unfoldable pub passable_octets : (next_due_number held_payload_number : ℕ)
    (octets_message_lacks : Option ℕ) → Option ℕ
passable_octets next number None = None
passable_octets next number (Some count) =
    cond (nat_lt count (2 ^ 31) && not (is_to_come (onward next count) number)) (Some count) None

-- how many octets the gap of a flow passes over, from the first payload that it holds: the rest of
-- the message that its live stream is in
unfoldable pub octets_passed_over : (reader : Reader) (flow : Flow) → Option ℕ
octets_passed_over F f =
    cond (lives f.live f.waits) (elim (oldest_held f) [
      | None ↦ None
      | Some i ↦ passable_octets f.next (at f i).number (F.lacking f.events f.id)
    ]) None

-- the live stream closes, and the flow waits for the next one `count` octets after the number that
-- is due
abbrev pub awaiting_stream : (flow : Flow) (octets_to_pass_over : ℕ) → Flow
awaiting_stream f count = record (closed f Gap) {
  next = onward f.next count;
  live = Some (onward f.next count);
  waits = true;
}

-- the live stream closes, and the flow waits for the next one at the end of the message, or is no
-- longer in step
unfoldable pub closed_for_gap : (flow : Flow) (octets_to_pass_over : Option ℕ) → Flow
closed_for_gap f None = closed f Gap
closed_for_gap f (Some count) = awaiting_stream f count

unfoldable pub with_gap : (reader : Reader) (flow : Flow) → Flow
with_gap F f = gone_on_with_held F (closed_for_gap f (octets_passed_over F f))

-- gaps while a payload that the flow holds ends too far after the number that is due, at most
-- `count`
unfoldable pub within_window : (reader : Reader) (most_gaps : ℕ) (flow : Flow) → Flow
within_window F zero f = f
within_window F (suc count) f =
    elim (holds_beyond_window f.id f.next f.held)
    [ true ↦ within_window F count (with_gap F f) | false ↦ f ]

unfoldable pub with_held : (flow : Flow) (payload : Payload) → Flow
with_held f p = record f { held = put p f.held }

-- a payload comes
unfoldable pub payload_came : (reader : Reader) (flow : Flow) (payload : Payload) → Flow
payload_came F f p =
    let q : Payload = without_old_octets f.next (is_some f.live) p in
    cond (nat_eq (length q.octets) 0 || holds_as_long f.id q.number (length q.octets) f.held) f
    (within_window F (length f.held + 1) (gone_on_with_held F (with_held f q)))

-- a FIN comes, with the number after the payload of its segment
unfoldable pub fin_came : (reader : Reader) (flow : Flow) (number_after_payload : ℕ) → Flow
fin_came F f number =
    cond (is_some f.live && nat_eq (age f.next number) 0)
    (gone_on_with_held F (record f { fin = Some number })) f

-- a second, in nanoseconds
abbrev pub second : ℕ
second = 1000000000

-- how many nanoseconds packet `now` came after packet `since`; None if one of the two has no time
abbrev pub nanoseconds_since : (earlier_packet later_packet : origin.Arrival) → Option ℕ
nanoseconds_since since now =
    elim since.time [ None ↦ None | Some before ↦ option_map (λ time. time - before) now.time ]

-- whether a packet acknowledges octets after the number that is due
abbrev pub acknowledges : (packet : Heard) (next_due_number : ℕ) → Bool
acknowledges h next = elim h.acknowledged [ None ↦ false | Some number ↦ is_to_come next number ]

-- Whether, after a packet, the octets are given up that are missing before a payload that came in
-- packet `since`. If they are acknowledged, they were received: they are given up when the other
-- side sends octets, or after a second. All others are given up after 30 seconds. If a time isn't
-- known, it is as if a second had passed.
abbrev pub gives_up : (packet : Heard) (next_due_number : ℕ)
    (packet_of_held_payload : origin.Arrival) → Bool
gives_up h next since =
    elim (nanoseconds_since since h.arrival) [
      | None ↦ acknowledges h next
      | Some time ↦
          (acknowledges h next && (h.answers || nat_le second time)) || nat_le (30 * second) time
    ]

-- whether what is missing before the first payload that a flow holds is given up
unfoldable pub is_lost : (packet : Heard) (flow : Flow) → Bool
is_lost h f = elim (oldest_held f) [ None ↦ false | Some i ↦ gives_up h f.next (at f i).arrival ]

-- a packet of the flow's connection came: gaps while what is missing is given up, at most `count`
unfoldable pub heard : (reader : Reader) (most_gaps : ℕ) (packet : Heard) (flow : Flow) → Flow
heard F zero h f = f
heard F (suc count) h f =
    elim (is_lost h f) [ true ↦ heard F count h (with_gap F f) | false ↦ f ]

-- what comes for a flow
pub data Arrival : Type 0 where
  Octets : (first_octet_number : ℕ) → (octets : List ℕ) → (packet : origin.Arrival) → Arrival
  End : (number_after_payload : ℕ) → Arrival
  Hears : (packet : Heard) → Arrival

unfoldable pub step : (reader : Reader) (flow : Flow) (arrival : Arrival) → Flow
step F f (Octets n octets arrival) = payload_came F f (payload f.id n octets arrival)
step F f (End n) = fin_came F f n
step F f (Hears h) = heard F (length f.held) h f

-- the flow after all that comes, in this order
unfoldable pub after : (reader : Reader) (flow : Flow) (arrivals : List Arrival) → Flow
after F f [] = f
after F f (c ∷ cs) = after F (step F f c) cs

-- a flow for which nothing has come, and the number that is due in it
abbrev pub fresh : (flow_id next_due_number : ℕ) (held_by_all_flows : List Payload)
    (events_so_far : List Event) → Flow
fresh id number held events = record {
  id = id;
  next = number;
  live = None;
  waits = false;
  fin = None;
  since = number;
  has_begun = false;
  is_found = false;
  tail = None;
  held = held;
  events = events;
}

-- a flow for which its first payload has come: the number of this payload was due
unfoldable pub first_payload : (reader : Reader) (flow_id first_octet_number : ℕ) (octets : List ℕ)
    (arrival : origin.Arrival) (held_by_all_flows : List Payload) (events_so_far : List Event) →
    Flow
first_payload F id number octets arrival held events =
    payload_came F (fresh id number held events) (payload id number octets arrival)

-- the payloads that other flows hold
unfoldable pub held_by_others : (flow_id : ℕ) (payloads : List Payload) → List Payload
held_by_others id [] = []
held_by_others id (p ∷ ps) =
    cond (nat_eq p.flow id) (held_by_others id ps) (p ∷ held_by_others id ps)

-- all payloads that the flow holds are removed
unfoldable pub without_held : (flow : Flow) → Flow
without_held f = record f { held = held_by_others f.id f.held }
