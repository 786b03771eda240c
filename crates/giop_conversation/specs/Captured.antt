-- The text of a capture, by what happens in it (docs/FORMATS.md, Conversations of a capture;
-- meaning). A flow is named by its id. Half of the id is the index of its connection. If the id is
-- even, the flow is the even one of its connection, else the odd one.
use Rattle.std.specs.Prelude.{◌≡◌, ℕ, ◌+◌, ◌-◌, ◌^◌, ◌/◌, min, Bool, true, false, ◌||◌, List, [], ◌∷◌, ◌++◌, map, Option, Some, None, IfSome, slice_get, set, replicate, if◌then◌else◌}
use Rattle.giop_print.specs.Output.{saturating_next}
use Rattle.giop_sig.specs.Table.{Table}
use Rattle.giop_entry_table.specs.EntryTable.{Entries}
use Rattle.giop_calls.specs.declared.calls.Call.{Call}
use Rattle.giop_message.specs.Signatures.{Answers}
use Rattle.giop_message.specs.HeaderEnds.{AgreesAtEnds}
use Rattle.giop_stream.specs.Rules.{Rules, rules_by}
use Rattle.giop_stream.specs.AnswersAgree.{AnswersAgree}
use Rattle.giop_stream.specs.HeaderEndsOfStream.{header_ends_from}
use Rattle.giop_stream.specs.Stream.{closing, final}
use Rattle.tcp_segment.specs.declared.endpoint.Flow.{Flow}
use Rattle.tcp_flow.specs.Flow.{Event, Opens, Begins, Delivers, Closes, OfCapture, ComesFrom, Passes, HasFault}
use Rattle.tcp_flow.specs.declared.flow.Start.{Start}
use Rattle.tcp_flow.specs.declared.flow.CloseCause.{CloseCause}
use Rattle.tcp_flow.specs.declared.flow.CloseCause.TheVariants.{Fin, Reset, Syn, Fault, Gap, Room, End}
use Rattle.giop_conversation.specs.declared.conversation.Side.{Side}
use Rattle.giop_conversation.specs.declared.conversation.Side.TheVariants.{Even, Odd}
use Rattle.tcp_waiting.specs.declared.arrival.Arrival.{Arrival}
use Rattle.giop_conversation.specs.declared.lines.CaptureTotals.{CaptureTotals}
use Rattle.giop_conversation.specs.declared.lines.Opening.{Opening}
use Rattle.giop_conversation.specs.Tags.{stream_tag, with_tags}
use Rattle.giop_conversation.specs.Lines.{closed_line, capture_fault_line, capture_total_line}
use Rattle.giop_conversation.specs.Exchanges.{ExchangeView, answer_of, notified}
use Rattle.giop_conversation.specs.Stamped.{begin_lines, after_octets, stamped}
use Rattle.giop_conversation.specs.Followed.{side_of, other}

-- what is set before a capture is read: the types, the greatest number of open messages of a
-- stream, the greatest number of outstanding calls of a flow, the greatest number of connections
-- that are known at once, and the number of the first stream
pub record Setup : Type 0 where
  pub table : Table
  pub messages : ℕ
  pub calls : ℕ
  pub connections : ℕ
  pub first : ℕ

abbrev pub setup : (table : Table)
    (most_open_messages most_calls_of_flow most_connections first_stream_number : ℕ) → Setup
setup table messages calls connections first = record {
  table = table;
  messages = messages;
  calls = calls;
  connections = connections;
  first = first;
}

-- ---- a connection

-- one flow of a connection
pub record Half : Type 0 where
  pub flow : Option Flow  -- who sends to whom
  pub stream : ℕ  -- the number of its last stream; 0 if none has begun
  pub is_live : Bool  -- whether that stream lives
  pub octets : List ℕ  -- the octets that were delivered of that stream
  pub answers : Answers  -- the operations that the ids of the stream's messages answer
  pub calls : Entries Call  -- its outstanding calls

pub record Connection : Type 0 where
  pub even : Half
  pub odd : Half

abbrev pub half : (side : Side) (connection : Connection) → Half
half Even c = c.even
half Odd c = c.odd

abbrev pub with_half : (side : Side) (connection : Connection) (new_flow_state : Half) → Connection
with_half Even c s = record c { even = s }
with_half Odd c s = record c { odd = s }

-- the rules by which a stream is read, if the ids of its messages answer these operations
abbrev pub rules_in : (setup : Setup) (answers : Answers) → Rules
rules_in S a = rules_by S.table a S.messages

-- the calls of the connection, when the stream of a flow is read in this packet
abbrev pub calls_in : (setup : Setup) (read_side : Side) (arrival : Arrival)
    (connection : Connection) → ExchangeView
calls_in S side arrival c = record {
  table = S.table;
  own = (half side c).calls;
  opposite = (half (other side) c).calls;
  stream = (half side c).stream;
  arrival = arrival;
  replied = 0;
  answered = None;
  raised = None;
}

-- after it is known who sends to whom in a flow: the flow has no calls
abbrev pub flow_opened : (side : Side) (flow : Flow) (connection : Connection) → Connection
flow_opened side flow c =
    with_half side c (record (half side c) {
      flow = Some flow;
      calls = record (half side c).calls { entries = [] };
    })

-- after a stream of this number has begun in a flow
abbrev pub stream_begun : (side : Side) (stream_number : ℕ) (connection : Connection) → Connection
stream_begun side stream c =
    with_half side c (record (half side c) { stream = stream; is_live = true; octets = [] })

-- after the stream of a flow has closed
abbrev pub stream_ended : (side : Side) (connection : Connection) → Connection
stream_ended side c = with_half side c (record (half side c) { is_live = false })

-- the number of a flow's stream, if it lives
abbrev pub live_stream : (flow_state : Half) → Option ℕ
live_stream s = if s.is_live then Some s.stream else None

-- what the line of a stream says that begins in a flow at this time
abbrev pub opening : (side : Side) (begin_time : Option ℕ) (start : Start)
    (connection : Connection) → Opening
opening side time start c =
    record { time = time; partner = live_stream (half (other side) c); start = start }

-- the calls of the connection after octets that are delivered in this packet, if the ids of the
-- stream's messages answer these operations
abbrev pub calls_after_octets : (S : Setup) (answers : Answers) (read_side : Side)
    (delivered_octets : List ℕ) (arrival : Arrival) (connection_before : Connection) → ExchangeView
calls_after_octets S a side octets arrival c =
    after_octets (rules_in S a) (calls_in S side arrival c) (half side c).octets octets

-- the connection after octets that are delivered in this packet, by these answers
abbrev pub octets_delivered : (S : Setup) (answers : Answers) (read_side : Side)
    (delivered_octets : List ℕ) (arrival : Arrival) (connection_before : Connection) → Connection
octets_delivered S a side octets arrival c =
    let behind = calls_after_octets S a side octets arrival c in
    with_half (other side)
    (with_half side c (record (half side c) {
      octets = (half side c).octets ++ octets;
      answers = a;
      calls = behind.own;
    }))
    (record (half (other side) c) { calls = behind.opposite })

-- the lines of octets that are delivered in this packet, by these answers, without the tag
abbrev pub lines_of_delivered : (S : Setup) (answers : Answers) (read_side : Side)
    (delivered_octets : List ℕ) (arrival : Arrival) (connection_before : Connection) → List ℕ
lines_of_delivered S a side octets arrival c =
    stamped (rules_in S a) (calls_in S side arrival c) (half side c).octets octets

-- These answers are those of the calls. They agree with the stream's answers for what was delivered
-- before. And if the header of a Reply ends in the octets, the Reply has results of the operation
-- of the call that it answers.
pub record AnswersAreOfCalls (S : Setup) (answers : Answers) (read_side : Side)
    (delivered_octets : List ℕ) (arrival : Arrival) (connection : Connection) : Type 0 where
  pub before : AnswersAgree S.table S.messages (half read_side connection).octets
      (half read_side connection).answers answers
  pub now : AgreesAtEnds answer_of notified S.table (calls_in S read_side arrival connection)
      answers
      (header_ends_from (rules_in S answers) (half read_side connection).octets delivered_octets)

-- the lines with which the stream of a flow closes: why it closes, and its closing
abbrev pub closed_lines : (setup : Setup) (side : Side) (cause : CloseCause)
    (connection : Connection) → List ℕ
closed_lines S side cause c =
    closed_line cause ++ closing (rules_in S (half side c).answers) (half side c).octets

-- ---- the capture

pub record Dump : Type 0 where
  pub connections : List Connection
  pub streams : ℕ  -- how many streams have begun
  pub messages : ℕ  -- the sum of the messages of the streams that have closed
  pub faults : ℕ
  pub others : ℕ  -- the number of payloads that were looked through and in which no stream begins
  pub is_cut : Bool  -- whether the capture has a fault, or a gap or lack of room cut a stream
  pub arrival : Arrival  -- the packet in which the next octets are delivered
  pub text : List ℕ  -- all that was written

abbrev pub new_half : Setup → Half
new_half S = record {
  flow = None;
  stream = 0;
  is_live = false;
  octets = [];
  answers = λ number id. None;
  calls = record { most = S.calls; entries = [] };
}

abbrev pub new_connection : Setup → Connection
new_connection S = record { even = new_half S; odd = new_half S }

-- the dump before a capture is read, when this text was written before
abbrev pub start : (S : Setup) (text_before : List ℕ) → Dump
start S written = record {
  connections = replicate S.connections (new_connection S);
  streams = 0;
  messages = 0;
  faults = 0;
  others = 0;
  is_cut = false;
  arrival = record { time = None; packet = 0 };
  text = written;
}

-- the sum of two numbers, or the greatest number of 64 bits if the sum is greater
abbrev pub saturating_sum : (count more : ℕ) → ℕ
saturating_sum a b = min (a + b) (2 ^ 64 - 1)

-- the number of the next stream, when this number of streams have begun before it
abbrev pub next_stream_number : (S : Setup) (streams_begun : ℕ) → ℕ
next_stream_number S begun = saturating_sum S.first begun

-- the connection of a flow, if the flow has one
abbrev pub connection_of : (dump : Dump) (flow_id : ℕ) → Option Connection
connection_of d id = slice_get d.connections (id / 2)

abbrev pub with_connection : (dump : Dump) (flow_id : ℕ) (new_connection_of_flow : Connection) →
    Dump
with_connection d id c = record d { connections = set d.connections (id / 2) c }

abbrev pub dump_after_open : (dump_before : Dump) (flow_id : ℕ) (flow : Flow)
    (connection : Option Connection) → Dump
dump_after_open d id flow None = d
dump_after_open d id flow (Some c) = with_connection d id (flow_opened (side_of id) flow c)

abbrev pub dump_after_begin : (S : Setup) (dump_before : Dump) (flow_id : ℕ) (start : Start)
    (connection : Option Connection) → Dump
dump_after_begin S d id start None = record d { streams = saturating_next d.streams }
dump_after_begin S d id start (Some c) =
    record (with_connection d id (stream_begun (side_of id) (next_stream_number S d.streams) c)) {
      streams = saturating_next d.streams;
      text = d.text ++ with_tags (stream_tag (next_stream_number S d.streams))
          (begin_lines (half (side_of id) c).flow (opening (side_of id) d.arrival.time start c));
    }

abbrev pub dump_after_octets : (S : Setup) (answers : Answers) (dump_before : Dump) (flow_id : ℕ)
    (delivered_octets : List ℕ) (connection : Option Connection) → Dump
dump_after_octets S a d id octets None = d
dump_after_octets S a d id octets (Some c) =
    record (with_connection d id (octets_delivered S a (side_of id) octets d.arrival c)) {
      text = d.text ++ with_tags (stream_tag (half (side_of id) c).stream)
          (lines_of_delivered S a (side_of id) octets d.arrival c);
    }

-- whether a stream that closes for this cause is cut
abbrev pub cuts_stream : CloseCause → Bool
cuts_stream Gap = true
cuts_stream Room = true
cuts_stream Fin = false
cuts_stream Reset = false
cuts_stream Syn = false
cuts_stream Fault = false
cuts_stream End = false

abbrev pub dump_after_close : (S : Setup) (dump_before : Dump) (flow_id : ℕ) (cause : CloseCause)
    (connection : Option Connection) → Dump
dump_after_close S d id cause None = d
dump_after_close S d id cause (Some c) =
    let s = half (side_of id) c in
    let totals = final (rules_in S s.answers) s.octets in
    record (with_connection d id (stream_ended (side_of id) c)) {
      messages = saturating_sum d.messages totals.messages;
      faults = saturating_sum d.faults totals.faults;
      is_cut = d.is_cut || cuts_stream cause;
      text = d.text ++ with_tags (stream_tag s.stream) (closed_lines S (side_of id) cause c);
    }

-- the dump after an event, if the ids of the messages of the stream that is read answer these
-- operations
abbrev pub dump_after_event : (setup : Setup) (answers : Answers) (dump_before : Dump)
    (event : Event) → Dump
dump_after_event S a d (Opens id flow) = dump_after_open d id flow (connection_of d id)
dump_after_event S a d (Begins id start) = dump_after_begin S d id start (connection_of d id)
dump_after_event S a d (Delivers id octets) = dump_after_octets S a d id octets (connection_of d id)
dump_after_event S a d (Closes id cause) = dump_after_close S d id cause (connection_of d id)
dump_after_event S a d (OfCapture (ComesFrom arrival)) = record d { arrival = arrival }
dump_after_event S a d (OfCapture (Passes octets)) = record d { others = saturating_next d.others }
dump_after_event S a d (OfCapture (HasFault word at)) =
    record d { is_cut = true; text = d.text ++ capture_fault_line word at }

-- if the event delivers octets, these answers are those of the calls
abbrev pub AnswersFitEvent : (setup : Setup) (answers : Answers) (dump_before : Dump)
    (event : Event) → Type 0
AnswersFitEvent S a d (Delivers id octets) =
    IfSome (connection_of d id) (λ c. AnswersAreOfCalls S a (side_of id) octets d.arrival c)
AnswersFitEvent S a d (Opens id flow) = Unit {0}
AnswersFitEvent S a d (Begins id start) = Unit {0}
AnswersFitEvent S a d (Closes id cause) = Unit {0}
AnswersFitEvent S a d (OfCapture event) = Unit {0}

-- The event leads from one dump to the next, by some answers.
pub record Step (S : Setup) (dump_before : Dump) (event : Event) (dump_after : Dump) : Type 0 where
  pub answers : Answers
  pub answered : AnswersFitEvent S answers dump_before event
  pub is : dump_after ≡ dump_after_event S answers dump_before event

-- a connection, without the answers of its streams
abbrev pub unanswered : Connection → Connection
unanswered c = record {
  even = record c.even { answers = λ number id. None };
  odd = record c.odd { answers = λ number id. None };
}

abbrev pub without_answers : Dump → Dump
without_answers d = record d { connections = map unanswered d.connections }

-- The events lead from one dump to another.
abbrev pub Leads : (S : Setup) (dump_before : Dump) (events : List Event) (dump_after : Dump) →
    Type 0
Leads S d [] behind = behind ≡ d
Leads S d (e ∷ es) behind = (between : Dump) × Step S d e between × Leads S between es behind

-- the sums of a capture that has this number of packets and octets
abbrev pub totals_of : (dump : Dump) (packet_count capture_octet_count : ℕ) → CaptureTotals
totals_of d packets octets = record {
  streams = d.streams;
  messages = d.messages;
  faults = d.faults;
  packets = packets;
  octets = octets;
  others = d.others;
}

-- the text of a capture that has this number of packets and octets, with its last line
abbrev pub finished_text : (dump : Dump) (packet_count capture_octet_count : ℕ) → List ℕ
finished_text d packets octets = d.text ++ capture_total_line (totals_of d packets octets)
