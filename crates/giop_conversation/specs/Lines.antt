-- The lines of a capture in addition to those that giopdump writes of its streams (docs/FORMATS.md;
-- meaning). A line of a stream has the stream's tag in front of it (Tags).
use Rattle.std.specs.Prelude.{ℕ, nat_lt, Bool, List, [], ◌∷◌, ◌++◌, Option, Some, None, codes, decimal, if◌then◌else◌}
use Rattle.giop_print.specs.Text.{joined}
use Rattle.giop_calls.specs.declared.calls.Call.{Call}
use Rattle.tcp_flow.specs.declared.flow.CloseCause.{CloseCause}
use Rattle.tcp_flow.specs.declared.flow.CloseCause.TheVariants.{Fin, Reset, Syn, Fault, Gap, Room, End}
use Rattle.tcp_segment.specs.declared.endpoint.Flow.{Flow}
use Rattle.tcp_segment.specs.EndpointText.{endpoint_text}
use Rattle.tcp_waiting.specs.declared.arrival.Arrival.{Arrival}
use Rattle.giop_conversation.specs.declared.lines.CaptureTotals.{CaptureTotals}
use Rattle.giop_conversation.specs.declared.lines.Opening.{Opening}
use Rattle.giop_conversation.specs.Times.{time_text, span_text}

-- the number of the stream of the opposite flow that lives when a stream begins, if one does
abbrev pub partner_text : (opposite_live_stream : Option ℕ) → List ℕ
partner_text None = []
partner_text (Some stream) = codes " with s" ++ decimal stream

-- the number of octets before a stream that are in no stream, if there are any
abbrev pub passed_text : (octets_in_no_stream : ℕ) → List ℕ
passed_text passed = if nat_lt 0 passed then codes " behind " ++ decimal passed else []

-- ` found`, if the place of the stream was looked for
abbrev pub found_text : (is_found : Bool) → List ℕ
found_text is_found = if is_found then codes " found" else []

-- the line with which a stream begins
unfoldable pub stream_line : Flow → Opening → List ℕ
stream_line flow opening =
    joined (codes "stream " ∷ endpoint_text flow.from ∷ codes " > " ∷ endpoint_text flow.to
    ∷ codes " at " ∷ time_text opening.time ∷ partner_text opening.partner
    ∷ passed_text opening.start.passed ∷ found_text opening.start.is_found ∷ codes "\n" ∷ [])

-- the line that says when the header of a message was complete, and in which packet of the capture
unfoldable pub time_line : (message_number : ℕ) (arrival : Arrival) → List ℕ
time_line message arrival =
    joined (codes "m" ∷ decimal message ∷ codes " time " ∷ time_text arrival.time
    ∷ codes " packet " ∷ decimal arrival.packet ∷ codes "\n" ∷ [])

-- the line of the call that a Reply answers, and of how long after the call it came
unfoldable pub answers_line : (reply_message_number : ℕ) (call : Call) (reply_time : Option ℕ) →
    List ℕ
answers_line message call time =
    joined (codes "m" ∷ decimal message ∷ codes " answers s" ∷ decimal call.stream ∷ codes " m"
    ∷ decimal call.message
    ∷ codes " " ∷ call.name.items ∷ codes " after " ∷ span_text call.time time ∷ codes "\n" ∷ [])

-- the line of the exception that a Reply raises, by its repository id
unfoldable pub raises_line : (reply_message_number : ℕ) (repository_id : List ℕ) → List ℕ
raises_line message repository =
    joined (codes "m" ∷ decimal message ∷ codes " raises " ∷ repository ∷ codes "\n" ∷ [])

abbrev pub cause_word : CloseCause → List ℕ
cause_word Fin = codes "fin"
cause_word Reset = codes "reset"
cause_word Syn = codes "syn"
cause_word Fault = codes "fault"
cause_word Gap = codes "gap"
cause_word Room = codes "room"
cause_word End = codes "end"

-- the line that says why a stream closes
unfoldable pub closed_line : CloseCause → List ℕ
closed_line cause = joined (codes "closed " ∷ cause_word cause ∷ codes "\n" ∷ [])

-- the line of the fault of the capture itself, with the number of its octet
unfoldable pub capture_fault_line : (fault_word : List ℕ) (octet_number : ℕ) → List ℕ
capture_fault_line word at =
    joined (codes "capture fault " ∷ word ∷ codes " at " ∷ decimal at ∷ codes "\n" ∷ [])

-- the last line: the sums over all streams, the packets, the octets of the capture, and the number
-- of payloads that were looked through and in which no stream begins
unfoldable pub capture_total_line : CaptureTotals → List ℕ
capture_total_line t =
    joined (codes "total streams " ∷ decimal t.streams ∷ codes " messages " ∷ decimal t.messages
    ∷ codes " faults " ∷ decimal t.faults ∷ codes " packets " ∷ decimal t.packets
    ∷ codes " octets " ∷ decimal t.octets ∷ codes " other " ∷ decimal t.others
    ∷ codes "\n" ∷ [])
