-- The lines of a stream in a capture, without its tag (docs/FORMATS.md, Conversations of a capture;
-- meaning). After the lines that giopdump writes of an octet come the lines that are due there:
-- when a message began, if the octet is the 12th of its header; which call a Reply answers, if the
-- Reply's header ends; and which exception it raises, if the exception's name ends.
use Rattle.std.specs.Prelude.{ℕ, List, [], ◌∷◌, ◌++◌, Option, Some, None}
use Rattle.giop_message.specs.HeaderEnds.{after_ends}
use Rattle.giop_stream.specs.Rules.{Rules}
use Rattle.giop_stream.specs.DueOctets.{begun_in}
use Rattle.giop_stream.specs.HeaderEndsOfStream.{header_ends_from}
use Rattle.giop_stream.specs.EngineHolds.{added}
use Rattle.tcp_segment.specs.declared.endpoint.Flow.{Flow}
use Rattle.tcp_waiting.specs.declared.arrival.Arrival.{Arrival}
use Rattle.giop_conversation.specs.declared.lines.Opening.{Opening}
use Rattle.giop_conversation.specs.Lines.{stream_line, time_line, answers_line, raises_line}
use Rattle.giop_conversation.specs.Exchanges.{ExchangeView, Answering, Raising, notified}

-- the line with which a stream begins, if it is known who sends to whom
abbrev pub begin_lines : (flow : Option Flow) (opening : Opening) → List ℕ
begin_lines None opening = []
begin_lines (Some flow) opening = stream_line flow opening

-- the line that says when the message of this number began, if there is one
abbrev pub due_time_line : (begun_message_number : Option ℕ) (arrival : Arrival) → List ℕ
due_time_line None arrival = []
due_time_line (Some message) arrival = time_line message arrival

-- the line that says which call a Reply answers, if it answers one
abbrev pub due_answers_line : (answering : Option Answering) (reply_time : Option ℕ) → List ℕ
due_answers_line None time = []
due_answers_line (Some a) time = answers_line a.message a.call time

-- the line that says which exception a Reply raises, if it raises one
abbrev pub due_raises_line : (raising : Option Raising) → List ℕ
due_raises_line None = []
due_raises_line (Some r) = raises_line r.message r.name

-- the calls of the connection after they were told of each header that ends in these octets after
-- the stream
abbrev pub after_headers : (R : Rules) (calls_before : ExchangeView)
    (stream_before new_octets : List ℕ) → ExchangeView
after_headers R s stream octets = after_ends notified s.table s (header_ends_from R stream octets)

-- the calls after the lines of a Reply were written
abbrev pub reply_forgotten : (exchange : ExchangeView) → ExchangeView
reply_forgotten s = record s { answered = None; raised = None }

-- the lines that are due after these octets of the stream, which came in the packet that the
-- exchange has
unfoldable pub lines_due : (R : Rules) (exchange : ExchangeView)
    (stream_before new_octets : List ℕ) → List ℕ
lines_due R s stream octets =
    due_time_line (begun_in stream octets) s.arrival
    ++ (due_answers_line (after_headers R s stream octets).answered s.arrival.time
    ++ due_raises_line (after_headers R s stream octets).raised)

-- the calls of the connection after these octets, which come after the stream
unfoldable pub after_octets : (R : Rules) (calls_before : ExchangeView)
    (stream_before new_octets : List ℕ) → ExchangeView
after_octets R s stream [] = s
after_octets R s stream (x ∷ xs) = after_octets R (reply_forgotten (after_headers R s stream
    (x ∷ []))) (stream ++ x ∷ []) xs

-- what is written of these octets after the stream: the lines of each octet, and then the lines
-- that are due after it
unfoldable pub stamped : (R : Rules) (calls_before : ExchangeView)
    (stream_before new_octets : List ℕ) → List ℕ
stamped R s stream [] = []
stamped R s stream (x ∷ xs) =
    (added R stream (x ∷ []) ++ lines_due R s stream (x ∷ []))
    ++ stamped R (reply_forgotten (after_headers R s stream (x ∷ []))) (stream ++ x ∷ []) xs
