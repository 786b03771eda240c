-- The text of a capture as a row of parts (docs/FORMATS.md, Conversations of a capture; meaning). A
-- part is lines of a stream, each with its tag in front, or the fault of the capture. The lines
-- that giopdump writes of a stream are kept apart from its other lines, which are of five kinds.
use Rattle.std.specs.Prelude.{◌≡◌, ℕ, ◌==◌, true, List, [], flat_map, Option, if◌then◌else◌}
use Rattle.giop_calls.specs.declared.calls.Call.{Call}
use Rattle.tcp_flow.specs.declared.flow.CloseCause.{CloseCause}
use Rattle.tcp_segment.specs.declared.endpoint.Flow.{Flow}
use Rattle.tcp_waiting.specs.declared.arrival.Arrival.{Arrival}
use Rattle.giop_conversation.specs.declared.lines.Opening.{Opening}
use Rattle.giop_conversation.specs.Tags.{stream_tag, with_tags}
use Rattle.giop_conversation.specs.TaggedText.{is_tag_due}
use Rattle.giop_conversation.specs.Lines.{stream_line, time_line, answers_line, raises_line, closed_line, capture_fault_line}

-- lines of a stream
pub data StreamPart : Type 0 where
  Reads : List ℕ → StreamPart  -- lines that giopdump writes too, when octets are read
  Closing : List ℕ → StreamPart  -- lines that giopdump writes too, when the stream closes
  StreamLine : Flow → Opening → StreamPart  -- the line with which the stream begins
  TimeLine : ℕ → Arrival → StreamPart  -- the line that says when a message began
  AnswersLine : ℕ → Call → Option ℕ → StreamPart  -- the line that says which call a Reply answers
  RaisesLine : ℕ → List ℕ → StreamPart  -- the line that says which exception a Reply raises
  ClosedLine : CloseCause → StreamPart  -- the line that says why the stream closes

-- the lines of a part, without the tag
abbrev pub part_lines : StreamPart → List ℕ
part_lines (Reads lines) = lines
part_lines (Closing lines) = lines
part_lines (StreamLine flow opening) = stream_line flow opening
part_lines (TimeLine message arrival) = time_line message arrival
part_lines (AnswersLine message call time) = answers_line message call time
part_lines (RaisesLine message name) = raises_line message name
part_lines (ClosedLine cause) = closed_line cause

-- the lines of a part that giopdump writes when octets are read
abbrev pub giopdump_read_lines : StreamPart → List ℕ
giopdump_read_lines (Reads lines) = lines
giopdump_read_lines (Closing lines) = []
giopdump_read_lines (StreamLine flow opening) = []
giopdump_read_lines (TimeLine message arrival) = []
giopdump_read_lines (AnswersLine message call time) = []
giopdump_read_lines (RaisesLine message name) = []
giopdump_read_lines (ClosedLine cause) = []

-- all lines of a part that giopdump writes: when octets are read, and when the stream closes
abbrev pub giopdump_lines : StreamPart → List ℕ
giopdump_lines (Reads lines) = lines
giopdump_lines (Closing lines) = lines
giopdump_lines (StreamLine flow opening) = []
giopdump_lines (TimeLine message arrival) = []
giopdump_lines (AnswersLine message call time) = []
giopdump_lines (RaisesLine message name) = []
giopdump_lines (ClosedLine cause) = []

-- a part of the text: lines of the stream of this number, or the capture's fault, by its word and
-- the number of its octet
pub data CapturePart : Type 0 where
  OfStream : ℕ → StreamPart → CapturePart
  FaultLine : List ℕ → ℕ → CapturePart

abbrev pub part_text : CapturePart → List ℕ
part_text (OfStream number part) = with_tags (stream_tag number) (part_lines part)
part_text (FaultLine word at) = capture_fault_line word at

-- the text of parts
abbrev pub parts_text : (parts : List CapturePart) → List ℕ
parts_text parts = flat_map part_text parts

-- the part is whole lines
abbrev pub IsWholeLines : CapturePart → Type 0
IsWholeLines (OfStream number part) = is_tag_due (part_lines part) ≡ true
IsWholeLines (FaultLine word at) = Unit {0}

-- what a part has of the lines of the stream of this number
abbrev pub lines_if_of_stream : (lines_of_part : StreamPart → List ℕ) (stream_number : ℕ)
    (part : CapturePart) → List ℕ
lines_if_of_stream lines number (OfStream n part) = if n == number then lines part else []
lines_if_of_stream lines number (FaultLine word at) = []

-- the lines that giopdump writes of the octets of the stream of this number, without the tag
abbrev pub giopdump_read_lines_of : (stream_number : ℕ) (parts : List CapturePart) → List ℕ
giopdump_read_lines_of number parts = flat_map (lines_if_of_stream giopdump_read_lines number) parts

-- all lines that giopdump writes of the stream of this number, without the tag
abbrev pub giopdump_lines_of : (stream_number : ℕ) (parts : List CapturePart) → List ℕ
giopdump_lines_of number parts = flat_map (lines_if_of_stream giopdump_lines number) parts
