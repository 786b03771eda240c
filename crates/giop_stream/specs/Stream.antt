-- The text of a stream, its totals, and its closing, which is what is written at its end
-- (docs/FORMATS.md, Lines; meaning).
use Rattle.std.specs.Prelude.{ℕ, ◌+◌, Bool, true, false, not, ◌&&◌, ◌||◌, List, [], ◌++◌, length, map, filter, flat_map, Option, is_some, is_none, nat_lt, if◌then◌else◌}
use Rattle.std.specs.List.{list_any}
use Rattle.giop_checkpoint.specs.declared.fault.StreamFault.{StreamFault}
use Rattle.giop_stream.specs.declared.status.Totals.{Totals}
use Rattle.giop_stream.specs.Framing.{CutMessage, Cut, cut, messages, octets_read}
use Rattle.giop_message.specs.MessageReader.{Value, Call, Rest, Fault, End}
use Rattle.giop_stream.specs.Rules.{Rules}
use Rattle.giop_print.specs.Lines.{unfinished_line, total_line}
use Rattle.giop_stream.specs.Kinds.{is_any_fragment}
use Rattle.giop_stream.specs.Lines.{Content, Started, Said, ContinuesMessage, CancelledBy, Faulted, Stopped, StreamLine, is_last_line_of, lines_of_messages, lines}
use Rattle.giop_stream.specs.Text.{lines_text, truncated_line}

-- what is written of the stream
unfoldable pub text : (R : Rules) (stream : List ℕ) → List ℕ
text R stream = lines_text (lines R stream)

abbrev pub is_start : (content : Content) → Bool
is_start (Started header) = true
is_start (Said line_class text) = false
is_start (ContinuesMessage i) = false
is_start (CancelledBy j) = false
is_start (Faulted fault) = false
is_start (Stopped fault) = false

abbrev pub is_fault : (content : Content) → Bool
is_fault (Started header) = false
is_fault (Said Value text) = false
is_fault (Said Call text) = false
is_fault (Said Rest text) = false
is_fault (Said Fault text) = true
is_fault (Said End text) = false
is_fault (ContinuesMessage i) = false
is_fault (CancelledBy j) = false
is_fault (Faulted fault) = true
is_fault (Stopped fault) = true

unfoldable pub start_count : (lines : List StreamLine) → ℕ
start_count lines = length (filter (λ l. is_start l.content) lines)

unfoldable pub fault_count : (lines : List StreamLine) → ℕ
fault_count lines = length (filter (λ l. is_fault l.content) lines)

-- the totals of a stream: its start lines, its fault lines, and the octets that are read
unfoldable pub totals_so_far : (R : Rules) (stream : List ℕ) → Totals
totals_so_far R stream =
    record {
      messages = start_count (lines R stream);
      faults = fault_count (lines R stream);
      octets =
          octets_read stream (cut stream).stop;
    }

-- Whether a stream ends inside a message or a header.
unfoldable pub ends_inside : (current_message : Option CutMessage) (header_octets_held : List ℕ)
    (stop_place_and_fault : Option (ℕ × StreamFault)) → Bool
ends_inside current held stop = is_none stop && (is_some current || nat_lt 0 (length held))

unfoldable pub is_truncated : (cut_stream : Cut) → Bool
is_truncated c = ends_inside c.current c.held c.stop

-- whether a message has its last line
unfoldable pub is_over : (R : Rules) (stream : List ℕ) (message_number : ℕ) → Bool
is_over R stream number = list_any (is_last_line_of number) (lines_of_messages R stream)

-- the numbers of the messages that aren't Fragments
unfoldable pub first_messages : (messages : List CutMessage) → List ℕ
first_messages messages =
    map (λ m. m.number) (filter (λ m. not (is_any_fragment m.header)) messages)

-- the numbers of those that have neither ended nor been faulted or cancelled
unfoldable pub unfinished : (R : Rules) (stream : List ℕ) → List ℕ
unfinished R stream =
    filter (λ i. not (is_over R stream i)) (first_messages (messages (cut stream)))

abbrev pub with_truncated : (truncated : Bool) (totals : Totals) → Totals
with_truncated truncated t = record t { faults = t.faults + (if truncated then 1 else 0) }

-- the totals at the end, with a truncated end counted as a fault
unfoldable pub final : (R : Rules) (stream : List ℕ) → Totals
final R stream = with_truncated (is_truncated (cut stream)) (totals_so_far R stream)

unfoldable pub closing : (R : Rules) (stream : List ℕ) → List ℕ
closing R stream =
    (if is_truncated (cut stream) then truncated_line (length stream) else [])
    ++ (flat_map unfinished_line (unfinished R stream)
    ++ total_line (final R stream).messages (final R stream).faults (final R stream).octets)
