-- The text of each line, by its place, its number and its content (docs/FORMATS.md, Lines;
-- meaning).
use Rattle.std.specs.Prelude.{ℕ, List, flat_map, codes}
use Rattle.giop_print.specs.Lines.{fault_line, stream_fault_line, continues_line, cancelled_line}
use Rattle.giop_print.specs.Lines as print
use Rattle.giop_checkpoint.specs.declared.fault.StreamFault.{StreamFault}
use Rattle.giop_checkpoint.specs.declared.fault.StreamFault.TheVariants.{Magic, Version, ByteOrder, StreamLimit}
use Rattle.giop_stream.specs.declared.fault.FramingFault.{FramingFault}
use Rattle.giop_stream.specs.declared.fault.FramingFault.TheVariants.{MessageType, OldFragment, Short, NoOpen, IdOpen, TooManyOpen, FragmentOrder}
use Rattle.giop_message.specs.Headers.{minor, order, kind, size, has_more}
use Rattle.giop_message.specs.Text.{line_class_text}
use Rattle.giop_stream.specs.Lines.{Content, Started, Said, ContinuesMessage, CancelledBy, Faulted, Stopped, StreamLine}

abbrev pub stream_word : (fault : StreamFault) → List ℕ
stream_word Magic = codes "magic"
stream_word Version = codes "version"
stream_word ByteOrder = codes "byte-order"
stream_word StreamLimit = codes "stream-limit"

-- the start line of a message with this header
unfoldable pub start_line : (number : ℕ) (header : List ℕ) → List ℕ
start_line number header =
    print.start_line number (minor header) (order header) (kind header) (size header)
    (has_more header)

abbrev pub stop_text : (fault : StreamFault) (place_in_stream_from_1 : ℕ) → List ℕ
stop_text fault place = stream_fault_line (stream_word fault) place

abbrev pub truncated_line : (place_in_stream_from_1 : ℕ) → List ℕ
truncated_line place = stream_fault_line (codes "truncated") place

abbrev pub framing_fault_word : (fault : FramingFault) → List ℕ
framing_fault_word MessageType = codes "message-type"
framing_fault_word OldFragment = codes "fragment-1.1"
framing_fault_word Short = codes "short"
framing_fault_word NoOpen = codes "no-open"
framing_fault_word IdOpen = codes "id-open"
framing_fault_word TooManyOpen = codes "too-many-open"
framing_fault_word FragmentOrder = codes "fragment-order"

abbrev pub content_line : (place_in_stream_from_1 message_number : ℕ) (content : Content) → List ℕ
content_line place number (Started header) = start_line number header
content_line place number (Said line_class text) = line_class_text place number line_class text
content_line place number (ContinuesMessage i) = continues_line number i
content_line place number (CancelledBy j) = cancelled_line number j
content_line place number (Faulted fault) = fault_line number (framing_fault_word fault) place
content_line place number (Stopped fault) = stop_text fault place

abbrev pub line_text : (line : StreamLine) → List ℕ
line_text l = content_line l.place l.number l.content

unfoldable pub lines_text : (lines : List StreamLine) → List ℕ
lines_text lines = flat_map line_text lines
