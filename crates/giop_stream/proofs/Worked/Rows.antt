-- The definitions on example streams with fragments: the text, and what is written at the end. Each
-- row holds by computation, with a small reader: it gives a line for the request id, and at the
-- close a line for the octets after it. `giop_stream_worked` has streams that are read by the reader
-- of messages itself.
use Rattle.std.proofs.Common.{arith, ◌≡◌, ℕ, ◌+◌, ◌-◌, ◌*◌, Bool, true, false, List, [], ◌∷◌, ◌++◌, length, take, drop, Some, None, codes}
use Rattle.std.specs.Prelude.{nat_le, nat_lt, ◌==◌, if◌then◌else◌, ◌&&◌}
use Rattle.std.specs.Fmt.{decimal, digits}
use Rattle.giop_cdr.specs.Numbers.{num}
use Rattle.giop_print.specs.Text.{hex}
use Rattle.giop_print.specs.Text as print_text
use Rattle.giop_print.specs.Lines.{type_word, continues_line, cancelled_line, fault_line, stream_fault_line, unfinished_line, total_line}
use Rattle.giop_print.specs.Lines as print
use Rattle.giop_stream.specs.Rules.{RequestIds, Rules}
use Rattle.giop_stream.specs.HeaderOctets.{fronts, last_octet_fault, first_front_fault, first_wrong_octet}
use Rattle.giop_message.specs.Headers.{minor, kind, order, has_more, size, may_be_fragmented, is_opener_1_2, is_fragment_1_2, is_cancel_request, begins_with_request_id}
use Rattle.giop_stream.specs.Framing.{with_first, cut_from, limit, limited, cut, messages, octets_read}
use Rattle.giop_message.specs.MessageReader.{LineClass, Value, Rest, Fault, End, TimedLine, MessageReader}
use Rattle.giop_stream.specs.Text.{start_line}
use Rattle.giop_message.specs.Text.{numbered_line, rest_text}
use Rattle.giop_stream.specs.Stream.{ends_inside, is_truncated}
use Rattle.giop_stream.specs.Kinds.{is_opener_1_1, is_fragment_1_1, is_fragmented_1_1, has_fragments, is_any_fragment, lookup_offset, is_too_short_for_id, may_be_cancelled, header_fault}
use Rattle.giop_stream.specs.Events.{place, own_event, event_of_open, open_message_1_1, id, key, opener_of, is_named_fragment, has_joined_octets, events_of_octet, events_of, open_after_event, open_after_events, before_by, events_from, events, open_after, octets_of_event, joined_octets, phase_from, phase_of, ends_joining, has_ended, header_events, payload_events, naming_events, message_end_events}
use Rattle.giop_stream.specs.Lines.{classes, line, lines_of_event, lines_of_events, by_class, in_order, is_last_line_of, up_to_last_line, lines_of_messages, stop_line, lines}
use Rattle.giop_stream.specs.Text.{lines_text}
use Rattle.giop_stream.specs.Stream.{text, start_count, fault_count, totals_so_far, is_over, first_messages, unfinished, final, closing}

-- ---- The small reader, and streams in hexadecimal digits with spaces.

-- the text of a request id's line
unfoldable pub id_text : (id : ℕ) → List ℕ
id_text id = print_text.joined (codes "header.request_id ulong " ∷ decimal id ∷ [])

-- A message that begins with its request id; if it has fewer than `least` octets, it is short.
unfoldable pub named_reads : (header octets : List ℕ) → List TimedLine
named_reads header xs = if begins_with_request_id header
    && nat_le 4 (length xs) then record {
      at = 4;
      line_class = Value;
      text =
          id_text (num (order header) (take 4 xs));
    } ∷ [] else []

unfoldable pub line_of_rest : (octets : List ℕ) → List (LineClass × List ℕ)
line_of_rest [] = []
line_of_rest (x ∷ xs) = (Rest, rest_text 0 (x ∷ xs)) ∷ []

unfoldable pub named_closes : (least : ℕ) (header octets : List ℕ) → List (LineClass × List ℕ)
named_closes least header xs = if nat_lt (length xs) least then (Fault, codes "short") ∷ [] else
    line_of_rest (drop 4 xs) ++ (End, codes "end") ∷ []

unfoldable pub small_reading : (least : ℕ) → MessageReader
small_reading least = record {
  reads = λ phase number. named_reads;
  closes =
      λ phase number. named_closes least;
}

-- the request id of any message, as if it began with it
unfoldable pub first_id : RequestIds
first_id phase number header xs =
    if nat_le 4 (length xs) then Some (num (order header) (take 4 xs)) else None

-- the rules with the small reader; 16 messages may be open
unfoldable pub small_rules : (least : ℕ) (joins : Bool) → Rules
small_rules least joins =
    record { reading = small_reading least; asks = first_id; most = 16; joins = joins }

abbrev pub small : (least : ℕ) → Rules
small least = small_rules least false

-- the same, by which Fragments of 1.1 are joined
abbrev pub joining : Rules
joining = small_rules 0 true

unfoldable pub digit : (c : ℕ) → ℕ
digit c = if nat_lt c 58 then c - 48 else c - 87

-- the octets that hexadecimal digits spell, with spaces between them
unfoldable pub octets_in : (octets : List ℕ) → List ℕ
octets_in (a ∷ (b ∷ more)) =
    if a == 32 then octets_in (b ∷ more) else (16 * digit a + digit b) ∷ octets_in more
octets_in _ = []

-- the octets that several texts spell, one after another
unfoldable pub octets_of : (parts : List (List ℕ)) → List ℕ
octets_of [] = []
octets_of (part ∷ parts) = octets_in part ++ octets_of parts

-- the octets of lines, each with its line feed
unfoldable pub written : (lines : List (List ℕ)) → List ℕ
written [] = []
written (line ∷ lines) = line ++ 10 ∷ written lines

-- a stream, its lines, and what is written at its end
pub record Example : Type 0 where
  pub octets : List ℕ
  pub lines : List ℕ
  pub closing : List ℕ

record Writes (R : Rules) (example : Example) : Type 0 where
  text : text R example.octets ≡ example.lines
  closing : closing R example.octets ≡ example.closing

-- a name for the list of the definitions that the rows unfold
unfoldable pub rows : ℕ
unfolding named_reads line_of_rest named_closes small_reading first_id small_rules digit octets_in
    octets_of written digits num hex type_word print.start_line continues_line cancelled_line
    fault_line stream_fault_line unfinished_line total_line fronts last_octet_fault
    first_front_fault
    first_wrong_octet minor kind order has_more size with_first cut_from limit limited cut messages
    octets_read start_line numbered_line id_text rest_text ends_inside is_truncated
    may_be_fragmented
    is_opener_1_2 is_fragment_1_2 is_cancel_request is_opener_1_1 is_fragment_1_1 is_fragmented_1_1
    has_fragments
    is_any_fragment lookup_offset is_too_short_for_id may_be_cancelled header_fault place own_event
    event_of_open open_message_1_1
    id key opener_of is_named_fragment has_joined_octets header_events payload_events naming_events
    message_end_events events_of_octet events_of open_after_event open_after_events before_by
    events_from events
    open_after octets_of_event joined_octets phase_from phase_of ends_joining has_ended classes line
    lines_of_event
    lines_of_events by_class in_order is_last_line_of up_to_last_line lines_of_messages stop_line
    lines
    lines_text text start_count fault_count totals_so_far is_over first_messages unfinished final
    closing
rows = 0

-- ---- The rows.

-- two messages in fragments, interleaved
unfoldable pub interleaved : Example
interleaved = record {
  octets =
      octets_of (codes "47494f50 0102 02 00 00000028"
      ∷ codes "00000005 03 000000 0000 0000 00000001 41 000000 00000004 626967 00 00000000"
      ∷ codes "00000000 01020304"
      ∷ codes "47494f50 0102 02 00 00000024"
      ∷ codes "00000006 03 000000 0000 0000 00000001 41 000000 00000004 6e6f70 00 00000000"
      ∷ codes "00000000"
      ∷ codes "47494f50 0102 02 07 00000006 00000005 0506"
      ∷ codes "47494f50 0102 00 07 00000004 00000006"
      ∷ codes "47494f50 0102 00 07 00000006 00000005 0708"
      ∷ []);
  lines =
      written (codes "m1 start 1.2 big Request size 40 more"
      ∷ codes "m1 header.request_id ulong 5"
      ∷ codes "m2 start 1.2 big Request size 36 more"
      ∷ codes "m2 header.request_id ulong 6"
      ∷ codes "m3 start 1.2 big Fragment size 6 more"
      ∷ codes "m3 header.request_id ulong 5"
      ∷ codes "m3 continues m1"
      ∷ codes "m4 start 1.2 big Fragment size 4"
      ∷ codes "m4 header.request_id ulong 6"
      ∷ codes "m4 continues m2"
      ∷ codes "m2 rest @0 03000000000000000000000141000000000000046e6f70000000000000000000"
      ∷ codes "m2 end"
      ∷ codes "m5 start 1.2 big Fragment size 6"
      ∷ codes "m5 header.request_id ulong 5"
      ∷ codes "m5 continues m1"
      ∷ (codes "m1 rest @0 030000000000000000000001410000000000000462696700"
      ++ codes "00000000000000000102030405060708")
      ∷ codes "m1 end"
      ∷ []);
  closing = written (codes "total messages 5 faults 0 octets 152" ∷ []);
}

interleaved_row : Writes (small 0) interleaved
unfolding rows interleaved
interleaved_row = search (arith)

-- a message whose first part has only its request id
unfoldable pub id_alone : Example
id_alone = record {
  octets =
      octets_of (codes "47494f50 0102 02 00 00000004 00000008"
      ∷ codes "47494f50 0102 00 07 00000020"
      ∷ codes "00000008 03 000000 0000 0000 00000001 41 000000 00000004 6e6f70 00 00000000"
      ∷ []);
  lines =
      written (codes "m1 start 1.2 big Request size 4 more"
      ∷ codes "m1 header.request_id ulong 8"
      ∷ codes "m2 start 1.2 big Fragment size 32"
      ∷ codes "m2 header.request_id ulong 8"
      ∷ codes "m2 continues m1"
      ∷ codes "m1 rest @0 03000000000000000000000141000000000000046e6f700000000000"
      ∷ codes "m1 end"
      ∷ []);
  closing = written (codes "total messages 2 faults 0 octets 60" ∷ []);
}

id_alone_row : Writes (small 0) id_alone
unfolding rows id_alone
id_alone_row = search (arith)

-- a joined message ends too early: a Fragment has no octet for it
unfoldable pub too_short : Example
too_short = record {
  octets =
      octets_of (codes "47494f50 0102 02 00 0000002c"
      ∷ codes "00000009 03 000000 0000 0000 00000001 41 000000 00000004 736179 00 00000000"
      ∷ codes "00000000 00000006 61626364"
      ∷ codes "47494f50 0102 00 07 00000004 00000009"
      ∷ []);
  lines =
      written (codes "m1 start 1.2 big Request size 44 more"
      ∷ codes "m1 header.request_id ulong 9"
      ∷ codes "m2 start 1.2 big Fragment size 4"
      ∷ codes "m2 header.request_id ulong 9"
      ∷ codes "m2 continues m1"
      ∷ codes "m1 fault short at 72"
      ∷ []);
  closing = written (codes "total messages 2 faults 1 octets 72" ∷ []);
}

too_short_row : Writes (small 46) too_short
unfolding rows too_short
too_short_row = search (arith)

-- a Fragment whose request id belongs to no open message
unfoldable pub not_open : Example
not_open = record {
  octets = octets_of (codes "47494f50 0102 00 07 00000006 00000003 abcd" ∷ []);
  lines =
      written (codes "m1 start 1.2 big Fragment size 6"
      ∷ codes "m1 header.request_id ulong 3"
      ∷ codes "m1 fault no-open at 16"
      ∷ []);
  closing = written (codes "total messages 1 faults 1 octets 18" ∷ []);
}

not_open_row : Writes (small 0) not_open
unfolding rows not_open
not_open_row = search (arith)

-- two messages with the same request id
unfoldable pub twice : Example
twice = record {
  octets =
      octets_of (codes "47494f50 0102 02 00 00000004 00000001"
      ∷ codes "47494f50 0102 02 00 00000004 00000001"
      ∷ []);
  lines =
      written (codes "m1 start 1.2 big Request size 4 more"
      ∷ codes "m1 header.request_id ulong 1"
      ∷ codes "m2 start 1.2 big Request size 4 more"
      ∷ codes "m2 header.request_id ulong 1"
      ∷ codes "m2 fault id-open at 32"
      ∷ []);
  closing =
      written (codes "m1 unfinished"
      ∷ codes "total messages 2 faults 1 octets 32"
      ∷ []);
}

twice_row : Writes (small 0) twice
unfolding rows twice
twice_row = search (arith)

-- one more message than may be open, and a Fragment of it
unfoldable pub too_many : Example
too_many = record {
  octets =
      octets_of (codes "47494f50 0102 02 00 00000004 00000001"
      ∷ codes "47494f50 0102 02 00 00000004 00000002"
      ∷ codes "47494f50 0102 02 00 00000004 00000003"
      ∷ codes "47494f50 0102 02 00 00000004 00000004"
      ∷ codes "47494f50 0102 02 00 00000004 00000005"
      ∷ codes "47494f50 0102 02 00 00000004 00000006"
      ∷ codes "47494f50 0102 02 00 00000004 00000007"
      ∷ codes "47494f50 0102 02 00 00000004 00000008"
      ∷ codes "47494f50 0102 02 00 00000004 00000009"
      ∷ codes "47494f50 0102 02 00 00000004 0000000a"
      ∷ codes "47494f50 0102 02 00 00000004 0000000b"
      ∷ codes "47494f50 0102 02 00 00000004 0000000c"
      ∷ codes "47494f50 0102 02 00 00000004 0000000d"
      ∷ codes "47494f50 0102 02 00 00000004 0000000e"
      ∷ codes "47494f50 0102 02 00 00000004 0000000f"
      ∷ codes "47494f50 0102 02 00 00000004 00000010"
      ∷ codes "47494f50 0102 02 00 00000004 00000011"
      ∷ codes "47494f50 0102 00 07 00000004 00000011"
      ∷ []);
  lines =
      written (codes "m1 start 1.2 big Request size 4 more"
      ∷ codes "m1 header.request_id ulong 1"
      ∷ codes "m2 start 1.2 big Request size 4 more"
      ∷ codes "m2 header.request_id ulong 2"
      ∷ codes "m3 start 1.2 big Request size 4 more"
      ∷ codes "m3 header.request_id ulong 3"
      ∷ codes "m4 start 1.2 big Request size 4 more"
      ∷ codes "m4 header.request_id ulong 4"
      ∷ codes "m5 start 1.2 big Request size 4 more"
      ∷ codes "m5 header.request_id ulong 5"
      ∷ codes "m6 start 1.2 big Request size 4 more"
      ∷ codes "m6 header.request_id ulong 6"
      ∷ codes "m7 start 1.2 big Request size 4 more"
      ∷ codes "m7 header.request_id ulong 7"
      ∷ codes "m8 start 1.2 big Request size 4 more"
      ∷ codes "m8 header.request_id ulong 8"
      ∷ codes "m9 start 1.2 big Request size 4 more"
      ∷ codes "m9 header.request_id ulong 9"
      ∷ codes "m10 start 1.2 big Request size 4 more"
      ∷ codes "m10 header.request_id ulong 10"
      ∷ codes "m11 start 1.2 big Request size 4 more"
      ∷ codes "m11 header.request_id ulong 11"
      ∷ codes "m12 start 1.2 big Request size 4 more"
      ∷ codes "m12 header.request_id ulong 12"
      ∷ codes "m13 start 1.2 big Request size 4 more"
      ∷ codes "m13 header.request_id ulong 13"
      ∷ codes "m14 start 1.2 big Request size 4 more"
      ∷ codes "m14 header.request_id ulong 14"
      ∷ codes "m15 start 1.2 big Request size 4 more"
      ∷ codes "m15 header.request_id ulong 15"
      ∷ codes "m16 start 1.2 big Request size 4 more"
      ∷ codes "m16 header.request_id ulong 16"
      ∷ codes "m17 start 1.2 big Request size 4 more"
      ∷ codes "m17 header.request_id ulong 17"
      ∷ codes "m17 fault too-many-open at 272"
      ∷ codes "m18 start 1.2 big Fragment size 4"
      ∷ codes "m18 header.request_id ulong 17"
      ∷ codes "m18 fault no-open at 288"
      ∷ []);
  closing =
      written (codes "m1 unfinished"
      ∷ codes "m2 unfinished"
      ∷ codes "m3 unfinished"
      ∷ codes "m4 unfinished"
      ∷ codes "m5 unfinished"
      ∷ codes "m6 unfinished"
      ∷ codes "m7 unfinished"
      ∷ codes "m8 unfinished"
      ∷ codes "m9 unfinished"
      ∷ codes "m10 unfinished"
      ∷ codes "m11 unfinished"
      ∷ codes "m12 unfinished"
      ∷ codes "m13 unfinished"
      ∷ codes "m14 unfinished"
      ∷ codes "m15 unfinished"
      ∷ codes "m16 unfinished"
      ∷ codes "total messages 18 faults 2 octets 288"
      ∷ []);
}

too_many_row : Writes (small 0) too_many
unfolding rows too_many
too_many_row = search (arith)

-- a CancelRequest closes an open message
unfoldable pub cancelled : Example
cancelled = record {
  octets =
      octets_of (codes "47494f50 0102 02 00 00000004 00000004"
      ∷ codes "47494f50 0102 00 02 00000004 00000004"
      ∷ codes "47494f50 0102 00 07 00000004 00000004"
      ∷ []);
  lines =
      written (codes "m1 start 1.2 big Request size 4 more"
      ∷ codes "m1 header.request_id ulong 4"
      ∷ codes "m2 start 1.2 big CancelRequest size 4"
      ∷ codes "m2 header.request_id ulong 4"
      ∷ codes "m1 cancelled by m2"
      ∷ codes "m2 end"
      ∷ codes "m3 start 1.2 big Fragment size 4"
      ∷ codes "m3 header.request_id ulong 4"
      ∷ codes "m3 fault no-open at 48"
      ∷ []);
  closing = written (codes "total messages 3 faults 1 octets 48" ∷ []);
}

cancelled_row : Writes (small 0) cancelled
unfolding rows cancelled
cancelled_row = search (arith)

-- a message of GIOP 1.1 that has fragments, if those aren't joined
unfoldable pub old_fragment : Example
old_fragment = record {
  octets = octets_of (codes "47494f50 0101 02 00 00000000" ∷ []);
  lines =
      written (codes "m1 start 1.1 big Request size 0 more"
      ∷ codes "m1 fault fragment-1.1 at 12"
      ∷ []);
  closing = written (codes "total messages 1 faults 1 octets 12" ∷ []);
}

old_fragment_row : Writes (small 0) old_fragment
unfolding rows old_fragment
old_fragment_row = search (arith)

-- a Fragment of GIOP 1.0
unfoldable pub early_fragment : Example
early_fragment = record {
  octets = octets_of (codes "47494f50 0100 00 07 00000000" ∷ []);
  lines =
      written (codes "m1 start 1.0 big Fragment size 0"
      ∷ codes "m1 fault message-type at 12"
      ∷ []);
  closing = written (codes "total messages 1 faults 1 octets 12" ∷ []);
}

early_fragment_row : Writes (small 0) early_fragment
unfolding rows early_fragment
early_fragment_row = search (arith)

-- a message type above those of the standard
unfoldable pub unknown_type : Example
unknown_type = record {
  octets = octets_of (codes "47494f50 0102 00 09 00000000" ∷ []);
  lines =
      written (codes "m1 start 1.2 big 9 size 0"
      ∷ codes "m1 fault message-type at 12"
      ∷ []);
  closing = written (codes "total messages 1 faults 1 octets 12" ∷ []);
}

unknown_type_row : Writes (small 0) unknown_type
unfolding rows unknown_type
unknown_type_row = search (arith)

-- a message that has fragments, but no room for its request id
unfoldable pub no_room : Example
no_room = record {
  octets = octets_of (codes "47494f50 0102 02 00 00000002 0000" ∷ []);
  lines =
      written (codes "m1 start 1.2 big Request size 2 more"
      ∷ codes "m1 fault short at 14"
      ∷ []);
  closing = written (codes "total messages 1 faults 1 octets 14" ∷ []);
}

no_room_row : Writes (small 0) no_room
unfolding rows no_room
no_room_row = search (arith)

-- a Fragment in the other byte order, and then one more Fragment
unfoldable pub other_order : Example
other_order = record {
  octets =
      octets_of (codes "47494f50 0102 02 00 00000004 00000005"
      ∷ codes "47494f50 0102 03 07 04000000 05000000"
      ∷ codes "47494f50 0102 00 07 00000004 00000005"
      ∷ []);
  lines =
      written (codes "m1 start 1.2 big Request size 4 more"
      ∷ codes "m1 header.request_id ulong 5"
      ∷ codes "m2 start 1.2 little Fragment size 4 more"
      ∷ codes "m2 header.request_id ulong 5"
      ∷ codes "m2 continues m1"
      ∷ codes "m1 fault fragment-order at 32"
      ∷ codes "m3 start 1.2 big Fragment size 4"
      ∷ codes "m3 header.request_id ulong 5"
      ∷ codes "m3 continues m1"
      ∷ []);
  closing = written (codes "total messages 3 faults 1 octets 48" ∷ []);
}

other_order_row : Writes (small 0) other_order
unfolding rows other_order
other_order_row = search (arith)

-- if the byte order is wrong at the close, the lines of the rest and the end are not written
unfoldable pub order_at_close : Example
order_at_close = record {
  octets =
      octets_of (codes "47494f50 0102 02 00 00000006 00000001 00ab"
      ∷ codes "47494f50 0102 01 07 04000000 01000000"
      ∷ []);
  lines =
      written (codes "m1 start 1.2 big Request size 6 more"
      ∷ codes "m1 header.request_id ulong 1"
      ∷ codes "m2 start 1.2 little Fragment size 4"
      ∷ codes "m2 header.request_id ulong 1"
      ∷ codes "m2 continues m1"
      ∷ codes "m1 fault fragment-order at 34"
      ∷ []);
  closing = written (codes "total messages 2 faults 1 octets 34" ∷ []);
}

order_at_close_row : Writes (small 0) order_at_close
unfolding rows order_at_close
order_at_close_row = search (arith)

-- a last Fragment of the wrong byte order still closes its message
unfoldable pub order_then_close : Example
order_then_close = record {
  octets =
      octets_of (codes "47494f50 0102 02 00 00000004 00000001"
      ∷ codes "47494f50 0102 01 07 06000000 01000000 abcd"
      ∷ codes "47494f50 0102 00 07 00000004 00000001"
      ∷ []);
  lines =
      written (codes "m1 start 1.2 big Request size 4 more"
      ∷ codes "m1 header.request_id ulong 1"
      ∷ codes "m2 start 1.2 little Fragment size 6"
      ∷ codes "m2 header.request_id ulong 1"
      ∷ codes "m2 continues m1"
      ∷ codes "m1 fault fragment-order at 32"
      ∷ codes "m3 start 1.2 big Fragment size 4"
      ∷ codes "m3 header.request_id ulong 1"
      ∷ codes "m3 fault no-open at 50"
      ∷ []);
  closing = written (codes "total messages 3 faults 2 octets 50" ∷ []);
}

order_then_close_row : Writes (small 0) order_then_close
unfolding rows order_then_close
order_then_close_row = search (arith)

-- a CancelRequest closes a message at its request id, not at its own end
unfoldable pub cancelled_early : Example
cancelled_early = record {
  octets =
      octets_of (codes "47494f50 0102 02 00 00000004 00000001"
      ∷ codes "47494f50 0102 00 02 00000006 00000001"
      ∷ []);
  lines =
      written (codes "m1 start 1.2 big Request size 4 more"
      ∷ codes "m1 header.request_id ulong 1"
      ∷ codes "m2 start 1.2 big CancelRequest size 6"
      ∷ codes "m2 header.request_id ulong 1"
      ∷ codes "m1 cancelled by m2"
      ∷ []);
  closing =
      written (codes "stream fault truncated at 32"
      ∷ codes "m2 unfinished"
      ∷ codes "total messages 2 faults 1 octets 32"
      ∷ []);
}

cancelled_early_row : Writes (small 0) cancelled_early
unfolding rows cancelled_early
cancelled_early_row = search (arith)

-- a Fragment without room for its request id closes nothing
unfoldable pub short_fragment : Example
short_fragment = record {
  octets =
      octets_of (codes "47494f50 0102 02 00 00000004 00000001"
      ∷ codes "47494f50 0102 00 07 00000003 000000"
      ∷ codes "47494f50 0102 00 07 00000004 00000001"
      ∷ []);
  lines =
      written (codes "m1 start 1.2 big Request size 4 more"
      ∷ codes "m1 header.request_id ulong 1"
      ∷ codes "m2 start 1.2 big Fragment size 3"
      ∷ codes "m2 fault short at 31"
      ∷ codes "m3 start 1.2 big Fragment size 4"
      ∷ codes "m3 header.request_id ulong 1"
      ∷ codes "m3 continues m1"
      ∷ codes "m1 fault short at 47"
      ∷ []);
  closing = written (codes "total messages 3 faults 2 octets 47" ∷ []);
}

short_fragment_row : Writes (small 5) short_fragment
unfolding rows short_fragment
short_fragment_row = search (arith)

-- ---- Fragments of 1.1 that are joined.

-- a message in two fragments
unfoldable pub old_joined : Example
old_joined = record {
  octets =
      octets_of (codes "47494f50 0101 02 00 00000006 00000001 aabb"
      ∷ codes "47494f50 0101 00 07 00000002 ccdd"
      ∷ []);
  lines =
      written (codes "m1 start 1.1 big Request size 6 more"
      ∷ codes "m2 start 1.1 big Fragment size 2"
      ∷ codes "m2 continues m1"
      ∷ codes "m1 rest @0 aabbccdd"
      ∷ codes "m1 end"
      ∷ []);
  closing = written (codes "total messages 2 faults 0 octets 32" ∷ []);
}

old_joined_row : Writes joining old_joined
unfolding rows old_joined
old_joined_row = search (arith)

-- a second message begins before the first is complete: the Fragment may be of either
unfoldable pub old_mixed : Example
old_mixed = record {
  octets =
      octets_of (codes "47494f50 0101 02 00 00000000"
      ∷ codes "47494f50 0101 02 00 00000000"
      ∷ codes "47494f50 0101 00 07 00000000"
      ∷ []);
  lines =
      written (codes "m1 start 1.1 big Request size 0 more"
      ∷ codes "m2 start 1.1 big Request size 0 more"
      ∷ codes "m2 fault fragment-1.1 at 24"
      ∷ codes "m3 start 1.1 big Fragment size 0"
      ∷ codes "m3 fault fragment-1.1 at 36"
      ∷ []);
  closing =
      written (codes "m1 unfinished"
      ∷ codes "total messages 3 faults 2 octets 36"
      ∷ []);
}

old_mixed_row : Writes joining old_mixed
unfolding rows old_mixed
old_mixed_row = search (arith)

-- a CancelRequest closes a message of 1.1, by the request id that the message has given
unfoldable pub old_cancelled : Example
old_cancelled = record {
  octets =
      octets_of (codes "47494f50 0101 02 00 00000004 00000001"
      ∷ codes "47494f50 0101 00 02 00000004 00000001"
      ∷ codes "47494f50 0101 00 07 00000000"
      ∷ []);
  lines =
      written (codes "m1 start 1.1 big Request size 4 more"
      ∷ codes "m2 start 1.1 big CancelRequest size 4"
      ∷ codes "m2 header.request_id ulong 1"
      ∷ codes "m1 cancelled by m2"
      ∷ codes "m2 end"
      ∷ codes "m3 start 1.1 big Fragment size 0"
      ∷ codes "m3 fault no-open at 44"
      ∷ []);
  closing = written (codes "total messages 3 faults 1 octets 44" ∷ []);
}

old_cancelled_row : Writes joining old_cancelled
unfolding rows old_cancelled
old_cancelled_row = search (arith)
