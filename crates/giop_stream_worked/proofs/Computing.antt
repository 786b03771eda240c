-- The lines and the closing of each worked stream, and the checkpoints without a record, by
-- computation.
use Rattle.std.proofs.Common.{◌≡◌, ℕ, zero, suc, false, true, nat_lt, List, [], ◌∷◌, None, Some, arith, refl}
use Rattle.std.specs.List.{list_all}
use Rattle.std.proofs.lemmas.Bool.{ltb-true, and_parts}
use Rattle.std.specs.Fmt.{digits}
use Rattle.giop_cdr.specs.Alignment.{padding}
use Rattle.giop_cdr.specs.Numbers.{num, twos_complement, AreOctets}
use Rattle.giop_octets.specs.Fields.{four, eight}
use Rattle.giop_checkpoint.specs.Fixed.{magic, counts_octets, state_octets, fixed_octets}
use Rattle.giop_print.specs.Text.{hex, hex_number, escaped}
use Rattle.giop_print.specs.Lines.{type_word, continues_line, cancelled_line, fault_line, stream_fault_line, unfinished_line, total_line}
use Rattle.giop_print.specs.Lines as print
use Rattle.giop_sig.specs.Trees.{tree_at, has_wide_text_within}
use Rattle.giop_sig.specs.AnyTypes.{any_types, version_3_types}
use Rattle.giop_sig.specs.Builtin.{builtin_types}
use Rattle.giop_decode.specs.Pieces.{block, number}
use Rattle.giop_decode.specs.Spelling.{path_text}
use Rattle.giop_message.specs.Headers.{minor, kind, order, has_more, size, may_be_fragmented, is_opener_1_2, is_fragment_1_2, is_cancel_request}
use Rattle.giop_message.specs.Text.{numbered_line, value_line_text, call_text, rest_text}
use Rattle.giop_message.specs.Signatures.{signatures_of}
use Rattle.giop_message.specs.Messages as one
use Rattle.giop_message.specs.Messages.{line_at, is_graphic_name, call_line_if_named, call_lines_after, with_front, section_then, read_rest_in_parts, read_rest, read_typed, read_typed_if_some, members_of, read_after_exception, read_body, typed_if_some, request_body, result_body, reply_body, locate_body, is_request, body_of, has_aligned_body, read_padding_and_body, read_after_header, read_header_and_rest, read_message, body_may_be_missing, lines_of_close, message_lines, message_marks, stage_of}
use Rattle.giop_message.specs.ReaderOfTable.{line_class_of, text_of, timed_lines_by, lines_of_close_by}
use Rattle.giop_sig.specs.Interfaces.{longest_front}
use Rattle.giop_stream.specs.HeaderOctets.{fronts, last_octet_fault, first_front_fault, first_wrong_octet}
use Rattle.giop_stream.specs.Framing.{with_first, cut_from, limit, limited, cut, messages, octets_read}
use Rattle.giop_stream.specs.Kinds.{is_opener_1_1, is_fragment_1_1, is_fragmented_1_1, has_fragments, is_any_fragment, lookup_offset, is_too_short_for_id, may_be_cancelled, header_fault}
use Rattle.giop_stream.specs.Events.{place, own_event, event_of_open, open_message_1_1, id, key, opener_of, is_named_fragment, has_joined_octets, events_of_octet, events_of, open_after_event, open_after_events, before_by, events_from, events, open_after, octets_of_event, joined_octets, phase_from, phase_of, ends_joining, has_ended, header_events, payload_events, naming_events, message_end_events}
use Rattle.giop_stream.specs.Rules.{asks_by}
use Rattle.giop_stream.specs.Lines.{classes, line, lines_of_event, lines_of_events, by_class, in_order, is_last_line_of, up_to_last_line, lines_of_messages, stop_line, lines}
use Rattle.giop_stream.specs.Text.{start_line, lines_text}
use Rattle.giop_stream.specs.Stream.{text, start_count, fault_count, totals_so_far, ends_inside, is_truncated, is_over, first_messages, unfinished, final, closing}
use Rattle.giop_checkpoint.specs.declared.fault.StreamFault.TheVariants.{Magic}
use Rattle.giop_checkpoint.specs.declared.layout.Layout.TheVariants.{Second, Third}
use Rattle.giop_stream.specs.declared.slots.Slots.{Slots}
use Rattle.giop_stream.specs.declared.slots.PayloadOwner.TheVariants as owners
use Rattle.giop_stream.specs.OpenSlots.{known_of, slots_of, tracked_after}
use Rattle.giop_stream.specs.EngineView.{FramingView}
use Rattle.giop_stream.specs.EngineState.{owner_of_next, state_of}
use Rattle.giop_stream.specs.ViewOfState.{payload_count_in}
use Rattle.giop_stream.specs.Checkpoint.{counts_of, fixed_of, checkpoint_octets}
use Rattle.giop_stream_worked.specs.Worked.{digit, hex_octets, hex_stream, with_line_feeds, read_by, operation_of_structs, table_of, builtin, put_table, big_table, tri_table, late_exception, ask_table, ask_requests}
use Rattle.giop_stream_worked.specs.Streams.{CloseConnection, LittleRequest, Interleaved, JoinedFragment, SameIdTwice, OneMayBeOpen, Cancelled, Replied, Raised, CodeSets, CodeSetsCutShort, Profile}
use Rattle.giop_stream_worked.specs.Checkpoints.{five_octets, one_in_payload, bad_magic, CheckpointInHeader, CheckpointInLayout2, CheckpointInPayload, CheckpointAfterFault}

-- a name for the list of the definitions that are unfolded to read one message
unfoldable pub one_message : ℕ
unfolding digits num twos_complement padding block number path_text hex hex_number escaped tree_at
    has_wide_text_within builtin_types any_types version_3_types minor kind order value_line_text
    call_text rest_text
    signatures_of line_at is_graphic_name call_line_if_named call_lines_after one.section_lines
    with_front section_then read_rest_in_parts
    read_rest read_typed read_typed_if_some members_of read_after_exception read_body typed_if_some
    request_body result_body
    reply_body locate_body is_request body_of has_aligned_body read_padding_and_body
    read_after_header read_header_and_rest read_message
    body_may_be_missing lines_of_close message_lines message_marks stage_of line_class_of text_of
    timed_lines_by
    lines_of_close_by longest_front
one_message = 0

-- a name for the list of the definitions that are unfolded to cut a stream and to write its lines
unfoldable pub a_stream : ℕ
unfolding type_word print.start_line continues_line cancelled_line fault_line stream_fault_line
    unfinished_line total_line fronts last_octet_fault first_front_fault first_wrong_octet has_more
    size with_first
    cut_from limit limited cut messages octets_read start_line numbered_line ends_inside
    is_truncated
    may_be_fragmented is_opener_1_2 is_fragment_1_2 is_cancel_request is_opener_1_1 is_fragment_1_1
    is_fragmented_1_1
    has_fragments is_any_fragment lookup_offset is_too_short_for_id may_be_cancelled header_fault
    place own_event
    event_of_open open_message_1_1 id key opener_of is_named_fragment has_joined_octets
    header_events payload_events
    naming_events message_end_events events_of_octet events_of open_after_event open_after_events
    before_by events_from
    events open_after octets_of_event joined_octets phase_from phase_of ends_joining has_ended
    asks_by classes line
    lines_of_event lines_of_events by_class in_order is_last_line_of up_to_last_line
    lines_of_messages
    stop_line lines lines_text text start_count fault_count totals_so_far is_over first_messages
    unfinished
    final closing
a_stream = 0

-- a name for the list of the definitions in which the rows are stated
unfoldable pub told_with : ℕ
unfolding digit hex_octets hex_stream with_line_feeds read_by operation_of_structs table_of builtin
    put_table big_table tri_table late_exception ask_table ask_requests
told_with = 0

pub close_connection : CloseConnection
unfolding one_message a_stream told_with
close_connection = record { text = refl; closing = refl }

pub little_request : LittleRequest
unfolding one_message a_stream told_with
little_request = record { text = refl; closing = refl }

pub interleaved : Interleaved
unfolding one_message a_stream told_with
interleaved = record { text = refl; closing = refl }

pub joined_old : JoinedFragment
unfolding one_message a_stream told_with
joined_old = record { text = refl; closing = refl }

pub open_twice : SameIdTwice
unfolding one_message a_stream told_with
open_twice = record { text = refl; closing = refl }

pub one_open : OneMayBeOpen
unfolding one_message a_stream told_with
one_open = record { text = refl; closing = refl }

pub cancelled : Cancelled
unfolding one_message a_stream told_with
cancelled = record { text = refl; closing = refl }

pub replied : Replied
unfolding one_message a_stream told_with
replied = record { text = refl; closing = refl }

pub raised : Raised
unfolding one_message a_stream told_with
raised = record { text = refl; closing = refl }

pub code_sets : CodeSets
unfolding one_message a_stream told_with
code_sets = record { text = refl; closing = refl }

pub code_sets_cut_short : CodeSetsCutShort
unfolding one_message a_stream told_with
code_sets_cut_short = record { text = refl; closing = refl }

pub profile : Profile
unfolding one_message a_stream told_with
profile = record { text = refl; closing = refl }

-- ---- Checkpoints.

-- a name for the list of the definitions that give the octets of a checkpoint
unfoldable pub a_checkpoint : ℕ
unfolding four eight magic counts_octets state_octets fixed_octets counts_of fixed_of
    checkpoint_octets known_of slots_of tracked_after owner_of_next state_of payload_count_in
    five_octets one_in_payload bad_magic
a_checkpoint = 0

-- each of the numbers is below 256
pub are_octets : (xs : List ℕ) → list_all (λ x. nat_lt x 256) xs ≡ true → AreOctets xs
are_octets [] h k d below = absurd (omega (arith, below))
are_octets (x ∷ xs) h zero d below = ltb-true x 256
    (and_parts (nat_lt x 256) (list_all (λ y. nat_lt y 256) xs) h).0
are_octets (x ∷ xs) h (suc k) d below =
    are_octets xs (and_parts (nat_lt x 256) (list_all (λ y. nat_lt y 256) xs) h).1 k d
    (omega (arith, below))

-- slots without a message, if this many messages may be open, and Fragments of 1.1 aren't joined
no_messages : ℕ → Slots
no_messages most = record {
  slots = record { most = most; entries = [] };
  owner = owners.Current None false;
  is_mixed = true;
}

-- the fields of the engine after each stream
in_header : FramingView
in_header = record {
  totals = record { messages = 0; faults = 0; octets = 5 };
  stopped = None;
  header = 71 ∷ 73 ∷ 79 ∷ 80 ∷ 1 ∷ [];
  payload_count = 0;
  slots = no_messages 16;
}

in_payload : FramingView
in_payload = record {
  totals = record { messages = 1; faults = 1; octets = 13 };
  stopped = None;
  header = 71 ∷ 73 ∷ 79 ∷ 80 ∷ 1 ∷ 0 ∷ 0 ∷ 7 ∷ 0 ∷ 0 ∷ 0 ∷ 4 ∷ [];
  payload_count = 1;
  slots = no_messages 1;
}

stopped_view : FramingView
stopped_view = record {
  totals = record { messages = 1; faults = 1; octets = 15 };
  stopped = Some Magic;
  header = [];
  payload_count = 0;
  slots = no_messages 4096;
}

pub in_a_header : CheckpointInHeader
unfolding one_message a_stream told_with a_checkpoint no_messages in_header
in_a_header = record {
  layout = Third;
  is_read = refl;
  memory = in_header;
  entries = [];
  octets_are = refl;
  allows = (omega arith, omega arith);
  limit = refl;
  entries_are = tt;
  stream = are_octets five_octets refl;
  shows = record {
    totals = refl;
    stopped = refl;
    header = refl;
    payload_count = refl;
    slots = record { slots = tt; mixed = refl; owner = refl };
  };
  ready = record { current_ready = tt; each_ready = tt };
}

pub in_an_old_header : CheckpointInLayout2
unfolding one_message a_stream told_with a_checkpoint no_messages in_header
in_an_old_header = record {
  layout = Second;
  is_read = refl;
  memory = in_header;
  entries = [];
  octets_are = refl;
  allows = refl;
  limit = refl;
  entries_are = tt;
  stream = are_octets five_octets refl;
  shows = record {
    totals = refl;
    stopped = refl;
    header = refl;
    payload_count = refl;
    slots = record { slots = tt; mixed = refl; owner = refl };
  };
  ready = record { current_ready = tt; each_ready = tt };
}

pub in_a_payload : CheckpointInPayload
unfolding one_message a_stream told_with a_checkpoint no_messages in_payload
in_a_payload = record {
  layout = Third;
  is_read = refl;
  memory = in_payload;
  entries = [];
  octets_are = refl;
  allows = (omega arith, omega arith);
  limit = refl;
  entries_are = tt;
  stream = are_octets one_in_payload refl;
  shows = record {
    totals = refl;
    stopped = refl;
    header = refl;
    payload_count = refl;
    slots = record { slots = tt; mixed = refl; owner = (tt, tt) };
  };
  ready = record { current_ready = tt; each_ready = tt };
}

pub after_a_fault : CheckpointAfterFault
unfolding one_message a_stream told_with a_checkpoint no_messages stopped_view
after_a_fault = record {
  layout = Third;
  is_read = refl;
  memory = stopped_view;
  entries = [];
  octets_are = refl;
  allows = (omega arith, omega arith);
  limit = refl;
  entries_are = tt;
  stream = are_octets bad_magic refl;
  shows = record {
    totals = refl;
    stopped = refl;
    header = refl;
    payload_count = refl;
    slots = record { slots = tt; mixed = refl; owner = refl };
  };
  ready = record { current_ready = tt; each_ready = tt };
}
