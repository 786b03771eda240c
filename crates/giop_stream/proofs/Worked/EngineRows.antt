-- The steps on example streams. Run from the fresh state, they write the text that the definitions
-- give, and the state then gives the closing of the stream. Each row holds by computation, with the
-- small reader of `Rows`.
use Rattle.std.proofs.Common.{arith, ◌≡◌, ℕ}
use Rattle.giop_stream.specs.Rules.{Rules}
use Rattle.giop_stream.specs.Text.{lines_text}
use Rattle.giop_stream.specs.OpenSlots.{slots_of, is_open, before_in, unfinished_number}
use Rattle.giop_stream.specs.Effects.{lines_at, tracked_after_event, effects, lines_for, kept_with, kept_unless_ended}
use Rattle.giop_stream.specs.Events.{own_event, event_of_open, open_message_1_1, ends_joining, header_events, payload_events, naming_events, message_end_events, events_with_key}
use Rattle.giop_stream.specs.Octet.{octet_in}
use Rattle.giop_stream.specs.EngineStep.{fresh_state, kind_of_octet, key_of, open_message_for, events_at, message_octet_step, stream_fault_step, header_octet_step, step, lines_of_run, run_state, unfinished_current, unfinished_numbers, is_cut_short, final_totals, text_at_finish}
use Rattle.giop_stream.proofs.Worked.Rows.{Example, small, rows, interleaved, id_alone, too_short, not_open, twice, too_many, cancelled, old_fragment, early_fragment, unknown_type, no_room, other_order, order_at_close, order_then_close, cancelled_early, short_fragment, joining, old_joined, old_mixed, old_cancelled}

record Runs (R : Rules) (example : Example) : Type 0 where
  text : lines_text (lines_of_run R (fresh_state R) example.octets) ≡ example.lines
  closing : text_at_finish (run_state R (fresh_state R) example.octets) ≡ example.closing

unfoldable pub runs : ℕ
unfolding slots_of is_open before_in open_message_1_1 ends_joining lines_for kept_with
    kept_unless_ended unfinished_number lines_at
    tracked_after_event effects octet_in own_event event_of_open header_events payload_events
    naming_events
    message_end_events events_with_key fresh_state kind_of_octet key_of open_message_for events_at
    message_octet_step stream_fault_step
    header_octet_step step lines_of_run run_state unfinished_current unfinished_numbers is_cut_short
    final_totals text_at_finish
runs = 0

interleaved_runs : Runs (small 0) interleaved
unfolding rows runs interleaved
interleaved_runs = search (arith)

id_alone_runs : Runs (small 0) id_alone
unfolding rows runs id_alone
id_alone_runs = search (arith)

too_short_runs : Runs (small 46) too_short
unfolding rows runs too_short
too_short_runs = search (arith)

not_open_runs : Runs (small 0) not_open
unfolding rows runs not_open
not_open_runs = search (arith)

twice_runs : Runs (small 0) twice
unfolding rows runs twice
twice_runs = search (arith)

too_many_runs : Runs (small 0) too_many
unfolding rows runs too_many
too_many_runs = search (arith)

cancelled_runs : Runs (small 0) cancelled
unfolding rows runs cancelled
cancelled_runs = search (arith)

old_fragment_runs : Runs (small 0) old_fragment
unfolding rows runs old_fragment
old_fragment_runs = search (arith)

early_fragment_runs : Runs (small 0) early_fragment
unfolding rows runs early_fragment
early_fragment_runs = search (arith)

unknown_type_runs : Runs (small 0) unknown_type
unfolding rows runs unknown_type
unknown_type_runs = search (arith)

no_room_runs : Runs (small 0) no_room
unfolding rows runs no_room
no_room_runs = search (arith)

other_order_runs : Runs (small 0) other_order
unfolding rows runs other_order
other_order_runs = search (arith)

order_at_close_runs : Runs (small 0) order_at_close
unfolding rows runs order_at_close
order_at_close_runs = search (arith)

order_then_close_runs : Runs (small 0) order_then_close
unfolding rows runs order_then_close
order_then_close_runs = search (arith)

cancelled_early_runs : Runs (small 0) cancelled_early
unfolding rows runs cancelled_early
cancelled_early_runs = search (arith)

short_fragment_runs : Runs (small 5) short_fragment
unfolding rows runs short_fragment
short_fragment_runs = search (arith)

old_joined_runs : Runs joining old_joined
unfolding rows runs old_joined
old_joined_runs = search (arith)

old_mixed_runs : Runs joining old_mixed
unfolding rows runs old_mixed
old_mixed_runs = search (arith)

old_cancelled_runs : Runs joining old_cancelled
unfolding rows runs old_cancelled
old_cancelled_runs = search (arith)
