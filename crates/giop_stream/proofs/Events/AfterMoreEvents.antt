-- After some more events: the lines of a stream, the messages that are over, and the octets kept of
-- the others.
use Rattle.std.proofs.Common.{arith, ◌≡◌, ℕ, suc, ◌+◌, ◌≤◌, Bool, true, false, List, [], ◌++◌, length, refl, ap, Option, Some, None, length-append}
use Rattle.std.specs.Prelude.{if◌then◌else◌, ◌||◌}
use Rattle.std.specs.List.{list_any, AllByRecursion as Each}
use Rattle.std.proofs.lemmas.List.{append-nil}
use Rattle.std.proofs.lemmas.List.Elements.{filter-append}
use Rattle.giop_checkpoint.specs.declared.fault.StreamFault.{StreamFault}
use Rattle.giop_stream.specs.Rules.{Rules}
use Rattle.giop_stream.specs.Framing.{cut}
use Rattle.giop_message.specs.MessageReader.{MessageReader, KeepsEarlierLines, UsesPhaseBeforeEnd}
use Rattle.giop_stream.specs.Events.{Event, open_after_events, events, open_after}
use Rattle.giop_stream.specs.Lines.{Kept, StreamLine, kept_of, is_last_line_of, lines_of_events, by_class, in_order, lines_of_messages, stop_line, lines}
use Rattle.giop_stream.specs.Stream.{fault_count, is_over}
use Rattle.giop_stream.specs.OpenSlots.{known_of}
use Rattle.giop_stream.specs.Effects.{kept_unless_ended}
use Rattle.giop_stream.proofs.StreamLines.EventsTogether.{kept_through, sorted_lines}
use Rattle.giop_stream.proofs.Lists.{any_append}
use Rattle.giop_stream.proofs.Events.KeptEvents.{opened_append}
use Rattle.giop_stream.proofs.StreamLines.LinesOfOctet.{keeping_through, lines_so_far, lines_so_far_each, lines_of_events_each, lines_grow, in_order_grows, in_order_idle, standing_append, keeping, standing_all_lines}

-- What holds after these events, if it is known what holds before them.
line_places : (R : MessageReader) (es : List Event) (n : ℕ) →
    Each (λ e. e.place ≤ n) es → Each (λ l. l.place ≤ n) (lines_of_events R es [] es)
line_places R es n h = lines_of_events_each R (λ k. k ≤ n) es [] es h

pub message_lines_grow : (R : Rules) → KeepsEarlierLines R.reading → UsesPhaseBeforeEnd R.reading →
    (p p' : List ℕ) (es : List Event) → length p' ≡ suc (length p)
    → events R p' ≡ events R p ++ es → Each (λ e. e.place ≤ length p) (events R p) →
    Each (λ e. e.place ≡ suc (length p)) es
    → lines_of_messages R p' ≡ lines_of_messages R p ++ sorted_lines R.reading (known_of R p) es
unfolding lines_of_messages sorted_lines is_over known_of keeping
message_lines_grow R causal phased p p' es len ev old new =
    let none : ℕ → Bool = λ i. false in
    let before = lines_of_events R.reading (events R p) [] (events R p) in
    let more = lines_so_far R.reading (events R p) es in
    rw (
      ev,
      len,
      lines_grow R.reading causal phased (events R p) es,
      in_order_grows (length p) before more
          (line_places R.reading (events R p) (length p) old)
          (lines_so_far_each R.reading (λ k. k ≡ suc (length p)) (events R p) es new),
      standing_append none (in_order (length p) before)
          (by_class more),
    )
    (ap (λ (ls : List StreamLine). lines_of_messages R p ++ ls)
    (standing_all_lines R.reading (is_over R p) (events R p) es))

pub message_lines_same : (R : Rules) (p p' : List ℕ) →
    length p' ≡ suc (length p) → events R p' ≡ events R p
    → Each (λ e. e.place ≤ length p) (events R p) →
    lines_of_messages R p' ≡ lines_of_messages R p
unfolding lines_of_messages
message_lines_same R p p' len ev old =
    rw (
      ev,
      len,
      in_order_idle (length p) (lines_of_events R.reading (events R p) []
          (events R p)) (line_places R.reading (events R p) (length p) old),
    ) refl

over_by : (over again : Bool) (k : Kept) → (if over || again then None else Some k)
    ≡ (if again then None else if over then None else Some k)
over_by true true k = refl
over_by true false k = refl
over_by false true k = refl
over_by false false k = refl

pub known_grow : (R : Rules) (p p' : List ℕ) (es : List Event) (ls : List StreamLine) →
    events R p' ≡ events R p ++ es
    → lines_of_messages R p' ≡ lines_of_messages R p ++ ls → (i : ℕ) →
    known_of R p' i ≡ kept_unless_ended (kept_through (known_of R p) es) ls i
unfolding known_of is_over kept_unless_ended keeping
known_grow R p p' es ls ev sd i =
    rw (ev, sd, keeping_through (is_over R p) (events R p) es i, any_append)
    (over_by (is_over R p i) (list_any (is_last_line_of i) ls) (kept_of i (events R p ++ es)))

pub known_idle : (R : Rules) (p p' : List ℕ) → events R p' ≡ events R p →
    lines_of_messages R p' ≡ lines_of_messages R p → (i : ℕ) → known_of R p' i ≡ known_of R p i
unfolding known_of is_over
known_idle R p p' ev sd i = rw (ev, sd) refl

pub open_grows : (R : Rules) (p p' : List ℕ) (es : List Event) → events R p' ≡ events R p
    ++ es → open_after R p' ≡ open_after_events (open_after R p) es
unfolding open_after
open_grows R p p' es ev = search (arith, opened_append)

pub open_idle : (R : Rules) (p p' : List ℕ) → events R p' ≡ events R p →
    open_after R p' ≡ open_after R p
unfolding open_after
open_idle R p p' ev = rw ev refl

pub count_append : (xs ys : List StreamLine) → fault_count (xs ++ ys) ≡ fault_count xs +
    fault_count ys
unfolding fault_count
count_append xs ys = search (arith, filter-append, length-append)

pub lines_free : (R : Rules) (p : List ℕ) → (cut p).stop ≡ None → lines R p ≡ lines_of_messages R p
unfolding lines stop_line
lines_free R p e = search (arith, append-nil)

pub lines_stopped : (R : Rules) (p : List ℕ) (o : Option (ℕ × StreamFault)) → (cut p).stop ≡ o →
    lines R p ≡ lines_of_messages R p ++ stop_line o
unfolding lines
lines_stopped R p o e = rw (lines, e) refl
