-- The empty stream: its cut, events, lines and open messages; and the invariants hold of it.
use Rattle.std.proofs.Common.{◌≡◌, ℕ, [], refl, ◌∙◌, Some, None, arith}
use Rattle.giop_stream.specs.HeaderOctets.{fronts, last_octet_fault, first_front_fault, first_wrong_octet}
use Rattle.giop_stream.specs.Rules.{Rules}
use Rattle.giop_stream.specs.Framing.{limit, limited, cut_from, cut, messages}
use Rattle.giop_stream.specs.Events.{has_ended, open_after_events, events_from, events, open_after, joined_octets, phase_from, phase_of}
use Rattle.giop_stream.specs.Lines.{nothing_kept, in_order, up_to_last_line, lines_of_messages, stop_line, lines}
use Rattle.giop_stream.specs.Stream.{start_count, is_over}
use Rattle.giop_stream.specs.OpenSlots.{known_of}
use Rattle.giop_stream.proofs.Cuts.Cutting.{cut_of_parts}
use Rattle.giop_stream.proofs.Events.EventsKeep.{IsWithinLimit, AreOpeners}
use Rattle.giop_stream.proofs.Events.AfterMoreEvents.{lines_stopped}
use Rattle.giop_stream.proofs.Events.Soundness.{AreSound, IsSound}

pub cut_nothing : cut [] ≡ cut_of_parts [] None [] None
unfolding cut limited limit cut_from first_wrong_octet fronts first_front_fault last_octet_fault
    cut_of_parts
cut_nothing = refl

pub events_nothing : (R : Rules) → events R [] ≡ []
unfolding events events_from messages cut_of_parts
events_nothing R = rw (events, cut_nothing) refl

pub no_message_lines : (R : Rules) → lines_of_messages R [] ≡ []
unfolding lines_of_messages in_order up_to_last_line
no_message_lines R = refl

pub lines_nothing : (R : Rules) → lines R [] ≡ []
unfolding cut_of_parts stop_line
lines_nothing R = lines_stopped R [] None (rw cut_nothing refl) ∙ rw (no_message_lines R) refl

pub known_nothing : (R : Rules) (i : ℕ) → known_of R [] i ≡ Some nothing_kept
unfolding known_of is_over joined_octets phase_of phase_from
known_nothing R i = rw (no_message_lines R, events_nothing R) refl

over_nothing : (R : Rules) (i : ℕ) → is_over R [] i ≡ has_ended R i [] (events R [])
unfolding is_over has_ended
over_nothing R i = rw (no_message_lines R, events_nothing R) refl

pub open_nothing : (R : Rules) → open_after R [] ≡ []
unfolding open_after open_after_events
open_nothing R = rw (events_nothing R) refl

still_open_nothing : (most : ℕ) → AreSound most []
unfolding IsWithinLimit AreOpeners
still_open_nothing most = search (arith)

pub sound_start : (R : Rules) → IsSound R []
unfolding cut_of_parts messages start_count
sound_start R = record {
  places = rw (events_nothing R) tt;
  numbers = rw (open_nothing R) tt;
  unknown = λ i h. known_nothing R i;
  starts = rw (lines_nothing R, cut_nothing) refl;
  fits = λ st. rw cut_nothing (record { current = tt; held = omega arith; short = omega arith });
  rising = rw (open_nothing R) tt;
  early = λ st. rw cut_nothing tt;
  still_open = rw (open_nothing R) (still_open_nothing R.most);
  begun = λ st. rw cut_nothing tt;
  over = λ i. over_nothing R i;
}
