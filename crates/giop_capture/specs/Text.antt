-- The text of a dump, if all of it was put (meaning).
use Rattle.std.specs.Prelude.{◌≡◌, ◌||◌, ℕ, Bool, nat_lt, List, Option, Some}
use Rattle.tcp_flow.specs.Flow.{Event}
use Rattle.giop_conversation.specs.Captured.{Setup, Dump, Leads, start, finished_text}
use Rattle.giop_conversation.specs.StreamTexts.{no_history, history}
use Rattle.giop_capture.specs.Streams.{ShowsEachStream, EachHasSlot}

-- The events lead to a dump of a capture with this number of packets and octets. What was put is
-- what was written before the dump began, then its text and its last line, and nothing else.
-- `has_fault_or_cut` tells whether it has a fault, or a stream that was cut.
pub record HasText (S : Setup) (text_before : List ℕ) (events : List Event)
    (packet_count capture_octet_count : ℕ) (has_fault_or_cut : Bool) (all_put : Option (List ℕ))
    : Type 0 where
  pub dump : Dump
  pub leads : Leads S (start S text_before) events dump
  pub text : all_put ≡ Some (finished_text dump packet_count capture_octet_count)
  pub is_faulty : has_fault_or_cut ≡ (dump.is_cut || nat_lt 0 dump.faults)

-- In this text the lines of each stream are giopdump's, each stream with a slot has closed, and
-- each stream that began has a slot.
abbrev pub HasStreams : {faulty : Bool} {put : Option (List ℕ)} →
    (S : Setup) (text_before : List ℕ) (events : List Event)
    (packet_count capture_octet_count : ℕ) →
    HasText S text_before events packet_count capture_octet_count faulty put → Type 0
HasStreams S written events packets octets h =
    ShowsEachStream S written (history S no_history (start S written) events h.dump h.leads)
    h.dump.text
    × EachHasSlot S (history S no_history (start S written) events h.dump h.leads)

-- The events lead to a dump. What was put is what was written before the dump began, and then its
-- text, and nothing else.
pub record HasTextSoFar (S : Setup) (text_before : List ℕ) (events : List Event)
    (all_put : Option (List ℕ)) : Type 0 where
  pub dump : Dump
  pub leads : Leads S (start S text_before) events dump
  pub text : all_put ≡ Some dump.text
