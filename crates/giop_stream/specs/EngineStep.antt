-- What the next octet of a stream changes in what an engine holds, and its lines; and what is
-- written at the end (steps).
use Rattle.std.specs.Prelude.{ℕ, suc, ◌+◌, ◌-◌, Bool, not, ◌&&◌, ◌||◌, List, [], ◌∷◌, ◌++◌, length, flat_map, Option, Some, None, is_none, ◌==◌, nat_lt, nat_le, if◌then◌else◌}
use Rattle.std.specs.List.{find}
use Rattle.giop_cdr.specs.Numbers.{num}
use Rattle.giop_print.specs.Lines.{unfinished_line, total_line}
use Rattle.giop_stream.specs.Rules.{RequestIds, Rules}
use Rattle.giop_message.specs.Headers.{order, size}
use Rattle.giop_stream.specs.Kinds.{is_fragmented_1_1, is_any_fragment, lookup_offset}
use Rattle.giop_checkpoint.specs.declared.fault.StreamFault.{StreamFault}
use Rattle.giop_stream.specs.declared.status.Totals.{Totals}
use Rattle.giop_stream.specs.Events.{MessageKey, Event, Open, MessageOctet, open_under, events_with_key}
use Rattle.giop_stream.specs.Lines.{StreamLine, Kept, nothing_kept, stop_line}
use Rattle.giop_stream.specs.Stream.{fault_count, with_truncated}
use Rattle.giop_stream.specs.Text.{truncated_line}
use Rattle.giop_stream.specs.OpenSlots.{is_open, Tracked, before_in, slots_at, number_if_kept, unfinished_number}
use Rattle.giop_stream.specs.Effects.{Effect, effects}
use Rattle.giop_stream.specs.Octet.{OctetKind, AfterStop, Ends, Held, Of, octet_in}
use Rattle.giop_stream.specs.EngineState.{State, opener_key}

pub record Step : Type 0 where
  pub state : State
  pub lines : List StreamLine

-- before the first octet: no message is open, and no octet of any message has come
unfoldable pub fresh_state : (R : Rules) → State
fresh_state R = record {
  totals = record { messages = 0; faults = 0; octets = 0 };
  stop = None;
  held = [];
  left = 0;
  tracked = record { still_open = []; mixed = not R.joins; known = λ i. Some nothing_kept };
  owner = None;
}

unfoldable pub kind_of_octet : (state : State) (next_octet : ℕ) → OctetKind
kind_of_octet s octet =
    octet_in s.stop s.held s.totals.messages s.totals.octets (size s.held - s.left) octet

-- ---- An octet of a message.

-- the key of an octet's message, if the octet is the one with which the message has its place among
-- the open ones, and this is kept of the octets before it
abbrev pub request_id_at : (octet : MessageOctet) (kept_before : Option Kept) → ℕ
request_id_at now None = 0
request_id_at now (Some kept) = num (order now.subject.header) (kept.octets ++ now.octet ∷ [])

unfoldable pub key_of : (state : State) (octet : MessageOctet) → Option ℕ
key_of s now = if is_fragmented_1_1 now.subject.header then None else
    Some (request_id_at now (s.tracked.known now.subject.number))

-- the open message of this number
abbrev pub open_numbered : (still_open : List Open) (owner : Option MessageKey) → Option Open
open_numbered still_open None = None
open_numbered still_open (Some w) = find (λ o. o.opener.number == w.number) still_open

-- at that octet: the open message with that key; after it: the open message that the octet belongs
-- to
unfoldable pub open_message_for : (request_id_by_octets : RequestIds) (state : State)
    (octet : MessageOctet) → Option Open
open_message_for asks s now = if now.payload_count == lookup_offset now.subject.header
    then open_under (before_in asks s.tracked) (key_of s now)
    else open_numbered s.tracked.still_open s.owner

unfoldable pub events_at : (R : Rules) (state : State) (octet : MessageOctet) → List Event
events_at R s now =
    events_with_key R.most (before_in R.asks s.tracked) now (key_of s now)
    (open_message_for R.asks s now)

-- the header octets that are held after the octet
abbrev pub header_held_after : (octet : MessageOctet) → List ℕ
header_held_after now = if nat_lt now.payload_count (size now.subject.header) then
    now.subject.header else []

-- the owner of the next octets; `other` is the open message that a Fragment continues
abbrev pub owner_for : (octet : MessageOctet) (continued_message : Option Open) → Option MessageKey
owner_for now other = if is_any_fragment now.subject.header
    && nat_le (lookup_offset now.subject.header) now.payload_count then
    opener_key other else Some now.subject

-- the step of an octet of a message, by what its events do
unfoldable pub message_octet_step : (request_id_by_octets : RequestIds) (state : State)
    (octet : MessageOctet) (effect : Effect) → Step
message_octet_step asks s now effect =
    let goes_on = nat_lt now.payload_count (size now.subject.header) in
    record {
      state = record {
        totals = record {
          messages = now.subject.number;
          faults =
              s.totals.faults + fault_count effect.lines;
          octets = now.place;
        };
        stop = None;
        held = header_held_after now;
        left = size now.subject.header - now.payload_count;
        tracked = effect.tracked;
        owner = if goes_on then owner_for now (open_message_for asks s now) else None;
      };
      lines = effect.lines;
    }

-- ---- Any octet.

-- the step of the octet of a stream fault
unfoldable pub stream_fault_step : (state : State) (fault : StreamFault) → Step
stream_fault_step s fault = record {
  state = record s {
    totals = record {
      messages = s.totals.messages;
      faults = suc s.totals.faults;
      octets =
          suc s.totals.octets;
    };
    stop = Some fault;
    held = [];
    left = 0;
  };
  lines = stop_line (Some (suc s.totals.octets, fault));
}

-- the step of an octet that adds to a header, after which these octets of the header are held
unfoldable pub header_octet_step : (state : State) (header_octets_held : List ℕ) → Step
header_octet_step s front = record {
  state = record s {
    totals =
        record s.totals { octets = suc s.totals.octets };
    held = front;
  };
  lines = [];
}

abbrev pub step_by : (R : Rules) (state : State) (octet_kind : OctetKind) → Step
step_by R s AfterStop = record { state = s; lines = [] }
step_by R s (Ends fault) = stream_fault_step s fault
step_by R s (Held front) = header_octet_step s front
step_by R s (Of now) =
    message_octet_step R.asks s now (effects R.reading s.tracked (events_at R s now))

unfoldable pub step : (R : Rules) (state : State) (next_octet : ℕ) → Step
step R s octet = step_by R s (kind_of_octet s octet)

unfoldable pub lines_of_run : (R : Rules) (state : State) (octets : List ℕ) → List StreamLine
lines_of_run R s [] = []
lines_of_run R s (x ∷ xs) = let one = step R s x in one.lines ++ lines_of_run R one.state xs

unfoldable pub run_state : (R : Rules) (state : State) (octets : List ℕ) → State
run_state R s [] = s
run_state R s (x ∷ xs) = run_state R (step R s x).state xs

-- all that a run of octets does
abbrev pub run_step : (R : Rules) (state : State) (octets : List ℕ) → Step
run_step R s octets = record { state = run_state R s octets; lines = lines_of_run R s octets }

-- ---- The finish.

-- the number of the owner of the next octets, if octets of it are kept and it is neither open nor a
-- Fragment
unfoldable pub unfinished_current : (tracked : Tracked) (owner : Option MessageKey) → List ℕ
unfinished_current c None = []
unfinished_current c (Some w) = if is_open c.still_open w.number
    || is_any_fragment w.header then [] else
    number_if_kept w.number (c.known w.number)

unfoldable pub unfinished_numbers : (state : State) → List ℕ
unfinished_numbers s = flat_map unfinished_number (slots_at s.tracked)
    ++ unfinished_current s.tracked s.owner

unfoldable pub is_cut_short : (state : State) → Bool
is_cut_short s = is_none s.stop && nat_lt 0 (length s.held)

unfoldable pub final_totals : (state : State) → Totals
final_totals s = with_truncated (is_cut_short s) s.totals

unfoldable pub text_at_finish : (state : State) → List ℕ
text_at_finish s =
    (if is_cut_short s then truncated_line s.totals.octets else [])
    ++ (flat_map unfinished_line (unfinished_numbers s)
    ++ total_line (final_totals s).messages (final_totals s).faults (final_totals s).octets)
