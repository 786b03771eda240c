-- What an engine holds of a stream: one record, each field of which the whole stream determines
-- (state). Of the messages that are tracked, a checkpoint stores the open ones and the owner of the
-- next octets.
use Rattle.std.specs.Prelude.{ℕ, ◌-◌, List, [], length, Option, Some, None, if◌then◌else◌}
use Rattle.giop_stream.specs.Rules.{Rules}
use Rattle.giop_message.specs.Headers.{size}
use Rattle.giop_checkpoint.specs.declared.fault.StreamFault.{StreamFault}
use Rattle.giop_stream.specs.declared.status.Totals.{Totals}
use Rattle.giop_stream.specs.Framing.{CutMessage, cut, fault_of}
use Rattle.giop_stream.specs.Events.{MessageKey, OpenState, Open, message_key, opener_of, is_named_fragment, events, before_by}
use Rattle.giop_stream.specs.Stream.{totals_so_far}
use Rattle.giop_stream.specs.OpenSlots.{Tracked, tracked_after}
use Rattle.giop_stream.specs.Octet.{header_of}

pub record State : Type 0 where
  pub totals : Totals
  pub stop : Option StreamFault
  pub held : List ℕ  -- header octets read so far; all 12 in a payload; none after a stream fault
  pub left : ℕ  -- how many payload octets are still to come; 0 after a stream fault
  pub tracked : Tracked  -- the open messages, and what is kept of each message that isn't over
  pub owner : Option MessageKey  -- the open or current message that the next octets belong to

-- ---- The owner of the next octets.

-- the message that an open joined message begins with
abbrev pub opener_key : (open_message : Option Open) → Option MessageKey
opener_key None = None
opener_key (Some o) = Some o.opener

-- The owner of the next octet, if this stands before it. After a Fragment has its place among the
-- open messages, it is the message that the Fragment continues.
unfoldable pub owner_of_next : (before : OpenState) (message : CutMessage) → Option MessageKey
owner_of_next b m = if is_named_fragment m then opener_key (opener_of b m) else Some (message_key m)

abbrev pub owner_of_next_in : (before : OpenState) (current_message : Option CutMessage) →
    Option MessageKey
owner_of_next_in b None = None
owner_of_next_in b (Some m) = owner_of_next b m

-- ---- Of a stream.

abbrev pub payload_octets_left : (current_message : Option CutMessage) → ℕ
payload_octets_left None = 0
payload_octets_left (Some m) = size m.header - length m.payload

abbrev pub none_if_stopped : {A : Type 0} (stop_place_and_fault : Option (ℕ × StreamFault))
    (value_if_stopped value_if_not : A) → A
none_if_stopped (Some is_allowed) none some = none
none_if_stopped None none some = some

unfoldable pub state_of : (R : Rules) (stream : List ℕ) → State
state_of R stream = record {
  totals = totals_so_far R stream;
  stop = fault_of (cut stream).stop;
  held = none_if_stopped (cut stream).stop [] (header_of (cut stream).current (cut stream).held);
  left = none_if_stopped (cut stream).stop 0 (payload_octets_left (cut stream).current);
  tracked = tracked_after R stream;
  owner = owner_of_next_in (before_by R (events R stream)) (cut stream).current;
}
