-- After which octet of a piece the reading stops for its correspondent (meaning).
use Rattle.std.specs.Prelude.{ℕ, Bool, ◌&&◌, ◌||◌, List, ◌++◌, length, Option, Some, None, nat_lt, if◌then◌else◌}
use Rattle.giop_sig.specs.Table.{Table}
use Rattle.giop_message.specs.HeaderEnds.{CallEvent, after_ends}
use Rattle.giop_stream.specs.Rules.{Rules}
use Rattle.giop_stream.specs.Framing.{cut, messages}
use Rattle.giop_stream.specs.HeaderEndsOfStream.{header_ends_from}

-- A message begins in these octets, which come after the stream: its header of 12 octets becomes
-- complete in them (GIOP Message Formats, GIOP Message Header).
abbrev pub begins_in : (stream octets_after_stream : List ℕ) → Bool
begins_in stream octets =
    nat_lt (length (messages (cut stream))) (length (messages (cut (stream ++ octets))))

-- the number of the last message that begins in these octets, from 1
abbrev pub begun_in : (stream octets_after_stream : List ℕ) → Option ℕ
begun_in stream octets =
    if begins_in stream octets then Some (length (messages (cut (stream ++ octets)))) else
    None

module _ {St : Type 0} (due : St → Bool) (notified : St → CallEvent → St) (awaits_messages : Bool)
    (C : Table) (st : St) (R : Rules) (p : List ℕ) where
  -- Whether a correspondent is due after these octets of the stream: by what it is told of them,
  -- or, if it awaits messages, because a message begins in them.
  abbrev pub is_due_after : (octets_after_stream : List ℕ) → Bool
  is_due_after octets =
      due (after_ends notified C st (header_ends_from R p octets))
      || (awaits_messages && begins_in p octets)
