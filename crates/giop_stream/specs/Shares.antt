-- The joined message, defined without events: the octets of the message itself, and then, of each
-- message that continues it, those after the request id, or all of them in 1.1 (meaning).
use Rattle.std.specs.Prelude.{ℕ, List, [], ◌∷◌, ◌++◌, take, drop, Option, Some, None, ◌==◌, if◌then◌else◌}
use Rattle.giop_stream.specs.Framing.{CutMessage}
use Rattle.giop_stream.specs.Kinds.{is_any_fragment, lookup_offset}
use Rattle.giop_stream.specs.Rules.{Rules}
use Rattle.giop_stream.specs.Events.{OpenState, Event, Open, before_by, opener_of, events_of}

unfoldable pub octets_if_joined_to : (message_number : ℕ) (continued_message : Option Open)
    (octets : List ℕ) → List ℕ
octets_if_joined_to number None octets = []
octets_if_joined_to number (Some o) octets = if o.opener.number == number then octets else []

-- the octets of a message that belong to the joined message of this number, if this stood before
-- the message
unfoldable pub joined_share : (joined_message_number : ℕ) (before : OpenState)
    (message : CutMessage) → List ℕ
joined_share number b m =
    if is_any_fragment m.header
    then (if m.number == number then take (lookup_offset m.header) m.payload else [])
    ++ octets_if_joined_to number (opener_of b m) (drop (lookup_offset m.header) m.payload)
    else (if m.number == number then m.payload else [])

-- those of several messages, after these events of the messages before them
unfoldable pub joined_shares : (R : Rules) (joined_message_number : ℕ) (events_before : List Event)
    (messages : List CutMessage) → List ℕ
joined_shares R number past [] = []
joined_shares R number past (m ∷ ms) =
    let b = before_by R past in
    joined_share number b m ++ joined_shares R number (past ++ events_of R.most b m) ms
