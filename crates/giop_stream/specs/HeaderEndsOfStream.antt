-- The headers and the names of raised exceptions that end in octets of a stream, in the order in
-- which they end (meaning). At the end of a header the correspondent is asked; at the end of either
-- it is told (giop_message, HeaderEnds).
use Rattle.std.specs.Prelude.{ℕ, List, [], ◌∷◌, ◌++◌, length, Option, Some, None, is_none, ◌&&◌, nat_lt, if◌then◌else◌}
use Rattle.giop_message.specs.HeaderEnds.{HeaderEnd, header_ends}
use Rattle.giop_stream.specs.Rules.{Rules}
use Rattle.giop_stream.specs.Framing.{CutMessage, limit, cut}
use Rattle.giop_stream.specs.Lines.{Kept}
use Rattle.giop_stream.specs.Events.{MessageKey, events, before_by}
use Rattle.giop_stream.specs.OpenSlots.{Tracked, tracked_after}
use Rattle.giop_stream.specs.EngineState.{owner_of_next}

-- the headers and names of a message that end in `octets`, after the octets of it that came before;
-- none if the message is over
abbrev pub run_header_ends : (key : MessageKey) (kept : Option Kept) (octets : List ℕ) →
    List HeaderEnd
run_header_ends w None octets = []
run_header_ends w (Some kept) octets =
    header_ends kept.phase w.number w.header kept.octets octets

-- the same for the message that the octets belong to
abbrev pub owner_header_ends : (tracked : Tracked) (owner : Option MessageKey) (octets : List ℕ) →
    List HeaderEnd
owner_header_ends c None octets = []
owner_header_ends c (Some w) octets = run_header_ends w (c.known w.number) octets

-- the same for octets of a payload after the stream; they belong to the current message, or to the
-- one that it continues
abbrev pub current_header_ends : (R : Rules) (stream : List ℕ) (current : Option CutMessage)
    (octets : List ℕ) → List HeaderEnd
current_header_ends R stream None octets = []
current_header_ends R stream (Some m) octets =
    owner_header_ends (tracked_after R stream) (owner_of_next (before_by R (events R stream)) m)
    octets

-- the same for the octet after the stream
unfoldable pub header_ends_at : (R : Rules) (stream : List ℕ) (octet : ℕ) → List HeaderEnd
header_ends_at R stream octet = if is_none (cut stream).stop
    && nat_lt (length stream) limit then current_header_ends R stream (cut stream).current
    (octet ∷ [])
    else []

-- the headers and names that end in these octets after the stream
unfoldable pub header_ends_from : (R : Rules) (stream octets : List ℕ) → List HeaderEnd
header_ends_from R stream [] = []
header_ends_from R stream (x ∷ xs) =
    header_ends_at R stream x ++ header_ends_from R (stream ++ x ∷ []) xs
