-- The open messages of a stream, and what is kept of each message. The whole stream determines them
-- (state).
use Rattle.std.specs.Prelude.{◌≡◌, ℕ, Bool, List, [], ◌∷◌, map, Option, Some, None, is_none, ◌==◌, if◌then◌else◌}
use Rattle.std.specs.List.{find, list_any, AllByRecursion as Each}
use Rattle.giop_stream.specs.Rules.{RequestIds, Rules}
use Rattle.giop_stream.specs.Events.{OpenState, MessageKey, Open, before_by, events, open_after}
use Rattle.giop_stream.specs.Lines.{Kept, kept_of}
use Rattle.giop_stream.specs.Stream.{is_over}

-- An open message, and what is kept of it unless it is over.
pub record Slot : Type 0 where
  pub open_as : Open
  pub kept : Option Kept

-- what is kept of each message, by its number
abbrev pub KeptByNumber : Type 0
KeptByNumber = ℕ → Option Kept

-- what is kept of this message, unless it is over
unfoldable pub known_of : (R : Rules) (stream : List ℕ) → KeptByNumber
known_of R stream i = if is_over R stream i then None else Some (kept_of i (events R stream))

unfoldable pub is_open : (still_open : List Open) (message_number : ℕ) → Bool
is_open still_open number = list_any (λ o. o.opener.number == number) still_open

-- each open message, with what is kept of it
unfoldable pub slots_of : (known : KeptByNumber) (still_open : List Open) → List Slot
slots_of known still_open = map (λ o. record { open_as = o; kept = known o.opener.number })
    still_open

-- the open messages, whether Fragments of 1.1 may belong to several messages, and what is kept of
-- each message
pub record Tracked : Type 0 where
  pub still_open : List Open
  pub mixed : Bool
  pub known : KeptByNumber

-- what is tracked of a stream
unfoldable pub tracked_after : (R : Rules) (stream : List ℕ) → Tracked
tracked_after R stream = record {
  still_open = open_after R stream;
  mixed = (before_by R (events R stream)).mixed;
  known = known_of R stream;
}

-- ---- What stands before the next octet, by what is tracked.

-- the request id that a message has given, unless it is over
abbrev pub given_id : (request_id_by_octets : RequestIds) (key : MessageKey) (kept : Option Kept) →
    Option ℕ
given_id asks w None = None
given_id asks w (Some kept) = asks kept.phase w.number w.header kept.octets

abbrev pub given_id_of_open : (request_id_by_octets : RequestIds) (known : KeptByNumber)
    (open_message : Option Open) → Option ℕ
given_id_of_open asks known None = None
given_id_of_open asks known (Some o) = given_id asks o.opener (known o.opener.number)

unfoldable pub before_in : (request_id_by_octets : RequestIds) (tracked : Tracked) → OpenState
before_in asks c = record {
  still_open = c.still_open;
  mixed = c.mixed;
  asked = given_id_of_open asks c.known (find (λ o. is_none o.key) c.still_open);
}

-- the slots of what is tracked
abbrev pub slots_at : (tracked : Tracked) → List Slot
slots_at c = slots_of c.known c.still_open

-- no open message has this number
abbrev pub IsNotOpen : (message_number : ℕ) (still_open : List Open) → Type 0
IsNotOpen number still_open = Each (λ o. o.opener.number ≡ number → ⊥) still_open

-- ---- The finish.

-- the number of a message, if octets of it are kept: then it has neither ended nor been faulted
abbrev pub number_if_kept : (message_number : ℕ) (kept : Option Kept) → List ℕ
number_if_kept number None = []
number_if_kept number (Some kept) = number ∷ []

unfoldable pub unfinished_number : (slot : Slot) → List ℕ
unfinished_number slot = number_if_kept slot.open_as.opener.number slot.kept
