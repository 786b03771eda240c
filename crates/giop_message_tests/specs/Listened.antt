-- What a correspondent keeps that listens only for exceptions: the number of the message that
-- raised the last one, and how many octets its name has (meaning).
use Rattle.std.specs.Prelude.{ℕ, Option, Some, length}
use Rattle.giop_message.specs.HeaderEnds.{CallEvent, Requested, Replied, Raised}

abbrev pub listened : Option (ℕ × ℕ) → CallEvent → Option (ℕ × ℕ)
listened before (Requested number id name operation expects) = before
listened before (Replied number id) = before
listened before (Raised number name) = Some (number, length name)
