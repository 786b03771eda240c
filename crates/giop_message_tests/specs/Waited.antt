-- Whether a correspondent is due, if it waits for what it is told of a Reply (meaning).
use Rattle.std.specs.Prelude.{Bool, true}
use Rattle.giop_message.specs.HeaderEnds.{CallEvent, Requested, Replied, Raised}

abbrev pub waited : Bool → CallEvent → Bool
waited before (Requested number id name operation expects) = before
waited before (Replied number id) = true
waited before (Raised number name) = true
