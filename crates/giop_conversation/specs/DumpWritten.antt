-- The connections of a capture have written the text that the events of the capture lead to
-- (state).
use Rattle.std.specs.Prelude.{ℕ, List}
use Rattle.tcp_flow.specs.Flow.{Event}
use Rattle.giop_conversation.specs.declared.conversations.Conversations.{Conversations}
use Rattle.giop_conversation.specs.Captured.{Setup}
use Rattle.giop_conversation.specs.DumpHeld.{HasWritten}

-- After what was written below before, the text below has the text of these events, and nothing
-- else.
abbrev pub IsWritten : {O : Type 0} (S : Setup) (text_before : List ℕ) (events : List Event)
    (conversations : Conversations O) → Type 0
IsWritten S written events c =
    HasWritten S written events c.slots.items c.out c.arrival c.first c.totals c.cut
