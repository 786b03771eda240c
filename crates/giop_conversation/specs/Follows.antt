-- The connections of a capture have followed what has happened in the capture's flows (state).
use Rattle.std.specs.Prelude.{List}
use Rattle.tcp_flow.specs.Flow.{Event}
use Rattle.giop_conversation.specs.declared.conversations.Conversations.{Conversations}
use Rattle.giop_conversation.specs.Followed.{HaveFollowed}

-- The direction of each flow that has a slot has read the flow's last stream.
abbrev pub Follows : {O : Type 0} (conversations : Conversations O) (events : List Event) → Type 0
Follows c events = HaveFollowed c.slots.items events
