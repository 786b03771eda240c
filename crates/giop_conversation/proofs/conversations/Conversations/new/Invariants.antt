use Rattle.std.proofs.Common.{◌≡◌, vec_len, replicate}
use Rattle.giop_conversation.specs.Captured.{setup, new_connection}
use Rattle.giop_conversation.specs.DumpHeld.{AreHeld}
use Rattle.std.specs.List.{All}
use Rattle.giop_conversation.proofs.FollowedLemmas.{IsNew}
use Rattle.giop_conversation.proofs.conversations.Conversations.new.Given as goal

abbrev pub invariant-loop-slot : goal.invariant-loop-slot
invariant-loop-slot g l =
    record {
      slots : All IsNew l.slots.items;
      held : (let S = setup l.catalogue l.limits.messages l.limits.calls l.limits.connections
          l.limits.first_stream in
          AreHeld S l.slots.items (replicate l._slot (new_connection S)));
      count : vec_len l.slots ≡ l._slot;
    }
