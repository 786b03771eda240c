use Rattle.std.proofs.Common.{◌≡◌, length}
use Rattle.giop_print.proofs.Writing.{LeavesRest}
use Rattle.giop_conversation.specs.TaggedState.{tagging_log}
use Rattle.giop_conversation.proofs.tagged.TaggedOut.put_all.Given as goal

abbrev pub invariant-loop-rest : goal.invariant-loop-rest
invariant-loop-rest g l =
    record {
      left : LeavesRest (tagging_log l.initial.self) (tagging_log l.self) l.octets l.rest;
      none : l.self.below ≡ l.initial.self.below;
    }

abbrev pub decreases-loop-rest : goal.decreases-loop-rest
decreases-loop-rest g l = length l.rest
