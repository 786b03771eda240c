use Rattle.std.proofs.Common.{◌≡◌, length, ◌-◌, ◌≤◌, take}
use Rattle.std.specs.Io.KnownBytes.{Appends}
use Rattle.giop_conversation.proofs.tagged.put_pieces_until_failure.Given as goal

abbrev pub invariant-loop-at : goal.invariant-loop-at
invariant-loop-at g l =
    record {
      within : l.at ≤ length l.octets;
      written : Appends (g.O.Out.log l.initial.out).written (g.O.Out.log l.out).written
          (take l.at l.octets);
      none : (g.O.Out.log l.out).failures ≡ (g.O.Out.log l.initial.out).failures;
    }

abbrev pub decreases-loop-at : goal.decreases-loop-at
decreases-loop-at g l = length l.octets - l.at
