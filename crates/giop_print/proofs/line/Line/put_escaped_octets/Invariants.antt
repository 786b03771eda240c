use Rattle.std.proofs.Common.{◌≡◌, ◌≤◌, ◌+◌, ◌-◌, ◌*◌, ◌++◌, length, drop}
use Rattle.giop_print.specs.Text.{escaped}
use Rattle.giop_print.specs.Line.{line_text, line_room}
use Rattle.giop_print.proofs.line.Line.put_escaped_octets.Given as goal

abbrev pub invariant-loop-left : goal.invariant-loop-left
invariant-loop-left l =
    record {
      text : line_text l.self ≡ escaped (drop l.left l.octets) ++ line_text l.initial.self;
      room : line_room l.initial.self ≤ line_room l.self + 4 * (length l.octets - l.left);
      within : l.left ≤ length l.octets;
    }

abbrev pub decreases-loop-left : goal.decreases-loop-left
decreases-loop-left l = l.left
