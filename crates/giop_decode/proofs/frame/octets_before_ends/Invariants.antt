use Rattle.std.proofs.Common.{◌≤◌, take}
use Rattle.giop_decode.specs.Transitions.{HaveOctetsLeft, frames_after_octets}
use Rattle.giop_decode.proofs.frame.octets_before_ends.Given as goal

abbrev pub invariant-loop-frame : goal.invariant-loop-frame
invariant-loop-frame l = (l.count ≤ l.fn.octets)
    × HaveOctetsLeft (frames_after_octets l.count (take l.frame-index l.outer))
