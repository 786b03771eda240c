use Rattle.giop_lines.proofs.Gone.{PathFront}
use Rattle.giop_lines.proofs.paths.path_before_space.Given as goal

abbrev pub invariant-loop-part : goal.invariant-loop-part
invariant-loop-part l = PathFront l.text l.rest l._part
