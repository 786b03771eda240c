use Rattle.std.proofs.Common.{length}
use Rattle.giop_print.proofs.Writing.{LeavesRest}
use Rattle.giop_print.proofs.sink.Out.put_all.Given as goal

abbrev pub invariant-loop-rest : goal.invariant-loop-rest
invariant-loop-rest g l =
    LeavesRest (g.Self.Out.log l.initial.self) (g.Self.Out.log l.self) l.octets l.rest

abbrev pub decreases-loop-rest : goal.decreases-loop-rest
decreases-loop-rest g l = length l.rest
