use Rattle.std.proofs.Common.{take, flat_map}
use Rattle.giop_print.specs.Gathering.{WroteAllBut}
use Rattle.giop_print.proofs.sink.put_parts.Given as goal

abbrev pub invariant-loop-part : goal.invariant-loop-part
invariant-loop-part g l =
    WroteAllBut (g.O.Out.log l.initial.out) (g.O.Out.log l.out) l.gathered.items
    (flat_map (λ part. part.now) (take l.part-index l.parts))
