use Rattle.std.proofs.Common.{flat_map, take}
use Rattle.giop_print.specs.Output.{Wrote}
use Rattle.giop_stream.proofs.StreamLines.FinishByFields.{slot_text}
use Rattle.giop_stream.proofs.slots.Slots.write_unfinished.Given as goal

abbrev pub invariant-loop-k : goal.invariant-loop-k
invariant-loop-k g l = Wrote (g.O.Out.log l.initial.out) (g.O.Out.log l.out)
    (flat_map slot_text (take l.k l.self.slots.entries))
