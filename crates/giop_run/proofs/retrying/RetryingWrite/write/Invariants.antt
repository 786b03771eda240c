-- A write that was interrupted wrote nothing.
use Rattle.std.specs.Io.KnownBytes.{Keeps}
use Rattle.giop_run.proofs.retrying.RetryingWrite.write.Given as goal

abbrev pub invariant-loop-try : goal.invariant-loop-try
invariant-loop-try g l = Keeps (g.W.Write.contents l.fn.self.inner)
    (g.W.Write.contents l.self.inner)
