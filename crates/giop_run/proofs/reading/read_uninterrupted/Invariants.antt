-- A read that was interrupted gave nothing.
use Rattle.std.specs.Io.KnownBytes.{Keeps}
use Rattle.giop_run.proofs.reading.read_uninterrupted.Given as goal

abbrev pub invariant-loop-try : goal.invariant-loop-try
invariant-loop-try g l = Keeps (g.R.Read.remaining l.fn.reader) (g.R.Read.remaining l.reader)
