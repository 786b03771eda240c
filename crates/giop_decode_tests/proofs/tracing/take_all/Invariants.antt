use Rattle.giop_decode.specs.DecoderState.{Fits}
use Rattle.giop_decode_tests.proofs.tracing.take_all.Given as goal

abbrev pub invariant-loop-taken : goal.invariant-loop-taken
invariant-loop-taken l = record { fits : Fits l.catalogue l.decoder }
