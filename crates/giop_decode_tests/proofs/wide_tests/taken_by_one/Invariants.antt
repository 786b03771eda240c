use Rattle.giop_decode.specs.DecoderState.{Fits}
use Rattle.giop_decode_tests.proofs.wide_tests.taken_by_one.Given as goal

abbrev pub invariant-loop-taken : goal.invariant-loop-taken
invariant-loop-taken l = record { fits : Fits l.catalogue l.decoder }
