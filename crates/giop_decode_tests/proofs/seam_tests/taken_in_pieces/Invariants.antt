use Rattle.giop_decode.specs.DecoderState.{Fits}
use Rattle.giop_decode_tests.proofs.seam_tests.taken_in_pieces.Given as goal

abbrev pub invariant-loop-taken : goal.invariant-loop-taken
invariant-loop-taken l = record { fits : Fits l.catalogue l.decoder }
