use Rattle.giop_decode.specs.DecoderState.{Fits}
use Rattle.giop_decode_tests.proofs.key_tests.interface_of.Given as goal

abbrev pub invariant-loop-octet : goal.invariant-loop-octet
invariant-loop-octet l = record { fits : Fits l.catalogue l.decoder }
