use Rattle.std.proofs.Common.{◌-◌, length}
use Rattle.giop_decode.proofs.FirstTaken.{HasTakenFirst}
use Rattle.giop_decode.proofs.decoder.Decoder.read_octets.Given as goal

abbrev pub invariant-loop-taken : goal.invariant-loop-taken
invariant-loop-taken g l =
    HasTakenFirst l.catalogue l.initial.self l.self l.octets l.taken (g.O.Out.log l.initial.out)
    (g.O.Out.log l.out)

abbrev pub decreases-loop-taken : goal.decreases-loop-taken
decreases-loop-taken g l = length l.octets - l.taken
