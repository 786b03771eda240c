use Rattle.std.proofs.Common.{◌≡◌, take}
use Rattle.giop_decode.proofs.restored.carry_of.Given as goal

abbrev pub invariant-loop-octet : goal.invariant-loop-octet
invariant-loop-octet l = l.carry ≡ take l.octet-index l.octets
