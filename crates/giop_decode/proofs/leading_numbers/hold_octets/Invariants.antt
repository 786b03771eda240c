use Rattle.std.proofs.Common.{◌≡◌, ◌++◌, take}
use Rattle.giop_decode.proofs.leading_numbers.hold_octets.Given as goal

abbrev pub invariant-loop-octet : goal.invariant-loop-octet
invariant-loop-octet l = l.carry ≡ l.initial.carry ++ take l.octet-index l.octets
