use Rattle.std.proofs.Common.{◌≡◌, take}
use Rattle.giop_sig.specs.Interfaces.{hex}
use Rattle.giop_sig.proofs.interfaces.hex.Given as goal

abbrev pub invariant-loop-octet : goal.invariant-loop-octet
invariant-loop-octet l = l.text.items ≡ hex (take l.octet-index l.octets)
