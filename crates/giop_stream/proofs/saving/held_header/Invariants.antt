use Rattle.std.proofs.Common.{◌≡◌, take}
use Rattle.arrayvec.specs.ArrayVec.{array_vec_len}
use Rattle.giop_stream.proofs.saving.held_header.Given as goal

abbrev pub invariant-loop-octet : goal.invariant-loop-octet
invariant-loop-octet l = record {
  items : l.held.items ≡ take l.octet-index l.octets;
  len : array_vec_len l.held ≡ l.octet-index;
}
