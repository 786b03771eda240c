use Rattle.std.proofs.Common.{◌≡◌, take}
use Rattle.arrayvec.specs.ArrayVec.{array_vec_len}
use Rattle.giop_checkpoint.proofs.state.held_header_octets.Given as goal

abbrev pub invariant-loop-octet : goal.invariant-loop-octet
invariant-loop-octet l = record {
  items : l.held.items ≡ take l.octet-index l.header;
  len : array_vec_len l.held ≡ l.octet-index;
}
