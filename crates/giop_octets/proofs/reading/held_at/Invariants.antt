use Rattle.std.proofs.Common.{◌≡◌, ◌+◌, take, drop}
use Rattle.arrayvec.specs.ArrayVec.{array_vec_len}
use Rattle.giop_octets.proofs.reading.held_at.Given as goal

abbrev pub invariant-loop-octet : goal.invariant-loop-octet
invariant-loop-octet g l = record {
  items : l.inner.items ≡ take l.octet-index (drop (l.offset + 1) l.octets);
  len : array_vec_len l.inner ≡ l.octet-index;
}
