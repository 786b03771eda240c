use Rattle.std.proofs.Common.{◌≡◌, ◌+◌, ◌++◌, take}
use Rattle.arrayvec.specs.ArrayVec.{array_vec_len}
use Rattle.tcp_segment.proofs.text.put.Given as goal

abbrev pub invariant-loop-octet : goal.invariant-loop-octet
invariant-loop-octet l = record {
  items : l.out.items ≡ l.fn.out.items ++ take l.octet-index l.text;
  len : array_vec_len l.out ≡ array_vec_len l.fn.out + l.octet-index;
}
