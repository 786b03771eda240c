use Rattle.std.proofs.Common.{◌≡◌, ◌+◌, ◌++◌, replicate}
use Rattle.arrayvec.specs.ArrayVec.{array_vec_len}
use Rattle.giop_octets.proofs.writing.put_zeros.Given as goal

abbrev pub invariant-loop : goal.invariant-loop
invariant-loop g l = record {
  items : l.out.items ≡ l.fn.out.items ++ replicate l.counter 0;
  len : array_vec_len l.out ≡ array_vec_len l.fn.out + l.counter;
}
