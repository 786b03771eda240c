use Rattle.std.proofs.Common.{arith}
use Rattle.giop_cdr.proofs.Spelling.{spelled_small}
use Rattle.giop_cdr.proofs.number.heaviest_first.Goals as goal

pub overflow_mul-n : goal.overflow_mul-n
overflow_mul-n c = omega (
  arith,
  spelled_small c.loop-octet.octet-index c.loop-octet.n
      c.loop-octet.invariant.bound (omega arith),
)
