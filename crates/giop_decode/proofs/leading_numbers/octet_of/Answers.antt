use Rattle.std.proofs.Common.{◌≡◌, arith}
use Rattle.giop_cdr.specs.Numbers.{num}
use Rattle.giop_cdr.proofs.NumberLaws.{num_bound}
use Rattle.giop_decode.proofs.leading_numbers.octet_of.Goals as goal

pub overflow_cast-result : goal.overflow_cast-result
overflow_cast-result c =
    let f = c.in-Ok-Unsigned.field-0-is in
    let e = rw f at (rw c.in-Ok-Unsigned.is at c.number_of.ensures.ok) in
    let n : num c.args.order c.args.octets.now ≡ c.in-Ok-Unsigned.n = cc in
    let below = rw c.requires at
    (num_bound c.args.order c.args.octets.now c.number_of.ensures.octets) in
    omega arith
