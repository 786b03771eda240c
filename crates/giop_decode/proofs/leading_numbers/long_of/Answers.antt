use Rattle.std.proofs.Common.{◌≡◌, ◌<◌, ◌^◌, arith}
use Rattle.giop_cdr.specs.Numbers.{num}
use Rattle.giop_cdr.proofs.NumberLaws.{num_bound-4}
use Rattle.giop_decode.proofs.leading_numbers.long_of.Goals as goal

pub overflow_cast-result : goal.overflow_cast-result
overflow_cast-result c =
    let f = c.in-Ok-Unsigned.field-0-is in
    let e = rw f at (rw c.in-Ok-Unsigned.is at c.number_of.ensures.ok) in
    let same = c.just_four.ensures in
    let n : num c.args.order c.args.octets.now ≡ c.in-Ok-Unsigned.n = cc in
    let below : num c.args.order c.args.octets.now < 2 ^ 32 =
    num_bound-4 c.args.order c.args.octets.now (rw same at c.number_of.ensures.octets)
    c.requires in
    omega arith
