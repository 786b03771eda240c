use Rattle.std.proofs.Common.{◌≤◌, arith, rules}
use Rattle.std.proofs.lemmas.Fmt.{length-decimal-le}
use Rattle.giop_print.proofs.Blocks.{head_spelled}
use Rattle.giop_print.proofs.head.Head.new.Goals as goal

pub write_digits-at-requires : goal.write_digits-at-requires
write_digits-at-requires c = (
  omega (
    arith,
    length-decimal-le 20 c.args.message (omega arith) (omega arith) c.ranges.message.fits,
    c.head_after_number-end.ensures.room,
  ),
  search rules,
)

pub overflow_sub-octets : goal.overflow_sub-octets
overflow_sub-octets c = omega (
  arith,
  length-decimal-le 20 c.args.message (omega arith) (omega arith) c.ranges.message.fits,
  c.head_after_number-end.ensures.room,
  c.write_digits-at.ensures.start,
)

pub invariant_of-result : goal.invariant_of-result
invariant_of-result c =
    let number = c.write_digits-at.ensures in
    let behind = c.head_after_number-end.ensures in
    let some = overflow_sub-octets c in
    let within : c.write_digits-at.result ≤ 32 = omega (arith, number.start, behind.within) in (
      omega (arith, some),
      head_spelled c.write_digits-at.new.buf c.head_after_number-end.result.0 _ _
          c.write_digits-at.result c.head_after_number-end.result.1 (search rules) some within
          number.written behind.text,
    )
