use Rattle.std.proofs.Common.{arith}
use Rattle.giop_lines.proofs.Integers.{negative_is}
use Rattle.giop_lines.proofs.numbers.negative_of_digits.Goals as goal

pub returns : goal.returns
returns c =
    let o = c.in_ok-ordinal.ensures in
    negative_is c.args.digits.now c.in_ok-ordinal.field-0 c.checked_sub_unsigned.result o.0 o.1
    (omega arith) c.checked_sub_unsigned.ensures
