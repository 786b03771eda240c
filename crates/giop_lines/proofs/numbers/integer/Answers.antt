use Rattle.std.proofs.Common.{arith}
use Rattle.giop_lines.proofs.Integers.{integer_negative, integer_positive}
use Rattle.giop_lines.proofs.numbers.integer.Goals as goal

pub returns-in-Some : goal.returns-in-Some
returns-in-Some c =
    integer_negative c.args.text.now c.in-Some.digits.now c.negative_of_digits.result
    c.in-Some.ensures c.negative_of_digits.ensures

pub returns-in_ok-number-in-None : goal.returns-in_ok-number-in-None
returns-in_ok-number-in-None c =
    rw c.ok.ensures.value (integer_positive c.args.text.now c.in_ok-number-in-None.field-0
    c.try_from.result c.in-None.ensures c.in_ok-number-in-None.ensures (omega arith)
    c.try_from.ensures)
