use Rattle.std.proofs.Common.{◌^◌, arith}
use Rattle.giop_lines.proofs.Decimals.{is_written, is_number}
use Rattle.giop_lines.proofs.numbers.ulong.Goals as goal

pub returns : goal.returns
returns c =
    let ds = c.args.digits.now in
    let n = c.in_ok-number.field-0 in
    rw c.ok.ensures.value (is_number (2 ^ 32) (omega arith) ds n c.try_from.result
    (is_written ds n (omega arith) c.in_ok-number.ensures) c.try_from.ensures)
