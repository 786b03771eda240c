use Rattle.std.proofs.Common.{arith}
use Rattle.giop_lines.proofs.Decimals.{same_number}
use Rattle.giop_lines.proofs.numbers.ordinal.Goals as goal

pub returns-in-0 : goal.returns-in-0
returns-in-0 c = λ n some small e.
    let same = same_number c.args.digits.now c.in_ok-n.n n (omega arith) small
    c.in_ok-n.ensures e in
    omega (arith, same, c.in-0.is)
