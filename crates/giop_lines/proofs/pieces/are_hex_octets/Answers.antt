use Rattle.std.proofs.Common.{rules, arith, tests}
use Rattle.giop_lines.proofs.Passed.{digits_octets}
use Rattle.giop_lines.proofs.pieces.are_hex_octets.Goals as goal

pub returns-then-digits-from : goal.returns-then-digits-from
returns-then-digits-from c = λ e.
    digits_octets c.args.digits.now (search (rules, arith, tests)) (search (rules, arith))
    (search (rules, arith)) (search (rules, e))
