use Rattle.std.proofs.Common.{◌*◌, arith}
use Rattle.giop_print.proofs.Spelling.{last_digits}
use Rattle.giop_print.proofs.line.Line.put_bits.Goals as goal

pub returns-clause-text : goal.returns-clause-text
returns-clause-text c =
    let size = c.args.octets in
    rw (
      c.put_lanes.ensures.text,
      c.number_digits.ensures,
      c.from.ensures,
      last_digits (2 * size) c.args.n (omega (arith, c.requires.octets)),
    )
