use Rattle.std.proofs.Common.{rules, arith}
use Rattle.std.proofs.lemmas.Fmt.{length-decimal-le}
use Rattle.giop_print.proofs.line.Line.put_number.Goals as goal

pub write_digits-self-requires : goal.write_digits-self-requires
write_digits-self-requires c = (
  omega (
    arith,
    length-decimal-le 20 c.args.n (omega arith) (omega arith) c.ranges.n.fits,
    c.requires,
  ),
  search rules,
)

pub returns-clause-most : goal.returns-clause-most
returns-clause-most c =
    omega (
      arith,
      c.write_digits-self.ensures.start,
      length-decimal-le 20 c.args.n (omega arith) (omega arith) c.ranges.n.fits,
    )
