use Rattle.std.proofs.Common.{arith}
use Rattle.giop_cdr.specs.declared.number.Number.TheVariants as numbers
use Rattle.giop_sig.proofs.CaseLabels.{rise_further}
use Rattle.giop_sig.proofs.cases.keys_rise.Goals as goal

pub loop-index-preserved : goal.loop-index-preserved
loop-index-preserved c =
    rise_further c.args.labels.now c.loop-index.index
    (record { number = numbers.Unsigned 0; index = 0 }) (omega arith) (omega arith)
    (omega (
      arith,
      c.sort_key_of.ensures,
      c.sort_key_of-in-loop-index.ensures,
      c.if-sort_key_of.false,
    ))
    c.loop-index.invariant
