use Rattle.std.proofs.Common.{arith}
use Rattle.giop_conversation.proofs.TimeLemmas.{years_short, year_next, year_found}
use Rattle.giop_conversation.specs.Times.{years_to_9999}
use Rattle.giop_conversation.proofs.times.years_and_days_of.Goals as goal

pub loop-passed-preserved : goal.loop-passed-preserved
loop-passed-preserved c = omega (arith, year_next c.loop-passed.passed)

pub returns-then-left-length : goal.returns-then-left-length
returns-then-left-length c =
    year_found c.args.days c.loop-passed.passed c.loop-passed.left (omega arith)
    c.loop-passed.invariant (omega arith)

pub returns-in_default : goal.returns-in_default
returns-in_default c = omega (arith, years_short years_to_9999)

pub overflow_sub-left : goal.overflow_sub-left
overflow_sub-left c = omega (arith, years_short c.min-first.result)

pub loop-passed-init : goal.loop-passed-init
loop-passed-init c = omega (arith, years_short c.min-first.result)
