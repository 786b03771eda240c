use Rattle.std.proofs.Common.{arith}
use Rattle.giop_conversation.proofs.TimeLemmas.{years_closed}
use Rattle.giop_conversation.proofs.times.days_of_years.Goals as goal

pub returns : goal.returns
returns c = grind (arith, years_closed c.args.passed)
