use Rattle.std.proofs.Common.{◌≡◌, ◌+◌}
use Rattle.httpdate.specs.Calendar.{days_of_years}
use Rattle.giop_conversation.proofs.times.years_and_days_of.Given as goal

abbrev pub invariant-loop-passed : goal.invariant-loop-passed
invariant-loop-passed l = days_of_years l.passed + l.left ≡ l.days
