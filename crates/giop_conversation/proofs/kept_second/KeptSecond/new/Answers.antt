use Rattle.std.proofs.Common.{sym}
use Rattle.giop_conversation.proofs.TimeLemmas.{first_day, first_second}
use Rattle.giop_conversation.proofs.kept_second.KeptSecond.new.Goals as goal

pub invariant_of-result : goal.invariant_of-result
invariant_of-result c = record { early = first_day.0; spelled = sym first_second }
