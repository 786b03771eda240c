use Rattle.giop_tokens.proofs.RefusalLaws.{next_refused, no_tokens}
use Rattle.giop_tokens.proofs.laws.no_list.Goals as goal

pub returns-clause-place : goal.returns-clause-place
returns-clause-place c = λ text r. next_refused text r

pub returns-clause-none : goal.returns-clause-none
returns-clause-none c = λ text r. no_tokens text r
