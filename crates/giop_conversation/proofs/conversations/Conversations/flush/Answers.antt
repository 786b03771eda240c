use Rattle.giop_conversation.proofs.FailingLemmas.{same_on_ok, some_on_err}
use Rattle.giop_conversation.proofs.conversations.Conversations.flush.Goals as goal

pub returns-clause-none : goal.returns-clause-none
returns-clause-none g c = same_on_ok c.flush.result _ _ c.flush.ensures.fails

pub returns-clause-cause : goal.returns-clause-cause
returns-clause-cause g c = some_on_err c.flush.result _ _ c.flush.ensures.fails
