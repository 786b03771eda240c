use Rattle.std.proofs.Common.{refl}
use Rattle.giop_message.specs.Messages.{body_may_be_missing}
use Rattle.giop_message.proofs.body_type.body_may_be_missing.Goals as goal

pub returns-in-Nothing : goal.returns-in-Nothing
unfolding body_may_be_missing
returns-in-Nothing c = rw c.in-Nothing.is refl

pub returns-in-Exception : goal.returns-in-Exception
unfolding body_may_be_missing
returns-in-Exception c = rw c.in-Exception.is refl

pub returns-in-SystemException : goal.returns-in-SystemException
unfolding body_may_be_missing
returns-in-SystemException c = rw c.in-SystemException.is refl
