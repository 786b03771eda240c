use Rattle.std.proofs.Common.{sym, subst}
use Rattle.giop_capture.proofs.teller.TellerListener.message_lacks.Goals as goal

pub returns-in-Ok-clause-does : goal.returns-in-Ok-clause-does
returns-in-Ok-clause-does g c = λ events h. (
  rw c.in-Ok.ensures.kept h,
  c.in-Ok.ensures.value events h.0,
)
