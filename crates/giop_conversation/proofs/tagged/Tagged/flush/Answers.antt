use Rattle.std.proofs.Common.{inl}
use Rattle.giop_conversation.proofs.FailingBelow.{some_failed}
use Rattle.giop_conversation.proofs.tagged.Tagged.flush.Goals as goal

pub invariant_of-self-in-Err : goal.invariant_of-self-in-Err
invariant_of-self-in-Err g c = (
  c.self.invariant.0,
  c.self.invariant.1,
  λ some. inl (some_failed _ _ c.in-Err.ensures.failures),
)
