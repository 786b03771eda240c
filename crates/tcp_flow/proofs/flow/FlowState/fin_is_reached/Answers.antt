use Rattle.std.proofs.Common.{refl, sym, ◌∙◌}
use Rattle.tcp_flow.specs.Flow.{fin_is_reached}
use Rattle.tcp_flow.proofs.flow.FlowState.fin_is_reached.Goals as goal

pub returns-then-is_in_step : goal.returns-then-is_in_step
unfolding fin_is_reached
returns-then-is_in_step c = rw (
  c.in-Some.is,
  sym c.is_in_step.ensures ∙ c.if-is_in_step.true,
  c.is_to_come.ensures,
) refl

pub returns-else-is_in_step : goal.returns-else-is_in_step
unfolding fin_is_reached
returns-else-is_in_step c = rw (c.in-Some.is, sym c.is_in_step.ensures ∙ c.if-is_in_step.false)
    c.if-is_in_step.false

pub returns-in-None : goal.returns-in-None
unfolding fin_is_reached
returns-in-None c = rw c.in-None.is refl
