use Rattle.std.proofs.Common.{Option, sym, ap, ◌∙◌}
use Rattle.tcp_flow.specs.declared.flow.FlowState.{FlowState}
use Rattle.tcp_connections.specs.Connections.{is_near_due}
use Rattle.tcp_connections.proofs.connections.Connections.is_near_due.Goals as goal

pub returns-in-Some : goal.returns-in-Some
unfolding is_near_due
returns-in-Some c = c.is_near.ensures ∙ sym (ap (λ (o : Option FlowState).
    is_near_due o c.args.number) (sym c.flow.ensures ∙ c.in-Some.is))

pub returns-in-None : goal.returns-in-None
unfolding is_near_due
returns-in-None c = sym (ap (λ (o : Option FlowState). is_near_due o c.args.number)
    (sym c.flow.ensures ∙ c.in-None.is))
