use Rattle.tcp_flow.specs.Flow.{gone_on_with_held}
use Rattle.tcp_flow.proofs.flow.FlowState.go_on_with_held.Goals as goal

pub returns-clause-does : goal.returns-clause-does
unfolding gone_on_with_held
returns-clause-does g c f h = c.go_on_with_none_due.ensures.does _
    (c.in_ok-drain_due.ensures.does f h)
