use Rattle.tcp_flow.proofs.States.{stale_state}
use Rattle.tcp_flow.proofs.flow.FlowState.go_on_with_none_due.Goals as goal

pub returns-clause-does : goal.returns-clause-does
returns-clause-does g c f h =
    stale_state _ _ _ _ _ (c.in_ok-close_at_fin.ensures.does f h) c.drop_stale_fin.ensures.does
