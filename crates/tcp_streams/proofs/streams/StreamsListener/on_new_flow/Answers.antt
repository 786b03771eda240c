use Rattle.std.proofs.Common.{[], sym, ◌∙◌}
use Rattle.tcp_flow.specs.Flow.{Opens}
use Rattle.tcp_streams.specs.Lives.{lives_behind}
use Rattle.tcp_streams.proofs.Order.{lives_more}
use Rattle.tcp_streams.proofs.Told.{told}
use Rattle.tcp_streams.proofs.streams.StreamsListener.on_new_flow.Goals as goal

pub returns-clause-does : goal.returns-clause-does
unfolding lives_behind
returns-clause-does g c events o = told c.on_new_flow.result _ _
    (c.on_new_flow.ensures.does events o.0)
    (o.1 ∙ sym (lives_more [] events (Opens c.args.flow c.args.endpoints)))
