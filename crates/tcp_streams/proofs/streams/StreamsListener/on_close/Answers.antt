use Rattle.std.proofs.Common.{[], sym, ap, ◌∙◌}
use Rattle.tcp_flow.specs.Flow.{Closes}
use Rattle.tcp_streams.specs.Lives.{lives_behind, with_closed}
use Rattle.tcp_streams.proofs.Order.{lives_more}
use Rattle.tcp_streams.proofs.Told.{told}
use Rattle.tcp_streams.proofs.streams.StreamsListener.on_close.Goals as goal

pub returns-clause-does : goal.returns-clause-does
unfolding lives_behind
returns-clause-does g c events o =
    told c.on_close.result _ _ (c.on_close.ensures.does events o.0)
    (c.end.ensures ∙ ap (with_closed c.args.flow c.args.cause) o.1
    ∙ sym (lives_more [] events (Closes c.args.flow c.args.cause)))
