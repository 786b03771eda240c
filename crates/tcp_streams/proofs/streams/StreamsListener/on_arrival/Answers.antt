use Rattle.std.proofs.Common.{[], sym, ◌∙◌}
use Rattle.tcp_flow.specs.Flow.{OfCapture, ComesFrom}
use Rattle.tcp_streams.specs.Lives.{lives_behind}
use Rattle.tcp_streams.proofs.Order.{lives_more}
use Rattle.tcp_streams.proofs.streams.StreamsListener.on_arrival.Goals as goal

pub returns : goal.returns
unfolding lives_behind
returns g c events o = (
  c.on_arrival.ensures events o.0,
  o.1 ∙ sym (lives_more [] events (OfCapture (ComesFrom c.args.arrival))),
)
