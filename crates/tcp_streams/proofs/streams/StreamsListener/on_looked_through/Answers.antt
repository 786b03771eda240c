use Rattle.std.proofs.Common.{[], sym, ◌∙◌}
use Rattle.tcp_flow.specs.Flow.{OfCapture, Passes}
use Rattle.tcp_streams.specs.Lives.{lives_behind}
use Rattle.tcp_streams.proofs.Order.{lives_more}
use Rattle.tcp_streams.proofs.streams.StreamsListener.on_looked_through.Goals as goal

pub returns : goal.returns
unfolding lives_behind
returns g c events o = (
  c.on_looked_through.ensures events o.0,
  o.1 ∙ sym (lives_more [] events (OfCapture (Passes c.args.octets.now))),
)
