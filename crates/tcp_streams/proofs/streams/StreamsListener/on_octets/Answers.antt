use Rattle.std.proofs.Common.{◌≡◌, ◌++◌, ◌∷◌, [], sym, ◌∙◌}
use Rattle.tcp_flow.specs.Flow.{Delivers}
use Rattle.tcp_streams.specs.Lives.{lives_behind}
use Rattle.tcp_streams.proofs.Order.{lives_more}
use Rattle.tcp_streams.proofs.Told.{told_if}
use Rattle.tcp_streams.proofs.streams.StreamsListener.on_octets.Goals as goal

pub returns-clause-does : goal.returns-clause-does
unfolding lives_behind
returns-clause-does g c events o =
    told_if c.on_octets.result (λ at. g.L.Listener.observed c.on_octets.new.self
    (events ++ Delivers c.args.flow c.args.octets.now ∷ []))
    (λ at. at ≡ g.L.Listener.reader.faulted
    (events ++ Delivers c.args.flow c.args.octets.now ∷ [])) _
    (c.on_octets.ensures.does events o.0)
    (o.1 ∙ sym (lives_more [] events (Delivers c.args.flow c.args.octets.now)))
