use Rattle.std.proofs.Common.{◌≡◌}
use Rattle.tcp_streams.proofs.Told.{told_if}
use Rattle.tcp_streams.proofs.streams.StreamsListener.message_lacks.Goals as goal

pub returns-clause-does : goal.returns-clause-does
returns-clause-does g c events o =
    told_if c.message_lacks.result (λ count. g.L.Listener.observed c.message_lacks.new.self events)
    (λ count. count ≡ g.L.Listener.reader.lacking events c.args.flow) _
    (c.message_lacks.ensures.does events o.0) o.1
