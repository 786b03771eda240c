use Rattle.std.proofs.Common.{sym, ap, ◌∙◌}
use Rattle.tcp_connections.specs.Connections.{stream_start_of}
use Rattle.tcp_connections.proofs.connections.Connections.stream_start_at.Goals as goal

pub returns-in-Some : goal.returns-in-Some
unfolding stream_start_of
returns-in-Some c = c.stream_start.ensures
    ∙ sym (ap stream_start_of (sym c.flow.ensures ∙ c.in-Some.is))

pub returns-in-None : goal.returns-in-None
unfolding stream_start_of
returns-in-None c = sym (ap stream_start_of (sym c.flow.ensures ∙ c.in-None.is))
