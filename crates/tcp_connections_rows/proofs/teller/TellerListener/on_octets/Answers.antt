use Rattle.std.proofs.Common.{sym, ◌∙◌}
use Rattle.tcp_flow.specs.Flow.{Delivers}
use Rattle.tcp_connections_rows.proofs.Readers.{last_more}
use Rattle.tcp_connections_rows.proofs.teller.TellerListener.on_octets.Goals as goal

pub returns-clause-does : goal.returns-clause-does
returns-clause-does c events o = (
  tt,
  c.fault_at.ensures ∙ sym (last_more events (Delivers c.args.flow c.args.octets.now)),
)
