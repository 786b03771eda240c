use Rattle.std.proofs.Common.{sym, ap, ◌∙◌}
use Rattle.tcp_connections.specs.Connections.{is_holding}
use Rattle.tcp_connections.proofs.connections.Connections.is_holding.Goals as goal

pub returns-in-Some : goal.returns-in-Some
unfolding is_holding
returns-in-Some c = c.holds_payload.ensures ∙ sym (ap (is_holding c.args.self.now.pool.held)
    (sym c.flow.ensures ∙ c.in-Some.is))

pub returns-in-None : goal.returns-in-None
unfolding is_holding
returns-in-None c = sym (ap (is_holding c.args.self.now.pool.held)
    (sym c.flow.ensures ∙ c.in-None.is))
