use Rattle.std.proofs.Common.{length, sym, ap, ◌∙◌}
use Rattle.tcp_connections.specs.Connections.{State}
use Rattle.tcp_connections.proofs.Cases.{none_waits}
use Rattle.tcp_connections.proofs.States.{moved}
use Rattle.tcp_connections.proofs.connections.Connections.hear.Goals as goal

pub returns-then-len-eq0-clause-does : goal.returns-then-len-eq0-clause-does
returns-then-len-eq0-clause-does g c w h =
    moved _ _ _ _ _ (none_waits g.L.Listener.reader w c.args.id c.args.acknowledged c.args.answers
    (ap (λ (u : State). length u.held) (sym h.same) ∙ sym c.len.ensures.held
    ∙ c.if-len-eq0.true)) h
