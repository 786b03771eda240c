use Rattle.std.proofs.Common.{◌+◌, length}
use Rattle.tcp_streams.specs.Lives.{lives}
use Rattle.tcp_connections.specs.Connections.{gaps_from, ended}
use Rattle.tcp_connections.proofs.Closing.{none_at_end}
use Rattle.tcp_connections.proofs.States.{before_end}
use Rattle.tcp_connections.proofs.connections.Connections.end.Goals as goal

pub returns-clause-does : goal.returns-clause-does
unfolding ended
returns-clause-does g c w h = c.close_all.ensures.does _
    (before_end _ _ _ _ (c.in_ok-make_end_gaps.ensures.does w
    (rw (c.pack.ensures.listener, c.pack.ensures.live) h)))

pub returns-clause-none : goal.returns-clause-none
returns-clause-none g c =
    let F = g.L.Listener.reader in
    let w = c.requires.state.0 in
    let count = length w.held + length (lives w.events) in
    let h = c.in_ok-make_end_gaps.ensures.does w
    (rw (c.pack.ensures.listener, c.pack.ensures.live) c.requires.state.1) in
    none_at_end _ (g.L.Listener.observed c.close_all.new.to.listener)
    c.close_all.new.to.live.items c.close_all.new.self (gaps_from F count 0 w) h.told
    (c.close_all.ensures.does _ (before_end _ _ _ _ h))
