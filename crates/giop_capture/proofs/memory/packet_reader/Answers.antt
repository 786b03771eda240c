-- No connection is known at first.
use Rattle.std.proofs.Common.{[], subst, refl}
use Rattle.tcp_streams.specs.Lives.{lives_from}
use Rattle.tcp_connections.specs.Connections.{none_known}
use Rattle.tcp_connections.specs.State.{IsState}
use Rattle.tcp_connections.proofs.States.{starts}
use Rattle.giop_capture.proofs.memory.packet_reader.Goals as goal

pub returns : goal.returns
unfolding lives_from
returns g c =
    let n = c.in_ok-connections.ensures in
    let s = c.in_ok-streams.streams in
    let O = g.L.Listener.observed s.listener in
    let o : O [] = rw c.in_ok-streams.ensures.is c.requires.start in
    let w = none_known c.args.asked.ports.items c.args.asked.pool c.args.asked.connections [] in
    let state = starts O s.live.items c.in_ok-connections.connections c.args.asked.ports.items
    c.args.asked.pool c.args.asked.connections [] o c.in_ok-streams.ensures.empty (n.start [])
    n.sound n.free n.room n.ranked in
    c.new-3.ensures w (subst (IsState O s.live.items c.in_ok-connections.connections) (n.start [])
    state) refl c.requires.told
