use Rattle.std.proofs.Common.{[], None, refl, arith}
use Rattle.tcp_waiting.specs.Payload.{load_of}
use Rattle.tcp_connections.proofs.Start.{start_sound}
use Rattle.tcp_connections.proofs.connections.Connections.new.Goals as goal

pub returns-clause-sound : goal.returns-clause-sound
returns-clause-sound c =
    start_sound c.args.ports.items c.in_ok-pool.pool.blocks c.args.most 0
    c.in_ok-table.table.keys c.in_ok-table.table.slots c.in_ok-free.free.free.items
    c.in_ok-flows.flows.stamps.last.items c.in_ok-syns.syns.kept.items
    c.in_ok-flows.flows.came.ids.items
    c.in_ok-flows.flows.states.items c.in_ok-pool.pool.held [] (record { time = None; packet = 0 })
    c.in_ok-table.ensures.keys
    c.in_ok-table.ensures.slots c.in_ok-free.ensures.free
    c.in_ok-flows.ensures.lasts c.in_ok-syns.ensures c.in_ok-flows.ensures.came
    c.in_ok-flows.ensures.states
    c.in_ok-pool.ensures.empty refl refl
    c.requires.some.0 c.requires.some.1

pub returns-clause-ranked : goal.returns-clause-ranked
unfolding load_of
returns-clause-ranked c live =
    let n = c.in_ok-givers.ensures in
    record {
      many = omega (arith, n.flows);
      loads = λ id. omega arith;
      ranks = λ id l. n.ranks id (omega (arith, l));
      order = λ a b s. omega (arith, n.numbers a, n.numbers b);
    }
