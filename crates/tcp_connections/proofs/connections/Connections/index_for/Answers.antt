use Rattle.std.proofs.Common.{sym, arith}
use Rattle.tcp_connections.proofs.Search.{searched, unfound}
use Rattle.tcp_connections.proofs.Sound.{some_none}
use Rattle.tcp_connections.proofs.connections.Connections.index_for.Goals as goal

pub returns-in-Ok-clause-index : goal.returns-in-Ok-clause-index
returns-in-Ok-clause-index c =
    absurd (some_none _ c.in-Ok.index
    (searched c.args.pair.now c.args.self.now.table.keys c.in-Ok.index c.requires.sound.order
    c.in-Ok.ensures.index (omega (
      arith,
      c.in-Ok.ensures.range,
    ))) c.requires.new)

pub returns-in-Err-clause-index : goal.returns-in-Err-clause-index
returns-in-Err-clause-index c =
    sym (unfound c.args.pair.now c.args.self.now.table.keys c.in-Err.index
    c.requires.sound.order c.in-Err.ensures.index
    (omega (arith, c.in-Err.ensures.range))).1
