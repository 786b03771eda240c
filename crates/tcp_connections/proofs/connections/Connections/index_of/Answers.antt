use Rattle.std.proofs.Common.{arith}
use Rattle.tcp_connections.proofs.Search.{searched, unfound}
use Rattle.tcp_connections.proofs.Sound.{some_none}
use Rattle.tcp_connections.proofs.connections.Connections.index_of.Goals as goal

pub returns-in-Ok-clause-index : goal.returns-in-Ok-clause-index
returns-in-Ok-clause-index c =
    searched c.args.pair.now c.args.self.now.table.keys c.in-Ok.index
    c.requires.sound.order c.in-Ok.ensures.index (omega (arith, c.in-Ok.ensures.range))

pub returns-in-Err : goal.returns-in-Err
returns-in-Err c =
    absurd (some_none _ c.requires.known.0 c.requires.known.1
    (unfound c.args.pair.now c.args.self.now.table.keys c.in-Err.index
    c.requires.sound.order c.in-Err.ensures.index
    (omega (arith, c.in-Err.ensures.range))).0)
