use Rattle.std.proofs.Common.{sym, arith}
use Rattle.tcp_connections.proofs.Search.{searched, unfound}
use Rattle.tcp_connections.proofs.connections.Connections.slot_of.Goals as goal

pub returns-in-Ok-clause-some : goal.returns-in-Ok-clause-some
returns-in-Ok-clause-some c = (
  c.in-Ok.index,
  record {
    within = omega (arith, c.in-Ok.ensures.range);
    found = searched c.args.pair.now c.args.self.now.table.keys c.in-Ok.index
        c.requires.sound.order c.in-Ok.ensures.index (omega (arith, c.in-Ok.ensures.range));
    slot_is = sym c.slot.ensures;
  },
)

pub returns-in-Err-clause-none : goal.returns-in-Err-clause-none
returns-in-Err-clause-none c none =
    (unfound c.args.pair.now c.args.self.now.table.keys c.in-Err.field-0
    c.requires.sound.order c.in-Err.ensures.index
    (omega (arith, c.in-Err.ensures.range))).0
