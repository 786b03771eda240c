use Rattle.std.proofs.Common.{sym}
use Rattle.tcp_waiting.proofs.Counts.{far_none}
use Rattle.tcp_waiting.proofs.pool.Pool.holds_beyond_window.Goals as goal

pub returns-then-surely_holds_none : goal.returns-then-surely_holds_none
returns-then-surely_holds_none c = sym (far_none c.args.flow c.args.next c.args.self.now.held
    (c.surely_holds_none.ensures c.if-surely_holds_none.true))
