use Rattle.std.proofs.Common.{arith}
use Rattle.tcp_waiting.proofs.Held.{length_held}
use Rattle.tcp_waiting.proofs.pool.Pool.len.Goals as goal

pub returns-clause-held : goal.returns-clause-held
returns-clause-held c = rw (← c.self.view_is)
    (omega (arith, length_held c.self.inside.octets.items c.self.inside.waiting.items))
