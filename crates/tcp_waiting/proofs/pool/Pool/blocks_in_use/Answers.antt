use Rattle.tcp_waiting.proofs.pool.Pool.blocks_in_use.Goals as goal

pub returns : goal.returns
returns c = rw (← c.self.view_is) c.self.invariant.used
