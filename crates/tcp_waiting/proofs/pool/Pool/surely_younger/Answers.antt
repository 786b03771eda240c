use Rattle.std.proofs.Common.{arith}
use Rattle.std.proofs.lemmas.Bool.{ltb-true}
use Rattle.tcp_waiting.specs.Layout.{held_in}
use Rattle.tcp_waiting.proofs.Queries.{young}
use Rattle.tcp_waiting.proofs.pool.Pool.surely_younger.Goals as goal

pub returns : goal.returns
returns c h =
    let a = c.self.inside in
    rw (← c.self.view_is) (young a.since c.args.age c.args.time
    (held_in a.octets.items a.waiting.items)
    (omega (arith, ltb-true _ _ h)) c.self.invariant.since)
