use Rattle.std.proofs.Common.{arith}
use Rattle.tcp_waiting.specs.Layout.{held_in}
use Rattle.tcp_waiting.proofs.Held.{length_held}
use Rattle.tcp_waiting.proofs.Order.{place_within}
use Rattle.tcp_waiting.proofs.pool.Pool.bounds.Goals as goal

pub loop-low-init : goal.loop-low-init
loop-low-init c =
    let a = c.self.inside in
    let n = length_held a.octets.items a.waiting.items in
    let w = place_within c.args.wanted (held_in a.octets.items a.waiting.items) in
    rw (← c.self.view_is) (
      omega arith,
      omega arith,
      omega arith,
    )
