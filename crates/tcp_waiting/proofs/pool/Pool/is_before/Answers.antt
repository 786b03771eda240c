use Rattle.std.proofs.Common.{sym, arith}
use Rattle.std.proofs.lemmas.Bool.{le-ltb}
use Rattle.tcp_waiting.specs.Layout.{held_in}
use Rattle.tcp_waiting.proofs.Held.{length_held}
use Rattle.tcp_waiting.proofs.Order.{place_within}
use Rattle.tcp_waiting.proofs.pool.Pool.is_before.Goals as goal

pub returns-then-place-len : goal.returns-then-place-len
returns-then-place-len c =
    let a = c.self.inside in
    let held = held_in a.octets.items a.waiting.items in
    rw (← c.self.view_is) (sym (le-ltb _ _ (omega (
      arith,
      place_within c.args.wanted held,
      length_held a.octets.items a.waiting.items,
    ))))
