use Rattle.std.proofs.Common.{◌<◌, length, ap, sym, ◌∙◌, arith, ℕ, nat_lt}
use Rattle.tcp_waiting.specs.Payload.{no_payload}
use Rattle.tcp_waiting.specs.Layout.{held_in}
use Rattle.tcp_waiting.proofs.Held.{length_held}
use Rattle.tcp_waiting.proofs.Order.{before_is}
use Rattle.tcp_waiting.proofs.Queries.{key_here}
use Rattle.tcp_waiting.proofs.pool.Pool.key_at.Goals as goal

pub at-here-requires : goal.at-here-requires
at-here-requires c =
    let a = c.self.inside in
    omega (arith, rw (← c.self.view_is) at c.requires, length_held a.octets.items a.waiting.items)

pub returns : goal.returns
returns c wanted =
    let a = c.self.inside in
    let held = held_in a.octets.items a.waiting.items in
    let l : c.args.place < length held = rw (← c.self.view_is) at c.requires in
    let l' : c.args.place < length a.waiting.items =
    omega (arith, length_held a.octets.items a.waiting.items) in
    rw (← c.self.view_is) (ap (λ (k : ℕ). nat_lt k wanted) (c.key.ensures
    ∙ sym (key_here a.octets.items a.waiting.items c.args.place c.at-here.result no_payload
    c.self.invariant.within l' c.at-here.ensures))
    ∙ before_is wanted held c.args.place no_payload c.self.invariant.ordered l)
