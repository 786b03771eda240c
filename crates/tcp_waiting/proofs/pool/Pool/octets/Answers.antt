use Rattle.std.proofs.Common.{◌≡◌, ◌+◌, ◌-◌, length, arith, refl, ap}
use Rattle.tcp_waiting.specs.Payload.{no_payload}
use Rattle.tcp_waiting.proofs.Held.{length_held, get_held}
use Rattle.tcp_waiting.proofs.Queries.{here}
use Rattle.tcp_waiting.proofs.pool.Pool.octets.Goals as goal

pub at-here-requires : goal.at-here-requires
at-here-requires c = rw (← c.self.view_is, length_held) at c.requires

pub overflow_add-result : goal.overflow_add-result
overflow_add-result c =
    let h = rw (← c.self.view_is, length_held) at c.requires in
    let k = here _ _ _ _ c.self.invariant.within h c.at-here.ensures in
    omega (arith, k.ends, ap length c.deref.ensures.value)

pub slice_bounds-result-end : goal.slice_bounds-result-end
slice_bounds-result-end c =
    let h = rw (← c.self.view_is, length_held) at c.requires in
    let k = here _ _ _ _ c.self.invariant.within h c.at-here.ensures in
    omega (arith, k.ends, ap length c.deref.ensures.value)

pub returns : goal.returns
returns c =
    let h = rw (← c.self.view_is, length_held) at c.requires in
    let e : c.at-here.result.from + c.at-here.result.count -
    c.at-here.result.from ≡ c.at-here.result.count = omega arith in
    rw (
      ← c.self.view_is,
      get_held c.self.inside.octets.items c.self.inside.waiting.items
          c.args.index c.at-here.result no_payload h c.at-here.ensures,
      e,
      c.deref.ensures.value,
    ) refl
