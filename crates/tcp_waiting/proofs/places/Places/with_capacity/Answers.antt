use Rattle.std.proofs.Common.{arith, refl}
use Rattle.std.specs.List.{IsDistinct}
use Rattle.tcp_waiting.proofs.places.Places.with_capacity.Goals as goal

pub invariant_of-result : goal.invariant_of-result
unfolding IsDistinct
invariant_of-result c = record {
  tied = rw (c.in_ok-order.ensures.items, c.in_ok-slots.ensures.empty) (record {
    distinct = tt;
    held = tt;
    counted = refl;
  });
  order = omega (arith, c.in_ok-order.ensures.most);
  slots = omega (arith, c.in_ok-slots.ensures.capacity);
  small = omega (arith, c.capacity.ensures, c.if-capacity.false);
}
