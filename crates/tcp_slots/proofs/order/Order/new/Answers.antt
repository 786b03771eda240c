use Rattle.std.proofs.Common.{arith}
use Rattle.tcp_slots.proofs.Blocks.{none_filled, more_filled}
use Rattle.tcp_slots.proofs.order.Order.new.Goals as goal

pub loop-alloc-init : goal.loop-alloc-init
loop-alloc-init c =
    let n = none_filled c.in_ok-blocks.blocks.items c.in_ok-blocks.ensures.items in record {
      few = omega (arith, c.in_ok-blocks.ensures.len);
      fit = omega (arith, c.in_ok-blocks.ensures.exact);
      each = n.0;
      filled = n.1;
      none = n.2;
    }

pub loop-alloc-preserved : goal.loop-alloc-preserved
loop-alloc-preserved c =
    let i = c.loop-alloc.invariant in
    let p = c.push_reserved.ensures in
    let n = more_filled c.loop-alloc.blocks.items c.in_ok-block.block c.push_reserved.new.self.items
    p.items c.in_ok-block.ensures.items c.in_ok-block.ensures.capacity i.each i.none in record {
      few = omega (arith, i.few, p.len, c.loop-alloc-test.true, c.len.ensures);
      fit = omega (arith, i.fit, p.capacity);
      each = n.0;
      filled = n.1;
      none = n.2;
    }
