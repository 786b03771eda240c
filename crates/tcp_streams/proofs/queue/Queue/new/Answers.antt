use Rattle.std.proofs.Common.{arith}
use Rattle.tcp_streams.proofs.Placed.{started}
use Rattle.tcp_streams.proofs.queue.Queue.new.Goals as goal

pub invariant_of-result : goal.invariant_of-result
invariant_of-result c = record {
  queue = started c.in_ok-ids.ids.items c.in_ok-stamps.stamps.flows.items c.in_ok-ids.ensures.items;
  room = omega (arith, c.in_ok-ids.ensures.exact);
}
