use Rattle.std.proofs.Common.{arith}
use Rattle.tcp_slots.proofs.Keys.{none_known}
use Rattle.tcp_slots.proofs.slot_table.SlotTable.new.Goals as goal

pub invariant_of-result : goal.invariant_of-result
invariant_of-result g c =
    let n = none_known c.in_ok-last.last.items c.in_ok-order.order.items
    c.in_ok-order.ensures.items in record {
      few = c.requires;
      memory = c.in_ok-order.ensures.most;
      keys = omega (arith, c.in_ok-last.ensures.len, c.in_ok-last.last.ok.0);
      as_many = n.1;
      known = n.2;
    }

pub returns-clause-keys : goal.returns-clause-keys
returns-clause-keys g c = (none_known c.in_ok-last.last.items c.in_ok-order.order.items
    c.in_ok-order.ensures.items).0
