use Rattle.std.proofs.Common.{arith}
use Rattle.giop_entry_table.proofs.HoldingLemmas.{IsTied-none}
use Rattle.giop_entry_table.proofs.entry_table.EntryTable.new.Goals as goal

pub invariant_of-result : goal.invariant_of-result
invariant_of-result g c =
    let keys = c.in_ok-with_capacity.ensures in
    let numbers = c.in_ok-with_capacity-2.ensures in
    let values = c.in_ok-with_capacity-3.ensures in
    rw (keys.items, numbers.items) (
      IsTied-none _ values.empty,
      record {
        keys_fit = keys.capacity;
        numbers_fit = numbers.capacity;
        values_fit =
            values.capacity;
      },
      omega arith,
    )
