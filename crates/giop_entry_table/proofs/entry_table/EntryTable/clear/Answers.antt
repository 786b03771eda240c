use Rattle.std.proofs.Common.{arith}
use Rattle.giop_entry_table.proofs.HoldingLemmas.{IsTied-none}
use Rattle.giop_entry_table.proofs.entry_table.EntryTable.clear.Goals as goal

pub invariant_of-self : goal.invariant_of-self
invariant_of-self g c =
    rw (c.clear.ensures.items, c.clear-2.ensures.items) (
      IsTied-none _ c.clear-3.ensures.empty,
      record {
        keys_fit = omega (arith, c.clear.ensures.capacity, c.self.invariant.1.keys_fit);
        numbers_fit = omega (arith, c.clear-2.ensures.capacity, c.self.invariant.1.numbers_fit);
        values_fit = omega (arith, c.clear-3.ensures.capacity, c.self.invariant.1.values_fit);
      },
      omega arith,
    )
