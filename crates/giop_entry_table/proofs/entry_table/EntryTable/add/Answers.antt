use Rattle.std.proofs.Common.{arith, length-append}
use Rattle.giop_entry_table.proofs.HoldingLemmas.{length-held, IsTied-push, entries-added}
use Rattle.giop_entry_table.proofs.entry_table.EntryTable.add.Goals as goal

pub insert_reserved-number-requires : goal.insert_reserved-number-requires
insert_reserved-number-requires g c =
    let room = rw (← c.self.view_is, length-held _ _ _ c.self.invariant.0) at c.requires in
    omega (arith, room, c.self.invariant.0.counted, c.self.invariant.1.values_fit)

pub push_back_reserved-requires : goal.push_back_reserved-requires
push_back_reserved-requires g c =
    let room = rw (← c.self.view_is, length-held _ _ _ c.self.invariant.0) at c.requires in
    omega (arith, room, c.self.invariant.1.numbers_fit)

pub push_reserved-requires : goal.push_reserved-requires
push_reserved-requires g c =
    let room = rw (← c.self.view_is, length-held _ _ _ c.self.invariant.0) at c.requires in
    omega (arith, room, c.self.invariant.0.as_many, c.self.invariant.1.keys_fit)

pub invariant_of-self : goal.invariant_of-self
invariant_of-self g c =
    let room = rw (← c.self.view_is, length-held _ _ _ c.self.invariant.0) at c.requires in
    let put = c.insert_reserved-number.ensures in
    rw (c.push_back_reserved.ensures.items, c.push_reserved.ensures.items) (
      IsTied-push _ _ _ _ _ _ _ c.self.invariant.0 put.was_vacant put.updates put.len,
      record {
        keys_fit = omega (arith, c.push_reserved.ensures.capacity, c.self.invariant.1.keys_fit);
        numbers_fit = omega (
          arith,
          c.push_back_reserved.ensures.capacity,
          c.self.invariant.1.numbers_fit,
        );
        values_fit = omega (arith, put.capacity, c.self.invariant.1.values_fit);
      },
      rw (length-append c.self.inside.numbers.items _) (omega (arith, room)),
    )

pub returns-clause-entries : goal.returns-clause-entries
returns-clause-entries g c =
    let put = c.insert_reserved-number.ensures in
    rw (← c.self.view_is, c.push_back_reserved.ensures.items, c.push_reserved.ensures.items)
    (entries-added _ _ _ _ _ _ _ c.self.invariant.0 put.was_vacant put.updates)
