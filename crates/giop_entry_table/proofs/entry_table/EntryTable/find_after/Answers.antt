use Rattle.std.proofs.Common.{◌+◌, arith}
use Rattle.giop_entry_table.proofs.HoldingLemmas.{length-held, position-entries-after}
use Rattle.giop_entry_table.proofs.entry_table.EntryTable.find_after.Goals as goal

pub overflow_add-index : goal.overflow_add-index
overflow_add-index g c =
    let there = rw (← c.self.view_is, length-held _ _ _ c.self.invariant.0) at c.requires in
    let small = c.self.inside.ids.keys.small in
    omega (arith, there, c.self.invariant.0.as_many, small)

pub first_index_from-requires : goal.first_index_from-requires
first_index_from-requires g c =
    let there = rw (← c.self.view_is, length-held _ _ _ c.self.invariant.0) at c.requires in
    omega (arith, there, c.self.invariant.0.as_many)

pub returns-clause-value : goal.returns-clause-value
returns-clause-value g c =
    let tied = c.self.invariant.0 in
    rw (
      ← c.self.view_is,
      position-entries-after _ _ _ c.args.key (c.args.index + 1) tied.as_many tied.held,
    ) c.first_index_from.ensures.value

pub returns-clause-within : goal.returns-clause-within
returns-clause-within g c =
    let tied = c.self.invariant.0 in
    rw (← c.self.view_is, length-held _ _ _ tied, ← tied.as_many)
    c.first_index_from.ensures.within
