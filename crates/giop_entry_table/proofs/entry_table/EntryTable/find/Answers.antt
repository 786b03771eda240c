use Rattle.giop_entry_table.proofs.HoldingLemmas.{length-held, position-entries}
use Rattle.giop_entry_table.proofs.entry_table.EntryTable.find.Goals as goal

pub returns-clause-value : goal.returns-clause-value
returns-clause-value g c =
    let tied = c.self.invariant.0 in
    rw (← c.self.view_is, position-entries _ _ _ c.args.key 0 tied.as_many tied.held)
    c.find.ensures.value

pub returns-clause-within : goal.returns-clause-within
returns-clause-within g c =
    let tied = c.self.invariant.0 in
    rw (← c.self.view_is, length-held _ _ _ tied, ← tied.as_many) c.find.ensures.within
