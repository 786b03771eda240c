use Rattle.std.proofs.Common.{rules, arith}
use Rattle.giop_entry_table.proofs.HoldingLemmas.{length-held}
use Rattle.giop_entry_table.proofs.entry_table.EntryTable.len.Goals as goal

pub returns-clause-value : goal.returns-clause-value
returns-clause-value g c = rw (← c.self.view_is, length-held _ _ _ c.self.invariant.0)
    (search rules)

pub returns-clause-few : goal.returns-clause-few
returns-clause-few g c = rw (← c.self.view_is)
    (let few = c.self.invariant.2 in omega (arith, few, c.len.ensures))
