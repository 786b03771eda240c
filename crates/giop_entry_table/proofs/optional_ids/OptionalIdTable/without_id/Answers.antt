use Rattle.std.proofs.Common.{sym}
use Rattle.giop_entry_table.proofs.OptionalIdLemmas.{length-optional, without_at}
use Rattle.giop_entry_table.proofs.optional_ids.OptionalIdTable.without_id.Goals as goal

pub returns-clause-value : goal.returns-clause-value
returns-clause-value g c = rw (← c.self.view_is)
    (sym (without_at c.self.inside.without_id c.self.inside.table.entries c.self.invariant))

pub returns-clause-within : goal.returns-clause-within
returns-clause-within g c = rw (← c.self.view_is, length-optional) c.self.invariant
