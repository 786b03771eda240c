use Rattle.giop_entry_table.proofs.OptionalIdLemmas.{length-optional}
use Rattle.giop_entry_table.proofs.optional_ids.OptionalIdTable.len.Goals as goal

pub returns-clause-value : goal.returns-clause-value
returns-clause-value g c = rw (← c.self.view_is, length-optional) c.len.ensures.value
