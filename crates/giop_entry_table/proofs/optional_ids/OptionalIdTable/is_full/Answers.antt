use Rattle.giop_entry_table.proofs.OptionalIdLemmas.{length-optional}
use Rattle.giop_entry_table.proofs.optional_ids.OptionalIdTable.is_full.Goals as goal

pub returns : goal.returns
returns g c = rw (← c.self.view_is, length-optional) c.is_full.ensures
