use Rattle.std.proofs.Common.{◌∙◌, sym}
use Rattle.giop_entry_table.proofs.OptionalIdLemmas.{value-optional}
use Rattle.giop_entry_table.proofs.optional_ids.OptionalIdTable.get.Goals as goal

pub returns : goal.returns
returns g c = rw (← c.self.view_is) (c.get.ensures ∙ sym (value-optional _ _ c.args.nth_oldest))
