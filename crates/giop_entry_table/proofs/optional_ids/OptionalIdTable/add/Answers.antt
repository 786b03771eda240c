use Rattle.giop_entry_table.proofs.OptionalIdLemmas.{length-optional, optional-push}
use Rattle.giop_entry_table.proofs.optional_ids.OptionalIdTable.add.Goals as goal

pub add-requires : goal.add-requires
add-requires g c = rw (← c.self.view_is, length-optional) at c.requires

pub returns-clause-entries : goal.returns-clause-entries
returns-clause-entries g c = rw (← c.self.view_is, c.add.ensures.entries)
    (optional-push c.self.inside.without_id c.self.inside.table.entries c.args.key c.args.value
    c.self.invariant)
