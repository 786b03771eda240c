use Rattle.std.proofs.Common.{sym, ◌∙◌}
use Rattle.giop_entry_table.proofs.OptionalIdLemmas.{length-optional, without_at, optional-push-without}
use Rattle.giop_entry_table.proofs.optional_ids.OptionalIdTable.add_without_id.Goals as goal

pub add-requires : goal.add-requires
add-requires g c = rw (← c.self.view_is, length-optional) at c.requires.room

pub returns-clause-entries : goal.returns-clause-entries
returns-clause-entries g c =
    let only = rw (← c.self.view_is) at c.requires.only in
    let none = sym (without_at c.self.inside.without_id c.self.inside.table.entries
    c.self.invariant) ∙ only in
    rw (← c.self.view_is, c.add.ensures.entries, c.len.ensures.value, none)
    (optional-push-without c.self.inside.table.entries 0 c.args.value)
