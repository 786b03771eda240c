use Rattle.std.proofs.Common.{arith, ◌∙◌}
use Rattle.std.proofs.lemmas.List.Edits.{length-remove}
use Rattle.giop_entry_table.proofs.OptionalIdLemmas.{length-optional, value-optional, optional-remove, within-removed}
use Rattle.giop_entry_table.proofs.optional_ids.OptionalIdTable.remove.Goals as goal

pub remove-requires : goal.remove-requires
remove-requires g c = rw (← c.self.view_is, length-optional) at c.requires

pub invariant_of-self : goal.invariant_of-self
invariant_of-self g c =
    let there = rw (← c.self.view_is, length-optional) at c.requires in
    rw c.index_after_removal-without_id.ensures (within-removed c.self.inside.without_id
    c.args.index _
    (rw c.remove.ensures.len c.self.invariant) (omega (arith, there, c.remove.ensures.len)))

pub returns-clause-value : goal.returns-clause-value
returns-clause-value g c =
    rw (← c.self.view_is) (value-optional c.self.inside.without_id c.self.inside.table.entries
    c.args.index ∙ c.remove.ensures.value)

pub returns-clause-entries : goal.returns-clause-entries
returns-clause-entries g c =
    let there = rw (← c.self.view_is, length-optional) at c.requires in
    rw (← c.self.view_is, c.remove.ensures.entries, c.index_after_removal-without_id.ensures)
    (optional-remove c.self.inside.without_id c.self.inside.table.entries c.args.index there)

pub returns-clause-len : goal.returns-clause-len
returns-clause-len g c =
    rw (returns-clause-entries g c) (length-remove _ c.args.index c.requires)
