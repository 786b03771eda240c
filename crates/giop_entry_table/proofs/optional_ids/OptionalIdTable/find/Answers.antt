use Rattle.std.proofs.Common.{sym, ◌∙◌}
use Rattle.giop_entry_table.proofs.OptionalIdLemmas.{length-optional, found_at, found_past, not_found}
use Rattle.giop_entry_table.proofs.optional_ids.OptionalIdTable.find.Goals as goal

pub returns-then-is_at-clause-value : goal.returns-then-is_at-clause-value
returns-then-is_at-clause-value g c =
    let index = sym c.find.ensures.value ∙ c.in-Some.is in
    let same = sym c.is_at.ensures ∙ c.if-is_at.true in
    rw (← c.self.view_is) (c.find_after.ensures.value
    ∙ sym (found_past c.self.inside.without_id c.args.key c.self.inside.table.entries _ index same))

pub returns-then-is_at-clause-within : goal.returns-then-is_at-clause-within
returns-then-is_at-clause-within g c =
    rw (← c.self.view_is, length-optional) c.find_after.ensures.within

pub returns-else-is_at-clause-value : goal.returns-else-is_at-clause-value
returns-else-is_at-clause-value g c =
    let index = sym c.find.ensures.value ∙ c.in-Some.is in
    let apart = sym c.is_at.ensures ∙ c.if-is_at.false in
    rw (← c.self.view_is)
    (sym (found_at c.self.inside.without_id c.args.key c.self.inside.table.entries _ index apart))

pub returns-else-is_at-clause-within : goal.returns-else-is_at-clause-within
returns-else-is_at-clause-within g c =
    rw (← c.self.view_is, length-optional) c.in-Some.ensures.within

pub returns-in-None-clause-value : goal.returns-in-None-clause-value
returns-in-None-clause-value g c =
    let none = sym c.find.ensures.value ∙ c.in-None.is in
    rw (← c.self.view_is)
    (sym (not_found c.self.inside.without_id c.args.key c.self.inside.table.entries none))
