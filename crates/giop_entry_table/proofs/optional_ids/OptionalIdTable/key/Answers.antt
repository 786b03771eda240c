use Rattle.std.proofs.Common.{sym, ◌∙◌}
use Rattle.giop_entry_table.proofs.OptionalIdLemmas.{key-there, key-past}
use Rattle.giop_entry_table.proofs.optional_ids.OptionalIdTable.key.Goals as goal

pub returns-then-is_at : goal.returns-then-is_at
returns-then-is_at g c =
    let same = sym c.is_at.ensures ∙ c.if-is_at.true in
    let key = key-there c.self.inside.without_id c.self.inside.table.entries c.args.index
    c.in-Some.key (sym c.key.ensures ∙ c.in-Some.is) in
    rw (← c.self.view_is) (sym (rw same at key))

pub returns-else-is_at : goal.returns-else-is_at
returns-else-is_at g c =
    let apart = sym c.is_at.ensures ∙ c.if-is_at.false in
    let key = key-there c.self.inside.without_id c.self.inside.table.entries c.args.index
    c.in-Some.key (sym c.key.ensures ∙ c.in-Some.is) in
    rw (← c.self.view_is) (sym (rw apart at key))

pub returns-in-None : goal.returns-in-None
returns-in-None g c = rw (← c.self.view_is)
    (sym (key-past c.self.inside.without_id c.self.inside.table.entries c.args.index
    (sym c.key.ensures ∙ c.in-None.is)))
