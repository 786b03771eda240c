use Rattle.std.proofs.Common.{sym, ap, ◌∙◌}
use Rattle.std.specs.Option.{option_map}
use Rattle.giop_entry_table.proofs.HoldingLemmas.{value-at, none-at}
use Rattle.giop_entry_table.proofs.entry_table.EntryTable.get.Goals as goal

pub returns-in-Some : goal.returns-in-Some
returns-in-Some g c =
    let at = c.in-Some.ensures.item in
    rw (← c.self.view_is) (c.get-in-Some.ensures
    ∙ sym (value-at _ _ _ c.args.nth_oldest _ c.self.invariant.0 at.3.0 (at.3.1 0)))

pub returns-in-None : goal.returns-in-None
returns-in-None g c =
    let at = c.in-None.ensures.item in
    rw (← c.self.view_is) (ap (option_map (λ e. e.value))
    (sym (none-at _ _ _ c.args.nth_oldest c.self.invariant.0 at.3)))
