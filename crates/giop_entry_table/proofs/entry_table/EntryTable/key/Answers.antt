use Rattle.std.proofs.Common.{sym, ap, Some}
use Rattle.std.proofs.lemmas.Option.{slice_get-get_or, slice_get_past}
use Rattle.giop_entry_table.proofs.HoldingLemmas.{keys-held}
use Rattle.giop_entry_table.proofs.entry_table.EntryTable.key.Goals as goal

pub returns-in-Some : goal.returns-in-Some
returns-in-Some g c =
    let at = c.in-Some.ensures.item in
    rw (
      ← c.self.view_is,
      keys-held _ _ _ c.args.index c.self.invariant.0,
      slice_get-get_or _ c.args.index 0 at.3.0,
    ) (ap Some (at.3.1 0))

pub returns-in-None : goal.returns-in-None
returns-in-None g c =
    let at = c.in-None.ensures.item in
    rw (← c.self.view_is, keys-held _ _ _ c.args.index c.self.invariant.0)
    (sym (slice_get_past _ c.args.index at.3))
