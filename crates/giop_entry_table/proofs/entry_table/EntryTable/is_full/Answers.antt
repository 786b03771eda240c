use Rattle.std.proofs.Common.{refl}
use Rattle.giop_entry_table.proofs.entry_table.EntryTable.is_full.Goals as goal

pub returns : goal.returns
returns g c = rw (c.len.ensures.value, ← c.self.view_is) refl
