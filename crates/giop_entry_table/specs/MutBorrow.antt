-- What becomes of a table that returned a `&mut` to one of its values (meaning).
use Rattle.std.specs.Prelude.{ℕ, Option}
use Rattle.std.specs.Borrow.{Lends, LendsIf, Fml, RattleType, MutBor}
use Rattle.giop_entry_table.specs.EntryTable.{Entries, with_value}
use Rattle.giop_entry_table.specs.contracts.entry_table.EntryTable.{the_row}

module _ (V : RattleType) (r : MutBor (Entries V.Denot)) (index : ℕ) where
  -- after the borrow x ends, the entry at this index has the last value written through x
  abbrev pub lends_value : (value_borrow : MutBor V.Denot) → Fml
  lends_value x = Lends (the_row V) V r x (with_value r.now index)

  -- the same if x is a reference; if x is `None`, the table stays as it is
  abbrev pub lends_get : (value_borrow : Option (MutBor V.Denot)) → Fml
  lends_get x = LendsIf (the_row V) V r x (with_value r.now index) r.now
