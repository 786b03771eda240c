-- What becomes of a table that returned a `&mut` to one of its values, if an entry may lack an id
-- (meaning).
use Rattle.std.specs.Prelude.{ℕ, Option}
use Rattle.std.specs.Borrow.{LendsIf, Fml, RattleType, MutBor}
use Rattle.giop_entry_table.specs.OptionalIds.{OptionalIdEntries, with_value}
use Rattle.giop_entry_table.specs.contracts.optional_ids.OptionalIdTable.{the_row}

module _ (V : RattleType) (r : MutBor (OptionalIdEntries V.Denot)) (index : ℕ) where
  -- after the borrow x ends, the entry at this index has the last value written through x; if x is
  -- `None`, the table stays as it is
  abbrev pub lends_get : (value_borrow : Option (MutBor V.Denot)) → Fml
  lends_get x = LendsIf (the_row V) V r x (with_value r.now index) r.now
