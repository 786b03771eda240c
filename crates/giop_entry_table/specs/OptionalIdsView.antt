-- How a table keeps entries of which one may lack an id: all of them are in a table of entries with
-- ids, and beside it stands the index of the one without an id, if there is one (state).
use Rattle.std.specs.Prelude.{ℕ, zero, suc, List, [], ◌∷◌, Option, Some, None}
use Rattle.giop_entry_table.specs.declared.entry_table.Entry.{Entry}
use Rattle.giop_entry_table.specs.declared.optional_ids.OptionalIdEntry.{OptionalIdEntry}

-- the key of the first entry, if this is the index of the entry without an id
abbrev pub first_key : (index_without_id : Option ℕ) (first_entry_key : ℕ) → Option ℕ
first_key None key = Some key
first_key (Some zero) key = None
first_key (Some (suc index)) key = Some key

-- the index of the entry without an id among the entries after the first one
abbrev pub index_in_tail : (index_without_id : Option ℕ) → Option ℕ
index_in_tail None = None
index_in_tail (Some zero) = None
index_in_tail (Some (suc index)) = Some index

module _ {V : Type 0} where
  -- the entries, if this is the index of the one without an id
  abbrev pub with_optional_ids : (index_without_id : Option ℕ) (entries : List (Entry V)) →
      List (OptionalIdEntry V)
  with_optional_ids index [] = []
  with_optional_ids index (e ∷ es) =
      record { key = first_key index e.key; value = e.value }
      ∷ with_optional_ids (index_in_tail index) es

-- the index of the entry without an id after the entry at this index is removed: no index if it is
-- that one
abbrev pub index_after_removal : (index_without_id : Option ℕ) (removed_index : ℕ) → Option ℕ
index_after_removal None removed = None
index_after_removal (Some zero) zero = None
index_after_removal (Some (suc index)) zero = Some index
index_after_removal (Some zero) (suc removed) = Some zero
index_after_removal (Some (suc index)) (suc removed) = up (index_after_removal (Some index) removed)
  where
    up : Option ℕ → Option ℕ
    up None = None
    up (Some n) = Some (suc n)
