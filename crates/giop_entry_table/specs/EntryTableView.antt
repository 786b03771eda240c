-- How a table keeps its entries: it has the ids and the slab numbers in order, and the slab has
-- each value under its number (state).
use Rattle.std.specs.Prelude.{◌≡◌, ℕ, ◌≤◌, eqb, List, [], ◌∷◌, length, Option, Some, None, IsSome}
use Rattle.std.specs.List.{AllByRecursion as Each, IsDistinct}
use Rattle.slab.specs.Slab.{Slab, get, slab_len}
use Rattle.giop_entry_table.specs.declared.entry_table.Entry.{Entry}

module _ {V : Type 0} where
  -- an entry and then others, if the entry's value is there; else only the others
  abbrev pub prepend_entry_if_some : (key : ℕ) (value : Option V) (rest : List (Entry V)) →
      List (Entry V)
  prepend_entry_if_some key None rest = rest
  prepend_entry_if_some key (Some value) rest = record { key = key; value = value } ∷ rest

  -- the entry of each id, with the value that the slab has under its number
  abbrev pub entries_of : (values : Slab V) (keys slab_numbers : List ℕ) → List (Entry V)
  entries_of values [] numbers = []
  entries_of values (key ∷ keys) [] = []
  entries_of values (key ∷ keys) (number ∷ numbers) =
      prepend_entry_if_some key (get values number) (entries_of values keys numbers)

  -- each id has a number of its own, under which the slab has a value, and the slab has no other
  -- value
  pub record MatchesSlab (keys slab_numbers : List ℕ) (values : Slab V) : Type 0 where
    pub as_many : length keys ≡ length slab_numbers
    pub distinct : IsDistinct eqb slab_numbers
    pub held : Each (λ number. IsSome (get values number)) slab_numbers
    pub counted : slab_len values ≡ length slab_numbers

  -- there is room for this number of entries without more memory
  pub record HasRoom (most id_capacity number_capacity : ℕ) (values : Slab V) : Type 0 where
    pub keys_fit : most ≤ id_capacity
    pub numbers_fit : most ≤ number_capacity
    pub values_fit : most ≤ values.capacity
