-- What becomes of outstanding calls. They are entries under request ids, the oldest first
-- (meaning).
use Rattle.std.specs.Prelude.{◌≡◌, ℕ, ◌==◌, ◌-◌, not, false, List, [], ◌∷◌, length, drop}
use Rattle.std.specs.List.{AllByRecursion as Each, filter}
use Rattle.giop_entry_table.specs.declared.entry_table.Entry.{Entry}

module _ {V : Type 0} where
  -- the calls of other ids
  abbrev pub without : (request_id : ℕ) (calls : List (Entry V)) → List (Entry V)
  without id calls = filter (λ e. not (e.key == id)) calls

  -- the newest of the calls, at most `most` of them
  abbrev pub newest : (most_calls : ℕ) (calls : List (Entry V)) → List (Entry V)
  newest most calls = drop (length calls - most) calls

  -- each call has an id of its own
  abbrev pub HaveDistinctIds : (entries : List (Entry V)) → Type 0
  HaveDistinctIds [] = Unit
  HaveDistinctIds (e ∷ es) = Each (λ other. (other.key == e.key) ≡ false) es × HaveDistinctIds es
