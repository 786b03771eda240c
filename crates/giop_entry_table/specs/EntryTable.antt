-- What a table is to its callers: entries, each an id and a value, in the order in which they were
-- added, and the greatest number of entries (meaning).
use Rattle.std.specs.Prelude.{ℕ, zero, suc, List, [], ◌∷◌, refl}
use Rattle.std.specs.Coded.{Coded, code_by, coded×, coded_ℕ, coded_list}
use Rattle.giop_entry_table.specs.declared.entry_table.Entry.{Entry}

-- the entries in the order in which they were added, and the greatest number of them
pub record Entries (V : Type 0) : Type 0 where
  pub most : ℕ
  pub entries : List (Entry V)

-- an entry is stored as the pair of its fields
abbrev pub entry_code : {V : Type 0} → (value_code : Coded V) → Coded (Entry V)
entry_code {V} code =
    code_by (ℕ × V) (coded× coded_ℕ code) (λ e. (e.key, e.value))
    (λ p. record { key = p.0; value = p.1 }) (λ _. refl)

-- a table is stored as the pair of its fields
abbrev pub entries_code : {V : Type 0} → (value_code : Coded V) → Coded (Entries V)
entries_code {V} code =
    code_by (ℕ × List (Entry V)) (coded× coded_ℕ (coded_list (entry_code code)))
    (λ r. (r.most, r.entries)) (λ p. record { most = p.0; entries = p.1 }) (λ _. refl)

module _ {V : Type 0} where
  -- the entries after the one at this index got this value
  abbrev pub replace_value : (entries : List (Entry V)) (index : ℕ) (value : V) → List (Entry V)
  replace_value [] index value = []
  replace_value (e ∷ es) zero value = record e { value = value } ∷ es
  replace_value (e ∷ es) (suc index) value = e ∷ replace_value es index value

  -- the table after the entry at this index got this value
  abbrev pub with_value : (table : Entries V) (index : ℕ) (value : V) → Entries V
  with_value r index value = record r { entries = replace_value r.entries index value }
