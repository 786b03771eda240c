-- The cases of a union as contracts see them, and the list of labels in which a case is searched
-- (state).
use Rattle.std.specs.Prelude.{◌≡◌, ℕ, ◌<◌, Bool, true, List, length, Some, None, slice_index_or}
use Rattle.std.specs.List.{All, Contains}
use Rattle.std.specs.Int.{w64, cast_unsigned, from_bool}
use Rattle.giop_cdr.specs.declared.number.Number.{Number}
use Rattle.giop_cdr.specs.declared.number.Number.TheVariants as numbers
use Rattle.giop_sig.specs.declared.entries.PartEntry.{PartEntry}
use Rattle.giop_sig.specs.declared.entries.CaseEntry.{CaseEntry}
use Rattle.giop_sig.specs.declared.cases.PlacedLabel.{PlacedLabel}
use Rattle.giop_sig.specs.Table.{Part, Case, case_with}

abbrev pub part_view : (part : PartEntry) → Part
part_view p = record { name = p.name; type = p.type_id.0 }

abbrev pub case_view : (union_case : CaseEntry) → Case
case_view c = record { labels = c.labels.items; part = part_view c.part }

-- the key by which a number is sorted; different values of one type have different keys
abbrev pub sort_key_of : (number : Number) → ℕ
sort_key_of (numbers.Unsigned n) = n
sort_key_of (numbers.Signed n) = cast_unsigned w64 n
sort_key_of (numbers.Bits n) = n
sort_key_of (numbers.Truth b) = from_bool b
sort_key_of (numbers.Char n) = n

-- the keys ascend
abbrev pub KeysRise : (labels : List PlacedLabel) → Type 0
KeysRise labels = (i j : ℕ) (d : PlacedLabel) → i < j → j < length labels
    → sort_key_of (slice_index_or labels i d).number < sort_key_of
    (slice_index_or labels j d).number

abbrev pub placed_label : (case_index : ℕ) (label : Number) → PlacedLabel
placed_label i n = record { number = n; index = i }

-- each number of the list selects a case, and the case that a number selects is with it in the list
pub record AreLabels (cases : List Case) (placed_labels : List PlacedLabel) : Type 0 where
  pub each : All (λ l. case_with l.number cases ≡ None → ⊥) placed_labels
  pub whole : (n : Number) (i : ℕ) → case_with n cases ≡ Some i
      → Contains placed_labels (placed_label i n)

-- the labels of the cases; their keys ascend if that is noted
pub record AreLabelsRisingIf (cases : List Case) (placed_labels : List PlacedLabel)
    (rise_is_noted : Bool) : Type 0 where
  pub labels : AreLabels cases placed_labels
  pub order : rise_is_noted ≡ true → KeysRise placed_labels
