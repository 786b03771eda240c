-- What a save writes to files (meaning).
use Rattle.std.specs.Prelude.{◌≡◌, ℕ, Bool, ◌==◌, ◌&&◌, bit_and, if◌then◌else◌, List, [], ◌∷◌, ◌++◌, Option, None, Some, Result, MatchResult}
use Rattle.giop_stream.specs.Checkpoint.{Spells}
use Rattle.giop_stream.specs.EngineHolds.{Holds}
use Rattle.giop_stream.specs.EngineView.{EngineView}
use Rattle.giop_run.specs.declared.part.Rights.{Rights}

-- a file that was written whole: its name and its octets
pub record Saved : Type 0 where
  pub name : List ℕ
  pub octets : List ℕ

-- These octets are the checkpoint of each stream that the engine holds.
abbrev pub SpellsAll : (engine : EngineView) (checkpoint_octets : List ℕ) → Type 0
SpellsAll e octets = (p : List ℕ) → Holds e p → Spells octets e.table e.request_table e.most p

-- a checkpoint of the engine was saved in the file of this name, if the saved files are known
abbrev pub SavedOneMore : (saved_before saved_after : Option (List Saved)) (file_name : List ℕ)
    (engine : EngineView) → Type 0
SavedOneMore None after name e = Unit {0}
SavedOneMore (Some before) after name e =
    (octets : List ℕ) × SpellsAll e octets
    × (after ≡ Some (before ++ record { name = name; octets = octets } ∷ []))

-- what a save did: the engine's checkpoint is in the file of this name, or nothing was saved
abbrev pub SavesOne : {A E : Type 0} (result : Result A E)
    (saved_before saved_after : Option (List Saved)) (file_name : List ℕ) (engine : EngineView) →
    Type 0
SavesOne result before after name e =
    MatchResult result (λ _. SavedOneMore before after name e) (λ _. after ≡ before)

-- whether a file has the user and the group of another one, and only one name
abbrev pub may_inherit_mode : (replaced own : Rights) → Bool
may_inherit_mode old own = old.user == own.user && (old.group == own.group && old.names == 1)

-- the mode that a part gets from the file that it replaces, if that file is alike: the bits that
-- say who may read, write and run it
abbrev pub inherited_mode : (own : Rights) (replaced : Option Rights) → Option ℕ
inherited_mode own None = None
inherited_mode own (Some old) =
    if may_inherit_mode old own then Some (bit_and old.mode 0o777) else None
