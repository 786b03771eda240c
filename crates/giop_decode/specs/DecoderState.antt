-- What a decoder holds of the octets that it has taken, with a table: it reads as messages of its
-- version see the table (state).
use Rattle.std.specs.Prelude.{◌≡◌, ℕ, List}
use Rattle.giop_decode.specs.declared.decoder.Decoder.{Decoder}
use Rattle.giop_decode.specs.declared.progress.Progress.{Progress}
use Rattle.giop_decode.specs.ReadResult.{Coding}
use Rattle.giop_decode.specs.Runs as runs
use Rattle.giop_decode.specs.SeenState as states
use Rattle.giop_print.specs.declared.path.Root.{Root}
use Rattle.giop_sig.specs.Table.{Table, is_narrow, seen}
use Rattle.giop_sig.specs.Types.{Ty}
pub use Rattle.giop_decode.specs.SeenState.{NotesFitRoot, CanStandAt, GoesOn, HoldsNoted, HoldsNoKey, IsAnswer, IsDone, IsFault, BufferHolds, IsInterfaceOfKey, KeepsNoted, added_lines, key_octets_held, interface_of, read_by_fields, read_by_leaf, status_of, interface_of_key}

-- a decoder for a message of this minor version
abbrev pub IsOfVersion : (giop_minor_version : ℕ) (C : Table) (d : Decoder) → Type 0
IsOfVersion minor C d = d.forbids_wide ≡ is_narrow minor C

-- a decoder keeps the version that it is for
abbrev pub KeepsVersion : (old new : Decoder) → Type 0
KeepsVersion old new = new.forbids_wide ≡ old.forbids_wide

abbrev pub Fits : (C : Table) (d : Decoder) → Type 0
Fits C d = states.Fits (seen d.forbids_wide C) d

abbrev pub Reads : (C : Table) (T : Ty) (coding : Coding) (offset_of_first_octet message_number : ℕ)
    (root : Root) (d : Decoder) (octets : List ℕ) → Type 0
Reads C T coding at message root d octets =
    states.Reads (seen d.forbids_wide C) T coding at message root d octets

abbrev pub Takes : (C : Table) (T : Ty) (coding : Coding) (offset_of_first_octet message_number : ℕ)
    (root : Root) (d : Decoder) (octets_taken_before : List ℕ) (next_octet : ℕ) (p : Progress) →
    Type 0
Takes C T coding at message root d octets octet p =
    states.Takes (seen d.forbids_wide C) T coding at message root d octets octet p

abbrev pub TakesRun : (C : Table) (T : Ty) (coding : Coding)
    (offset_of_first_octet message_number : ℕ) (root : Root) (d : Decoder)
    (octets_taken_before octets_of_run : List ℕ) (last_answer : Progress) → Type 0
TakesRun C T coding at message root d taken octets p =
    runs.TakesRun (seen d.forbids_wide C) T coding at message root d taken octets p
