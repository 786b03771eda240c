-- How the entries of recursive sequences get the types that were declared (steps).
use Rattle.std.specs.Prelude.{List, Option, Some, None, slice_get}
use Rattle.giop_sig.specs.declared.types.TypeId.{TypeId}
use Rattle.giop_sig.specs.declared.entries.Entry.{Entry}
use Rattle.giop_sig.specs.declared.entries.Entry.TheVariants as entries
use Rattle.giop_sig.specs.declared.entries.EntryWithDepth.{EntryWithDepth}
use Rattle.giop_sig.specs.RequestList.{option_flatten}

abbrev pub type_or_0 : (type : Option TypeId) → TypeId
type_or_0 None = record { 0 = 0 }
type_or_0 (Some t) = t

-- the type that was declared for the announcement at an index
abbrev pub declared_type_id_at : (declared_by_announcement : List (Option TypeId))
    (announcement_index : TypeId) → TypeId
declared_type_id_at targets index = type_or_0 (option_flatten (slice_get targets index.0))

abbrev pub resolved_entry_kind : (declared_by_announcement : List (Option TypeId))
    (type_entry : Entry) → Entry
resolved_entry_kind targets (entries.Recursive bound index) =
    entries.Recursive bound (declared_type_id_at targets index)
resolved_entry_kind targets entry = entry

abbrev pub resolved_entry : (declared_by_announcement : List (Option TypeId))
    (type_entry : EntryWithDepth) → EntryWithDepth
resolved_entry targets p = record p { entry = resolved_entry_kind targets p.entry }
