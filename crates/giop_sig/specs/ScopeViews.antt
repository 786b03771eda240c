-- The fields of a draft as contracts see them: its scope, and what is true of it (state).
use Rattle.std.specs.Prelude.{◌≡◌, ◌⊎◌, ℕ, ◌<◌, ◌≤◌, Bool, true, false, List, ◌++◌, length, map, Option, Some, None}
use Rattle.std.specs.List.{AllByRecursion}
use Rattle.std.specs.Option.{option_map}
use Rattle.std.specs.Str.{bytes_eq}
use Rattle.arrayvec.specs.ArrayVec.{ArrayVec}
use Rattle.giop_sig.specs.declared.types.TypeId.{TypeId}
use Rattle.giop_sig.specs.declared.announced.Announcement.{Announcement}
use Rattle.giop_sig.specs.Table.{Node, Table, IsPartNumber, announced, identified_in, node_in}
use Rattle.giop_sig.specs.AnyTypes.{first_types}
use Rattle.giop_sig.specs.Trees.{AreFormed}
use Rattle.giop_sig.specs.HeaderTypes.{TableOf}
use Rattle.giop_sig.specs.Scopes.{Announced, Scope}

abbrev pub number_of_id : (type : Option TypeId) → Option ℕ
number_of_id t = option_map (λ (x : TypeId). x.0) t

-- whether two keys have the same octets
abbrev pub same_key_octets : (one other : ArrayVec ℕ) → Bool
same_key_octets a b = bytes_eq a.items b.items

abbrev pub name_view : (name_and_type : ArrayVec ℕ × Option TypeId) → List ℕ × Option ℕ
name_view entry = (entry.0.items, option_map (λ t. t.0) entry.1)

abbrev pub announcement_view : (announcement : Announcement) → Announced
announcement_view a = record { word = a.word; type = a.type_id.0 }

abbrev pub announced_view : (name_and_announcement : ArrayVec ℕ × Announcement) → List ℕ × Announced
announced_view entry = (entry.0.items, announcement_view entry.1)

abbrev pub scope_view : (version : ℕ) (table : Table) (known : List (ArrayVec ℕ × Option TypeId))
    (announced : List (ArrayVec ℕ × Announcement)) → Scope
scope_view version t es xs = record {
  table = t;
  names = record {
    version = version;
    known = map name_view es;
    announced = map announced_view xs;
  };
}

-- a type that other types may have as a part
abbrev pub IsKnown : (types : List Node) (type_number : ℕ) → Type 0
IsKnown types number = IsPartNumber types (length types) number

abbrev pub IsKnownType : (types : List Node) (type_number : Option ℕ) → Type 0
IsKnownType types None = Unit {0}
IsKnownType types (Some number) = IsKnown types number

-- a type that stands for an announcement, in version 3
pub record IsAnnounced (version : ℕ) (types : List Node) (type_number : ℕ) : Type 0 where
  pub third : version ≡ 3
  pub below : type_number < length types
  pub is : (index : ℕ) × (node_in types type_number ≡ announced index)

-- a type that the elements of a sequence may have
abbrev pub IsElement : (version : ℕ) (types : List Node) (type_number : ℕ) → Type 0
IsElement version types number = IsKnown types number ⊎ IsAnnounced version types number

-- a type that may be in another one, perhaps as that of a sequence's elements
abbrev pub CanBeInner : (is_sequence_element : Bool) (version : ℕ) (types : List Node)
    (type_number : ℕ) → Type 0
CanBeInner true version types number = IsElement version types number
CanBeInner false version types number = IsKnown types number

-- a name that is announced
abbrev pub IsAnnouncedName : (version : ℕ) (types : List Node)
    (name_and_announced : List ℕ × Announced) → Type 0
IsAnnouncedName version types entry = IsAnnounced version types entry.1.type

pub record IsDeclaredName (types : List Node) (name_and_type : List ℕ × Option ℕ) : Type 0 where
  pub short : length name_and_type.0 ≤ 64
  pub type : IsKnownType types name_and_type.1

-- the table begins with the types of the file's version, and the types of names may be parts
pub record IsScope (scope : Scope) : Type 0 where
  pub begins : (more : List Node) × (scope.table.types ≡ first_types scope.names.version ++ more)
  pub names : AllByRecursion (IsDeclaredName scope.table.types) scope.names.known
  pub announced : AllByRecursion (IsAnnouncedName scope.table.version scope.table.types)
      scope.names.announced

-- a repository id that a type may get, if it gets one
abbrev pub IsNewIdentity : (table : Table) (repository_id : Option (List ℕ)) → Type 0
IsNewIdentity t None = Unit {0}
IsNewIdentity t (Some id) = (length id ≤ 128) × (identified_in t id ≡ None)

-- what is true of a draft, in which a type may be too deep until its declaration ends
pub record IsDraft (draft_scope : Scope) : Type 0 where
  pub scope : IsScope draft_scope
  pub table : TableOf AreFormed draft_scope.table
