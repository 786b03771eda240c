-- Request lists: which text is which list of entries, and which operation a list gives for a
-- request id (docs/FORMATS.md; meaning).
use Rattle.std.specs.Prelude.{◌≡◌, ℕ, ◌+◌, ◌^◌, ◌<◌, ◌≤◌, ◌==◌, ◌&&◌, ◌⊎◌, Bool, IsTrue, IfSome, List, [], ◌∷◌, ◌++◌, length, map, filter, Option, Some, None, nat_eq, option_and_then, not, if◌then◌else◌}
use Rattle.std.specs.List.{All, list_all, onto_first}
use Rattle.std.specs.Map.{lookup}
use Rattle.std.specs.Option.{option_eq, option_map}
use Rattle.std.specs.Set.{distinct_count}
use Rattle.std.specs.Str.{bytes_eq}
use Rattle.std.specs.Fmt.{decimal}
use Rattle.giop_sig.specs.Table.{Table}
use Rattle.giop_sig.specs.declared.types.OpId.{OpId}
use Rattle.giop_sig.specs.declared.fault.ListFaultKind.{ListFaultKind}
use Rattle.giop_sig.specs.declared.fault.ListFaultKind.TheVariants.{Syntax, Limit, OutOfMemory}

-- ---- the text

-- the lines of a text, each ended by LF; the last LF may be missing
abbrev pub lines : (text : List ℕ) → List (List ℕ)
lines [] = []
lines (b ∷ bs) = if b == 10 then [] ∷ lines bs else onto_first b (lines bs)

-- what a request asked for: the name of an operation, and perhaps the repository id of an interface
pub record Asked : Type 0 where
  pub name : List ℕ
  pub interface : Option (List ℕ)

-- one line of a list: a request with this id asked for this
pub record Entry : Type 0 where
  pub id : ℕ
  pub asked : Asked

-- a printable octet of ASCII other than a space
abbrev pub IsNameOctet : (octet : ℕ) → Type 0
IsNameOctet octet = (33 ≤ octet) × (octet ≤ 126)

-- a name is 1 to 128 such octets
pub record IsName (name : List ℕ) : Type 0 where
  pub some : 0 < length name
  pub short : length name ≤ 128
  pub octets : All IsNameOctet name

-- whether a line may have a third word: it may if the catalogue has version 3
abbrev pub allows_third_word : (table : Table) → Bool
allows_third_word C = C.version == 3

-- what an entry may ask for; a repository id is spelled like a name
pub record IsAsked (third_word_allowed : Bool) (asked : Asked) : Type 0 where
  pub name : IsName asked.name
  pub interface : IfSome asked.interface (λ id. IsTrue third_word_allowed × IsName id)

-- an entry that a line may be
pub record IsEntry (third_word_allowed : Bool) (entry : Entry) : Type 0 where
  pub id : entry.id < 2 ^ 32
  pub asked : IsAsked third_word_allowed entry.asked

-- a name, or a name, a space and a repository id
abbrev pub words : (operation_name : List ℕ) (interface_id : Option (List ℕ)) → List ℕ
words name None = name
words name (Some id) = name ++ 32 ∷ id

-- the line of an entry: its id in decimal without leading zeros, a space, and its words
abbrev pub line_of : (entry : Entry) → List ℕ
line_of e = decimal e.id ++ 32 ∷ words e.asked.name e.asked.interface

-- the line is that of an entry
abbrev pub IsEntryLine : (third_word_allowed : Bool) (line : List ℕ) → Type 0
IsEntryLine third_word line = (e : Entry) × IsEntry third_word e × (line ≡ line_of e)

-- the text is the list of these entries
pub record Lists (third_word_allowed : Bool) (text : List ℕ) (listed_entries : List Entry)
    : Type 0 where
  pub octets : length text ≤ 16777216
  pub count : length listed_entries ≤ 65536
  pub entries : All (IsEntry third_word_allowed) listed_entries
  pub spelled : lines text ≡ map line_of listed_entries

-- ---- the refusals

-- the lines before the k-th one, which is this, are entries
pub record ReachesLine (third_word_allowed : Bool) (text : List ℕ) (entries_before : List Entry)
    (line : List ℕ) (line_number_from_1 : ℕ) : Type 0 where
  pub octets : length text ≤ 16777216
  pub entries : All (IsEntry third_word_allowed) entries_before
  pub rest : (after : List (List ℕ)) × (lines text ≡ map line_of entries_before ++ line ∷ after)
  pub number : line_number_from_1 ≡ length entries_before + 1

-- the first line that is refused is the k-th, for this reason: it isn't an entry, or the text is
-- too long, or the line is an entry too many
abbrev pub IsRefusedAs : (third_word_allowed : Bool) (text : List ℕ) (first_refused_line_from_1 : ℕ)
    (refusal_kind : ListFaultKind) → Type 0
IsRefusedAs third_word text k Syntax =
    (es : List Entry) × (line : List ℕ) × ReachesLine third_word text es line k
    × (length es ≤ 65536) × ¬ (IsEntryLine third_word line)
IsRefusedAs third_word text k Limit =
    ((16777216 < length text) × (k ≡ 1))
    ⊎ ((es : List Entry) × (line : List ℕ) × ReachesLine third_word text es line k
    × (length es ≡ 65536) × IsEntryLine third_word line)
IsRefusedAs third_word text k OutOfMemory = k ≡ 0

-- ---- the operation of an id

-- what the entries with an id ask for
abbrev pub asked_of : (entries : List Entry) (request_id : ℕ) → List Asked
asked_of entries id = map (λ e. e.asked) (filter (λ e. id == e.id) entries)

-- whether the names are the same, and so are the interfaces, or there are none
abbrev pub same_asked : (one other : Asked) → Bool
same_asked a b = bytes_eq a.name b.name && option_eq bytes_eq a.interface b.interface

-- the one that all of these are the same as
abbrev pub common_asked : (all_asked : List Asked) → Option Asked
common_asked [] = None
common_asked (a ∷ others) = if list_all (same_asked a) others then Some a else None

-- gives the number of the operation with a name, in the interface with a repository id or in none
abbrev pub OperationLookup : Type 0
OperationLookup = List ℕ → Option (List ℕ) → Option ℕ

-- the operation of an id, if all its entries have the same name and the same interface or none
abbrev pub operation_of : (find : OperationLookup) (entries : List Entry) (request_id : ℕ) →
    Option ℕ
operation_of find entries id =
    option_and_then (λ a. find a.name a.interface) (common_asked (asked_of entries id))

-- ---- what is stored of a list: the ids, each once, and their operations

abbrev pub option_flatten : {A : Type 0} (x : Option (Option A)) → Option A
option_flatten None = None
option_flatten (Some x) = x

-- the operation that is stored for an id
abbrev pub kept_operation : (stored_by_id : List (ℕ × Option OpId)) (request_id : ℕ) → Option OpId
kept_operation kept id = option_flatten (lookup (nat_eq id) kept)

-- the ids of entries, each once, in the order of their first entries
abbrev pub ids_of : (entries : List Entry) → List ℕ
ids_of [] = []
ids_of (e ∷ es) = e.id ∷ filter (λ id. not (id == e.id)) (ids_of es)

-- the operation with a number
abbrev pub as_operation : (operation_number : ℕ) → OpId
as_operation number = record { 0 = number }

-- the ids, each with what all its entries ask for
abbrev pub common_asked_by_id : (entries : List Entry) → List (ℕ × Option Asked)
common_asked_by_id entries = map (λ id. (id, common_asked (asked_of entries id))) (ids_of entries)

-- an id with the operation that is found for what is asked for
abbrev pub with_found_operation : (find : OperationLookup) (id_and_asked : ℕ × Option Asked) → ℕ
    × Option OpId
with_found_operation find entry =
    (entry.0, option_map as_operation (option_and_then (λ a. find a.name a.interface) entry.1))

-- what is stored of a list: its ids, each with the operation that is found
abbrev pub operations_by_id : (find : OperationLookup) (entries : List Entry) → List
    (ℕ × Option OpId)
operations_by_id find entries =
    map (λ id. (id, option_map as_operation (operation_of find entries id))) (ids_of entries)

-- what is stored gives the same operations as the list
pub record AgreesWithList (find : OperationLookup) (entries : List Entry)
    (stored_by_id : List (ℕ × Option OpId)) : Type 0 where
  pub operation : (id : ℕ) → option_map (λ o. o.0) (kept_operation stored_by_id id)
      ≡ operation_of find entries id
  pub count : length stored_by_id ≡ distinct_count nat_eq (map (λ e. e.id) entries)

-- what all entries of an id ask for, after one more entry
abbrev pub merged_asked : (asked_before : Option (Option Asked)) (asked_by_next_entry : Asked) →
    Option Asked
merged_asked None a = Some a
merged_asked (Some None) a = None
merged_asked (Some (Some b)) a = if same_asked b a then Some b else None
