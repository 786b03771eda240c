-- What the TypeCode of an any tells about the value of the any (CDR Transfer Syntax, Pseudo-Object
-- Types, TypeCode and any; meaning). The kind, the repository id, a count of members and a bound
-- tell something; names don't.
use Rattle.std.specs.Prelude.{ℕ, zero, suc, ◌+◌, ◌==◌, nat_le, nat_lt, cond, Bool, true, false, List, [], ◌∷◌, ◌++◌, length, take, Option, Some, None, position, slice_index_or}
use Rattle.std.specs.List.{list_any}
use Rattle.std.specs.Str.{bytes_eq}
use Rattle.giop_sig.specs.declared.numbers.TheConstants.{OCTET, CHAR, BOOLEAN, SHORT, USHORT, LONG, ULONG, LONGLONG, ULONGLONG, FLOAT, DOUBLE, STRING, OCTETS, IOR, ANY, TYPE_CODE, SEQUENCES, REFERENCES, WIDE_CHAR, WIDE_STRING}
use Rattle.giop_sig.specs.declared.types.TypeId.{TypeId}
use Rattle.giop_sig.specs.Types.{Sign, MarkedNumber, Counted, Spelt, InferredType, Awaits, Offers, Is, Empty, Unknown, Sequel, Then, Ends, Stops}
use Rattle.giop_sig.specs.Table.{Node, Table, node_at, identified_in}
use Rattle.giop_sig.specs.Table as nodes

-- ---- kinds

-- What each kind tells, from 0 on. A struct, a union and an enum are known by their repository ids,
-- of which no octet has come yet (the first three fronts). A sequence and an alias are known by the
-- type in them.
abbrev pub inferred_by_kinds : List InferredType
inferred_by_kinds =
    Empty ∷ Empty ∷ Is SHORT ∷ Is LONG ∷ Is USHORT ∷ Is ULONG ∷ Is FLOAT ∷ Is DOUBLE ∷ Is BOOLEAN
    ∷ Is CHAR ∷ Is OCTET ∷ Is ANY ∷ Is TYPE_CODE ∷ Is OCTETS ∷ Is IOR ∷ Awaits 0
    ∷ Awaits 1 ∷ Awaits 2 ∷ Is STRING ∷ Unknown ∷ Unknown ∷ Unknown ∷ Unknown
    ∷ Is LONGLONG ∷ Is ULONGLONG ∷ Unknown ∷ Is WIDE_CHAR ∷ Is WIDE_STRING ∷ []

abbrev pub inferred_by_kind : (typecode_kind : ℕ) → InferredType
inferred_by_kind kind = slice_index_or inferred_by_kinds kind Unknown

-- ---- sequences

abbrev pub is_sequence_of : (element_type_number : ℕ) (node : Node) → Bool
is_sequence_of number (nodes.sequence None element) = element == number
is_sequence_of number node = false

-- for a type that has a repository id, or for wide text: the next type, if it is the sequence of
-- that type
abbrev pub next_sequence : (table : Table) (element_type_number : ℕ) → InferredType
next_sequence t number =
    cond (is_sequence_of number (node_at t (number + 1))) (Is (number + 1)) Unknown

-- what is told by a sequence of a type, whatever its bound
abbrev pub inferred_sequence : (table : Table) (element_type_number : ℕ) → InferredType
inferred_sequence t number =
    cond (number == OCTET) (Is OCTETS) (cond (nat_le number STRING) (Is (SEQUENCES + number))
    (cond (number == IOR) (Is REFERENCES) (next_sequence t number)))

-- ---- ids and counts

-- the kind of a type, if it is a struct, a union or an enum
abbrev pub typecode_kind : (node : Node) → ℕ
typecode_kind (nodes.union switch cases otherwise) = 16
typecode_kind (nodes.enumeration names) = 17
typecode_kind node = 15

-- what a type with the right repository id and kind tells: a struct or an enum is known after its
-- count, and a union at once
abbrev pub inferred_by_id_kind : (typecode_kind type_number : ℕ) (node : Node) → InferredType
inferred_by_id_kind kind number (nodes.members parts) = cond (kind == 15) (Offers number) Unknown
inferred_by_id_kind kind number (nodes.union switch cases otherwise) =
    cond (kind == 16) (Is number) Unknown
inferred_by_id_kind kind number (nodes.enumeration names) = cond (kind == 17)
    (Offers number) Unknown
inferred_by_id_kind kind number node = Unknown

abbrev pub inferred_if_found : (table : Table) (typecode_kind : ℕ)
    (type_with_repository_id : Option TypeId) → InferredType
inferred_if_found t kind None = Unknown
inferred_if_found t kind (Some i) = inferred_by_id_kind kind i.0 (node_at t i.0)

-- what is told by a whole repository id, after the octet of its kind
abbrev pub inferred_by_id : (table : Table) (kind_then_repository_id : List ℕ) → InferredType
inferred_by_id t [] = Unknown
inferred_by_id t (kind ∷ id) = inferred_if_found t kind (identified_in t id)

-- the fronts with one more, if it is new
abbrev pub with_front : (fronts : List (List ℕ)) (front_if_new : List ℕ) → List (List ℕ)
with_front fronts front = cond (list_any (bytes_eq front) fronts) fronts (fronts ++ front ∷ [])

-- the fronts with that of the first `count` octets of an id, if the id has more
abbrev pub with_front_of_length : (typecode_kind : ℕ) (repository_id : List ℕ)
    (front_octet_count : ℕ) (fronts : List (List ℕ)) → List (List ℕ)
with_front_of_length kind id count fronts =
    cond (nat_lt count (length id)) (with_front fronts (kind ∷ take count id)) fronts

-- the fronts with those of an id of a type of this kind: a string comes in pieces of 32 octets
abbrev pub with_fronts : (typecode_kind : ℕ) (repository_id : List ℕ) (fronts : List (List ℕ)) →
    List (List ℕ)
with_fronts kind id fronts =
    with_front_of_length kind id 96 (with_front_of_length kind id 64
    (with_front_of_length kind id 32 fronts))

-- the front with this number
abbrev pub front_at : (table : Table) (front_index : ℕ) → List ℕ
front_at t number = slice_index_or t.fronts number []

abbrev pub awaited_front : (front_index : Option ℕ) → InferredType
awaited_front None = Unknown
awaited_front (Some number) = Awaits number

-- what is told by the octets of a repository id that have come, after the octet of its kind; and
-- whether more come
abbrev pub inferred_by_id_part : (table : Table) (kind_then_id_so_far : List ℕ)
    (more_pieces_come : Bool) → InferredType
inferred_by_id_part t octets true = awaited_front (position (bytes_eq octets) t.fronts)
inferred_by_id_part t octets false = inferred_by_id t octets

-- whether a struct has `count` members, or an enum `count` names
abbrev pub has_count : (member_or_name_count : ℕ) (node : Node) → Bool
has_count count (nodes.members parts) = length parts == count
has_count count (nodes.enumeration names) = length names == count
has_count count node = false

abbrev pub inferred_by_count : (table : Table) (type_number member_count : ℕ) → InferredType
inferred_by_count t number count = cond (has_count count (node_at t number)) (Is number) Unknown

-- the fronts before the first octet of an id: of a struct, a union and an enum
abbrev pub first_fronts : List (List ℕ)
first_fronts = (15 ∷ []) ∷ (16 ∷ []) ∷ (17 ∷ []) ∷ []

-- ---- what is told, and what follows

-- after the bound of a sequence
abbrev pub inferred_after_bound : (table : Table) (inferred_element : InferredType) → InferredType
inferred_after_bound t (Is i) = inferred_sequence t i
inferred_after_bound t told = Unknown

-- after something that tells nothing: if an id is awaited, only its pieces may come
abbrev pub inferred_unless_awaited : (inferred_before : InferredType) → InferredType
inferred_unless_awaited (Awaits n) = Unknown
inferred_unless_awaited told = told

-- after a count
abbrev pub inferred_after_count : (table : Table) (inferred_before : InferredType)
    (member_count : ℕ) → InferredType
inferred_after_count t (Offers i) count = inferred_by_count t i count
inferred_after_count t told count = inferred_unless_awaited told

-- after a piece of a string
abbrev pub inferred_after_piece : (table : Table) (inferred_before : InferredType)
    (string_piece : List ℕ) (more_pieces_come : Bool) → InferredType
inferred_after_piece t (Awaits n) octets more = inferred_by_id_part t (front_at t n ++ octets) more
inferred_after_piece t told octets more = told

-- what has been told after a sign; mark 0 is that of a kind, and mark 1 that of a sequence's bound
abbrev pub inferred_after : (table : Table) (inferred_before : InferredType) (sign : Sign) →
    InferredType
inferred_after t told (MarkedNumber zero n) = inferred_by_kind n
inferred_after t told (MarkedNumber (suc zero) n) = inferred_after_bound t told
inferred_after t told (MarkedNumber mark n) = inferred_unless_awaited told
inferred_after t told (Counted n) = inferred_after_count t told n
inferred_after t told (Spelt octets more) = inferred_after_piece t told octets more

-- what was told selects a type, if it can follow
abbrev pub selects : (type_number_can_follow : ℕ → Bool) (inferred : InferredType) → Sequel
selects can_follow (Is i) = cond (can_follow i) (Then i) Stops
selects can_follow Empty = Ends
selects can_follow told = Stops
