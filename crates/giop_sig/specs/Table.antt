-- The table that a catalogue is: one node for each type, which has the numbers of the types of its
-- parts; and the operations and exceptions by their names (meaning).
use Rattle.std.specs.Prelude.{ℕ, zero, suc, nat_lt, ◌+◌, ◌/◌, ◌%◌, ◌<◌, ◌≤◌, ◌==◌, ◌&&◌, Bool, true, false, cond, List, [], ◌∷◌, ◌++◌, length, Option, Some, None, slice_index_or, slice_get, position}
use Rattle.std.specs.Ordering.{int_eq}
use mathlib.Core.Bool.{beq}
use Rattle.std.specs.List.{list_any, All}
use Rattle.std.specs.Option.{option_map, option_and_then}
use Rattle.std.specs.Str.{bytes_eq}
use Rattle.giop_cdr.specs.declared.prim.Primitive.{Primitive}
use Rattle.giop_cdr.specs.declared.prim.Primitive.TheVariants as prims
use Rattle.giop_cdr.specs.declared.number.Number.{Number}
use Rattle.giop_cdr.specs.declared.number.Number.TheVariants as numbers
use Rattle.giop_sig.specs.declared.numbers.TheConstants.{OCTETS}
use Rattle.giop_sig.specs.Kinds.{marked_word}
use Rattle.giop_sig.specs.declared.types.TypeId.{TypeId}
use Rattle.giop_sig.specs.declared.types.OpId.{OpId}
use Rattle.giop_sig.specs.declared.types.InterfaceId.{InterfaceId}
use Rattle.giop_sig.specs.declared.types.Shape.{Shape}
use Rattle.giop_sig.specs.declared.types.Shape.TheVariants as shapes
use Rattle.giop_sig.specs.declared.types.Selected.{Selected}
use Rattle.giop_sig.specs.declared.types.Selected.TheVariants as selecteds
use Rattle.giop_sig.specs.Interfaces.{Interfaces, number_of, with_interface, of_key}

-- ---- nodes

-- a member of a struct or a case of a union: its name, and the number of its type
pub record Part : Type 0 where
  pub name : List ℕ
  pub type : ℕ

-- a case of a union, with the labels that select it
pub record Case : Type 0 where
  pub labels : List Number
  pub part : Part

pub data Node : Type 0 where
  prim : Primitive → Node
  enumeration : List (List ℕ) → Node
  text : Option ℕ → Node
  octets : Option ℕ → Node
  wide_text : Node
  wide_char : Node
  members : List Part → Node
  -- the type of the discriminator, the cases, and what is selected if no label is the number
  union : ℕ → List Case → Selected → Node
  sequence : Option ℕ → ℕ → Node
  array : ℕ → ℕ → Node
  -- octets with a byte order of their own, which hold a value of a type
  encapsulation : ℕ → Node
  -- a tag that determines what comes after it: the special tag, the part that is the tag, the part
  -- after the special tag, and the part after any other tag
  tagged : ℕ → Part → Part → Part → Node
  -- a number of four octets with a mark
  marked : ℕ → Node
  -- an any: the type of the TypeCode that tells the type of its value
  any : ℕ → Node
  -- a struct or union that is announced, with its index among these; no type has it as a part
  announced : ℕ → Node
  -- A sequence, perhaps with a bound, whose elements have a type that was announced. It has the
  -- number of that type; until the file ends, it has the index of the announcement.
  recursive : Option ℕ → ℕ → Node
  -- A TypeCode: the type of its kind, and what comes after each kind. If there is little room,
  -- parts whose types have the first number or a greater one are octets.
  typecode : Option ℕ → ℕ → List Case → Node

-- the node of a type
abbrev pub node_in : (types : List Node) (type_number : ℕ) → Node
node_in types number = slice_index_or types number (prim prims.Octet)

abbrev pub shape_of : (node : Node) → Shape
shape_of (prim p) = shapes.Prim p
shape_of (enumeration names) = shapes.Enumeration (length names)
shape_of (text bound) = shapes.Text bound
shape_of (octets bound) = shapes.Octets bound
shape_of wide_text = shapes.WideText
shape_of wide_char = shapes.WideChar
shape_of (members parts) = shapes.Members (length parts)
shape_of (union switch cases otherwise) = shapes.Union (length cases)
shape_of (sequence bound element) = shapes.Sequence bound
shape_of (array count element) = shapes.Array count
shape_of (encapsulation held) = shapes.Encapsulation
shape_of (tagged special tag inner other) = shapes.Tagged
shape_of (marked mark) = shapes.Marked mark
shape_of (any code) = shapes.Led
shape_of (announced index) = shapes.Members 0
shape_of (recursive bound element) = shapes.Recursive bound
shape_of (typecode wide kind cases) = shapes.Union (length cases)

abbrev pub case_part : (case : Option Case) → Option Part
case_part None = None
case_part (Some c) = Some c.part

abbrev pub element_part : (element_type : ℕ) → Part
element_part element = record { name = []; type = element }

-- a type, or octets instead of a type that needs more room
abbrev pub narrowed_type : (octets_from_type : Option ℕ) (type_number : ℕ) → ℕ
narrowed_type None type = type
narrowed_type (Some wide) type = cond (nat_lt type wide) type OCTETS

abbrev pub narrow_part : (octets_from_type : Option ℕ) (part : Part) → Part
narrow_part wide p = record { name = p.name; type = narrowed_type wide p.type }

-- an any has its TypeCode at index 0, and the type with number n at index n + 1
abbrev pub any_part : (typecode_type part_index : ℕ) → Part
any_part code zero = element_part code
any_part code (suc index) = element_part index

-- the part at an index; an element and the value in an encapsulation are at each index and have no
-- name
abbrev pub part_at : (node : Node) (part_index : ℕ) → Option Part
part_at (members parts) index = slice_get parts index
part_at (union switch cases otherwise) index = case_part (slice_get cases index)
part_at (sequence bound element) index = Some (element_part element)
part_at (array count element) index = Some (element_part element)
part_at (encapsulation held) index = Some (element_part held)
part_at (tagged special tag inner other) index = slice_get (tag ∷ inner ∷ other ∷ []) index
part_at (any code) index = Some (any_part code index)
part_at (recursive bound element) index = Some (element_part element)
part_at (typecode wide kind cases) index =
    option_map (narrow_part wide) (case_part (slice_get cases index))
part_at node index = None

abbrev pub type_of : (part : Option Part) → ℕ
type_of None = 0
type_of (Some p) = p.type

abbrev pub name_of : (part : Option Part) → List ℕ
name_of None = []
name_of (Some p) = p.name

-- the name of an enum's number, or the word of a kind
abbrev pub name_at : (node : Node) (value_number : ℕ) → Option (List ℕ)
name_at (enumeration names) number = slice_get names number
name_at (marked mark) number = marked_word mark number
name_at node number = None

abbrev pub switch_at : (node : Node) → ℕ
switch_at (union switch cases otherwise) = switch
switch_at (tagged special tag inner other) = tag.type
switch_at (typecode wide kind cases) = kind
switch_at node = 0

-- ---- selection

-- whether two numbers are the same value of the same type
abbrev pub same_number : (one other : Number) → Bool
same_number (numbers.Unsigned m) (numbers.Unsigned n) = m == n
same_number (numbers.Signed m) (numbers.Signed n) = int_eq m n
same_number (numbers.Bits m) (numbers.Bits n) = m == n
same_number (numbers.Truth m) (numbers.Truth n) = beq m n
same_number (numbers.Char m) (numbers.Char n) = m == n
same_number _ _ = false

-- the first case with this number among its labels
abbrev pub case_with : (label : Number) (cases : List Case) → Option ℕ
case_with n cases = position (λ c. list_any (λ label. same_number label n) c.labels) cases

abbrev pub case_or : (case_index : Option ℕ) (otherwise : Selected) → Selected
case_or (Some index) otherwise = selecteds.Case index
case_or None otherwise = otherwise

-- what the discriminator's value selects
abbrev pub selected : (node : Node) (discriminator_value : Number) → Selected
selected (union switch cases otherwise) n = case_or (case_with n cases) otherwise
selected (tagged special tag inner other) n =
    cond (same_number (numbers.Unsigned special) n) (selecteds.Case 1) (selecteds.Case 2)
selected (typecode wide kind cases) n = case_or (case_with n cases) selecteds.Nothing
selected node n = selecteds.Nothing

-- ---- the table

-- the key of an operation: the number of its interface, from 1, or 0 if it has none; and then its
-- name
abbrev pub operation_key : (interface_from_1_or_0 : ℕ) (name : List ℕ) → List ℕ
operation_key interface name = interface / 256 ∷ interface % 256 ∷ name

-- an operation of one interface or of none, with the structs of its requests and replies; an
-- operation with a list of interfaces is there for each of them
pub record Operation : Type 0 where
  pub key : List ℕ
  pub request : ℕ
  pub reply : ℕ

-- an exception: its repository id, and the struct of its members
pub record Exception : Type 0 where
  pub repository : List ℕ
  pub members : ℕ

-- An enum, struct or union that has a repository id: the id, and the number of the type. The type
-- after it is the sequence of it without a bound, unless that would be too deep.
pub record Identity : Type 0 where
  pub repository : List ℕ
  pub type : ℕ

-- `version` is that of the signature file, or 1 without one. `types` begin with the built-in ones.
-- `declared` is how many enums, structs and unions the file adds, and `called` how many operations.
-- `forbids_wide` says that a message of 1.0 or 1.1 is read, in which anys and recursive sequences
-- can't hold wide text.
pub record Table : Type 0 where
  pub version : ℕ
  pub types : List Node
  pub operations : List Operation
  pub exceptions : List Exception
  pub declared : ℕ
  pub called : ℕ
  pub interfaces : Interfaces
  pub identities : List Identity
  -- the fronts of these repository ids, each after the octet of its kind: the empty one for each
  -- kind, and the first 32, 64 and 96 octets of each id that has more
  pub fronts : List (List ℕ)
  pub forbids_wide : Bool

-- the table as messages of 1.0 and 1.1 see it, or as others do
abbrev pub seen : (forbids_wide_text : Bool) (table : Table) → Table
seen forbids_wide t = record t { forbids_wide = forbids_wide }

-- Whether anys and recursive sequences can't hold wide text in messages of a minor version. Only
-- tables of version 3 have any.
abbrev pub is_narrow : (giop_minor : ℕ) (table : Table) → Bool
is_narrow minor t = nat_lt minor 2 && t.version == 3

-- the table as messages of a minor version see it
abbrev pub in_version : (giop_minor : ℕ) (table : Table) → Table
in_version minor t = seen (is_narrow minor t) t

abbrev pub node_at : (table : Table) (type_number : ℕ) → Node
node_at t number = node_in t.types number

-- the number of a part's type
abbrev pub part_number : (table : Table) (type_number part_index : ℕ) → ℕ
part_number t id index = type_of (part_at (node_at t id) index)

abbrev pub op_id : (number : ℕ) → OpId
op_id number = record { 0 = number }

abbrev pub type_id : (number : ℕ) → TypeId
type_id number = record { 0 = number }

-- the index of the operation with a key among the operations
abbrev pub operation_number_of_key : (table : Table) (key : List ℕ) → Option ℕ
operation_number_of_key t key = position (λ o. bytes_eq key o.key) t.operations

-- the number of the operation of a name in no interface
abbrev pub operation_number : (table : Table) (name : List ℕ) → Option ℕ
operation_number t name = operation_number_of_key t (operation_key 0 name)

-- the operation of a name in no interface
abbrev pub operation_in : (table : Table) (name : List ℕ) → Option OpId
operation_in t name = option_map op_id (operation_number t name)

abbrev pub or_plain_operation : (interface_operation : Option ℕ) (plain_operation : Option OpId) →
    Option OpId
or_plain_operation (Some number) plain = Some (op_id number)
or_plain_operation None plain = plain

-- the operation of a name in an interface: the one that has the interface in its list, or else the
-- one without a list
abbrev pub operation_for : (table : Table) (name : List ℕ) (interface : Option InterfaceId) →
    Option OpId
operation_for t name None = operation_in t name
operation_for t name (Some i) =
    or_plain_operation (operation_number_of_key t (operation_key (i.0 + 1) name))
    (operation_in t name)

abbrev pub interface_id : (number : ℕ) → InterfaceId
interface_id number = record { 0 = number }

-- the interface with a repository id
abbrev pub named_interface : (table : Table) (repository_id : List ℕ) → Option InterfaceId
named_interface t id = option_map interface_id (position (bytes_eq id) t.interfaces.names)

-- the number of the operation of a name, in the interface with a repository id or in none; an
-- interface that the table doesn't have counts as none
abbrev pub asked_number : (table : Table) (operation_name : List ℕ)
    (interface_repository_id : Option (List ℕ)) → Option ℕ
asked_number t name id =
    option_map (λ o. o.0) (operation_for t name (option_and_then (named_interface t) id))

-- the interface of an object key
abbrev pub interface_in : (table : Table) (object_key : List ℕ) → Option InterfaceId
interface_in t key = option_map interface_id (of_key t.interfaces key)

-- whether there is a KEY
abbrev pub has_keys : (table : Table) → Bool
has_keys t = nat_lt 0 (length t.interfaces.keys)

-- the repository id of an interface
abbrev pub interface_name : (table : Table) (interface_number : ℕ) → List ℕ
interface_name t number = slice_index_or t.interfaces.names number []

abbrev pub no_operation : Operation
no_operation = record { key = []; request = 0; reply = 0 }

abbrev pub operation_at : (table : Table) (operation_index : ℕ) → Operation
operation_at t number = slice_index_or t.operations number no_operation

abbrev pub no_exception : Exception
no_exception = record { repository = []; members = 0 }

abbrev pub exception_members_at : (table : Table) (exception_index : ℕ) → TypeId
exception_members_at t number = type_id (slice_index_or t.exceptions number no_exception).members

-- the struct of the exception with a repository id
abbrev pub exception_in : (table : Table) (repository_id : List ℕ) → Option TypeId
exception_in t repository =
    option_map (exception_members_at t) (position
    (λ e. bytes_eq repository e.repository) t.exceptions)

abbrev pub no_identity : Identity
no_identity = record { repository = []; type = 0 }

abbrev pub identity_type_at : (table : Table) (identity_index : ℕ) → TypeId
identity_type_at t number = type_id (slice_index_or t.identities number no_identity).type

-- the enum, struct or union with a repository id
abbrev pub identified_in : (table : Table) (repository_id : List ℕ) → Option TypeId
identified_in t repository =
    option_map (identity_type_at t) (position (λ e. bytes_eq repository e.repository) t.identities)

-- ---- what is added to a table

abbrev pub with_type : (table : Table) (node : Node) → Table
with_type t node = record t { types = t.types ++ node ∷ [] }

abbrev pub with_operation : (table : Table) (operation : Operation) → Table
with_operation t o = record t { operations = t.operations ++ o ∷ [] }

abbrev pub with_exception : (table : Table) (exception : Exception) → Table
with_exception t e = record t { exceptions = t.exceptions ++ e ∷ [] }

-- one more operation is counted
abbrev pub with_operation_counted : (table : Table) → Table
with_operation_counted t = record t { called = t.called + 1 }

-- an operation in the interface with this number, from 1, or in no interface if it is 0
abbrev pub with_keyed_operation : (interface_from_1_or_0 : ℕ) (name : List ℕ)
    (request_struct reply_struct : ℕ) (table : Table) → Table
with_keyed_operation interface name request reply t = with_operation t
    (record { key = operation_key interface name; request = request; reply = reply })

-- an operation in one interface
abbrev pub with_operation_in_interface : (name : List ℕ) (request_struct reply_struct : ℕ)
    (interface_id : List ℕ) (table : Table) → Table
with_operation_in_interface name request reply id t =
    with_keyed_operation (number_of t.interfaces id + 1) name request reply
    (record t { interfaces = with_interface t.interfaces id })

-- an operation in each interface of a list
abbrev pub with_operation_in_all : (name : List ℕ) (request_struct reply_struct : ℕ)
    (interface_ids : List (List ℕ)) (table : Table) → Table
with_operation_in_all name request reply [] t = t
with_operation_in_all name request reply (id ∷ ids) t =
    with_operation_in_all name request reply ids
    (with_operation_in_interface name request reply id t)

-- an operation in each interface of its list, or in none if it has no list
abbrev pub with_operation_in_list : (name : List ℕ) (request_struct reply_struct : ℕ)
    (interface_ids : List (List ℕ)) (table : Table) → Table
with_operation_in_list name request reply [] t = with_keyed_operation 0 name request reply t
with_operation_in_list name request reply (id ∷ ids) t = with_operation_in_all name request reply
    (id ∷ ids) t

abbrev pub with_identity : (table : Table) (identity : Identity) → Table
with_identity t e = record t { identities = t.identities ++ e ∷ [] }

-- one more enum, struct or union is counted
abbrev pub with_type_counted : (table : Table) → Table
with_type_counted t = record t { declared = t.declared + 1 }

-- ---- what is true of a table

-- whether a type takes an octet
abbrev pub takes_octet : (node : Node) → Bool
takes_octet (members []) = false
takes_octet (announced index) = false
takes_octet node = true

-- a type that takes an octet
abbrev pub TakesOctet : (node : Node) → Type 0
TakesOctet (members []) = ⊥
TakesOctet (announced index) = ⊥
TakesOctet node = Unit {0}

-- a type that the type with number n may have as a part: it has a smaller number, and takes an
-- octet
pub record IsPartNumber (types : List Node) (whole_type part_type : ℕ) : Type 0 where
  pub below : part_type < whole_type
  pub takes : TakesOctet (node_in types part_type)

abbrev pub IsScalarNode : (node : Node) → Type 0
IsScalarNode (prim p) = Unit {0}
IsScalarNode (enumeration names) = Unit {0}
IsScalarNode (marked mark) = Unit {0}
IsScalarNode node = ⊥

pub record IsDiscriminatorNumber (types : List Node) (union_type discriminator_type : ℕ)
    : Type 0 where
  pub below : discriminator_type < union_type
  pub scalar : IsScalarNode (node_in types discriminator_type)

pub record IsPart (types : List Node) (whole_type : ℕ) (part : Part) : Type 0 where
  pub inner : IsPartNumber types whole_type part.type
  pub short : length part.name ≤ 64

-- what is selected otherwise is one of the first `count` cases
abbrev pub IsCaseBelow : (case_count : ℕ) (selected_otherwise : Selected) → Type 0
IsCaseBelow count (selecteds.Case i) = i < count
IsCaseBelow count s = Unit {0}

-- a node that the type with this number may have
abbrev pub IsFormed : (types : List Node) (type_number : ℕ) (node : Node) → Type 0
IsFormed types number (prim p) = Unit {0}
IsFormed types number (enumeration names) =
    (length names ≤ 1024) × All (λ name. length name ≤ 64) names
IsFormed types number (text bound) = Unit {0}
IsFormed types number (octets bound) = Unit {0}
IsFormed types number wide_text = Unit {0}
IsFormed types number wide_char = Unit {0}
IsFormed types number (members parts) = (length parts ≤ 256) × All (IsPart types number) parts
IsFormed types number (union switch cases otherwise) =
    IsDiscriminatorNumber types number switch × (length cases ≤ 256) × All
    (λ c. IsPart types number c.part)
    cases
    × IsCaseBelow (length cases) otherwise
IsFormed types number (sequence bound element) = IsPartNumber types number element
IsFormed types number (array count element) = (0 < count) × IsPartNumber types number element
IsFormed types number (encapsulation held) = IsPartNumber types number held
IsFormed types number (tagged special tag inner other) =
    IsDiscriminatorNumber types number tag.type × IsPart types number tag
    × IsPart types number inner × IsPart
    types number other
IsFormed types number (marked mark) = Unit {0}
IsFormed types number (any code) = IsPartNumber types number code
IsFormed types number (announced index) = Unit {0}
-- its announcement comes before it
IsFormed types number (recursive bound element) = 0 < number
IsFormed types number (typecode wide kind cases) =
    IsDiscriminatorNumber types number kind × (length cases ≤ 256)
    × All (λ c. IsPart types number (narrow_part wide c.part)) cases
