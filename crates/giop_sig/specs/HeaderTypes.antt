-- Which built-in types are those of headers and bodies (GIOP Message Formats), and what is true of
-- a whole catalogue (meaning).
use Rattle.std.specs.Prelude.{◌≡◌, ℕ, suc, ◌^◌, ◌<◌, ◌≤◌, ◌⊎◌, List, [], ◌∷◌, ◌++◌, length, Option, Some, None, slice_get, slice_index_or, codes}
use Rattle.std.specs.List.{All}
use Rattle.std.specs.Option.{option_map}
use Rattle.giop_cdr.specs.declared.prim.Primitive.TheVariants.{ULong}
use Rattle.giop_sig.specs.declared.numbers.TheConstants.{SHORT, STRING, IOR, SYSTEM_EXCEPTION, REQUEST_1_0, REQUEST_1_1, REQUEST_1_2, REPLY, REPLY_1_2, ID_ALONE, LOCATE_REQUEST, LOCATE_REQUEST_1_2, LOCATE_REPLY, LOCATE_REPLY_1_2}
use Rattle.giop_sig.specs.declared.types.Fixed.{Fixed}
use Rattle.giop_sig.specs.declared.types.Fixed.TheVariants as fixeds
use Rattle.giop_sig.specs.Types.{Plain, Ty, Single, Struct}
use Rattle.giop_sig.specs.Table.{Node, Operation, Exception, Identity, Table, node_in, no_operation, no_exception, no_identity}
use Rattle.giop_sig.specs.Table as nodes
use Rattle.giop_sig.specs.Trees.{AreTypes, AllHaveParameterTypes, tree}
use Rattle.giop_sig.specs.Builtin.{number_in_version}
use Rattle.giop_sig.specs.AnyTypes.{first_types, first_table}

-- the numbers in version 3 of the header types, for each message type in 1.0, 1.1 and 1.2
abbrev pub header_rows : List (List (Option ℕ))
header_rows =
    -- Request, Reply, CancelRequest, LocateRequest, LocateReply
    (Some REQUEST_1_0 ∷ Some REQUEST_1_1 ∷ Some REQUEST_1_2 ∷ [])
    ∷ (Some REPLY ∷ Some REPLY ∷ Some REPLY_1_2 ∷ [])
    ∷ (Some ID_ALONE ∷ Some ID_ALONE ∷ Some ID_ALONE ∷ [])
    ∷ (Some LOCATE_REQUEST ∷ Some LOCATE_REQUEST ∷ Some LOCATE_REQUEST_1_2 ∷ [])
    ∷ (Some LOCATE_REPLY ∷ Some LOCATE_REPLY ∷ Some LOCATE_REPLY_1_2 ∷ [])
    -- CloseConnection, MessageError
    ∷ (None ∷ None ∷ None ∷ [])
    ∷ (None ∷ None ∷ None ∷ [])
    -- Fragment
    ∷ (None ∷ None ∷ Some ID_ALONE ∷ [])
    ∷ []

abbrev pub flattened_cell : (cell : Option (Option ℕ)) → Option ℕ
flattened_cell None = None
flattened_cell (Some cell) = cell

abbrev pub cell_of_minor : (row_of_message_type : Option (List (Option ℕ))) (giop_minor : ℕ) →
    Option ℕ
cell_of_minor None minor = None
cell_of_minor (Some row) minor = flattened_cell (slice_get row minor)

-- the number of the header type for a minor version of GIOP and a message type, in a version of
-- signature files
abbrev pub header_type_number : (file_version giop_minor message_type : ℕ) → Option ℕ
header_type_number version minor kind =
    option_map (number_in_version version) (cell_of_minor (slice_get header_rows kind) minor)

-- the header type for a minor version of GIOP and a message type
abbrev pub header_type : (file_version giop_minor message_type : ℕ) → Option Ty
header_type version minor kind =
    option_map (tree (first_table version)) (header_type_number version minor kind)

abbrev pub fixed_type_in_version_3 : (undeclared_body : Fixed) → ℕ
fixed_type_in_version_3 fixeds.ExceptionId = STRING
fixed_type_in_version_3 fixeds.SystemException = SYSTEM_EXCEPTION
fixed_type_in_version_3 fixeds.Forward = IOR
fixed_type_in_version_3 fixeds.Addressing = SHORT

-- the number of the type of a body that isn't declared, in a version of signature files
abbrev pub fixed_type_number : (file_version : ℕ) (undeclared_body : Fixed) → ℕ
fixed_type_number version fixed = number_in_version version (fixed_type_in_version_3 fixed)

abbrev pub fixed_type : (file_version : ℕ) (undeclared_body : Fixed) → Ty
fixed_type version fixed = tree (first_table version) (fixed_type_number version fixed)

-- a header that begins with the request id
abbrev pub BeginsWithId : (type : Ty) → Type 0
BeginsWithId T =
    (count : ℕ) × (names : ℕ → List ℕ) × (parts : ℕ → Ty) × (T ≡ Struct (suc count) names parts)
    × (names 0 ≡ codes "request_id") × (parts 0 ≡ Single (Plain ULong))

-- the messages whose request id is read before the type is: all messages of 1.2 that have a header,
-- and each cancel request
abbrev pub RequestIdStandsFirst : (giop_minor message_type : ℕ) → Type 0
RequestIdStandsFirst minor kind = (minor ≡ 2) ⊎ (kind ≡ 2)

-- ---- a catalogue's table

-- an operation whose structs are in the table
pub record IsOperation (types : List Node) (operation : Operation) : Type 0 where
  pub short : length operation.key ≤ 130
  pub request : operation.request < length types
  pub reply : operation.reply < length types

-- an exception whose struct is in the table
pub record IsException (types : List Node) (exception : Exception) : Type 0 where
  pub short : length exception.repository ≤ 128
  pub members : exception.members < length types

-- a type of the table that has a repository id
pub record IsIdentity (types : List Node) (identity : Identity) : Type 0 where
  pub short : length identity.repository ≤ 128
  pub type : identity.type < length types

-- a node that a file of version 1 or 2 may have
abbrev pub IsBeforeVersion3 : (node : Node) → Type 0
IsBeforeVersion3 nodes.wide_text = ⊥
IsBeforeVersion3 nodes.wide_char = ⊥
IsBeforeVersion3 (nodes.marked mark) = ⊥
IsBeforeVersion3 (nodes.any code) = ⊥
IsBeforeVersion3 (nodes.announced index) = ⊥
IsBeforeVersion3 (nodes.recursive bound element) = ⊥
IsBeforeVersion3 (nodes.typecode wide kind cases) = ⊥
IsBeforeVersion3 node = Unit {0}

-- a node that a declaration in a file of a version may add
abbrev pub IsAddable : (file_version : ℕ) (node : Node) → Type 0
IsAddable version (nodes.announced index) = version ≡ 3
IsAddable version (nodes.recursive bound element) = version ≡ 3
IsAddable version node = IsBeforeVersion3 node

abbrev pub AreBeforeVersion3 : (types : List Node) → Type 0
AreBeforeVersion3 types = (i : ℕ) → i < length types → IsBeforeVersion3 (node_in types i)

-- no two elements have the same name
abbrev pub AreDistinct : {X : Type 0} (name_in : X → List ℕ) (element_past_end : X)
    (list : List X) → Type 0
AreDistinct name_in otherwise list =
    (i j : ℕ) → i < length list → j < length list
    → name_in (slice_index_or list i otherwise) ≡ name_in (slice_index_or list j otherwise)
    → i ≡ j

-- The types and the fronts of repository ids from which the type of an any's value is known. Only
-- files of version 3 have wide text, anys, TypeCodes and their parts, and types that are announced.
pub record KnowsAnys (file_version : ℕ) (types : List Node) (id_fronts : List (List ℕ)) :
    Type 0 where
  pub plain : (file_version ≡ 3 → ⊥) → AreBeforeVersion3 types
  pub wide : AllHaveParameterTypes types
  pub short : All (λ front. length front ≤ 129) id_fronts
  pub few : length id_fronts ≤ 65536

-- a table that begins with the types of its version, is within the limits, and has such types
pub record TableOf (HoldsOfTypes : List Node → Type 0) (table : Table) : Type 0 where
  pub types : HoldsOfTypes table.types
  pub begins : (more : List Node) × (table.types ≡ first_types table.version ++ more)
  pub operations : All (IsOperation table.types) table.operations
  pub exceptions : All (IsException table.types) table.exceptions
  pub operations_distinct : AreDistinct (λ o. o.key) no_operation table.operations
  pub exceptions_distinct : AreDistinct (λ e. e.repository) no_exception table.exceptions
  pub operations_few : length table.operations < 2 ^ 32
  pub exceptions_few : length table.exceptions ≤ 4096
  pub declared_few : table.declared ≤ 4096
  pub called_few : table.called ≤ 4096
  pub identities : All (IsIdentity table.types) table.identities
  pub identities_distinct : AreDistinct (λ e. e.repository) no_identity table.identities
  pub interfaces_few : length table.interfaces.names ≤ 1024
  pub anys : KnowsAnys table.version table.types table.fronts

-- the table of a catalogue
abbrev pub IsTable : (table : Table) → Type 0
IsTable t = TableOf AreTypes t
