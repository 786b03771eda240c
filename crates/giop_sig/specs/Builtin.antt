-- The built-in types, with which each catalogue begins: the primitives, and the types of the
-- headers and bodies of GIOP (GIOP Message Formats; Interoperable Object References; meaning). They
-- are written with the numbers that types have in version 3. Other versions have no named numbers,
-- so later types have other numbers there.
use Rattle.std.specs.Prelude.{ℕ, ◌-◌, ◌==◌, nat_lt, cond, pos, false, List, [], ◌∷◌, ◌++◌, map, None, codes}
use Rattle.giop_cdr.specs.declared.prim.Primitive.TheVariants as prims
use Rattle.giop_cdr.specs.declared.number.Number.TheVariants.{Signed}
use Rattle.giop_sig.specs.declared.numbers.TheConstants.{OCTET, BOOLEAN, SHORT, USHORT, ULONG, STRING, OCTETS, CONTEXT_ID, PROFILE_TAG, CODE_SET, MINOR, CODE_SETS, CODE_SETS_DATA, SERVICE_CONTEXT, SERVICE_CONTEXTS, IIOP, IIOP_DATA, TAGGED_PROFILE, TAGGED_PROFILES, IOR, IOR_ADDRESS, TARGET, COMPLETED, RESERVED, REPLY_STATUS, REPLY_STATUS_1_2, LOCATE_STATUS, LOCATE_STATUS_1_2}
use Rattle.giop_sig.specs.declared.types.Selected.TheVariants.{Refused}
use Rattle.giop_sig.specs.Interfaces.{no_interfaces}
use Rattle.giop_sig.specs.Heard.{first_fronts}
use Rattle.giop_sig.specs.Table.{Part, Case, Node, Table}
use Rattle.giop_sig.specs.Table as nodes

-- ---- numbers in a version

-- The number of a type in versions 1 and 2, from its number in version 3: a named number is a ULONG
-- there, and the types after the four named numbers have numbers that are less by 4.
abbrev pub older_number : (type_number_in_version_3 : ℕ) → ℕ
older_number number =
    cond (nat_lt number CONTEXT_ID) number (cond (nat_lt number CODE_SETS) ULONG (number - 4))

-- The number of a type in a version, from its number in version 3. Each version other than 3 is
-- like version 1.
abbrev pub number_in_version : (file_version type_number_in_version_3 : ℕ) → ℕ
number_in_version version number = cond (version == 3) number (older_number number)

abbrev pub renumbered_part : (new_type_number : ℕ → ℕ) (part : Part) → Part
renumbered_part new_number p = record { name = p.name; type = new_number p.type }

abbrev pub renumbered_case : (new_type_number : ℕ → ℕ) (case : Case) → Case
renumbered_case new_number c =
    record { labels = c.labels; part = renumbered_part new_number c.part }

-- A node with other numbers for the types of its parts. An any and a TypeCode are in version 3
-- alone, and stay the same.
abbrev pub renumbered : (new_type_number : ℕ → ℕ) (node : Node) → Node
renumbered new_number (nodes.members parts) = nodes.members (map (renumbered_part new_number) parts)
renumbered new_number (nodes.union switch cases otherwise) =
    nodes.union (new_number switch) (map (renumbered_case new_number) cases) otherwise
renumbered new_number (nodes.sequence bound element) = nodes.sequence bound (new_number element)
renumbered new_number (nodes.array count element) = nodes.array count (new_number element)
renumbered new_number (nodes.encapsulation held) = nodes.encapsulation (new_number held)
renumbered new_number (nodes.tagged special tag inner other) =
    nodes.tagged special (renumbered_part new_number tag) (renumbered_part new_number inner)
    (renumbered_part new_number other)
renumbered new_number node = node

-- ---- parts

abbrev pub member : (name : List ℕ) (type_number : ℕ) → Part
member name type = record { name = name; type = type }

-- a case of the target, with one label
abbrev pub labelled : (single_signed_label : ℕ) (part_name : List ℕ) (part_type_number : ℕ) → Case
labelled label name type = record { labels = Signed (pos label) ∷ []; part = member name type }

-- ---- contexts, profiles and references

-- a service context: if its id is 1, it holds code sets
abbrev pub service_context : Node
service_context =
    nodes.tagged 1 (member (codes "context_id") CONTEXT_ID)
    (member (codes "context_data") CODE_SETS_DATA) (member (codes "context_data") OCTETS)

-- the body of an internet profile, without the components after the object key
abbrev pub profile_body : Node
profile_body =
    nodes.members (member (codes "major") OCTET ∷ member (codes "minor") OCTET
    ∷ member (codes "host") STRING ∷ member (codes "port") USHORT
    ∷ member (codes "object_key") OCTETS ∷ [])

-- a tagged profile: if its tag is 0, it holds an internet profile
abbrev pub tagged_profile : Node
tagged_profile =
    nodes.tagged 0 (member (codes "tag") PROFILE_TAG)
    (member (codes "profile_data") IIOP_DATA) (member (codes "profile_data") OCTETS)

-- an object reference
abbrev pub reference : Node
reference =
    nodes.members (member (codes "type_id") STRING ∷ member (codes "profiles") TAGGED_PROFILES ∷ [])

-- an object reference with the profile that was chosen
abbrev pub reference_address : Node
reference_address =
    nodes.members (member (codes "selected_profile_index") ULONG ∷ member (codes "ior") IOR ∷ [])

-- the target of a request; any other discriminator is refused
abbrev pub target : Node
target =
    nodes.union SHORT (labelled 0 (codes "object_key") OCTETS
    ∷ labelled 1 (codes "profile") TAGGED_PROFILE
    ∷ labelled 2 (codes "ior") IOR_ADDRESS ∷ []) Refused

-- ---- how a request ended

-- whether the request was completed
abbrev pub completion : Node
completion =
    nodes.enumeration (codes "COMPLETED_YES" ∷ codes "COMPLETED_NO" ∷ codes "COMPLETED_MAYBE" ∷ [])

-- a system exception
abbrev pub system_exception : Node
system_exception =
    nodes.members (member (codes "exception_id") STRING ∷ member (codes "minor") MINOR
    ∷ member (codes "completed") COMPLETED ∷ [])

-- the statuses of a reply in 1.0 and 1.1, and in 1.2
abbrev pub reply_status : Node
reply_status =
    nodes.enumeration (codes "NO_EXCEPTION" ∷ codes "USER_EXCEPTION" ∷ codes "SYSTEM_EXCEPTION"
    ∷ codes "LOCATION_FORWARD" ∷ [])

abbrev pub reply_status_1_2 : Node
reply_status_1_2 =
    nodes.enumeration (codes "NO_EXCEPTION" ∷ codes "USER_EXCEPTION" ∷ codes "SYSTEM_EXCEPTION"
    ∷ codes "LOCATION_FORWARD" ∷ codes "LOCATION_FORWARD_PERM" ∷ codes "NEEDS_ADDRESSING_MODE" ∷ [])

-- the statuses of a locate reply in 1.0 and 1.1, and in 1.2
abbrev pub locate_status : Node
locate_status =
    nodes.enumeration (codes "UNKNOWN_OBJECT" ∷ codes "OBJECT_HERE" ∷ codes "OBJECT_FORWARD" ∷ [])

abbrev pub locate_status_1_2 : Node
locate_status_1_2 =
    nodes.enumeration (codes "UNKNOWN_OBJECT" ∷ codes "OBJECT_HERE" ∷ codes "OBJECT_FORWARD"
    ∷ codes "OBJECT_FORWARD_PERM" ∷ codes "LOC_SYSTEM_EXCEPTION"
    ∷ codes "LOC_NEEDS_ADDRESSING_MODE" ∷ [])

-- ---- headers

-- the request headers of 1.0, 1.1 and 1.2
abbrev pub request_1_0 : Node
request_1_0 =
    nodes.members (member (codes "service_contexts") SERVICE_CONTEXTS
    ∷ member (codes "request_id") ULONG ∷ member (codes "response_expected") BOOLEAN
    ∷ member (codes "object_key") OCTETS ∷ member (codes "operation") STRING
    ∷ member (codes "requesting_principal") OCTETS ∷ [])

abbrev pub request_1_1 : Node
request_1_1 =
    nodes.members (member (codes "service_contexts") SERVICE_CONTEXTS
    ∷ member (codes "request_id") ULONG ∷ member (codes "response_expected") BOOLEAN
    ∷ member (codes "reserved") RESERVED ∷ member (codes "object_key") OCTETS
    ∷ member (codes "operation") STRING ∷ member (codes "requesting_principal") OCTETS ∷ [])

abbrev pub request_1_2 : Node
request_1_2 =
    nodes.members (member (codes "request_id") ULONG ∷ member (codes "response_flags") OCTET
    ∷ member (codes "reserved") RESERVED ∷ member (codes "target") TARGET
    ∷ member (codes "operation") STRING ∷ member (codes "service_contexts") SERVICE_CONTEXTS ∷ [])

-- the reply headers of 1.0 and 1.1, and of 1.2
abbrev pub reply : Node
reply =
    nodes.members (member (codes "service_contexts") SERVICE_CONTEXTS
    ∷ member (codes "request_id") ULONG ∷ member (codes "reply_status") REPLY_STATUS ∷ [])

abbrev pub reply_1_2 : Node
reply_1_2 =
    nodes.members (member (codes "request_id") ULONG
    ∷ member (codes "reply_status") REPLY_STATUS_1_2
    ∷ member (codes "service_contexts") SERVICE_CONTEXTS ∷ [])

-- the locate request headers of 1.0 and 1.1, and of 1.2
abbrev pub locate_request : Node
locate_request =
    nodes.members (member (codes "request_id") ULONG ∷ member (codes "object_key") OCTETS ∷ [])

abbrev pub locate_request_1_2 : Node
locate_request_1_2 =
    nodes.members (member (codes "request_id") ULONG ∷ member (codes "target") TARGET ∷ [])

-- the locate reply headers of 1.0 and 1.1, and of 1.2
abbrev pub locate_reply : Node
locate_reply =
    nodes.members (member (codes "request_id") ULONG
    ∷ member (codes "locate_status") LOCATE_STATUS ∷ [])

abbrev pub locate_reply_1_2 : Node
locate_reply_1_2 =
    nodes.members (member (codes "request_id") ULONG
    ∷ member (codes "locate_status") LOCATE_STATUS_1_2 ∷ [])

-- ---- the table

-- the types that have the same numbers in each version
abbrev pub leaf_types : List Node
leaf_types =
    -- octet, char, boolean, short, ushort, long, ulong, longlong, ulonglong, float, double
    (nodes.prim prims.Octet)
    ∷ (nodes.prim prims.Char)
    ∷ (nodes.prim prims.Boolean)
    ∷ (nodes.prim prims.Short)
    ∷ (nodes.prim prims.UShort)
    ∷ (nodes.prim prims.Long)
    ∷ (nodes.prim prims.ULong)
    ∷ (nodes.prim prims.LongLong)
    ∷ (nodes.prim prims.ULongLong)
    ∷ (nodes.prim prims.Float)
    ∷ (nodes.prim prims.Double)
    -- string, sequence of octets
    ∷ (nodes.text None)
    ∷ (nodes.octets None)
    ∷ []

-- the numbers that have names in version 3: the id of a service context, the tag of a profile, a
-- code set, and the minor code of a system exception
abbrev pub numbers_with_names : List Node
numbers_with_names = nodes.marked 3 ∷ nodes.marked 4 ∷ nodes.marked 5 ∷ nodes.marked 6 ∷ []

-- the types of contexts, profiles, references, bodies and headers
abbrev pub compound_types : List Node
compound_types =
    -- the code sets of a connection, and their encapsulation
    (nodes.members (member (codes "char_data") CODE_SET ∷ member (codes "wchar_data") CODE_SET ∷ []))
    ∷ (nodes.encapsulation CODE_SETS)
    -- contexts, profiles and references
    ∷ service_context
    ∷ (nodes.sequence None SERVICE_CONTEXT)
    ∷ profile_body
    ∷ (nodes.encapsulation IIOP)
    ∷ tagged_profile
    ∷ (nodes.sequence None TAGGED_PROFILE)
    ∷ reference
    ∷ reference_address
    ∷ target
    -- how a request ended, and its reserved octets
    ∷ completion
    ∷ system_exception
    ∷ (nodes.array 3 OCTET)
    ∷ reply_status
    ∷ reply_status_1_2
    ∷ locate_status
    ∷ locate_status_1_2
    -- headers: of requests and replies
    ∷ request_1_0
    ∷ request_1_1
    ∷ request_1_2
    ∷ reply
    ∷ reply_1_2
    -- of cancel requests and of fragments
    ∷ (nodes.members (member (codes "request_id") ULONG ∷ []))
    -- of locate requests and locate replies
    ∷ locate_request
    ∷ locate_request_1_2
    ∷ locate_reply
    ∷ locate_reply_1_2
    ∷ []

-- the built-in types of versions 1 and 2
unfoldable pub builtin_types : List Node
builtin_types = map (renumbered older_number) (leaf_types ++ compound_types)

-- the catalogue without declarations
abbrev pub builtin_table : Table
builtin_table = record {
  version = 1;
  types = builtin_types;
  operations = [];
  exceptions = [];
  declared = 0;
  called = 0;
  interfaces = no_interfaces;
  identities = [];
  fronts = first_fronts;
  forbids_wide = false;
}
