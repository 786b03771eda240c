-- The types that a file of version 3 begins with: the built-in ones, any, TypeCode, their parts,
-- and wide text (CDR Transfer Syntax, Pseudo-Object Types; meaning). The TypeCodes on the way from
-- an any to its value tell the type of the value, and so do their kinds and the bounds of sequences
-- in them. These have types of their own; other TypeCodes tell nothing.
use Rattle.std.specs.Prelude.{ℕ, ◌+◌, ◌==◌, cond, ◌∷◌, ◌++◌, List, [], map, None, Some, codes}
use Rattle.giop_cdr.specs.declared.number.Number.TheVariants.{Unsigned}
use Rattle.giop_sig.specs.declared.numbers.TheConstants.{CHAR, BOOLEAN, SHORT, USHORT, LONG, ULONG, LONGLONG, ULONGLONG, FLOAT, DOUBLE, STRING, IOR, SEQUENCES, HEARD_KIND, KIND, HEARD_BOUND, FIXED_PARAMETERS, HEARD_TYPE_CODE, TYPE_CODE, ANY, NAMED, NAMED_DATA, TYPE_MEMBER, TYPE_MEMBERS, STRUCT, STRUCT_DATA, UNION, UNION_DATA, ENUM, ENUM_DATA, HEARD_SEQUENCE, HEARD_SEQUENCE_DATA, SEQUENCE, SEQUENCE_DATA, ARRAY, ARRAY_DATA, HEARD_ALIAS, HEARD_ALIAS_DATA, ALIAS, ALIAS_DATA, VALUE_MEMBER, VALUE_MEMBERS, VALUE, VALUE_DATA, VALUE_BOX, VALUE_BOX_DATA, WIDE_CHAR, WIDE_STRING}
use Rattle.giop_sig.specs.Table.{Part, Case, Node, Table}
use Rattle.giop_sig.specs.Table as nodes
use Rattle.giop_sig.specs.Builtin.{builtin_table, builtin_types, compound_types, leaf_types, member, numbers_with_names}

-- what comes after some kinds of a TypeCode: the kinds, its name, and its type
abbrev pub case_after_kinds : (typecode_kinds part_name : List ℕ) (part_type_number : ℕ) → Case
case_after_kinds kinds name type = record { labels = map Unsigned kinds; part = member name type }

-- most kinds have their parameters in an encapsulation
abbrev pub parameters_case : (typecode_kinds : List ℕ) (parameters_type_number : ℕ) → Case
parameters_case kinds type = case_after_kinds kinds (codes "parameters") type

-- the cases of a TypeCode, from the types of the parameters of a sequence and of an alias
abbrev pub typecode_cases : (sequence_parameters_type alias_parameters_type : ℕ) → List Case
typecode_cases sequence_data alias_data =
    parameters_case (14 ∷ 31 ∷ 32 ∷ 33 ∷ 34 ∷ 35 ∷ []) NAMED_DATA
    ∷ parameters_case (15 ∷ 22 ∷ []) STRUCT_DATA
    ∷ parameters_case (16 ∷ []) UNION_DATA
    ∷ parameters_case (17 ∷ []) ENUM_DATA
    ∷ case_after_kinds (18 ∷ 27 ∷ []) (codes "bound") ULONG
    ∷ parameters_case (19 ∷ []) sequence_data
    ∷ parameters_case (20 ∷ []) ARRAY_DATA
    ∷ parameters_case (21 ∷ []) alias_data
    ∷ parameters_case (28 ∷ []) FIXED_PARAMETERS
    ∷ parameters_case (29 ∷ 36 ∷ []) VALUE_DATA
    ∷ parameters_case (30 ∷ []) VALUE_BOX_DATA
    ∷ case_after_kinds (4294967295 ∷ []) (codes "offset") LONG
    ∷ []

-- an id and a name, and then other members
abbrev pub id_name_and_more : (members_after_id_and_name : List Part) → Node
id_name_and_more more =
    nodes.members (member (codes "id") STRING ∷ member (codes "name") STRING ∷ more)

-- the types after the built-in ones, in the order of their numbers
unfoldable pub any_types : List Node
any_types =
    (nodes.marked 0)
    ∷ (nodes.marked 2)
    ∷ (nodes.marked 1)
    -- sequences
    ∷ (nodes.sequence None IOR)
    ∷ (nodes.sequence None CHAR)
    ∷ (nodes.sequence None BOOLEAN)
    ∷ (nodes.sequence None SHORT)
    ∷ (nodes.sequence None USHORT)
    ∷ (nodes.sequence None LONG)
    ∷ (nodes.sequence None ULONG)
    ∷ (nodes.sequence None LONGLONG)
    ∷ (nodes.sequence None ULONGLONG)
    ∷ (nodes.sequence None FLOAT)
    ∷ (nodes.sequence None DOUBLE)
    ∷ (nodes.sequence None STRING)
    -- the parameters of a fixed, TypeCodes and anys
    ∷ (nodes.members (member (codes "digits") USHORT ∷ member (codes "scale") SHORT ∷ []))
    ∷ (nodes.typecode (Some NAMED) HEARD_KIND
    (typecode_cases HEARD_SEQUENCE_DATA HEARD_ALIAS_DATA))
    ∷ (nodes.typecode (Some NAMED) KIND (typecode_cases SEQUENCE_DATA ALIAS_DATA))
    ∷ (nodes.sequence None TYPE_CODE)
    ∷ (nodes.any HEARD_TYPE_CODE)
    ∷ (nodes.sequence None ANY)
    -- the parameters of kinds with an id, and of their members
    ∷ (id_name_and_more [])
    ∷ (nodes.encapsulation NAMED)
    ∷ (nodes.members (member (codes "name") STRING ∷ member (codes "type") TYPE_CODE ∷ []))
    ∷ (nodes.sequence None TYPE_MEMBER)
    ∷ (id_name_and_more (member (codes "members") TYPE_MEMBERS ∷ []))
    ∷ (nodes.encapsulation STRUCT)
    ∷ (id_name_and_more (member (codes "discriminator") TYPE_CODE
    ∷ member (codes "default_used") LONG ∷ []))
    ∷ (nodes.encapsulation UNION)
    ∷ (id_name_and_more (member (codes "enumerators") (SEQUENCES + STRING) ∷ []))
    ∷ (nodes.encapsulation ENUM)
    -- the parameters of kinds that hold another type
    ∷ (nodes.members (member (codes "element") HEARD_TYPE_CODE
    ∷ member (codes "bound") HEARD_BOUND ∷ []))
    ∷ (nodes.encapsulation HEARD_SEQUENCE)
    ∷ (nodes.members (member (codes "element") TYPE_CODE ∷ member (codes "bound") ULONG ∷ []))
    ∷ (nodes.encapsulation SEQUENCE)
    ∷ (nodes.members (member (codes "element") TYPE_CODE ∷ member (codes "length") ULONG ∷ []))
    ∷ (nodes.encapsulation ARRAY)
    ∷ (id_name_and_more (member (codes "type") HEARD_TYPE_CODE ∷ []))
    ∷ (nodes.encapsulation HEARD_ALIAS)
    ∷ (id_name_and_more (member (codes "type") TYPE_CODE ∷ []))
    ∷ (nodes.encapsulation ALIAS)
    -- the parameters of values
    ∷ (nodes.members (member (codes "name") STRING ∷ member (codes "type") TYPE_CODE
    ∷ member (codes "visibility") SHORT ∷ []))
    ∷ (nodes.sequence None VALUE_MEMBER)
    ∷ (id_name_and_more (member (codes "modifier") SHORT ∷ member (codes "base") TYPE_CODE
    ∷ member (codes "members") VALUE_MEMBERS ∷ []))
    ∷ (nodes.encapsulation VALUE)
    ∷ (id_name_and_more (member (codes "boxed") TYPE_CODE ∷ []))
    ∷ (nodes.encapsulation VALUE_BOX)
    -- wide text
    ∷ nodes.wide_char
    ∷ (nodes.sequence None WIDE_CHAR)
    ∷ nodes.wide_text
    ∷ (nodes.sequence None WIDE_STRING)
    ∷ []

unfoldable pub version_3_types : List Node
version_3_types = leaf_types ++ numbers_with_names ++ compound_types ++ any_types

-- the types that a file of a version begins with
abbrev pub first_types : (file_version : ℕ) → List Node
first_types version = cond (version == 3) version_3_types builtin_types

-- the table of a file of a version, without declarations
abbrev pub first_table : (file_version : ℕ) → Table
first_table version =
    record builtin_table { version = version; types = first_types version }
