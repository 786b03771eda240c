-- What declarations add: the types, operations and exceptions of a table, and the names that later
-- declarations may use (docs/FORMATS.md, Signature file; meaning).
use Rattle.std.specs.Prelude.{ℕ, ◌+◌, ◌==◌, ◌-ℤ◌, Bool, true, false, if◌then◌else◌, cond, nat_le, nat_lt, ℤ, pos, List, [], ◌∷◌, ◌++◌, length, map, Option, Some, None, codes, position, slice_get}
use Rattle.std.specs.Map.{lookup}
use Rattle.std.specs.Str.{bytes_eq}
use Rattle.giop_cdr.specs.declared.prim.Primitive.{Primitive}
use Rattle.giop_cdr.specs.declared.prim.Primitive.TheVariants as prims
use Rattle.giop_cdr.specs.declared.number.Number.{Number}
use Rattle.giop_cdr.specs.declared.number.Number.TheVariants as numbers
use Rattle.giop_sig.specs.declared.numbers.TheConstants.{STRING, IOR, TYPE_CODE, ANY, WIDE_CHAR, WIDE_STRING}
use Rattle.giop_sig.specs.declared.announced.TypeWord.{TypeWord}
use Rattle.giop_sig.specs.declared.read_calls.Direction.{Direction}
use Rattle.giop_sig.specs.declared.read_calls.Direction.TheVariants as directions
use Rattle.giop_sig.specs.declared.types.Selected.{Selected}
use Rattle.giop_sig.specs.declared.types.Selected.TheVariants as selecteds
use Rattle.giop_sig.specs.Heard.{typecode_kind, with_fronts}
use Rattle.giop_sig.specs.Trees.{depth_in}
use Rattle.giop_sig.specs.Table.{Part, Case, Node, Table, node_at, node_in, with_type, with_identity, with_type_counted, with_operation_counted, with_operation_in_list, with_exception}
use Rattle.giop_sig.specs.Table as nodes
use Rattle.giop_sig.specs.Interfaces.{with_key}
use Rattle.giop_sig.specs.Builtin.{number_in_version}
use Rattle.giop_sig.specs.AnyTypes.{first_table}
use Rattle.giop_sig.specs.RequestList.{option_flatten}
use Rattle.giop_sig.specs.Grammar.{TypeExpr, Base, Text, Reference, AnyType, CodeType, WideChar, WideText, Named, SequenceOf, EncapsulationOf, Item, Value, Plain, Below, Truth, Enumerator, Label, Default, Of, UnionCase, Param, Declaration, Enumeration, Structure, DeclaredUnion, Announcement, DeclaredException, Call, KeyOf, SignatureFile}

-- a struct or union that is announced: its first word, and the number of the type that stands for
-- it
pub record Announced : Type 0 where
  pub word : TypeWord
  pub type : ℕ

-- The type names of a file. `version` is that of the file. `known` are the names of enums, structs
-- and unions, each with the number of its type, and those of exceptions, without one. `announced`
-- are the names that are announced.
pub record Names : Type 0 where
  pub version : ℕ
  pub known : List (List ℕ × Option ℕ)
  pub announced : List (List ℕ × Announced)

-- encapsulations are types since version 2
abbrev pub has_encapsulations : (names : Names) → Bool
has_encapsulations names = nat_le 2 names.version

-- version 3 has more reserved words
abbrev pub is_version_3 : (names : Names) → Bool
is_version_3 names = names.version == 3

-- what the declarations so far have made
pub record Scope : Type 0 where
  pub table : Table
  pub names : Names

-- the scope that a file of a version begins with
abbrev pub first_scope : (version : ℕ) → Scope
first_scope version =
    record {
      table = first_table version;
      names = record { version = version; known = []; announced = [] };
    }

-- the type of a name
abbrev pub named : (names : Names) (type_name : List ℕ) → Option ℕ
named names name = option_flatten (lookup (bytes_eq name) names.known)

-- how a name is announced
abbrev pub announced_as : (names : Names) (name : List ℕ) → Option Announced
announced_as names name = lookup (bytes_eq name) names.announced

abbrev pub declared_or_announced : (is_sequence_element : Bool) (declared_type : Option ℕ)
    (announced : Option Announced)
    → Option ℕ
declared_or_announced element (Some number) a = Some number
declared_or_announced true None (Some a) = Some a.type
declared_or_announced element None a = None

-- The type of a name in an expression. A name that is only announced has one as the element of a
-- sequence alone.
abbrev pub type_named : (is_sequence_element : Bool) (names : Names) (name : List ℕ) → Option ℕ
type_named element names name = declared_or_announced element (named names name)
    (announced_as names name)

abbrev pub number_or_0 : (type_number : Option ℕ) → ℕ
number_or_0 None = 0
number_or_0 (Some number) = number

-- ---- types

-- a scope, and the number of a type in it
abbrev pub AddedType : Type 0
AddedType = Scope × ℕ

-- one more node, and its number
abbrev pub with_node : (scope : Scope) (node : Node) → AddedType
with_node s node = (record s { table = with_type s.table node }, length s.table.types)

-- the primitives are the first of the built-in types
abbrev pub base_number : (primitive : Primitive) → ℕ
base_number prims.Octet = 0
base_number prims.Char = 1
base_number prims.Boolean = 2
base_number prims.Short = 3
base_number prims.UShort = 4
base_number prims.Long = 5
base_number prims.ULong = 6
base_number prims.LongLong = 7
base_number prims.ULongLong = 8
base_number prims.Float = 9
base_number prims.Double = 10

-- the tags of a reference's profiles have names in version 3 only
abbrev pub reference_number : (names : Names) → ℕ
reference_number names = number_in_version names.version IOR

-- the index of the announcement, if a node stands for one
abbrev pub announced_index : (node : Node) → Option ℕ
announced_index (nodes.announced index) = Some index
announced_index node = None

abbrev pub sequence_by : (bound : Option ℕ) (element_type : ℕ) (announcement_index : Option ℕ) →
    Node
sequence_by bound element None = nodes.sequence bound element
sequence_by bound element (Some index) = nodes.recursive bound index

-- a sequence of octets (type number 0) has a node of its own, and so has one of a type that is
-- announced
abbrev pub sequence_node : (types : List Node) (bound : Option ℕ) (element_type : ℕ) → Node
sequence_node types bound element =
    if element == 0 then nodes.octets bound
    else sequence_by bound element (announced_index (node_in types element))

abbrev pub add_text_type : (scope : Scope) (bound : Option ℕ) → AddedType
add_text_type s None = (s, STRING)
add_text_type s (Some number) = with_node s (nodes.text (Some number))

abbrev pub add_sequence_type : (bound : Option ℕ) (added_element : AddedType) → AddedType
add_sequence_type bound p = with_node p.0 (sequence_node (p.0).table.types bound p.1)

abbrev pub add_encapsulation_type : (added_content : AddedType) → AddedType
add_encapsulation_type p = with_node p.0 (nodes.encapsulation p.1)

-- the types that an expression adds, and the number of its own type
unfoldable pub add_type : (scope : Scope) (type : TypeExpr) → AddedType
add_type s (Base p) = (s, base_number p)
add_type s (Text bound) = add_text_type s bound
add_type s Reference = (s, reference_number s.names)
add_type s AnyType = (s, ANY)
add_type s CodeType = (s, TYPE_CODE)
add_type s WideChar = (s, WIDE_CHAR)
add_type s (WideText bound) = (s, WIDE_STRING)
add_type s (Named w) = (s, number_or_0 (type_named true s.names w))
add_type s (SequenceOf e bound) = add_sequence_type bound (add_type s e)
add_type s (EncapsulationOf e) = add_encapsulation_type (add_type s e)

-- ---- items

abbrev pub add_array : (array_length : ℕ) (added_element : AddedType) → AddedType
add_array number p = with_node p.0 (nodes.array number p.1)

-- an array whose length is the first one, with arrays of the other lengths as elements
abbrev pub add_arrays : (lengths_outermost_first : List ℕ) (added_element : AddedType) → AddedType
add_arrays [] p = p
add_arrays (n ∷ ns) p = add_array n (add_arrays ns p)

abbrev pub add_item : (scope : Scope) (item : Item) → AddedType
add_item s i = add_arrays i.lengths (add_type s i.type)

abbrev pub part : (name : List ℕ) (type_number : ℕ) → Part
part w number = record { name = w; type = number }

abbrev pub item_part : (item : Item) (added_type : AddedType) → Part
item_part i p = part i.name p.1

abbrev pub with_part : (first_part : Part) (scope_and_parts : Scope × List Part) → Scope × List Part
with_part p added = (added.0, p ∷ added.1)

-- the members of a struct, with the numbers of their types
unfoldable pub add_items : (scope : Scope) (items : List Item) → Scope × List Part
add_items s [] = (s, [])
add_items s (i ∷ is) =
    with_part (item_part i (add_item s i)) (add_items (add_item s i).0 is)

-- ---- the cases of a union

-- a negative number of a signed type
abbrev pub below : (magnitude : ℕ) → ℤ
below number = pos 0 -ℤ pos number

abbrev pub if_at_most : (most checked_number : ℕ) (result : Number) → Option Number
if_at_most most whole number = if nat_le whole most then Some number else None

-- the enumerator at an index
abbrev pub enumerator_number : (enumerator_index : Option ℕ) → Option Number
enumerator_number None = None
enumerator_number (Some index) = Some (numbers.Unsigned index)

-- the value of a discriminator's type that a label names; none if the type has no such value
abbrev pub label_number : (discriminator_node : Node) (label_value : Value) → Option Number
label_number (nodes.prim prims.Char) (Plain n) = if_at_most 255 n (numbers.Char n)
label_number (nodes.prim prims.Boolean) (Truth b) = Some (numbers.Truth b)
label_number (nodes.prim prims.Short) (Plain n) = if_at_most 32767 n (numbers.Signed (pos n))
label_number (nodes.prim prims.Short) (Below n) = if_at_most 32768 n (numbers.Signed (below n))
label_number (nodes.prim prims.UShort) (Plain n) = if_at_most 65535 n (numbers.Unsigned n)
label_number (nodes.prim prims.Long) (Plain n) = if_at_most 2147483647 n (numbers.Signed (pos n))
label_number (nodes.prim prims.Long) (Below n) = if_at_most 2147483648 n (numbers.Signed (below n))
label_number (nodes.prim prims.ULong) (Plain n) = if_at_most 4294967295 n (numbers.Unsigned n)
label_number (nodes.prim prims.LongLong) (Plain n) =
    if_at_most 9223372036854775807 n (numbers.Signed (pos n))
label_number (nodes.prim prims.LongLong) (Below n) =
    if_at_most 9223372036854775808 n (numbers.Signed (below n))
label_number (nodes.prim prims.ULongLong) (Plain n) =
    if_at_most 18446744073709551615 n (numbers.Unsigned n)
label_number (nodes.enumeration names) (Enumerator w) = enumerator_number
    (position (bytes_eq w) names)
label_number node v = None

abbrev pub onto_some : (first_number : Option Number) (later_numbers : List Number) → List Number
onto_some None numbers = numbers
onto_some (Some n) numbers = n ∷ numbers

-- the values that labels name; the default names none
abbrev pub label_numbers : (discriminator_node : Node) (labels : List Label) → List Number
label_numbers node [] = []
label_numbers node (Default ∷ ls) = label_numbers node ls
label_numbers node (Of v ∷ ls) = onto_some (label_number node v) (label_numbers node ls)

abbrev pub has_default : (labels : List Label) → Bool
has_default [] = false
has_default (Default ∷ ls) = true
has_default (Of v ∷ ls) = has_default ls

abbrev pub labels_of : (declared_case : UnionCase) → List Label
labels_of c = c.label ∷ c.others

abbrev pub union_case : (discriminator_node : Node) (declared_case : UnionCase)
    (added_type : AddedType) → Case
union_case node c p =
    record { labels = label_numbers node (labels_of c); part = item_part c.item p }

abbrev pub with_case : (first_case : Case) (scope_and_cases : Scope × List Case) → Scope × List Case
with_case c added = (added.0, c ∷ added.1)

-- the cases of a union whose discriminator has a type of this node
unfoldable pub add_cases : (scope : Scope) (discriminator_node : Node) (cases : List UnionCase) →
    Scope × List Case
add_cases s node [] = (s, [])
add_cases s node (c ∷ cs) =
    with_case (union_case node c (add_item s c.item))
    (add_cases (add_item s c.item).0 node cs)

-- what is selected if no label is the number: the first case with the default
abbrev pub default_from : (first_case_index : ℕ) (cases : List UnionCase) → Selected
default_from index [] = selecteds.Nothing
default_from index (c ∷ cs) =
    if has_default (labels_of c) then selecteds.Case index else default_from (index + 1) cs

-- ---- the parameters of an operation

-- a scope, and the members of an operation's requests and replies
abbrev pub AddedParameters : Type 0
AddedParameters = Scope × List Part × List Part

abbrev pub onto_request : (direction : Direction) (parameter : Part) (later_parts : List Part) →
    List Part
onto_request directions.In p parts = p ∷ parts
onto_request directions.Out p parts = parts
onto_request directions.Inout p parts = p ∷ parts

abbrev pub onto_reply : (direction : Direction) (parameter : Part) (later_parts : List Part) →
    List Part
onto_reply directions.In p parts = parts
onto_reply directions.Out p parts = p ∷ parts
onto_reply directions.Inout p parts = p ∷ parts

abbrev pub with_param : (direction : Direction) (parameter : Part)
    (later_parameters : AddedParameters) → AddedParameters
with_param d p x = (x.0, onto_request d p x.1, onto_reply d p x.2)

unfoldable pub add_params : (scope : Scope) (params : List Param) → AddedParameters
add_params s [] = (s, [], [])
add_params s (p ∷ ps) =
    with_param p.direction (item_part p.item (add_item s p.item))
    (add_params (add_item s p.item).0 ps)

-- what an operation returns, as a member of its replies
abbrev pub add_return : (scope : Scope) (return_type : Option TypeExpr) → Scope × List Part
add_return s None = (s, [])
add_return s (Some e) = ((add_type s e).0, part (codes "return") (add_type s e).1 ∷ [])

-- ---- declarations

abbrev pub with_name : (scope : Scope) (name : List ℕ) (type_number : Option ℕ) → Scope
with_name s name number =
    record s { names = record (s.names) { known = s.names.known ++ (name, number) ∷ [] } }

-- the table with the fronts of a type's repository id
abbrev pub with_id_fronts : (table : Table) (repository_id : List ℕ) (type_number : ℕ) → Table
with_id_fronts t id number =
    record t { fronts = with_fronts (typecode_kind (node_at t number)) id t.fronts }

-- The table with the sequence of a type, which an any may hold. A sequence that is too deep fits
-- into no any, and isn't added.
abbrev pub with_sequence : (table : Table) (element_type : ℕ) → Table
with_sequence t number =
    cond (nat_lt (depth_in t.types number) 24) (with_type t (nodes.sequence None number)) t

-- the table with the repository id of a type, if it has one
abbrev pub with_identified : (table : Table) (repository_id : Option (List ℕ)) (type_number : ℕ) →
    Table
with_identified t None number = t
with_identified t (Some id) number =
    with_sequence (with_id_fronts
    (with_identity t (record { repository = id; type = number })) id number) number

-- a type that stands for the next announcement
abbrev pub add_announced_type : (scope : Scope) → AddedType
add_announced_type s = with_node s (nodes.announced (length s.names.announced))

-- a name that is announced, with the type that stands for it
abbrev pub with_announced : (first_word : TypeWord) (name : List ℕ) (added_type : AddedType) → Scope
with_announced word name p = record (p.0) {
  names = record ((p.0).names) {
    announced = (p.0).names.announced ++ (name, record { word = word; type = p.1 }) ∷ [];
  };
}

-- an enum, struct or union with a new name, and with a new repository id if it has one
abbrev pub with_named : (name : List ℕ) (repository_id : Option (List ℕ)) (added_type : AddedType) →
    Scope
with_named name id p = with_name (record (p.0) {
  table = with_type_counted (with_identified (p.0).table id p.1);
}) name (Some p.1)

abbrev pub with_raised : (name repository_id : List ℕ) (added_members : AddedType) → Scope
with_raised name repository p =
    with_name (record (p.0) {
      table = with_exception (p.0).table
          (record { repository = repository; members = p.1 });
    }) name None

-- an operation with this list of interfaces
abbrev pub with_whole_operation : (name : List ℕ) (interface_ids : List (List ℕ))
    (request_struct : ℕ) (added_reply_struct : AddedType) → Scope
with_whole_operation name ids request p =
    record (p.0) {
      table = with_operation_counted
          (with_operation_in_list name request p.1 ids (p.0).table);
    }

-- a struct with these members
abbrev pub add_struct_type : (scope_and_members : Scope × List Part) → AddedType
add_struct_type added = with_node added.0 (nodes.members added.1)

abbrev pub add_union_type : (switch_type : ℕ) (declared_cases : List UnionCase)
    (scope_and_cases : Scope × List Case) → AddedType
add_union_type switch cases added =
    with_node added.0 (nodes.union switch added.1 (default_from 0 cases))

-- the cases of a union, after the type of its discriminator was added
abbrev pub add_switched_union : (cases : List UnionCase) (added_switch_type : AddedType) → AddedType
add_switched_union cases p = add_union_type p.1 cases
    (add_cases p.0 (node_at (p.0).table p.1) cases)

-- the two structs of an operation: first that of requests, then that of replies
abbrev pub add_operation_structs : (name : List ℕ) (interface_ids : List (List ℕ))
    (returned_parts : List Part) (added_parameters : AddedParameters) → Scope
add_operation_structs name ids returned x =
    with_whole_operation name ids (length (x.0).table.types)
    (add_struct_type ((add_struct_type (x.0, x.1)).0, returned ++ x.2))

abbrev pub add_whole_operation : (name : List ℕ) (params : List Param)
    (interface_ids : List (List ℕ)) (scope_and_returned_parts : Scope × List Part) → Scope
add_whole_operation name params ids added = add_operation_structs name ids added.1
    (add_params added.0 params)

abbrev pub with_key_of : (scope : Scope) (key_text interface_id : List ℕ) → Scope
with_key_of s text id = record s {
  table = record (s.table) { interfaces = with_key s.table.interfaces text id };
}

-- the scope after a declaration
unfoldable pub declare : (scope : Scope) (declaration : Declaration) → Scope
declare s (Enumeration n id names) = with_named n id (with_node s (nodes.enumeration names))
declare s (Structure n id items) = with_named n id (add_struct_type (add_items s items))
declare s (DeclaredUnion n id switch cases) =
    with_named n id (add_switched_union cases (add_type s switch))
declare s (Announcement word n) = with_announced word n (add_announced_type s)
declare s (DeclaredException n repository items) =
    with_raised n repository (add_struct_type (add_items s items))
declare s (Call returned n params ids) = add_whole_operation n params ids (add_return s returned)
declare s (KeyOf text id) = with_key_of s text id

abbrev pub scope_after : (scope : Scope) (declarations : List Declaration) → Scope
scope_after s [] = s
scope_after s (d ∷ ds) = scope_after (declare s d) ds

-- the scope after all declarations of a file
abbrev pub last_scope : (file : SignatureFile) → Scope
last_scope file = scope_after (first_scope file.version) file.declarations

-- ---- the end of a file

-- the types that were declared for the announced names, in order; none for a name that wasn't
-- declared
abbrev pub types_of_announced : (names : Names) → List (Option ℕ)
types_of_announced names = map (λ e. named names e.0) names.announced

-- the type that was declared for the announcement at an index
abbrev pub declared_type_at : (declared_by_announcement : List (Option ℕ)) (announcement_index : ℕ)
    → ℕ
declared_type_at types index = number_or_0 (option_flatten (slice_get types index))

-- a recursive sequence gets the type that was declared for its elements
abbrev pub resolved_node : (declared_by_announcement : List (Option ℕ)) (node : Node) → Node
resolved_node types (nodes.recursive bound index) = nodes.recursive bound
    (declared_type_at types index)
resolved_node types node = node

abbrev pub with_resolved_types : (declared_by_announcement : List (Option ℕ)) (table : Table) →
    Table
with_resolved_types types t = record t { types = map (resolved_node types) t.types }

-- the scope after each recursive sequence got its type
abbrev pub settled : (scope : Scope) → Scope
settled s = record s { table = with_resolved_types (types_of_announced s.names) s.table }

-- the table of a file, with the built-in types
abbrev pub table : (file : SignatureFile) → Table
table file = (settled (last_scope file)).table
