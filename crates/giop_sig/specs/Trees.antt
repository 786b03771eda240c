-- The trees of a table's types, and what is true of a whole table (meaning).
use Rattle.std.specs.Prelude.{ℕ, zero, suc, ◌+◌, ◌^◌, ◌<◌, ◌≤◌, ◌==◌, ◌&&◌, ◌||◌, not, nat_lt, nat_le, cond, Bool, true, false, max, List, [], length, Option, Some, None, slice_index_or, slice_get}
use Rattle.std.specs.List.{All}
use Rattle.giop_cdr.specs.declared.prim.Primitive.TheVariants as prims
use Rattle.giop_cdr.specs.declared.number.Number.{Number}
use Rattle.giop_sig.specs.declared.types.Shape.{Shape}
use Rattle.giop_sig.specs.declared.types.Shape.TheVariants as shapes
use Rattle.giop_sig.specs.declared.types.Selected.{Selected}
use Rattle.giop_sig.specs.declared.types.Selected.TheVariants.{Nothing}
use Rattle.giop_sig.specs.Types.{Choice, Cases, Tag, Scalar, Plain, Enum, interpreted_by, Ty, Single, Text, Octets, Raw, WideText, WideChar, Struct, Union, Sequence, Array, Encapsulation, Recursive, Led, Marked, TypeInference, most}
use Rattle.giop_sig.specs.Heard.{inferred_after, selects}
use Rattle.giop_sig.specs.Table.{Part, Node, Table, IsFormed, TakesOctet, takes_octet, name_of, node_at, node_in, part_at, shape_of, switch_at, type_of, selected}
use Rattle.giop_sig.specs.Table as nodes

-- ---- a node, from a tree for each number

abbrev pub octet_type : Ty
octet_type = Single (Plain prims.Octet)

abbrev pub part_tree : (tree_of_type_number : ℕ → Ty) (part : Option Part) → Ty
part_tree tree None = octet_type
part_tree tree (Some p) = tree p.type

abbrev pub name_or : (name : Option (List ℕ)) → List ℕ
name_or None = []
name_or (Some name) = name

abbrev pub scalar_or_octet : (type : Ty) → Scalar
scalar_or_octet (Single scalar) = scalar
scalar_or_octet T = Plain prims.Octet

-- what a value selects; a number that isn't a value selects nothing
abbrev pub selected_by : (select : Number → Selected) (discriminator_value : Option Number) →
    Selected
selected_by select None = Nothing
selected_by select (Some number) = select number

-- the union with a node's names and selection, from the types of its discriminator and its cases
abbrev pub union_of : (choice : Choice) (node : Node) (discriminator_type : Ty)
    (case_types : ℕ → Ty) → Ty
union_of choice node switch cases =
    Union choice (scalar_or_octet switch)
    (λ n. selected_by (selected node) (interpreted_by (scalar_or_octet switch) n))
    (λ i. name_of (part_at node i)) cases

abbrev pub union_tree : (tree_of_type_number : ℕ → Ty) (choice : Choice) (node : Node) → Ty
union_tree tree choice node =
    union_of choice node (tree (switch_at node)) (λ i. part_tree tree (part_at node i))

-- What has room as a part: how an any is heard, and which types the elements of a recursive
-- sequence may have.
pub record PartLimits : Type 0 where
  pub hearing : TypeInference
  pub fits : ℕ → Bool

-- the tree of a node, from a tree for each number, in a room
abbrev pub tree_of_node : (limits : PartLimits) (tree_of_type_number : ℕ → Ty) (node : Node) → Ty
tree_of_node h tree (nodes.prim p) = Single (Plain p)
tree_of_node h tree (nodes.marked mark) = Single (Marked mark)
tree_of_node h tree (nodes.any code) = Led h.hearing (tree code) tree
tree_of_node h tree (nodes.announced index) = Struct 0 (λ i. []) (λ i. octet_type)
tree_of_node h tree (nodes.recursive bound element) = Recursive bound (h.fits element)
    (tree element)
tree_of_node h tree (nodes.typecode wide kind cases) =
    union_tree tree (Cases (length cases)) (nodes.typecode wide kind cases)
tree_of_node h tree (nodes.enumeration names) =
    Single (Enum (length names) (λ i. name_or (slice_get names i)))
tree_of_node h tree (nodes.text bound) = Text bound
tree_of_node h tree (nodes.octets bound) = Octets (Raw bound)
tree_of_node h tree nodes.wide_text = Octets WideText
tree_of_node h tree nodes.wide_char = Octets WideChar
tree_of_node h tree (nodes.members parts) =
    Struct (length parts) (λ i. name_of (slice_get parts i))
    (λ i. part_tree tree (slice_get parts i))
tree_of_node h tree (nodes.union switch cases otherwise) =
    union_tree tree (Cases (length cases)) (nodes.union switch cases otherwise)
tree_of_node h tree (nodes.sequence bound element) = Sequence bound (tree element)
tree_of_node h tree (nodes.array count element) = Array count (tree element)
tree_of_node h tree (nodes.encapsulation held) = Encapsulation (tree held)
tree_of_node h tree (nodes.tagged special tag inner other) =
    union_tree tree Tag (nodes.tagged special tag inner other)

-- ---- depth

-- the greatest depth that a type may have
abbrev pub greatest_depth : ℕ
greatest_depth = 24

-- the depth of a shape, from the depths of its parts
abbrev pub depth_by : (shape : Shape) (part_depths : ℕ → ℕ) → ℕ
depth_by (shapes.Members count) depths = 1 + most count depths
depth_by (shapes.Union count) depths = 1 + max 1 (most count depths)
depth_by (shapes.Sequence bound) depths = 1 + depths 0
depth_by (shapes.Array count) depths = 1 + depths 0
depth_by shapes.Encapsulation depths = 1 + depths 0
depth_by (shapes.Recursive bound) depths = 2
depth_by shapes.Tagged depths = 1 + max 1 (most 3 depths)
depth_by shapes.Led depths = 1 + depths 0
depth_by s depths = 1

-- the depth of the type with a number, if its parts `levels` levels down count as leaves
unfoldable pub depth_at : (types : List Node) (levels_before_leaves type_number : ℕ) → ℕ
depth_at types zero number = 1
depth_at types (suc levels) number =
    depth_by (shape_of (node_in types number))
    (λ k. depth_at types levels (type_of (part_at (node_in types number) k)))

-- The depth of a type, whose parts have smaller numbers. What an any holds doesn't count, nor do
-- the elements of a recursive sequence, nor parts of a TypeCode that are octets in little room.
abbrev pub depth_in : (types : List Node) (type_number : ℕ) → ℕ
depth_in types number = depth_at types (number + suc greatest_depth) number

-- the depth of the part at an index of a node
abbrev pub part_depth : (types : List Node) (node : Node) (part_index : ℕ) → ℕ
part_depth types node index = depth_in types (type_of (part_at node index))

-- the depth that the type of a node would have
abbrev pub node_depth : (types : List Node) (node : Node) → ℕ
node_depth types node = depth_by (shape_of node) (part_depth types node)

-- the greatest depth of these types
unfoldable pub depth_of : (types : List Node) → ℕ
depth_of types = most (length types) (depth_in types)

-- ---- wide text

-- whether f is true of one of the first `count`
abbrev pub any_below : (count : ℕ) (is_true_of : ℕ → Bool) → Bool
any_below zero f = false
any_below (suc count) f = any_below count f || f count

-- Whether a shape has wide text: it is wide text, or one of its parts has some. What an any holds
-- and the elements of a recursive sequence don't count.
abbrev pub shape_has_wide_text : (shape : Shape) (part_is_wide : ℕ → Bool) → Bool
shape_has_wide_text shapes.WideText wide_parts = true
shape_has_wide_text shapes.WideChar wide_parts = true
shape_has_wide_text (shapes.Members count) wide_parts = any_below count wide_parts
shape_has_wide_text (shapes.Union count) wide_parts = any_below count wide_parts
shape_has_wide_text shapes.Tagged wide_parts = any_below 3 wide_parts
shape_has_wide_text (shapes.Sequence bound) wide_parts = wide_parts 0
shape_has_wide_text (shapes.Array count) wide_parts = wide_parts 0
shape_has_wide_text shapes.Encapsulation wide_parts = wide_parts 0
shape_has_wide_text s wide_parts = false

-- whether the type with a number has wide text, if its parts `levels` levels down have none
unfoldable pub has_wide_text_within : (types : List Node) (levels_searched type_number : ℕ) → Bool
has_wide_text_within types zero number = false
has_wide_text_within types (suc levels) number =
    shape_has_wide_text (shape_of (node_in types number))
    (λ k. has_wide_text_within types levels (type_of (part_at (node_in types number) k)))

-- whether a type has wide text; its parts have smaller numbers
abbrev pub has_wide_text : (types : List Node) (type_number : ℕ) → Bool
has_wide_text types number = has_wide_text_within types (number + suc greatest_depth) number

-- whether the part at an index of a node has wide text
abbrev pub part_has_wide_text : (types : List Node) (node : Node) (part_index : ℕ) → Bool
part_has_wide_text types node index = has_wide_text types (type_of (part_at node index))

-- whether the type of a node would have wide text
abbrev pub node_has_wide_text : (types : List Node) (node : Node) → Bool
node_has_wide_text types node = shape_has_wide_text (shape_of node) (part_has_wide_text types node)

-- ---- the trees in a room

-- how much room the parameters of a TypeCode need: an encapsulation, its struct, the members, a
-- member, and a TypeCode, which has depth 3
abbrev pub parameters_room : ℕ
parameters_room = 7

-- a node whose parts have this room
abbrev pub node_in_room : (room_of_parts : ℕ) (node : Node) → Node
node_in_room room (nodes.typecode wide kind cases) =
    nodes.typecode (cond (nat_lt room parameters_room) wide None) kind cases
node_in_room room node = node

-- the number of a part's type, if the part has this room
abbrev pub part_number_in : (table : Table) (room_of_part type_number part_index : ℕ) → ℕ
part_number_in t room id index = type_of (part_at (node_in_room room (node_at t id)) index)

-- whether there is a type with this number that takes an octet and fits into the room
abbrev pub has_room : (table : Table) (room type_number : ℕ) → Bool
has_room t room number =
    nat_lt number (length t.types) && takes_octet (node_at t number) && nat_le
    (depth_in t.types number) room

-- whether a type can be that of an any's value or of a recursive sequence's elements; with wide
-- text it can't in a message of 1.0 or 1.1
abbrev pub can_be_value : (table : Table) (room type_number : ℕ) → Bool
can_be_value t room number = has_room t room number && not
    (t.forbids_wide && has_wide_text t.types number)

-- how an any is heard
abbrev pub any_inference : (table : Table) (room : ℕ) → TypeInference
any_inference t room = record {
  inferred_after = inferred_after t;
  selects = selects
      (can_be_value t room);
}

-- what has room as a part in this room
abbrev pub limits_in_room : (table : Table) (room : ℕ) → PartLimits
limits_in_room t room = record { hearing = any_inference t room; fits = can_be_value t room }

-- the tree of the type with a number: parts may be nested below it as many levels as there is room,
-- and deeper ones are octets
unfoldable pub tree_at : (table : Table) (levels_below type_number : ℕ) → Ty
tree_at t zero number = tree_of_node (limits_in_room t 0) (λ k. octet_type)
    (node_in_room 0 (node_at t number))
tree_at t (suc room) number =
    tree_of_node (limits_in_room t room) (tree_at t room) (node_in_room room (node_at t number))

-- the tree of a type in the room that each type of a table has
abbrev pub tree : (table : Table) (type_number : ℕ) → Ty
tree t number = tree_at t greatest_depth number

-- ---- tables

-- The depth of a catalogue: that of its deepest type. In version 3 it is the greatest depth.
abbrev pub catalogue_depth : (table : Table) → ℕ
catalogue_depth t = cond (t.version == 3) 24 (depth_of t.types)

-- each part of a type has a smaller number than the type
pub record AreFormed (types : List Node) : Type 0 where
  pub few : length types < 2 ^ 32
  pub formed : (i : ℕ) → i < length types
      → IsFormed types i (slice_index_or types i (nodes.prim prims.Octet))

-- a type of the table that is no deeper than the parameters of a TypeCode, and takes an octet
pub record IsParameterType (types : List Node) (type_number : ℕ) : Type 0 where
  pub known : type_number < length types
  pub takes : TakesOctet (node_in types type_number)
  pub shallow : depth_in types type_number ≤ parameters_room

-- what comes after the kinds of a TypeCode, if there is room for it
abbrev pub HasParameterTypes : (types : List Node) (node : Node) → Type 0
HasParameterTypes types (nodes.typecode wide kind cases) = All
    (λ c. IsParameterType types c.part.type) cases
HasParameterTypes types node = Unit {0}

abbrev pub AllHaveParameterTypes : (types : List Node) → Type 0
AllHaveParameterTypes types = (i : ℕ) → i < length types → HasParameterTypes types (node_in types i)

-- a type of the table that takes an octet
pub record IsElementType (types : List Node) (type_number : ℕ) : Type 0 where
  pub known : type_number < length types
  pub takes : TakesOctet (node_in types type_number)

-- a recursive sequence has the type that was declared for its elements
abbrev pub IsResolved : (types : List Node) (node : Node) → Type 0
IsResolved types (nodes.recursive bound element) = IsElementType types element
IsResolved types node = Unit {0}

abbrev pub AreResolved : (types : List Node) → Type 0
AreResolved types = (i : ℕ) → i < length types → IsResolved types (node_in types i)

-- types that a table may have: none is deeper than 24, and all that were announced are declared
pub record AreTypes (types : List Node) : Type 0 where
  pub placed : AreFormed types
  pub shallow : depth_of types ≤ 24
  pub settled : AreResolved types
