-- A node and its tree have the same form, names, parts and selection.
use Rattle.std.proofs.Common.{◌≡◌, ℕ, zero, suc, ◌<◌, Bool, true, false, cond, nat_lt, List, [], ◌∷◌, length, Option, Some, None, refl, ap, arith, lt-ltb, le-ltb}
use Rattle.std.proofs.lemmas.Bool.{ltb-true, ltb-false}
use Rattle.std.specs.Prelude.{slice_get}
use Rattle.std.specs.Option.{option_map}
use Rattle.giop_cdr.specs.declared.number.Number.{Number}
use Rattle.giop_sig.specs.declared.types.Shape.{Shape}
use Rattle.giop_sig.specs.declared.types.Shape.TheVariants as shapes
use Rattle.giop_sig.specs.Types.{Cases, Enum, Ty, Single, Struct, Union, Sequence, Array, IsUnion, shape_in, HasShape, HasMember, HasIndex, HasSmallerPart, part_of, name_in, enum_name_in, switch_of, select_in, interpreted_in, Tag, Encapsulation, Recursive, Led, Octets, Raw}
use Rattle.giop_sig.specs.Table.{Node, Part, Case, TakesOctet, shape_of, part_at, switch_at, type_of, name_of, name_at, selected, case_part}
use Rattle.giop_sig.specs.Table as nodes
use Rattle.giop_sig.specs.Trees.{PartLimits, tree_of_node, node_in_room, name_or, parameters_room}

pub shape_grown : (h : PartLimits) (tree : ℕ → Ty) (node : Node)
    → shape_in (tree_of_node h tree node) ≡ shape_of node
shape_grown h tree (nodes.prim p) = refl
shape_grown h tree _ = refl

pub has_shape : (T : Ty) → HasShape T (shape_in T)
has_shape (Single (Enum count names)) = (names, refl)
has_shape (Struct count names parts) = (names, parts, refl)
has_shape (Union (Cases count) scalar select names cases) = search (arith)
has_shape (Union Tag scalar select names cases) = search (arith)
has_shape (Encapsulation T) = (T, refl)
has_shape (Sequence bound T) = (T, refl)
has_shape (Array count T) = (T, refl)
has_shape (Recursive bound fits T) = (fits, T, refl)
has_shape (Led h F parts) = (h, F, parts, refl)
has_shape (Octets (Raw bound)) = refl
has_shape _ = refl

read_below : (ps : List Part) (i : ℕ) → i < length ps → (p : Part) × (slice_get ps i ≡ Some p)
read_below [] i lt = absurd (omega arith)
read_below (p ∷ ps) zero lt = (p, refl)
read_below (p ∷ ps) (suc i) lt = read_below ps i (omega arith)

pub case_below : (cs : List Case) (i : ℕ) → i < length cs
    → (p : Part) × (case_part (slice_get cs i) ≡ Some p)
case_below [] i lt = absurd (omega arith)
case_below (c ∷ cs) zero lt = (c.part, refl)
case_below (c ∷ cs) (suc i) lt = case_below cs i (omega arith)

-- a part with a smaller number is at an index of the shape
pub shape_index : (s : Shape) (i : ℕ) → HasSmallerPart s i → HasIndex s i
shape_index shapes.Led i has = tt
shape_index (shapes.Recursive bound) i has = tt
shape_index _ i has = has

pub inner_index : (node : Node) (i : ℕ) → HasSmallerPart (shape_of node) i → HasIndex
    (shape_of node) i
inner_index (nodes.any code) i has = tt
inner_index (nodes.recursive bound element) i has = tt
inner_index _ i has = has

-- there is a part at each index of the shape
pub part_there : (node : Node) (i : ℕ) → HasIndex (shape_of node) i
    → (p : Part) × (part_at node i ≡ Some p)
part_there (nodes.members parts) i has = read_below parts i has
part_there (nodes.union switch cases otherwise) i has = case_below cases i has
part_there (nodes.sequence bound element) i has = (nodes.element_part element, refl)
part_there (nodes.array count element) i has = (nodes.element_part element, refl)
part_there (nodes.encapsulation held) i has = (nodes.element_part held, refl)
part_there (nodes.tagged special tag inner other) i has = search (arith, read_below)
part_there (nodes.any code) i has = (nodes.any_part code i, refl)
part_there (nodes.announced index) i has = absurd (omega arith)
part_there (nodes.recursive bound element) i has = (nodes.element_part element, refl)
part_there (nodes.typecode wide kind cases) i has = let p = case_below cases i has in
    (nodes.narrow_part wide p.0, ap (option_map (nodes.narrow_part wide)) p.1)
part_there _ i has = absurd has

pub part_grown : (h : PartLimits) (tree : ℕ → Ty) (node : Node) (i : ℕ) → HasIndex (shape_of node) i
    → tree (type_of (part_at node i)) ≡ part_of (tree_of_node h tree node) i
part_grown h tree (nodes.members parts) i has = let p = read_below parts i has in rw (p.1) refl
part_grown h tree (nodes.union switch cases otherwise) i has = let p = case_below cases i has in
    rw (p.1) refl
part_grown h tree (nodes.sequence bound element) i has = refl
part_grown h tree (nodes.array count element) i has = refl
part_grown h tree (nodes.encapsulation held) i has = refl
part_grown h tree (nodes.tagged special tag inner other) i has = search (arith, read_below)
part_grown h tree (nodes.announced index) i has = absurd (omega arith)
part_grown h tree (nodes.recursive bound element) i has = refl
part_grown h tree (nodes.any code) zero has = refl
part_grown h tree (nodes.any code) (suc i) has = refl
part_grown h tree (nodes.typecode wide kind cases) i has = let p = case_below cases i has in
    rw (p.1) refl
part_grown h tree _ i has = absurd has

pub name_grown : (h : PartLimits) (tree : ℕ → Ty) (node : Node) (i : ℕ) → HasMember
    (shape_of node) i
    → name_of (part_at node i) ≡ name_in (tree_of_node h tree node) i
name_grown h tree (nodes.members parts) i has = refl
name_grown h tree (nodes.union switch cases otherwise) i has = refl
name_grown h tree (nodes.tagged special tag inner other) i has = refl
name_grown h tree (nodes.typecode wide kind cases) i has = refl
name_grown h tree (nodes.announced index) i has = absurd (omega arith)
name_grown h tree _ i has = absurd has

ltb_suc_by : (v : Bool) (a b : ℕ) → nat_lt a b ≡ v → nat_lt (suc a) (suc b) ≡ v
ltb_suc_by true a b e = search (arith, lt-ltb, ltb-true)
ltb_suc_by false a b e = search (arith, le-ltb, ltb-false)

names_read : (names : List (List ℕ)) (n : ℕ)
    → slice_get names n ≡ cond (nat_lt n (length names)) (Some (name_or (slice_get names n))) None
names_read [] n = search (arith, le-ltb)
names_read (x ∷ xs) zero = search (arith, lt-ltb)
names_read (x ∷ xs) (suc n) = search (arith, cond, ltb_suc_by, nat_lt, names_read xs n)

pub enum_name_grown : (h : PartLimits) (tree : ℕ → Ty) (node : Node) (n : ℕ)
    → name_at node n ≡ enum_name_in (tree_of_node h tree node) n
enum_name_grown h tree (nodes.enumeration names) n = names_read names n
enum_name_grown h tree _ n = refl

-- a value that the octets spell selects what their whole number does
pub select_grown : (h : PartLimits) (tree : ℕ → Ty) (node : Node) (number : Number) (n : ℕ)
    → interpreted_in (switch_of (tree_of_node h tree node)) n ≡ Some number
    → selected node number ≡ select_in (tree_of_node h tree node) n
select_grown h tree (nodes.union switch cases otherwise) number n e = search (arith)
select_grown h tree (nodes.tagged special tag inner other) number n e = search (arith)
select_grown h tree (nodes.typecode wide kind cases) number n e = search (arith)
select_grown h tree _ number n e = refl

-- ---- a node in a room: all stays, apart from the types of a TypeCode's parts

pub in_shape : (room : ℕ) (node : Node) → shape_of (node_in_room room node) ≡ shape_of node
in_shape room (nodes.typecode wide kind cases) = refl
in_shape room _ = refl

narrow_name : (a b : Option ℕ) (o : Option Part)
    → name_of (option_map (nodes.narrow_part a) o) ≡ name_of (option_map (nodes.narrow_part b) o)
narrow_name a b None = refl
narrow_name a b (Some p) = refl

pub in_name : (room : ℕ) (node : Node) (i : ℕ)
    → name_of (part_at (node_in_room room node) i) ≡ name_of (part_at node i)
in_name room (nodes.typecode wide kind cases) i =
    narrow_name (cond (nat_lt room parameters_room) wide None) wide (case_part (slice_get cases i))
in_name room _ i = refl

pub in_enum_name : (room : ℕ) (node : Node) (n : ℕ) → name_at (node_in_room room node) n
    ≡ name_at node n
in_enum_name room (nodes.typecode wide kind cases) n = refl
in_enum_name room _ n = refl

pub in_switch : (room : ℕ) (node : Node) → switch_at (node_in_room room node) ≡ switch_at node
in_switch room (nodes.typecode wide kind cases) = refl
in_switch room _ = refl

pub in_selected : (room : ℕ) (node : Node) (number : Number)
    → selected (node_in_room room node) number ≡ selected node number
in_selected room (nodes.typecode wide kind cases) number = refl
in_selected room _ number = refl

-- nodes other than unions keep all parts
pub in_part : (room : ℕ) (node : Node) (i : ℕ) → (IsUnion (shape_of node) → ⊥)
    → part_at (node_in_room room node) i ≡ part_at node i
in_part room (nodes.typecode wide kind cases) i none = absurd (none tt)
in_part room _ i none = refl
