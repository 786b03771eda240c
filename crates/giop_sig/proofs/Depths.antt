-- The depth of a type, from its shape and the depths of its parts.
use Rattle.std.proofs.Common.{◌≡◌, ℕ, zero, suc, ◌+◌, ◌<◌, ◌≤◌, max, List, ◌++◌, length, refl, sym, ap, subst, ◌∙◌, ◌⊎◌, inl, inr, arith}
use Rattle.std.proofs.lemmas.List.{length-append, get_or_append_left, get_or_past}
use Rattle.std.proofs.lemmas.Bool.{cases_lt}
use Rattle.giop_cdr.specs.declared.prim.Primitive.TheVariants.{Octet}
use Rattle.giop_sig.specs.declared.types.Shape.{Shape}
use Rattle.giop_sig.specs.declared.types.Shape.TheVariants as shapes
use Rattle.giop_sig.specs.HeaderTypes.{AreBeforeVersion3, IsBeforeVersion3}
use Rattle.giop_sig.specs.Types.{Ty, depth, most, HasSmallerPart}
use Rattle.giop_sig.specs.Table.{Node, Table, node_in, node_at, part_at, type_of, shape_of, IsFormed}
use Rattle.giop_sig.specs.Table as nodes
use Rattle.giop_sig.specs.Trees.{PartLimits, tree_of_node, node_in_room, limits_in_room, tree_at, tree, octet_type, depth_by, depth_at, depth_in, depth_of, part_depth, node_depth, AreFormed}
use Rattle.giop_sig.proofs.Nodes.{part_grown}
use Rattle.giop_sig.proofs.Formed.{SameNodes, part_formed}

-- ---- the greatest of some numbers

pub most_same : (n : ℕ) (f g : ℕ → ℕ) → ((i : ℕ) → i < n → f i ≡ g i) → most n f ≡ most n g
most_same zero f g same = refl
most_same (suc n) f g same = ap (λ k. max k (f n)) (most_same n f g (λ i lt. same i (omega arith)))
    ∙ ap (max (most n g)) (same n (omega arith))

most_more : (n : ℕ) (f g : ℕ → ℕ) → ((i : ℕ) → i < n → f i ≤ g i) → most n f ≤ most n g
most_more zero f g less = omega arith
most_more (suc n) f g less =
    omega (arith, most_more n f g (λ i lt. less i (omega arith)), less n (omega arith))

most_within : (n : ℕ) (f : ℕ → ℕ) (b : ℕ) → ((i : ℕ) → i < n → f i ≤ b) → most n f ≤ b
most_within zero f b each = omega arith
most_within (suc n) f b each =
    omega (arith, most_within n f b (λ i lt. each i (omega arith)), each n (omega arith))

most_last : (n : ℕ) (f : ℕ → ℕ) (i : ℕ) → (i < n → f i ≤ most n f) → i < suc n → (i < n) ⊎ (n ≤ i)
    → f i ≤ max (most n f) (f n)
most_last n f i rest lt (inl h) = omega (arith, rest h)
most_last n f i rest lt (inr h) = search (arith)

most_above : (n : ℕ) (f : ℕ → ℕ) (i : ℕ) → i < n → f i ≤ most n f
most_above zero f i lt = absurd (omega arith)
most_above (suc n) f i lt = most_last n f i (most_above n f i) lt (cases_lt i n)

-- ---- the depth of a shape

pub by_same : (s : Shape) (f g : ℕ → ℕ) → ((k : ℕ) → HasSmallerPart s k → f k ≡ g k)
    → depth_by s f ≡ depth_by s g
by_same (shapes.Members count) f g same = ap (λ n. 1 + n) (most_same count f g same)
by_same (shapes.Union count) f g same = ap (λ n. 1 + max 1 n) (most_same count f g same)
by_same shapes.Tagged f g same = ap (λ n. 1 + max 1 n) (most_same 3 f g same)
by_same (shapes.Sequence bound) f g same = ap (λ n. 1 + n) (same 0 tt)
by_same (shapes.Array count) f g same = ap (λ n. 1 + n) (same 0 tt)
by_same shapes.Encapsulation f g same = ap (λ n. 1 + n) (same 0 tt)
by_same shapes.Led f g same = ap (λ n. 1 + n) (same 0 refl)
by_same _ f g same = refl

by_more : (s : Shape) (f g : ℕ → ℕ) → ((k : ℕ) → HasSmallerPart s k → f k ≤ g k)
    → depth_by s f ≤ depth_by s g
by_more (shapes.Members count) f g less = omega (arith, most_more count f g less)
by_more (shapes.Union count) f g less = omega (arith, most_more count f g less)
by_more shapes.Tagged f g less = omega (arith, most_more 3 f g less)
by_more (shapes.Sequence bound) f g less = omega (arith, less 0 tt)
by_more (shapes.Array count) f g less = omega (arith, less 0 tt)
by_more shapes.Encapsulation f g less = omega (arith, less 0 tt)
by_more shapes.Led f g less = omega (arith, less 0 refl)
by_more _ f g less = omega arith

-- a shape of a depth of at least two
abbrev IsTwoDeep : (shape : Shape) → Type 0
IsTwoDeep (shapes.Union count) = Unit {0}
IsTwoDeep shapes.Tagged = Unit {0}
IsTwoDeep (shapes.Recursive bound) = Unit {0}
IsTwoDeep s = ⊥

by_within : (s : Shape) (f : ℕ → ℕ) (b : ℕ) → (IsTwoDeep s → 0 < b)
    → ((k : ℕ) → HasSmallerPart s k → f k ≤ b) → depth_by s f ≤ suc b
by_within (shapes.Members count) f b some each = omega (arith, most_within count f b each)
by_within (shapes.Union count) f b some each = omega (arith, some tt, most_within count f b each)
by_within shapes.Tagged f b some each = omega (arith, some tt, most_within 3 f b each)
by_within (shapes.Sequence bound) f b some each = omega (arith, each 0 tt)
by_within (shapes.Array count) f b some each = omega (arith, each 0 tt)
by_within shapes.Encapsulation f b some each = omega (arith, each 0 tt)
by_within shapes.Led f b some each = omega (arith, each 0 refl)
by_within (shapes.Recursive bound) f b some each = omega (arith, some tt)
by_within _ f b some each = omega arith

by_some : (s : Shape) (f : ℕ → ℕ) → 0 < depth_by s f
by_some (shapes.Members count) f = omega arith
by_some (shapes.Union count) f = omega arith
by_some shapes.Tagged f = omega arith
by_some (shapes.Sequence bound) f = omega arith
by_some (shapes.Array count) f = omega arith
by_some shapes.Encapsulation f = omega arith
by_some shapes.Led f = omega arith
by_some _ f = omega arith

-- a part is less deep than its type
part_less : (f : ℕ → ℕ) (node : Node) (k : ℕ) → HasSmallerPart (shape_of node) k
    → f (type_of (part_at node k)) < depth_by (shape_of node) (λ i. f (type_of (part_at node i)))
part_less f (nodes.members parts) k has =
    omega (
      arith,
      most_above (length parts)
          (λ i. f (type_of (part_at (nodes.members parts) i))) k has,
    )
part_less f (nodes.union switch cases otherwise) k has =
    omega (
      arith,
      most_above (length cases)
          (λ i. f (type_of (part_at (nodes.union switch cases otherwise) i))) k has,
    )
part_less f (nodes.tagged special tag inner other) k has =
    omega (
      arith,
      most_above 3
          (λ i. f (type_of (part_at (nodes.tagged special tag inner other) i))) k has,
    )
part_less f (nodes.sequence bound element) k has = omega arith
part_less f (nodes.array count element) k has = omega arith
part_less f (nodes.encapsulation held) k has = omega arith
part_less f (nodes.any code) k has = rw has (omega arith)
part_less f (nodes.announced index) k has = absurd (omega arith)
part_less f (nodes.typecode wide kind cases) k has =
    omega (
      arith,
      most_above (length cases)
          (λ i. f (type_of (part_at (nodes.typecode wide kind cases) i))) k has,
    )
part_less f _ k has = absurd has

-- ---- the depth of a tree

pub depth_grown : (h : PartLimits) (tree : ℕ → Ty) (node : Node) → IsBeforeVersion3 node
    → depth (tree_of_node h tree node) ≡ depth_by (shape_of node)
    (λ i. depth (tree (type_of (part_at node i))))
unfolding depth
depth_grown h tree (nodes.members parts) plain =
    ap (λ n. 1 + n) (most_same (length parts) _ _
    (λ i lt. ap depth (sym (part_grown h tree (nodes.members parts) i lt))))
depth_grown h tree (nodes.union switch cases otherwise) plain =
    ap (λ n. 1 + max 1 n) (most_same (length cases) _ _
    (λ i lt. ap depth (sym (part_grown h tree (nodes.union switch cases otherwise) i lt))))
depth_grown h tree (nodes.tagged special tag inner other) plain =
    search (arith, max, most_same, part_grown)
depth_grown h tree (nodes.marked mark) plain = absurd plain
depth_grown h tree (nodes.any code) plain = absurd plain
depth_grown h tree (nodes.announced index) plain = absurd plain
depth_grown h tree (nodes.recursive bound element) plain = absurd plain
depth_grown h tree (nodes.typecode wide kind cases) plain = absurd plain
depth_grown h tree _ plain = refl

-- a node that isn't an any, a TypeCode or a recursive sequence, whose trees differ with the table
-- or the room
abbrev pub HasNoAnyOrRecursion : (node : Node) → Type 0
HasNoAnyOrRecursion (nodes.any code) = ⊥
HasNoAnyOrRecursion (nodes.recursive bound element) = ⊥
HasNoAnyOrRecursion (nodes.typecode wide kind cases) = ⊥
HasNoAnyOrRecursion node = Unit {0}

pub plain_steady : (node : Node) → IsBeforeVersion3 node → HasNoAnyOrRecursion node
plain_steady (nodes.any code) plain = absurd plain
plain_steady (nodes.recursive bound element) plain = absurd plain
plain_steady (nodes.typecode wide kind cases) plain = absurd plain
plain_steady _ plain = tt

-- such a node is the same in any room
pub steady_in : (room : ℕ) (node : Node) → HasNoAnyOrRecursion node → node_in_room room node ≡ node
steady_in room (nodes.typecode wide kind cases) steady = absurd steady
steady_in room _ steady = refl

pub plain_in : (room : ℕ) (node : Node) → IsBeforeVersion3 node → node_in_room room node ≡ node
plain_in room node plain = steady_in room node (plain_steady node plain)

plain_by : (types : List Node) (i : ℕ) → AreBeforeVersion3 types → (i < length types)
    ⊎ (length types ≤ i)
    → IsBeforeVersion3 (node_in types i)
plain_by types i are (inl lt) = are i lt
plain_by types i are (inr le) =
    subst IsBeforeVersion3 (sym (get_or_past types i (nodes.prim Octet) le)) tt

pub plain_node : (types : List Node) (i : ℕ) → AreBeforeVersion3 types → IsBeforeVersion3
    (node_in types i)
plain_node types i are = plain_by types i are (cases_lt i (length types))

-- a tree without anys is as deep as its type, counted down to the depth of its room
pub tree_depth : (t : Table) (room i : ℕ) → AreBeforeVersion3 t.types
    → depth (tree_at t room i) ≡ depth_at t.types (suc room) i
unfolding tree_at depth_at depth
tree_depth t zero i are =
    let node = node_at t i in
    let plain = plain_node t.types i are in
    ap (λ n. depth (tree_of_node (limits_in_room t 0) (λ k. octet_type) n)) (plain_in 0 node plain)
    ∙ depth_grown (limits_in_room t 0) (λ k. octet_type) node plain
    ∙ by_same (shape_of node) _ _ (λ k has. refl)
tree_depth t (suc room) i are =
    let node = node_at t i in
    let plain = plain_node t.types i are in
    ap (λ n. depth (tree_of_node (limits_in_room t room) (tree_at t room) n))
    (plain_in room node plain)
    ∙ depth_grown (limits_in_room t room) (tree_at t room) node plain
    ∙ by_same (shape_of node) _ _
    (λ k has. tree_depth t room (type_of (part_at node k)) are)

-- ---- how far down depths are counted

-- counted further down, a depth is no less
deeper : (types : List Node) (a b i : ℕ) → a ≤ b → depth_at types a i ≤ depth_at types b i
unfolding depth_at
deeper types zero zero i le = omega arith
deeper types zero (suc b) i le = omega (
  arith,
  by_some (shape_of (node_in types i))
      (λ k. depth_at types b (type_of (part_at (node_in types i) k))),
)
deeper types (suc a) zero i le = absurd (omega arith)
deeper types (suc a) (suc b) i le = by_more (shape_of (node_in types i)) _ _
    (λ k has. deeper types a b (type_of (part_at (node_in types i) k)) (omega arith))

-- no tree without anys is deeper than its type
pub depth_tree : (t : Table) (i : ℕ) → AreBeforeVersion3 t.types → depth
    (tree t i) ≤ depth_in t.types i
depth_tree t i are =
    omega (arith, tree_depth t 24 i are, deeper t.types 25 (i + 25) i (omega arith))

-- no type is deeper than the deepest one
pub depth_within : (types : List Node) (i : ℕ) → i < length types
    → depth_in types i ≤ depth_of types
unfolding depth_of
depth_within types i lt = most_above (length types) (depth_in types) i lt

-- ---- types that are well formed

abbrev pub FormedBelow : (types : List Node) (n : ℕ) → Type 0
FormedBelow types n = (i : ℕ) → i < n → IsFormed types i (node_in types i)

-- a depth depends on the types up to its own alone, and it is counted to the end
pub depth_moved : (types others : List Node) (n a b i : ℕ) → FormedBelow types n
    → SameNodes types others n → i < n → i < a → i < b → depth_at types a i ≡ depth_at others b i
unfolding depth_at
depth_moved types others n zero b i are same lt la lb = absurd (omega arith)
depth_moved types others n (suc a) zero i are same lt la lb = absurd (omega arith)
depth_moved types others n (suc a) (suc b) i are same lt la lb =
    by_same (shape_of (node_in types i)) _ _
    (λ k has. let below = (part_formed types i (node_in types i) k (are i lt) has).below in
    depth_moved types others n a b (type_of (part_at (node_in types i) k)) are same (omega arith)
    (omega arith) (omega arith))
    ∙ ap (λ node. depth_by (shape_of node) (λ k. depth_at others b (type_of (part_at node k))))
    (same i lt)

-- the depth of a type is that of its node
pub depth_parts : (types : List Node) (i : ℕ) → AreFormed types → i < length types
    → depth_in types i ≡ node_depth types (node_in types i)
unfolding depth_at
depth_parts types i are lt =
    let e : i + 25 ≡ suc (i + 24) = omega arith in
    ap (λ n. depth_at types n i) e ∙ by_same (shape_of (node_in types i)) _ _
    (λ k has. let below = (part_formed types i (node_in types i) k (are.formed i lt) has).below in
    depth_moved types types (length types) (i + 24) (type_of (part_at (node_in types i) k) + 25)
    (type_of (part_at (node_in types i) k)) are.formed (λ j h. refl) (omega arith) (omega arith)
    (omega arith))

-- a part is less deep than its type
pub part_shallower : (types : List Node) (i k : ℕ) → AreFormed types → i < length types
    → HasSmallerPart (shape_of (node_in types i)) k
    → part_depth types (node_in types i) k < depth_in types i
part_shallower types i k are lt has =
    omega (arith, depth_parts types i are lt, part_less (depth_in types) (node_in types i) k has)

-- a type of a depth of at least two isn't the first one
two_deep : (types : List Node) (n : ℕ) (node : Node) → IsFormed types n node
    → IsTwoDeep (shape_of node) → 0 < n
two_deep types n (nodes.union switch cases otherwise) formed is =
    let below = formed.0.below in omega arith
two_deep types n (nodes.tagged special tag inner other) formed is =
    let below = formed.0.below in omega arith
two_deep types n (nodes.typecode wide kind cases) formed is =
    let below = formed.0.below in omega arith
two_deep types n (nodes.recursive bound element) formed is = formed
two_deep types n _ formed is = absurd is

small_below : (types : List Node) (a i : ℕ) → AreFormed types → i < a → i < length types
    → depth_at types a i ≤ suc i
unfolding depth_at
small_below types zero i are la lt = absurd (omega arith)
small_below types (suc a) i are la lt =
    by_within (shape_of (node_in types i)) _ i
    (two_deep types i (node_in types i) (are.formed i lt))
    (λ k has. let below = (part_formed types i (node_in types i) k (are.formed i lt) has).below in
    omega (
      arith,
      small_below types a (type_of (part_at (node_in types i) k)) are (omega arith)
          (omega arith),
    ))

-- the depth of a type is at most its number plus 1, since each part has a smaller number
pub type_small : (types : List Node) (i : ℕ) → AreFormed types → i < length types
    → depth_in types i ≤ suc i
type_small types i are lt = small_below types (i + 25) i are (omega arith) lt

pub some_depth : (types : List Node) (i : ℕ) → 0 < depth_in types i
unfolding depth_at
some_depth types i =
    let e : i + 25 ≡ suc (i + 24) = omega arith in
    rw e (by_some (shape_of (node_in types i))
    (λ k. depth_at types (i + 24) (type_of (part_at (node_in types i) k))))

-- the depth for a node's shape
pub depth_at_shape : (types : List Node) (node : Node) (s : Shape) → s ≡ shape_of node
    → node_depth types node ≡ depth_by s (part_depth types node)
depth_at_shape types node s e = ap (λ x. depth_by x (part_depth types node)) (sym e)

-- ---- a table that grows

more_by : (types more : List Node) (a i : ℕ) → (i < length types) ⊎ (length types ≤ i)
    → ((k : ℕ) → depth_at types a k ≤ depth_at (types ++ more) a k)
    → depth_at types (suc a) i ≤ depth_at (types ++ more) (suc a) i
unfolding depth_at
more_by types more a i (inl lt) less =
    let e = get_or_append_left types more (nodes.prim Octet) i lt in
    rw e (by_more (shape_of (node_in types i)) _ _
    (λ k has. less (type_of (part_at (node_in types i) k))))
more_by types more a i (inr le) less =
    let e : node_in types i ≡ nodes.prim Octet = get_or_past types i (nodes.prim Octet) le in
    rw e (by_some (shape_of (node_in (types ++ more) i))
    (λ k. depth_at (types ++ more) a (type_of (part_at (node_in (types ++ more) i) k))))

depth_more : (types more : List Node) (a i : ℕ)
    → depth_at types a i ≤ depth_at (types ++ more) a i
unfolding depth_at
depth_more types more zero i = omega arith
depth_more types more (suc a) i =
    more_by types more a i (cases_lt i (length types)) (depth_more types more a)

most_longer : (m n : ℕ) (f : ℕ → ℕ) → most m f ≤ most (m + n) f
most_longer m zero f = let e : m + 0 ≡ m = omega arith in rw e (omega arith)
most_longer m (suc n) f =
    let e : m + suc n ≡ suc (m + n) = omega arith in rw e (omega (arith, most_longer m n f))

-- a table doesn't get less deep
pub deepest_more : (types more : List Node) → depth_of types ≤ depth_of (types ++ more)
unfolding depth_of
deepest_more types more =
    omega (
      arith,
      most_more (length types) (depth_in types) (depth_in (types ++ more))
          (λ i lt. depth_more types more (i + 25) i),
      most_longer (length types) (length more) (depth_in (types ++ more)),
      ap (λ n. most n (depth_in (types ++ more))) (length-append types more),
    )
