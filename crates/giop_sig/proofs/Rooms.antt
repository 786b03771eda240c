-- The trees of types in their rooms: a discriminator has one tree, and a table that grows keeps its
-- trees.
use Rattle.std.proofs.Common.{◌≡◌, ℕ, zero, suc, ◌<◌, List, [], ◌∷◌, length, refl, sym, subst, ap, ◌∙◌, arith}
use mathlib.Core.Path.{fun_ext}
use Rattle.std.specs.Prelude.{slice_get}
use Rattle.giop_sig.specs.Types.{Choice, Cases, Tag, Ty, Single, Struct, Sequence, Array, Encapsulation, HasSmallerPart, IsUnion, switch_of}
use Rattle.giop_sig.specs.Table.{Node, Part, Case, Table, node_in, node_at, shape_of, part_at, type_of, name_of, switch_at, case_part, IsScalarNode, IsFormed}
use Rattle.giop_sig.specs.Table as nodes
use Rattle.giop_sig.specs.Trees.{PartLimits, limits_in_room, tree_of_node, part_tree, union_tree, node_in_room, union_of, octet_type, scalar_or_octet, tree_at}
use Rattle.giop_sig.proofs.Nodes.{in_shape, in_switch}
use Rattle.giop_sig.proofs.Formed.{SameNodes, part_formed, switch_formed}
use Rattle.giop_sig.proofs.Depths.{FormedBelow, HasNoAnyOrRecursion, steady_in}

-- ---- a node, if the trees of its parts agree

abbrev pub SamePart : (one other : ℕ → Ty) (node : Node) → Type 0
SamePart f g node = (k : ℕ) → HasSmallerPart (shape_of node) k
    → f (type_of (part_at node k)) ≡ g (type_of (part_at node k))

part_same : (f g : ℕ → Ty) (ps : List Part) (i : ℕ)
    → ((k : ℕ) → k < length ps → f (type_of (slice_get ps k)) ≡ g (type_of (slice_get ps k)))
    → part_tree f (slice_get ps i) ≡ part_tree g (slice_get ps i)
part_same f g [] i same = refl
part_same f g (p ∷ ps) zero same = same 0 (omega arith)
part_same f g (p ∷ ps) (suc i) same = part_same f g ps i (λ k lt. same (suc k) (omega arith))

case_same : (f g : ℕ → Ty) (cs : List Case) (i : ℕ)
    → ((k : ℕ) → k < length cs
    → f (type_of (case_part (slice_get cs k))) ≡ g (type_of (case_part (slice_get cs k))))
    → part_tree f (case_part (slice_get cs i)) ≡ part_tree g (case_part (slice_get cs i))
case_same f g [] i same = refl
case_same f g (c ∷ cs) zero same = same 0 (omega arith)
case_same f g (c ∷ cs) (suc i) same = case_same f g cs i (λ k lt. same (suc k) (omega arith))

union_same : (f g : ℕ → Ty) (choice : Choice) (node : Node)
    → f (switch_at node) ≡ g (switch_at node)
    → ((i : ℕ) → part_tree f (part_at node i) ≡ part_tree g (part_at node i))
    → union_tree f choice node ≡ union_tree g choice node
union_same f g choice node switch parts =
    ap (λ T. union_of choice node T (λ i. part_tree f (part_at node i))) switch
    ∙ ap (union_of choice node (g (switch_at node))) (fun_ext parts)

pub grow_same : (h k : PartLimits) (f g : ℕ → Ty) (node : Node) → HasNoAnyOrRecursion node
    → SamePart f g node
    → (IsUnion (shape_of node) → f (switch_at node) ≡ g (switch_at node))
    → tree_of_node h f node ≡ tree_of_node k g node
grow_same h k f g (nodes.members parts) steady same switch =
    ap (Struct (length parts) (λ i. name_of (slice_get parts i)))
    (fun_ext (λ i. part_same f g parts i same))
grow_same h k f g (nodes.union s cases otherwise) steady same switch =
    union_same f g (Cases (length cases)) (nodes.union s cases otherwise) (switch tt)
    (λ i. case_same f g cases i same)
grow_same h k f g (nodes.sequence bound element) steady same switch =
    ap (Sequence bound) (same 0 tt)
grow_same h k f g (nodes.array count element) steady same switch = ap (Array count) (same 0 tt)
grow_same h k f g (nodes.encapsulation held) steady same switch = ap Encapsulation (same 0 tt)
grow_same h k f g (nodes.tagged special tag inner other) steady same switch =
    union_same f g Tag (nodes.tagged special tag inner other) (switch tt)
    (λ i. part_same f g (tag ∷ inner ∷ other ∷ []) i same)
grow_same h k f g (nodes.any code) steady same switch = absurd steady
grow_same h k f g (nodes.recursive bound element) steady same switch = absurd steady
grow_same h k f g (nodes.typecode wide kind cases) steady same switch = absurd steady
grow_same h k f g _ steady same switch = refl

-- ---- the discriminator

single_of : (h : PartLimits) (f : ℕ → Ty) (room : ℕ) (node : Node) → IsScalarNode node
    → tree_of_node h f (node_in_room room node) ≡ Single
    (scalar_or_octet (tree_of_node h f (node_in_room room node)))
single_of h f room (nodes.prim p) is = refl
single_of h f room (nodes.enumeration names) is = refl
single_of h f room (nodes.marked mark) is = refl
single_of h f room _ is = absurd is

-- the type of a union's discriminator is one of one number
pub single_at : (t : Table) (room i : ℕ) → IsScalarNode (node_at t i)
    → tree_at t room i ≡ Single (scalar_or_octet (tree_at t room i))
unfolding tree_at
single_at t zero i is = single_of (limits_in_room t 0) (λ k. octet_type) 0 (node_at t i) is
single_at t (suc room) i is =
    single_of (limits_in_room t room) (tree_at t room) room (node_at t i) is

scalar_same : (h k : PartLimits) (f g : ℕ → Ty) (a b : ℕ) (node : Node) → IsScalarNode node
    → tree_of_node h f (node_in_room a node) ≡ tree_of_node k g (node_in_room b node)
scalar_same h k f g a b (nodes.prim p) is = refl
scalar_same h k f g a b (nodes.enumeration names) is = refl
scalar_same h k f g a b (nodes.marked mark) is = refl
scalar_same h k f g a b _ is = absurd is

-- a type of one number is the same in any room
pub scalar_room : (t : Table) (a b i : ℕ) → IsScalarNode (node_at t i)
    → tree_at t a i ≡ tree_at t b i
unfolding tree_at
scalar_room t zero zero i is = refl
scalar_room t zero (suc b) i is =
    scalar_same (limits_in_room t 0) (limits_in_room t b) (λ k. octet_type) (tree_at t b) 0 b
    (node_at t i) is
scalar_room t (suc a) zero i is =
    scalar_same (limits_in_room t a) (limits_in_room t 0) (tree_at t a) (λ k. octet_type) a 0
    (node_at t i) is
scalar_room t (suc a) (suc b) i is =
    scalar_same (limits_in_room t a) (limits_in_room t b) (tree_at t a) (tree_at t b) a b
    (node_at t i) is

switch_in : (h : PartLimits) (f : ℕ → Ty) (node : Node) → IsUnion (shape_of node)
    → f (switch_at node) ≡ Single (scalar_or_octet (f (switch_at node)))
    → f (switch_at node) ≡ switch_of (tree_of_node h f node)
switch_in h f (nodes.union switch cases otherwise) is e = e
switch_in h f (nodes.tagged special tag inner other) is e = e
switch_in h f (nodes.typecode wide kind cases) is e = e
switch_in h f _ is e = absurd is

pub switch_grown : (h : PartLimits) (f : ℕ → Ty) (room : ℕ) (node : Node) → IsUnion (shape_of node)
    → f (switch_at node) ≡ Single (scalar_or_octet (f (switch_at node)))
    → f (switch_at node) ≡ switch_of (tree_of_node h f (node_in_room room node))
switch_grown h f room node is e =
    let at = in_switch room node in
    subst (λ k. f k ≡ switch_of (tree_of_node h f (node_in_room room node))) at
    (switch_in h f (node_in_room room node) (subst IsUnion (sym (in_shape room node)) is)
    (subst (λ k. f k ≡ Single (scalar_or_octet (f k))) (sym at) e))

-- ---- a table that grows

abbrev pub NoneHasAnyOrRecursion : (types : List Node) (n : ℕ) → Type 0
NoneHasAnyOrRecursion types n = (i : ℕ) → i < n → HasNoAnyOrRecursion (node_in types i)

-- a tree without anys depends on the nodes up to its own alone
pub tree_moved : (t u : Table) (n room i : ℕ) → FormedBelow t.types n
    → NoneHasAnyOrRecursion t.types n
    → SameNodes t.types u.types n → i < n → tree_at t room i ≡ tree_at u room i
unfolding tree_at
tree_moved t u n zero i are steady same lt =
    let one = node_at t i in
    let a : node_in_room 0 one ≡ one = steady_in 0 one (steady i lt) in
    let b : node_in_room 0 (node_at u i) ≡ one = ap (node_in_room 0) (sym (same i lt)) ∙ a in
    rw (a, b) (grow_same (limits_in_room t 0) (limits_in_room u 0) (λ k. octet_type)
    (λ k. octet_type) one
    (steady i lt) (λ k has. refl) (λ is. refl))
tree_moved t u n (suc room) i are steady same lt =
    let one = node_at t i in
    let a : node_in_room room one ≡ one = steady_in room one (steady i lt) in
    let b : node_in_room room (node_at u i) ≡ one = ap (node_in_room room) (sym (same i lt)) ∙ a in
    rw (a, b) (grow_same (limits_in_room t room) (limits_in_room u room) (tree_at t room)
    (tree_at u room)
    one (steady i lt)
    (λ k has. let below = (part_formed t.types i one k (are i lt) has).below in
    tree_moved t u n room (type_of (part_at one k)) are steady same (omega arith))
    (λ is. let below = (switch_formed t.types i one (are i lt) is).below in
    tree_moved t u n room (switch_at one) are steady same (omega arith)))
