-- The entry of a type agrees with the table and with the type's tree.
use Rattle.std.proofs.Common.{◌≡◌, ℕ, zero, suc, ◌<◌, ◌≤◌, Bool, true, false, List, length, get_or, Option, Some, refl, sym, ap, ◌∙◌, subst, arith}
use Rattle.std.specs.Prelude.{IfSome}
use Rattle.std.proofs.lemmas.List.{length-map}
use Rattle.giop_cdr.specs.declared.number.Number.{Number}
use Rattle.giop_sig.specs.declared.types.Shape.{Shape}
use Rattle.giop_sig.specs.declared.types.Shape.TheVariants as shapes
use Rattle.giop_sig.specs.declared.types.Selected.{Selected}
use Rattle.giop_sig.specs.declared.types.Selected.TheVariants as selecteds
use Rattle.giop_sig.specs.Types.{Ty, elements_fit, part_of, name_in, enum_name_in, switch_of, select_in, interpreted_in, shape_in, HasShape, HasMember, HasIndex, HasSmallerPart, IsUnion}
use Rattle.giop_sig.specs.Fits.{IsRoot}
use Rattle.giop_sig.specs.Table.{Node, Table, seen, node_at, node_in, shape_of, part_at, type_of, name_of, name_at, switch_at, selected, IsFormed}
use Rattle.giop_sig.specs.Table as nodes
use Rattle.giop_sig.specs.Trees.{PartLimits, limits_in_room, can_be_value, tree_of_node, node_in_room, octet_type, part_number_in, tree_at, tree, AreTypes, AllHaveParameterTypes, IsResolved}
use Rattle.giop_sig.specs.HeaderTypes.{IsTable}
use Rattle.giop_sig.specs.Views.{node_view, IsTableWithEntries, HasCountableParts}
use Rattle.giop_sig.specs.declared.entries.Entry.{Entry}
use Rattle.giop_sig.specs.declared.entries.Entry.TheVariants as entries
use Rattle.giop_sig.specs.declared.types.TypeId.{TypeId}
use Rattle.giop_sig.specs.declared.entries.EntryWithDepth.{EntryWithDepth}
use Rattle.giop_sig.proofs.Rooms.{scalar_room, single_at, switch_grown}
use Rattle.giop_sig.proofs.Nodes.{in_enum_name, in_name, in_part, in_selected, in_shape, shape_grown, has_shape, part_grown, name_grown, enum_name_grown, select_grown}
use Rattle.giop_sig.proofs.Kept.{node_read}
use Rattle.giop_sig.proofs.Formed.{sized, part_formed, name_short, switch_formed, enum_name_short}
use Rattle.giop_sig.proofs.Solid.{any_room, root_at, selected_below}

-- ---- a table as messages see it

pub seen_table : (forbids_wide : Bool) (t : Table) → IsTable t → IsTable (seen forbids_wide t)
seen_table forbids_wide t is = record {
  types = is.types;
  begins = is.begins;
  operations = is.operations;
  exceptions = is.exceptions;
  operations_distinct = is.operations_distinct;
  exceptions_distinct = is.exceptions_distinct;
  operations_few = is.operations_few;
  exceptions_few = is.exceptions_few;
  declared_few = is.declared_few;
  called_few = is.called_few;
  identities = is.identities;
  identities_distinct = is.identities_distinct;
  interfaces_few = is.interfaces_few;
  anys = is.anys;
}

-- a catalogue's own table is not narrow
pub seen_own : (view t : Table) (forbids_wide : Bool) → view.forbids_wide ≡ false → view ≡ t
    → forbids_wide ≡ false → seen forbids_wide t ≡ t
seen_own view t forbids_wide own same e =
    ap (λ b. seen b t) (e ∙ sym own ∙ ap (λ (u : Table). u.forbids_wide) same)

-- the entries of a table as messages see it
pub seen_index : (t u : Table) (ps : List EntryWithDepth) (i : ℕ) → IsTableWithEntries t ps → t ≡ u
    → i < length u.types → i < length ps
seen_index t u ps i is same lt =
    let size = length-map ps (λ (q : EntryWithDepth). node_view q.entry) in
    let all = ap length is.entries ∙ ap (λ (v : Table). length v.types) same in
    omega (arith, size, all)

pub seen_node : (t u : Table) (ps : List EntryWithDepth) (i : ℕ) (p : EntryWithDepth)
    → IsTableWithEntries t ps → t ≡ u → i < length u.types → p ≡ get_or ps i p
    → node_view p.entry ≡ node_at u i
seen_node t u ps i p is same lt h =
    sym (node_read ps i p (seen_index t u ps i is same lt) h)
    ∙ ap (λ ns. node_in ns i) is.entries ∙ ap (λ v. node_at v i) same

pub seen_sized : (t u : Table) (ps : List EntryWithDepth) (i : ℕ) (p : EntryWithDepth)
    → IsTableWithEntries t ps → t ≡ u → i < length u.types → p ≡ get_or ps i p
    → HasCountableParts p.entry
seen_sized t u ps i p is same lt h =
    let formed = subst (λ (v : Table). AreTypes v.types) same is.table.types in
    sized u.types i p.entry
    (subst (IsFormed u.types i) (sym (seen_node t u ps i p is same lt h))
    (formed.placed.formed i lt))

-- ---- a node and its tree, in any room

pub shape_at : (t : Table) (room i : ℕ) → shape_in (tree_at t room i) ≡ shape_of (node_at t i)
unfolding tree_at
shape_at t zero i = shape_grown (limits_in_room t 0) (λ k. octet_type)
    (node_in_room 0 (node_at t i))
    ∙ in_shape 0 (node_at t i)
shape_at t (suc room) i =
    shape_grown (limits_in_room t room) (tree_at t room) (node_in_room room (node_at t i))
    ∙ in_shape room (node_at t i)

pub part_tree_at : (t : Table) (room i k : ℕ) → HasIndex (shape_of (node_at t i)) k
    → tree_at t room (part_number_in t room i k) ≡ part_of (tree_at t (suc room) i) k
unfolding tree_at
part_tree_at t room i k has =
    part_grown (limits_in_room t room) (tree_at t room) (node_in_room room (node_at t i)) k
    (subst (λ s. HasIndex s k) (sym (in_shape room (node_at t i))) has)

member_in : (room k : ℕ) (node : Node) → HasMember (shape_of node) k
    → HasMember (shape_of (node_in_room room node)) k
member_in room k node has = subst (λ s. HasMember s k) (sym (in_shape room node)) has

name_tree_at : (t : Table) (room i k : ℕ) → HasMember (shape_of (node_at t i)) k
    → name_of (part_at (node_at t i) k) ≡ name_in (tree_at t room i) k
unfolding tree_at
name_tree_at t zero i k has =
    let node = node_at t i in
    sym (in_name 0 node k) ∙ name_grown (limits_in_room t 0) (λ k. octet_type)
    (node_in_room 0 node) k
    (member_in 0 k node has)
name_tree_at t (suc room) i k has =
    let node = node_at t i in
    sym (in_name room node k)
    ∙ name_grown (limits_in_room t room) (tree_at t room) (node_in_room room node) k
    (member_in room k node has)

enum_tree_at : (t : Table) (room i n : ℕ)
    → name_at (node_at t i) n ≡ enum_name_in (tree_at t room i) n
unfolding tree_at
enum_tree_at t zero i n =
    let node = node_at t i in
    sym (in_enum_name 0 node n)
    ∙ enum_name_grown (limits_in_room t 0) (λ k. octet_type) (node_in_room 0 node) n
enum_tree_at t (suc room) i n =
    let node = node_at t i in
    sym (in_enum_name room node n)
    ∙ enum_name_grown (limits_in_room t room) (tree_at t room) (node_in_room room node) n

select_tree_at : (t : Table) (room i : ℕ) (number : Number) (n : ℕ)
    → interpreted_in (switch_of (tree_at t room i)) n ≡ Some number
    → selected (node_at t i) number ≡ select_in (tree_at t room i) n
unfolding tree_at
select_tree_at t zero i number n e =
    let node = node_at t i in
    sym (in_selected 0 node number)
    ∙ select_grown (limits_in_room t 0) (λ k. octet_type) (node_in_room 0 node) number n e
select_tree_at t (suc room) i number n e =
    let node = node_at t i in
    sym (in_selected room node number)
    ∙ select_grown (limits_in_room t room) (tree_at t room) (node_in_room room node) number n e

-- the node that was read is that of the type
pub record IsNodeOfType (t : Table) (i : ℕ) (node : Node) : Type 0 where
  pub types : AreTypes t.types
  pub wide : AllHaveParameterTypes t.types
  pub known : i < length t.types
  pub is : node ≡ node_at t i

pub entered : (view t : Table) (i : ℕ) (node : Node) → IsTable view → view ≡ t → i < length t.types
    → node ≡ node_at view i → IsNodeOfType t i node
entered view t i node laws same known is = record {
  types = subst (λ (u : Table). AreTypes u.types) same laws.types;
  wide = subst (λ (u : Table). AllHaveParameterTypes u.types) same laws.anys.wide;
  known = known;
  is = is ∙ ap (λ u. node_at u i) same;
}

formed_at : (t : Table) (i : ℕ) (node : Node) → IsNodeOfType t i node → IsFormed t.types i node
formed_at t i node e = subst (IsFormed t.types i) (sym e.is) (e.types.placed.formed i e.known)

settled_at : (t : Table) (i : ℕ) (node : Node) → IsNodeOfType t i node → IsResolved t.types node
settled_at t i node e = subst (IsResolved t.types) (sym e.is) (e.types.settled i e.known)

-- the shape of the node is that of the tree
pub shape_entered : (t : Table) (i room : ℕ) (node : Node) → IsNodeOfType t i node
    → shape_of node ≡ shape_in (tree_at t room i)
shape_entered t i room node e = ap shape_of e.is ∙ sym (shape_at t room i)

pub has_shape_entered : (t : Table) (i room : ℕ) (node : Node) (s : Shape) → IsNodeOfType t i node
    → s ≡ shape_of node → HasShape (tree_at t room i) s
has_shape_entered t i room node s e is =
    subst (HasShape (tree_at t room i)) (sym (is ∙ shape_entered t i room node e))
    (has_shape (tree_at t room i))

pub root_entered : (t : Table) (i : ℕ) (node : Node) → IsNodeOfType t i node → IsRoot (tree t i)
root_entered t i node e = root_at t i e.types e.wide e.known

-- an index of the tree is one of the node
pub index_entered : (t : Table) (i k : ℕ) (node : Node) → IsNodeOfType t i node
    → HasIndex (shape_in (tree t i)) k → HasIndex (shape_of node) k
index_entered t i k node e has =
    subst (λ s. HasIndex s k) (sym (shape_entered t i 24 node e)) has

pub member_entered : (t : Table) (i k : ℕ) (node : Node) → IsNodeOfType t i node
    → HasMember (shape_in (tree t i)) k → HasMember (shape_of node) k
member_entered t i k node e has =
    subst (λ s. HasMember s k) (sym (shape_entered t i 24 node e)) has

pub union_entered : (t : Table) (i : ℕ) (node : Node) → IsNodeOfType t i node
    → IsUnion (shape_in (tree t i)) → IsUnion (shape_of node)
union_entered t i node e is = subst IsUnion (sym (shape_entered t i 24 node e)) is

-- the part at an index has a smaller number
pub part_below : (t : Table) (i k p : ℕ) (node : Node) → IsNodeOfType t i node
    → HasSmallerPart (shape_in (tree t i)) k → p ≡ type_of (part_at node k) → p < i
part_below t i k p node e has is =
    let there = subst (λ s. HasSmallerPart s k) (sym (shape_entered t i 24 node e)) has in
    let below = (part_formed t.types i node k (formed_at t i node e) there).below in
    omega (arith, is)

at_node : (t : Table) (i k p : ℕ) (node : Node) → IsNodeOfType t i node → p ≡ type_of
    (part_at node k)
    → p ≡ type_of (part_at (node_at t i) k)
at_node t i k p node e is = is ∙ ap (λ n. type_of (part_at n k)) e.is

-- a part is the same in any room, if its type is no union
pub part_room : (t : Table) (i k p room : ℕ) (node : Node) → IsNodeOfType t i node
    → (IsUnion (shape_in (tree t i)) → ⊥)
    → HasIndex (shape_in (tree t i)) k → p ≡ type_of (part_at node k)
    → tree_at t room p ≡ part_of (tree_at t (suc room) i) k
part_room t i k p room node e none has is =
    let there = subst (λ n. HasIndex (shape_of n) k) e.is (index_entered t i k node e has) in
    let bare : IsUnion (shape_of (node_at t i)) → ⊥ =
    λ u. none (subst IsUnion (sym (shape_at t 24 i)) u) in
    ap (tree_at t room) (at_node t i k p node e is
    ∙ sym (ap type_of (in_part room (node_at t i) k bare))) ∙ part_tree_at t room i k there

-- a part is a type of the table
known_in : (t : Table) (i k : ℕ) (node : Node) → IsFormed t.types i node
    → IsResolved t.types node → i < length t.types
    → HasIndex (shape_of node) k → (shape_of node ≡ shapes.Led → k ≤ length t.types)
    → type_of (part_at node k) < length t.types
known_in t i zero (nodes.any code) formed settled lt has led = let below = formed.below in omega
    arith
known_in t i (suc k) (nodes.any code) formed settled lt has led = omega (arith, led refl)
known_in t i k (nodes.recursive bound element) formed settled lt has led = settled.known
known_in t i k node formed settled lt has led =
    let below = (part_formed t.types i node k formed has).below in omega arith

pub part_known : (t : Table) (i k p : ℕ) (node : Node) → IsNodeOfType t i node
    → HasIndex (shape_in (tree t i)) k
    → (shape_in (tree t i) ≡ shapes.Led → k ≤ length t.types) → p ≡ type_of (part_at node k)
    → p < length t.types
part_known t i k p node e has led is =
    omega (
      arith,
      is,
      known_in t i k node (formed_at t i node e) (settled_at t i node e) e.known
          (index_entered t i k node e has)
          (λ l. led (sym (shape_entered t i 24 node e) ∙ l)),
    )

room_known : (t : Table) (i k room : ℕ) (node : Node) → IsNodeOfType t i node
    → HasIndex (shape_of node) k → (shape_of node ≡ shapes.Led → k ≤ length t.types)
    → type_of (part_at (node_in_room room node) k) < length t.types
room_known t i k room (nodes.typecode wide kind cases) e has led =
    (any_room t i room k (nodes.typecode wide kind cases) e.types.placed e.wide e.known e.is has).0
room_known t i k room node e has led =
    known_in t i k node (formed_at t i node e) (settled_at t i node e) e.known has led

pub part_known_in : (t : Table) (i k p room : ℕ) (node : Node) → IsNodeOfType t i node
    → HasIndex (shape_in (tree t i)) k
    → (shape_in (tree t i) ≡ shapes.Led → k ≤ length t.types)
    → p ≡ type_of (part_at (node_in_room room node) k) → p < length t.types
part_known_in t i k p room node e has led is =
    omega (
      arith,
      is,
      room_known t i k room node e (index_entered t i k node e has)
          (λ l. led (sym (shape_entered t i 24 node e) ∙ l)),
    )

pub part_in_room : (t : Table) (i k p room : ℕ) (node : Node) → IsNodeOfType t i node
    → HasIndex (shape_in (tree t i)) k → p ≡ type_of (part_at (node_in_room room node) k)
    → tree_at t room p ≡ part_of (tree_at t (suc room) i) k
part_in_room t i k p room node e has is =
    let there = subst (λ n. HasIndex (shape_of n) k) e.is (index_entered t i k node e has) in
    ap (tree_at t room) (is ∙ ap (λ n. type_of (part_at (node_in_room room n) k)) e.is)
    ∙ part_tree_at t room i k there

pub name_tree : (t : Table) (i k room : ℕ) (node : Node) (name : List ℕ) → IsNodeOfType t i node
    → HasMember (shape_in (tree t i)) k → name ≡ name_of (part_at node k)
    → name ≡ name_in (tree_at t room i) k
name_tree t i k room node name e has is =
    let there = subst (λ n. HasMember (shape_of n) k) e.is (member_entered t i k node e has) in
    is ∙ ap (λ n. name_of (part_at n k)) e.is ∙ name_tree_at t room i k there

pub name_within : (t : Table) (i k : ℕ) (node : Node) (name : List ℕ) → IsNodeOfType t i node
    → HasMember (shape_in (tree t i)) k → name ≡ name_of (part_at node k) → length name ≤ 64
name_within t i k node name e has is = search (arith, name_short, formed_at, member_entered)

-- the name of an enum's number
pub enum_name_tree : (t : Table) (i n room : ℕ) (node : Node) → IsNodeOfType t i node
    → name_at node n ≡ enum_name_in (tree_at t room i) n
enum_name_tree t i n room node e = ap (λ x. name_at x n) e.is ∙ enum_tree_at t room i n

pub enum_name_within : (t : Table) (i n : ℕ) (node : Node) → IsNodeOfType t i node
    → IfSome (name_at node n) (λ name. length name ≤ 64)
enum_name_within t i n node e = search (arith, enum_name_short, formed_at)

-- the discriminator has a smaller number
pub switch_below : (t : Table) (i s : ℕ) (node : Node) → IsNodeOfType t i node
    → IsUnion (shape_in (tree t i)) → s ≡ switch_at node → s < i
switch_below t i s node e is at = search (arith, switch_formed, formed_at, union_entered)

-- the discriminator is the same in any room
pub switch_room : (t : Table) (i s a b : ℕ) (node : Node) → IsNodeOfType t i node
    → IsUnion (shape_in (tree t i)) → s ≡ switch_at node
    → tree_at t a s ≡ switch_of (tree_at t (suc b) i)
unfolding tree_at
switch_room t i s a b node e is at =
    let here = node_at t i in
    let union : IsUnion (shape_of here) =
    subst (λ n. IsUnion (shape_of n)) e.is (union_entered t i node e is) in
    let scalar = (switch_formed t.types i here (e.types.placed.formed i e.known) union).scalar in
    ap (tree_at t a) (at ∙ ap switch_at e.is) ∙ scalar_room t a b (switch_at here) scalar
    ∙ switch_grown (limits_in_room t b) (tree_at t b) b here union
    (single_at t b (switch_at here) scalar)

pub select_tree : (t : Table) (i room : ℕ) (node : Node) (number : Number) (s : Selected)
    → IsNodeOfType t i node → s ≡ selected node number
    → (n : ℕ) → interpreted_in (switch_of (tree_at t room i)) n ≡ Some number
    → s ≡ select_in (tree_at t room i) n
select_tree t i room node number s e is n taken =
    is ∙ ap (λ x. selected x number) e.is ∙ select_tree_at t room i number n taken

pub select_index : (t : Table) (i : ℕ) (node : Node) (number : Number) (s : Selected)
    → IsNodeOfType t i node → s ≡ selected node number
    → (k : ℕ) → s ≡ selecteds.Case k → HasMember (shape_in (tree t i)) k
select_index t i node number s e is k at =
    subst (λ x. HasMember x k) (shape_entered t i 24 node e)
    (selected_below t.types i node number k (formed_at t i node e) (sym is ∙ at))

-- ---- the elements of a recursive sequence

pub fits_entered : (t : Table) (i room : ℕ) (e : Entry) (bound : Option ℕ) (element : TypeId)
    → node_view e ≡ node_at t i → e ≡ entries.Recursive bound element
    → can_be_value t room element.0 ≡ elements_fit (tree_at t (suc room) i)
unfolding tree_at
fits_entered t i room e bound element is at =
    let node : node_at t i ≡ nodes.recursive bound element.0 = sym is ∙ ap node_view at in
    subst (λ n. can_be_value t room element.0
    ≡ elements_fit (tree_of_node (limits_in_room t room) (tree_at t room) (node_in_room room n)))
    (sym node) refl

other_fits : (h : PartLimits) (f : ℕ → Ty) (room : ℕ) (e : Entry)
    → ((bound : Option ℕ) (element : TypeId) → e ≡ entries.Recursive bound element → ⊥)
    → true ≡ elements_fit (tree_of_node h f (node_in_room room (node_view e)))
other_fits h f room (entries.Recursive bound element) none = absurd (none bound element refl)
other_fits h f room (entries.TypeCode code) none = refl
other_fits h f room (entries.Prim p) none = refl
other_fits h f room _ none = refl

-- the elements of any other sequence have room
pub others_fit : (t : Table) (i room : ℕ) (e : Entry) → node_view e ≡ node_at t i
    → ((bound : Option ℕ) (element : TypeId) → e ≡ entries.Recursive bound element → ⊥)
    → true ≡ elements_fit (tree_at t (suc room) i)
unfolding tree_at
others_fit t i room e is none =
    subst (λ n. true ≡ elements_fit (tree_of_node (limits_in_room t room) (tree_at t room)
    (node_in_room room n))) is
    (other_fits (limits_in_room t room) (tree_at t room) room e none)
