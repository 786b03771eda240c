-- Adding the types of a declaration keeps the names of a scope, and only adds types.
use Rattle.std.proofs.Common.{◌≡◌, ℕ, ◌≤◌, Bool, true, false, cond, List, [], ◌∷◌, ◌++◌, length, Option, Some, None, refl, sym, subst, ◌∙◌, arith}
use Rattle.std.specs.Prelude.{nat_lt}
use Rattle.std.proofs.lemmas.List.{length-append}
use Rattle.giop_sig.specs.Table.{Node, Table, node_at, with_type, with_identity, with_operation_in_interface, with_operation_in_all, with_operation_in_list}
use Rattle.giop_sig.specs.Table as nodes
use Rattle.giop_sig.specs.Trees.{depth_in, depth_of}
use Rattle.giop_sig.specs.Grammar.{TypeExpr, Base, Text, Reference, AnyType, CodeType, WideChar, WideText, Named, SequenceOf, EncapsulationOf, Item, UnionCase, Param, Declaration, Enumeration, Structure, DeclaredUnion, Announcement, DeclaredException, Call, KeyOf}
use Rattle.giop_sig.specs.Scopes.{Scope, AddedType, with_node, with_id_fronts, with_named, add_type, add_arrays, add_item, add_items, add_cases, default_from, add_params, add_return, add_struct_type, declare, scope_after}
use Rattle.giop_sig.proofs.Depths.{deepest_more}

-- the greatest depth of a scope's types, and how many there are
abbrev pub deepest_in_scope : (scope : Scope) → ℕ
deepest_in_scope s = depth_of s.table.types

abbrev pub type_count : (scope : Scope) → ℕ
type_count s = length s.table.types

-- there are no more of the first types, and they are no deeper
pub record HasNoFewerNodes (types more : List Node) : Type 0 where
  pub longer : length types ≤ length more
  pub deeper : depth_of types ≤ depth_of more

pub within_same : {types : List Node} → HasNoFewerNodes types types
within_same = search (arith)

pub within_on : {a b c : List Node} → HasNoFewerNodes a b → HasNoFewerNodes b c
    → HasNoFewerNodes a c
within_on first second = search (arith)

-- the second scope has at least as many types as the first, and is at least as deep
abbrev pub HasNoFewerTypes : (one other : Scope) → Type 0
HasNoFewerTypes s t = HasNoFewerNodes s.table.types t.table.types

pub node_more : (s : Scope) (n : Node) → HasNoFewerTypes s (with_node s n).0
node_more s n = search (arith, length-append, deepest_more)

pub add_type_more : (s : Scope) (e : TypeExpr) → HasNoFewerTypes s (add_type s e).0
unfolding add_type
add_type_more s (Text (Some n)) = search (arith, node_more)
add_type_more s (SequenceOf e bound) = search (arith, within_on, node_more, add_type_more s e)
add_type_more s (EncapsulationOf e) = search (arith, within_on, node_more, add_type_more s e)
add_type_more s _ = within_same

pub add_type_names : (s : Scope) (e : TypeExpr) → (add_type s e).0.names ≡ s.names
unfolding add_type
add_type_names s (Base p) = refl
add_type_names s (Text None) = refl
add_type_names s (Text (Some n)) = refl
add_type_names s Reference = refl
add_type_names s AnyType = refl
add_type_names s CodeType = refl
add_type_names s WideChar = refl
add_type_names s (WideText bound) = refl
add_type_names s (Named w) = refl
add_type_names s (SequenceOf e bound) = add_type_names s e
add_type_names s (EncapsulationOf e) = add_type_names s e

-- ---- items

pub arrays_more : (ns : List ℕ) (p : AddedType) → HasNoFewerTypes p.0 (add_arrays ns p).0
arrays_more [] p = within_same
arrays_more (n ∷ ns) p = search (arith, within_on, node_more, arrays_more ns p)

arrays_names : (ns : List ℕ) (p : AddedType) → (add_arrays ns p).0.names ≡ p.0.names
arrays_names [] p = refl
arrays_names (n ∷ ns) p = arrays_names ns p

pub item_more : (s : Scope) (i : Item) → HasNoFewerTypes s (add_item s i).0
item_more s i = within_on (add_type_more s i.type) (arrays_more i.lengths (add_type s i.type))

pub item_names : (s : Scope) (i : Item) → (add_item s i).0.names ≡ s.names
item_names s i = search (arith, arrays_names, add_type_names)

pub items_more : (s : Scope) (is : List Item) → HasNoFewerTypes s (add_items s is).0
unfolding add_items
items_more s [] = within_same
items_more s (i ∷ is) = within_on (item_more s i) (items_more (add_item s i).0 is)

-- ---- parameters

pub params_more : (s : Scope) (ps : List Param) → HasNoFewerTypes s (add_params s ps).0
unfolding add_params
params_more s [] = within_same
params_more s (p ∷ ps) = within_on (item_more s p.item) (params_more (add_item s p.item).0 ps)

pub add_type_operations : (s : Scope) (e : TypeExpr)
    → (add_type s e).0.table.operations ≡ s.table.operations
unfolding add_type
add_type_operations s (Base p) = refl
add_type_operations s (Text None) = refl
add_type_operations s (Text (Some n)) = refl
add_type_operations s Reference = refl
add_type_operations s AnyType = refl
add_type_operations s CodeType = refl
add_type_operations s WideChar = refl
add_type_operations s (WideText bound) = refl
add_type_operations s (Named w) = refl
add_type_operations s (SequenceOf e bound) = add_type_operations s e
add_type_operations s (EncapsulationOf e) = add_type_operations s e

pub add_type_called : (s : Scope) (e : TypeExpr) → (add_type s e).0.table.called ≡ s.table.called
unfolding add_type
add_type_called s (Base p) = refl
add_type_called s (Text None) = refl
add_type_called s (Text (Some n)) = refl
add_type_called s Reference = refl
add_type_called s AnyType = refl
add_type_called s CodeType = refl
add_type_called s WideChar = refl
add_type_called s (WideText bound) = refl
add_type_called s (Named w) = refl
add_type_called s (SequenceOf e bound) = add_type_called s e
add_type_called s (EncapsulationOf e) = add_type_called s e

pub params_names : (s : Scope) (ps : List Param) → (add_params s ps).0.names ≡ s.names
unfolding add_params
params_names s [] = refl
params_names s (p ∷ ps) = params_names (add_item s p.item).0 ps ∙ item_names s p.item

pub return_more : (s : Scope) (o : Option TypeExpr) → HasNoFewerTypes s (add_return s o).0
return_more s None = within_same
return_more s (Some e) = add_type_more s e

pub return_names : (s : Scope) (o : Option TypeExpr) → (add_return s o).0.names ≡ s.names
return_names s None = refl
return_names s (Some e) = add_type_names s e

pub return_operations : (s : Scope) (o : Option TypeExpr)
    → (add_return s o).0.table.operations ≡ s.table.operations
return_operations s None = refl
return_operations s (Some e) = add_type_operations s e

pub return_called : (s : Scope) (o : Option TypeExpr)
    → (add_return s o).0.table.called ≡ s.table.called
return_called s None = refl
return_called s (Some e) = add_type_called s e

-- ---- interfaces

variants_types : (w : List ℕ) (request reply : ℕ) (ids : List (List ℕ)) (t : Table)
    → (with_operation_in_all w request reply ids t).types ≡ t.types
variants_types w request reply [] t = refl
variants_types w request reply (id ∷ ids) t =
    variants_types w request reply ids (with_operation_in_interface w request reply id t)

-- adding interfaces adds no types
pub listed_types : (w : List ℕ) (request reply : ℕ) (ids : List (List ℕ)) (t : Table)
    → (with_operation_in_list w request reply ids t).types ≡ t.types
listed_types w request reply [] t = refl
listed_types w request reply (id ∷ ids) t = variants_types w request reply (id ∷ ids) t

-- ---- cases

pub cases_more : (s : Scope) (node : Node) (cs : List UnionCase) → HasNoFewerTypes s
    (add_cases s node cs).0
unfolding add_cases
cases_more s node [] = within_same
cases_more s node (c ∷ cs) =
    within_on (item_more s c.item) (cases_more (add_item s c.item).0 node cs)

-- ---- declarations

sequence_by : (t : Table) (number : ℕ) (v : Bool)
    → HasNoFewerNodes t.types (cond v (with_type t (nodes.sequence None number)) t).types
sequence_by t number true = search (arith, length-append, deepest_more)
sequence_by t number false = within_same

-- a name adds no type, and a repository id at most the sequence
pub named_more : (w : List ℕ) (id : Option (List ℕ)) (p : AddedType)
    → HasNoFewerTypes p.0 (with_named w id p)
named_more w None p = within_same
named_more w (Some id) p =
    let t = (p.0).table in
    sequence_by (with_id_fronts (with_identity t (record { repository = id; type = p.1 })) id p.1)
    p.1 (nat_lt (depth_in t.types p.1) 24)

pub struct_more : (s : Scope) (is : List Item) → HasNoFewerTypes s
    (add_struct_type (add_items s is)).0
struct_more s is =
    let x = add_items s is in within_on (items_more s is) (node_more x.0 (nodes.members x.1))

-- the two structs of an operation
pub structs_more : (s : Scope) (a b : Node) → HasNoFewerTypes s (with_node (with_node s a).0 b).0
structs_more s a b = within_on (node_more s a) (node_more (with_node s a).0 b)

pub declare_more : (s : Scope) (d : Declaration) → HasNoFewerTypes s (declare s d)
unfolding declare
declare_more s (Enumeration n id names) =
    let p = with_node s (nodes.enumeration names) in
    within_on (node_more s (nodes.enumeration names)) (named_more n id p)
declare_more s (Structure n id is) =
    let p = add_struct_type (add_items s is) in
    within_on (struct_more s is) (named_more n id p)
declare_more s (DeclaredUnion n id e cs) =
    let p = add_type s e in
    let node = node_at (p.0).table p.1 in
    let x = add_cases p.0 node cs in
    let union = nodes.union p.1 x.1 (default_from 0 cs) in
    let q = with_node x.0 union in
    within_on (add_type_more s e) (within_on (cases_more p.0 node cs)
    (within_on (node_more x.0 union) (named_more n id q)))
declare_more s (Announcement word n) = node_more s (nodes.announced (length s.names.announced))
declare_more s (DeclaredException n r is) = struct_more s is
declare_more s (Call o n ps ids) =
    let t = add_return s o in
    let x = add_params t.0 ps in
    let request = nodes.members x.1 in
    let q = with_node (with_node x.0 request).0 (nodes.members (t.1 ++ x.2)) in
    let structs = structs_more x.0 request (nodes.members (t.1 ++ x.2)) in
    subst (HasNoFewerNodes s.table.types) (sym
    (listed_types n (type_count x.0) q.1 ids (q.0).table))
    (within_on (return_more s o) (within_on (params_more t.0 ps) structs))
declare_more s (KeyOf text id) = within_same

pub scope_more : (s : Scope) (ds : List Declaration) → HasNoFewerTypes s (scope_after s ds)
scope_more s [] = within_same
scope_more s (d ∷ ds) = within_on (declare_more s d) (scope_more (declare s d) ds)
