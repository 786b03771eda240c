-- A declaration adds no more types than it has tokens.
use Rattle.std.proofs.Common.{ℕ, suc, Bool, true, false, cond, ◌+◌, ◌<◌, ◌≤◌, List, [], ◌∷◌, ◌++◌, length, Option, Some, None, ap, arith}
use Rattle.std.specs.Prelude.{codes, nat_lt}
use Rattle.std.proofs.lemmas.List.{length-append}
use Rattle.giop_tokens.specs.declared.marks.Mark.TheVariants as marks
use Rattle.giop_tokens.specs.Tokens.{Token, word, mark}
use Rattle.giop_sig.specs.Table.{Node, Table, node_at, with_type, with_identity}
use Rattle.giop_sig.specs.Table as nodes
use Rattle.giop_sig.specs.Trees.{depth_in}
use Rattle.giop_sig.specs.Grammar.{TypeExpr, Text, WideText, SequenceOf, EncapsulationOf, spell_most, spell_type, Item, spell_lengths, spell_item, spell_items, spell_names, spell_labels, UnionCase, spell_cases, Param, spell_more_params, spell_params, spell_return, spell_interfaces, Declaration, Enumeration, Structure, DeclaredUnion, Announcement, DeclaredException, Call, KeyOf, spell, spell_all}
use Rattle.giop_sig.specs.Scopes.{Scope, AddedType, with_node, with_identified, with_id_fronts, add_struct_type, sequence_node, add_type, add_arrays, add_item, add_items, add_cases, default_from, add_params, add_return, declare, scope_after}
use Rattle.giop_sig.proofs.AddTypeLaws.{type_count, listed_types}
use Rattle.giop_sig.proofs.SpellLaws.{most, names, label, labels, interfaces, identity}

one_more : (s : Scope) (n : Node) → type_count (with_node s n).0 ≤ suc (type_count s)
one_more s n = search (arith, length-append)

sequence_by : (t : Table) (number : ℕ) (v : Bool)
    → length (cond v (with_type t (nodes.sequence None number)) t).types ≤ suc (length t.types)
sequence_by t number true = search (arith, length-append)
sequence_by t number false = omega arith

-- a repository id adds one type at most
identified : (t : Table) (id : Option (List ℕ)) (number : ℕ)
    → length (with_identified t id number).types ≤ suc (length t.types)
identified t None number = omega arith
identified t (Some id) number =
    sequence_by (with_id_fronts (with_identity t (record { repository = id; type = number })) id
    number) number (nat_lt (depth_in t.types number) 24)

-- a type has at least one token more than it adds types
typed : (s : Scope) (e : TypeExpr) (more : List Token)
    → type_count (add_type s e).0 + length more < type_count s + length (spell_type e more)
unfolding add_type
typed s (Text (Some n)) more = search (arith, one_more)
typed s (WideText (Some n)) more = omega arith
typed s (SequenceOf e o) more =
    let p = add_type s e in
    omega (
      arith,
      typed s e (spell_most o (mark marks.CloseAngle ∷ more)),
      most o (mark marks.CloseAngle ∷ more),
      one_more p.0 (sequence_node (p.0).table.types o p.1),
    )
typed s (EncapsulationOf e) more = let p = add_type s e in
    omega (arith, typed s e (mark marks.CloseAngle ∷ more), one_more p.0 (nodes.encapsulation p.1))
typed s _ more = omega arith

arrays : (p : AddedType) (ns : List ℕ) (more : List Token)
    → type_count (add_arrays ns p).0 + length more ≤ type_count p.0 + length (spell_lengths ns more)
arrays p [] more = omega arith
arrays p (n ∷ ns) more =
    let q = add_arrays ns p in
    omega (arith, arrays p ns more, one_more q.0 (nodes.array n q.1))

item : (s : Scope) (i : Item) (more : List Token)
    → type_count (add_item s i).0 + length more ≤ type_count s + length (spell_item i more)
item s i more = omega (
  arith,
  typed s i.type (word i.name ∷ spell_lengths i.lengths more),
  arrays (add_type s i.type) i.lengths more,
)

items : (s : Scope) (is : List Item) (more : List Token)
    → type_count (add_items s is).0 + length more ≤ type_count s + length (spell_items is more)
unfolding add_items
items s [] more = omega arith
items s (i ∷ is) more = omega (
  arith,
  item s i (mark marks.Semicolon ∷ spell_items is more),
  items (add_item s i).0 is more,
)

cases : (s : Scope) (node : Node) (cs : List UnionCase) (more : List Token)
    → type_count (add_cases s node cs).0 + length more ≤ type_count s + length (spell_cases cs more)
unfolding add_cases
cases s node [] more = omega arith
cases s node (c ∷ cs) more =
    let tail = mark marks.Semicolon ∷ spell_cases cs more in
    omega (
      arith,
      label c.label (spell_labels c.others (spell_item c.item tail)),
      labels c.others (spell_item c.item tail),
      item s c.item tail,
      cases (add_item s c.item).0 node cs more,
    )

more_params : (s : Scope) (ps : List Param) (more : List Token)
    → type_count (add_params s ps).0 + length more ≤ type_count s + length
    (spell_more_params ps more)
unfolding add_params
more_params s [] more = omega arith
more_params s (p ∷ ps) more = omega (
  arith,
  item s p.item (spell_more_params ps more),
  more_params (add_item s p.item).0 ps more,
)

params : (s : Scope) (ps : List Param) (more : List Token)
    → type_count (add_params s ps).0 + length more ≤ type_count s + length (spell_params ps more)
unfolding add_params
params s [] more = omega arith
params s (p ∷ ps) more = search (arith, item, more_params)

returned : (s : Scope) (o : Option TypeExpr) (more : List Token)
    → type_count (add_return s o).0 + length more ≤ type_count s + length (spell_return o more)
returned s None more = omega arith
returned s (Some e) more = omega (arith, typed s e more)

declared : (s : Scope) (d : Declaration) (more : List Token)
    → type_count (declare s d) + length more ≤ type_count s + length (spell d more)
unfolding declare
declared s (Enumeration n id ns) more = omega (
  arith,
  one_more s (nodes.enumeration ns),
  identified (with_node s (nodes.enumeration ns)).0.table id (type_count s),
  names ns (mark marks.Semicolon ∷ more),
  identity id (mark marks.OpenBrace ∷ spell_names ns (mark marks.Semicolon ∷ more)),
)
declared s (Structure n id is) more = let p = add_struct_type (add_items s is) in omega (
  arith,
  identity id (mark marks.OpenBrace ∷ spell_items is (mark marks.Semicolon ∷ more)),
  items s is (mark marks.Semicolon ∷ more),
  one_more (add_items s is).0 (nodes.members (add_items s is).1),
  identified (p.0).table id p.1,
)
declared s (DeclaredUnion n id e cs) more =
    let p = add_type s e in
    let x = add_cases p.0 (node_at (p.0).table p.1) cs in
    let q = with_node x.0 (nodes.union p.1 x.1 (default_from 0 cs)) in
    let tail = mark marks.Semicolon ∷ more in
    let body = mark marks.CloseParenthesis ∷ mark marks.OpenBrace ∷ spell_cases cs tail in
    omega (
      arith,
      identity id (word (codes "switch") ∷ mark marks.OpenParenthesis ∷ spell_type e body),
      typed s e body,
      cases p.0 (node_at (p.0).table p.1) cs tail,
      one_more x.0 (nodes.union p.1 x.1 (default_from 0 cs)),
      identified (q.0).table id q.1,
    )
declared s (Announcement w n) more =
    omega (arith, one_more s (nodes.announced (length s.names.announced)))
declared s (DeclaredException n r is) more =
    omega (
      arith,
      items s is (mark marks.Semicolon ∷ more),
      one_more (add_items s is).0 (nodes.members (add_items s is).1),
    )
declared s (Call o n ps ids) more =
    let t = add_return s o in
    let x = add_params t.0 ps in
    let q = with_node x.0 (nodes.members x.1) in
    let r = with_node q.0 (nodes.members (t.1 ++ x.2)) in
    let tail = spell_interfaces ids (mark marks.Semicolon ∷ more) in
    omega (
      arith,
      interfaces ids (mark marks.Semicolon ∷ more),
      ap length (listed_types n q.1 r.1 ids (r.0).table),
      returned s o (word n ∷ mark marks.OpenParenthesis ∷ spell_params ps tail),
      params t.0 ps tail,
      one_more x.0 (nodes.members x.1),
      one_more q.0 (nodes.members (t.1 ++ x.2)),
    )
declared s (KeyOf text id) more = omega arith

-- up to each declaration there are at most as many new types as tokens
pub types_fewer : (s : Scope) (before : List Declaration) (d : Declaration)
    (after : List Declaration)
    → type_count (declare (scope_after s before) d) ≤ type_count s + length
    (spell_all (before ++ d ∷ after))
types_fewer s [] d after = omega (arith, declared s d (spell_all after))
types_fewer s (b ∷ bs) d after =
    omega (arith, declared s b (spell_all (bs ++ d ∷ after)), types_fewer (declare s b) bs d after)

-- there are at most as many new types as tokens
pub types_few : (s : Scope) (ds : List Declaration)
    → type_count (scope_after s ds) ≤ type_count s + length (spell_all ds)
types_few s [] = omega arith
types_few s (d ∷ ds) = omega (arith, declared s d (spell_all ds), types_few (declare s d) ds)
