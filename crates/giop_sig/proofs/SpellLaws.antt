-- Lengths of spellings: a spelling is written before what comes after it, and each declaration has
-- tokens.
use Rattle.std.proofs.Common.{ℕ, ◌<◌, ◌≤◌, List, [], ◌∷◌, length, Option, Some, None, arith}
use Rattle.giop_tokens.specs.declared.marks.Mark.{Mark}
use Rattle.giop_tokens.specs.declared.marks.Mark.TheVariants as marks
use Rattle.giop_tokens.specs.Tokens.{Token, mark}
use Rattle.giop_sig.specs.Grammar.{TypeExpr, Text, WideText, SequenceOf, EncapsulationOf, spell_between, spell_most, spell_type, Item, spell_lengths, spell_item, spell_items, spell_more_names, spell_names, Value, Plain, spell_value, Label, Default, Of, spell_label, spell_labels, UnionCase, spell_cases, Param, spell_more_params, spell_params, spell_return, spell_more_interfaces, spell_interfaces, spell_identity, Declaration, Enumeration, Structure, DeclaredUnion, Announcement, DeclaredException, Call, KeyOf, spell, spell_all}

between : (a b : Mark) (o : Option ℕ) (more : List Token)
    → length more ≤ length (spell_between a b o more)
between a b None more = omega arith
between a b (Some n) more = omega arith

pub most : (o : Option ℕ) (more : List Token) → length more ≤ length (spell_most o more)
most None more = omega arith
most (Some n) more = omega arith

typed : (e : TypeExpr) (more : List Token) → length more ≤ length (spell_type e more)
typed (Text o) more = search (arith, between)
typed (WideText o) more = search (arith, between)
typed (SequenceOf e o) more = omega (
  arith,
  typed e (spell_most o (mark marks.CloseAngle ∷ more)),
  most o (mark marks.CloseAngle ∷ more),
)
typed (EncapsulationOf e) more = omega (arith, typed e (mark marks.CloseAngle ∷ more))
typed _ more = omega arith

lengths : (ns : List ℕ) (more : List Token) → length more ≤ length (spell_lengths ns more)
lengths [] more = omega arith
lengths (n ∷ ns) more = omega (arith, lengths ns more)

item : (i : Item) (more : List Token) → length more ≤ length (spell_item i more)
item i more = search (arith, typed, lengths)

items : (is : List Item) (more : List Token) → length more ≤ length (spell_items is more)
items [] more = omega arith
items (i ∷ is) more = search (arith, item, items is more)

more_names : (ns : List (List ℕ)) (more : List Token)
    → length more ≤ length (spell_more_names ns more)
more_names [] more = omega arith
more_names (n ∷ ns) more = omega (arith, more_names ns more)

pub names : (ns : List (List ℕ)) (more : List Token) → length more ≤ length (spell_names ns more)
names [] more = omega arith
names (n ∷ ns) more = search (arith, more_names)

value : (v : Value) (more : List Token) → length more ≤ length (spell_value v more)
value (Plain n) more = omega arith
value _ more = omega arith

pub label : (l : Label) (more : List Token) → length more ≤ length (spell_label l more)
label Default more = omega arith
label (Of v) more = search (arith, value)

pub labels : (ls : List Label) (more : List Token) → length more ≤ length (spell_labels ls more)
labels [] more = omega arith
labels (l ∷ ls) more = search (arith, label, labels ls more)

cases : (cs : List UnionCase) (more : List Token) → length more ≤ length (spell_cases cs more)
cases [] more = omega arith
cases (c ∷ cs) more = search (arith, label, item, labels, cases cs more)

more_params : (ps : List Param) (more : List Token)
    → length more ≤ length (spell_more_params ps more)
more_params [] more = omega arith
more_params (p ∷ ps) more = search (arith, item, more_params ps more)

params : (ps : List Param) (more : List Token) → length more ≤ length (spell_params ps more)
params [] more = omega arith
params (p ∷ ps) more = search (arith, item, more_params)

returned : (o : Option TypeExpr) (more : List Token) → length more ≤ length (spell_return o more)
returned None more = omega arith
returned (Some e) more = typed e more

more_interfaces : (ids : List (List ℕ)) (more : List Token)
    → length more ≤ length (spell_more_interfaces ids more)
more_interfaces [] more = omega arith
more_interfaces (id ∷ ids) more = omega (arith, more_interfaces ids more)

pub interfaces : (ids : List (List ℕ)) (more : List Token)
    → length more ≤ length (spell_interfaces ids more)
interfaces [] more = omega arith
interfaces (id ∷ ids) more = omega (arith, more_interfaces ids more)

pub identity : (id : Option (List ℕ)) (more : List Token)
    → length more ≤ length (spell_identity id more)
identity None more = omega arith
identity (Some id) more = omega arith

-- each declaration has tokens
pub spelled_more : (d : Declaration) (more : List Token) → length more < length (spell d more)
spelled_more (Enumeration n id ns) more = search (arith, identity, names)
spelled_more (Structure n id is) more = search (arith, identity, items)
spelled_more (DeclaredUnion n id e cs) more = search (arith, identity, typed, cases)
spelled_more (Announcement w n) more = omega arith
spelled_more (DeclaredException n r is) more = search (arith, items)
spelled_more (Call o n ps ids) more = search (arith, returned, params, interfaces)
spelled_more (KeyOf text id) more = omega arith

-- there are at least as many tokens as declarations
pub spelled_few : (ds : List Declaration) → length ds ≤ length (spell_all ds)
spelled_few [] = omega arith
spelled_few (d ∷ ds) = search (arith, spelled_more, spelled_few ds)
