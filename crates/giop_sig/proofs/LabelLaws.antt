-- The numbers that labels name: two labels are the same if their numbers are.
use Rattle.std.proofs.Common.{◌≡◌, ℕ, zero, suc, ◌<◌, Bool, true, false, cond, leb, pos, negsuc, List, [], ◌∷◌, map, get_or, Option, Some, None, eqb-true, refl, sym, ap, subst, ◌∙◌, arith}
use Rattle.std.specs.List.{list_any, AllByRecursion, position}
use Rattle.std.specs.Str.{bytes_eq}
use Rattle.std.proofs.lemmas.Bool.{eq-eqb}
use Rattle.std.proofs.lemmas.List.Quantifiers.{position-Some}
use Rattle.std.proofs.lemmas.Slice.Eq.{bytes_eq-Decides}
use Rattle.giop_cdr.specs.declared.prim.Primitive.{Primitive}
use Rattle.giop_cdr.specs.declared.prim.Primitive.TheVariants as prims
use Rattle.giop_cdr.specs.declared.number.Number.{Number}
use Rattle.giop_cdr.specs.declared.number.Number.TheVariants as numbers
use Rattle.giop_sig.specs.Table.{Node, same_number}
use Rattle.giop_sig.specs.Table as nodes
use Rattle.giop_sig.specs.Grammar.{Value, Plain, Below, Truth, Enumerator, Label, Default, Of}
use Rattle.giop_sig.specs.Scopes.{below, if_at_most, enumerator_number, label_number}
use Rattle.giop_sig.specs.Validity.{same_value, same_label}
use Rattle.giop_sig.specs.UnionReading.{LabelMark, same_mark}
use Rattle.giop_sig.proofs.NumberLaws.{beq_true, beq_self, number_same, number_self}

-- ---- Booleans

bool_same : (a b : Bool) → (a ≡ true → b ≡ true) → (b ≡ true → a ≡ true) → a ≡ b
bool_same true b f g = sym (f refl)
bool_same false true f g = g refl
bool_same false false f g = refl

-- ---- values

value_same : (v w : Value) → same_value v w ≡ true → v ≡ w
value_same (Plain v) (Plain w) e = ap Plain (eqb-true v w e)
value_same (Plain v) (Below w) e = absurd cc
value_same (Plain v) (Truth w) e = absurd cc
value_same (Plain v) (Enumerator w) e = absurd cc
value_same (Below v) (Plain w) e = absurd cc
value_same (Below v) (Below w) e = ap Below (eqb-true v w e)
value_same (Below v) (Truth w) e = absurd cc
value_same (Below v) (Enumerator w) e = absurd cc
value_same (Truth v) (Plain w) e = absurd cc
value_same (Truth v) (Below w) e = absurd cc
value_same (Truth v) (Truth w) e = ap Truth (beq_true v w e)
value_same (Truth v) (Enumerator w) e = absurd cc
value_same (Enumerator v) (Plain w) e = absurd cc
value_same (Enumerator v) (Below w) e = absurd cc
value_same (Enumerator v) (Truth w) e = absurd cc
value_same (Enumerator v) (Enumerator w) e = search (arith, bytes_eq-Decides)

value_self : (v : Value) → same_value v v ≡ true
value_self (Plain n) = eq-eqb n n refl
value_self (Below n) = eq-eqb n n refl
value_self (Truth b) = beq_self b
value_self (Enumerator w) = (bytes_eq-Decides w w).1 refl

-- ---- one value for each number

-- a negative number isn't 0
abbrev pub IsNoNegativeZero : (value : Value) → Type 0
IsNoNegativeZero (Below n) = 0 < n
IsNoNegativeZero v = Unit {0}

-- the value of a primitive type that is a number
abbrev value_from : (number : Number) → Value
value_from (numbers.Unsigned n) = Plain n
value_from (numbers.Signed (pos n)) = Plain n
value_from (numbers.Signed (negsuc n)) = Below (suc n)
value_from (numbers.Bits n) = Plain n
value_from (numbers.Truth b) = Truth b
value_from (numbers.Char n) = Plain n

within : (b : Bool) (m n : Number) → cond b (Some m) None ≡ Some n → m ≡ n
within true m n e = cc
within false m n e = absurd cc

from_below : (n : ℕ) → 0 < n → value_from (numbers.Signed (below n)) ≡ Below n
from_below zero lt = absurd (omega arith)
from_below (suc n) lt = search (arith, negsuc)

plain_again : (m n : Number) (most k : ℕ) → value_from m ≡ Plain k
    → if_at_most most k m ≡ Some n → value_from n ≡ Plain k
plain_again m n most k is e = search (arith, within, leb)

below_again : (n : Number) (most k : ℕ) → 0 < k
    → if_at_most most k (numbers.Signed (below k)) ≡ Some n → value_from n ≡ Below k
below_again n most k lt e = search (arith, within, leb, from_below)

prim_again : (p : Primitive) (v : Value) (n : Number) → IsNoNegativeZero v
    → label_number (nodes.prim p) v ≡ Some n → value_from n ≡ v
prim_again prims.Octet v n above e = absurd cc
prim_again prims.Char (Plain k) n above e = search (arith, plain_again)
prim_again prims.Char (Below k) n above e = absurd cc
prim_again prims.Char (Truth k) n above e = absurd cc
prim_again prims.Char (Enumerator k) n above e = absurd cc
prim_again prims.Boolean (Plain k) n above e = absurd cc
prim_again prims.Boolean (Below k) n above e = absurd cc
prim_again prims.Boolean (Truth k) n above e = search (arith)
prim_again prims.Boolean (Enumerator k) n above e = absurd cc
prim_again prims.Short (Plain k) n above e = search (arith, plain_again, pos)
prim_again prims.Short (Below k) n above e = below_again n 32768 k above e
prim_again prims.Short (Truth k) n above e = absurd cc
prim_again prims.Short (Enumerator k) n above e = absurd cc
prim_again prims.UShort (Plain k) n above e = search (arith, plain_again)
prim_again prims.UShort (Below k) n above e = absurd cc
prim_again prims.UShort (Truth k) n above e = absurd cc
prim_again prims.UShort (Enumerator k) n above e = absurd cc
prim_again prims.Long (Plain k) n above e = search (arith, plain_again, pos)
prim_again prims.Long (Below k) n above e = search (arith, below_again)
prim_again prims.Long (Truth k) n above e = absurd cc
prim_again prims.Long (Enumerator k) n above e = absurd cc
prim_again prims.ULong (Plain k) n above e = search (arith, plain_again)
prim_again prims.ULong (Below k) n above e = absurd cc
prim_again prims.ULong (Truth k) n above e = absurd cc
prim_again prims.ULong (Enumerator k) n above e = absurd cc
prim_again prims.LongLong (Plain k) n above e = search (arith, plain_again, pos)
prim_again prims.LongLong (Below k) n above e = search (arith, below_again)
prim_again prims.LongLong (Truth k) n above e = absurd cc
prim_again prims.LongLong (Enumerator k) n above e = absurd cc
prim_again prims.ULongLong (Plain k) n above e = search (arith, plain_again)
prim_again prims.ULongLong (Below k) n above e = absurd cc
prim_again prims.ULongLong (Truth k) n above e = absurd cc
prim_again prims.ULongLong (Enumerator k) n above e = absurd cc
prim_again prims.Float v n above e = absurd cc
prim_again prims.Double v n above e = absurd cc

numbered_is : (names : List (List ℕ)) (w : List ℕ) (o : Option ℕ) (n : Number)
    → position (bytes_eq w) names ≡ o → enumerator_number o ≡ Some n
    → (i : ℕ) × (n ≡ numbers.Unsigned i) × (w ≡ get_or names i [])
numbered_is names w None n p e = absurd cc
numbered_is names w (Some i) n p e = search (arith, bytes_eq-Decides, get_or, position-Some)

unsigned_same : (i j : ℕ) → numbers.Unsigned i ≡ numbers.Unsigned j → i ≡ j
unsigned_same i j e = cc

enumerators_again : (names : List (List ℕ)) (v w : List ℕ) (n : Number)
    → enumerator_number (position (bytes_eq v) names) ≡ Some n
    → enumerator_number (position (bytes_eq w) names) ≡ Some n → v ≡ w
enumerators_again names v w n e f = search (arith, numbered_is, get_or, unsigned_same)

values_again : (node : Node) (v w : Value) (n : Number) → IsNoNegativeZero v → IsNoNegativeZero w
    → label_number node v ≡ Some n → label_number node w ≡ Some n → v ≡ w
values_again (nodes.prim p) v w n above also e f = search (arith, prim_again)
values_again (nodes.enumeration names) (Enumerator v) (Enumerator w) n above also e f = search
    (arith, enumerators_again)
values_again (nodes.enumeration names) (Enumerator v) (Plain w) n above also e f = absurd cc
values_again (nodes.enumeration names) (Enumerator v) (Below w) n above also e f = absurd cc
values_again (nodes.enumeration names) (Enumerator v) (Truth w) n above also e f = absurd cc
values_again (nodes.enumeration names) (Plain v) w n above also e f = absurd cc
values_again (nodes.enumeration names) (Below v) w n above also e f = absurd cc
values_again (nodes.enumeration names) (Truth v) w n above also e f = absurd cc
values_again (nodes.text bound) v w n above also e f = absurd cc
values_again (nodes.octets bound) v w n above also e f = absurd cc
values_again nodes.wide_text v w n above also e f = absurd cc
values_again nodes.wide_char v w n above also e f = absurd cc
values_again (nodes.members parts) v w n above also e f = absurd cc
values_again (nodes.union switch cases otherwise) v w n above also e f = absurd cc
values_again (nodes.sequence bound element) v w n above also e f = absurd cc
values_again (nodes.array count element) v w n above also e f = absurd cc
values_again (nodes.encapsulation held) v w n above also e f = absurd cc
values_again (nodes.tagged special tag inner other) v w n above also e f = absurd cc
values_again (nodes.marked mark) v w n above also e f = absurd cc
values_again (nodes.any code) v w n above also e f = absurd cc
values_again (nodes.announced index) v w n above also e f = absurd cc
values_again (nodes.recursive bound element) v w n above also e f = absurd cc
values_again (nodes.typecode wide kind cases) v w n above also e f = absurd cc

-- ---- labels, and what is kept of them

-- the number that a label names; None for the default
abbrev pub mark_of : (node : Node) (label : Label) → LabelMark
mark_of node Default = None
mark_of node (Of v) = label_number node v

-- a label names a number, if it has a value
abbrev pub NamesItsNumber : (node : Node) (label : Label) → Type 0
NamesItsNumber node Default = Unit {0}
NamesItsNumber node (Of v) = (n : Number) × (label_number node v ≡ Some n) × IsNoNegativeZero v

some_same : (m n : Number) → Some m ≡ Some n → m ≡ n
some_same m n e = cc

of_marks : (node : Node) (v w : Value) (m n : Number) → IsNoNegativeZero v → IsNoNegativeZero w
    → label_number node v ≡ Some m → label_number node w ≡ Some n → same_number n m ≡ same_value v w
of_marks node v w m n above also e f =
    bool_same (same_number n m) (same_value v w)
    (λ t. let same : n ≡ m = number_same n m t in
    let one : v ≡ w = values_again node v w m above also e (f ∙ ap Some same) in
    subst (λ u. same_value v u ≡ true) one (value_self v))
    (λ t. let one : v ≡ w = value_same v w t in
    let same : n ≡ m = some_same n m (sym f ∙ ap (label_number node) (sym one) ∙ e) in
    subst (λ k. same_number n k ≡ true) same (number_self n))

same_marks : (node : Node) (x y : Label) → NamesItsNumber node x → NamesItsNumber node y
    → same_mark (mark_of node y) (mark_of node x) ≡ same_label x y
same_marks node Default Default k l = refl
same_marks node Default (Of w) k l = rw l.1 refl
same_marks node (Of v) Default k l = rw k.1 refl
same_marks node (Of v) (Of w) k l = rw (k.1, l.1) (of_marks node v w k.0 l.0 k.2 l.2 k.1 l.1)

-- a label is among others if its number is among theirs
pub any_marks : (node : Node) (x : Label) (seen : List Label) → NamesItsNumber node x
    → AllByRecursion (NamesItsNumber node) seen
    → list_any (λ s. same_mark s (mark_of node x)) (map (mark_of node) seen)
    ≡ list_any (same_label x) seen
any_marks node x [] k all = refl
any_marks node x (y ∷ ys) k all = search (arith, same_marks, any_marks node x ys k all.1)
