-- A well-formed node: its parts and names, and that it stays well formed while the table grows.
use Rattle.std.proofs.Common.{◌≡◌, ℕ, zero, suc, ◌<◌, ◌≤◌, Bool, true, false, cond, List, [], ◌∷◌, ◌++◌, length, get_or, Option, Some, None, sym, subst, arith, lit<}
use Rattle.std.specs.Prelude.{slice_get, IfSome, codes, ◌==◌}
use Rattle.std.specs.Option.{option_map}
use Rattle.std.specs.List.{AllByRecursion}
use Rattle.std.proofs.lemmas.List.{get_or_append_left, length-map}
use Rattle.std.proofs.lemmas.List.Elements.{recursion_from_All}
use Rattle.giop_sig.specs.declared.entries.Entry.{Entry}
use Rattle.giop_sig.specs.declared.entries.Entry.TheVariants as entries
use Rattle.giop_sig.specs.Kinds.{is_kind, kind_word, kind_words, marked_word}
use Rattle.giop_sig.specs.Types.{HasSmallerPart, HasMember, IsUnion}
use Rattle.giop_sig.specs.Table.{Node, Part, Case, node_in, part_at, type_of, name_of, name_at, switch_at, shape_of, case_part, IsFormed, IsPart, IsPartNumber, IsScalarNode, IsDiscriminatorNumber, TakesOctet}
use Rattle.giop_sig.specs.Table as nodes
use Rattle.giop_sig.specs.Views.{node_view, HasCountableParts}
use Rattle.giop_sig.proofs.Nodes.{part_there}

-- what is true of each part is true of the one that is read
abbrev IsTrueOfPart : (P : Part → Type 0) (part : Option Part) → Type 0
IsTrueOfPart P None = Unit {0}
IsTrueOfPart P (Some p) = P p

case_read : (P : Part → Type 0) (cs : List Case) (i : ℕ) → AllByRecursion (λ c. P c.part) cs
    → IsTrueOfPart P (case_part (slice_get cs i))
case_read P [] i all = tt
case_read P (c ∷ cs) zero all = all.0
case_read P (c ∷ cs) (suc i) all = case_read P cs i all.1

on_some : (P : Part → Type 0) (o : Option Part) (p : Part) → o ≡ Some p → IsTrueOfPart P o → P p
on_some P None p e h = absurd cc
on_some P (Some q) p e h = search (arith)

-- the part that is read at an index
part_in : (types : List Node) (n : ℕ) (ps : List Part) (i : ℕ)
    → AllByRecursion (IsPart types n) ps → i < length ps
    → IsPart types n (record { name = name_of (slice_get ps i); type = type_of (slice_get ps i) })
part_in types n [] i all lt = absurd (omega arith)
part_in types n (p ∷ ps) zero all lt = search (arith)
part_in types n (p ∷ ps) (suc i) all lt = part_in types n ps i all.1 (omega arith)

narrow_read : (P : Part → Type 0) (wide : Option ℕ) (cs : List Case) (i : ℕ)
    → AllByRecursion (λ c. P (nodes.narrow_part wide c.part)) cs
    → IsTrueOfPart P (option_map (nodes.narrow_part wide) (case_part (slice_get cs i)))
narrow_read P wide [] i all = tt
narrow_read P wide (c ∷ cs) zero all = all.0
narrow_read P wide (c ∷ cs) (suc i) all = narrow_read P wide cs i all.1

-- what comes after a kind of a TypeCode, if there is little room
narrow_formed : (types : List Node) (n : ℕ) (wide : Option ℕ) {kind : ℕ} (cases : List Case) (i : ℕ)
    → IsFormed types n (nodes.typecode wide kind cases) → i < length cases
    → IsPart types n (record {
      name = name_of (part_at (nodes.typecode wide kind cases) i);
      type = type_of (part_at (nodes.typecode wide kind cases) i);
    })
narrow_formed types n wide {kind} cases i formed has =
    let there = part_there (nodes.typecode wide kind cases) i has in
    let is = on_some (IsPart types n) (part_at (nodes.typecode wide kind cases) i) there.0 there.1
    (narrow_read (IsPart types n) wide cases i
    (recursion_from_All (λ (c : Case). IsPart types n (nodes.narrow_part wide c.part)) cases
    formed.2)) in
    subst (λ o. IsPart types n (record { name = name_of o; type = type_of o })) (sym there.1) is

-- the part at an index is one that the type may have
pub part_formed : (types : List Node) (n : ℕ) (node : Node) (i : ℕ) → IsFormed types n node
    → HasSmallerPart (shape_of node) i → IsPartNumber types n (type_of (part_at node i))
part_formed types n (nodes.members parts) i formed has =
    (part_in types n parts i (recursion_from_All (IsPart types n) parts formed.1) has).inner
part_formed types n (nodes.union switch cases otherwise) i formed has =
    let there = part_there (nodes.union switch cases otherwise) i has in
    let is = on_some (IsPart types n) (case_part (slice_get cases i)) there.0 there.1
    (case_read (IsPart types n) cases i (recursion_from_All (λ (c : Case). IsPart types n c.part)
    cases formed.2)) in
    subst (λ o. IsPartNumber types n (type_of o)) (sym there.1) is.inner
part_formed types n (nodes.sequence bound element) i formed has = formed
part_formed types n (nodes.array count element) i formed has = formed.1
part_formed types n (nodes.encapsulation held) i formed has = formed
part_formed types n (nodes.tagged special tag inner other) i formed has = search (arith, part_in)
part_formed types n (nodes.any code) i formed has = rw has formed
part_formed types n (nodes.announced index) i formed has = absurd (omega arith)
part_formed types n (nodes.typecode wide kind cases) i formed has =
    (narrow_formed types n wide cases i formed has).inner
part_formed types n _ i formed has = absurd has

-- the names of parts are short
pub name_short : (types : List Node) (n : ℕ) (node : Node) (i : ℕ) → IsFormed types n node
    → HasMember (shape_of node) i → length (name_of (part_at node i)) ≤ 64
name_short types n (nodes.members parts) i formed has =
    (part_in types n parts i (recursion_from_All (IsPart types n) parts formed.1) has).short
name_short types n (nodes.union switch cases otherwise) i formed has =
    let there = part_there (nodes.union switch cases otherwise) i has in
    let is = on_some (IsPart types n) (case_part (slice_get cases i)) there.0 there.1
    (case_read (IsPart types n) cases i (recursion_from_All (λ (c : Case). IsPart types n c.part)
    cases formed.2)) in
    subst (λ o. length (name_of o) ≤ 64) (sym there.1) is.short
name_short types n (nodes.tagged special tag inner other) i formed has =
    (part_in types n (tag ∷ inner ∷ other ∷ []) i (formed.1, (formed.2, (formed.3, tt))) has).short
name_short types n (nodes.typecode wide kind cases) i formed has =
    (narrow_formed types n wide cases i formed has).short
name_short types n (nodes.announced index) i formed has = absurd (omega arith)
name_short types n _ i formed has = absurd has

pub switch_formed : (types : List Node) (n : ℕ) (node : Node) → IsFormed types n node
    → IsUnion (shape_of node) → IsDiscriminatorNumber types n (switch_at node)
switch_formed types n (nodes.union switch cases otherwise) formed is = formed.0
switch_formed types n (nodes.tagged special tag inner other) formed is = formed.0
switch_formed types n (nodes.typecode wide kind cases) formed is = formed.0
switch_formed types n _ formed is = absurd is

-- the names of an enum are short
pub names_short : (names : List (List ℕ)) (n : ℕ) → AllByRecursion (λ name. length name ≤ 64) names
    → IfSome (slice_get names n) (λ name. length name ≤ 64)
names_short [] n all = tt
names_short (x ∷ xs) zero all = all.0
names_short (x ∷ xs) (suc n) all = names_short xs n all.1

kind_short : (v : Bool) (w : Option (List ℕ)) → IfSome w (λ word. length word ≤ 64)
    → IfSome (cond v w None) (λ word. length word ≤ 64)
kind_short true w h = h
kind_short false w h = tt

words_short : AllByRecursion (λ word. length word ≤ 64) kind_words
words_short = search (arith, lit<)

marked_short : (v : Bool) (n : ℕ)
    → IfSome (cond v (Some (codes "indirection")) (slice_get kind_words n))
    (λ word. length word ≤ 64)
marked_short true n = lit< tt
marked_short false n = names_short kind_words n words_short

-- the words of kinds are short
word_short : (mark n : ℕ) → IfSome (marked_word mark n) (λ word. length word ≤ 64)
word_short mark n =
    kind_short (is_kind mark) (kind_word n) (marked_short (n == 4294967295) n)

pub enum_name_short : (types : List Node) (i : ℕ) (node : Node) (n : ℕ) → IsFormed types i node
    → IfSome (name_at node n) (λ name. length name ≤ 64)
enum_name_short types i (nodes.enumeration names) n formed = search (
  arith,
  names_short,
  recursion_from_All,
)
enum_name_short types i (nodes.marked mark) n formed = word_short mark n
enum_name_short types i _ n formed = tt

-- an entry that is well formed can be counted
pub sized : (types : List Node) (n : ℕ) (e : Entry) → IsFormed types n (node_view e)
    → HasCountableParts e
sized types n (entries.Enumeration names) formed = search (arith, length-map)
sized types n (entries.Members parts) formed = search (arith, length-map)
sized types n (entries.Union switch cases otherwise) formed = formed.1
sized types n (entries.TypeCode code) formed = formed.1
sized types n _ formed = tt

-- ---- two tables that agree below a number

-- nodes of the first that take an octet, or are types of one number, are so in the second
pub record AlikeBelow (types others : List Node) (n : ℕ) : Type 0 where
  pub takes : (i : ℕ) → i < n → TakesOctet (node_in types i) → TakesOctet (node_in others i)
  pub scalar : (i : ℕ) → i < n → IsScalarNode (node_in types i) → IsScalarNode (node_in others i)

pub inner_moved : (types others : List Node) (n i : ℕ) → AlikeBelow types others n
    → IsPartNumber types n i → IsPartNumber others n i
inner_moved types others n i alike is =
    record { below = is.below; takes = alike.takes i is.below is.takes }

part_moved : (types others : List Node) (n : ℕ) (p : Part) → AlikeBelow types others n
    → IsPart types n p → IsPart others n p
part_moved types others n p alike is =
    record { inner = inner_moved types others n p.type alike is.inner; short = is.short }

switch_moved : (types others : List Node) (n i : ℕ) → AlikeBelow types others n
    → IsDiscriminatorNumber types n i → IsDiscriminatorNumber others n i
switch_moved types others n i alike is =
    record { below = is.below; scalar = alike.scalar i is.below is.scalar }

-- whether a node may have a number depends on the nodes of smaller numbers alone
pub formed_alike : (types others : List Node) (n : ℕ) (node : Node) → AlikeBelow types others n
    → IsFormed types n node → IsFormed others n node
formed_alike types others n (nodes.enumeration names) alike formed = formed
formed_alike types others n (nodes.members parts) alike formed = search (arith, part_moved, get_or)
formed_alike types others n (nodes.union switch cases otherwise) alike formed = search (
  arith,
  switch_moved,
  part_moved,
  get_or,
)
formed_alike types others n (nodes.sequence bound element) alike formed =
    search (arith, inner_moved)
formed_alike types others n (nodes.array count element) alike formed = search (arith, inner_moved)
formed_alike types others n (nodes.encapsulation held) alike formed = search (arith, inner_moved)
formed_alike types others n (nodes.any code) alike formed = search (arith, inner_moved)
formed_alike types others n (nodes.typecode wide kind cases) alike formed = search (
  arith,
  switch_moved,
  part_moved,
  get_or,
)
formed_alike types others n (nodes.tagged special tag inner other) alike formed = search (
  arith,
  switch_moved,
  part_moved,
)
formed_alike types others n (nodes.recursive bound element) alike formed = formed
formed_alike types others n _ alike formed = tt

abbrev pub SameNodes : (types others : List Node) (n : ℕ) → Type 0
SameNodes types others n = (i : ℕ) → i < n → node_in types i ≡ node_in others i

pub formed_moved : (types others : List Node) (n : ℕ) (node : Node) → SameNodes types others n
    → IsFormed types n node → IsFormed others n node
formed_moved types others n node same formed =
    formed_alike types others n node (record {
      takes = λ i lt takes. subst TakesOctet (same i lt) takes;
      scalar = λ i lt scalar. subst IsScalarNode (same i lt) scalar;
    }) formed

-- a node may still have its number after types were added
pub formed_stays : (types more : List Node) (n : ℕ) (node : Node) → n ≤ length types
    → IsFormed types n node → IsFormed (types ++ more) n node
formed_stays types more n node le formed = search (arith, formed_moved, get_or_append_left)
