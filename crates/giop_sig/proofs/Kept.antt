-- The entries of a catalogue's types with what is kept of them: looking one up, and adding one.
use Rattle.std.proofs.Common.{◌≡◌, ℕ, zero, suc, ◌+◌, ◌^◌, ◌<◌, ◌≤◌, max, Bool, false, List, [], ◌∷◌, ◌++◌, length, get_or, map, sym, ap, ◌∙◌, subst, ◌⊎◌, inl, inr, lit<, lit≤, arith}
use Rattle.std.proofs.lemmas.List.{length-append, get_or_append_left, length-map, map-append}
use Rattle.std.proofs.Math.Seq.{get_or-append_seam}
use Rattle.std.proofs.lemmas.Bool.{cases_lt}
use Rattle.giop_cdr.specs.declared.prim.Primitive.TheVariants.{Octet}
use Rattle.giop_sig.specs.declared.entries.EntryWithDepth.{EntryWithDepth}
use Rattle.giop_sig.specs.Types.{most}
use Rattle.giop_sig.specs.Table.{Node, node_in, part_at, type_of, shape_of, IsFormed}
use Rattle.giop_sig.specs.Table as nodes
use Rattle.giop_sig.specs.Trees.{depth_in, depth_of, node_depth, node_has_wide_text, has_wide_text, AreFormed}
use Rattle.giop_sig.specs.Views.{node_view, nodes_view, AreDepthsKept, HasCountableParts}
use Rattle.giop_sig.proofs.Depths.{by_same, depth_moved, depth_parts, most_same, type_small}
use Rattle.giop_sig.proofs.Wides.{wide_added, wide_stays}
use Rattle.giop_sig.proofs.Formed.{formed_stays, part_formed, sized}

pub node_read : (ps : List EntryWithDepth) (i : ℕ) (p : EntryWithDepth) → i < length ps →
    p ≡ get_or ps i p
    → node_in (nodes_view ps) i ≡ node_view p.entry
node_read [] i p lt h = absurd (omega arith)
node_read (x ∷ ps) zero p lt h = search (arith)
node_read (x ∷ ps) (suc i) p lt h = node_read ps i p (omega arith) h

-- what is kept of an entry
kept_of : {X : Type 0} (f : EntryWithDepth → X) (d : X) (ps : List EntryWithDepth) (i : ℕ)
    (p : EntryWithDepth) → i < length ps → p ≡ get_or ps i p → get_or (map f ps) i d ≡ f p
kept_of f d [] i p lt h = absurd (omega arith)
kept_of f d (x ∷ ps) zero p lt h = ap f (sym h)
kept_of f d (x ∷ ps) (suc i) p lt h = kept_of f d ps i p (omega arith) h

inside : (ps : List EntryWithDepth) (types : List Node) (i : ℕ) → nodes_view ps ≡ types
    → i < length types → i < length ps
inside ps types i view lt = search (arith, length-map)

-- the entry that was read is well formed
pub formed_read : (ps : List EntryWithDepth) (deepest : ℕ) (types : List Node) (i : ℕ)
    (p : EntryWithDepth)
    → AreDepthsKept ps deepest → nodes_view ps ≡ types → i < length types → p ≡ get_or ps i p
    → IsFormed types i (node_view p.entry)
formed_read ps deepest types i p is view lt h = search (arith, inside, node_read, length-map)

pub sized_read : (ps : List EntryWithDepth) (deepest : ℕ) (types : List Node) (i : ℕ)
    (p : EntryWithDepth)
    → AreDepthsKept ps deepest → nodes_view ps ≡ types → i < length types
    → p ≡ get_or ps i p → HasCountableParts p.entry
sized_read ps deepest types i p is view lt h =
    sized types i p.entry (formed_read ps deepest types i p is view lt h)

-- the depth that was read is that of the type
pub depth_read : (ps : List EntryWithDepth) (deepest : ℕ) (types : List Node) (i : ℕ)
    (p : EntryWithDepth)
    → AreDepthsKept ps deepest → nodes_view ps ≡ types → i < length types → p ≡ get_or ps i p
    → p.depth ≡ depth_in types i
depth_read ps deepest types i p is view lt h =
    let there = inside ps types i view lt in
    sym (kept_of (λ q. q.depth) 0 ps i p there h) ∙ is.each i there
    ∙ ap (λ ts. depth_in ts i) view

-- the type has wide text if that was read
pub wide_read : (ps : List EntryWithDepth) (deepest : ℕ) (types : List Node) (i : ℕ)
    (p : EntryWithDepth)
    → AreDepthsKept ps deepest → nodes_view ps ≡ types → i < length types → p ≡ get_or ps i p
    → p.wide ≡ has_wide_text types i
wide_read ps deepest types i p is view lt h =
    let there = inside ps types i view lt in
    sym (kept_of (λ q. q.wide) false ps i p there h) ∙ is.wide i there
    ∙ ap (λ ts. has_wide_text ts i) view

pub small_read : (ps : List EntryWithDepth) (deepest : ℕ) (types : List Node) (i : ℕ)
    (p : EntryWithDepth)
    → AreDepthsKept ps deepest → nodes_view ps ≡ types → i < length types → p ≡ get_or ps i p
    → p.depth ≤ length types
small_read ps deepest types i p is view lt h =
    omega (
      arith,
      depth_read ps deepest types i p is view lt h,
      type_small types i (subst AreFormed view is.types) lt,
    )

pub kept_none : AreDepthsKept [] 0
unfolding depth_of
kept_none = search (arith, lit<, lit≤)

formed_added : (types : List Node) (node : Node) (i : ℕ) → AreFormed types
    → IsFormed types (length types) node → i < length (types ++ node ∷ [])
    → (i < length types) ⊎ (length types ≤ i)
    → IsFormed (types ++ node ∷ []) i (get_or (types ++ node ∷ []) i (nodes.prim Octet))
formed_added types node i are last lt (inl below) = search (
  arith,
  get_or_append_left,
  formed_stays,
  get_or,
)
formed_added types node i are last lt (inr above) =
    let e : length types ≡ i = omega (arith, length-append types (node ∷ [])) in
    subst (λ k. IsFormed (types ++ node ∷ []) k (get_or (types ++ node ∷ []) k (nodes.prim Octet)))
    e
    (rw (get_or-append_seam types node [] (nodes.prim Octet))
    (formed_stays types (node ∷ []) (length types) node (omega arith) last))

-- a table with one more type
pub types_added : (types : List Node) (node : Node) → AreFormed types → length types + 1 < 2 ^ 32
    → IsFormed types (length types) node → AreFormed (types ++ node ∷ [])
types_added types node are few last = search (arith, length-append, formed_added, cases_lt)

-- the types that were there are as deep as before
pub depth_stays : (types : List Node) (node : Node) (i : ℕ) → AreFormed types → i < length types
    → depth_in types i ≡ depth_in (types ++ node ∷ []) i
depth_stays types node i are lt =
    depth_moved types (types ++ node ∷ []) (length types) (i + 25) (i + 25) i are.formed
    (λ k h. sym (get_or_append_left types (node ∷ []) (nodes.prim Octet) k h)) lt (omega arith)
    (omega arith)

-- the type that is added is as deep as its node
depth_added : (types : List Node) (node : Node) → AreFormed types
    → IsFormed types (length types) node → AreFormed (types ++ node ∷ [])
    → node_depth types node ≡ depth_in (types ++ node ∷ []) (length types)
depth_added types node are formed more =
    let there : length types < length (types ++ node ∷ []) =
    omega (arith, length-append types (node ∷ [])) in
    let last = get_or-append_seam types node [] (nodes.prim Octet) in
    by_same (shape_of node) _ _
    (λ k has. depth_stays types node (type_of (part_at node k)) are
    (part_formed types (length types) node k formed has).below)
    ∙ sym (ap (node_depth (types ++ node ∷ [])) last)
    ∙ sym (depth_parts (types ++ node ∷ []) (length types) more there)

deepest_added : (types : List Node) (node : Node) → AreFormed types
    → IsFormed types (length types) node → AreFormed (types ++ node ∷ [])
    → max (depth_of types) (node_depth types node) ≡ depth_of (types ++ node ∷ [])
unfolding depth_of
deepest_added types node are formed more =
    let all = depth_in (types ++ node ∷ []) in
    let e : length (types ++ node ∷ []) ≡ suc (length types) =
    omega (arith, length-append types (node ∷ [])) in
    omega (
      arith,
      most_same (length types) (depth_in types) all (λ i lt. depth_stays types node i are lt),
      depth_added types node are formed more,
      ap (λ n. most n all) e,
    )

-- what is kept of each entry is still right after one more
each_added : {X : Type 0} (f : EntryWithDepth → X) (d : X) (of : List Node → ℕ → X)
    (ps : List EntryWithDepth) (p : EntryWithDepth) (i : ℕ)
    → ((k : ℕ) → k < length ps → get_or (map f ps) k d ≡ of (nodes_view ps) k)
    → ((k : ℕ) → k < length (nodes_view ps)
    → of (nodes_view ps) k ≡ of (nodes_view ps ++ node_view p.entry ∷ []) k)
    → f p ≡ of (nodes_view ps ++ node_view p.entry ∷ []) (length (nodes_view ps))
    → i < length (ps ++ p ∷ []) → (i < length ps) ⊎ (length ps ≤ i)
    → get_or (map f ps ++ f p ∷ []) i d ≡ of (nodes_view ps ++ node_view p.entry ∷ []) i
each_added f d of ps p i each stays last lt (inl h) =
    let len = length-map ps f in
    let size = length-map ps (λ (q : EntryWithDepth). node_view q.entry) in
    get_or_append_left (map f ps) (f p ∷ []) d i (omega (arith, len))
    ∙ each i h ∙ stays i (omega (arith, size))
each_added f d of ps p i each stays last lt (inr h) =
    let len = length-map ps f in
    let size = length-map ps (λ (q : EntryWithDepth). node_view q.entry) in
    let more = length-append ps (p ∷ []) in
    let e : i ≡ length (map f ps) = omega (arith, len, more) in
    let g : length (nodes_view ps) ≡ i = omega (arith, size, len) in
    ap (λ k. get_or (map f ps ++ f p ∷ []) k d) e
    ∙ get_or-append_seam (map f ps) (f p) [] d
    ∙ last ∙ ap (of (nodes_view ps ++ node_view p.entry ∷ [])) g

pub kept_more : (ps : List EntryWithDepth) (deepest : ℕ) (p : EntryWithDepth)
    → AreDepthsKept ps deepest
    → length (nodes_view ps) + 1 < 2 ^ 32
    → IsFormed (nodes_view ps) (length (nodes_view ps)) (node_view p.entry)
    → p.depth ≡ node_depth (nodes_view ps) (node_view p.entry)
    → p.wide ≡ node_has_wide_text (nodes_view ps) (node_view p.entry)
    → AreDepthsKept (ps ++ p ∷ []) (max deepest p.depth)
kept_more ps deepest p is few formed deep wide =
    let types = nodes_view ps in
    let node = node_view p.entry in
    let more = types_added types node is.types few formed in
    let view : nodes_view (ps ++ p ∷ []) ≡ types ++ node ∷ [] =
    map-append (λ (q : EntryWithDepth). node_view q.entry) ps (p ∷ []) in
    let last = deep ∙ depth_added types node is.types formed more in
    let so = wide ∙ wide_added types node is.types formed more in
    record {
      types = subst AreFormed (sym view) more;
      each = λ i lt.
          ap (λ ds. get_or ds i 0) (map-append (λ (q : EntryWithDepth). q.depth) ps (p ∷ []))
          ∙ each_added (λ q. q.depth) 0 depth_in ps p i is.each
          (λ k h. depth_stays types node k is.types h) last lt (cases_lt i (length ps))
          ∙ ap (λ ts. depth_in ts i) (sym view);
      wide = λ i lt.
          ap (λ ws. get_or ws i false) (map-append (λ (q : EntryWithDepth). q.wide) ps (p ∷ []))
          ∙ each_added (λ q. q.wide) false has_wide_text ps p i is.wide
          (λ k h. wide_stays types node k is.types h) so lt (cases_lt i (length ps))
          ∙ ap (λ ts. has_wide_text ts i) (sym view);
      greatest = ap (λ n. max n p.depth) is.greatest ∙ ap (max (depth_of types)) deep
          ∙ deepest_added types node is.types formed more ∙ ap depth_of (sym view);
    }

record CanStand (types : List Node) (node : Node) (d : ℕ) (w : Bool) : Type 0 where
  few : length types + 1 < 2 ^ 32
  formed : IsFormed types (length types) node
  deep : d ≡ node_depth types node
  wide : w ≡ node_has_wide_text types node

-- the entries after one was added
pub kept_pushed : (ps new : List EntryWithDepth) (deepest d : ℕ) (p : EntryWithDepth)
    (types : List Node)
    → AreDepthsKept ps deepest → nodes_view ps ≡ types
    → length types + 1 < 2 ^ 32 → IsFormed types (length types) (node_view p.entry)
    → p.depth ≡ node_depth types (node_view p.entry)
    → p.wide ≡ node_has_wide_text types (node_view p.entry)
    → new ≡ ps ++ p ∷ [] → d ≡ max deepest p.depth → AreDepthsKept new d
kept_pushed ps new deepest d p types is view few formed deep wide added greatest =
    let can : CanStand types (node_view p.entry) p.depth p.wide =
    record { few = few; formed = formed; deep = deep; wide = wide } in
    let here = subst (λ ts. CanStand ts (node_view p.entry) p.depth p.wide) (sym view) can in
    let more = kept_more ps deepest p is here.few here.formed here.deep here.wide in
    subst (λ qs. AreDepthsKept qs d) (sym added)
    (subst (AreDepthsKept (ps ++ p ∷ [])) (sym greatest) more)
