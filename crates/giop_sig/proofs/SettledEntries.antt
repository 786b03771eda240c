-- The entries of types after recursive sequences got the types that were declared, and the draft
-- with them.
use Rattle.std.proofs.Common.{◌≡◌, ℕ, zero, suc, ◌+◌, ◌<◌, List, [], ◌∷◌, ◌++◌, length, map, take, drop, set, get_or, Option, Some, None, Result, Ok, Err, refl, sym, ap, subst, ◌∙◌, arith, append_assoc, length-set}
use Rattle.std.specs.Prelude.{IfOk, false, not, position, slice_get}
use Rattle.std.specs.Option.{is_some}
use mathlib.Core.Path.{fun_ext}
use Rattle.std.specs.Map.{lookup}
use Rattle.std.proofs.lemmas.List.{length-map, map-append, take_more, take_more_set}
use Rattle.arrayvec.specs.ArrayVec.{ArrayVec}
use Rattle.giop_sig.specs.declared.announced.Announcement.{Announcement}
use Rattle.giop_sig.specs.declared.entries.Entry.{Entry}
use Rattle.giop_sig.specs.declared.entries.Entry.TheVariants as entries
use Rattle.giop_sig.specs.declared.entries.EntryWithDepth.{EntryWithDepth}
use Rattle.giop_sig.specs.declared.types.TypeId.{TypeId}
use Rattle.giop_sig.specs.Table.{Node, Table}
use Rattle.giop_sig.specs.Table as nodes
use Rattle.giop_sig.specs.Trees.{depth_in, depth_of, has_wide_text, AreFormed}
use Rattle.giop_sig.specs.RequestList.{option_flatten}
use Rattle.giop_sig.specs.Scopes.{Scope, named, number_or_0, settled, resolved_node, declared_type_at, types_of_announced, with_resolved_types}
use Rattle.giop_sig.specs.ScopeViews.{announced_view, same_key_octets, number_of_id, scope_view}
use Rattle.giop_sig.specs.Settling.{resolved_entry, resolved_entry_kind, type_or_0}
use Rattle.giop_sig.specs.Views.{node_view, nodes_view, AreDepthsKept}
use Rattle.giop_sig.specs.FileReading.{resolved_if_declared, resolved_unless_undeclared}
use Rattle.giop_sig.proofs.Finds.{position-map}
use Rattle.giop_sig.proofs.ScopeLaws.{name_typed, some_map}
use Rattle.giop_sig.proofs.SettleLaws.{are_settled, deepest_settled, depth_in_settled, wide_in_settled}

-- ---- entries

type_is : (o : Option TypeId) → (type_or_0 o).0 ≡ number_or_0 (number_of_id o)
type_is None = refl
type_is (Some t) = refl

target_is : (ts : List (Option TypeId)) (n : ℕ)
    → (type_or_0 (option_flatten (slice_get ts n))).0 ≡ declared_type_at (map number_of_id ts) n
target_is [] n = refl
target_is (o ∷ os) zero = type_is o
target_is (o ∷ os) (suc n) = target_is os n

kind_settled : (ts : List (Option TypeId)) (e : Entry)
    → node_view (resolved_entry_kind ts e) ≡ resolved_node (map number_of_id ts) (node_view e)
kind_settled ts (entries.Recursive bound index) =
    ap (nodes.recursive bound) (target_is ts index.0)
kind_settled ts (entries.Prim p) = refl
kind_settled ts _ = refl

pub view_settled : (ts : List (Option TypeId)) (ps : List EntryWithDepth)
    → nodes_view (map (resolved_entry ts) ps)
    ≡ map (resolved_node (map number_of_id ts)) (nodes_view ps)
view_settled ts [] = refl
view_settled ts (p ∷ ps) =
    ap (λ n. n ∷ nodes_view (map (resolved_entry ts) ps)) (kind_settled ts p.entry)
    ∙ ap (λ ns. resolved_node (map number_of_id ts) (node_view p.entry) ∷ ns) (view_settled ts ps)

-- what is kept with an entry stays
kept_same : {X : Type 0} (f : EntryWithDepth → X) (ts : List (Option TypeId))
    (ps : List EntryWithDepth) → ((p : EntryWithDepth) → f (resolved_entry ts p) ≡ f p)
    → map f (map (resolved_entry ts) ps) ≡ map f ps
kept_same f ts [] same = refl
kept_same f ts (p ∷ ps) same =
    ap (λ x. x ∷ map f (map (resolved_entry ts) ps)) (same p)
    ∙ ap (λ xs. f p ∷ xs) (kept_same f ts ps same)

pub kept_settled : (ts : List (Option TypeId)) (ps : List EntryWithDepth) (deepest : ℕ)
    → AreDepthsKept ps deepest → AreDepthsKept (map (resolved_entry ts) ps) deepest
kept_settled ts ps deepest is =
    let us = map number_of_id ts in
    let types = nodes_view ps in
    let view = view_settled ts ps in
    let size = length-map ps (resolved_entry ts) in
    record {
      types = subst AreFormed (sym view) (are_settled us types is.types);
      each = λ i lt.
          ap (λ ds. get_or ds i 0) (kept_same (λ p. p.depth) ts ps (λ p. refl))
          ∙ is.each i (omega (arith, size)) ∙ sym (depth_in_settled us types i)
          ∙ ap (λ ns. depth_in ns i) (sym view);
      wide = λ i lt.
          ap (λ ws. get_or ws i false) (kept_same (λ p. p.wide) ts ps (λ p. refl))
          ∙ is.wide i (omega (arith, size)) ∙ sym (wide_in_settled us types i)
          ∙ ap (λ ns. has_wide_text ns i) (sym view);
      greatest = is.greatest ∙ sym (deepest_settled us types) ∙ ap depth_of (sym view);
    }

-- ---- a draft

pub if_ok : {X E : Type 0} (P Q : X → Type 0) (r : Result X E) → ((x : X) → P x → Q x) → IfOk r P
    → IfOk r Q
if_ok P Q (Ok x) on h = on x h
if_ok P Q (Err e) on h = tt

each_found : (s : Scope) (version : ℕ) (t : Table) (es : List (ArrayVec ℕ × Option TypeId))
    (xs ys : List (ArrayVec ℕ × Announcement)) → scope_view version t es xs ≡ s
    → map number_of_id (map (λ (e : ArrayVec ℕ × Announcement). option_flatten
    (lookup (same_key_octets e.0) es)) ys)
    ≡ map (λ e. named s.names e.0) (map announced_view ys)
each_found s version t es xs [] view = refl
each_found s version t es xs (y ∷ ys) view =
    ap (λ o. o ∷ map number_of_id
    (map (λ (e : ArrayVec ℕ × Announcement). option_flatten (lookup (same_key_octets e.0) es)) ys))
    (name_typed s version t es xs y.0 (y.0).items view refl)
    ∙ ap (λ os. named s.names (y.0).items ∷ os) (each_found s version t es xs ys view)

-- the types that were declared for the announced names
pub targets_found : (s : Scope) (version : ℕ) (t : Table)
    (es : List (ArrayVec ℕ × Option TypeId)) (xs : List (ArrayVec ℕ × Announcement))
    → scope_view version t es xs ≡ s
    → map number_of_id (map (λ (e : ArrayVec ℕ × Announcement). option_flatten
    (lookup (same_key_octets e.0) es)) xs)
    ≡ types_of_announced s.names
targets_found s version t es xs view =
    each_found s version t es xs xs view
    ∙ ap (λ (x : Scope). map (λ e. named s.names e.0) x.names.announced) view

-- the scope of a draft whose types are settled
pub settled_is : (s : Scope) (version : ℕ) (t : Table) (new : List Node)
    (es : List (ArrayVec ℕ × Option TypeId)) (xs : List (ArrayVec ℕ × Announcement))
    (ts : List (Option ℕ)) → scope_view version t es xs ≡ s → ts ≡ types_of_announced s.names
    → new ≡ map (resolved_node ts) t.types
    → scope_view version (record t { types = new }) es xs ≡ settled s
settled_is s version t new es xs ts view same is =
    ap (λ ns. scope_view version (record t { types = ns }) es xs) is
    ∙ ap (λ us. scope_view version (with_resolved_types us t) es xs) same
    ∙ ap (λ (x : Scope). record x {
      table = with_resolved_types
          (types_of_announced s.names) x.table;
    }) view

-- ---- a list whose elements are replaced one by one

-- the elements below an index were replaced, and the others weren't
pub record IsMapped {X : Type 0} (f : X → X) (i : ℕ) (now old : List X) : Type 0 where
  pub front : take i now ≡ map f (take i old)
  pub back : drop i now ≡ drop i old
  pub same : length now ≡ length old

get_zero : {X : Type 0} (k : ℕ) (xs : List X) (z : X) → get_or (drop k xs) 0 z ≡ get_or xs k z
get_zero zero xs z = refl
get_zero (suc k) [] z = refl
get_zero (suc k) (x ∷ xs) z = get_zero k xs z

get_at : {X : Type 0} (i : ℕ) (now old : List X) (d : X) → drop i now ≡ drop i old
    → get_or now i d ≡ get_or old i d
get_at i now old d e = sym (get_zero i now d) ∙ ap (λ xs. get_or xs 0 d) e ∙ get_zero i old d

set_suc : {X : Type 0} (k : ℕ) (zs : List X) (y : X) → drop (suc k) (set zs k y) ≡ drop (suc k) zs
set_suc zero [] y = refl
set_suc zero (z ∷ zs) y = refl
set_suc (suc k) [] y = refl
set_suc (suc k) (z ∷ zs) y = set_suc k zs y

drop_set : {X : Type 0} (i : ℕ) (xs : List X) (y : X) → drop (i + 1) (set xs i y) ≡ drop (i + 1) xs
drop_set i xs y = let e : i + 1 ≡ suc i = omega arith in
    rw e (set_suc i xs y)

drop_suc : {X : Type 0} (k : ℕ) (zs : List X) → drop (suc k) zs ≡ drop 1 (drop k zs)
drop_suc zero zs = refl
drop_suc (suc k) [] = refl
drop_suc (suc k) (z ∷ zs) = drop_suc k zs

drop_more : {X : Type 0} (i : ℕ) (xs ys : List X) → drop i xs ≡ drop i ys
    → drop (i + 1) xs ≡ drop (i + 1) ys
drop_more i xs ys e =
    let more : i + 1 ≡ suc i = omega arith in
    rw more (drop_suc i xs ∙ ap (drop 1) e ∙ sym (drop_suc i ys))

-- one more element was replaced
pub mapped_more : {X : Type 0} (f : X → X) (i : ℕ) (now old : List X) (d y : X)
    → IsMapped f i now old → i < length now → y ≡ f (get_or now i d)
    → IsMapped f (i + 1) (set now i y) old
mapped_more f i now old d y h below is =
    let lt : i < length old = omega (arith, h.same) in
    record {
      front = take_more_set now i y below ∙ (rw (h.front, is, get_at i now old d h.back) refl
          ∙ (sym (map-append f (take i old) (get_or old i d ∷ []))
          ∙ ap (map f) (sym (take_more old i d lt))));
      back = drop_set i now y ∙ drop_more i now old h.back;
      same = length-set now i y ∙ h.same;
    }

-- ---- the first name that isn't declared

pub none_found : (ts : List (Option TypeId))
    → position (λ t. not (is_some t)) ts
    ≡ position (λ t. not (is_some t)) (map number_of_id ts)
none_found ts =
    ap (λ p. position p ts)
    (fun_ext (λ o. ap not (sym (some_map (λ (t : TypeId). t.0) o))))
    ∙ sym (position-map (λ t. not (is_some t)) number_of_id ts)

-- the images of the elements so far, after one more
pub put_next : {X Y : Type 0} (f : X → Y) (ys more : List Y) (left rest : List X) (x : X) (y : Y)
    {all : List Y} → left ≡ x ∷ rest → ys ++ map f left ≡ all → y ≡ f x → more ≡ ys ++ y ∷ []
    → more ++ map f rest ≡ all
put_next f ys more left rest x y next so_far is pushed =
    ap (λ zs. zs ++ map f rest) pushed ∙ append_assoc ys (y ∷ []) (map f rest)
    ∙ ap (λ z. ys ++ z ∷ map f rest) is
    ∙ ap (λ xs. ys ++ map f xs) (sym next) ∙ so_far

-- the end of a text, from the first type that isn't there
pub settled_reads : (s : Scope) (lefts : List ℕ) (ts : List (Option TypeId)) (o : Option ℕ)
    → map number_of_id ts ≡ types_of_announced s.names → o ≡ position (λ t. not (is_some t)) ts
    → resolved_if_declared s lefts ≡ resolved_unless_undeclared s lefts o
unfolding resolved_if_declared
settled_reads s lefts ts o same is =
    ap (resolved_unless_undeclared s lefts)
    (sym (is ∙ none_found ts ∙ ap (position (λ t. not (is_some t))) same))
