-- What is stored of a request list depends on its entries alone: the ids are in the order of their
-- first entries.
use Rattle.std.proofs.Common.{arith, ◌≡◌, ℕ, Bool, true, false, cond, not, ◌||◌, eqb, nat_eq, List, [], ◌∷◌, ◌++◌, length, map, filter, Option, Some, None, refl, append_assoc, sym, ap, ◌∙◌, subst}
use Rattle.std.specs.Prelude.{option_and_then}
use Rattle.std.specs.Cmp.{nat_eq_equiv}
use Rattle.std.specs.List.{list_any, IsDistinct, AllByRecursion}
use Rattle.std.specs.Map.{lookup, keys_of}
use Rattle.std.specs.Option.{option_map}
use Rattle.std.specs.Set.{distinct_count}
use Rattle.std.proofs.lemmas.Bool.{eqb-true, eqb-false, ne_eqb, eq-eqb}
use Rattle.std.proofs.lemmas.List.{append-nil, length-map, map-append}
use Rattle.std.proofs.lemmas.List.Elements.{filter-append}
use Rattle.std.proofs.lemmas.Map.Made.{length-from_keys, lookup-map_values, keys_of-map_values}
use Rattle.indexmap.specs.IndexMap.{insert_entry}
use Rattle.giop_sig.specs.declared.requests.Words.{Words}
use Rattle.giop_sig.specs.declared.types.OpId.{OpId}
use Rattle.giop_sig.specs.RequestList.{Asked, Entry, as_operation, asked_of, common_asked, operation_of, option_flatten, ids_of, common_asked_by_id, OperationLookup, with_found_operation, operations_by_id, kept_operation, AgreesWithList}
use Rattle.giop_sig.specs.RequestViews.{words_view, asked_view}
use Rattle.giop_sig.proofs.Added.{entry_last, list_any-map}
use Rattle.giop_sig.proofs.ListKept.{kept_of_asked, kept_view}

-- ---- the ids with one more entry

-- whether an id is another than this one
abbrev is_other : (k id : ℕ) → Bool
is_other k id = not (eqb id k)

-- the ids with this one, if it is new
abbrev with_id : (ids : List ℕ) (x : ℕ) → List ℕ
with_id ids x = cond (list_any (nat_eq x) ids) ids (ids ++ x ∷ [])

any_other : (x k : ℕ) (ids : List ℕ) → eqb x k ≡ false
    → list_any (nat_eq x) (filter (is_other k) ids) ≡ list_any (nat_eq x) ids
any_other x k [] apart = refl
any_other x k (y ∷ ids) apart = search (
  arith,
  eqb,
  nat_eq,
  filter,
  cond,
  not,
  eqb-true,
  any_other
      x k ids apart,
)

with_other : (x k : ℕ) (ids : List ℕ)
    → k ∷ filter (is_other k) (with_id ids x) ≡ with_id (k ∷ filter (is_other k) ids) x
with_other x k ids = search (arith, eqb, nat_eq, filter, filter-append, append-nil, any_other)

pub ids_more : (es : List Entry) (e : Entry) → ids_of (es ++ e ∷ []) ≡ with_id (ids_of es) e.id
ids_more [] e = refl
ids_more (f ∷ es) e = search (arith, filter, with_other, ids_more es e)

-- ---- the map with one more entry

keys_insert : {X : Type 0} (es : List (ℕ × X)) (k : ℕ) (v : X)
    → keys_of (insert_entry nat_eq es k v) ≡ with_id (keys_of es) k
keys_insert [] k v = refl
keys_insert (e ∷ es) k v = search (arith, eqb, nat_eq, cond, keys_insert es k v)

pub keys_step : {X : Type 0} (es : List Entry) (e : Entry) (old new : List (ℕ × X)) (v : X)
    → keys_of old ≡ ids_of es → new ≡ insert_entry nat_eq old e.id v →
    keys_of new ≡ ids_of (es ++ e ∷ [])
keys_step es e old new v keys is = search (arith, keys_insert, ids_more)

-- ---- the whole map

not_there : {X : Type 0} (k : ℕ) (es : List (ℕ × X)) →
    AllByRecursion (λ y. nat_eq k y ≡ false) (keys_of es)
    → lookup (nat_eq k) es ≡ None
not_there k [] apart = refl
not_there k (e ∷ es) apart = rw (apart.0) (not_there k es apart.1)

-- a map whose values depend on the keys alone is the list of its keys with their values
by_keys : {X : Type 0} (value : ℕ → X) (es : List (ℕ × X)) → IsDistinct nat_eq (keys_of es)
    → ((q : ℕ) (w : X) → lookup (nat_eq q) es ≡ Some w → w ≡ value q)
    → es ≡ map (λ k. (k, value k)) (keys_of es)
unfolding IsDistinct
by_keys value [] distinct values = refl
by_keys {X} value ((k, v) ∷ es) distinct values =
    ap (λ (w : X). (k, w) ∷ es) (values k v here)
    ∙ ap (λ (xs : List (ℕ × X)). (k, value k) ∷ xs) (by_keys value es distinct.1 later)
  where
    here : lookup (nat_eq k) ((k, v) ∷ es) ≡ Some v
    here = rw (eq-eqb k k refl) refl

    by : (q : ℕ) (w : X) (x : Bool) → eqb q k ≡ x → lookup (nat_eq q) es ≡ Some w → w ≡ value q
    by q w true e found =
        let same : q ≡ k = eqb-true q k e in
        let none : lookup (nat_eq q) es ≡ None =
        subst (λ y. lookup (nat_eq y) es ≡ None) (sym same) (not_there k es distinct.0) in
        absurd cc
    by q w false e found = values q w (rw e found)

    later : (q : ℕ) (w : X) → lookup (nat_eq q) es ≡ Some w → w ≡ value q
    later q w found = by q w (eqb q k) refl found

kept_one : (w : Option Asked) (asked : List Asked) → kept_of_asked asked ≡ Some w → w
    ≡ common_asked asked
kept_one w [] e = absurd cc
kept_one w (a ∷ others) e = cc

-- what is kept for the ids depends on the entries alone
pub asked_is : (es : List Entry) (kept : List (ℕ × Option Words)) → IsDistinct nat_eq (keys_of kept)
    → keys_of kept ≡ ids_of es
    → ((q : ℕ) → kept_view (lookup (nat_eq q) kept) ≡ kept_of_asked (asked_of es q))
    → map asked_view kept ≡ common_asked_by_id es
asked_is es kept distinct keys looks =
    let value : ℕ → Option Asked = λ id. common_asked (asked_of es id) in
    let same : keys_of (map asked_view kept) ≡ keys_of kept =
    keys_of-map_values (option_map words_view) kept in
    by_keys value (map asked_view kept) (subst (IsDistinct nat_eq) (sym same) distinct)
    (λ q w found. kept_one w (asked_of es q) (sym (looks q)
    ∙ sym (lookup-map_values (option_map words_view) (nat_eq q) kept) ∙ found))
    ∙ ap (map (λ id. (id, value id))) (same ∙ keys)

-- ---- the operations

pub found_all : (find : OperationLookup) (es : List Entry) (ids : List ℕ)
    → map (with_found_operation find) (map (λ id. (id, common_asked (asked_of es id))) ids)
    ≡ map (λ id. (id, option_map as_operation (operation_of find es id))) ids
found_all find es [] = refl
found_all find es (id ∷ ids) =
    ap (λ xs. (id, option_map as_operation (operation_of find es id)) ∷ xs) (found_all find es ids)

number_back : (o : Option ℕ) → option_map (λ (x : OpId). x.0) (option_map as_operation o) ≡ o
number_back None = refl
number_back (Some k) = refl

lookup_by : {X : Type 0} (value : ℕ → X) (ids : List ℕ) (q : ℕ)
    → lookup (nat_eq q) (map (λ k. (k, value k)) ids)
    ≡ cond (list_any (nat_eq q) ids) (Some (value q)) None
lookup_by value [] q = refl
lookup_by value (k ∷ ids) q = by (eqb q k) refl (lookup_by value ids q)
  where
    by : (v : Bool) → eqb q k ≡ v
        → lookup (nat_eq q) (map (λ k. (k, value k)) ids)
        ≡ cond (list_any (nat_eq q) ids) (Some (value q)) None
        → cond (eqb q k) (Some (value k)) (lookup (nat_eq q) (map (λ k. (k, value k)) ids))
        ≡ cond (eqb q k || list_any (nat_eq q) ids) (Some (value q)) None
    by true e rest = rw e (ap (λ (j : ℕ). Some (value j)) (sym (eqb-true q k e)))
    by false e rest = rw e rest

any_ids : (es : List Entry) (q : ℕ)
    → list_any (nat_eq q) (ids_of es) ≡ list_any (nat_eq q) (map (λ e. e.id) es)
any_ids [] q = refl
any_ids (e ∷ es) q = by (eqb q e.id) refl (any_ids es q)
  where
    by : (v : Bool) → eqb q e.id ≡ v
        → list_any (nat_eq q) (ids_of es) ≡ list_any (nat_eq q) (map (λ e. e.id) es)
        → (eqb q e.id || list_any (nat_eq q) (filter (is_other e.id) (ids_of es)))
        ≡ (eqb q e.id || list_any (nat_eq q) (map (λ e. e.id) es))
    by true h rest = rw h refl
    by false h rest = rw h (any_other q e.id (ids_of es) h ∙ rest)

none_asked : (es : List Entry) (q : ℕ) → list_any (nat_eq q) (map (λ e. e.id) es) ≡ false
    → asked_of es q ≡ []
none_asked [] q none = refl
none_asked (e ∷ es) q none = by (eqb q e.id) refl none (none_asked es q)
  where
    by : (v : Bool) → eqb q e.id ≡ v
        → (eqb q e.id || list_any (nat_eq q) (map (λ e. e.id) es)) ≡ false
        → (list_any (nat_eq q) (map (λ e. e.id) es) ≡ false → asked_of es q ≡ [])
        → asked_of (e ∷ es) q ≡ []
    by true h n rest = absurd cc
    by false h n rest = rw h (rest (rw h at n))

keys_by : {X : Type 0} (value : ℕ → X) (ids : List ℕ) → keys_of (map (λ k. (k, value k)) ids) ≡ ids
keys_by value [] = refl
keys_by value (k ∷ ids) = ap (λ ks. k ∷ ks) (keys_by value ids)

ids_count : (es : List Entry) (kept : List (ℕ × Option Words)) → IsDistinct nat_eq (keys_of kept)
    → map asked_view kept ≡ common_asked_by_id es
    → length (ids_of es) ≡ distinct_count nat_eq (map (λ e. e.id) es)
ids_count es kept distinct asked =
    let keys : keys_of kept ≡ ids_of es =
    sym (keys_of-map_values (option_map words_view) kept) ∙ ap keys_of asked
    ∙ keys_by (λ id. common_asked (asked_of es id)) (ids_of es) in
    length-from_keys nat_eq_equiv (ids_of es) (map (λ e. e.id) es)
    (subst (IsDistinct nat_eq) keys distinct) (any_ids es)

-- the operation of each id, if what is stored is that of the entries
operation_by : (find : OperationLookup) (es : List Entry) (q : ℕ) (v : Bool)
    → list_any (nat_eq q) (map (λ e. e.id) es) ≡ v
    → option_map (λ (x : OpId). x.0)
    (option_flatten (cond v (Some (option_map as_operation (operation_of find es q))) None))
    ≡ operation_of find es q
operation_by find es q true e = number_back (operation_of find es q)
operation_by find es q false e =
    sym (ap (λ asked. option_and_then (λ (a : Asked). find a.name a.interface) (common_asked asked))
    (none_asked es q e))

-- what is stored of a list, from what was kept and looked up
pub found_is : (find : OperationLookup) (es : List Entry) (kept : List (ℕ × Option Words))
    (table : List (ℕ × Option OpId)) → map asked_view kept ≡ common_asked_by_id es
    → table ≡ map (with_found_operation find) (map asked_view kept) → table
    ≡ operations_by_id find es
found_is find es kept table asked is =
    is ∙ ap (map (with_found_operation find)) asked ∙ found_all find es (ids_of es)

pub is_of : (find : OperationLookup) (es : List Entry) (kept : List (ℕ × Option Words))
    (table : List (ℕ × Option OpId)) → IsDistinct nat_eq (keys_of kept)
    → map asked_view kept ≡ common_asked_by_id es → table ≡ map (with_found_operation find)
    (map asked_view kept)
    → AgreesWithList find es table
is_of find es kept table distinct asked found =
    let value : ℕ → Option OpId = λ id. option_map as_operation (operation_of find es id) in
    let is = found_is find es kept table asked found in
    record {
      operation = λ q.
          ap (λ ks. option_map (λ (x : OpId). x.0) (kept_operation ks q)) is
          ∙ ap (λ o. option_map (λ (x : OpId). x.0) (option_flatten o))
          (lookup_by value (ids_of es) q
          ∙ ap (λ v. cond v (Some (value q)) None) (any_ids es q))
          ∙ operation_by find es q (list_any (nat_eq q) (map (λ e. e.id) es)) refl;
      count = ap length is ∙ length-map (ids_of es) (λ id. (id, value id))
          ∙ ids_count es kept distinct asked;
    }

-- ---- looking up the operations, id by id

apart_from : (x k : ℕ) (xs ys : List ℕ) → AllByRecursion (λ y. nat_eq x y ≡ false) (xs ++ k ∷ ys)
    → eqb x k ≡ false
apart_from x k [] ys all = all.0
apart_from x k (y ∷ xs) ys all = apart_from x k xs ys all.1

-- no id comes before itself
not_before : (k : ℕ) (xs ys : List ℕ) → IsDistinct nat_eq (xs ++ k ∷ ys)
    → list_any (nat_eq k) xs ≡ false
unfolding IsDistinct
not_before k [] ys distinct = refl
not_before k (x ∷ xs) ys distinct =
    let apart : eqb k x ≡ false =
    ne_eqb k x (λ e. eqb-false x k (apart_from x k xs ys distinct.0) (sym e)) in
    rw apart (not_before k xs ys distinct.1)

keys_found : (find : OperationLookup) (kept : List (ℕ × Option Words))
    → keys_of (map (with_found_operation find) (map asked_view kept)) ≡ keys_of kept
keys_found find [] = refl
keys_found find (e ∷ kept) = ap (λ ks. e.0 ∷ ks) (keys_found find kept)

operation_back : (o : Option OpId) (n : Option ℕ) → option_map (λ (x : OpId). x.0) o ≡ n
    → o ≡ option_map as_operation n
operation_back None n e = ap (option_map as_operation) e
operation_back (Some k) n e = ap (option_map as_operation) e

-- the map so far and what is left, after one more id was looked up
pub put_next : (find : OperationLookup) (kept : List (ℕ × Option Words))
    (table new : List (ℕ × Option OpId)) (e : ℕ × Option Words) (left : List (ℕ × Option Words))
    (o : Option OpId) → IsDistinct nat_eq (keys_of kept)
    → table ++ map (with_found_operation find) (map asked_view (e ∷ left))
    ≡ map (with_found_operation find) (map asked_view kept)
    → option_map (λ (x : OpId). x.0) o
    ≡ option_and_then (λ (a : Asked). find a.name a.interface) (option_map words_view e.1)
    → new ≡ insert_entry nat_eq table e.0 o
    → new ++ map (with_found_operation find) (map asked_view left) ≡ map (with_found_operation find)
    (map asked_view kept)
put_next find kept table new e left o distinct so_far is put =
    let after : List (ℕ × Option OpId) = map (with_found_operation find) (map asked_view left) in
    let keys : keys_of table ++ e.0 ∷ keys_of left ≡ keys_of kept =
    sym (map-append (λ (x : ℕ × Option OpId). x.0) table
    (map (with_found_operation find) (map asked_view (e ∷ left)))
    ∙ ap (λ ks. keys_of table ++ ks) (keys_found find (e ∷ left)))
    ∙ ap keys_of so_far ∙ keys_found find kept in
    let none : list_any (nat_eq e.0) (keys_of table) ≡ false =
    not_before e.0 (keys_of table) (keys_of left) (subst (IsDistinct nat_eq) (sym keys) distinct) in
    let last : new ≡ table ++ (e.0, o) ∷ [] =
    put ∙ entry_last nat_eq table e.0 o
    (sym (list_any-map (nat_eq e.0) (λ (x : ℕ × Option OpId). x.0) table) ∙ none) in
    ap (λ xs. xs ++ after) last
    ∙ append_assoc table ((e.0, o) ∷ []) after
    ∙ ap (λ w. table ++ (e.0, w) ∷ after) (operation_back o _ is)
    ∙ so_far
