-- The fronts of repository ids: adding one, and finding one.
use Rattle.std.proofs.Common.{◌≡◌, ℕ, Bool, true, false, cond, List, [], ◌∷◌, ◌++◌, map, Some, None, refl, sym, ap, ◌∙◌}
use Rattle.std.specs.List.{list_any, position}
use Rattle.std.specs.Str.{bytes_eq}
use Rattle.std.proofs.lemmas.List.{map-append}
use Rattle.arrayvec.specs.ArrayVec.{ArrayVec}
use Rattle.indexmap.specs.IndexSet.{insert_key}
use Rattle.giop_sig.specs.Heard.{with_front}
use Rattle.giop_sig.proofs.Added.{list_any-map}
use Rattle.giop_sig.proofs.Finds.{position-map}

abbrev pub items_of : (ks : List (ArrayVec ℕ)) → List (List ℕ)
items_of ks = map (λ k. k.items) ks

abbrev same_front : (one other : ArrayVec ℕ) → Bool
same_front a b = bytes_eq a.items b.items

put_by : (ks : List (ArrayVec ℕ)) (k : ArrayVec ℕ) (v : Bool)
    → items_of (cond v ks (ks ++ k ∷ [])) ≡ cond v (items_of ks) (items_of ks ++ k.items ∷ [])
put_by ks k true = refl
put_by ks k false = map-append (λ k. k.items) ks (k ∷ [])

-- the fronts after one was put
pub front_put : (ks new : List (ArrayVec ℕ)) (k : ArrayVec ℕ) (front : List ℕ) → k.items ≡ front
    → new ≡ insert_key same_front ks k → items_of new ≡ with_front (items_of ks) front
front_put ks new k front same is =
    ap items_of is ∙ put_by ks k (list_any (same_front k) ks)
    ∙ ap (λ v. cond v (items_of ks) (items_of ks ++ k.items ∷ []))
    (sym (list_any-map (bytes_eq k.items) (λ (x : ArrayVec ℕ). x.items) ks))
    ∙ ap (with_front (items_of ks)) same

-- ---- fronts stay within their limits

-- ---- the index of a front

position_by : (p : List ℕ → Bool) (ks : List (ArrayVec ℕ))
    → position (λ (k : ArrayVec ℕ). p k.items) ks ≡ position p (items_of ks)
position_by p ks = sym (position-map p (λ (k : ArrayVec ℕ). k.items) ks)

-- the number that was found
pub number_found : (ks : List (ArrayVec ℕ)) (fronts : List (List ℕ)) (octets : List ℕ) (n : ℕ)
    → items_of ks ≡ fronts → Some n ≡ position (λ (k : ArrayVec ℕ). bytes_eq octets k.items) ks
    → Some n ≡ position (bytes_eq octets) fronts
number_found ks fronts octets n view is =
    is ∙ position_by (bytes_eq octets) ks ∙ ap (position (bytes_eq octets)) view

pub none_found : (ks : List (ArrayVec ℕ)) (fronts : List (List ℕ)) (octets : List ℕ)
    → items_of ks ≡ fronts → None ≡ position (λ (k : ArrayVec ℕ). bytes_eq octets k.items) ks
    → None ≡ position (bytes_eq octets) fronts
none_found ks fronts octets view is =
    is ∙ position_by (bytes_eq octets) ks ∙ ap (position (bytes_eq octets)) view
