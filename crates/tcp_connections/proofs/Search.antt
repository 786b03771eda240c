-- What a binary search among sorted pairs answers, and that pairs stay sorted.
use Rattle.std.proofs.Common.{◌≡◌, ◌⊎◌, ℕ, zero, suc, ◌<◌, ◌≤◌, Bool, true, false, cond, List, [], ◌∷◌, length, get_or, Option, Some, None, is_some, refl, sym, ◌∙◌, ap, subst, arith, inl, inr, ⊎_elim, Ordering, Less, Equal, Greater, is_eq, is_lt, unwrap_or, true≢false}
use Rattle.std.specs.Prelude.{Ok, Err}
use Rattle.std.specs.Option.{option_map}
use Rattle.std.specs.Ordering.{ordering_index, ordering_reverse}
use Rattle.std.specs.List.{insert, remove, AllByRecursion}
use Rattle.std.specs.List.Sorted.{IsStrictlySortedBy, IsBinarySearchResult, IsNonDecreasingBy, IsSearchInRange}
use Rattle.std.specs.Cmp.{IsTotalOrder, alike_right}
use Rattle.std.proofs.lemmas.Bool.{cases_eq, cases_lt, cases_Bool, cond-true, cond-false}
use Rattle.tcp_streams.specs.declared.pair.EndpointPair.{EndpointPair}
use Rattle.tcp_streams.specs.contracts.pair.EndpointPairOrd.TheImpl.Laws.{total-law}
use Rattle.tcp_streams.specs.Pairs.{compare_pairs as C}
use Rattle.tcp_connections.specs.Connections.{index_of, insertion_index}

order : IsTotalOrder C
order = total-law

own_reverse : (r : Ordering) → r ≡ ordering_reverse r → r ≡ Equal
own_reverse Less e = cc
own_reverse Equal e = refl
own_reverse Greater e = cc

pub same_pair : (p : EndpointPair) → C p p ≡ Equal
same_pair p = own_reverse (C p p) (order.antisymm p p)

all_at : (P : EndpointPair → Type 0) (xs : List EndpointPair) (i : ℕ) (d : EndpointPair) →
    AllByRecursion P xs → i < length xs → P (get_or xs i d)
all_at P [] i d h l = absurd (omega (arith, l))
all_at P (x ∷ xs) zero d h l = h.0
all_at P (x ∷ xs) (suc i) d h l = all_at P xs i d h.1 (omega (arith, l))

sorted_at : (xs : List EndpointPair) (i j : ℕ) (d : EndpointPair) → IsStrictlySortedBy C xs →
    i < j → j < length xs → C (get_or xs i d) (get_or xs j d) ≡ Less
unfolding IsStrictlySortedBy
sorted_at [] i j d h l m = absurd (omega (arith, m))
sorted_at (x ∷ xs) i zero d h l m = absurd (omega (arith, l))
sorted_at (x ∷ xs) zero (suc j) d h l m = all_at (λ y. C x y ≡ Less) xs j d h.0 (omega (arith, m))
sorted_at (x ∷ xs) (suc i) (suc j) d h l m =
    sorted_at xs i j d h.1 (omega (arith, l)) (omega (arith, m))

-- an element that compares as equal is at the index that is found
pub found : (p : EndpointPair) (xs : List EndpointPair) (i : ℕ) → IsStrictlySortedBy C xs →
    i < length xs → ((d : EndpointPair) → C (get_or xs i d) p ≡ Equal) → index_of p xs ≡ Some i
unfolding IsStrictlySortedBy index_of
found p [] i s l h = absurd (omega (arith, l))
found p (x ∷ xs) zero s l h = let e : C x p ≡ Equal = h p in rw e refl
found p (x ∷ xs) (suc i) s l h =
    let less : C x (get_or xs i p) ≡ Less =
    all_at (λ y. C x y ≡ Less) xs i p s.0 (omega (arith, l)) in
    let e : C x p ≡ Less = sym (alike_right order (get_or xs i p) p x (h p)) ∙ less in
    rw e (ap (option_map suc) (found p xs i s.1 (omega (arith, l)) (λ d. h d)))

not_eq : (r : Ordering) → (r ≡ Equal → ⊥) → is_eq r ≡ false
not_eq Less h = refl
not_eq Equal h = absurd (h refl)
not_eq Greater h = refl

pub absent : (p : EndpointPair) (xs : List EndpointPair) →
    ((k : ℕ) (d : EndpointPair) → k < length xs → C (get_or xs k d) p ≡ Equal → ⊥) →
    index_of p xs ≡ None
unfolding index_of
absent p [] h = refl
absent p (x ∷ xs) h =
    let e : is_eq (C x p) ≡ false = not_eq (C x p) (h 0 p (omega arith)) in
    rw e (ap (option_map suc) (absent p xs (λ k d l. h (suc k) d (omega (arith, l)))))

-- if no index is found, no element compares as equal
pub none_same : (p : EndpointPair) (xs : List EndpointPair) → index_of p xs ≡ None →
    (k : ℕ) (d : EndpointPair) → k < length xs → C (get_or xs k d) p ≡ Equal → ⊥
unfolding index_of
none_same p [] h k d l e = absurd (omega (arith, l))
none_same p (x ∷ xs) h zero d l e = true≢false
    (ap is_some (let f : index_of p (x ∷ xs) ≡ Some 0 = rw e refl in sym f ∙ h))
none_same p (x ∷ xs) h (suc k) d l e = none_same p xs (none_under (is_eq (C x p)) (index_of p xs) h)
    k d (omega (arith, l)) e
  where
    none_under : (b : Bool) (r : Option ℕ) → cond b (Some 0) (option_map suc r) ≡ None → r ≡ None
    none_under true r h = absurd (true≢false (ap is_some h))
    none_under false None h = refl
    none_under false (Some i) h = absurd (true≢false (ap is_some h))

-- the index of a pair is where the lesser elements end
pub closed_for_gap : (p : EndpointPair) (xs : List EndpointPair) (i : ℕ) → i ≤ length xs →
    ((k : ℕ) (d : EndpointPair) → k < i → C (get_or xs k d) p ≡ Less) →
    ((k : ℕ) (d : EndpointPair) → i ≤ k → k < length xs → C (get_or xs k d) p ≡ Greater) →
    insertion_index p xs ≡ i
unfolding insertion_index
closed_for_gap p [] i l below above = omega (arith, l)
closed_for_gap p (x ∷ xs) zero l below above = let e : C x p ≡ Greater =
    above 0 p (omega arith) (omega arith) in rw e refl
closed_for_gap p (x ∷ xs) (suc i) l below above =
    let e : C x p ≡ Less = below 0 p (omega arith) in
    rw e (ap suc (closed_for_gap p xs i (omega (arith, l))
    (λ k d m. below (suc k) d (omega (arith, m)))
    (λ k d m n. above (suc k) d (omega (arith, m)) (omega (arith, n)))))

low : (a b : Ordering) → (b ≡ Less → a ≡ Less) → (b ≡ Equal → a ≡ Less) →
    ordering_index a ≤ ordering_index b
low a Less h g = rw (h refl) (omega arith)
low a Equal h g = rw (g refl) (omega arith)
low Less Greater h g = omega arith
low Equal Greater h g = omega arith
low Greater Greater h g = omega arith

rises : (p : EndpointPair) (xs : List EndpointPair) → IsStrictlySortedBy C xs →
    IsNonDecreasingBy (λ y. ordering_index (C y p)) xs
rises p xs s i j d le l =
    elim (cases_eq i j) [
      | inl e ↦ rw e (omega arith)
      | inr n ↦
          (let m : i < j = omega (arith, le, λ (e : i ≡ j). n e) in
          let less : C (get_or xs i d) (get_or xs j d) ≡ Less = sorted_at xs i j d s m l in
          low (C (get_or xs i d) p) (C (get_or xs j d) p)
          (λ e. order.trans (get_or xs i d) (get_or xs j d) p less e)
          (λ e. sym (alike_right order (get_or xs j d) p (get_or xs i d) e) ∙ less))
    ]

-- the answer of a binary search among sorted pairs
pub searched : (p : EndpointPair) (xs : List EndpointPair) (i : ℕ) → IsStrictlySortedBy C xs →
    IsBinarySearchResult (λ y. C y p) xs (Ok i) → IsSearchInRange (Ok i) (length xs) →
    index_of p xs ≡ Some i
searched p xs i s h l = found p xs i s l h

pub unfound : (p : EndpointPair) (xs : List EndpointPair) (i : ℕ) → IsStrictlySortedBy C xs →
    IsBinarySearchResult (λ y. C y p) xs (Err i) → IsSearchInRange (Err i) (length xs) →
    (index_of p xs ≡ None) × (insertion_index p xs ≡ i)
unfound p xs i s h l =
    let parts = h (rises p xs s) in (
      absent p xs (λ k d m e. ⊎_elim (λ b. absurd
          (apart Less (sym (parts.0 k d (omega arith) b) ∙ e) (λ z. z)))
          (λ a. apart_greater (sym (parts.1 k d a m) ∙ e)) (below_or k i)),
      closed_for_gap p xs i l (λ k d m. parts.0 k d (omega arith) m) (λ k d m n. parts.1 k d m n),
    )
  where
    apart : (r : Ordering) → Less ≡ Equal → (⊥ → ⊥) → ⊥
    apart r e k = true≢false (ap is_lt e)

    apart_greater : Greater ≡ Equal → ⊥
    apart_greater e = true≢false (sym (ap is_eq e))

    below_or : (k i : ℕ) → (k < i) ⊎ (i ≤ k)
    below_or k i = cases_lt k i

-- ---- Pairs stay sorted.

all_insert : (P : EndpointPair → Type 0) (xs : List EndpointPair) (i : ℕ) (y : EndpointPair) →
    AllByRecursion P xs → P y → AllByRecursion P (insert xs i y)
all_insert P [] zero y h p = (p, tt)
all_insert P [] (suc i) y h p = (p, tt)
all_insert P (x ∷ xs) zero y h p = (p, h)
all_insert P (x ∷ xs) (suc i) y h p = (h.0, all_insert P xs i y h.1 p)

all_remove : (P : EndpointPair → Type 0) (xs : List EndpointPair) (i : ℕ) → AllByRecursion P xs →
    AllByRecursion P (remove xs i)
all_remove P [] zero h = tt
all_remove P [] (suc i) h = tt
all_remove P (x ∷ xs) zero h = h.1
all_remove P (x ∷ xs) (suc i) h = (h.0, all_remove P xs i h.1)

pub sorted_remove : (xs : List EndpointPair) (i : ℕ) → IsStrictlySortedBy C xs →
    IsStrictlySortedBy C (remove xs i)
unfolding IsStrictlySortedBy
sorted_remove [] zero h = tt
sorted_remove [] (suc i) h = tt
sorted_remove (x ∷ xs) zero h = h.1
sorted_remove (x ∷ xs) (suc i) h = (all_remove (λ y. C x y ≡ Less) xs i h.0, sorted_remove xs i h.1)

all_after : (p x : EndpointPair) (xs : List EndpointPair) → C p x ≡ Less →
    AllByRecursion (λ y. C x y ≡ Less) xs → AllByRecursion (λ y. C p y ≡ Less) xs
all_after p x [] e h = tt
all_after p x (y ∷ ys) e h = (order.trans p x y e h.0, all_after p x ys e h.1)

turned : (p x : EndpointPair) → C x p ≡ Greater → C p x ≡ Less
turned p x e = order.antisymm p x ∙ ap ordering_reverse e

-- after a pair that isn't known was inserted at its index
pub sorted_insert : (p : EndpointPair) (xs : List EndpointPair) → IsStrictlySortedBy C xs →
    index_of p xs ≡ None → IsStrictlySortedBy C (insert xs (insertion_index p xs) p)
unfolding IsStrictlySortedBy insertion_index
sorted_insert p [] h n = (tt, tt)
sorted_insert p (x ∷ xs) h n =
    elim (C x p) as (λ (r : Ordering). C x p ≡ r →
    IsStrictlySortedBy C (insert (x ∷ xs) (cond (is_lt r) (suc (insertion_index p xs)) 0) p)) [
      | Less ↦ (λ e. (
        all_insert (λ y. C x y ≡ Less) xs (insertion_index p xs) p h.0 e,
        sorted_insert p xs h.1 (absent p xs (λ k d l s.
            none_same p (x ∷ xs) n (suc k) d (omega (arith, l)) s)),
      ))
      | Equal ↦ (λ e. absurd (none_same p (x ∷ xs) n 0 p (omega arith) e))
      | Greater ↦ (λ e. ((turned p x e, all_after p x xs (turned p x e) h.0), h))
    ] refl

-- a pair that isn't known isn't so after another was removed
pub unknown_remove : (p : EndpointPair) (xs : List EndpointPair) (i : ℕ) → index_of p xs ≡ None →
    index_of p (remove xs i) ≡ None
unfolding index_of
unknown_remove p [] zero h = refl
unknown_remove p [] (suc i) h = refl
unknown_remove p (x ∷ xs) zero h = absent p xs
    (λ k d l s. none_same p (x ∷ xs) h (suc k) d (omega (arith, l)) s)
unknown_remove p (x ∷ xs) (suc i) h =
    let e : is_eq (C x p) ≡ false = not_eq (C x p) (none_same p (x ∷ xs) h 0 p (omega arith)) in
    rw e (ap (option_map suc) (unknown_remove p xs i
    (absent p xs (λ k d l s. none_same p (x ∷ xs) h (suc k) d (omega (arith, l)) s))))

none_later : (p x : EndpointPair) (xs : List EndpointPair) → C x p ≡ Equal →
    AllByRecursion (λ y. C x y ≡ Less) xs → index_of p xs ≡ None
none_later p x xs e h = absent p xs (λ k d l s.
    let less : C x (get_or xs k d) ≡ Less = all_at (λ y. C x y ≡ Less) xs k d h l in
    let same : C x (get_or xs k d) ≡ Equal = alike_right order (get_or xs k d) p x s ∙ e in
    true≢false (ap is_lt (sym less ∙ same)))

under : (r : Option ℕ) (i : ℕ) → option_map suc r ≡ Some i → (j : ℕ) × ((r ≡ Some j) × (suc j ≡ i))
under None i e = absurd (true≢false (sym (ap is_some e)))
under (Some j) i e = (j, (refl, ap (λ (o : Option ℕ). unwrap_or o 0) e))

eq_is : (r : Ordering) → is_eq r ≡ true → r ≡ Equal
eq_is Less e = absurd (true≢false (sym e))
eq_is Equal e = refl
eq_is Greater e = absurd (true≢false (sym e))

-- a pair that was removed isn't known
pub forgotten_unknown : (p : EndpointPair) (xs : List EndpointPair) (i : ℕ) →
    IsStrictlySortedBy C xs → index_of p xs ≡ Some i → index_of p (remove xs i) ≡ None
unfolding IsStrictlySortedBy index_of
forgotten_unknown p [] i s h = absurd (true≢false (sym (ap is_some h)))
forgotten_unknown p (x ∷ xs) i s h =
    elim (cases_Bool (is_eq (C x p))) [
      | inl b ↦
          (let f : index_of p (x ∷ xs) ≡ Some 0 =
          cond-true (is_eq (C x p)) (Some 0) (option_map suc (index_of p xs)) b in
          let z : 0 ≡ i = ap (λ (o : Option ℕ). unwrap_or o 0) (sym f ∙ h) in
          subst (λ (n : ℕ). index_of p (remove (x ∷ xs) n) ≡ None) z
          (none_later p x xs (eq_is (C x p) b) s.0))
      | inr b ↦
          (let f : index_of p (x ∷ xs) ≡ option_map suc (index_of p xs) =
          cond-false (is_eq (C x p)) (Some 0) (option_map suc (index_of p xs)) b in
          let u = under (index_of p xs) i (sym f ∙ h) in
          let g : index_of p (remove (x ∷ xs) (suc u.0)) ≡ None =
          cond-false (is_eq (C x p)) (Some 0) (option_map suc (index_of p (remove xs u.0))) b
          ∙ ap (option_map suc) (forgotten_unknown p xs u.0 s.1 u.1.0) in
          subst (λ (n : ℕ). index_of p (remove (x ∷ xs) n) ≡ None) u.1.1 g)
    ]
