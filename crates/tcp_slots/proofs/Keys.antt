-- The keys of slots in an order.
use Rattle.std.proofs.Common.{◌≡◌, ℕ, zero, suc, ◌+◌, ◌<◌, ◌≤◌, true, true≢false, List, [], ◌∷◌, ◌++◌, length, get_or, set, Option, Some, None, is_some, refl, sym, ap, ◌∙◌, subst, arith, inl, inr, Ordering, Less, Greater}
use Rattle.std.specs.List.{insert, remove, AllByRecursion}
use Rattle.std.specs.Option.{option_to_list}
use Rattle.std.specs.List.{AllWithin}
use Rattle.std.specs.List.Sorted.{IsNonDecreasingBy}
use Rattle.std.specs.Ordering.{ordering_index}
use Rattle.std.proofs.lemmas.List.{get_or-set_same, get_or-set_other, get_or_past}
use Rattle.std.proofs.lemmas.List.Elements.{All-from_recursion}
use Rattle.std.proofs.lemmas.Bool.{cases_eq, cases_lt}
use Rattle.tcp_slots.specs.Table.{keys_of}

module _ {K : Type 0} where
  one : (o : Option K) → is_some o ≡ true → (k : K) × (o ≡ Some k)
  one None h = absurd (true≢false (sym h))
  one (Some k) h = (k, refl)

  -- there are as many keys as slots
  pub as_many : (last : List (Option K)) (slots : List ℕ) →
      AllByRecursion (λ slot. is_some (get_or last slot None) ≡ true) slots →
      length (keys_of last slots) ≡ length slots
  unfolding keys_of
  as_many last [] h = refl
  as_many last (r ∷ rs) h =
      let k = one (get_or last r None) h.0 in
      rw k.1 (ap suc (as_many last rs h.1))

  -- no slots
  pub none_known : (last : List (Option K)) (slots : List ℕ) → slots ≡ [] →
      (keys_of last slots ≡ []) × (length (keys_of last slots) ≡ length slots)
      × AllByRecursion (λ r. is_some (get_or last r None) ≡ true) slots
  unfolding keys_of
  none_known last slots e = rw e (refl, refl, tt)

  -- the key at an index is that of the slot at this index
  pub key_at : (last : List (Option K)) (slots : List ℕ) (index : ℕ) (k d : K) →
      AllByRecursion (λ slot. is_some (get_or last slot None) ≡ true) slots → index < length slots →
      get_or last (get_or slots index 0) None ≡ Some k → k ≡ get_or (keys_of last slots) index d
  unfolding keys_of
  key_at last [] index k d h l e = absurd (omega arith)
  key_at last (r ∷ rs) zero k d h l e = rw e refl
  key_at last (r ∷ rs) (suc index) k d h l e =
      let j = one (get_or last r None) h.0 in
      rw j.1 (key_at last rs index k d h.1 (omega arith) e)

  -- the keys stay if that of another slot is written
  same_keys : (last : List (Option K)) (slots : List ℕ) (slot : ℕ) (k : K) →
      ((index : ℕ) → index < length slots → get_or slots index 0 ≡ slot → ⊥) →
      keys_of (set last slot (Some k)) slots ≡ keys_of last slots
  unfolding keys_of
  same_keys last [] slot k h = refl
  same_keys last (r ∷ rs) slot k h =
      let e = get_or-set_other last slot r (Some k) None (h 0 (omega arith)) in
      rw e (ap (λ l. option_to_list (get_or last r None) ++ l)
      (same_keys last rs slot k (λ index l. h (suc index) (omega arith))))

  -- after a key was added
  pub keys_insert : (last : List (Option K)) (slots : List ℕ) (index slot : ℕ) (k : K) →
      AllByRecursion (λ slot. is_some (get_or last slot None) ≡ true) slots →
      slot < length last → index ≤ length slots →
      ((index : ℕ) → index < length slots → get_or slots index 0 ≡ slot → ⊥) →
      keys_of (set last slot (Some k)) (insert slots index slot)
      ≡ insert (keys_of last slots) index k
  unfolding keys_of
  keys_insert last slots zero slot k h b l f =
      let e = get_or-set_same last slot (Some k) None b in
      rw e (ap (λ l. k ∷ l) (same_keys last slots slot k f))
  keys_insert last [] (suc index) slot k h b l f = absurd (omega arith)
  keys_insert last (r ∷ rs) (suc index) slot k h b l f =
      let j = one (get_or last r None) h.0 in
      let e = get_or-set_other last slot r (Some k) None (f 0 (omega arith)) in
      rw e (rw j.1 (ap (λ l. j.0 ∷ l) (keys_insert last rs index slot k h.1 b (omega arith)
      (λ index l. f (suc index) (omega arith)))))

  -- after a key was removed
  pub keys_remove : (last : List (Option K)) (slots : List ℕ) (index : ℕ) →
      AllByRecursion (λ slot. is_some (get_or last slot None) ≡ true) slots →
      keys_of last (remove slots index) ≡ remove (keys_of last slots) index
  unfolding keys_of
  keys_remove last [] zero h = refl
  keys_remove last [] (suc index) h = refl
  keys_remove last (r ∷ rs) zero h =
      let j = one (get_or last r None) h.0 in rw j.1 refl
  keys_remove last (r ∷ rs) (suc index) h =
      let j = one (get_or last r None) h.0 in
      rw j.1 (ap (λ l. j.0 ∷ l) (keys_remove last rs index h.1))

  known_set : (last : List (Option K)) (slot r : ℕ) (k : K) → slot < length last →
      is_some (get_or last r None) ≡ true →
      is_some (get_or (set last slot (Some k)) r None) ≡ true
  known_set last slot r k b h =
      elim (cases_eq r slot) [
        | inl e ↦ ap is_some (ap (λ n. get_or (set last slot (Some k)) n None) e
            ∙ get_or-set_same last slot (Some k) None b)
        | inr n ↦ ap is_some (get_or-set_other last slot r (Some k) None n) ∙ h
      ]

  all_set : (last : List (Option K)) (slots : List ℕ) (slot : ℕ) (k : K) → slot < length last →
      AllByRecursion (λ r. is_some (get_or last r None) ≡ true) slots →
      AllByRecursion (λ r. is_some (get_or (set last slot (Some k)) r None) ≡ true) slots
  all_set last [] slot k b h = tt
  all_set last (r ∷ rs) slot k b h = (known_set last slot r k b h.0, all_set last rs slot k b h.1)

  -- the slots have keys after one was added or removed
  pub known_insert : (last : List (Option K)) (slots : List ℕ) (index slot : ℕ) (k : K) →
      AllByRecursion (λ r. is_some (get_or last r None) ≡ true) slots → slot < length last →
      AllByRecursion (λ r. is_some (get_or (set last slot (Some k)) r None) ≡ true)
      (insert slots index slot)
  known_insert last slots zero slot k h b =
      (ap is_some (get_or-set_same last slot (Some k) None b), all_set last slots slot k b h)
  known_insert last [] (suc index) slot k h b =
      (ap is_some (get_or-set_same last slot (Some k) None b), tt)
  known_insert last (r ∷ rs) (suc index) slot k h b =
      (known_set last slot r k b h.0, known_insert last rs index slot k h.1 b)

  pub known_remove : (last : List (Option K)) (slots : List ℕ) (index : ℕ) →
      AllByRecursion (λ r. is_some (get_or last r None) ≡ true) slots →
      AllByRecursion (λ r. is_some (get_or last r None) ≡ true) (remove slots index)
  known_remove last [] zero h = tt
  known_remove last [] (suc index) h = tt
  known_remove last (r ∷ rs) zero h = h.1
  known_remove last (r ∷ rs) (suc index) h = (h.0, known_remove last rs index h.1)

  -- a slot in the order has a key
  pub known_at : (last : List (Option K)) (slots : List ℕ) (index : ℕ) →
      AllByRecursion (λ r. is_some (get_or last r None) ≡ true) slots → index < length slots →
      (get_or slots index 0 < length last)
      × (is_some (get_or last (get_or slots index 0) None) ≡ true)
  known_at last slots index h l =
      let s = All-from_recursion (λ r. is_some (get_or last r None) ≡ true) slots h index 0 l in (
        elim (cases_lt (get_or slots index 0) (length last)) [
          | inl b ↦ b
          | inr g ↦ absurd (true≢false (sym s
              ∙ ap is_some (get_or_past last (get_or slots index 0) None g)))
        ],
        s,
      )

-- ---- What is left to search in a binary search.

low_end : (o : Ordering) → ordering_index o ≤ 0 → o ≡ Less
low_end o h = grind (arith, h)

high_end : (o : Ordering) → 2 ≤ ordering_index o → o ≡ Greater
high_end o h = grind (arith, h)

module _ {X : Type 0} (ord : X → Ordering) (xs : List X) where
  -- if the answers ascend, all keys before `low` are less, and all from `high` on are greater
  pub record IsLeft (low high : ℕ) : Type 0 where
    pub less : IsNonDecreasingBy (λ y. ordering_index (ord y)) xs →
        AllWithin (λ y. ord y ≡ Less) xs 0 low
    pub greater : IsNonDecreasingBy (λ y. ordering_index (ord y)) xs →
        AllWithin (λ y. ord y ≡ Greater) xs high (length xs)

  pub less_left : (low high middle : ℕ) → middle < length xs → IsLeft low high →
      ((d : X) → ord (get_or xs middle d) ≡ Less) → IsLeft (middle + 1) high
  less_left low high middle l h e = record {
    less = λ up k d a b. low_end _ (subst (λ o. ordering_index (ord (get_or xs k d))
        ≤ ordering_index o) (e d) (up k middle d (omega arith) l));
    greater = h.greater;
  }

  pub greater_left : (low high middle : ℕ) → IsLeft low high →
      ((d : X) → ord (get_or xs middle d) ≡ Greater) → IsLeft low middle
  greater_left low high middle h e = record {
    less = h.less;
    greater = λ up k d a b. high_end _ (subst (λ o. ordering_index o
        ≤ ordering_index (ord (get_or xs k d))) (e d) (up middle k d a b));
  }
