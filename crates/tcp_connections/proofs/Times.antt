-- How often a slot is in a list, after each change of the list.
use Rattle.std.proofs.Common.{◌≡◌, ℕ, zero, suc, ◌+◌, ◌-◌, ◌<◌, ◌≤◌, cond, nat_eq, List, [], ◌∷◌, ◌++◌, length, take, get_or, replicate, Option, None, true, refl, ap, subst, arith, inl, inr, length-append}
use Rattle.std.specs.List.{insert, remove}
use Rattle.std.proofs.lemmas.Bool.{cases_Bool, cases_lt, eqb-true, eq-eqb}
use Rattle.tcp_flow.specs.declared.flow.FlowState.{FlowState}
use Rattle.tcp_slots.specs.Slots.{slots_below}
use Rattle.tcp_connections.specs.Connections.{next_slot, rest_of_slots}
use Rattle.tcp_connections.specs.State.{times}

pub times_insert : (n : ℕ) (xs : List ℕ) (i y : ℕ) →
    times n (insert xs i y) ≡ cond (nat_eq y n) 1 0 + times n xs
unfolding times
times_insert n [] zero y = refl
times_insert n [] (suc i) y = refl
times_insert n (x ∷ xs) zero y = refl
times_insert n (x ∷ xs) (suc i) y = omega (arith, times_insert n xs i y)

pub times_remove : (n : ℕ) (xs : List ℕ) (i : ℕ) → i < length xs →
    times n (remove xs i) + cond (nat_eq (get_or xs i 0) n) 1 0 ≡ times n xs
unfolding times
times_remove n [] i l = absurd (omega (arith, l))
times_remove n (x ∷ xs) zero l = omega arith
times_remove n (x ∷ xs) (suc i) l = omega (arith, times_remove n xs i (omega (arith, l)))

pub times_last : (n : ℕ) (xs : List ℕ) (x : ℕ) →
    times n (xs ++ x ∷ []) ≡ times n xs + cond (nat_eq x n) 1 0
unfolding times
times_last n [] x = omega arith
times_last n (y ∷ ys) x = omega (arith, times_last n ys x)

pub times_own : (n : ℕ) → ◌≡◌ {A = ℕ} (cond (nat_eq n n) 1 0) 1
times_own n = rw (eq-eqb n n refl) refl

pub times_at : (xs : List ℕ) (i : ℕ) → i < length xs → 0 < times (get_or xs i 0) xs
unfolding times
times_at [] i l = absurd (omega (arith, l))
times_at (x ∷ xs) zero l = omega (arith, times_own x)
times_at (x ∷ xs) (suc i) l = omega (arith, times_at xs i (omega (arith, l)))

-- what is at two places of a list is there twice
pub times_both : (xs : List ℕ) (i j : ℕ) → i < length xs → j < length xs → (i ≡ j → ⊥) →
    get_or xs i 0 ≡ get_or xs j 0 → 2 ≤ times (get_or xs j 0) xs
unfolding times
times_both [] i j k l ne e = absurd (omega (arith, k))
times_both (x ∷ xs) zero zero k l ne e = absurd (ne refl)
times_both (x ∷ xs) zero (suc j) k l ne e =
    let own : nat_eq x (get_or xs j 0) ≡ true = eq-eqb x (get_or xs j 0) e in
    let one : ◌≡◌ {A = ℕ} (cond (nat_eq x (get_or xs j 0)) 1 0) 1 = rw own refl in
    omega (arith, one, times_at xs j (omega (arith, l)))
times_both (x ∷ xs) (suc i) zero k l ne e =
    let rest : 0 < times x xs =
    subst (λ (n : ℕ). 0 < times n xs) e (times_at xs i (omega (arith, k))) in
    omega (arith, times_own x, rest)
times_both (x ∷ xs) (suc i) (suc j) k l ne e =
    let rest = times_both xs i j (omega (arith, k)) (omega (arith, l)) (λ o. ne (ap suc o)) e in
    omega (arith, rest)

-- the slot that is taken next, and the others

last_at : (xs : List ℕ) (x : ℕ) → get_or (xs ++ x ∷ []) (length xs) 0 ≡ x
last_at [] x = refl
last_at (y ∷ ys) x = last_at ys x

take_all_but : (xs : List ℕ) (x : ℕ) → take (length xs) (xs ++ x ∷ []) ≡ xs
take_all_but [] x = refl
take_all_but (y ∷ ys) x = ap (λ (zs : List ℕ). y ∷ zs) (take_all_but ys x)

one_less : (xs : List ℕ) (x : ℕ) → length (xs ++ x ∷ []) - 1 ≡ length xs
one_less xs x = omega (arith, length-append xs (x ∷ []))

pub next_is : (xs : List ℕ) (x : ℕ) → next_slot (xs ++ x ∷ []) ≡ x
unfolding next_slot
next_is xs x = rw (one_less xs x) (last_at xs x)

pub rest_is : (xs : List ℕ) (x : ℕ) → rest_of_slots (xs ++ x ∷ []) ≡ xs
unfolding rest_of_slots
rest_is xs x = rw (one_less xs x) (take_all_but xs x)

-- if all slots are free

pub all_below : (m n : ℕ) → (times n (slots_below m) ≤ 1) × (0 < times n (slots_below m) → n < m)
unfolding times slots_below
all_below zero n = (omega arith, λ l. absurd (omega (arith, l)))
all_below (suc m) n =
    let h = all_below m n in
    let e : times n (slots_below m ++ m ∷ []) ≡ times n (slots_below m) + cond (nat_eq m n) 1 0 =
    times_last n (slots_below m) m in
    elim (cases_Bool (nat_eq m n)) [
      | inl b ↦
          (let own : m ≡ n = eqb-true m n b in
          let one : ◌≡◌ {A = ℕ} (cond (nat_eq m n) 1 0) 1 = rw b refl in
          let none : times n (slots_below m) ≤ 0 = rest_none h own in
          (omega (arith, e, one, none), λ l. omega (arith, own)))
      | inr b ↦
          (let one : ◌≡◌ {A = ℕ} (cond (nat_eq m n) 1 0) 0 = rw b refl in (
            omega (arith, e, one, h.0),
            λ l. (let k : 0 < times n (slots_below m) =
                omega (arith, l, e, one) in let z : n < m = h.1 k in omega (arith, z)),
          ))
    ]
  where
    rest_none : {m n : ℕ} → (times n (slots_below m) ≤ 1) × (0 < times n (slots_below m) → n < m) →
        m ≡ n → times n (slots_below m) ≤ 0
    rest_none {m} {n} h own =
        elim (cases_lt 0 (times n (slots_below m))) [
          | inl l ↦ absurd (let z : n < m = h.1 l in omega (arith, z, own))
          | inr g ↦ g
        ]

pub slots_length : (m : ℕ) → length (slots_below m) ≡ m
unfolding slots_below
slots_length zero = refl
slots_length (suc m) = omega (arith, length-append (slots_below m) (m ∷ []), slots_length m)

abbrev pub no_flow : Option FlowState
no_flow = None

pub none_there : (n i : ℕ) → get_or (replicate n no_flow) i None ≡ None
none_there zero i = refl
none_there (suc n) zero = refl
none_there (suc n) (suc i) = none_there n i
