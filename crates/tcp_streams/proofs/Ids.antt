-- The flows of the live streams have ids, and no id comes twice, so there is room for them.
use Rattle.std.proofs.Common.{◌≡◌, ℕ, ◌<◌, ◌≤◌, true, false, eqb, nat_eq, nat_lt, List, [], ◌∷◌, ◌++◌, length, sym, arith, inl, inr, length-append}
use Rattle.std.specs.List.{AllByRecursion, IsDistinct, list_any}
use Rattle.std.proofs.lemmas.Bool.{cond_both, eqb-true, eqb-false, ne_eqb, or_cases, ltb-true}
use Rattle.std.proofs.lemmas.List.Elements.{All-from_recursion, recursion_from_All, All-push}
use Rattle.std.proofs.lemmas.Map.Steps.{length-le_from_distinct_below}
use Rattle.tcp_flow.specs.declared.flow.CloseCause.{CloseCause}
use Rattle.tcp_flow.specs.declared.flow.CloseCause.TheVariants.{Fin, Reset, Syn, Fault, Gap, Room, End}
use Rattle.tcp_streams.specs.Lives.{without, with_begun, with_closed, most_ids, AreIds}

eqb_comm_false : (m n : ℕ) → eqb m n ≡ false → eqb n m ≡ false
eqb_comm_false m n h = ne_eqb n m (λ e. eqb-false m n h (sym e))

pub push_all : (P : ℕ → Type 0) (xs : List ℕ) (x : ℕ) → AllByRecursion P xs → P x →
    AllByRecursion P (xs ++ x ∷ [])
push_all P xs x h p =
    recursion_from_All P (xs ++ x ∷ []) (All-push P xs x (All-from_recursion P xs h) p)

pub all_without : (P : ℕ → Type 0) (n : ℕ) (xs : List ℕ) → AllByRecursion P xs →
    AllByRecursion P (without n xs)
unfolding without
all_without P n [] h = tt
all_without P n (x ∷ xs) h = cond_both (nat_eq x n) xs (x ∷ without n xs) (AllByRecursion P)
    (λ e. h.1) (λ e. (h.0, all_without P n xs h.1))

pub distinct_without : (n : ℕ) (xs : List ℕ) → IsDistinct eqb xs → IsDistinct eqb (without n xs)
unfolding without IsDistinct
distinct_without n [] h = tt
distinct_without n (x ∷ xs) h = cond_both (nat_eq x n) xs (x ∷ without n xs) (IsDistinct eqb)
    (λ e. h.1) (λ e. (all_without (λ y. eqb x y ≡ false) n xs h.0, distinct_without n xs h.1))

-- if the ids differ, an id that is taken away isn't among the others
pub none_left : (n : ℕ) (xs : List ℕ) → IsDistinct eqb xs →
    AllByRecursion (λ y. eqb n y ≡ false) (without n xs)
unfolding without IsDistinct
none_left n [] h = tt
none_left n (x ∷ xs) h =
    cond_both (nat_eq x n) xs (x ∷ without n xs) (AllByRecursion (λ y. eqb n y ≡ false))
    (λ e. rw (eqb-true x n e) at h.0) (λ e. (eqb_comm_false x n e, none_left n xs h.1))

pub distinct_push : (xs : List ℕ) (x : ℕ) → IsDistinct eqb xs →
    AllByRecursion (λ y. eqb x y ≡ false) xs → IsDistinct eqb (xs ++ x ∷ [])
unfolding IsDistinct
distinct_push [] x h a = (tt, tt)
distinct_push (y ∷ ys) x h a = (
  push_all (λ z. eqb y z ≡ false) ys x h.0 (eqb_comm_false x y a.0),
  distinct_push ys x h.1 a.1,
)

below_any : (n : ℕ) (xs : List ℕ) (q : ℕ) → AllByRecursion (λ x. x < n) xs →
    list_any (eqb q) xs ≡ true → q < n
below_any n [] q h e = cc
below_any n (x ∷ xs) q h e =
    elim (or_cases (eqb q x) (list_any (eqb q) xs) e) [
      | inl a ↦ omega (arith, eqb-true q x a)
      | inr a ↦ below_any n xs q h.1 a
    ]

pub without_ids : (id : ℕ) (xs : List ℕ) → AreIds xs → AreIds (without id xs)
without_ids id xs h = (all_without (λ x. x < most_ids) id xs h.0, distinct_without id xs h.1)

-- the same after an id was taken away and was added at the end again
again_ids : (id : ℕ) (xs : List ℕ) → id < most_ids → AreIds xs →
    AreIds (without id xs ++ id ∷ [])
again_ids id xs l h =
    let rest = without_ids id xs h in (
      push_all (λ x. x < most_ids) (without id xs) id rest.0 l,
      distinct_push (without id xs) id rest.1 (none_left id xs h.1),
    )

pub begun_ids : (id : ℕ) (xs : List ℕ) → AreIds xs → AreIds (with_begun id xs)
unfolding with_begun
begun_ids id xs h = cond_both (nat_lt id most_ids) (without id xs ++ id ∷ []) xs AreIds
    (λ e. again_ids id xs (ltb-true id most_ids e) h) (λ e. h)

-- there is room for one more id after the flow's own was taken away
pub fewer_ids : (id : ℕ) (xs : List ℕ) → id < most_ids → AreIds xs →
    length (without id xs) < most_ids
fewer_ids id xs l h =
    let again : AreIds (without id xs ++ id ∷ []) = again_ids id xs l h in
    let all : length (without id xs ++ id ∷ []) ≤ most_ids =
    length-le_from_distinct_below (without id xs ++ id ∷ []) most_ids again.1
    (λ q e. below_any most_ids (without id xs ++ id ∷ []) q again.0 e) in
    omega (arith, length-append (without id xs) (id ∷ []))

pub none_ids : AreIds []
unfolding IsDistinct
none_ids = (tt, tt)

-- the same after a close
pub ended_ids : (id : ℕ) (cause : CloseCause) (live : List ℕ) → AreIds live →
    AreIds (with_closed id cause live)
ended_ids id Gap live h = h
ended_ids id End live h = h
ended_ids id Fin live h = without_ids id live h
ended_ids id Reset live h = without_ids id live h
ended_ids id Syn live h = without_ids id live h
ended_ids id Fault live h = without_ids id live h
ended_ids id Room live h = without_ids id live h
