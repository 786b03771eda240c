-- Which payload that a flow holds is the first one, as the number that is due moves on.
use Rattle.std.proofs.Common.{◌≡◌, ℕ, zero, suc, ◌^◌, ◌<◌, ◌≤◌, Bool, true, false, cond, nat_eq, nat_lt, ◌||◌, List, [], ◌∷◌, length, get_or, Option, Some, None, is_some, IfSome, refl, sym, subst, arith, inl, inr}
use Rattle.std.specs.Option.{option_map}
use Rattle.std.proofs.lemmas.Bool.{cases_lt, and_parts, ltb-true, lt-ltb, le-ltb, true≢false, eqb-false, cases_Bool}
use Rattle.std.proofs.lemmas.List.{get_or_default}
use Rattle.tcp_waiting.specs.Numbers.{is_to_come, rank}
use Rattle.tcp_waiting.specs.Payload.{Payload, no_payload, oldest_with, oldest_index}
use Rattle.tcp_waiting.proofs.Order.{first_within}
use Rattle.tcp_flow.specs.Laws.{AreLater}

earlier_some : (next : ℕ) (p : Payload) (ps : List Payload) (r : Option ℕ) →
    is_some (oldest_with next p ps r) ≡ true
unfolding oldest_with
earlier_some next p ps None = refl
earlier_some next p ps (Some k) = search (arith, nat_lt, get_or, is_some, cond)

map_some : (r : Option ℕ) → is_some (option_map suc r) ≡ is_some r
map_some None = refl
map_some (Some k) = refl

some_by : (c : Bool) (next : ℕ) (p : Payload) (ps : List Payload) (r : Option ℕ) →
    is_some (cond c (oldest_with next p ps r) (option_map suc r)) ≡ (c || is_some r)
some_by true next p ps r = earlier_some next p ps r
some_by false next p ps r = map_some r

pub first_some : (id next : ℕ) (p : Payload) (ps : List Payload) →
    is_some (oldest_index id next (p ∷ ps)) ≡
    (nat_eq p.flow id || is_some (oldest_index id next ps))
unfolding oldest_index
first_some id next p ps = search (arith, some_by, nat_eq)

-- a rank below that of the first is below those of all
later_by : (id next n : ℕ) (p : Payload) (ps : List Payload) (c : Bool) (r : Option ℕ) →
    nat_eq p.flow id ≡ c → oldest_index id next ps ≡ r
    → (IfSome (oldest_index id next ps) (λ i. n < rank next (get_or ps i no_payload).number) →
    AreLater id next n ps)
    → IfSome (cond c (oldest_with next p ps r) (option_map suc r))
    (λ i. n < rank next (get_or (p ∷ ps) i no_payload).number)
    → AreLater id next n (p ∷ ps)
unfolding AreLater oldest_with
later_by id next n p ps true None e f rest h = ((λ x. h), rest (rw f tt))
later_by id next n p ps true (Some k) e f rest h =
    let within : k < length ps = rw f at (first_within id next ps) in
    let same : get_or ps k p ≡ get_or ps k no_payload =
    get_or_default ps k p no_payload within in
    elim (cases_lt (rank next (get_or ps k p).number) (rank next p.number)) [
      | inl l ↦
          (let t : nat_lt (rank next (get_or ps k p).number) (rank next p.number) ≡ true =
          lt-ltb (rank next (get_or ps k p).number) (rank next p.number) l in
          let m : n < rank next (get_or ps k no_payload).number = rw t at h in
          let o : rank next (get_or ps k no_payload).number < rank next p.number =
          rw same at l in
          ((λ x. omega arith), rest (rw f m)))
      | inr g ↦
          (let t : nat_lt (rank next (get_or ps k p).number) (rank next p.number) ≡ false =
          le-ltb (rank next (get_or ps k p).number) (rank next p.number) g in
          let m : n < rank next p.number = rw t at h in
          let o : rank next p.number ≤ rank next (get_or ps k no_payload).number =
          rw same at g in
          let u : n < rank next (get_or ps k no_payload).number = omega arith in
          ((λ x. m), rest (rw f u)))
    ]
later_by id next n p ps false None e f rest h = search (arith, eqb-false)
later_by id next n p ps false (Some k) e f rest h = search (arith, eqb-false)

pub later_least : (id next n : ℕ) (ps : List Payload) →
    IfSome (oldest_index id next ps) (λ i. n < rank next (get_or ps i no_payload).number) →
    AreLater id next n ps
unfolding AreLater oldest_index
later_least id next n [] h = tt
later_least id next n (p ∷ ps) h = later_by id next n p ps (nat_eq p.flow id)
    (oldest_index id next ps)
    refl refl (later_least id next n ps) h

later_at : (id next n : ℕ) (ps : List Payload) (i : ℕ) → AreLater id next n ps → i < length ps →
    (get_or ps i no_payload).flow ≡ id → n < rank next (get_or ps i no_payload).number
unfolding AreLater
later_at id next n [] i h l own = absurd (omega (arith, l))
later_at id next n (p ∷ ps) zero h l own = h.0 own
later_at id next n (p ∷ ps) (suc i) h l own = later_at id next n ps i h.1 (omega (arith, l)) own

-- no payload is older than the first one
pub first_least : (id next : ℕ) (ps : List Payload) (i j : ℕ) → oldest_index id next ps ≡ Some j →
    i < length ps → (get_or ps i no_payload).flow ≡ id →
    rank next (get_or ps j no_payload).number ≤ rank next (get_or ps i no_payload).number
first_least id next ps i j e l own =
    let n : ℕ = rank next (get_or ps i no_payload).number in
    elim (cases_lt n (rank next (get_or ps j no_payload).number)) [
      | inl less ↦ absurd (let more : n < n = later_at id next n ps i (later_least id next n ps
          (subst (λ (o : Option ℕ). IfSome o
          (λ k. n < rank next (get_or ps k no_payload).number)) (sym e) less)) l own in
          omega (arith, more))
      | inr same ↦ same
    ]

-- whether a flow holds something doesn't depend on the number that is due
pub first_anywhere : (id a b : ℕ) (ps : List Payload) →
    is_some (oldest_index id a ps) ≡ is_some (oldest_index id b ps)
unfolding oldest_index
first_anywhere id a b [] = refl
first_anywhere id a b (p ∷ ps) = search (arith, first_some, nat_eq, first_anywhere id a b ps)

come_late : (next n : ℕ) → is_to_come next n ≡ true → 2 ^ 31 < rank next n
come_late next n h = search (arith, and_parts, nat_lt, ltb-true)

pub come_by_rank : (next n : ℕ) → 2 ^ 31 < rank next n → is_to_come next n ≡ true
come_by_rank next n h = search (arith, lt-ltb)

-- if a payload of a flow isn't to come, the first one isn't
pub first_reached : (id next : ℕ) (ps : List Payload) (i j : ℕ) →
    is_to_come next (get_or ps i no_payload).number ≡ false → i < length ps →
    (get_or ps i no_payload).flow ≡ id → oldest_index id next ps ≡ Some j →
    is_to_come next (get_or ps j no_payload).number ≡ false
first_reached id next ps i j past l own e = search (
  arith,
  cases_Bool,
  get_or,
  come_late,
  first_least,
  true≢false,
  come_by_rank,
)
