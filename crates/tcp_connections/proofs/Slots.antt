-- A slot that isn't free is that of a known connection.
use Rattle.std.proofs.Common.{◌≡◌, ℕ, Bool, zero, suc, ◌+◌, ◌*◌, ◌<◌, ◌≤◌, true, cond, nat_eq, List, [], ◌∷◌, ◌++◌, length, get_or, ◌||◌, Option, Some, None, is_some, unwrap_or, refl, sym, ◌∙◌, ap, subst, arith, inl, inr, length-append}
use Rattle.std.proofs.lemmas.Bool.{cases_Bool, cases_eq, cases_lt, eqb-true, eq-eqb, or_cases, true≢false}
use Rattle.std.proofs.lemmas.List.{get_or_past}
use Rattle.tcp_flow.specs.declared.flow.FlowState.{FlowState}
use Rattle.tcp_streams.specs.Lives.{without}
use Rattle.tcp_streams.specs.Pairs.{compare_pairs}
use Rattle.tcp_streams.specs.declared.pair.EndpointPair.{EndpointPair}
use Rattle.tcp_segment.specs.Segments.{Segment}
use Rattle.tcp_flow.specs.Flow.{Event, Reader}
use Rattle.tcp_connections.specs.declared.connections.Connections.{Connections}
use Rattle.tcp_connections.specs.Connections.{State, flow_at, with_segment, acknowledgement_heard, payload_taken, fin_taken}
use Rattle.tcp_connections.specs.Known.{IsKnown}
use Rattle.tcp_connections.specs.State.{IsSound, state_of, times}
use Rattle.tcp_connections.proofs.Kept.{acknowledgement_kept, payload_kept, fin_kept}
use Rattle.tcp_connections.proofs.Living.{times_without}
use Rattle.tcp_connections.proofs.Search.{found, same_pair}

-- ---- Lists in which each number is once.

gone_once : (n : ℕ) (xs : List ℕ) → times n xs ≤ 1 → times n (without n xs) ≡ 0
unfolding times without
gone_once n [] h = refl
gone_once n (x ∷ xs) h = grind (arith, h, gone_once n xs)

one_less : (n : ℕ) (xs : List ℕ) → length xs ≤ suc (length (without n xs))
unfolding without
one_less n [] = omega arith
one_less n (x ∷ xs) = grind (arith, one_less n xs)

-- of numbers below n there are at most n
few : (n : ℕ) (xs : List ℕ) → ((x : ℕ) → times x xs ≤ 1) → ((x : ℕ) → 0 < times x xs → x < n) →
    length xs ≤ n
unfolding times
few zero [] once below = omega arith
few zero (x ∷ xs) once below = absurd (let own : nat_eq x x ≡ true = eq-eqb x x refl in
    let some : ◌≡◌ {A = ℕ} (cond (nat_eq x x) 1 0) 1 = rw own refl in
    omega (arith, below x (omega (arith, some))))
few (suc n) xs once below =
    let less = few n (without n xs) each under in omega (arith, less, one_less n xs)
  where
    each : (x : ℕ) → times x (without n xs) ≤ 1
    each x = elim (cases_eq x n) [
      | inl e ↦ rw e (omega (arith, gone_once n xs (once n)))
      | inr ne ↦ omega (arith, times_without n x xs ne, once x)
    ]

    under : (x : ℕ) → 0 < times x (without n xs) → x < n
    under x l = elim (cases_eq x n) [
      | inl e ↦ absurd (let none : times x (without n xs) ≡ 0 =
          ap (λ (k : ℕ). times k (without n xs)) e ∙ gone_once n xs (once n) in
          omega (arith, l, none))
      | inr ne ↦ (let b = below x (omega (arith, l, times_without n x xs ne)) in
          omega (arith, b, ne))
    ]

times_all : (n : ℕ) (xs ys : List ℕ) → times n (xs ++ ys) ≡ times n xs + times n ys
unfolding times
times_all n [] ys = omega arith
times_all n (x ∷ xs) ys = omega (arith, times_all n xs ys)

-- the index of a number that is in a list
stands : (n : ℕ) (xs : List ℕ) → 0 < times n xs →
    (i : ℕ) × ((i < length xs) × (get_or xs i 0 ≡ n))
unfolding times
stands n [] l = absurd (omega (arith, l))
stands n (x ∷ xs) l =
    elim (cases_Bool (nat_eq x n)) [
      | inl e ↦ (0, (omega arith, eqb-true x n e))
      | inr e ↦
          (let none : ◌≡◌ {A = ℕ} (cond (nat_eq x n) 1 0) 0 = rw e refl in
          let i = stands n xs (omega (arith, l, none)) in
          (suc i.0, (omega (arith, i.1.0), i.1.1)))
    ]

-- ---- Slots.

-- each slot is free or taken
crowded : (w : State) (slot : ℕ) → IsSound w → slot < length w.lasts → times slot w.free ≡ 0 →
    times slot w.slots ≡ 0 → ⊥
unfolding times
crowded w slot h l free slots =
    let less = few (length w.lasts) (slot ∷ w.slots ++ w.free) each under in
    omega (arith, less, length-append w.slots w.free, h.all, h.pairs)
  where
    each : (x : ℕ) → times x (slot ∷ w.slots ++ w.free) ≤ 1
    each x = elim (cases_Bool (nat_eq slot x)) [
      | inl e ↦
          (let one : ◌≡◌ {A = ℕ} (cond (nat_eq slot x) 1 0) 1 = rw e refl in
          let same : slot ≡ x = eqb-true slot x e in
          let f : times x w.free ≡ 0 = subst (λ (k : ℕ). times k w.free ≡ 0) same free in
          let r : times x w.slots ≡ 0 = subst (λ (k : ℕ). times k w.slots ≡ 0) same slots in
          omega (arith, one, times_all x w.slots w.free, f, r))
      | inr e ↦
          (let none : ◌≡◌ {A = ℕ} (cond (nat_eq slot x) 1 0) 0 = rw e refl in
          omega (arith, none, times_all x w.slots w.free, h.once x))
    ]

    under : (x : ℕ) → 0 < times x (slot ∷ w.slots ++ w.free) → x < length w.lasts
    under x t = elim (cases_Bool (nat_eq slot x)) [
      | inl e ↦ omega (arith, l, eqb-true slot x e)
      | inr e ↦
          (let none : ◌≡◌ {A = ℕ} (cond (nat_eq slot x) 1 0) 0 = rw e refl in
          h.below x (omega (arith, t, none, times_all x w.slots w.free)))
    ]

-- a slot that isn't free is taken
taken : (w : State) (slot : ℕ) → IsSound w → slot < length w.lasts →
    (0 < times slot w.free → ⊥) → 0 < times slot w.slots
taken w slot h l free =
    let none : times slot w.free ≡ 0 = elim (cases_lt 0 (times slot w.free)) [
      | inl some ↦ absurd (free some)
      | inr over ↦ omega (arith, over)
    ] in
    elim (cases_lt 0 (times slot w.slots)) [
      | inl some ↦ some
      | inr over ↦ absurd (crowded w slot h l none (omega (arith, over)))
    ]

-- indices are equal if `Some` of them are
pub same_index : (m n : ℕ) → Some m ≡ Some n → m ≡ n
same_index m n e = ap (λ (o : Option ℕ). unwrap_or o m) e

inside : (flows : List (Option FlowState)) (id : ℕ) → is_some (get_or flows id None) ≡ true →
    id < length flows
inside flows id e =
    elim (cases_lt id (length flows)) [
      | inl l ↦ l
      | inr g ↦ absurd (true≢false (sym e ∙ ap is_some (get_or_past flows id None g)))
    ]

-- a flow of a slot has begun, so the slot is that of a connection, whose pair had it last
pub known_slot : (w : State) (pair : EndpointPair) (slot : ℕ) → IsSound w →
    (is_some (flow_at w (2 * slot)) || is_some (flow_at w (2 * slot + 1))) ≡ true →
    ((index : ℕ) (d : EndpointPair) → index < length w.slots → get_or w.slots index 0 ≡ slot →
    get_or w.known index d ≡ pair) → (index : ℕ) × IsKnown w.known w.slots pair slot index
known_slot w pair slot h begun last =
    let lesser : Bool = is_some (flow_at w (2 * slot)) in
    let greater : Bool = is_some (flow_at w (2 * slot + 1)) in
    let free : 0 < times slot w.free → ⊥ =
    λ m. elim (or_cases lesser greater begun) [
      | inl e ↦ true≢false (sym e ∙ ap is_some (h.freed slot m).0)
      | inr e ↦ true≢false (sym e ∙ ap is_some (h.freed slot m).1)
    ] in
    let low : slot < length w.lasts = elim (or_cases lesser greater begun) [
      | inl e ↦ omega (arith, h.flows, inside w.flows (2 * slot) e)
      | inr e ↦ omega (arith, h.flows, inside w.flows (2 * slot + 1) e)
    ] in
    let i = stands slot w.slots (taken w slot h low free) in
    let within : i.0 < length w.known = omega (arith, i.1.0, h.pairs) in (
      i.0,
      record {
        within = within;
        found = found pair w.known i.0 h.order within
            (λ d. ap (λ (k : EndpointPair). compare_pairs k pair) (last i.0 d i.1.0 i.1.1)
            ∙ same_pair pair);
        slot_is = i.1.1;
      },
    )

-- ---- The connections stay while a segment of one of them is taken, up to its RST.

pub known_on : (known known' : List EndpointPair) (slots slots' : List ℕ) (pair : EndpointPair)
    (slot index : ℕ) → known' ≡ known → slots' ≡ slots → IsKnown known slots pair slot index →
    IsKnown known' slots' pair slot index
known_on known known' slots slots' pair slot index e f h =
    subst (λ (ks : List EndpointPair). IsKnown ks slots' pair slot index) (sym e)
    (subst (λ (rs : List ℕ). IsKnown known rs pair slot index) (sym f) h)

pub known_before : (F : Reader) (w : State) (slot id other : ℕ) (s : Segment)
    (c c' : Connections) (es es' : List Event) (pair : EndpointPair) (index : ℕ) →
    state_of c es ≡ w → state_of c' es' ≡ fin_taken F (payload_taken F
    (acknowledgement_heard F (with_segment w slot id) other s) id s) id s →
    IsKnown c.table.keys c.table.slots pair slot index →
    IsKnown c'.table.keys c'.table.slots pair slot index
known_before F w slot id other s c c' es es' pair index e e' h =
    let seen : State = with_segment w slot id in
    let told : State = acknowledgement_heard F seen other s in
    let paid : State = payload_taken F told id s in
    let heard = acknowledgement_kept F seen other s in
    let took = payload_kept F told id s in
    let ends = fin_kept F paid id s in
    known_on c.table.keys c'.table.keys c.table.slots c'.table.slots pair slot index
    (ap (λ (u : State). u.known) e' ∙ ends.known ∙ took.known ∙ heard.known
    ∙ sym (ap (λ (u : State). u.known) e))
    (ap (λ (u : State). u.slots) e' ∙ ends.slots ∙ took.slots ∙ heard.slots
    ∙ sym (ap (λ (u : State). u.slots) e)) h
