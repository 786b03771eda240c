-- The flow that gives up if the pool is short holds something: no flow holds more.
use Rattle.std.proofs.Common.{◌≡◌, ℕ, zero, suc, ◌+◌, ◌/◌, ◌<◌, ◌≤◌, Bool, true, false, cond, nat_eq, nat_lt, List, [], ◌∷◌, length, get_or, Option, Some, None, is_some, refl, ◌∙◌, ap, subst, arith, inl, inr}
use Rattle.std.proofs.lemmas.Bool.{cases_Bool, cases_lt, eqb-true, eq-eqb, ltb-true, ltb-false}
use Rattle.tcp_waiting.specs.Payload.{Payload, oldest_index, blocks_of, count_of, load_of}
use Rattle.tcp_flow.specs.declared.flow.FlowState.{FlowState}
use Rattle.tcp_streams.specs.Lives.{lives}
use Rattle.tcp_connections.specs.Connections.{State, flow_at, stream_start_of, stream_start_at, is_holding, heavier, heaviest_from, heaviest}
use Rattle.tcp_connections.specs.Heaviest.{IsHeaviest}
use Rattle.tcp_connections.specs.State.{IsSound, times}
use Rattle.tcp_connections.proofs.Ending.{idle, none_held, holds_live}
use Rattle.tcp_connections.proofs.Sound.{some_within}

-- ---- What flows hold.

pub none_blocks : (ps : List Payload) → length ps ≤ 0 → blocks_of ps ≡ 0
unfolding blocks_of
none_blocks [] l = refl
none_blocks (p ∷ ps) l = absurd (omega (arith, l))

-- a flow that holds no payload holds no blocks
none_counted : (id : ℕ) (ps : List Payload) → count_of id ps ≡ 0 → load_of id ps ≡ 0
unfolding count_of load_of
none_counted id [] h = refl
none_counted id (p ∷ ps) h = grind (arith, h, none_counted id ps)

-- if blocks are taken, a flow holds some
some_load : (ps : List Payload) → 0 < blocks_of ps → (id : ℕ) × (0 < load_of id ps)
unfolding blocks_of load_of
some_load [] l = absurd (omega (arith, l))
some_load (p ∷ ps) l =
    elim (cases_lt 0 (blocks_of ps)) [
      | inl some ↦ (let i = some_load ps some in (i.0, omega (arith, i.1)))
      | inr none ↦
          (let n : ℕ = (length p.octets + 1023) / 1024 in
          let own : ◌≡◌ {A = ℕ} (cond (nat_eq p.flow p.flow) n 0) n =
          rw (eq-eqb p.flow p.flow refl) refl in
          (p.flow, omega (arith, l, none, own)))
    ]

-- ---- The heaviest of several.

heavier_most : (held : List Payload) (a b : ℕ) →
    (load_of a held ≤ load_of (heavier held a b) held)
    × (load_of b held ≤ load_of (heavier held a b) held)
heavier_most held a b =
    elim (cases_Bool (nat_lt (load_of a held) (load_of b held))) [
      | inl e ↦ rw e (omega (arith, ltb-true (load_of a held) (load_of b held) e), omega arith)
      | inr e ↦ rw e (omega arith, omega (arith, ltb-false (load_of a held) (load_of b held) e))
    ]

from_first : (held : List Payload) (id : ℕ) (ids : List ℕ) →
    load_of id held ≤ load_of (heaviest_from held id ids) held
unfolding heaviest_from
from_first held id [] = omega arith
from_first held id (x ∷ xs) =
    omega (arith, (heavier_most held id x).0, from_first held (heavier held id x) xs)

pub from_each : (held : List Payload) (id : ℕ) (ids : List ℕ) (other : ℕ) → 0 < times other ids →
    load_of other held ≤ load_of (heaviest_from held id ids) held
unfolding heaviest_from times
from_each held id [] other l = absurd (omega (arith, l))
from_each held id (x ∷ xs) other l =
    elim (cases_Bool (nat_eq x other)) [
      | inl e ↦ omega (
        arith,
        (heavier_most held id x).1,
        from_first held (heavier held id x) xs,
        ap {B = ℕ} (λ (n : ℕ). load_of n held) (eqb-true x other e),
      )
      | inr e ↦
          (let none : ◌≡◌ {A = ℕ} (cond (nat_eq x other) 1 0) 0 = rw e refl in
          from_each held (heavier held id x) xs other (omega (arith, l, none)))
    ]

-- the first of several flows that holds the most, after one before them
record IsHeaviestFrom (held : List Payload) (id : ℕ) (ids : List ℕ) (best : ℕ) : Type 0 where
  rank : ℕ
  within : rank < length (id ∷ ids)
  is : best ≡ get_or (id ∷ ids) rank 0
  most : (k : ℕ) → k < length (id ∷ ids) →
      load_of (get_or (id ∷ ids) k 0) held ≤ load_of best held
  first : (k : ℕ) → k < rank → load_of (get_or (id ∷ ids) k 0) held < load_of best held

-- one more flow before the others, which holds less
from_less : (held : List Payload) (id x : ℕ) (xs : List ℕ) (best : ℕ) →
    load_of id held < load_of x held → IsHeaviestFrom held x xs best →
    IsHeaviestFrom held id (x ∷ xs) best
from_less held id x xs best less h =
    let front = h.most 0 (omega arith) in
    record {
      rank = suc h.rank;
      within = omega (arith, h.within);
      is = h.is;
      most = each;
      first = before;
    }
  where
    each : (k : ℕ) → k < length (id ∷ x ∷ xs) →
        load_of (get_or (id ∷ x ∷ xs) k 0) held ≤ load_of best held
    each zero l = omega (arith, less, h.most 0 (omega arith))
    each (suc k) l = h.most k (omega (arith, l))

    before : (k : ℕ) → k < suc h.rank →
        load_of (get_or (id ∷ x ∷ xs) k 0) held < load_of best held
    before zero l = omega (arith, less, h.most 0 (omega arith))
    before (suc k) l = h.first k (omega (arith, l))

-- one more flow in the second place, which holds no more than the first
from_more : (held : List Payload) (id x : ℕ) (xs : List ℕ) (best : ℕ) →
    load_of x held ≤ load_of id held → IsHeaviestFrom held id xs best →
    IsHeaviestFrom held id (x ∷ xs) best
from_more held id x xs best less h = by h.rank h.within h.is h.first
  where
    each : (k : ℕ) → k < length (id ∷ x ∷ xs) →
        load_of (get_or (id ∷ x ∷ xs) k 0) held ≤ load_of best held
    each zero l = h.most 0 (omega arith)
    each (suc zero) l = omega (arith, less, h.most 0 (omega arith))
    each (suc (suc k)) l = h.most (suc k) (omega (arith, l))

    by : (r : ℕ) → r < length (id ∷ xs) → best ≡ get_or (id ∷ xs) r 0 →
        ((k : ℕ) → k < r → load_of (get_or (id ∷ xs) k 0) held < load_of best held) →
        IsHeaviestFrom held id (x ∷ xs) best
    by zero l e f = record {
      rank = 0;
      within = omega arith;
      is = e;
      most = each;
      first = λ k b. absurd (omega (arith, b));
    }
    by (suc r) l e f = record {
      rank = suc (suc r);
      within = omega (arith, l);
      is = e;
      most = each;
      first = before;
    }
      where
        before : (k : ℕ) → k < suc (suc r) →
            load_of (get_or (id ∷ x ∷ xs) k 0) held < load_of best held
        before zero b = f 0 (omega arith)
        before (suc zero) b = omega (arith, less, f 0 (omega arith))
        before (suc (suc k)) b = f (suc k) (omega (arith, b))

from_is : (held : List Payload) (id : ℕ) (ids : List ℕ) →
    IsHeaviestFrom held id ids (heaviest_from held id ids)
unfolding heaviest_from
from_is held id [] = record {
  rank = 0;
  within = omega arith;
  is = refl;
  most = λ k l. (let first : k ≡ 0 = omega (arith, l) in rw first (omega arith));
  first = λ k b. absurd (omega (arith, b));
}
from_is held id (x ∷ xs) =
    elim (cases_Bool (nat_lt (load_of id held) (load_of x held))) [
      | inl e ↦ rw e (from_less held id x xs (heaviest_from held x xs)
          (ltb-true (load_of id held) (load_of x held) e) (from_is held x xs))
      | inr e ↦ rw e (from_more held id x xs (heaviest_from held id xs)
          (ltb-false (load_of id held) (load_of x held) e) (from_is held id xs))
    ]

-- the first of several flows that holds the most
pub heaviest_first : (held : List Payload) (ids : List ℕ) → 0 < length ids →
    IsHeaviest held ids (heaviest_from held (get_or ids 0 0) ids)
unfolding heaviest_from
heaviest_first held [] some = absurd (omega (arith, some))
heaviest_first held (x ∷ xs) some =
    let own : heavier held x x ≡ x = either (nat_lt (load_of x held) (load_of x held)) in
    let h : IsHeaviestFrom held x xs (heaviest_from held x xs) = from_is held x xs in
    rw own (record {
      rank = h.rank;
      within = h.within;
      is = h.is;
      most = h.most;
      first = h.first;
    })
  where
    either : (b : Bool) → cond b x x ≡ x
    either true = refl
    either false = refl

-- ---- It is one of those that were told to have streams.

-- a flow that holds blocks has begun
pub loaded_within : (w : State) (id : ℕ) → IsSound w → 0 < load_of id w.held → id < length w.flows
loaded_within w id h l = by (flow_at w id) refl
  where
    by : (o : Option FlowState) → flow_at w id ≡ o → id < length w.flows
    by None e = absurd (omega (arith, l, none_counted id w.held (h.vacant id e)))
    by (Some s) e = some_within w.flows id s e

-- a flow that holds blocks is one of those
pub loaded_told : (w : State) (id : ℕ) → IsSound w →
    ((j : ℕ) → is_some (stream_start_at w j) ≡ true → 0 < times j (lives w.events))
    → 0 < load_of id w.held → 0 < times id (lives w.events)
unfolding stream_start_of
loaded_told w id h told l = by (flow_at w id) refl
  where
    by : (o : Option FlowState) → flow_at w id ≡ o → 0 < times id (lives w.events)
    by None e = absurd (omega (arith, l, none_counted id w.held (h.vacant id e)))
    by (Some s) e =
        let own : s.id ≡ id = h.ids id s e in
        elim (cases_Bool (is_some (oldest_index s.id s.next w.held))) [
          | inl some ↦ told id (ap (λ (o : Option FlowState). is_some (stream_start_of o)) e
              ∙ holds_live w id s h e some)
          | inr none ↦ absurd (omega (
            arith,
            l,
            none_counted id w.held
                (subst (λ (k : ℕ). count_of k w.held ≡ 0) own (none_held s.id s.next w.held none)),
          ))
        ]

-- if the pool is short, the flow that gives up holds something
pub heaviest_holds : (w : State) → IsSound w →
    ((j : ℕ) → is_some (stream_start_at w j) ≡ true → 0 < times j (lives w.events))
    → w.blocks < blocks_of w.held → is_holding w.held (flow_at w (heaviest w)) ≡ true
heaviest_holds w h told short =
    let i = some_load w.held (omega (arith, short)) in
    let among : 0 < times i.0 (lives w.events) = loaded_told w i.0 h told i.1 in
    let most = from_each w.held (get_or (lives w.events) 0 0) (lives w.events) i.0 among in
    elim (cases_Bool (is_holding w.held (flow_at w (heaviest w)))) [
      | inl e ↦ e
      | inr e ↦ absurd (omega (
        arith,
        i.1,
        most,
        none_counted (heaviest w) w.held (idle w (heaviest w) h e),
      ))
    ]
