-- The flow of the least rank is the one that gives up.
use Rattle.std.proofs.Common.{◌≡◌, ℕ, zero, suc, ◌<◌, ◌≤◌, ◌^◌, true, cond, nat_eq, List, [], ◌∷◌, length, get_or, is_some, refl, sym, ◌∙◌, ap, subst, arith, inl, inr}
use Rattle.std.proofs.lemmas.Bool.{cases_Bool, cases_eq, cases_lt, eqb-true}
use Rattle.tcp_waiting.specs.Payload.{load_of}
use Rattle.tcp_streams.specs.Lives.{lives}
use Rattle.tcp_slots.specs.Ranks.{IsUniqueLeast}
use Rattle.tcp_connections.specs.declared.givers.GapRanks.{GapRanks}
use Rattle.tcp_connections.specs.Connections.{State, stream_start_at, heaviest}
use Rattle.tcp_connections.specs.Givers.{recency_of}
use Rattle.tcp_connections.specs.Heaviest.{IsHeaviest}
use Rattle.tcp_connections.specs.State.{AreRanked, IsSound, StandBefore, times}
use Rattle.tcp_connections.proofs.Heaviest.{heaviest_first, loaded_told, loaded_within}
use Rattle.tcp_connections.proofs.Times.{times_at}

-- at which index a number stands in a list
there : (n : ℕ) (xs : List ℕ) → 0 < times n xs → (k : ℕ) × ((k < length xs) × (get_or xs k 0 ≡ n))
unfolding times
there n [] l = absurd (omega (arith, l))
there n (x ∷ xs) l =
    elim (cases_Bool (nat_eq x n)) [
      | inl e ↦ (0, (omega arith, eqb-true x n e))
      | inr e ↦
          (let none : ◌≡◌ {A = ℕ} (cond (nat_eq x n) 1 0) 0 = rw e refl in
          let k = there n xs (omega (arith, l, none)) in
          (suc k.0, (omega (arith, k.1.0), k.1.1)))
    ]

stands_before : (xs : List ℕ) (i j : ℕ) → i < j → j < length xs →
    StandBefore (get_or xs i 0) (get_or xs j 0) xs
unfolding StandBefore
stands_before [] i j l m = absurd (omega (arith, m))
stands_before (x ∷ xs) i zero l m = absurd (omega (arith, l))
stands_before (x ∷ xs) zero (suc j) l m = inl (refl, times_at xs j (omega (arith, m)))
stands_before (x ∷ xs) (suc i) (suc j) l m =
    inr (stands_before xs i j (omega (arith, l)) (omega (arith, m)))

-- if two flows hold as many blocks, the one that gives up stands first
heaviest_before : (w : State) (id : ℕ) → IsHeaviest w.held (lives w.events) (heaviest w) →
    0 < times id (lives w.events) → (id ≡ heaviest w → ⊥) →
    load_of (heaviest w) w.held ≤ load_of id w.held →
    StandBefore (heaviest w) id (lives w.events)
heaviest_before w id h l ne as_much =
    let ids : List ℕ = lives w.events in
    let k = there id ids l in
    let own = ap (λ (n : ℕ). load_of n w.held) k.1.1 in
    elim (cases_lt h.rank k.0) [
      | inl less ↦ subst (λ (n : ℕ). StandBefore n id ids) (sym h.is)
          (subst (λ (n : ℕ). StandBefore (get_or ids h.rank 0) n ids) k.1.1
          (stands_before ids h.rank k.0 less k.1.0))
      | inr more ↦ elim (cases_eq k.0 h.rank) [
        | inl e ↦ absurd (ne (sym k.1.1 ∙ ap (λ (i : ℕ). get_or ids i 0) e ∙ sym h.is))
        | inr other ↦ absurd (omega (arith, h.first k.0 (omega (arith, more, other)), own, as_much))
      ]
    ]

pub first_gives_up : (g : GapRanks) (w : State) (id : ℕ) → IsSound w →
    ((j : ℕ) → is_some (stream_start_at w j) ≡ true → 0 < times j (lives w.events))
    → AreRanked g (length w.flows) w.held (lives w.events)
    → IsUniqueLeast g.ranks.slots g.ranks.nodes.items id → ((j : ℕ) → recency_of g j < 2 ^ 64)
    → 0 < load_of id w.held → id ≡ heaviest w
first_gives_up g w id h told ranked first small some =
    let ids : List ℕ = lives w.events in
    let best : ℕ = heaviest w in
    let among = loaded_told w id h told some in
    let k = there id ids among in
    let first_is : IsHeaviest w.held ids best = heaviest_first w.held ids (omega (arith, k.1.0)) in
    let most : load_of id w.held ≤ load_of best w.held =
    subst (λ (n : ℕ). load_of n w.held ≤ load_of best w.held) k.1.1 (first_is.most k.0 k.1.0) in
    elim (cases_eq id best) [
      | inl e ↦ e
      | inr ne ↦
          (let own : id < length w.flows = omega (arith, first.within, ranked.many) in
          let within : best < length w.flows =
          loaded_within w best h (omega (arith, some, most)) in
          let less = first.least best (omega (arith, within, ranked.many)) (λ e. ne (sym e)) in
          let rank = ranked.ranks id own in
          let other = ranked.ranks best within in
          let loads = ranked.loads best in
          let as_much : load_of best w.held ≤ load_of id w.held =
          omega (arith, less, rank, other, loads, small best) in
          let before = ranked.order best id (heaviest_before w id first_is among ne as_much) in
          absurd (omega (arith, less, rank, other, most, as_much, before)))
    ]
