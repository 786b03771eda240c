-- Which flow stands before which among the last streams, and that numbers which rise in this order
-- still do after a step of one flow.
use Rattle.std.proofs.Common.{◌≡◌, ◌⊎◌, ℕ, ◌<◌, ◌≤◌, ◌^◌, Bool, true, false, cond, eqb, nat_eq, nat_lt, List, [], ◌∷◌, ◌++◌, Option, Some, None, is_some, refl, sym, ◌∙◌, ap, subst, arith, inl, inr, true≢false}
use Rattle.std.specs.List.{AllByRecursion, IsDistinct, last_or}
use Rattle.std.proofs.lemmas.Bool.{cases_Bool, cases_eq, cond-true, cond-false, eqb-true, eq-eqb, ne_eqb, lt-ltb}
use Rattle.tcp_flow.specs.declared.flow.CloseCause.{CloseCause}
use Rattle.tcp_flow.specs.declared.flow.CloseCause.TheVariants.{Fin, Reset, Syn, Fault, Gap, Room, End}
use Rattle.tcp_flow.specs.Flow.{held_by_others}
use Rattle.tcp_streams.specs.Lives.{without, with_begun, with_closed, most_ids, AreIds}
use Rattle.tcp_streams.proofs.Ids.{none_left}
use Rattle.tcp_waiting.specs.Payload.{Payload, load_of}
use Rattle.tcp_connections.specs.declared.givers.GapRanks.{GapRanks}
use Rattle.tcp_connections.specs.Givers.{IsRankSet, recency_of, noted_rank, rank_of}
use Rattle.tcp_connections.specs.State.{AreRanked, StandBefore, times}
use Rattle.tcp_connections.proofs.Times.{times_last, times_own}

-- ---- How often a number stands there.

none_times : (n : ℕ) (xs : List ℕ) → AllByRecursion (λ y. eqb n y ≡ false) xs → times n xs ≡ 0
unfolding times
none_times n [] h = refl
none_times n (x ∷ xs) h =
    let other : nat_eq x n ≡ false =
    ne_eqb x n (λ e. true≢false (sym (eq-eqb n x (sym e)) ∙ h.0)) in
    rw (other, none_times n xs h.1) refl

times_once : (n : ℕ) (xs : List ℕ) → IsDistinct eqb xs → times n xs ≤ 1
unfolding times IsDistinct
times_once n [] h = omega arith
times_once n (x ∷ xs) h =
    elim (cases_Bool (nat_eq x n)) [
      | inl e ↦
          (let own : x ≡ n = eqb-true x n e in
          let none = none_times n xs (subst (λ (m : ℕ). AllByRecursion (λ y. eqb m y ≡ false) xs)
          own h.0) in
          rw (e, none) (omega arith))
      | inr e ↦ rw e (omega (arith, times_once n xs h.1))
    ]

fewer_case : (n b x : ℕ) (xs ys : List ℕ) (e : Bool) → times b ys ≤ times b xs →
    times b (cond e xs (x ∷ ys)) ≤ times b (x ∷ xs)
unfolding times
fewer_case n b x xs ys true h = omega arith
fewer_case n b x xs ys false h = omega (arith, h)

times_fewer : (n b : ℕ) (xs : List ℕ) → times b (without n xs) ≤ times b xs
unfolding without
times_fewer n b [] = omega arith
times_fewer n b (x ∷ xs) = fewer_case n b x xs (without n xs) (nat_eq x n) (times_fewer n b xs)

-- ---- What stands before what.

before_there : (a b : ℕ) (xs : List ℕ) → StandBefore a b xs → 0 < times b xs
unfolding StandBefore times
before_there a b [] h = absurd h
before_there a b (x ∷ xs) (inl h) = omega (arith, h.1)
before_there a b (x ∷ xs) (inr h) = omega (arith, before_there a b xs h)

without_case : (a b n x : ℕ) (xs : List ℕ) (e : Bool) →
    (StandBefore a b (without n xs) → StandBefore a b xs) →
    StandBefore a b (cond e xs (x ∷ without n xs)) → StandBefore a b (x ∷ xs)
unfolding StandBefore
without_case a b n x xs true k h = inr h
without_case a b n x xs false k (inl h) = inl (h.0, omega (arith, h.1, times_fewer n b xs))
without_case a b n x xs false k (inr h) = inr (k h)

before_without : (a b n : ℕ) (xs : List ℕ) → StandBefore a b (without n xs) → StandBefore a b xs
unfolding without
before_without a b n [] h = h
before_without a b n (x ∷ xs) h =
    without_case a b n x xs (nat_eq x n) (before_without a b n xs) h

before_last : (a b n : ℕ) (xs : List ℕ) → StandBefore a b (xs ++ n ∷ []) →
    StandBefore a b xs ⊎ (b ≡ n)
unfolding StandBefore times
before_last a b n [] (inl h) = absurd (omega (arith, h.1))
before_last a b n [] (inr h) = absurd h
before_last a b n (x ∷ xs) (inl h) =
    elim (cases_eq b n) [
      | inl e ↦ inr e
      | inr ne ↦
          (let other : ◌≡◌ {A = ℕ} (cond (nat_eq n b) 1 0) 0 =
          rw (ne_eqb n b (λ e. ne (sym e))) refl in
          inl (inl (h.0, omega (arith, h.1, times_last b xs n, other))))
    ]
before_last a b n (x ∷ xs) (inr h) =
    elim (before_last a b n xs h) [ inl l ↦ inl (inr l) | inr e ↦ inr e ]

last_is : (o : Option ℕ) (xs : List ℕ) (n : ℕ) → last_or o (xs ++ n ∷ []) ≡ Some n
last_is o [] n = refl
last_is o (x ∷ xs) n = last_is (Some x) xs n

some_is : (x a : ℕ) → ◌≡◌ {A = Option ℕ} (Some x) (Some a) → x ≡ a
some_is x a e = ap (λ (o : Option ℕ). elim o [ None ↦ 0 | Some n ↦ n ]) e

cases_last : (o : Option ℕ) (n : ℕ) → (o ≡ Some n) ⊎ (o ≡ Some n → ⊥)
cases_last None n = inr (λ e. true≢false (sym (ap (λ (o : Option ℕ). is_some o) e)))
cases_last (Some x) n =
    elim (cases_eq x n) [
      | inl e ↦ inl (ap (λ (k : ℕ). Some k) e)
      | inr ne ↦ inr (λ o. ne (some_is x n o))
    ]

last_there : (a b : ℕ) (o : Option ℕ) (xs : List ℕ) → last_or o xs ≡ Some a → 0 < times b xs →
    0 < times a xs
unfolding times
last_there a b o [] e some = absurd (omega (arith, some))
last_there a b o (x ∷ []) e some = omega (
  arith,
  times_own a,
  ap (λ (n : ℕ). times a (n ∷ []))
      (some_is x a e),
)
last_there a b o (x ∷ y ∷ ys) e some =
    let rest = last_there a y (Some x) (y ∷ ys) e (omega (arith, times_own y)) in
    omega (arith, rest)

-- what stands last stands before nothing, if it stands there once
last_twice : (a b : ℕ) (o : Option ℕ) (xs : List ℕ) → last_or o xs ≡ Some a →
    StandBefore a b xs → 2 ≤ times a xs
unfolding StandBefore times
last_twice a b o [] e h = absurd h
last_twice a b o (x ∷ xs) e (inl h) =
    let own : ◌≡◌ {A = ℕ} (cond (nat_eq x a) 1 0) 1 = rw (eq-eqb x a h.0) refl in
    omega (arith, own, last_there a b (Some x) xs e h.1)
last_twice a b o (x ∷ xs) e (inr h) = omega (arith, last_twice a b (Some x) xs e h)

-- ---- After a step of one flow.

-- the order is that of before, but that this flow may have come last
abbrev pub KeepsOrderBut : (id : ℕ) (base live : List ℕ) → Type 0
KeepsOrderBut id base live =
    (a b : ℕ) → StandBefore a b live →
    StandBefore a b base ⊎ ((b ≡ id) × (last_or None live ≡ Some id))

order_without : (id : ℕ) (base live : List ℕ) → AreIds live → KeepsOrderBut id base live →
    KeepsOrderBut id base (without id live)
order_without id base live ids h a b s =
    elim (h a b (before_without a b id live s)) [
      | inl l ↦ inl l
      | inr own ↦
          (let there = before_there a b (without id live) s in
          let none = none_times id (without id live) (none_left id live ids.1) in
          absurd (omega (arith, there, none, ap (λ (n : ℕ). times n (without id live)) own.0)))
    ]

pub order_begun : (id : ℕ) (base live : List ℕ) → id < most_ids → KeepsOrderBut id base live →
    KeepsOrderBut id base (with_begun id live)
unfolding with_begun
order_begun id base live l h =
    subst (KeepsOrderBut id base)
    (sym (cond-true (nat_lt id most_ids) (without id live ++ id ∷ []) live (lt-ltb id most_ids l)))
    (λ a b s.
    elim (before_last a b id (without id live) s) [
      | inl t ↦ elim (h a b (before_without a b id live t)) [
        | inl o ↦ inl o
        | inr own ↦ inr (own.0, last_is None (without id live) id)
      ]
      | inr own ↦ inr (own, last_is None (without id live) id)
    ])

pub order_ended : (id : ℕ) (cause : CloseCause) (base live : List ℕ) → AreIds live →
    KeepsOrderBut id base live → KeepsOrderBut id base (with_closed id cause live)
order_ended id Gap base live ids h = h
order_ended id End base live ids h = h
order_ended id Fin base live ids h = order_without id base live ids h
order_ended id Reset base live ids h = order_without id base live ids h
order_ended id Syn base live ids h = order_without id base live ids h
order_ended id Fault base live ids h = order_without id base live ids h
order_ended id Room base live ids h = order_without id base live ids h

-- ---- What flows hold.

pub load_beside : (id other : ℕ) (ps : List Payload) → (other ≡ id → ⊥) →
    load_of other (held_by_others id ps) ≡ load_of other ps
unfolding load_of held_by_others
load_beside id other [] apart = refl
load_beside id other (p ∷ ps) apart =
    elim (cases_Bool (nat_eq p.flow id)) [
      | inl e ↦
          (let own : p.flow ≡ id = eqb-true p.flow id e in
          let none : nat_eq p.flow other ≡ false =
          ne_eqb p.flow other (λ o. apart (sym o ∙ own)) in
          rw (e, none) (omega (arith, load_beside id other ps apart)))
      | inr e ↦ rw (e, load_beside id other ps apart) refl
    ]

pub others_twice : (id : ℕ) (ps : List Payload) →
    held_by_others id (held_by_others id ps) ≡ held_by_others id ps
unfolding held_by_others
others_twice id [] = refl
others_twice id (p ∷ ps) = search (arith, cond, nat_eq, others_twice id ps)

-- ---- Ranks.

pub still_ranked : (g g' : GapRanks) (flows : ℕ) (held : List Payload) (live : List ℕ) → g' ≡ g →
    AreRanked g flows held live → AreRanked g' flows held live
still_ranked g g' flows held live e h =
    subst (λ (k : GapRanks). AreRanked k flows held live) (sym e) h

pub noted_ranked : (g g' : GapRanks) (id flows : ℕ) (held held' : List Payload)
    (live live' : List ℕ) → AreRanked g flows held live → id < flows →
    IsRankSet g g' id (load_of id held') (last_or None live') →
    held_by_others id held' ≡ held_by_others id held → KeepsOrderBut id live live' →
    IsDistinct eqb live' → AreRanked g' flows held' live'
noted_ranked g g' id flows held held' live live' h l n others turn apart = record {
  many = n.flows ∙ h.many;
  loads = loads;
  ranks = λ other m.
      elim (cases_eq other id) [
        | inl e ↦ subst (λ (k : ℕ). noted_rank g' k ≡ rank_of (load_of k held') (recency_of g' k))
            (sym e) (n.ranks id (omega (arith, l, h.many))
            ∙ cond-true (nat_eq id id) _ _ (eq-eqb id id refl))
        | inr ne ↦ n.ranks other (omega (arith, m, h.many))
            ∙ cond-false (nat_eq other id) _ _ (ne_eqb other id ne)
            ∙ h.ranks other m
            ∙ ap (λ (k : ℕ). rank_of k (recency_of g other)) (sym (beside other ne))
            ∙ ap (rank_of (load_of other held')) (sym (n.beside other ne))
      ];
  order = λ a b s. by a b s (turn a b s);
}
  where
    beside : (other : ℕ) → (other ≡ id → ⊥) → load_of other held' ≡ load_of other held
    beside other ne =
        sym (load_beside id other held' ne) ∙ ap (load_of other) others
        ∙ load_beside id other held ne

    loads : (other : ℕ) → load_of other held' < 2 ^ 64
    loads other =
        elim (cases_eq other id) [
          | inl e ↦ subst (λ (k : ℕ). load_of k held' < 2 ^ 64) (sym e) n.small
          | inr ne ↦ omega (arith, beside other ne, h.loads other)
        ]

    last : (a b : ℕ) → b ≡ id → last_or None live' ≡ Some id → recency_of g' a ≤ recency_of g' b
    last a b e is = subst (λ (k : ℕ). recency_of g' a ≤ recency_of g' k) (sym e)
        (n.greatest is (omega (arith, l, h.many)) a)

    same : (a : ℕ) → (last_or None live' ≡ Some id → ⊥) → recency_of g' a ≡ recency_of g a
    same a not =
        elim (cases_eq a id) [
          | inl e ↦ subst (λ (k : ℕ). recency_of g' k ≡ recency_of g k) (sym e) (n.same not)
          | inr ne ↦ n.beside a ne
        ]

    by : (a b : ℕ) → StandBefore a b live' →
        StandBefore a b live ⊎ ((b ≡ id) × (last_or None live' ≡ Some id)) →
        recency_of g' a ≤ recency_of g' b
    by a b s (inr own) = last a b own.0 own.1
    by a b s (inl t) =
        elim (cases_last (last_or None live') id) [
          | inl is ↦ elim (cases_eq b id) [
            | inl e ↦ last a b e is
            | inr nb ↦ elim (cases_eq a id) [
              | inl e ↦ absurd (omega (
                arith,
                times_once id live' apart,
                last_twice id b None live' is (subst (λ (k : ℕ). StandBefore k b live') e s),
              ))
              | inr na ↦ omega (arith, n.beside a na, n.beside b nb, h.order a b t)
            ]
          ]
          | inr not ↦ omega (arith, same a not, same b not, h.order a b t)
        ]
