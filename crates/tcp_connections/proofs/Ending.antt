-- Gaps in the order of the last streams leave nothing held.
use Rattle.std.proofs.Common.{◌≡◌, ℕ, zero, suc, ◌+◌, ◌-◌, ◌<◌, ◌≤◌, ◌⊎◌, true, false, cond, eqb, nat_eq, nat_lt, List, [], ◌∷◌, ◌++◌, length, get_or, Option, Some, None, is_some, refl, sym, ◌∙◌, ap, subst, arith, inl, inr, true≢false, length-append}
use Rattle.std.specs.List.{AllByRecursion, IsDistinct}
use Rattle.std.proofs.lemmas.Bool.{cases_Bool, cond-true, cond-false, eqb-true, eq-eqb, ne_eqb, lt-ltb, ltb-true, ltb-false}
use Rattle.std.proofs.lemmas.List.{get_or_append_left}
use Rattle.std.proofs.lemmas.Map.Keys.{apart_from_distinct}
use Rattle.tcp_flow.specs.declared.flow.CloseCause.{CloseCause}
use Rattle.tcp_flow.specs.declared.flow.CloseCause.TheVariants.{Fin, Reset, Syn, Fault, Gap, Room}
use Rattle.tcp_flow.specs.declared.flow.CloseCause.TheVariants as causes
use Rattle.tcp_flow.specs.declared.flow.FlowState.{FlowState}
use Rattle.tcp_waiting.specs.Payload.{Payload, oldest_index, count_of}
use Rattle.tcp_flow.specs.Flow.{Flow, Delivers, OfCapture, Reader, with_event, closed, with_gap, oldest_held, held_by_others, stream_closed, started, delivered_unchecked, out_of_step, awaiting_stream}
use Rattle.tcp_flow.specs.State.{state}
use Rattle.tcp_flow.proofs.Events.{EventsKeep, closed_kept, events_keep}
use Rattle.tcp_flow.proofs.Preserving.{StepsKeep, gap_keeps}
use Rattle.tcp_flow.proofs.Room.{gap_fewer}
use Rattle.tcp_flow.proofs.Others.{gap_others, others_all}
use Rattle.tcp_streams.specs.Lives.{lives, lives_behind, with_begun, with_closed, without, most_ids}
use Rattle.tcp_streams.proofs.Ids.{none_left}
use Rattle.tcp_streams.proofs.Order.{lives_more}
use Rattle.tcp_connections.specs.Connections.{State, flow_at, stream_start_of, stream_start_at, with_flow, gapped, is_holding}
use Rattle.tcp_connections.specs.State.{IsSound, times}
use Rattle.tcp_connections.proofs.Cases.{gapped_some}
use Rattle.tcp_connections.proofs.Living.{lives_ids}
use Rattle.tcp_connections.proofs.Sound.{count_beside, count_gone, some_within}
use Rattle.tcp_connections.proofs.States.{small_id}

-- the index of a number that is in a list
times_index : (n : ℕ) (xs : List ℕ) → 0 < times n xs → (r : ℕ)
    × ((r < length xs) × (get_or xs r 0 ≡ n))
unfolding times
times_index n [] l = absurd (omega (arith, l))
times_index n (x ∷ xs) l =
    elim (cases_Bool (nat_eq x n)) [
      | inl e ↦ (zero, (omega arith, eqb-true x n e))
      | inr e ↦
          (let none : ◌≡◌ {A = ℕ} (cond (nat_eq x n) 1 0) 0 = rw e refl in
          let i = times_index n xs (omega (arith, l, none)) in
          (suc i.0, (omega (arith, i.1.0), i.1.1)))
    ]

-- the elements before one that is taken away stay at their indices
differs : (x n k : ℕ) (xs : List ℕ) → IsDistinct eqb (x ∷ xs) → k < length xs → get_or xs k 0 ≡ n →
    nat_eq x n ≡ false
differs x n k xs d l e = subst (λ (m : ℕ). nat_eq x m ≡ false) e
    (apart_from_distinct eqb (x ∷ xs) 0 (suc k) 0 d (omega arith) (omega (arith, l)))

at_without : (n : ℕ) (xs : List ℕ) (r k : ℕ) → IsDistinct eqb xs → k < length xs →
    get_or xs k 0 ≡ n → r < k → get_or (without n xs) r 0 ≡ get_or xs r 0
unfolding without IsDistinct
at_without n [] r k d l e b = absurd (omega (arith, l))
at_without n (x ∷ xs) r zero d l e b = absurd (omega (arith, b))
at_without n (x ∷ xs) zero (suc k) d l e b = search (arith, get_or, cond-false, nat_eq, differs)
at_without n (x ∷ xs) (suc r) (suc k) d l e b = search (
  arith,
  get_or,
  cond-false,
  nat_eq,
  differs,
  at_without n xs r k d.1 (omega (arith, l)) e (omega (arith, b)),
)

pub length_without : (n : ℕ) (xs : List ℕ) (k : ℕ) → k < length xs → get_or xs k 0 ≡ n →
    length (without n xs) + 1 ≡ length xs
unfolding without
length_without n [] k l e = absurd (omega (arith, l))
length_without n (x ∷ xs) zero l e = search (arith, cond-true, nat_eq, eq-eqb)
length_without n (x ∷ xs) (suc k) l e = search (
  arith,
  cases_Bool,
  nat_eq,
  cond-true,
  cond-false,
  length_without n xs k (omega (arith, l)) e,
)

not_own : (n x : ℕ) → eqb n x ≡ false → nat_eq x n ≡ false
not_own n x h = search (arith, ne_eqb, true≢false, eq-eqb)

without_none : (n : ℕ) (xs : List ℕ) → AllByRecursion (λ y. eqb n y ≡ false) xs → without n xs ≡ xs
unfolding without
without_none n [] h = refl
without_none n (x ∷ xs) h = search (arith, cond-false, nat_eq, not_own, without_none n xs h.1)

without_last : (n : ℕ) (xs : List ℕ) → AllByRecursion (λ y. eqb n y ≡ false) xs →
    without n (xs ++ n ∷ []) ≡ xs
unfolding without
without_last n [] h = search (arith, cond-true, nat_eq, eq-eqb)
without_last n (x ∷ xs) h = search (arith, cond-false, nat_eq, not_own, without_last n xs h.1)

-- ---- A gap in a flow: the flow stays at its place in the order, becomes the last, or goes.

-- a flow stayed at its place, became the last, or went
abbrev StayedRequeuedOrGone : (id : ℕ) (before after : List ℕ) → Type 0
StayedRequeuedOrGone id all xs = (xs ≡ all)
    ⊎ ((xs ≡ without id all) ⊎ (xs ≡ without id all ++ id ∷ []))

record FlowStayedRequeuedOrGone (id : ℕ) (before : List ℕ) (flow : Flow) : Type 0 where
  pub same : flow.id ≡ id
  pub tail : StayedRequeuedOrGone id before (lives flow.events)

-- the id isn't among the others
record IsOther (id : ℕ) (others : List ℕ) : Type 0 where
  pub small : id < most_ids
  pub none : AllByRecursion (λ y. eqb id y ≡ false) others

-- the flow goes
gone_so : (id : ℕ) (all xs : List ℕ) → IsOther id (without id all) → StayedRequeuedOrGone id all xs
    →
    StayedRequeuedOrGone id all (without id xs)
gone_so id all xs o (inl e) = inr (inl (ap (without id) e))
gone_so id all xs o (inr (inl e)) = search (arith, without_none)
gone_so id all xs o (inr (inr e)) = search (arith, without_last)

ended_so : (id : ℕ) (all xs : List ℕ) (cause : CloseCause) → IsOther id (without id all) →
    StayedRequeuedOrGone id all xs → StayedRequeuedOrGone id all (with_closed id cause xs)
ended_so id all xs Gap o h = h
ended_so id all xs causes.End o h = h
ended_so id all xs Fin o h = gone_so id all xs o h
ended_so id all xs Reset o h = gone_so id all xs o h
ended_so id all xs Syn o h = gone_so id all xs o h
ended_so id all xs Fault o h = gone_so id all xs o h
ended_so id all xs Room o h = gone_so id all xs o h

closing_tail : (id : ℕ) (all : List ℕ) (g : Flow) (n : ℕ) (cause : CloseCause) →
    IsOther id (without id all) → FlowStayedRequeuedOrGone id all g →
    FlowStayedRequeuedOrGone id all (stream_closed g n cause)
unfolding with_event lives_behind
closing_tail id all g n cause o t = search (arith, lives_more, ended_so)

quiet_tail : (id : ℕ) (all : List ℕ) (g h : Flow) → h.id ≡ g.id → lives h.events ≡ lives g.events →
    FlowStayedRequeuedOrGone id all g → FlowStayedRequeuedOrGone id all h
quiet_tail id all g h same more t = record {
  same = same ∙ t.same;
  tail = subst (StayedRequeuedOrGone id all) (sym more) t.tail;
}

-- a stream of the flow begins, and the flow becomes the last
begun_so : (id : ℕ) (all xs : List ℕ) → IsOther id (without id all) → StayedRequeuedOrGone id all
    xs →
    StayedRequeuedOrGone id all (with_begun id xs)
unfolding with_begun
begun_so id all xs o h = search (arith, cond-true, nat_lt, lt-ltb, without_none, without_last)

started_tail : (id : ℕ) (all : List ℕ) (g : Flow) (n : ℕ) → IsOther id (without id all) →
    FlowStayedRequeuedOrGone id all g → FlowStayedRequeuedOrGone id all (started g n)
unfolding with_event lives_behind
started_tail id all g n o t = search (arith, lives_more, begun_so)

tail_kept : (id : ℕ) (all : List ℕ) → IsOther id (without id all) →
    EventsKeep (FlowStayedRequeuedOrGone id all)
unfolding with_event lives_behind
tail_kept id all o = record {
  tells = λ g e t. quiet_tail id all g (with_event g (OfCapture e)) refl
      (lives_more [] g.events (OfCapture e)) t;
  begins = λ g n t. started_tail id all g n o t;
  delivers = λ g p t. quiet_tail id all g (delivered_unchecked g p) refl
      (lives_more [] g.events (Delivers g.id p.octets)) t;
  closes = λ g n cause t. closing_tail id all g n cause o t;
  idles = λ g t. quiet_tail id all g (out_of_step g) refl refl t;
  tails = λ g u t. quiet_tail id all g (record g { tail = u }) refl refl t;
}

tail_keeps : (F : Reader) (id : ℕ) (all : List ℕ) → IsOther id (without id all) →
    StepsKeep F (FlowStayedRequeuedOrGone id all)
tail_keeps F id all o =
    let k : EventsKeep (FlowStayedRequeuedOrGone id all) = tail_kept id all o in
    events_keep (FlowStayedRequeuedOrGone id all) k F
    (λ g count live t. quiet_tail id all (closed g Gap) (awaiting_stream g count) refl refl
    (closed_kept (FlowStayedRequeuedOrGone id all) k g Gap t))
    (λ g ps fin t. quiet_tail id all g (record g { held = ps; fin = fin }) refl refl t)

gap_tail : (F : Reader) (id : ℕ) (f : Flow) → id < most_ids → f.id ≡ id →
    FlowStayedRequeuedOrGone id (lives f.events) (with_gap F f)
gap_tail F id f l same =
    let o : IsOther id (without id (lives f.events)) = record {
      small = l;
      none = none_left id (lives f.events) (lives_ids f.events).1;
    } in
    gap_keeps F (FlowStayedRequeuedOrGone id (lives f.events)) (tail_keeps F id (lives f.events) o)
    f
    (record { same = same; tail = inl refl })

-- ---- After some gaps, the flows before a rank hold nothing, and the gaps that are left suffice
-- for the rest.

pub record HoldNothingBefore (left rank : ℕ) (state : State) : Type 0 where
  pub reach : rank ≤ length (lives state.events)
  pub enough : length state.held + length (lives state.events) ≤ left + rank
  pub before : (r : ℕ) → r < rank → count_of (get_or (lives state.events) r 0) state.held ≡ 0

pub none_held : (id next : ℕ) (ps : List Payload) → is_some (oldest_index id next ps) ≡ false →
    count_of id ps ≡ 0
none_held id next ps e = search (arith, others_all, count_gone)

-- a flow that isn't holding holds nothing
pub idle : (w : State) (id : ℕ) → IsSound w → is_holding w.held (flow_at w id) ≡ false →
    count_of id w.held ≡ 0
unfolding is_holding
idle w id h e = search (arith, none_held)

pub start_so_far : (w : State) → HoldNothingBefore (length w.held + length (lives w.events)) 0 w
start_so_far w = search (arith)

pub next_so_far : (left rank : ℕ) (w : State) → IsSound w → 0 < left →
    rank < length (lives w.events) → is_holding w.held (flow_at w (get_or (lives w.events) rank 0))
    ≡ false
    → HoldNothingBefore left rank w → HoldNothingBefore (left - 1) (rank + 1) w
next_so_far left rank w h some l e t = search (
  arith,
  cases_Bool,
  nat_lt,
  get_or,
  idle,
  ltb-true,
  ltb-false,
)

-- a gap in the flow at the rank
by_gap : (left rank : ℕ) (w : State) (g : Flow) (id : ℕ) → id ≡ get_or (lives w.events) rank 0 →
    0 < left → rank < length (lives w.events)
    → length g.held < length w.held → held_by_others id g.held ≡ held_by_others id w.held →
    FlowStayedRequeuedOrGone id (lives w.events) g
    → HoldNothingBefore left rank w → HoldNothingBefore (left - 1) rank (with_flow w id g)
unfolding with_flow
by_gap left rank w g id same some l fewer others t so =
    let all : List ℕ = lives w.events in
    let d : IsDistinct eqb all = (lives_ids w.events).1 in
    let rest : List ℕ = without id all in
    let long : length rest + 1 ≡ length all = length_without id all rank l (sym same) in
    let stay : (r : ℕ) → r < rank → get_or rest r 0 ≡ get_or all r 0 =
    λ r b. at_without id all r rank d l (sym same) b in
    let here : (rank ≤ length (lives g.events))
    × ((length (lives g.events) ≤ length all)
    × ((r : ℕ) → r < rank → get_or (lives g.events) r 0 ≡ get_or all r 0)) =
    elim t.tail [
      | inl e ↦ (
        omega (arith, ap length e, l),
        (omega (arith, ap length e), λ r b. ap (λ (xs : List ℕ). get_or xs r 0) e),
      )
      | inr x ↦ elim x [
        | inl e ↦ (
          omega (arith, ap length e, long, l),
          (
            omega (arith, ap length e, long),
            λ r b. ap (λ (xs : List ℕ). get_or xs r 0) e
                ∙ stay r b,
          ),
        )
        | inr e ↦ (
          omega (arith, ap length e, length-append rest (id ∷ []), long, l),
          (
            omega (arith, ap length e, length-append rest (id ∷ []), long),
            λ r b. ap (λ (xs : List ℕ). get_or xs r 0) e
                ∙ get_or_append_left rest (id ∷ []) 0 r (omega (arith, b, long, l)) ∙ stay r b,
          ),
        )
      ]
    ] in
    record {
      reach = here.0;
      enough = omega (arith, so.enough, fewer, here.1.0, some);
      before =
          λ r b.
          let j : ℕ = get_or all r 0 in
          let apart : id ≡ j → ⊥ = λ o. true≢false
          (sym (eq-eqb j (get_or all rank 0) (sym o ∙ same))
          ∙ apart_from_distinct eqb all r rank 0 d b l) in
          ap (λ (n : ℕ). count_of n g.held) (here.1.1 r b) ∙ sym (count_beside id j g.held apart)
          ∙ ap (count_of j) others ∙ count_beside id j w.held apart ∙ so.before r b;
    }

-- a flow that holds something is in step
pub holds_live : (w : State) (id : ℕ) (s : FlowState) → IsSound w → flow_at w id ≡ Some s →
    is_some (oldest_index s.id s.next w.held) ≡ true → is_some s.live ≡ true
unfolding oldest_held
holds_live w id s h a e =
    elim (cases_Bool (is_some s.live)) [
      | inl x ↦ x
      | inr x ↦ absurd (true≢false (sym e ∙ (h.settled id s a).dead x))
    ]

pub gap_so_far : (F : Reader) (left rank : ℕ) (w : State) → IsSound w → 0 < left →
    rank < length (lives w.events) → is_holding w.held (flow_at w (get_or (lives w.events) rank 0))
    ≡ true
    → HoldNothingBefore left rank w → HoldNothingBefore (left - 1) rank
    (gapped F w (get_or (lives w.events) rank 0))
unfolding is_holding oldest_held
gap_so_far F left rank w h some l e so = by (flow_at w id) refl
  where
    id : ℕ
    id = get_or (lives w.events) rank 0

    by : (o : Option FlowState) → flow_at w id ≡ o →
        HoldNothingBefore (left - 1) rank (gapped F w id)
    by None a = search (arith, true≢false)
    by (Some s) a =
        let holds : is_some (oldest_index s.id s.next w.held) ≡ true =
        sym (ap (is_holding w.held) a) ∙ e in
        let own : s.id ≡ id = h.ids id s a in
        let f : Flow = state s w.held w.events in
        subst (HoldNothingBefore (left - 1) rank) (sym (gapped_some F w id s a))
        (by_gap left rank w (with_gap F f) id refl some l (gap_fewer F f holds)
        (subst (λ (n : ℕ). held_by_others n (with_gap F f).held ≡ held_by_others n w.held) own
        (gap_others F f))
        (gap_tail F id f (small_id w id h (some_within w.flows id s a)) own) so)

empty_by : (ps : List Payload) → ((id : ℕ) → count_of id ps ≡ 0) → ps ≡ []
unfolding count_of
empty_by [] h = refl
empty_by (p ∷ ps) h = absurd (let own : nat_eq p.flow p.flow ≡ true = eq-eqb p.flow p.flow refl in
    let one : ◌≡◌ {A = ℕ} (cond (nat_eq p.flow p.flow) 1 0) 1 = rw own refl in
    omega (arith, h p.flow, one))

-- if no flow in step holds anything, nothing is held
pub all_so_far : (left rank : ℕ) (w : State) → IsSound w →
    ((id : ℕ) → is_some (stream_start_at w id) ≡ true → 0 < times id (lives w.events)) →
    length (lives w.events) ≤ rank → HoldNothingBefore left rank w → w.held ≡ []
unfolding stream_start_of
all_so_far left rank w h told over so = empty_by w.held (λ id. by id (flow_at w id) refl)
  where
    by : (id : ℕ) (o : Option FlowState) → flow_at w id ≡ o → count_of id w.held ≡ 0
    by id None a = h.vacant id a
    by id (Some s) a = search (arith, cases_Bool, is_some, holds_live, times_index, none_held)

-- if no gap is left, nothing is held
pub none_so_far : (left rank : ℕ) (w : State) → left ≤ 0 → HoldNothingBefore left rank w →
    w.held ≡ []
none_so_far left rank w none so = nothing w.held (omega (arith, so.enough, so.reach, none))
  where
    nothing : (ps : List Payload) → length ps ≤ 0 → ps ≡ []
    nothing [] l = refl
    nothing (p ∷ ps) l = absurd (omega (arith, l))
