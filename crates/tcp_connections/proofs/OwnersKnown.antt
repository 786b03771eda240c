-- Which flow each id stands for after connections were forgotten or became known.
use Rattle.std.proofs.Common.{◌≡◌, ℕ, zero, suc, ◌+◌, ◌*◌, ◌<◌, Bool, true, false, cond, nat_eq, List, [], ◌∷◌, ◌++◌, length, get_or, Option, Some, None, is_some, is_eq, refl, sym, ◌∙◌, ap, subst, arith, inl, inr, true≢false, length-set, Ordering, Less, Equal, Greater}
use Rattle.std.specs.List.{AllByRecursion, insert, remove}
use Rattle.std.specs.Option.{option_map}
use Rattle.std.proofs.lemmas.Bool.{cases_eq, cases_Bool, cond-true, cond-false, ne_eqb, eq-eqb}
use Rattle.tcp_segment.specs.declared.endpoint.Flow.{Flow as Endpoints}
use Rattle.tcp_segment.specs.Segments.{Segment}
use Rattle.tcp_flow.specs.declared.flow.CloseCause.{CloseCause}
use Rattle.tcp_flow.specs.declared.flow.FlowState.{FlowState}
use Rattle.tcp_waiting.specs.Payload.{Payload, count_of}
use Rattle.tcp_flow.specs.Flow.{Flow, Event, Opens, OfCapture, CaptureEvent, lives as has_stream, closed, held_by_others}
use Rattle.tcp_flow.specs.State.{state}
use Rattle.tcp_flow.proofs.Tails.{some_same}
use Rattle.tcp_flow.proofs.Obeying.{FlowLaw, Obeys, closed_idle, closed_obeys}
use Rattle.tcp_flow.proofs.Preserving.{either}
use Rattle.tcp_streams.specs.declared.pair.EndpointPair.{EndpointPair}
use Rattle.tcp_streams.specs.declared.pair.Side.{Side}
use Rattle.tcp_streams.specs.declared.pair.Side.TheVariants.{FromLesser, FromGreater}
use Rattle.tcp_streams.specs.Pairs.{compare_pairs, pair_of, flow_id, flow_from}
use Rattle.tcp_connections.specs.Connections.{State, flow_at, flow_forgotten, index_of, insertion_index, next_slot, made_known, with_capture_event}
use Rattle.tcp_connections.specs.Owned.{Standing, Unopened, Idle, Live, owner, MayCome, AllMayCome}
use Rattle.tcp_connections.specs.State.{times}
use Rattle.tcp_connections.proofs.Forgotten.{forgot_either}
use Rattle.tcp_connections.proofs.OwnFlows.{StandsAfter, own_more, other_more, standing_after, owner_of, IsPartOfOwn, standing_of, own_law}
use Rattle.tcp_connections.proofs.Owners.{owner_is, HasNoLiveStream, IsStandingFlow, IsStandingOf, standing_at, IdsStandForPairs, IsOwned, held_same, theirs_same, owns_set, own_before}
use Rattle.tcp_connections.proofs.SamePairs.{same_pair_of}
use Rattle.tcp_connections.proofs.Sound.{some_within}

abbrev is_idle : (standing : Standing) → Bool
is_idle (Idle x) = true
is_idle s = false

quiet_idle : (o x : Endpoints) (n : ℕ) → Idle o ≡ Live x n → ⊥
quiet_idle o x n e = true≢false (ap is_idle e)

-- ---- A flow is forgotten.

all_others : (P : Payload → Type 0) (id : ℕ) (ps : List Payload) → AllByRecursion P ps →
    AllByRecursion P (held_by_others id ps)
unfolding held_by_others
all_others P id [] h = tt
all_others P id (p ∷ ps) h = search (arith, either, nat_eq, all_others P id ps h.1)

pub forgot_owns : (segments : List Segment) (w : State) (id : ℕ) (cause : CloseCause) →
    IsOwned segments w → IsOwned segments (flow_forgotten w id cause)
unfolding own_law
forgot_owns segments w id cause h =
    forgot_either (IsOwned segments) w id cause (λ e. h)
    (λ s e.
    let f : Flow = state s w.held w.events in
    let c : Flow = closed f cause in
    let t : IsStandingFlow segments id (standing_after w.events id) s =
    standing_at segments w id s e h in
    let o : Endpoints = t.endpoints in
    let own : owner_of w.events id ≡ Some o =
    owner_is segments id (standing_after w.events id) s t in
    let law : FlowLaw = own_law segments (owner_of w.events) id o own w.events in
    let u : Obeys law c = closed_obeys law f cause (own_before segments w id s h t own) in
    let idle : standing_after c.events id ≡ Idle o =
    u.runs.0.is
    ∙ ap (standing_of o)
    (cond-false (has_stream c.live c.waits) (Some c.next) None (closed_idle f cause)) in
    owns_set segments w id o None (held_by_others id w.held) c.events h
    (some_within w.flows id s e) own (ap owner idle) u.runs.0.come
    (λ x n l. quiet_idle o x n (sym idle ∙ l))
    (all_others (IsPartOfOwn segments (owner_of w.events)) id w.held h.held) u.runs.1)

-- after one of the known connections was forgotten
pub theirs_without : (owners : ℕ → Option Endpoints) (ps : List EndpointPair) (rs : List ℕ)
    (i : ℕ) → IdsStandForPairs owners ps rs → IdsStandForPairs owners (remove ps i) (remove rs i)
theirs_without owners [] rs i h = none (remove rs i)
  where
    none : (xs : List ℕ) → IdsStandForPairs owners (remove [] i) xs
    none xs = search (arith)
theirs_without owners (p ∷ ps) [] zero h = none ps
  where
    none : (qs : List EndpointPair) → IdsStandForPairs owners qs []
    none [] = tt
    none (q ∷ qs) = tt
theirs_without owners (p ∷ ps) [] (suc i) h = tt
theirs_without owners (p ∷ ps) (r ∷ rs) zero h = h.2
theirs_without owners (p ∷ ps) (r ∷ rs) (suc i) h = search (
  arith,
  theirs_without owners ps rs i
      h.2,
)

-- ---- The capture.

pub told_owns : (segments : List Segment) (w : State) (event : CaptureEvent) → IsOwned segments w →
    IsOwned segments (with_capture_event w event)
told_owns segments w event h =
    let events : List Event = w.events ++ OfCapture event ∷ [] in
    let all : (j : ℕ) → StandsAfter segments j events (standing_after w.events j) =
    λ j. other_more segments j w.events (standing_after w.events j) (OfCapture event) refl
    (record { come = h.come j; is = refl }) in
    record {
      come = λ j. (all j).come;
      flows = λ j. subst (λ (s : Standing). IsStandingOf segments j s (flow_at w j))
          (sym (all j).is) (h.flows j);
      held = held_same segments (owner_of w.events) (owner_of events) w.held
          (λ j. ap owner (all j).is) h.held;
      known = theirs_same (owner_of w.events) (owner_of events) w.known w.slots
          (λ j. ap owner (all j).is) h.known;
      beyond = λ j many. ap owner (all j).is ∙ h.beyond j many;
    }

-- ---- An id opens.

may_open : (segments : List Segment) (s : Standing) (id : ℕ) (o : Endpoints) → HasNoLiveStream s →
    MayCome segments s (Opens id o)
may_open segments Unopened id o q = tt
may_open segments (Idle x) id o q = tt
may_open segments (Live x n) id o q = absurd (q x n refl)

all_beside : (P Q : Payload → Type 0) (id : ℕ) (ps : List Payload) → count_of id ps ≡ 0 →
    ((p : Payload) → (p.flow ≡ id → ⊥) → P p → Q p) → AllByRecursion P ps → AllByRecursion Q ps
unfolding count_of
all_beside P Q id [] none f h = tt
all_beside P Q id (p ∷ ps) none f h = search (
  arith,
  cond,
  nat_eq,
  eq-eqb,
  all_beside P Q id ps
      (omega (arith, none)) f h.1,
)

-- what is true apart from which connections are known
pub record AreFlowsOwned (segments : List Segment) (kept : List (Option FlowState))
    (waiting : List Payload) (events : List Event) : Type 0 where
  pub come : (id : ℕ) → AllMayCome segments id Unopened events
  pub flows : (id : ℕ) →
      IsStandingOf segments id (standing_after events id) (get_or kept id None)
  pub held : AllByRecursion (IsPartOfOwn segments (owner_of events)) waiting

-- an id opens, and the others stand for what they did
pub record HasOpened (before after : List Event) (id : ℕ) (endpoints : Endpoints) : Type 0 where
  pub own : owner_of after id ≡ Some endpoints
  pub others : (j : ℕ) → (j ≡ id → ⊥) → owner_of after j ≡ owner_of before j

pub opens_owns : (segments : List Segment) (flows : List (Option FlowState)) (held : List Payload)
    (events : List Event) (id : ℕ) (o : Endpoints) → get_or flows id None ≡ None →
    count_of id held ≡ 0 → AreFlowsOwned segments flows held events
    → AreFlowsOwned segments flows held (events ++ Opens id o ∷ [])
    × HasOpened events (events ++ Opens id o ∷ []) id o
opens_owns segments flows held events id o e none h =
    let all : List Event = events ++ Opens id o ∷ [] in
    let quiet : HasNoLiveStream (standing_after events id) =
    subst (IsStandingOf segments id (standing_after events id)) e (h.flows id) in
    let here : StandsAfter segments id all (Idle o) =
    own_more segments id events (standing_after events id) (Opens id o) (eq-eqb id id refl)
    (may_open segments (standing_after events id) id o quiet)
    (record { come = h.come id; is = refl }) in
    let there : (j : ℕ) → (j ≡ id → ⊥) → StandsAfter segments j all (standing_after events j) =
    λ j n. other_more segments j events (standing_after events j) (Opens id o)
    (ne_eqb id j (λ x. n (sym x))) (record { come = h.come j; is = refl }) in (
      record {
        come =
            λ j.
            elim (cases_eq j id) [
              | inl y ↦ subst (λ (k : ℕ). AllMayCome segments k Unopened all) (sym y) here.come
              | inr n ↦ (there j n).come
            ];
        flows =
            λ j.
            elim (cases_eq j id) [
              | inl y ↦ subst (IsStandingOf segments j (standing_after all j))
                  (sym (ap (λ (k : ℕ). get_or flows k None) y ∙ e))
                  (λ x n l. quiet_idle o x n (sym (ap (standing_after all) y ∙ here.is) ∙ l))
              | inr n ↦ subst (λ (s : Standing). IsStandingOf segments j s (get_or flows j None))
                  (sym (there j n).is) (h.flows j)
            ];
        held = all_beside (IsPartOfOwn segments (owner_of events))
            (IsPartOfOwn segments (owner_of all)) id held none
            (λ p apart part x y. part x (sym (ap owner (there p.flow apart).is) ∙ y)) h.held;
      },
      record { own = ap owner here.is; others = λ j n. ap owner (there j n).is },
    )

-- the ids of other slots stand for what they did
theirs_kept : (owners owners' : ℕ → Option Endpoints) (slot : ℕ) (ps : List EndpointPair)
    (rs : List ℕ) → times slot rs ≡ 0
    → ((j : ℕ) → (j ≡ 2 * slot → ⊥) → (j ≡ 2 * slot + 1 → ⊥) → owners' j ≡ owners j)
    → IdsStandForPairs owners ps rs → IdsStandForPairs owners' ps rs
unfolding times
theirs_kept owners owners' slot [] rs none same h = tt
theirs_kept owners owners' slot (q ∷ ps) [] none same h = tt
theirs_kept owners owners' slot (q ∷ ps) (r ∷ rs) none same h = search (
  arith,
  cond,
  nat_eq,
  eq-eqb,
  theirs_kept owners owners' slot ps rs (omega (arith, none)) same h.2,
)

-- the ids of a slot stand for its flows from now on
pub theirs_with : (owners owners' : ℕ → Option Endpoints) (p : EndpointPair) (slot : ℕ)
    (ps : List EndpointPair) (rs : List ℕ) (i : ℕ) → times slot rs ≡ 0
    → owners' (2 * slot) ≡ Some (flow_from p FromLesser) →
    owners' (2 * slot + 1) ≡ Some (flow_from p FromGreater)
    → ((j : ℕ) → (j ≡ 2 * slot → ⊥) → (j ≡ 2 * slot + 1 → ⊥) → owners' j ≡ owners j)
    → length ps ≡ length rs → IdsStandForPairs owners ps rs →
    IdsStandForPairs owners' (insert ps i p) (insert rs i slot)
unfolding times
theirs_with owners owners' p slot [] [] zero none a b same l h = (a, b, tt)
theirs_with owners owners' p slot [] [] (suc i) none a b same l h = (a, b, tt)
theirs_with owners owners' p slot [] (r ∷ rs) i none a b same l h = absurd (omega (arith, l))
theirs_with owners owners' p slot (q ∷ ps) [] i none a b same l h = absurd (omega (arith, l))
theirs_with owners owners' p slot (q ∷ ps) (r ∷ rs) zero none a b same l h = search (
  arith,
  theirs_kept,
)
theirs_with owners owners' p slot (q ∷ ps) (r ∷ rs) (suc i) none a b same l h = search (
  arith,
  cond,
  nat_eq,
  eq-eqb,
  theirs_with owners owners' p slot ps rs i (omega (arith, none)) a b same
      (omega (arith, l)) h.2,
)

-- ---- Which flow a segment is of.

pub equal_of : (r : Ordering) → is_eq r ≡ true → r ≡ Equal
equal_of Less e = absurd (true≢false (sym e))
equal_of Equal e = refl
equal_of Greater e = absurd (true≢false (sym e))

pub theirs_at : (owners : ℕ → Option Endpoints) (p : EndpointPair) (ps : List EndpointPair)
    (rs : List ℕ) (i : ℕ) (side : Side) → length ps ≡ length rs → index_of p ps ≡ Some i →
    IdsStandForPairs owners ps rs → owners (flow_id (get_or rs i 0) side) ≡ Some (flow_from p side)
unfolding index_of
theirs_at owners p [] rs i side l e h = search (arith, true≢false, is_some)
theirs_at owners p (q ∷ ps) [] i side l e h = absurd (omega (arith, l))
theirs_at owners p (q ∷ ps) (r ∷ rs) i side l e h =
    elim (cases_Bool (is_eq (compare_pairs q p))) [
      | inl b ↦
          (let same : q ≡ p = same_pair_of q p (equal_of (compare_pairs q p) b) in
          let z : 0 ≡ i = some_same 0 i (sym (cond-true (is_eq (compare_pairs q p)) (Some 0)
          (option_map suc (index_of p ps)) b) ∙ e) in
          subst (λ (k : ℕ). owners (flow_id (get_or (r ∷ rs) k 0) side) ≡ Some (flow_from p side)) z
          (subst (λ (x : EndpointPair). owners (flow_id r side) ≡ Some (flow_from x side)) same
          (first side)))
      | inr b ↦ further (index_of p ps) i
          (λ k d. theirs_at owners p ps rs k side (omega (arith, l)) d h.2)
          (sym (cond-false (is_eq (compare_pairs q p)) (Some 0) (option_map suc (index_of p ps)) b)
          ∙ e)
    ]
  where
    first : (d : Side) → owners (flow_id r d) ≡ Some (flow_from q d)
    first FromLesser = h.0
    first FromGreater = h.1

    further : (x : Option ℕ) (i : ℕ) → ((k : ℕ) → x ≡ Some k →
        owners (flow_id (get_or rs k 0) side) ≡ Some (flow_from p side)) →
        option_map suc x ≡ Some i
        → owners (flow_id (get_or (r ∷ rs) i 0) side) ≡ Some (flow_from p side)
    further None i f d = search (arith, true≢false, is_some)
    further (Some k) i f d = search (arith, get_or, some_same)

-- a flow is the one of its pair and side
pub flow_of_pair : (flow : Endpoints) → flow_from (pair_of flow).0 (pair_of flow).1 ≡ flow
flow_of_pair flow = search (arith)

-- ---- A connection becomes known.

pub record IsOwnedMadeKnown (segments : List Segment) (state : State) (pair : EndpointPair)
    (slot : ℕ)
    : Type 0 where
  pub owns : IsOwned segments (made_known state pair)
  pub own : (side : Side) → owner_of (made_known state pair).events (flow_id slot side)
      ≡ Some (flow_from pair side)

pub made_owns : (segments : List Segment) (w : State) (p : EndpointPair) →
    next_slot w.free < length w.lasts → flow_at w (2 * next_slot w.free) ≡ None → flow_at w
    (2 * next_slot w.free + 1) ≡ None
    → count_of (2 * next_slot w.free) w.held ≡ 0 → count_of (2 * next_slot w.free + 1) w.held ≡ 0
    → times (next_slot w.free) w.slots ≡ 0 → length w.known ≡ length w.slots → IsOwned segments w →
    IsOwnedMadeKnown segments w p (next_slot w.free)
unfolding made_known
made_owns segments w p below lesser greater none none' apart l h =
    let slot : ℕ = next_slot w.free in
    let a : Endpoints = flow_from p FromLesser in
    let b : Endpoints = flow_from p FromGreater in
    let one : List Event = w.events ++ Opens (2 * slot) a ∷ [] in
    let two : List Event = one ++ Opens (2 * slot + 1) b ∷ [] in
    let first = opens_owns segments w.flows w.held w.events (2 * slot) a lesser none
    (record { come = h.come; flows = h.flows; held = h.held }) in
    let second = opens_owns segments w.flows w.held one (2 * slot + 1) b greater none' first.0 in
    let own : owner_of two (2 * slot) ≡ Some a =
    second.1.others (2 * slot) (λ o. absurd (omega (arith, o))) ∙ first.1.own in
    record {
      owns = record {
        come = second.0.come;
        flows = second.0.flows;
        held = second.0.held;
        known = theirs_with (owner_of w.events) (owner_of two) p slot w.known w.slots
            (insertion_index p w.known) apart own second.1.own
            (λ j m n. second.1.others j n ∙ first.1.others j m) l h.known;
        beyond =
            λ j many.
            let size = length-set w.lasts slot w.segments in
            second.1.others j (λ o. absurd (omega (arith, o, many, size, below)))
            ∙ first.1.others j (λ o. absurd (omega (arith, o, many, size, below)))
            ∙ h.beyond j (omega (arith, many, size));
      };
      own = λ side. by (owner_of two) slot p own second.1.own side;
    }
  where
    by : (owners : ℕ → Option Endpoints) (slot : ℕ) (q : EndpointPair) →
        owners (2 * slot) ≡ Some (flow_from q FromLesser) →
        owners (2 * slot + 1) ≡ Some (flow_from q FromGreater) → (side : Side) →
        owners (flow_id slot side) ≡ Some (flow_from q side)
    by owners slot q x y FromLesser = x
    by owners slot q x y FromGreater = y
