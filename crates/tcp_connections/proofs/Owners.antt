-- Which flow each id stands for, after each change of a state.
use Rattle.std.proofs.Common.{◌≡◌, ℕ, ◌+◌, ◌*◌, ◌^◌, ◌<◌, ◌≤◌, cond, List, [], ◌∷◌, length, set, get_or, Option, Some, None, is_some, unwrap_or, refl, sym, ◌∙◌, ap, subst, inl, inr, true≢false, get_or-set_same, get_or-set_other}
use Rattle.std.specs.List.{AllByRecursion}
use Rattle.std.proofs.lemmas.Bool.{cases_eq}
use Rattle.tcp_segment.specs.declared.endpoint.Flow.{Flow as Endpoints}
use Rattle.tcp_segment.specs.Segments.{Segment}
use Rattle.tcp_flow.specs.declared.flow.CloseCause.{CloseCause}
use Rattle.tcp_flow.specs.declared.flow.FlowState.{FlowState}
use Rattle.tcp_waiting.specs.declared.arrival.Arrival as origin
use Rattle.tcp_waiting.specs.Payload.{Payload, payload}
use Rattle.tcp_flow.specs.Flow.{Flow, Event, lives as has_stream, Reader, Arrival, Octets, fresh, payload_came, closed, with_gap, step as flow_step, first_payload}
use Rattle.tcp_flow.specs.Laws.{due_of}
use Rattle.tcp_flow.specs.State.{state}
use Rattle.tcp_flow.proofs.Obeying.{Obeys, closed_obeys, came_obeys, step_obeys, gap_obeys}
use Rattle.tcp_streams.specs.declared.pair.EndpointPair.{EndpointPair}
use Rattle.tcp_streams.specs.declared.pair.Side.TheVariants.{FromLesser, FromGreater}
use Rattle.tcp_streams.specs.Pairs.{flow_from}
use Rattle.tcp_connections.specs.Connections.{State, flow_at, flow_state, with_flow, arrived, began, gapped, closed_at}
use Rattle.tcp_connections.specs.Owned.{IsPartOf, Standing, Unopened, Idle, Live, owner, AllMayCome}
use Rattle.tcp_connections.proofs.Cases.{arrived_none, arrived_some, gapped_none, gapped_some, closed_none, closed_some}
use Rattle.tcp_connections.proofs.OwnFlows.{standing_after, owner_of, OthersStand, IsPartOfOwn, standing_of, HasOwnTail, own_law}
use Rattle.tcp_connections.proofs.Sound.{some_within}

-- ---- What is true of a state.

-- no stream of the flow is live
abbrev pub HasNoLiveStream : (standing : Standing) → Type 0
HasNoLiveStream s = (o : Endpoints) (n : ℕ) → s ≡ Live o n → ⊥

-- a flow is what its id stands for, and its tail is of its own segments
pub record IsStandingFlow (segments : List Segment) (id : ℕ) (standing : Standing)
    (flow : FlowState) : Type 0 where
  pub endpoints : Endpoints
  pub is : standing ≡ standing_of endpoints
      (cond (has_stream flow.live flow.waits) (Some flow.next) None)
  pub tail : HasOwnTail segments endpoints flow.tail
  pub same : flow.id ≡ id
  pub next : flow.next < 2 ^ 32

abbrev pub IsStandingOf : (segments : List Segment) (id : ℕ) (standing : Standing)
    (flow : Option FlowState) → Type 0
IsStandingOf segments id s None = HasNoLiveStream s
IsStandingOf segments id s (Some f) = IsStandingFlow segments id s f

-- the ids of the flows of known connections stand for those flows
abbrev pub IdsStandForPairs : (owners : ℕ → Option Endpoints) (endpoint_pairs : List EndpointPair)
    (slots : List ℕ) → Type 0
IdsStandForPairs owners [] slots = Unit {0}
IdsStandForPairs owners (p ∷ ps) [] = Unit {0}
IdsStandForPairs owners (p ∷ ps) (r ∷ rs) =
    (owners (2 * r) ≡ Some (flow_from p FromLesser))
    × (owners (2 * r + 1) ≡ Some (flow_from p FromGreater)) × IdsStandForPairs owners ps rs

pub record IsOwned (segments : List Segment) (state : State) : Type 0 where
  pub come : (id : ℕ) → AllMayCome segments id Unopened state.events
  pub flows : (id : ℕ) →
      IsStandingOf segments id (standing_after state.events id) (flow_at state id)
  pub held : AllByRecursion (IsPartOfOwn segments (owner_of state.events)) state.held
  pub known : IdsStandForPairs (owner_of state.events) state.known state.slots
  pub beyond : (id : ℕ) → 2 * length state.lasts ≤ id → owner_of state.events id ≡ None

pub all_map : (P Q : Payload → Type 0) (ps : List Payload) → ((p : Payload) → P p → Q p) →
    AllByRecursion P ps → AllByRecursion Q ps
all_map P Q [] f h = tt
all_map P Q (p ∷ ps) f h = (f p h.0, all_map P Q ps f h.1)

-- the flows that ids stand for stay the same
pub held_same : (segments : List Segment) (owners owners' : ℕ → Option Endpoints)
    (ps : List Payload) →
    ((j : ℕ) → owners' j ≡ owners j) → AllByRecursion (IsPartOfOwn segments owners) ps →
    AllByRecursion (IsPartOfOwn segments owners') ps
held_same segments owners owners' ps same h = all_map (IsPartOfOwn segments owners)
    (IsPartOfOwn segments owners') ps (λ p part o e. part o (sym (same p.flow) ∙ e)) h

pub theirs_same : (owners owners' : ℕ → Option Endpoints) (ps : List EndpointPair) (rs : List ℕ) →
    ((j : ℕ) → owners' j ≡ owners j) → IdsStandForPairs owners ps rs →
    IdsStandForPairs owners' ps rs
theirs_same owners owners' [] rs same h = tt
theirs_same owners owners' (p ∷ ps) [] same h = tt
theirs_same owners owners' (p ∷ ps) (r ∷ rs) same h = (
  same (2 * r) ∙ h.0,
  same (2 * r + 1) ∙ h.1,
  theirs_same owners owners' ps rs same h.2,
)

owner_stand : (o : Endpoints) (due : Option ℕ) → owner (standing_of o due) ≡ Some o
owner_stand o (Some n) = refl
owner_stand o None = refl

pub owner_is : (segments : List Segment) (id : ℕ) (s : Standing) (f : FlowState)
    (t : IsStandingFlow segments id s f) → owner s ≡ Some t.endpoints
owner_is segments id s f t =
    ap owner t.is
    ∙ owner_stand t.endpoints (cond (has_stream f.live f.waits) (Some f.next) None)

pub standing_at : (segments : List Segment) (w : State) (id : ℕ) (s : FlowState) →
    flow_at w id ≡ Some s → IsOwned segments w →
    IsStandingFlow segments id (standing_after w.events id) s
standing_at segments w id s e h =
    subst (IsStandingOf segments id (standing_after w.events id)) e (h.flows id)

-- ---- A flow does something.

-- the flow of an id is set, or forgotten
pub owns_set : (segments : List Segment) (w : State) (id : ℕ) (o : Endpoints)
    (p : Option FlowState) (held : List Payload) (events : List Event) → IsOwned segments w →
    id < length w.flows → owner_of w.events id ≡ Some o → owner_of events id ≡ Some o →
    AllMayCome segments id Unopened events →
    IsStandingOf segments id (standing_after events id) p →
    AllByRecursion (IsPartOfOwn segments (owner_of w.events)) held →
    OthersStand segments id w.events events →
    IsOwned segments (record w { flows = set w.flows id p; held = held; events = events })
owns_set segments w id o p held events h l own now come stands waiting others =
    let same : (j : ℕ) → owner_of events j ≡ owner_of w.events j =
    λ j.
    elim (cases_eq j id) [
      | inl y ↦ ap (owner_of events) y ∙ now ∙ sym own ∙ ap (owner_of w.events) (sym y)
      | inr n ↦ ap owner (others j n).is
    ] in
    record {
      come =
          λ j.
          elim (cases_eq j id) [
            | inl y ↦ subst (λ (k : ℕ). AllMayCome segments k Unopened events) (sym y) come
            | inr n ↦ (others j n).come
          ];
      flows =
          λ j.
          elim (cases_eq j id) [
            | inl y ↦ subst (λ (k : ℕ). IsStandingOf segments k (standing_after events k)
                (get_or (set w.flows id p) k None)) (sym y)
                (subst (IsStandingOf segments id (standing_after events id))
                (sym (get_or-set_same w.flows id p None l)) stands)
            | inr n ↦ subst (IsStandingOf segments j (standing_after events j))
                (sym (get_or-set_other w.flows id j p None n))
                (subst (λ (s : Standing). IsStandingOf segments j s (flow_at w j))
                (sym (others j n).is) (h.flows j))
          ];
      held = held_same segments (owner_of w.events) (owner_of events) held same waiting;
      known = theirs_same (owner_of w.events) (owner_of events) w.known w.slots same h.known;
      beyond = λ j many. same j ∙ h.beyond j many;
    }

owned_flow : (segments : List Segment) (w : State) (id : ℕ) (o : Endpoints) (f : Flow) →
    IsOwned segments w → id < length w.flows → (own : owner_of w.events id ≡ Some o) →
    Obeys (own_law segments (owner_of w.events) id o own w.events) f
    → IsOwned segments (with_flow w id f)
unfolding with_flow own_law
owned_flow segments w id o f h l own t =
    owns_set segments w id o (Some (flow_state f)) f.held f.events h l own
    (ap owner t.runs.0.is ∙ owner_stand o (due_of f)) t.runs.0.come
    (record { endpoints = o; is = t.runs.0.is; tail = t.tail; same = t.same; next = t.next })
    t.held t.runs.1

-- a flow of a state, before it does anything
pub own_before : (segments : List Segment) (w : State) (id : ℕ) (s : FlowState) →
    IsOwned segments w → (t : IsStandingFlow segments id (standing_after w.events id) s) →
    (own : owner_of w.events id ≡ Some t.endpoints) →
    Obeys (own_law segments (owner_of w.events) id t.endpoints own w.events)
    (state s w.held w.events)
unfolding own_law
own_before segments w id s h t own = record {
  same = t.same;
  next = t.next;
  held = h.held;
  tail = t.tail;
  runs = (
    record { come = h.come id; is = t.is },
    λ j n. record { come = h.come j; is = refl },
  );
}

-- a flow is changed by what leaves it its own
does_owns : (segments : List Segment) (w : State) (id : ℕ) (s : FlowState) (f : Flow) →
    flow_at w id ≡ Some s →
    ((o : Endpoints) (own : owner_of w.events id ≡ Some o) →
    Obeys (own_law segments (owner_of w.events) id o own w.events) (state s w.held w.events) →
    Obeys (own_law segments (owner_of w.events) id o own w.events) f) →
    IsOwned segments w → IsOwned segments (with_flow w id f)
does_owns segments w id s f e keeps h =
    let t : IsStandingFlow segments id (standing_after w.events id) s =
    standing_at segments w id s e h in
    let own : owner_of w.events id ≡ Some t.endpoints =
    owner_is segments id (standing_after w.events id) s t in
    owned_flow segments w id t.endpoints f h (some_within w.flows id s e) own
    (keeps t.endpoints own (own_before segments w id s h t own))

pub arrived_owns : (segments : List Segment) (F : Reader) (w : State) (id : ℕ) (a : Arrival) →
    ((o : Endpoints) → owner_of w.events id ≡ Some o → (n : ℕ) (octets : List ℕ)
    (arrival : origin.Arrival) → a ≡ Octets n octets arrival → IsPartOf segments o n octets)
    → IsOwned segments w → IsOwned segments (arrived F w id a)
unfolding own_law
arrived_owns segments F w id a part h = by (flow_at w id) refl
  where
    by : (p : Option FlowState) → flow_at w id ≡ p → IsOwned segments (arrived F w id a)
    by None e = subst (IsOwned segments) (sym (arrived_none F w id a e)) h
    by (Some s) e =
        let f : Flow = state s w.held w.events in
        subst (IsOwned segments) (sym (arrived_some F w id a s e))
        (does_owns segments w id s (flow_step F f a) e
        (λ o own t. step_obeys (own_law segments (owner_of w.events) id o own w.events) F f a
        (part o own) t) h)

-- the first payload of a flow comes
idle_of : (s : Standing) (o : Endpoints) → HasNoLiveStream s → owner s ≡ Some o → s ≡ Idle o
idle_of Unopened o q e = absurd (true≢false (sym (ap is_some e)))
idle_of (Idle x) o q e = ap Idle (ap (λ (s : Option Endpoints). unwrap_or s x) e)
idle_of (Live x n) o q e = absurd (q x n refl)

pub began_owns : (segments : List Segment) (F : Reader) (w : State) (id n : ℕ)
    (octets : List ℕ) (o : Endpoints) → n < 2 ^ 32 → flow_at w id ≡ None → id < length w.flows →
    owner_of w.events id ≡ Some o → IsPartOf segments o n octets
    → IsOwned segments w → IsOwned segments (began F w id n octets)
unfolding began first_payload own_law
began_owns segments F w id n octets o small e within own part h =
    let before : Flow = fresh id n w.held w.events in
    let p : Payload = payload id n octets w.arrival in
    let idle : standing_after w.events id ≡ Idle o =
    idle_of (standing_after w.events id) o
    (subst (IsStandingOf segments id (standing_after w.events id)) e (h.flows id)) own in
    owned_flow segments w id o (payload_came F before p) h within own
    (came_obeys (own_law segments (owner_of w.events) id o own w.events) F before p refl part
    (record {
      same = refl;
      next = small;
      held = h.held;
      tail = λ u d. absurd (true≢false (sym (ap is_some d)));
      runs = (
        record { come = h.come id; is = idle },
        λ j m. record { come = h.come j; is = refl },
      );
    }))

pub gapped_owns : (segments : List Segment) (F : Reader) (w : State) (id : ℕ) →
    IsOwned segments w → IsOwned segments (gapped F w id)
gapped_owns segments F w id h = by (flow_at w id) refl
  where
    by : (p : Option FlowState) → flow_at w id ≡ p → IsOwned segments (gapped F w id)
    by None e = subst (IsOwned segments) (sym (gapped_none F w id e)) h
    by (Some s) e =
        let f : Flow = state s w.held w.events in
        subst (IsOwned segments) (sym (gapped_some F w id s e))
        (does_owns segments w id s (with_gap F f) e
        (λ o own t. gap_obeys (own_law segments (owner_of w.events) id o own w.events) F f t) h)

pub closed_owns : (segments : List Segment) (w : State) (id : ℕ) (cause : CloseCause) →
    IsOwned segments w → IsOwned segments (closed_at w id cause)
closed_owns segments w id cause h = by (flow_at w id) refl
  where
    by : (p : Option FlowState) → flow_at w id ≡ p → IsOwned segments (closed_at w id cause)
    by None e = subst (IsOwned segments) (sym (closed_none w id cause e)) h
    by (Some s) e =
        let f : Flow = state s w.held w.events in
        subst (IsOwned segments) (sym (closed_some w id cause s e))
        (does_owns segments w id s (closed f cause) e
        (λ o own t. closed_obeys (own_law segments (owner_of w.events) id o own w.events) f cause t)
        h)
