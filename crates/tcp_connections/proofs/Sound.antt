-- A state is sound after each change of it.
use Rattle.std.proofs.Common.{◌≡◌, ℕ, zero, suc, ◌+◌, ◌*◌, ◌/◌, ◌<◌, ◌≤◌, Bool, true, false, cond, nat_eq, List, [], ◌∷◌, ◌++◌, length, set, get_or, Option, Some, None, is_some, is_lt, refl, sym, ◌∙◌, ap, subst, arith, inl, inr, length-append, true≢false, length-set, get_or-set_same, get_or-set_other}
use Rattle.std.specs.List.{insert, remove}
use Rattle.std.proofs.lemmas.Bool.{cases_eq, cases_Bool, eqb-true, ne_eqb}
use Rattle.std.proofs.lemmas.List.Edits.{length-insert, length-remove}
use Rattle.tcp_waiting.specs.declared.arrival.Arrival as origin
use Rattle.tcp_waiting.specs.Payload.{Payload, count_of}
use Rattle.tcp_flow.specs.declared.flow.FlowState.{FlowState}
use Rattle.tcp_flow.specs.Flow.{Flow, Event, held_by_others}
use Rattle.tcp_flow.specs.Laws.{HoldsOnlyToCome}
use Rattle.tcp_flow.specs.State.{state}
use Rattle.tcp_flow.proofs.Others.{settled_beside, others_twice}
use Rattle.tcp_flow.proofs.Tails.{some_same}
use Rattle.tcp_streams.specs.declared.pair.EndpointPair.{EndpointPair}
use Rattle.tcp_streams.specs.Pairs.{compare_pairs}
use Rattle.tcp_connections.specs.Connections.{State, flow_at, flow_state, with_flow, index_of, insertion_index}
use Rattle.tcp_connections.specs.declared.syns.KeptSyn.{KeptSyn}
use Rattle.tcp_connections.specs.State.{IsSound, times}
use Rattle.tcp_connections.proofs.Search.{sorted_insert, sorted_remove}
use Rattle.tcp_connections.proofs.Times.{times_insert, times_remove, times_last, times_at}

pub some_none : {X : Type 0} (o : Option X) (x : X) → o ≡ Some x → o ≡ None → ⊥
some_none o x s n = true≢false (ap is_some (sym s ∙ n))

-- ---- What flows hold.

beside_by : (a b : ℕ) (p : Payload) (ps : List Payload) (c : Bool) → nat_eq p.flow a ≡ c →
    (a ≡ b → ⊥) → count_of b (held_by_others a ps) ≡ count_of b ps
    → count_of b (cond c (held_by_others a ps) (p ∷ held_by_others a ps))
    ≡ cond (nat_eq p.flow b) 1 0 + count_of b ps
unfolding count_of
beside_by a b p ps true e apart h =
    let other : nat_eq p.flow b ≡ false = ne_eqb p.flow b
    (λ o. apart (sym (eqb-true p.flow a e) ∙ o)) in
    rw other (omega (arith, h))
beside_by a b p ps false e apart h = ap (λ (n : ℕ). cond (nat_eq p.flow b) 1 0 + n) h

pub count_beside : (a b : ℕ) (ps : List Payload) → (a ≡ b → ⊥) →
    count_of b (held_by_others a ps) ≡ count_of b ps
unfolding count_of held_by_others
count_beside a b [] apart = refl
count_beside a b (p ∷ ps) apart = beside_by a b p ps (nat_eq p.flow a) refl apart
    (count_beside a b ps apart)

gone_by : (a : ℕ) (p : Payload) (ps : List Payload) (c : Bool) → nat_eq p.flow a ≡ c →
    count_of a ps ≡ 0 → count_of a (cond c ps (p ∷ ps)) ≡ 0
unfolding count_of
gone_by a p ps true e h = h
gone_by a p ps false e h = rw e (omega (arith, h))

pub count_gone : (a : ℕ) (ps : List Payload) → count_of a (held_by_others a ps) ≡ 0
unfolding count_of held_by_others
count_gone a [] = refl
count_gone a (p ∷ ps) = gone_by a p (held_by_others a ps) (nat_eq p.flow a) refl (count_gone a ps)

-- ---- One flow.

pub IsOfNoFreeSlot : State → ℕ → Type 0
IsOfNoFreeSlot w id = (slot : ℕ) → 0 < times slot w.free →
    (2 * slot ≡ id → ⊥) × (2 * slot + 1 ≡ id → ⊥)

pub apart_some : (w : State) (id : ℕ) (s : FlowState) → IsSound w → flow_at w id ≡ Some s →
    IsOfNoFreeSlot w id
unfolding IsOfNoFreeSlot
apart_some w id s h e slot m =
    let z = h.freed slot m in (
      (λ o. some_none (flow_at w id) s e (subst (λ (k : ℕ). flow_at w k ≡ None) o z.0)),
      (λ o. some_none (flow_at w id) s e (subst (λ (k : ℕ). flow_at w k ≡ None) o z.1)),
    )

pub apart_taken : (w : State) (id : ℕ) → IsSound w → 0 < times (id / 2) w.slots →
    IsOfNoFreeSlot w id
unfolding IsOfNoFreeSlot
apart_taken w id h t slot m = (
  (λ o. clash (let e : id / 2 ≡ slot = omega (arith, o) in e)),
  (λ o. clash (let e : id / 2 ≡ slot = omega (arith, o) in e)),
)
  where
    clash : id / 2 ≡ slot → ⊥
    clash e = let u : 0 < times slot w.slots = subst (λ (k : ℕ). 0 < times k w.slots) e t in
        absurd (omega (arith, h.once slot, m, u))

other_flow : (w : State) (id j : ℕ) (o : Option FlowState) → (j ≡ id → ⊥) →
    get_or (set w.flows id o) j None ≡ flow_at w j
other_flow w id j o n = get_or-set_other w.flows id j o None n

own_flow : (w : State) (id j : ℕ) (o : Option FlowState) → id < length w.flows → j ≡ id →
    get_or (set w.flows id o) j None ≡ o
own_flow w id j o l e = ap (λ (k : ℕ). get_or (set w.flows id o) k None) e
    ∙ get_or-set_same w.flows id o None l

pub with_flow_sound : (w : State) (id : ℕ) (f : Flow) → IsSound w → id < length w.flows →
    f.id ≡ id → held_by_others id f.held ≡ held_by_others id w.held
    → HoldsOnlyToCome (state (flow_state f) f.held []) → IsOfNoFreeSlot w id →
    IsSound (with_flow w id f)
unfolding with_flow IsOfNoFreeSlot
with_flow_sound w id f h l own beside settled apart =
    let flow : Option FlowState = Some (flow_state f) in
    record {
      some = h.some;
      most = h.most;
      pairs = h.pairs;
      below = h.below;
      once = h.once;
      freed =
          λ slot m.
          let a = apart slot m in
          let z = h.freed slot m in (
            other_flow w id (2 * slot) flow a.0 ∙ z.0,
            other_flow w id (2 * slot + 1) flow a.1 ∙ z.1,
          );
      all = h.all;
      flows = length-set w.flows id flow ∙ h.flows;
      order = h.order;
      ids =
          λ j s e.
          elim (cases_eq j id) [
            | inl y ↦ sym (ap (λ (t : FlowState). t.id)
                (some_same (flow_state f) s (sym (own_flow w id j flow l y) ∙ e))) ∙ own ∙ sym y
            | inr n ↦ h.ids j s (sym (other_flow w id j flow n) ∙ e)
          ];
      settled =
          λ j s e.
          elim (cases_eq j id) [
            | inl y ↦ subst (λ (t : FlowState). HoldsOnlyToCome (state t f.held []))
                (some_same (flow_state f) s (sym (own_flow w id j flow l y) ∙ e)) settled
            | inr n ↦
                (let d = sym (other_flow w id j flow n) ∙ e in
                settled_beside id (state s w.held []) f.held (λ o. n (sym (h.ids j s d) ∙ sym o))
                beside (h.settled j s d))
          ];
      vacant =
          λ j e.
          elim (cases_eq j id) [
            | inl y ↦ absurd (some_none (get_or (set w.flows id flow) j None) (flow_state f)
                (own_flow w id j flow l y) e)
            | inr n ↦
                sym (count_beside id j f.held (λ o. n (sym o))) ∙ ap (count_of j) beside
                ∙ count_beside id j w.held (λ o. n (sym o))
                ∙ h.vacant j (sym (other_flow w id j flow n) ∙ e)
          ];
    }

pub none_stays : (w : State) (id j : ℕ) → id < length w.flows → flow_at w j ≡ None →
    get_or (set w.flows id None) j None ≡ None
none_stays w id j l e = elim (cases_eq j id)
    [ inl y ↦ own_flow w id j None l y | inr n ↦ other_flow w id j None n ∙ e ]

-- after a flow was forgotten
pub forgot_sound : (w : State) (id : ℕ) (events : List Event) → IsSound w → id < length w.flows →
    IsSound (record w {
      flows = set w.flows id None;
      held = held_by_others id w.held;
      events =
          events;
    })
forgot_sound w id events h l =
    record {
      some = h.some;
      most = h.most;
      pairs = h.pairs;
      below = h.below;
      once = h.once;
      freed = λ slot m. let z = h.freed slot m in
          (none_stays w id (2 * slot) l z.0, none_stays w id (2 * slot + 1) l z.1);
      all = h.all;
      flows = length-set w.flows id None ∙ h.flows;
      order = h.order;
      ids =
          λ j s e.
          elim (cases_eq j id) [
            | inl y ↦ absurd (some_none (get_or (set w.flows id None) j None) s e
                (own_flow w id j None l y))
            | inr n ↦ h.ids j s (sym (other_flow w id j None n) ∙ e)
          ];
      settled =
          λ j s e.
          elim (cases_eq j id) [
            | inl y ↦ absurd (some_none (get_or (set w.flows id None) j None) s e
                (own_flow w id j None l y))
            | inr n ↦
                (let d = sym (other_flow w id j None n) ∙ e in
                settled_beside id (state s w.held []) (held_by_others id w.held)
                (λ o. n (sym (h.ids j s d) ∙ sym o)) (others_twice id w.held) (h.settled j s d))
          ];
      vacant =
          λ j e.
          elim (cases_eq j id) [
            | inl y ↦ subst (λ (k : ℕ). count_of k (held_by_others id w.held) ≡ 0) (sym y)
                (count_gone id w.held)
            | inr n ↦ count_beside id j w.held (λ o. n (sym o))
                ∙ h.vacant j (sym (other_flow w id j None n) ∙ e)
          ];
    }

-- a state is sound whatever has happened and when, whichever SYNs are kept, segments came and
-- packet is read
pub sound_seen : (w : State) (lasts : List ℕ) (syns : List (Option KeptSyn)) (came : List Bool)
    (segments : ℕ) (events : List Event) (arrival : origin.Arrival) →
    length lasts ≡ length w.lasts → IsSound w →
    IsSound (record w {
      lasts = lasts;
      syns = syns;
      came = came;
      segments = segments;
      events = events;
      arrival = arrival;
    })
sound_seen w lasts syns came segments events arrival e h =
    record {
      some = rw e h.some;
      most = rw e h.most;
      pairs = h.pairs;
      below = λ slot m. rw e (h.below slot m);
      once = h.once;
      freed = h.freed;
      all = rw e h.all;
      flows = rw e h.flows;
      order = h.order;
      ids = h.ids;
      settled = h.settled;
      vacant = h.vacant;
    }

-- ---- A connection.

among_most : (p : EndpointPair) (xs : List EndpointPair) → insertion_index p xs ≤ length xs
unfolding insertion_index
among_most p [] = omega arith
among_most p (x ∷ xs) = most_by (is_lt (compare_pairs x p)) (insertion_index p xs) (length xs)
    (among_most p xs)
  where
    most_by : (b : Bool) (m n : ℕ) → m ≤ n → cond b (suc m) 0 ≤ suc n
    most_by true m n h = omega (arith, h)
    most_by false m n h = omega arith

-- after a connection became known, in a slot that was free
pub known_sound : (w : State) (p : EndpointPair) (rest : List ℕ) (slot : ℕ) (lasts : List ℕ)
    (syns : List (Option KeptSyn)) (came : List Bool) (events : List Event) → IsSound w →
    w.free ≡ rest ++ slot ∷ [] → index_of p w.known ≡ None →
    length lasts ≡ length w.lasts
    → IsSound (record w {
      known = insert w.known (insertion_index p w.known) p;
      slots =
          insert w.slots (insertion_index p w.known) slot;
      free = rest;
      lasts = lasts;
      syns = syns;
      came = came;
      events = events;
    })
known_sound w p rest slot lasts syns came events h free new e =
    let index : ℕ = insertion_index p w.known in
    let most : index ≤ length w.known = among_most p w.known in
    let pairs : length (insert w.known index p) ≡ length w.known + 1 =
    length-insert w.known index p most in
    let slots : length (insert w.slots index slot) ≡ length w.slots + 1 =
    length-insert w.slots index slot (omega (arith, most, h.pairs)) in
    let long : length w.free ≡ length rest + 1 = ap length free ∙ length-append rest (slot ∷ []) in
    let sum : (n : ℕ) → times n (insert w.slots index slot) + times n rest
    ≡ times n w.slots + times n w.free =
    λ n. omega (arith, times_insert n w.slots index slot, ap (times n) free, times_last n rest slot)
    in
    record {
      some = rw e h.some;
      most = rw e h.most;
      pairs = omega (arith, pairs, slots, h.pairs);
      below = λ n m. rw e (h.below n (omega (arith, m, sum n)));
      once = λ n. omega (arith, h.once n, sum n);
      freed = λ n m. h.freed n (omega (arith, m, ap (times n) free, times_last n rest slot));
      all = rw e (omega (arith, h.all, long, pairs));
      flows = rw e h.flows;
      order = sorted_insert p w.known h.order new;
      ids = h.ids;
      settled = h.settled;
      vacant = h.vacant;
    }

-- after a connection whose flows were forgotten is no longer known, and its slot is free
pub unknown_sound : (w : State) (index slot : ℕ) → IsSound w → index < length w.known →
    get_or w.slots index 0 ≡ slot → flow_at w (2 * slot) ≡ None → flow_at w (2 * slot + 1) ≡ None
    → IsSound (record w {
      known = remove w.known index;
      slots = remove w.slots index;
      free =
          w.free ++ slot ∷ [];
    })
unknown_sound w index slot h l at lesser greater =
    let within : index < length w.slots = omega (arith, l, h.pairs) in
    let pairs : length (remove w.known index) + 1 ≡ length w.known =
    length-remove w.known index l in
    let slots : length (remove w.slots index) + 1 ≡ length w.slots =
    length-remove w.slots index within in
    let long : length (w.free ++ slot ∷ []) ≡ length w.free + 1 =
    length-append w.free (slot ∷ []) in
    let sum : (n : ℕ) → times n (remove w.slots index) + times n (w.free ++ slot ∷ [])
    ≡ times n w.slots + times n w.free =
    λ n. omega (
      arith,
      times_remove n w.slots index within,
      ap {B = ℕ} (λ (r : ℕ). cond (nat_eq r n) 1 0) at,
      times_last n w.free slot,
    ) in
    record {
      some = h.some;
      most = h.most;
      pairs = omega (arith, pairs, slots, h.pairs);
      below = λ n m. h.below n (omega (arith, m, sum n));
      once = λ n. omega (arith, h.once n, sum n);
      freed =
          λ n m.
          elim (cases_Bool (nat_eq slot n)) [
            | inl b ↦
                (let own : slot ≡ n = eqb-true slot n b in (
                  subst (λ (k : ℕ). flow_at w (2 * k) ≡ None) own lesser,
                  subst (λ (k : ℕ). flow_at w (2 * k + 1) ≡ None) own greater,
                ))
            | inr b ↦
                (let none : ◌≡◌ {A = ℕ} (cond (nat_eq slot n) 1 0) 0 = rw b refl in
                h.freed n (omega (arith, m, times_last n w.free slot, none)))
          ];
      all = omega (arith, h.all, pairs, long);
      flows = h.flows;
      order = sorted_remove w.known index h.order;
      ids = h.ids;
      settled = h.settled;
      vacant = h.vacant;
    }

-- the slot of a connection is one of the slots
pub slot_below : (w : State) (index : ℕ) → IsSound w → index < length w.known →
    get_or w.slots index 0 < length w.lasts
slot_below w index h l = h.below (get_or w.slots index 0)
    (omega (arith, times_at w.slots index (omega (arith, l, h.pairs))))

-- the id of a flow is one of the ids
pub some_within : (flows : List (Option FlowState)) (id : ℕ) (s : FlowState) →
    get_or flows id None ≡ Some s → id < length flows
some_within [] zero s e = absurd (true≢false (sym (ap is_some e)))
some_within [] (suc id) s e = absurd (true≢false (sym (ap is_some e)))
some_within (f ∷ flows) zero s e = omega arith
some_within (f ∷ flows) (suc id) s e = omega (arith, some_within flows id s e)
