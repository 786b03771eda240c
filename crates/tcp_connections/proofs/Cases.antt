-- The definitions of connections, case by case.
use Rattle.std.proofs.Common.{◌≡◌, ℕ, zero, suc, ◌+◌, ◌-◌, ◌<◌, ◌≤◌, Bool, true, false, cond, nat_lt, List, length, set, get_or, Option, Some, None, refl, sym, ◌∙◌, ap, arith, add-one}
use Rattle.std.proofs.lemmas.Bool.{cond-true, cond-false, lt-ltb, le-ltb}
use Rattle.std.proofs.lemmas.List.{set-get_or}
use Rattle.tcp_segment.specs.Segments.{Segment}
use Rattle.tcp_flow.specs.declared.hearing.Heard.{Heard}
use Rattle.tcp_flow.specs.declared.flow.CloseCause.{CloseCause}
use Rattle.tcp_flow.specs.declared.flow.CloseCause.TheVariants.{Reset, Syn}
use Rattle.tcp_flow.specs.declared.flow.FlowState.{FlowState}
use Rattle.tcp_flow.specs.Flow.{Flow, Passes, Reader, Arrival, Octets, End, Hears, closed, with_gap, is_lost, step as flow_step, held_by_others}
use Rattle.tcp_flow.specs.State.{state}
use Rattle.tcp_flow.proofs.Steps.{heard_none, heard_stops}
use Rattle.tcp_streams.specs.declared.pair.Side.{Side}
use Rattle.tcp_streams.specs.Pairs.{pair_of, opposite, flow_id}
use Rattle.tcp_streams.specs.Lives.{lives}
use Rattle.tcp_waiting.specs.Payload.{blocks_of}
use Rattle.tcp_connections.specs.Connections.{State, with_segment, flow_at, with_flow, arrived, began, gapped, closed_at, flow_forgotten, index_of, slot_at, gaps_at, ended_by, cleared, makes_room_before, eldest, with_room, next_slot, made_known, first_number, number_behind, is_first_payload, is_looked_through, looked_through, with_capture_event, is_syn_to_keep, begins_anew, is_reset, syn_at, syn_kept, flow_of_side, fin_taken, unknown_taken, heard, acknowledgement_heard, payload_taken, reset_taken, known_taken, step, is_holding, gaps_from, heaviest, relieved, within_pool}

pub arrived_none : (F : Reader) (w : State) (id : ℕ) (a : Arrival) → flow_at w id ≡ None →
    arrived F w id a ≡ w
unfolding arrived
arrived_none F w id a e = rw (e, arrived) refl

pub arrived_some : (F : Reader) (w : State) (id : ℕ) (a : Arrival) (s : FlowState) →
    flow_at w id ≡ Some s → arrived F w id a
    ≡ with_flow w id (flow_step F (state s w.held w.events) a)
unfolding arrived
arrived_some F w id a s e = rw (e, arrived) refl

pub gapped_none : (F : Reader) (w : State) (id : ℕ) → flow_at w id ≡ None → gapped F w id ≡ w
unfolding gapped
gapped_none F w id e = rw (e, gapped) refl

pub gapped_some : (F : Reader) (w : State) (id : ℕ) (s : FlowState) → flow_at w id ≡ Some s →
    gapped F w id ≡ with_flow w id (with_gap F (state s w.held w.events))
unfolding gapped
gapped_some F w id s e = rw (e, gapped) refl

pub closed_none : (w : State) (id : ℕ) (cause : CloseCause) → flow_at w id ≡ None →
    closed_at w id cause ≡ w
unfolding closed_at
closed_none w id cause e = rw (e, closed_at) refl

pub closed_some : (w : State) (id : ℕ) (cause : CloseCause) (s : FlowState) →
    flow_at w id ≡ Some s → closed_at w id cause
    ≡ with_flow w id (closed (state s w.held w.events) cause)
unfolding closed_at
closed_some w id cause s e = rw (e, closed_at) refl

pub forgot_none : (w : State) (id : ℕ) (cause : CloseCause) → flow_at w id ≡ None →
    flow_forgotten w id cause ≡ w
unfolding flow_forgotten
forgot_none w id cause e = rw (e, flow_forgotten) refl

pub forgot_some : (w : State) (id : ℕ) (cause : CloseCause) (s : FlowState) → flow_at w id ≡ Some s
    → flow_forgotten w id cause ≡ record w {
      flows = set w.flows id None;
      held =
          held_by_others id w.held;
      events = (closed (state s w.held w.events) cause).events;
    }
unfolding flow_forgotten
forgot_some w id cause s e = rw (e, flow_forgotten) refl

same_flow : (w : State) (id : ℕ) (s : FlowState) → flow_at w id ≡ Some s →
    with_flow w id (state s w.held w.events) ≡ w
unfolding with_flow
same_flow w id s e =
    ap (λ (flows : List (Option FlowState)). record w { flows = flows })
    (ap (set w.flows id) (sym e) ∙ set-get_or w.flows id None)

-- if what is missing isn't given up, a packet changes nothing
pub kept_heard : (F : Reader) (w : State) (id : ℕ) (h : Heard) (s : FlowState) →
    flow_at w id ≡ Some s → is_lost h (state s w.held w.events) ≡ false →
    arrived F w id (Hears h) ≡ w
unfolding flow_step
kept_heard F w id h s e kept =
    arrived_some F w id (Hears h) s e
    ∙ ap (with_flow w id) (heard_stops F (length w.held) h (state s w.held w.events) kept)
    ∙ same_flow w id s e

-- if nothing waits, a packet says nothing of what is missing
none_missed : (F : Reader) (f : Flow) (h : Heard) → length f.held ≡ 0 →
    flow_step F f (Hears h) ≡ f
unfolding flow_step
none_missed F f h none = heard_none F (length f.held) h f (omega (arith, none))

none_heard : (F : Reader) (w : State) (id : ℕ) (h : Heard) (o : Option FlowState) →
    length w.held ≡ 0 → flow_at w id ≡ o → arrived F w id (Hears h) ≡ w
none_heard F w id h None none e = arrived_none F w id (Hears h) e
none_heard F w id h (Some s) none e =
    arrived_some F w id (Hears h) s e
    ∙ ap (with_flow w id) (none_missed F (state s w.held w.events) h none)
    ∙ same_flow w id s e

pub none_waits : (F : Reader) (w : State) (id : ℕ) (acknowledged : Option ℕ) (answers : Bool) →
    length w.held ≡ 0 → heard F w id acknowledged answers ≡ w
unfolding heard
none_waits F w id acknowledged answers none = none_heard F w id _ (flow_at w id) none refl

pub payload_first : (F : Reader) (w : State) (id : ℕ) (s : Segment) → flow_at w id ≡ None →
    is_first_payload w.ports s ≡ true → payload_taken F w id s
    ≡ began F w id (first_number s) s.payload
unfolding payload_taken
payload_first F w id s e f = rw (e, payload_taken)
    (cond-true (is_first_payload w.ports s) (began F w id (first_number s) s.payload)
    (looked_through w s) f)

pub looked_none : (w : State) (s : Segment) → is_looked_through w.ports s ≡ false →
    looked_through w s ≡ w
unfolding looked_through
looked_none w s e =
    cond-false (is_looked_through w.ports s) (with_capture_event w (Passes s.payload)) w e

pub looked_passes : (w : State) (s : Segment) → is_looked_through w.ports s ≡ true →
    looked_through w s ≡ with_capture_event w (Passes s.payload)
unfolding looked_through
looked_passes w s e =
    cond-true (is_looked_through w.ports s) (with_capture_event w (Passes s.payload)) w e

pub payload_nothing : (F : Reader) (w : State) (id : ℕ) (s : Segment) → flow_at w id ≡ None →
    is_first_payload w.ports s ≡ false → payload_taken F w id s ≡ looked_through w s
unfolding payload_taken
payload_nothing F w id s e f = rw (e, payload_taken)
    (cond-false (is_first_payload w.ports s) (began F w id (first_number s) s.payload)
    (looked_through w s) f)

pub payload_reset : (F : Reader) (w : State) (id : ℕ) (s : Segment) (f : FlowState) →
    flow_at w id ≡ Some f → s.reset ≡ true → payload_taken F w id s ≡ w
unfolding payload_taken
payload_reset F w id s f e r = rw (e, payload_taken)
    (cond-true s.reset w
    (within_pool F (arrived F w id (Octets (first_number s) s.payload w.arrival))) r)

pub payload_later : (F : Reader) (w : State) (id : ℕ) (s : Segment) (f : FlowState) →
    flow_at w id ≡ Some f → s.reset ≡ false →
    payload_taken F w id s
    ≡ within_pool F (arrived F w id (Octets (first_number s) s.payload w.arrival))
unfolding payload_taken
payload_later F w id s f e r = rw (e, payload_taken)
    (cond-false s.reset w
    (within_pool F (arrived F w id (Octets (first_number s) s.payload w.arrival))) r)

pub no_fin : (F : Reader) (w : State) (id : ℕ) (s : Segment) → s.fin ≡ false →
    fin_taken F w id s ≡ w
unfolding fin_taken
no_fin F w id s e = cond-false s.fin (arrived F w id (End (number_behind s))) w e

pub a_fin : (F : Reader) (w : State) (id : ℕ) (s : Segment) → s.fin ≡ true →
    fin_taken F w id s ≡ arrived F w id (End (number_behind s))
unfolding fin_taken
a_fin F w id s e = cond-true s.fin (arrived F w id (End (number_behind s))) w e

pub no_reset : (F : Reader) (w : State) (index : ℕ) (side : Side) (s : Segment) →
    is_reset (flow_of_side w index side) s ≡ false → reset_taken F w index side s ≡ w
unfolding reset_taken
no_reset F w index side s e =
    cond-false (is_reset (flow_of_side w index side) s) (ended_by F w index side Reset) w e

pub a_reset : (F : Reader) (w : State) (index : ℕ) (side : Side) (s : Segment) →
    is_reset (flow_of_side w index side) s ≡ true →
    reset_taken F w index side s ≡ ended_by F w index side Reset
unfolding reset_taken
a_reset F w index side s e =
    cond-true (is_reset (flow_of_side w index side) s) (ended_by F w index side Reset) w e

pub unknown_nothing : (F : Reader) (w : State) (s : Segment) → is_first_payload w.ports s ≡ false →
    unknown_taken F w s ≡ looked_through w s
unfolding unknown_taken
unknown_nothing F w s e = cond-false (is_first_payload w.ports s)
    (fin_taken F (began F (made_known (with_room F w) (pair_of s.flow).0)
    (flow_id (next_slot (with_room F w).free) (pair_of s.flow).1) (first_number s) s.payload)
    (flow_id (next_slot (with_room F w).free) (pair_of s.flow).1) s) (looked_through w s) e

pub unknown_first : (F : Reader) (w : State) (s : Segment) → is_first_payload w.ports s ≡ true
    → unknown_taken F w s ≡ fin_taken F (began F (made_known (with_room F w) (pair_of s.flow).0)
    (flow_id (next_slot (with_room F w).free) (pair_of s.flow).1) (first_number s) s.payload)
    (flow_id (next_slot (with_room F w).free) (pair_of s.flow).1) s
unfolding unknown_taken
unknown_first F w s e = cond-true (is_first_payload w.ports s)
    (fin_taken F (began F (made_known (with_room F w) (pair_of s.flow).0)
    (flow_id (next_slot (with_room F w).free) (pair_of s.flow).1) (first_number s) s.payload)
    (flow_id (next_slot (with_room F w).free) (pair_of s.flow).1) s) (looked_through w s) e

pub room_there : (F : Reader) (w : State) → length w.known < length w.lasts → with_room F w ≡ w
unfolding with_room
room_there F w l = cond-true (nat_lt (length w.known) (length w.lasts)) w
    (cleared F w (eldest w (length w.known))) (lt-ltb (length w.known) (length w.lasts) l)

pub room_made : (F : Reader) (w : State) → length w.lasts ≤ length w.known →
    with_room F w ≡ cleared F w (eldest w (length w.known))
unfolding with_room
room_made F w l = cond-false (nat_lt (length w.known) (length w.lasts)) w
    (cleared F w (eldest w (length w.known))) (le-ltb (length w.known) (length w.lasts) l)

pub step_unknown : (F : Reader) (w : State) (s : Segment) →
    index_of (pair_of s.flow).0 w.known ≡ None →
    step F w s ≡ unknown_taken F (record w { segments = w.segments + 1 }) s
unfolding step
step_unknown F w s e = rw (e, step) refl

pub step_kept : (F : Reader) (w : State) (s : Segment) (index : ℕ) →
    index_of (pair_of s.flow).0 w.known ≡ Some index →
    is_syn_to_keep (flow_of_side w index (pair_of s.flow).1) s ≡ true
    → step F w s ≡ syn_kept (record w { segments = w.segments + 1 }) (slot_at w index)
    (flow_id (slot_at w index) (pair_of s.flow).1) s
unfolding step
step_kept F w s index e a =
    let v : State = record w { segments = w.segments + 1 } in
    let side : Side = (pair_of s.flow).1 in
    let id : ℕ = flow_id (slot_at v index) side in
    rw (e, step) (cond-true (is_syn_to_keep (flow_of_side v index side) s)
    (syn_kept v (slot_at v index) id s)
    (cond (begins_anew (syn_at v (slot_at v index)) id s)
    (unknown_taken F (ended_by F v index side Syn) s) (known_taken F v index s)) a)

pub step_anew : (F : Reader) (w : State) (s : Segment) (index : ℕ) →
    index_of (pair_of s.flow).0 w.known ≡ Some index →
    is_syn_to_keep (flow_of_side w index (pair_of s.flow).1) s ≡ false →
    begins_anew (syn_at w (slot_at w index)) (flow_id (slot_at w index) (pair_of s.flow).1) s ≡ true
    → step F w s ≡ unknown_taken F (ended_by F (record w { segments = w.segments + 1 }) index
    (pair_of s.flow).1 Syn) s
unfolding step
step_anew F w s index e k a =
    let v : State = record w { segments = w.segments + 1 } in
    let side : Side = (pair_of s.flow).1 in
    let id : ℕ = flow_id (slot_at v index) side in
    let there : State = unknown_taken F (ended_by F v index side Syn) s in
    rw (e, step) (cond-false (is_syn_to_keep (flow_of_side v index side) s)
    (syn_kept v (slot_at v index) id s)
    (cond (begins_anew (syn_at v (slot_at v index)) id s) there (known_taken F v index s)) k
    ∙ cond-true (begins_anew (syn_at v (slot_at v index)) id s) there (known_taken F v index s) a)

pub step_known : (F : Reader) (w : State) (s : Segment) (index : ℕ) →
    index_of (pair_of s.flow).0 w.known ≡ Some index →
    is_syn_to_keep (flow_of_side w index (pair_of s.flow).1) s ≡ false →
    begins_anew (syn_at w (slot_at w index)) (flow_id (slot_at w index) (pair_of s.flow).1) s
    ≡ false
    → step F w s ≡ known_taken F (record w { segments = w.segments + 1 }) index s
unfolding step
step_known F w s index e k a =
    let v : State = record w { segments = w.segments + 1 } in
    let side : Side = (pair_of s.flow).1 in
    let id : ℕ = flow_id (slot_at v index) side in
    let there : State = unknown_taken F (ended_by F v index side Syn) s in
    rw (e, step) (cond-false (is_syn_to_keep (flow_of_side v index side) s)
    (syn_kept v (slot_at v index) id s)
    (cond (begins_anew (syn_at v (slot_at v index)) id s) there (known_taken F v index s)) k
    ∙ cond-false (begins_anew (syn_at v (slot_at v index)) id s) there (known_taken F v index s) a)

-- what a segment of a known connection does, step by step
pub known_is : (F : Reader) (w : State) (index : ℕ) (s : Segment) (slot : ℕ) (side : Side)
    (id other : ℕ) → slot ≡ slot_at w index → side ≡ (pair_of s.flow).1 → id ≡ flow_id slot side →
    other ≡ flow_id slot (opposite side)
    → known_taken F w index s
    ≡ heard F (reset_taken F (fin_taken F (payload_taken F (acknowledgement_heard F
    (with_segment w slot id) other s) id s) id s) index side s)
    id None false
unfolding known_taken
known_is F w index s slot side id other e f g h =
    let K : ℕ → Side → ℕ → ℕ → State = λ r d i o.
    heard F (reset_taken F (fin_taken F (payload_taken F (acknowledgement_heard F
    (with_segment w r i) o s) i s) i s) index d s) i None false in
    let here : Side = (pair_of s.flow).1 in
    sym (ap (λ (i : ℕ). K slot side i other) g ∙ ap (λ (o : ℕ). K slot side (flow_id slot side) o) h
    ∙ ap (λ (d : Side). K slot d (flow_id slot d) (flow_id slot (opposite d))) f
    ∙ ap (λ (r : ℕ). K r here (flow_id r here) (flow_id r (opposite here))) e)

-- ---- Gaps in a flow until it holds nothing.

pub at_none : (F : Reader) (count : ℕ) (w : State) (id : ℕ) → count ≤ 0 →
    gaps_at F count w id ≡ w
unfolding gaps_at
at_none F zero w id l = refl
at_none F (suc count) w id l = absurd (omega (arith, l))

pub at_over : (F : Reader) (count : ℕ) (w : State) (id : ℕ) →
    is_holding w.held (flow_at w id) ≡ false → gaps_at F count w id ≡ w
unfolding gaps_at
at_over F zero w id e = refl
at_over F (suc count) w id e = rw (e, gaps_at) refl

pub at_gap : (F : Reader) (count : ℕ) (w : State) (id : ℕ) → 0 < count →
    is_holding w.held (flow_at w id) ≡ true
    → gaps_at F count w id ≡ gaps_at F (count - 1) (gapped F w id) id
unfolding gaps_at
at_gap F zero w id l e = absurd (omega (arith, l))
at_gap F (suc count) w id l e =
    let k : suc count - 1 ≡ count = omega arith in
    rw (k, e, gaps_at) refl

-- ---- The pool is short.

pub relieved_none : (F : Reader) (count : ℕ) (w : State) → count ≤ 0 → relieved F count w ≡ w
unfolding relieved
relieved_none F zero w l = refl
relieved_none F (suc count) w l = absurd (omega (arith, l))

pub relieved_enough : (F : Reader) (count : ℕ) (w : State) → blocks_of w.held ≤ w.blocks →
    relieved F count w ≡ w
unfolding relieved
relieved_enough F zero w l = refl
relieved_enough F (suc count) w l =
    let e : nat_lt w.blocks (blocks_of w.held) ≡ false = le-ltb w.blocks (blocks_of w.held) l in
    rw (e, relieved) refl

pub relieved_gap : (F : Reader) (count : ℕ) (w : State) → 0 < count → w.blocks < blocks_of w.held
    → relieved F count w ≡ relieved F (count - 1) (gapped F w (heaviest w))
unfolding relieved
relieved_gap F zero w z l = absurd (omega (arith, z))
relieved_gap F (suc count) w z l =
    let k : suc count - 1 ≡ count = omega arith in
    let e : nat_lt w.blocks (blocks_of w.held) ≡ true = lt-ltb w.blocks (blocks_of w.held) l in
    rw (k, e, relieved) refl

-- ---- The end of the capture.

pub gaps_none : (F : Reader) (count rank : ℕ) (w : State) → count ≤ 0 → gaps_from F count rank w ≡ w
unfolding gaps_from
gaps_none F zero rank w l = refl
gaps_none F (suc count) rank w l = absurd (omega (arith, l))

pub gaps_over : (F : Reader) (count rank : ℕ) (w : State) → length (lives w.events) ≤ rank →
    gaps_from F count rank w ≡ w
unfolding gaps_from
gaps_over F zero rank w l = refl
gaps_over F (suc count) rank w l = let e : nat_lt rank (length (lives w.events)) ≡ false =
    le-ltb rank (length (lives w.events)) l in rw (e, gaps_from) refl

pub gaps_gap : (F : Reader) (count rank : ℕ) (w : State) → 0 < count →
    rank < length (lives w.events) → is_holding w.held (flow_at w (get_or (lives w.events) rank 0))
    ≡ true
    → gaps_from F count rank w ≡ gaps_from F (count - 1) rank
    (gapped F w (get_or (lives w.events) rank 0))
unfolding gaps_from
gaps_gap F zero rank w z l h = absurd (omega (arith, z))
gaps_gap F (suc count) rank w z l h =
    let k : suc count - 1 ≡ count = omega arith in
    let e : nat_lt rank (length (lives w.events)) ≡ true =
    lt-ltb rank (length (lives w.events)) l in
    rw (k, e, h, gaps_from) refl

pub gaps_next : (F : Reader) (count rank : ℕ) (w : State) → 0 < count →
    rank < length (lives w.events) → is_holding w.held (flow_at w (get_or (lives w.events) rank 0))
    ≡ false
    → gaps_from F count rank w ≡ gaps_from F (count - 1) (rank + 1) w
unfolding gaps_from
gaps_next F zero rank w z l h = absurd (omega (arith, z))
gaps_next F (suc count) rank w z l h =
    let k : suc count - 1 ≡ count = omega arith in
    let e : nat_lt rank (length (lives w.events)) ≡ true =
    lt-ltb rank (length (lives w.events)) l in
    let goes : gaps_from F (suc count) rank w ≡ gaps_from F count (suc rank) w =
    rw (e, h, gaps_from) refl in
    rw (k, add-one) goes

-- ---- Which connection makes room.

pub eldest_more : (w : State) (n : ℕ) → eldest w (n + 1)
    ≡ cond (makes_room_before w n (eldest w n)) n (eldest w n)
unfolding eldest
eldest_more w n = let more : eldest w (suc n)
    ≡ cond (makes_room_before w n (eldest w n)) n (eldest w n) =
    refl in ap (eldest w) (add-one n) ∙ more
