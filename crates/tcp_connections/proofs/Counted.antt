-- A segment counts once, whatever it does, and the number of slots stays.
use Rattle.std.proofs.Common.{◌≡◌, ℕ, ◌+◌, false, List, length, set, Option, Some, None, refl, ◌∙◌, ap, inl, inr, length-set}
use Rattle.std.proofs.lemmas.Bool.{cases_Bool, cases_lt}
use Rattle.tcp_segment.specs.Segments.{Segment}
use Rattle.tcp_flow.specs.declared.flow.CloseCause.{CloseCause}
use Rattle.tcp_flow.specs.declared.flow.CloseCause.TheVariants.{Reset, Syn, Room}
use Rattle.tcp_flow.specs.Flow.{Reader}
use Rattle.tcp_flow.proofs.Preserving.{either}
use Rattle.tcp_streams.specs.declared.pair.EndpointPair.{EndpointPair}
use Rattle.tcp_streams.specs.declared.pair.Side.{Side}
use Rattle.tcp_streams.specs.Lives.{lives, elder_side}
use Rattle.tcp_streams.specs.Pairs.{pair_of, opposite, flow_id}
use Rattle.tcp_connections.specs.Connections.{State, with_segment, slot_at, flow_forgotten, forgotten, shown, shown_by_age, ended_by, eldest, with_room, next_slot, made_known, index_of, flow_of_side, syn_at, syn_kept, is_syn_to_keep, begins_anew, is_reset, is_first_payload, looked_through, first_number, began, fin_taken, acknowledgement_heard, payload_taken, reset_taken, unknown_taken, known_taken, step}
use Rattle.tcp_connections.proofs.Cases.{room_there, room_made, step_unknown, step_kept, step_anew, step_known}
use Rattle.tcp_connections.proofs.Forgotten.{forgot_either}
use Rattle.tcp_connections.proofs.Kept.{HasSameConnections, began_kept, looked_kept, heard_kept, acknowledgement_kept, payload_kept, fin_kept}
use Rattle.tcp_connections.proofs.Shown.{shown_kept}

-- how many slots there are
abbrev pub slots_in : (state : State) → ℕ
slots_in w = length w.lasts

-- how many segments came, and how many slots there are
abbrev counts : (state : State) → ℕ × ℕ
counts w = (w.segments, slots_in w)

kept_counts : (v w : State) → HasSameConnections v w → counts w ≡ counts v
kept_counts v w h =
    ap (λ (n : ℕ). (n, slots_in w)) h.segments
    ∙ ap (λ (xs : List ℕ). (v.segments, length xs)) h.lasts

forgot_counts : (w : State) (id : ℕ) (cause : CloseCause) →
    counts (flow_forgotten w id cause) ≡ counts w
forgot_counts w id cause = forgot_either (λ v. counts v ≡ counts w) w id cause (λ e. refl)
    (λ s e. refl)

shown_counts : (F : Reader) (w : State) (index slot : ℕ) (side other : Side)
    (cause : CloseCause) → counts (forgotten (shown F w slot side) index other cause) ≡ counts w
unfolding forgotten
shown_counts F w index slot side other cause =
    let v : State = shown F w slot side in
    forgot_counts (flow_forgotten v (flow_id (slot_at v index) other) cause)
    (flow_id (slot_at v index) (opposite other)) cause
    ∙ forgot_counts v (flow_id (slot_at v index) other) cause
    ∙ kept_counts w v (shown_kept F w slot side)

room_counts : (F : Reader) (w : State) → counts (with_room F w) ≡ counts w
room_counts F w =
    elim (cases_lt (length w.known) (length w.lasts)) [
      | inl l ↦ ap counts (room_there F w l)
      | inr g ↦
          (let index : ℕ = eldest w (length w.known) in
          let slot : ℕ = slot_at w index in
          let v : State = shown_by_age F w slot in
          ap counts (room_made F w g)
          ∙ shown_counts F w index slot (elder_side slot (lives w.events))
          (elder_side slot (lives v.events)) Room)
    ]

set_counts : (w : State) (slot : ℕ) →
    ◌≡◌ {A = ℕ × ℕ} (w.segments, length (set w.lasts slot w.segments)) (counts w)
set_counts w slot = ap (λ (n : ℕ). (w.segments, n)) (length-set w.lasts slot w.segments)

made_counts : (w : State) (p : EndpointPair) → counts (made_known w p) ≡ counts w
unfolding made_known
made_counts w p = set_counts w (next_slot w.free)

unknown_counts : (F : Reader) (w : State) (s : Segment) →
    counts (unknown_taken F w s) ≡ counts w
unfolding unknown_taken
unknown_counts F w s =
    let v : State = with_room F w in
    let m : State = made_known v (pair_of s.flow).0 in
    let id : ℕ = flow_id (next_slot v.free) (pair_of s.flow).1 in
    let b : State = began F m id (first_number s) s.payload in
    either (λ (u : State). counts u ≡ counts w) (is_first_payload w.ports s) (fin_taken F b id s)
    (looked_through w s)
    (kept_counts b (fin_taken F b id s) (fin_kept F b id s)
    ∙ kept_counts m b (began_kept F m id (first_number s) s.payload)
    ∙ made_counts v (pair_of s.flow).0 ∙ room_counts F w)
    (kept_counts w (looked_through w s) (looked_kept w s))

reset_counts : (F : Reader) (w : State) (index : ℕ) (side : Side) (s : Segment) →
    counts (reset_taken F w index side s) ≡ counts w
unfolding reset_taken
reset_counts F w index side s =
    either (λ (u : State). counts u ≡ counts w) (is_reset (flow_of_side w index side) s)
    (ended_by F w index side Reset) w
    (shown_counts F w index (slot_at w index) side side Reset) refl

known_counts : (F : Reader) (w : State) (index : ℕ) (s : Segment) →
    counts (known_taken F w index s) ≡ counts w
unfolding known_taken
known_counts F w index s =
    let side : Side = (pair_of s.flow).1 in
    let slot : ℕ = slot_at w index in
    let id : ℕ = flow_id slot side in
    let seen : State = with_segment w slot id in
    let told : State = acknowledgement_heard F seen (flow_id slot (opposite side)) s in
    let paid : State = payload_taken F told id s in
    let ended : State = fin_taken F paid id s in
    let reset : State = reset_taken F ended index side s in
    kept_counts reset (known_taken F w index s) (heard_kept F reset id None false)
    ∙ reset_counts F ended index side s ∙ kept_counts paid ended (fin_kept F paid id s)
    ∙ kept_counts told paid (payload_kept F told id s)
    ∙ kept_counts seen told (acknowledgement_kept F seen (flow_id slot (opposite side)) s)
    ∙ set_counts w slot

kept_syn_counts : (w : State) (slot id : ℕ) (s : Segment) → counts (syn_kept w slot id s) ≡ counts w
unfolding syn_kept
kept_syn_counts w slot id s = set_counts w slot

step_counts : (F : Reader) (w : State) (s : Segment) →
    counts (step F w s) ≡ (w.segments + 1, slots_in w)
step_counts F w s = by (index_of (pair_of s.flow).0 w.known) refl
  where
    by : (o : Option ℕ) → index_of (pair_of s.flow).0 w.known ≡ o →
        counts (step F w s) ≡ (w.segments + 1, slots_in w)
    by None e = ap counts (step_unknown F w s e)
        ∙ unknown_counts F (record w { segments = w.segments + 1 }) s
    by (Some index) e =
        let v : State = record w { segments = w.segments + 1 } in
        let side : Side = (pair_of s.flow).1 in
        let id : ℕ = flow_id (slot_at w index) side in
        elim (cases_Bool (is_syn_to_keep (flow_of_side w index side) s)) [
          | inl k ↦ ap counts (step_kept F w s index e k)
              ∙ kept_syn_counts v (slot_at w index) id s
          | inr k ↦
              elim (cases_Bool (begins_anew (syn_at w (slot_at w index)) id s)) [
                | inl a ↦ ap counts (step_anew F w s index e k a)
                    ∙ unknown_counts F (ended_by F v index side Syn) s
                    ∙ shown_counts F v index (slot_at v index) side side Syn
                | inr a ↦ ap counts (step_known F w s index e k a) ∙ known_counts F v index s
              ]
        ]

pub step_segments : (F : Reader) (w : State) (s : Segment) → (step F w s).segments ≡ w.segments + 1
step_segments F w s = ap (λ (c : ℕ × ℕ). c.0) (step_counts F w s)

pub step_slots : (F : Reader) (w : State) (s : Segment) → slots_in (step F w s) ≡ slots_in w
step_slots F w s = ap (λ (c : ℕ × ℕ). c.1) (step_counts F w s)
