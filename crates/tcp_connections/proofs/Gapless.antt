-- Streams have no gaps, whatever segments come.
use Rattle.std.proofs.Common.{◌≡◌, ℕ, suc, ◌+◌, ◌/◌, ◌<◌, ◌≤◌, false, nat_lt, List, [], ◌∷◌, ◌++◌, length, set, get_or, Bool, true, Option, Some, None, is_some, is_eq, refl, sym, ◌∙◌, ap, subst, arith, inl, inr, true≢false, length-set, append_assoc, append-nil}
use Rattle.std.specs.Prelude.{slice_get}
use Rattle.std.specs.Option.{option_map}
use Rattle.std.proofs.lemmas.Bool.{cases_Bool, cond-true, cond-false}
use Rattle.std.proofs.lemmas.List.{length-replicate}
use Rattle.tcp_segment.specs.Segments.{Segment}
use Rattle.tcp_waiting.specs.declared.arrival.Arrival as origin
use Rattle.tcp_flow.specs.declared.flow.CloseCause.TheVariants.{Syn}
use Rattle.tcp_flow.specs.Flow.{CaptureEvent, Reader}
use Rattle.tcp_flow.proofs.Preserving.{either}
use Rattle.tcp_flow.proofs.Tails.{some_same}
use Rattle.tcp_streams.specs.declared.pair.EndpointPair.{EndpointPair}
use Rattle.tcp_streams.specs.declared.pair.Side.{Side}
use Rattle.tcp_streams.specs.Pairs.{compare_pairs, pair_of, opposite, flow_id, flow_from}
use Rattle.tcp_connections.specs.Connections.{State, with_segment, none_known, began, syn_at, syn_kept, flow_of_side, index_of, slot_at, ended_by, with_room, next_slot, made_known, first_number, is_first_payload, looked_through, is_syn_to_keep, begins_anew, fin_taken, unknown_taken, acknowledgement_heard, payload_taken, reset_taken, known_taken, step, after, with_packet, with_capture_event, ended}
use Rattle.tcp_connections.specs.declared.syns.KeptSyn.{KeptSyn}
use Rattle.tcp_connections.specs.Gapless.{AreGapless, AreWhole, HaveSlots}
use Rattle.tcp_connections.specs.Owned.{AreOwned}
use Rattle.tcp_connections.specs.State.{times}
use Rattle.tcp_connections.proofs.Cases.{step_unknown, step_kept, step_anew, step_known}
use Rattle.tcp_connections.proofs.Closed.{end_owns, whole_at_end}
use Rattle.tcp_connections.proofs.FollowOwned.{owned_gapless}
use Rattle.tcp_connections.proofs.Kept.{acknowledgement_kept, payload_kept, fin_kept, half}
use Rattle.tcp_connections.proofs.Roomy.{slots_in, after_slots, ended_slots, owned_slots}
use Rattle.tcp_connections.proofs.OwnersKnown.{theirs_at, flow_of_pair}
use Rattle.tcp_connections.proofs.Search.{forgotten_unknown}
use Rattle.tcp_connections.proofs.SegmentParts.{IsAmongSegments, capture_at, looked_at, fin_at, heard_at, first_at, payload_at, id_within, shown_at, reset_at, with_room_at, made_owner, made_at}
pub use Rattle.tcp_connections.proofs.Settled.{IsSoundAmong}
use Rattle.tcp_connections.proofs.Shown.{shown_known}
use Rattle.tcp_connections.proofs.Sound.{IsOfNoFreeSlot, apart_taken, slot_below, sound_seen}
use Rattle.tcp_connections.proofs.Start.{none_sound, none_owns}
use Rattle.tcp_connections.proofs.Times.{times_at}
use Rattle.tcp_connections.proofs.Unknown.{room_enough, next_below, next_vacant, next_taken, made_flows}
use Rattle.tcp_connections.proofs.OwnFlows.{owner_of}

-- ---- A segment comes.

unknown_at : (segments : List Segment) (F : Reader) (w : State) (s : Segment) →
    IsAmongSegments segments s →
    index_of (pair_of s.flow).0 w.known ≡ None → IsSoundAmong segments w →
    IsSoundAmong segments (unknown_taken F w s)
unfolding unknown_taken
unknown_at segments F w s among new h =
    let pair : EndpointPair = (pair_of s.flow).0 in
    let side : Side = (pair_of s.flow).1 in
    let v : State = with_room F w in
    let slot : ℕ = next_slot v.free in
    let id : ℕ = flow_id slot side in
    let made : State = made_known v pair in
    let enough = room_enough F w pair h.sound new in
    let roomy : IsSoundAmong segments v = with_room_at segments F w h in
    let m : IsSoundAmong segments made = made_at segments v pair enough.1 enough.0 roomy in
    let below : slot < length v.lasts = next_below v roomy.sound enough.1 in
    let within : id < length made.flows = omega (
      arith,
      id_within v slot side roomy.sound below,
      made_flows v pair,
    ) in
    let taken : 0 < times (id / 2) made.slots =
    subst (λ (n : ℕ). 0 < times n made.slots) (sym (half slot side)) (next_taken v pair) in
    let apart : IsOfNoFreeSlot made id = apart_taken made id m.sound taken in
    let began_there : State = began F made id (first_number s) s.payload in
    let own : owner_of made.events id ≡ Some s.flow =
    (made_owner segments v pair enough.1 roomy.sound roomy.owns).own side
    ∙ ap Some (flow_of_pair s.flow) in
    let b : IsSoundAmong segments began_there = first_at segments F made id s among own m
    (next_vacant v pair side roomy.sound enough.1) within apart in
    either (IsSoundAmong segments) (is_first_payload w.ports s) (fin_taken F began_there id s)
    (looked_through w s)
    (fin_at segments F began_there id s b) (looked_at segments w s h)

seen_at : (segments : List Segment) (w : State) (lasts : List ℕ) (syns : List (Option KeptSyn))
    (noted : List Bool) (count : ℕ) (arrival : origin.Arrival) → length lasts ≡ length w.lasts →
    IsSoundAmong segments w →
    IsSoundAmong segments (record w {
      lasts = lasts;
      syns = syns;
      came = noted;
      segments = count;
      arrival = arrival;
    })
seen_at segments w lasts syns noted count arrival e h = search (arith, sound_seen)

syn_kept_at : (segments : List Segment) (w : State) (slot id : ℕ) (s : Segment) →
    IsSoundAmong segments w →
    IsSoundAmong segments (syn_kept w slot id s)
unfolding syn_kept
syn_kept_at segments w slot id s h = search (arith, seen_at, length-set)

known_at : (segments : List Segment) (F : Reader) (w : State) (index : ℕ) (s : Segment) →
    IsAmongSegments segments s → index_of (pair_of s.flow).0 w.known ≡ Some index →
    index < length w.known →
    IsSoundAmong segments w → IsSoundAmong segments (known_taken F w index s)
unfolding known_taken
known_at segments F w index s among is l h =
    let side : Side = (pair_of s.flow).1 in
    let slot : ℕ = slot_at w index in
    let id : ℕ = flow_id slot side in
    let opposite_id : ℕ = flow_id slot (opposite side) in
    let seen : State = with_segment w slot id in
    let told : State = acknowledgement_heard F seen opposite_id s in
    let paid : State = payload_taken F told id s in
    let kept = acknowledgement_kept F seen opposite_id s in
    let at_told : IsSoundAmong segments told = heard_at segments F seen opposite_id
    s.acknowledgement (nat_lt 0 (length s.payload))
    (seen_at segments w (set w.lasts slot w.segments) w.syns (set w.came id true) w.segments
    w.arrival
    (length-set w.lasts slot w.segments) h) in
    let within : id < length told.flows =
    omega (arith, id_within w slot side h.sound (slot_below w index h.sound l), kept.flows) in
    let own : 0 < times slot w.slots = times_at w.slots index (omega (arith, l, h.sound.pairs)) in
    let taken : 0 < times (id / 2) told.slots =
    subst (λ (rs : List ℕ). 0 < times (id / 2) rs) (sym kept.slots)
    (subst (λ (n : ℕ). 0 < times n w.slots) (sym (half slot side)) own) in
    let there : owner_of told.events (flow_id (get_or told.slots index 0) side)
    ≡ Some (flow_from (pair_of s.flow).0 side) =
    theirs_at (owner_of told.events) (pair_of s.flow).0 told.known told.slots index side
    (sym at_told.sound.pairs) (ap (index_of (pair_of s.flow).0) kept.known ∙ is)
    at_told.owns.known in
    let mine : owner_of told.events id ≡ Some s.flow =
    subst (λ (rs : List ℕ). owner_of told.events (flow_id (get_or rs index 0) side)
    ≡ Some (flow_from (pair_of s.flow).0 side)) kept.slots there
    ∙ ap Some (flow_of_pair s.flow) in
    let at_paid : IsSoundAmong segments paid =
    payload_at segments F told id s among mine at_told within
    (apart_taken told id at_told.sound taken) in
    let known : (fin_taken F paid id s).known ≡ w.known =
    (fin_kept F paid id s).known ∙ (payload_kept F told id s).known ∙ kept.known in
    heard_at segments F (reset_taken F (fin_taken F paid id s) index side s) id None false
    (reset_at segments F (fin_taken F paid id s) index side s (omega (arith, l, ap length known))
    (fin_at segments F paid id s at_paid))

pub index_within : (p : EndpointPair) (ps : List EndpointPair) (i : ℕ) → index_of p ps ≡ Some i →
    i < length ps
unfolding index_of
index_within p [] i e = search (arith, true≢false, is_some)
index_within p (q ∷ qs) i e =
    elim (cases_Bool (is_eq (compare_pairs q p))) [
      | inl b ↦
          (let z : 0 ≡ i = some_same 0 i (sym (cond-true (is_eq (compare_pairs q p)) (Some 0)
          (option_map suc (index_of p qs)) b) ∙ e) in
          omega (arith, z))
      | inr b ↦
          further (index_of p qs) (length qs) i (λ k d. index_within p qs k d)
          (sym (cond-false (is_eq (compare_pairs q p)) (Some 0) (option_map suc (index_of p qs)) b)
          ∙ e)
    ]
  where
    further : (o : Option ℕ) (n i : ℕ) → ((k : ℕ) → o ≡ Some k → k < n) →
        option_map suc o ≡ Some i → i < suc n
    further None n i h d = search (arith, true≢false, is_some)
    further (Some k) n i h d = search (arith, some_same)

step_at_in : (segments : List Segment) (F : Reader) (w : State) (s : Segment) →
    IsAmongSegments segments s →
    IsSoundAmong segments w → IsSoundAmong segments (step F w s)
step_at_in segments F w s among h = by (index_of (pair_of s.flow).0 w.known) refl
  where
    v : State
    v = record w { segments = w.segments + 1 }

    counted : IsSoundAmong segments v
    counted = search (arith, seen_at)

    by : (o : Option ℕ) → index_of (pair_of s.flow).0 w.known ≡ o →
        IsSoundAmong segments (step F w s)
    by None e = search (arith, step_unknown, unknown_at, counted)
    by (Some index) e =
        let side : Side = (pair_of s.flow).1 in
        let within : index < length w.known = index_within (pair_of s.flow).0 w.known index e in
        let slot : ℕ = slot_at w index in
        let id : ℕ = flow_id slot side in
        elim (cases_Bool (is_syn_to_keep (flow_of_side w index side) s)) [
          | inl k ↦ subst (IsSoundAmong segments) (sym (step_kept F w s index e k))
              (syn_kept_at segments v slot id s counted)
          | inr k ↦
              elim (cases_Bool (begins_anew (syn_at w slot) id s)) [
                | inl a ↦
                    subst (IsSoundAmong segments) (sym (step_anew F w s index e k a))
                    (unknown_at segments F (ended_by F v index side Syn) s among
                    (ap (index_of (pair_of s.flow).0) (shown_known F v index slot side side Syn)
                    ∙ forgotten_unknown (pair_of s.flow).0 w.known index h.sound.order e)
                    (shown_at segments F v index slot side side Syn within counted))
                | inr a ↦ subst (IsSoundAmong segments) (sym (step_known F w s index e k a))
                    (known_at segments F v index s among e within counted)
              ]
        ]

slice_last : {X : Type 0} (xs : List X) (y : X) (more : List X) →
    slice_get ((xs ++ y ∷ []) ++ more) (length xs) ≡ Some y
slice_last [] y more = refl
slice_last (x ∷ xs) y more = slice_last xs y more

-- what is true of a state after these segments, whatever segments come later
pub IsSoundAfter : (segments : List Segment) (state : State) → Type 0
IsSoundAfter segments w = (more : List Segment) → IsSoundAmong (segments ++ more) w

-- if no other segments come
pub no_more : (segments : List Segment) (w : State) → IsSoundAfter segments w →
    IsSoundAmong segments w
unfolding IsSoundAfter
no_more segments w h = subst (λ (ss : List Segment). IsSoundAmong ss w) (append-nil segments) (h [])

-- one more segment
pub step_at : (segments : List Segment) (F : Reader) (w : State) (s : Segment) →
    IsSoundAfter segments w →
    IsSoundAfter (segments ++ s ∷ []) (step F w s)
unfolding IsAmongSegments IsSoundAfter
step_at segments F w s h more =
    step_at_in ((segments ++ s ∷ []) ++ more) F w s (length segments, slice_last segments s more)
    (subst (λ (ss : List Segment). IsSoundAmong ss w) (sym (append_assoc segments (s ∷ []) more))
    (h (s ∷ more)))

after_at : (before segments : List Segment) (F : Reader) (w : State) → IsSoundAfter before w →
    IsSoundAfter (before ++ segments) (after F w segments)
unfolding after
after_at before [] F w h = search (arith, append-nil)
after_at before (s ∷ ss) F w h =
    subst (λ (all : List Segment). IsSoundAfter all (after F (step F w s) ss))
    (append_assoc before (s ∷ []) ss) (after_at (before ++ s ∷ []) ss F (step F w s)
    (step_at before F w s h))

-- one more packet is read
pub packet_at : (segments : List Segment) (w : State) (time : Option ℕ) → IsSoundAfter segments w →
    IsSoundAfter segments (with_packet w time)
unfolding IsSoundAfter
packet_at segments w time h more =
    seen_at (segments ++ more) w w.lasts w.syns w.came w.segments (with_packet w time).arrival refl
    (h more)

-- the listener is told of the capture
pub told_at : (segments : List Segment) (w : State) (event : CaptureEvent) →
    IsSoundAfter segments w →
    IsSoundAfter segments (with_capture_event w event)
unfolding IsSoundAfter
told_at segments w event h more = capture_at (segments ++ more) w event (h more)

-- no connection is known
pub start_at : (ports : List ℕ) (blocks most : ℕ) → 1 ≤ most → most ≤ 65536 →
    IsSoundAfter [] (none_known ports blocks most [])
unfolding IsSoundAfter
start_at ports blocks most some few more = record {
  sound = none_sound ports blocks most [] some few;
  owns = none_owns more ports blocks most;
}

pub after_all : (F : Reader) (ports : List ℕ) (blocks most : ℕ) (segments : List Segment) →
    1 ≤ most → most ≤ 65536
    → IsSoundAfter segments (after F (none_known ports blocks most []) segments)
after_all F ports blocks most segments some few =
    after_at [] segments F (none_known ports blocks most []) (start_at ports blocks most some few)

-- ---- Streams have no gaps.

pub gapless_of : (segments : List Segment) (w : State) → IsSoundAfter segments w →
    AreGapless segments w.events
gapless_of segments w h = owned_gapless segments w.events (no_more segments w h).owns.come

pub ended_gapless : (segments : List Segment) (F : Reader) (w : State) → IsSoundAfter segments w →
    AreGapless segments (ended F w).events
ended_gapless segments F w h =
    owned_gapless segments (ended F w).events
    (end_owns segments F w (no_more segments w h).owns).come

pub ended_whole : (segments : List Segment) (F : Reader) (w : State) → IsSoundAfter segments w →
    AreWhole segments (ended F w).events
ended_whole segments F w h = whole_at_end segments F w (no_more segments w h)

pub after_gapless : (F : Reader) (ports : List ℕ) (blocks most : ℕ) (segments : List Segment) →
    1 ≤ most → most ≤ 65536
    → AreGapless segments (after F (none_known ports blocks most []) segments).events
after_gapless F ports blocks most segments some few =
    gapless_of segments (after F (none_known ports blocks most []) segments)
    (after_all F ports blocks most segments some few)

pub after_whole : (F : Reader) (ports : List ℕ) (blocks most : ℕ) (segments : List Segment) →
    1 ≤ most → most ≤ 65536
    → AreWhole segments (ended F (after F (none_known ports blocks most []) segments)).events
after_whole F ports blocks most segments some few =
    ended_whole segments F (after F (none_known ports blocks most []) segments)
    (after_all F ports blocks most segments some few)

-- ---- What is delivered is of the stream's own flow.

pub after_owned : (F : Reader) (ports : List ℕ) (blocks most : ℕ) (segments : List Segment) →
    1 ≤ most → most ≤ 65536
    → AreOwned segments (after F (none_known ports blocks most []) segments).events
after_owned F ports blocks most segments some few =
    (no_more segments (after F (none_known ports blocks most []) segments)
    (after_all F ports blocks most segments some few)).owns.come

pub ended_owned : (segments : List Segment) (F : Reader) (w : State) → IsSoundAfter segments w →
    AreOwned segments (ended F w).events
ended_owned segments F w h = (end_owns segments F w (no_more segments w h).owns).come

pub after_end_owned : (F : Reader) (ports : List ℕ) (blocks most : ℕ) (segments : List Segment) →
    1 ≤ most → most ≤ 65536
    → AreOwned segments (ended F (after F (none_known ports blocks most []) segments)).events
after_end_owned F ports blocks most segments some few =
    ended_owned segments F (after F (none_known ports blocks most []) segments)
    (after_all F ports blocks most segments some few)

-- ---- Each event is in a flow of a connection that has a slot.

pub ended_have_slots : (segments : List Segment) (F : Reader) (most : ℕ) (w : State) →
    IsSoundAfter segments w → slots_in w ≡ most → HaveSlots most (ended F w).events
ended_have_slots segments F most w h many =
    owned_slots segments most (ended F w) (end_owns segments F w (no_more segments w h).owns)
    (ended_slots F w ∙ many)

pub after_end_slots : (F : Reader) (ports : List ℕ) (blocks most : ℕ) (segments : List Segment) →
    1 ≤ most → most ≤ 65536
    → HaveSlots most (ended F (after F (none_known ports blocks most []) segments)).events
after_end_slots F ports blocks most segments some few =
    ended_have_slots segments F most (after F (none_known ports blocks most []) segments)
    (after_all F ports blocks most segments some few)
    (after_slots F (none_known ports blocks most []) segments ∙ length-replicate most 0)
