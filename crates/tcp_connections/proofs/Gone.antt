-- What makes a connection be forgotten.
use Rattle.std.proofs.Common.{◌≡◌, ℕ, zero, suc, ◌+◌, ◌<◌, ◌≤◌, Bool, true, false, cond, List, [], ◌∷◌, ◌++◌, length, set, get_or, Option, Some, None, is_some, is_eq, unwrap_or, refl, sym, ◌∙◌, ap, arith, inl, inr, true≢false}
use Rattle.std.specs.List.{insert, remove}
use Rattle.std.specs.Option.{option_map}
use Rattle.std.proofs.lemmas.Bool.{cases_Bool, cases_lt, cond-true, cond-false}
use Rattle.std.proofs.lemmas.List.Edits.{length-remove}
use Rattle.tcp_segment.specs.Segments.{Segment}
use Rattle.tcp_flow.specs.declared.flow.CloseCause.TheVariants.{Syn, Room}
use Rattle.tcp_flow.specs.declared.flow.FlowState.{FlowState}
use Rattle.tcp_flow.specs.Flow.{Reader, is_near}
use Rattle.tcp_streams.specs.declared.pair.EndpointPair.{EndpointPair}
use Rattle.tcp_streams.specs.declared.pair.Side.{Side}
use Rattle.tcp_streams.specs.Lives.{lives, elder_side}
use Rattle.tcp_streams.specs.Pairs.{compare_pairs, pair_of, flow_id}
use Rattle.tcp_connections.specs.Connections.{State, none_known, index_of, insertion_index, slot_at, shown_by_age, ended_by, with_room, next_slot, made_known, began, first_number, is_first_payload, is_syn_to_keep, begins_anew, is_reset, is_near_due, flow_of_side, syn_at, syn_kept, before_reset, fin_taken, unknown_taken, known_taken, step, after}
use Rattle.tcp_connections.specs.Forgetting.{MakesRoom, MakesWay, BeginsAnew, IsForgottenBy}
use Rattle.tcp_connections.specs.State.{IsSound}
use Rattle.tcp_connections.proofs.Cases.{no_reset, a_reset, unknown_nothing, unknown_first, room_there, step_unknown, step_kept, step_anew, step_known}
use Rattle.tcp_connections.proofs.Eldest.{eldest_makes_room}
use Rattle.tcp_connections.proofs.Gapless.{index_within, no_more, after_all}
use Rattle.tcp_connections.proofs.Kept.{looked_kept, began_kept, heard_kept, acknowledgement_kept, payload_kept, fin_kept}
use Rattle.tcp_connections.proofs.OwnersKnown.{equal_of}
use Rattle.tcp_connections.proofs.SamePairs.{same_pair_of}
use Rattle.tcp_connections.proofs.Search.{forgotten_unknown}
use Rattle.tcp_connections.proofs.Shown.{shown_known, shown_lasts}
use Rattle.tcp_connections.proofs.Sound.{sound_seen}

-- ---- Which pairs are known.

-- the pair at an index, which is this one if it isn't known after its removal
at_index : (p : EndpointPair) (ps : List EndpointPair) (i : ℕ) → i < length ps →
    is_some (index_of p ps) ≡ true → index_of p (remove ps i) ≡ None → get_or ps i p ≡ p
unfolding index_of
at_index p [] i l k e = absurd (omega (arith, l))
at_index p (q ∷ qs) zero l k e = search (
  arith,
  cases_Bool,
  is_eq,
  same_pair_of,
  equal_of,
  true≢false,
  is_some,
  cond-false,
)
at_index p (q ∷ qs) (suc i) l k e =
    elim (cases_Bool (is_eq (compare_pairs q p))) [
      | inl b ↦ absurd (true≢false (ap is_some (sym (cond-true (is_eq (compare_pairs q p)) (Some 0)
          (option_map suc (index_of p (remove qs i))) b) ∙ e)))
      | inr b ↦
          at_index p qs i (omega (arith, l))
          (mapped (index_of p qs) (ap is_some (sym (cond-false (is_eq (compare_pairs q p)) (Some 0)
          (option_map suc (index_of p qs)) b)) ∙ k))
          (unmapped (index_of p (remove qs i)) (sym (cond-false (is_eq (compare_pairs q p)) (Some 0)
          (option_map suc (index_of p (remove qs i))) b) ∙ e))
    ]
  where
    mapped : (o : Option ℕ) → is_some (option_map suc o) ≡ true → is_some o ≡ true
    mapped None h = h
    mapped (Some n) h = refl

    unmapped : (o : Option ℕ) → option_map suc o ≡ None → o ≡ None
    unmapped None h = refl
    unmapped (Some n) h = absurd (true≢false (ap is_some h))

-- a pair that isn't known after an insertion wasn't known before
none_before_insert : (p x : EndpointPair) (ps : List EndpointPair) (i : ℕ) →
    index_of p (insert ps i x) ≡ None → index_of p ps ≡ None
unfolding index_of
none_before_insert p x [] i e = refl
none_before_insert p x (q ∷ qs) zero e = unmapped (index_of p (q ∷ qs))
    (second (is_eq (compare_pairs x p)) (option_map suc (index_of p (q ∷ qs))) e)
  where
    unmapped : (o : Option ℕ) → option_map suc o ≡ None → o ≡ None
    unmapped None h = refl
    unmapped (Some n) h = absurd (true≢false (ap is_some h))

    second : (b : Bool) (o : Option ℕ) → cond b (Some 0) o ≡ None → o ≡ None
    second true o h = absurd (true≢false (ap is_some h))
    second false o h = h
none_before_insert p x (q ∷ qs) (suc i) e =
    by (is_eq (compare_pairs q p)) (index_of p (insert qs i x)) (index_of p qs)
    (λ d. none_before_insert p x qs i d) e
  where
    by : (b : Bool) (o r : Option ℕ) → (o ≡ None → r ≡ None) →
        cond b (Some 0) (option_map suc o) ≡ None → cond b (Some 0) (option_map suc r) ≡ None
    by true o r f h = h
    by false None r f h = ap (option_map suc) (f refl)
    by false (Some n) r f h = absurd (true≢false (ap is_some h))

both : {X : Type 0} (p : Option X) → is_some p ≡ true → p ≡ None → ⊥
both p k e = true≢false (sym k ∙ ap is_some e)

-- ---- What a segment does.

-- a segment of a connection that isn't known
unknown_gone : (F : Reader) (w : State) (s : Segment) (p : EndpointPair) →
    1 ≤ length w.lasts → index_of (pair_of s.flow).0 w.known ≡ None →
    is_some (index_of p w.known) ≡ true
    → index_of p (unknown_taken F w s).known ≡ None → MakesWay w s p
unfolding made_known
unknown_gone F w s p some new k e =
    elim (cases_Bool (is_first_payload w.ports s)) [
      | inr f ↦ absurd (both (index_of p w.known) k
          (sym (ap (index_of p) (ap (λ (u : State). u.known) (unknown_nothing F w s f)
          ∙ (looked_kept w s).known)) ∙ e))
      | inl f ↦
          (let v : State = with_room F w in
          let pair : EndpointPair = (pair_of s.flow).0 in
          let made : State = made_known v pair in
          let id : ℕ = flow_id (next_slot v.free) (pair_of s.flow).1 in
          let begun : State = began F made id (first_number s) s.payload in
          let known : (fin_taken F begun id s).known ≡ made.known =
          (fin_kept F begun id s).known ∙ (began_kept F made id (first_number s) s.payload).known in
          let gone : index_of p v.known ≡ None =
          none_before_insert p pair v.known (insertion_index pair v.known)
          (sym (ap (index_of p) known)
          ∙ sym (ap (λ (u : State). index_of p u.known) (unknown_first F w s f)) ∙ e) in
          elim (cases_lt (length w.known) (length w.lasts)) [
            | inl l ↦ absurd (both (index_of p w.known) k
                (sym (ap (λ (u : State). index_of p u.known) (room_there F w l)) ∙ gone))
            | inr g ↦
                (let slot : MakesRoom F w =
                eldest_makes_room F w (omega (arith, g, some)) g in
                let id : ℕ = slot_at w slot.index in
                record {
                  begins = f;
                  new = new;
                  full = g;
                  index = slot.index;
                  eldest = slot.eldest;
                  is = at_index p w.known slot.index slot.eldest.within k
                      (sym (ap (index_of p) (ap (λ (u : State). u.known) slot.cleared
                      ∙ shown_known F w slot.index id (elder_side id (lives w.events))
                      (elder_side id (lives (shown_by_age F w id).events)) Room)) ∙ gone);
                })
          ])
    ]

-- the pair at its index
at_own : (q d : EndpointPair) (ps : List EndpointPair) (i : ℕ) → index_of q ps ≡ Some i →
    get_or ps i d ≡ q
unfolding index_of
at_own q d [] i e = search (arith, true≢false, is_some)
at_own q d (x ∷ xs) i e =
    elim (cases_Bool (is_eq (compare_pairs x q))) [
      | inl b ↦
          (let z : 0 ≡ i = some_number 0 i (sym (cond-true (is_eq (compare_pairs x q)) (Some 0)
          (option_map suc (index_of q xs)) b) ∙ e) in
          ap (λ (n : ℕ). get_or (x ∷ xs) n d) (sym z)
          ∙ same_pair_of x q (equal_of (compare_pairs x q) b))
      | inr b ↦ further (index_of q xs) i (λ k r. at_own q d xs k r)
          (sym (cond-false (is_eq (compare_pairs x q)) (Some 0) (option_map suc (index_of q xs)) b)
          ∙ e)
    ]
  where
    some_number : (m n : ℕ) → Some m ≡ Some n → m ≡ n
    some_number m n r = search (arith, unwrap_or)

    further : (o : Option ℕ) (i : ℕ) → ((k : ℕ) → o ≡ Some k → get_or xs k d ≡ q) →
        option_map suc o ≡ Some i → get_or (x ∷ xs) i d ≡ q
    further None i f r = search (arith, true≢false, is_some)
    further (Some k) i f r = search (arith, get_or, some_number)

-- the connection of the segment is forgotten
own_gone : (q p : EndpointPair) (ps : List EndpointPair) (index : ℕ) → index < length ps →
    index_of q ps ≡ Some index → is_some (index_of p ps) ≡ true
    → index_of p (remove ps index) ≡ None → q ≡ p
own_gone q p ps index l found k e =
    sym (at_own q p ps index found) ∙ at_index p ps index l k e

-- what a RST that counts says of its flow
reset_of : (o : Option FlowState) (s : Segment) → is_reset o s ≡ true →
    (f : FlowState) × ((o ≡ Some f) × ((s.reset ≡ true) × (is_near f.next s.sequence ≡ true)))
unfolding is_near_due
reset_of None s a = search (arith, true≢false)
reset_of (Some f) s a = search (arith, both, true≢false)

-- a segment of a connection that is known
known_gone : (F : Reader) (w : State) (index : ℕ) (s : Segment) (p : EndpointPair) →
    index < length w.known → index_of (pair_of s.flow).0 w.known ≡ Some index
    → is_some (index_of p w.known) ≡ true → index_of p (known_taken F w index s).known ≡ None
    → ((pair_of s.flow).0 ≡ p)
    × (is_reset (flow_of_side (before_reset F w index s) index (pair_of s.flow).1) s ≡ true)
unfolding known_taken
known_gone F w index s p l found k e = search (
  arith,
  set,
  fin_kept,
  payload_kept,
  acknowledgement_kept,
  heard_kept,
  cases_Bool,
  both,
  no_reset,
  shown_known,
  a_reset,
  own_gone,
)

-- what a segment that begins its connection anew says of the SYN that is kept
anew_of : (w : State) (s : Segment) (index : ℕ) →
    begins_anew (syn_at w (slot_at w index)) (flow_id (slot_at w index) (pair_of s.flow).1) s
    ≡ true →
    BeginsAnew w s index
unfolding begins_anew
anew_of w s index a = search (arith, true≢false)

-- a segment that begins its connection anew
anew_gone : (F : Reader) (w : State) (index : ℕ) (side : Side) (s : Segment) (p : EndpointPair) →
    IsSound w → index < length w.known → index_of (pair_of s.flow).0 w.known ≡ Some index
    → is_some (index_of p w.known) ≡ true
    → index_of p (unknown_taken F (ended_by F w index side Syn) s).known ≡ None →
    (pair_of s.flow).0 ≡ p
anew_gone F w index side s p h l found k e = search (
  arith,
  shown_known,
  length-remove,
  shown_lasts,
  cases_Bool,
  is_some,
  own_gone,
  unknown_gone,
  forgotten_unknown,
  true≢false,
)

kept_known : (p : EndpointPair) (u : State) (slot id : ℕ) (s : Segment) →
    index_of p (syn_kept u slot id s).known ≡ None → index_of p u.known ≡ None
unfolding syn_kept
kept_known p u slot id s e = e

pub step_gone : (F : Reader) (w : State) (s : Segment) (p : EndpointPair) → IsSound w →
    is_some (index_of p w.known) ≡ true → index_of p (step F w s).known ≡ None →
    IsForgottenBy F w s p
step_gone F w s p h k e = by (index_of (pair_of s.flow).0 w.known) refl
  where
    v : State
    v = record w { segments = w.segments + 1 }

    sound : IsSound v
    sound = search (arith, sound_seen)

    after_step : (u : State) → step F w s ≡ u → index_of p u.known ≡ None
    after_step u d = search (arith)

    by : (o : Option ℕ) → index_of (pair_of s.flow).0 w.known ≡ o → IsForgottenBy F w s p
    by None d = search (arith, unknown_gone, after_step, step_unknown)
    by (Some index) d =
        let side : Side = (pair_of s.flow).1 in
        let within : index < length w.known = index_within (pair_of s.flow).0 w.known index d in
        let slot : ℕ = slot_at w index in
        let id : ℕ = flow_id slot side in
        elim (cases_Bool (is_syn_to_keep (flow_of_side w index side) s)) [
          | inl n ↦ absurd (both (index_of p w.known) k
              (kept_known p v slot id s (after_step (syn_kept v slot id s)
              (step_kept F w s index d n))))
          | inr n ↦
              elim (cases_Bool (begins_anew (syn_at w slot) id s)) [
                | inl a ↦
                    (let own = anew_gone F v index side s p sound within d k
                    (after_step (unknown_taken F (ended_by F v index side Syn) s)
                    (step_anew F w s index d n a)) in
                    inl (record {
                      own = own;
                      index = index;
                      at = ap (λ (q : EndpointPair). index_of q w.known) (sym own) ∙ d;
                      is = inl (anew_of w s index a);
                    }))
                | inr a ↦
                    (let gone = known_gone F v index s p within d k
                    (after_step (known_taken F v index s) (step_known F w s index d n a)) in
                    let r = reset_of (flow_of_side (before_reset F v index s) index side) s gone.1
                    in
                    inl (record {
                      own = gone.0;
                      index = index;
                      at = ap (λ (q : EndpointPair). index_of q w.known) (sym gone.0) ∙ d;
                      is = inr (record {
                        flow = r.0;
                        is = r.1.0;
                        reset = r.1.1.0;
                        near = r.1.1.1;
                      });
                    }))
              ]
        ]

after_last : (F : Reader) (w : State) (ss : List Segment) (s : Segment) →
    after F w (ss ++ s ∷ []) ≡ step F (after F w ss) s
unfolding after
after_last F w [] s = refl
after_last F w (x ∷ ss) s = after_last F (step F w x) ss s

pub after_gone : (F : Reader) (ports : List ℕ) (blocks most : ℕ) (segments : List Segment)
    (s : Segment) (p : EndpointPair) → 1 ≤ most → most ≤ 65536
    → is_some (index_of p (after F (none_known ports blocks most []) segments).known) ≡ true
    → index_of p (after F (none_known ports blocks most []) (segments ++ s ∷ [])).known ≡ None
    → IsForgottenBy F (after F (none_known ports blocks most []) segments) s p
after_gone F ports blocks most segments s p some few k e =
    let w : State = after F (none_known ports blocks most []) segments in
    step_gone F w s p
    (no_more segments w (after_all F ports blocks most segments some few)).sound k
    (sym (ap (λ (u : State). index_of p u.known)
    (after_last F (none_known ports blocks most []) segments s)) ∙ e)
