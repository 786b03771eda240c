-- A payload that is due at once is taken without being held: to hold it first makes no difference.
-- After the flow has gone on, no held payload is due.
use Rattle.std.proofs.Common.{◌≡◌, ℕ, zero, suc, ◌+◌, ◌^◌, ◌<◌, ◌≤◌, Bool, true, false, cond, nat_eq, nat_lt, nat_le, ◌&&◌, not, List, [], ◌∷◌, length, get_or, Option, Some, None, is_some, IfSome, refl, sym, ◌∙◌, ap, arith, add-one, inl, inr}
use Rattle.std.specs.Option.{option_map}
use Rattle.std.specs.List.{insert, remove}
use Rattle.std.proofs.lemmas.Bool.{cases_Bool, cases_eq, and_parts, or_parts, ltb-true, lt-ltb, true≢false, eqb-true, eqb-false, eq-eqb, ne_eqb, both_ways, cond-true, cond-false, not-true, not-false, or_from, or_left, and_left, and_right, not_from_true}
use Rattle.std.proofs.lemmas.List.{get_or_default}
use Rattle.std.proofs.lemmas.List.Edits.{length-insert, get_or-insert_at}
use Rattle.tcp_flow.specs.declared.hearing.Heard.{Heard}
use Rattle.tcp_flow.specs.declared.flow.CloseCause.TheVariants.{Fin}
use Rattle.tcp_waiting.specs.Numbers.{is_to_come, rank}
use Rattle.tcp_waiting.specs.Payload.{Payload, no_payload, oldest_with, oldest_index, holds_as_long, put, place_of, key_of, holds_beyond_window, blocks_of}
use Rattle.tcp_flow.specs.Flow.{Flow, Reader, oldest_held, is_due, at, taken, drained_at_most, drained_due, fin_is_reached, closed, without_stale_fin, closed_at_fin, gone_on_with_held, closed_for_gap, octets_passed_over, with_gap, within_window, is_lost, heard, with_held, payload_came, without_old_octets, fin_came}
use Rattle.tcp_flow.specs.Laws.{AreLater, HoldsOnlyToCome}
use Rattle.tcp_waiting.proofs.Order.{both, first_here, first_within, place_within}
use Rattle.tcp_flow.proofs.Steps.{length_remove, flowing_none, flowing_stays, flowing_takes, due_not, window_stops, came_held, came_nothing}
use Rattle.tcp_flow.proofs.Obeying.{reached}
use Rattle.tcp_flow.proofs.Preserving.{either}
use Rattle.tcp_flow.proofs.Room.{HasSameHeld, taken_stays, none_some, left_flow, far_some, window_blocks}
use Rattle.tcp_flow.proofs.Firsts.{first_some, later_least, come_by_rank}

put_gone : (ps : List Payload) (i : ℕ) (q : Payload) → i ≤ length ps →
    remove (insert ps i q) i ≡ ps
put_gone ps zero q l = refl
put_gone [] (suc i) q l = absurd (omega (arith, l))
put_gone (p ∷ ps) (suc i) q l = search (arith, put_gone ps i q (omega (arith, l)))

either_place : (b : Bool) (i j : ℕ) (P : ℕ → Type 0)
    → P i → P j → IfSome (cond b (Some i) (Some j)) P
either_place true i j P p q = p
either_place false i j P p q = q

least_by : (id next n : ℕ) (p : Payload) (ps : List Payload) (c : Bool) (r : Option ℕ) →
    nat_eq p.flow id ≡ c → (p.flow ≡ id → n < rank next p.number)
    → IfSome r (λ i. n < rank next (get_or ps i no_payload).number)
    → IfSome (cond c (oldest_with next p ps r) (option_map suc r))
    (λ i. n < rank next (get_or (p ∷ ps) i no_payload).number)
unfolding oldest_with
least_by id next n p ps true None e own h = own (eqb-true p.flow id e)
least_by id next n p ps true (Some k) e own h = search (
  arith,
  either_place,
  nat_lt,
  get_or,
  eqb-true,
)
least_by id next n p ps false None e own h = tt
least_by id next n p ps false (Some k) e own h = h

-- the first payload is later than a rank if all are
least_later : (id next n : ℕ) (ps : List Payload) → AreLater id next n ps →
    IfSome (oldest_index id next ps) (λ i. n < rank next (get_or ps i no_payload).number)
unfolding AreLater oldest_index
least_later id next n [] h = tt
least_later id next n (p ∷ ps) h =
    least_by id next n p ps (nat_eq p.flow id) (oldest_index id next ps) refl h.0
    (least_later id next n ps h.1)

-- a payload that is before all others is the first
first_before : (id next : ℕ) (q : Payload) (ps : List Payload) → q.flow ≡ id →
    AreLater id next (rank next q.number) ps → oldest_index id next (q ∷ ps) ≡ Some 0
unfolding oldest_index
first_before id next q ps own h = rw (eq-eqb q.flow id own) (first_here next q ps
    (oldest_index id next ps) (both (oldest_index id next ps) _ _ _ (λ k w l. omega (
      arith,
      l,
      ap (λ (p : Payload). rank next p.number) (get_or_default ps k q no_payload w),
    )) (first_within id next ps) (least_later id next (rank next q.number) ps h)))

first_put : (id next : ℕ) (q : Payload) (ps : List Payload) (i : ℕ) → q.flow ≡ id →
    i ≤ length ps → AreLater id next (rank next q.number) ps
    → oldest_index id next (insert ps i q) ≡ Some i
unfolding oldest_index oldest_with AreLater
first_put id next q ps zero own l h = search (arith, first_before)
first_put id next q [] (suc i) own l h = absurd (omega (arith, l))
first_put id next q (p ∷ ps) (suc i) own l h =
    let l' : i ≤ length ps = omega (arith, l) in
    let e : oldest_index id next (insert ps i q) ≡ Some i = first_put id next q ps i own l' h.1 in
    elim (cases_eq p.flow id) [
      | inl x ↦ rw (
        eq-eqb p.flow id x,
        e,
        get_or-insert_at ps i q p l',
        lt-ltb (rank next q.number) (rank next p.number) (h.0 x),
      ) refl
      | inr x ↦ rw (ne_eqb p.flow id x, e) refl
    ]

-- to hold a payload that is due and go on is to take it and go on
pub gone_on_direct : (F : Reader) (f : Flow) (q : Payload) → q.flow ≡ f.id →
    AreLater f.id f.next (rank f.next q.number) f.held →
    ((is_some f.live) && is_to_come f.next q.number) ≡ false
    → gone_on_with_held F (with_held f q) ≡ gone_on_with_held F (taken F f q)
unfolding gone_on_with_held drained_due with_held oldest_held at is_due
gone_on_direct F f q own h due =
    let g : Flow = record f { held = put q f.held } in
    let i : ℕ = place_of (key_of q) f.held in
    let m : ℕ = length f.held in
    let l : i ≤ m = place_within (key_of q) f.held in
    let e : oldest_held g ≡ Some i = first_put f.id f.next q f.held i own l h in
    let here : at g i ≡ q = get_or-insert_at f.held i q no_payload l in
    let now : is_due g i ≡ true = rw (here, due) refl in
    let n : length g.held ≡ suc m = length-insert f.held i q l ∙ add-one m in
    let goes : drained_at_most F (suc m) g
    ≡ drained_at_most F m (taken F (record g { held = remove g.held i }) (at g i)) =
    flowing_takes F m g i e now in
    let same : drained_at_most F m (taken F (record g { held = remove g.held i }) (at g i))
    ≡ drained_at_most F m (taken F f q) = rw (put_gone f.held i q l, here) refl in
    let s : HasSameHeld f (taken F f q) = taken_stays F f q in
    let o : m ≡ length (taken F f q).held = ap length (sym s.held) in
    ap (λ (d : Flow). without_stale_fin (closed_at_fin F d))
    (ap (λ (k : ℕ). drained_at_most F k g) n ∙ goes ∙ same
    ∙ ap (λ (k : ℕ). drained_at_most F k (taken F f q)) o)

-- a flow that holds nothing holds only payloads that are later than any rank
later_none : (id next n : ℕ) (ps : List Payload) → is_some (oldest_index id next ps) ≡ false →
    AreLater id next n ps
unfolding AreLater
later_none id next n [] h = tt
later_none id next n (p ∷ ps) h =
    let e : (nat_eq p.flow id ≡ false) × (is_some (oldest_index id next ps) ≡ false) =
    or_parts (nat_eq p.flow id) (is_some (oldest_index id next ps))
    (sym (first_some id next p ps) ∙ h)
    in
    ((λ x. absurd (eqb-false p.flow id e.0 x)), later_none id next n ps e.1)

NoneIsDue : Flow → Type 0
NoneIsDue f = IfSome (oldest_held f) (λ i. is_due f i ≡ false)

none_if : (r : Option ℕ) (P : ℕ → Type 0) → is_some r ≡ false → IfSome r P
none_if None P h = tt
none_if (Some i) P h = absurd (true≢false h)

some_if : (r : Option ℕ) (P : ℕ → Type 0) (i : ℕ) → r ≡ Some i → P i → IfSome r P
some_if r P i e p = search (arith)

shorter : (F : Reader) (f : Flow) (i count : ℕ) → oldest_held f ≡ Some i →
    length f.held ≤ suc count →
    length (taken F (record f { held = remove f.held i }) (at f i)).held ≤ count
unfolding oldest_held
shorter F f i count e l =
    let within : i < length f.held = rw e at (first_within f.id f.next f.held) in
    let s : HasSameHeld (record f { held = remove f.held i })
    (taken F (record f { held = remove f.held i }) (at f i)) =
    taken_stays F (record f { held = remove f.held i }) (at f i) in
    omega (arith, l, length_remove f.held i within, ap length s.held)

if_more : (r : Option ℕ) (P Q : ℕ → Type 0) → ((i : ℕ) → P i → Q i) → IfSome r P → IfSome r Q
if_more None P Q k h = tt
if_more (Some i) P Q k h = k i h

if_none : (r : Option ℕ) (P : ℕ → Type 0) → ((i : ℕ) → P i → ⊥) → IfSome r P → is_some r ≡ false
if_none None P k h = refl
if_none (Some i) P k h = absurd (k i h)

to_come_place : (next n : ℕ) → is_to_come next n ≡ true → 2 ^ 31 < rank next n
to_come_place next n h = search (arith, nat_lt, and_parts, ltb-true)

-- after the first payload was taken while it was due, none is due
flowing_ends : (F : Reader) (count : ℕ) (f : Flow) → length f.held ≤ count →
    NoneIsDue (drained_at_most F count f)
unfolding drained_at_most NoneIsDue
flowing_ends F zero f l = search (arith, none_if, none_some)
flowing_ends F (suc count) f l =
    elim (oldest_held f) as (λ (r : Option ℕ). oldest_held f ≡ r → NoneIsDue (elim r [
      | None ↦ f
      | Some i ↦ elim (is_due f i) [
        | true ↦ drained_at_most F count
            (taken F (record f { held = remove f.held i }) (at f i))
        | false ↦ f
      ]
    ])) [
      | None ↦ (λ e. none_if (oldest_held f) (λ i. is_due f i ≡ false) (ap is_some e))
      | Some i ↦
          (λ e.
          elim (is_due f i) as (λ (b : Bool). is_due f i ≡ b →
          NoneIsDue (elim b [
            | true ↦ drained_at_most F count
                (taken F (record f { held = remove f.held i }) (at f i))
            | false ↦ f
          ])) [
            | true ↦ (λ d. flowing_ends F count
                (taken F (record f { held = remove f.held i }) (at f i)) (shorter F f i count e l))
            | false ↦ (λ d. some_if (oldest_held f) (λ j. is_due f j ≡ false) i e d)
          ] refl)
    ] refl

-- if no held payload is due, the flow is settled
ended_settled : (f : Flow) → f.next < 2 ^ 32 → NoneIsDue f → HoldsOnlyToCome f
unfolding NoneIsDue oldest_held is_due at
ended_settled f small h = search (
  arith,
  later_least,
  if_more,
  not,
  is_some,
  get_or,
  to_come_place,
  and_parts,
  not-false,
  if_none,
  both_ways,
)

-- after the flow has gone on, no held payload is due
gone_on_ends : (F : Reader) (f : Flow) → NoneIsDue (gone_on_with_held F f)
unfolding gone_on_with_held closed_at_fin without_stale_fin drained_due NoneIsDue oldest_held is_due
    at
gone_on_ends F f =
    let d : Flow = drained_at_most F (length f.held) f in
    let c : Flow = record (closed d Fin) { fin = None } in
    let e : Flow = cond (fin_is_reached d.next (is_some d.live) d.fin)
    (drained_at_most F (length c.held) c) d in
    let h : NoneIsDue e = either NoneIsDue (fin_is_reached d.next (is_some d.live) d.fin)
    (drained_at_most F (length c.held) c) d (flowing_ends F (length c.held) c (omega arith))
    (flowing_ends F (length f.held) f (omega arith)) in
    either NoneIsDue (is_some e.live) e (record e { fin = None }) h h

window_ends : (F : Reader) (count : ℕ) (f : Flow) → NoneIsDue f →
    NoneIsDue (within_window F count f)
unfolding within_window with_gap
window_ends F zero f h = h
window_ends F (suc count) f h =
    elim (holds_beyond_window f.id f.next f.held) as (λ (b : Bool).
    NoneIsDue (elim b [ true ↦ within_window F count (with_gap F f) | false ↦ f ])) [
      | true ↦ window_ends F count (with_gap F f)
          (gone_on_ends F (closed_for_gap f (octets_passed_over F f)))
      | false ↦ h
    ]

pub came_settled : (F : Reader) (f : Flow) (p : Payload) → HoldsOnlyToCome f →
    (payload_came F f p).next < 2 ^ 32 → HoldsOnlyToCome (payload_came F f p)
unfolding payload_came
came_settled F f p t = search (
  arith,
  is_some,
  either,
  nat_eq,
  ended_settled,
  window_ends,
  gone_on_ends,
)

pub fin_settled : (F : Reader) (f : Flow) (n : ℕ) → HoldsOnlyToCome f →
    (fin_came F f n).next < 2 ^ 32 →
    HoldsOnlyToCome (fin_came F f n)
unfolding fin_came
fin_settled F f n t = search (arith, either, is_some, nat_eq, ended_settled, gone_on_ends)

pub gap_settled : (F : Reader) (f : Flow) → (with_gap F f).next < 2 ^ 32 →
    HoldsOnlyToCome (with_gap F f)
unfolding with_gap
gap_settled F f small = search (arith, ended_settled, gone_on_ends)

abbrev IsSettledIfSmall : (flow : Flow) → Type 0
IsSettledIfSmall g = g.next < 2 ^ 32 → HoldsOnlyToCome g

heard_by : (F : Reader) (count : ℕ) (h : Heard) (f : Flow) → IsSettledIfSmall f →
    IsSettledIfSmall (heard F count h f)
unfolding heard with_gap
heard_by F zero h f t = t
heard_by F (suc count) h f t =
    elim (is_lost h f) as
    (λ (b : Bool). IsSettledIfSmall
    (elim b [ true ↦ heard F count h (with_gap F f) | false ↦ f ])) [
      | true ↦ heard_by F count h (with_gap F f)
          (λ s. ended_settled (with_gap F f) s (gone_on_ends F
          (closed_for_gap f (octets_passed_over F f))))
      | false ↦ t
    ]

pub heard_settled : (F : Reader) (count : ℕ) (h : Heard) (f : Flow) → HoldsOnlyToCome f →
    (heard F count h f).next < 2 ^ 32 → HoldsOnlyToCome (heard F count h f)
heard_settled F count h f t = heard_by F count h f (λ s. t)

pub fresh_settled : (f : Flow) → (is_some f.live) ≡ false → is_some (oldest_held f) ≡ false →
    HoldsOnlyToCome f
unfolding oldest_held oldest_index
fresh_settled f dead none = search (arith, both_ways, is_some)

later_has : (id next number count : ℕ) (ps : List Payload) →
    AreLater id next (rank next number) ps → holds_as_long id number count ps ≡ false
unfolding AreLater holds_as_long
later_has id next number count [] h = refl
later_has id next number count (p ∷ ps) h = search (
  arith,
  or_from,
  nat_eq,
  nat_le,
  and_left,
  cases_Bool,
  and_right,
  ne_eqb,
  eqb-true,
  later_has id next number count ps h.1,
)

-- a payload that is due in a settled flow is before all that it holds
due_later : (f : Flow) (q : Payload) → f.next < 2 ^ 32 → HoldsOnlyToCome f →
    ((is_some f.live) ≡ true → q.number ≡ f.next) →
    AreLater f.id f.next (rank f.next q.number) f.held
unfolding oldest_held
due_later f q small t due = search (arith, cases_Bool, is_some, later_none)

-- a payload that is due at once does the same without being held
pub came_direct : (F : Reader) (f : Flow) (p q : Payload) →
    q ≡ without_old_octets f.next (is_some f.live) p →
    p.flow ≡ f.id → f.next < 2 ^ 32 → HoldsOnlyToCome f → nat_eq (length q.octets) 0 ≡ false
    → ((is_some f.live) ≡ true → q.number ≡ f.next) →
    ((is_some f.live) && is_to_come f.next q.number) ≡ false
    → payload_came F f p ≡ within_window F (length f.held + 1)
    (gone_on_with_held F (taken F f q))
came_direct F f p q e own small t some due now = search (
  arith,
  due_later,
  left_flow,
  is_some,
  came_held,
  or_from,
  nat_eq,
  later_has,
  gone_on_direct,
)

-- a flow that isn't in step and holds nothing takes the payload, and no more is held
pub first_blocks : (F : Reader) (f : Flow) (p : Payload) → p.flow ≡ f.id → f.next < 2 ^ 32 →
    is_some f.live ≡ false → is_some (oldest_held f) ≡ false →
    blocks_of (payload_came F f p).held ≤ blocks_of f.held
first_blocks F f p own small dead none =
    let q : Payload = without_old_octets f.next (is_some f.live) p in
    elim (cases_Bool (nat_eq (length q.octets) 0)) [
      | inl e ↦ rw (came_nothing F f p q refl (or_left (nat_eq (length q.octets) 0)
          (holds_as_long f.id q.number (length q.octets) f.held) e)) (omega arith)
      | inr e ↦
          (let t : HasSameHeld f (taken F f q) = taken_stays F f q in
          rw (came_direct F f p q refl own small (fresh_settled f dead none) e
          (λ l. absurd (true≢false (sym l ∙ dead)))
          (and_left (is_some f.live) (is_to_come f.next q.number) dead)) (omega (
            arith,
            window_blocks F (length f.held + 1) (taken F f q),
            ap blocks_of t.held,
          )))
    ]

-- what is left of a payload is due if it isn't to come
pub due_number : (next : ℕ) (live : Bool) (p q : Payload) → next < 2 ^ 32 → p.number < 2 ^ 32 →
    live ≡ true → q ≡ without_old_octets next live p → is_to_come next q.number ≡ false →
    q.number ≡ next
unfolding without_old_octets
due_number next live p q small bound l e h = search (
  arith,
  nat_lt,
  not,
  and_right,
  not_from_true,
  cond-false,
  cases_Bool,
  ltb-true,
  and_parts,
  lt-ltb,
  both_ways,
  reached,
)

-- ---- A payload that is to come is held, and none is due.

later_put : (id next n : ℕ) (ps : List Payload) (i : ℕ) (q : Payload) → AreLater id next n ps →
    n < rank next q.number → AreLater id next n (insert ps i q)
unfolding AreLater
later_put id next n [] zero q h l = ((λ o. l), tt)
later_put id next n [] (suc i) q h l = ((λ o. l), tt)
later_put id next n (p ∷ ps) zero q h l = ((λ o. l), h)
later_put id next n (p ∷ ps) (suc i) q h l = (h.0, later_put id next n ps i q h.1 l)

-- a payload that is to come is held, and then nothing is taken
pub gone_on_held : (F : Reader) (f : Flow) (q : Payload) → HoldsOnlyToCome f →
    is_some f.live ≡ true →
    is_to_come f.next q.number ≡ true
    → without_stale_fin (closed_at_fin F (with_held f q)) ≡ gone_on_with_held F (with_held f q)
unfolding gone_on_with_held drained_due with_held oldest_held at
gone_on_held F f q t live come =
    let g : Flow = record f { held = put q f.held } in
    let later : AreLater f.id f.next (2 ^ 31) g.held = later_put f.id f.next (2 ^ 31) f.held
    (place_of (key_of q) f.held) q
    (t.live live) (to_come_place f.next q.number come) in
    let least = least_later f.id f.next (2 ^ 31) g.held later in
    let stays : drained_at_most F (length g.held) g ≡ g =
    elim (oldest_held g) as (λ (r : Option ℕ). oldest_held g ≡ r →
    IfSome r (λ i. 2 ^ 31 < rank f.next (get_or g.held i no_payload).number) →
    drained_at_most F (length g.held) g ≡ g) [
      | None ↦ (λ e h. flowing_none F (length g.held) g e)
      | Some i ↦ (λ e h. flowing_stays F (length g.held) g i e
          (due_not g i live (come_by_rank f.next (get_or g.held i no_payload).number h)))
    ] refl least in
    ap (λ (d : Flow). without_stale_fin (closed_at_fin F d)) (sym stays)

-- a flow that keeps neither a payload nor a FIN goes on unchanged
not_reached : (next : ℕ) (live : Bool) (fin : Option ℕ) → fin ≡ None →
    fin_is_reached next live fin ≡ false
unfolding fin_is_reached
not_reached next live fin e = rw e refl

none_ended : (F : Reader) (f : Flow) → f.fin ≡ None → closed_at_fin F f ≡ f
unfolding closed_at_fin
none_ended F f e = search (arith, cond-false, is_some, not_reached)

none_stale : (f : Flow) → f.fin ≡ None → without_stale_fin f ≡ f
unfolding without_stale_fin
none_stale f e = search (arith, cases_Bool, is_some, cond-true, cond-false)

none_drained : (F : Reader) (f : Flow) → oldest_held f ≡ None → drained_due F f ≡ f
unfolding drained_due
none_drained F f e = search (arith, flowing_none)

none_gone_on : (F : Reader) (f : Flow) → oldest_held f ≡ None → f.fin ≡ None →
    gone_on_with_held F f ≡ f
unfolding gone_on_with_held
none_gone_on F f none fin = search (arith, none_drained, none_ended, none_stale)

none_of : (r : Option ℕ) → is_some r ≡ false → r ≡ None
none_of None h = refl
none_of (Some i) h = cc

none_far : (f : Flow) → oldest_held f ≡ None → holds_beyond_window f.id f.next f.held ≡ false
unfolding oldest_held
none_far f none =
    elim (cases_Bool (holds_beyond_window f.id f.next f.held)) [
      | inl e ↦ absurd (true≢false (sym (far_some f.id f.next f.held e) ∙ ap is_some none))
      | inr e ↦ e
    ]

pub nothing_kept : (F : Reader) (count : ℕ) (f : Flow) →
    (not (is_some (oldest_held f)) && not (is_some f.fin)) ≡ true →
    within_window F count (gone_on_with_held F f) ≡ f
nothing_kept F count f h =
    let kept = and_parts (not (is_some (oldest_held f))) (not (is_some f.fin)) h in
    let none : oldest_held f ≡ None = none_of (oldest_held f)
    (not-true (is_some (oldest_held f)) kept.0) in
    let fin : f.fin ≡ None = none_of f.fin (not-true (is_some f.fin) kept.1) in
    ap (within_window F count) (none_gone_on F f none fin)
    ∙ window_stops F count f (none_far f none)
