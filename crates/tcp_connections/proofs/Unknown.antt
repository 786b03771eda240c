-- A connection becomes known: there is room for it, and it has no flows yet.
use Rattle.std.proofs.Common.{◌≡◌, ℕ, zero, suc, ◌+◌, ◌-◌, ◌<◌, Bool, true, false, cond, nat_eq, length, None, refl, sym, ◌∙◌, ap, subst, arith, inl, inr}
use Rattle.std.specs.List.{remove}
use Rattle.std.proofs.lemmas.Bool.{cases_lt}
use Rattle.std.proofs.lemmas.List.Edits.{length-remove}
use Rattle.tcp_flow.specs.declared.flow.CloseCause.TheVariants.{Room}
use Rattle.tcp_flow.specs.Flow.{Reader}
use Rattle.tcp_streams.specs.declared.pair.EndpointPair.{EndpointPair}
use Rattle.tcp_streams.specs.declared.pair.Side.{Side}
use Rattle.tcp_streams.specs.declared.pair.Side.TheVariants.{FromLesser, FromGreater}
use Rattle.tcp_streams.specs.Lives.{lives, elder_side}
use Rattle.tcp_streams.specs.Pairs.{flow_id}
use Rattle.tcp_connections.specs.Connections.{State, flow_at, slot_at, index_of, insertion_index, makes_room_before, eldest, shown_by_age, cleared, with_room, next_slot, made_known}
use Rattle.tcp_connections.specs.State.{IsSound, times}
use Rattle.tcp_connections.proofs.Cases.{room_there, room_made}
use Rattle.tcp_connections.proofs.Search.{unknown_remove}
use Rattle.tcp_connections.proofs.Shown.{shown_known, shown_lasts}
use Rattle.tcp_connections.proofs.Times.{times_at, times_insert, times_own}

either_below : (b : Bool) (m n k : ℕ) → m < k → n < k → cond b m n < k
either_below true m n k h g = h
either_below false m n k h g = g

pub eldest_below : (w : State) (n : ℕ) → eldest w (suc n) < suc n
unfolding eldest
eldest_below w zero = either_below (makes_room_before w 0 0) 0 0 1 (omega arith) (omega arith)
eldest_below w (suc n) = let h = eldest_below w n in
    either_below (makes_room_before w (suc n) (eldest w (suc n))) (suc n) (eldest w (suc n))
    (suc (suc n))
    (omega arith) (omega (arith, h))

pub eldest_within : (w : State) (n : ℕ) → 0 < n → eldest w n < n
eldest_within w zero l = absurd (omega (arith, l))
eldest_within w (suc n) l = eldest_below w n

-- after room was made there is some, and a pair that wasn't known still isn't
pub room_enough : (F : Reader) (w : State) (p : EndpointPair) → IsSound w →
    index_of p w.known ≡ None
    → (index_of p (with_room F w).known ≡ None)
    × (length (with_room F w).known < length (with_room F w).lasts)
room_enough F w p h new =
    elim (cases_lt (length w.known) (length w.lasts)) [
      | inl l ↦ subst (λ (v : State). (index_of p v.known ≡ None)
          × (length v.known < length v.lasts)) (sym (room_there F w l)) (new, l)
      | inr g ↦
          (let index : ℕ = eldest w (length w.known) in
          let slot : ℕ = slot_at w index in
          let first : Side = elder_side slot (lives w.events) in
          let v : State = shown_by_age F w slot in
          let side : Side = elder_side slot (lives v.events) in
          let within : index < length w.known =
          eldest_within w (length w.known) (omega (arith, g, h.some)) in
          let known : (cleared F w index).known ≡ remove w.known index =
          shown_known F w index slot first side Room in
          let shorter : length (remove w.known index) + 1 ≡ length w.known =
          length-remove w.known index within in
          subst (λ (v : State). (index_of p v.known ≡ None) × (length v.known < length v.lasts))
          (sym (room_made F w g)) (
            ap (index_of p) known ∙ unknown_remove p w.known index new,
            omega (
              arith,
              ap length known,
              shorter,
              ap length (shown_lasts F w index slot first side Room),
              h.all,
            ),
          ))
    ]

-- the slot that is taken next is free
pub next_free : (w : State) → IsSound w → length w.known < length w.lasts →
    0 < times (next_slot w.free) w.free
unfolding next_slot
next_free w h l = times_at w.free (length w.free - 1) (omega (arith, l, h.all))

pub next_below : (w : State) → IsSound w → length w.known < length w.lasts →
    next_slot w.free < length w.lasts
next_below w h l = h.below (next_slot w.free) (omega (arith, next_free w h l))

pub next_vacant : (w : State) (p : EndpointPair) (side : Side) → IsSound w →
    length w.known < length w.lasts → flow_at (made_known w p) (flow_id (next_slot w.free) side)
    ≡ None
unfolding made_known
next_vacant w p FromLesser h l = (h.freed (next_slot w.free) (next_free w h l)).0
next_vacant w p FromGreater h l = (h.freed (next_slot w.free) (next_free w h l)).1

pub next_taken : (w : State) (p : EndpointPair) →
    0 < times (next_slot w.free) (made_known w p).slots
unfolding made_known
next_taken w p =
    let own : ◌≡◌ {A = ℕ} (cond (nat_eq (next_slot w.free) (next_slot w.free)) 1 0) 1 =
    times_own (next_slot w.free) in
    omega (
      arith,
      times_insert (next_slot w.free) w.slots (insertion_index p w.known)
          (next_slot w.free),
      own,
    )

pub made_flows : (w : State) (p : EndpointPair) → length (made_known w p).flows ≡ length w.flows
unfolding made_known
made_flows w p = refl
