-- The definitions of a flow, case by case.
use Rattle.std.proofs.Common.{◌≡◌, ℕ, zero, suc, ◌+◌, ◌-◌, ◌<◌, ◌≤◌, true, false, nat_eq, ◌||◌, List, [], ◌∷◌, length, get_or, Some, None, is_some, refl, sym, ◌∙◌, ap, arith}
use Rattle.std.specs.List.{remove}
use Rattle.std.proofs.lemmas.Bool.{cond-true, cond-false, and_left, and_right, and_from}
use Rattle.tcp_waiting.specs.Numbers.{is_to_come}
use Rattle.tcp_waiting.proofs.Order.{first_within, first_own}
use Rattle.tcp_waiting.specs.Payload.{Payload, payload, no_payload, oldest_index, holds_as_long, holds_beyond_window}
use Rattle.tcp_flow.specs.declared.hearing.Heard.{Heard}
use Rattle.tcp_flow.specs.Flow.{Flow, Reader, without_old_octets, delivered, looked_through, tail_continued_by, with_arrival_told, begun_if_awaited, taken, oldest_held, is_due, at, drained_at_most, within_window, with_gap, is_lost, heard, payload_came, gone_on_with_held, with_held}

pub taken_none : (F : Reader) (f : Flow) (p q : Payload) →
    q ≡ without_old_octets f.next (is_some f.live) p →
    nat_eq (length q.octets) 0 ≡ true → taken F f p ≡ f
unfolding taken
taken_none F f p q e z = rw (← e, z) refl

pub taken_live : (F : Reader) (f : Flow) (p q : Payload) →
    q ≡ without_old_octets f.next (is_some f.live) p →
    nat_eq (length q.octets) 0 ≡ false → (is_some f.live) ≡ true →
    taken F f p ≡ delivered F (begun_if_awaited (with_arrival_told f p)) q
unfolding taken
taken_live F f p q e z l = search (arith, cond-true, is_some)

pub taken_dead : (F : Reader) (f : Flow) (p q : Payload) →
    q ≡ without_old_octets f.next (is_some f.live) p →
    nat_eq (length q.octets) 0 ≡ false → (is_some f.live) ≡ false →
    taken F f p ≡ looked_through F (with_arrival_told f p) q
    (tail_continued_by f.tail q.number q.octets)
unfolding taken
taken_dead F f p q e z l = search (arith, cond-false, is_some)

-- no held payload is taken if there is none
pub flowing_none : (F : Reader) (count : ℕ) (f : Flow) → oldest_held f ≡ None →
    drained_at_most F count f ≡ f
unfolding drained_at_most
flowing_none F zero f e = refl
flowing_none F (suc count) f e = rw (e, drained_at_most) refl

pub flowing_stays : (F : Reader) (count : ℕ) (f : Flow) (i : ℕ) → oldest_held f ≡ Some i →
    is_due f i ≡ false → drained_at_most F count f ≡ f
unfolding drained_at_most
flowing_stays F zero f i e d = refl
flowing_stays F (suc count) f i e d = search (arith)

pub flowing_takes : (F : Reader) (count : ℕ) (f : Flow) (i : ℕ) → oldest_held f ≡ Some i →
    is_due f i ≡ true → drained_at_most F (suc count) f
    ≡ drained_at_most F count (taken F (record f { held = remove f.held i }) (at f i))
unfolding drained_at_most
flowing_takes F count f i e d = search (arith)

pub length_remove : (ps : List Payload) (i : ℕ) → i < length ps →
    length ps ≡ suc (length (remove ps i))
length_remove [] i h = absurd (omega (arith, h))
length_remove (p ∷ ps) zero h = refl
length_remove (p ∷ ps) (suc i) h = ap suc (length_remove ps i (omega (arith, h)))

-- the first of a flow that is due is taken
pub drain_takes : (F : Reader) (f g : Flow) (i : ℕ) → oldest_index f.id f.next f.held ≡ Some i →
    is_due f i ≡ true
    → g ≡ taken F (record f { held = remove f.held i })
    (payload f.id (at f i).number (at f i).octets (at f i).arrival)
    → drained_at_most F (length f.held) f ≡ drained_at_most F (length (remove f.held i)) g
unfolding oldest_held at
drain_takes F f g i e d t =
    let within : i < length f.held = rw e at (first_within f.id f.next f.held) in
    let own : (get_or f.held i no_payload).flow ≡ f.id =
    rw e at (first_own f.id f.next no_payload f.held) in
    let same : payload f.id (at f i).number (at f i).octets (at f i).arrival ≡ at f i =
    ap (λ (n : ℕ). payload n (at f i).number (at f i).octets (at f i).arrival) (sym own) in
    let u : g ≡ taken F (record f { held = remove f.held i }) (at f i) =
    t ∙ ap (λ (p : Payload). taken F (record f { held = remove f.held i }) p) same in
    rw (length_remove f.held i within, u) (flowing_takes F (length (remove f.held i)) f i e d)

pub due_now : (f : Flow) (i : ℕ) → (is_some f.live) ≡ false → is_due f i ≡ true
unfolding is_due
due_now f i e = search (arith, and_left, is_some)

pub due_reached : (f : Flow) (i : ℕ) → is_to_come f.next (at f i).number ≡ false → is_due f i ≡ true
unfolding is_due
due_reached f i e = search (arith, and_right, is_some)

pub due_not : (f : Flow) (i : ℕ) → (is_some f.live) ≡ true →
    is_to_come f.next (at f i).number ≡ true → is_due f i ≡ false
unfolding is_due
due_not f i l e = search (arith, and_from, is_some)

-- no gaps if no held payload ends too far
pub window_stops : (F : Reader) (count : ℕ) (f : Flow) →
    holds_beyond_window f.id f.next f.held ≡ false →
    within_window F count f ≡ f
unfolding within_window
window_stops F zero f e = refl
window_stops F (suc count) f e = rw (e, within_window) refl

pub window_goes : (F : Reader) (count : ℕ) (f : Flow) → 0 < count →
    holds_beyond_window f.id f.next f.held ≡ true →
    within_window F count f ≡ within_window F (count - 1) (with_gap F f)
unfolding within_window
window_goes F zero f h e = absurd (omega (arith, h))
window_goes F (suc count) f h e = search (arith)

pub window_none : (F : Reader) (count : ℕ) (f : Flow) → count ≤ 0 → within_window F count f ≡ f
unfolding within_window
window_none F zero f h = refl
window_none F (suc count) f h = absurd (omega (arith, h))

-- no gaps if the packet says that nothing is lost
pub heard_stops : (F : Reader) (count : ℕ) (h : Heard) (f : Flow) → is_lost h f ≡ false →
    heard F count h f ≡ f
unfolding heard
heard_stops F zero h f e = refl
heard_stops F (suc count) h f e = rw (e, heard) refl

pub heard_goes : (F : Reader) (count : ℕ) (h : Heard) (f : Flow) → 0 < count → is_lost h f ≡ true →
    heard F count h f ≡ heard F (count - 1) h (with_gap F f)
unfolding heard
heard_goes F zero h f l e = absurd (omega (arith, l))
heard_goes F (suc count) h f l e = search (arith)

pub heard_none : (F : Reader) (count : ℕ) (h : Heard) (f : Flow) → count ≤ 0 → heard F count h f ≡ f
unfolding heard
heard_none F zero h f l = refl
heard_none F (suc count) h f l = absurd (omega (arith, l))

-- a payload comes that adds nothing
pub came_nothing : (F : Reader) (f : Flow) (p q : Payload) →
    q ≡ without_old_octets f.next (is_some f.live) p →
    (nat_eq (length q.octets) 0 || holds_as_long f.id q.number (length q.octets) f.held) ≡ true →
    payload_came F f p ≡ f
unfolding payload_came
came_nothing F f p q e t = search (arith, nat_eq, is_some, cond-true)

pub came_held : (F : Reader) (f : Flow) (p q : Payload) →
    q ≡ without_old_octets f.next (is_some f.live) p →
    (nat_eq (length q.octets) 0 || holds_as_long f.id q.number (length q.octets) f.held) ≡ false
    → payload_came F f p ≡ within_window F (length f.held + 1) (gone_on_with_held F (with_held f q))
unfolding payload_came
came_held F f p q e t = search (arith, nat_eq, is_some, cond-false)
