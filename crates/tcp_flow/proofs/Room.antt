-- How many blocks of the pool a step of a flow takes, and that its gaps end.
use Rattle.std.proofs.Common.{◌≡◌, ℕ, zero, suc, ◌+◌, ◌-◌, ◌/◌, ◌<◌, ◌≤◌, Bool, true, false, cond, nat_eq, nat_lt, ◌&&◌, not, List, [], ◌∷◌, length, get_or, Option, Some, None, is_some, refl, sym, ◌∙◌, ap, subst, arith, length-drop, inl, inr, unwrap_or, ◌^◌}
use Rattle.tcp_waiting.proofs.Queries.{blocks_insert}
use Rattle.std.specs.List.{remove}
use Rattle.std.proofs.lemmas.Bool.{cases_Bool, or_cases, and_parts, not-true, true≢false, or_left, or_right, cond-true, cond-false}
use Rattle.std.proofs.lemmas.List.{nil_from_length}
use Rattle.tcp_flow.specs.declared.flow.CloseCause.{CloseCause}
use Rattle.tcp_flow.specs.declared.flow.CloseCause.TheVariants.{Gap}
use Rattle.tcp_flow.specs.declared.hearing.Heard.{Heard}
use Rattle.tcp_waiting.specs.Numbers.{ahead, onward, age, is_to_come}
use Rattle.tcp_waiting.specs.Payload.{without_first, Payload, no_payload, window, oldest_index, blocks_of, holds_beyond_window, place_of, key_of}
use Rattle.tcp_flow.specs.Flow.{Flow, Reader, without_old_octets, with_event, stream_closed, lives, out_of_step, taken, oldest_held, is_due, at, drained_at_most, drained_due, closed, gone_on_with_held, awaiting_stream, closed_for_gap, passable_octets, octets_passed_over, with_gap, within_window, is_lost, heard, with_held, payload_came, fin_came}
use Rattle.tcp_waiting.proofs.Order.{first_within, first_own}
use Rattle.tcp_flow.proofs.Events.{EventsKeep, taken_kept, closed_kept}
use Rattle.tcp_flow.proofs.Firsts.{first_some, first_anywhere, first_reached}
use Rattle.tcp_flow.proofs.Steps.{length_remove, flowing_takes, due_now, due_reached}
use Rattle.tcp_flow.proofs.Preserving.{came_keeps, fin_keeps, gap_keeps, StepsKeep, flowing_by, rest_keeps, gone_on_keeps, window_keeps, heard_keeps}

same : {X : Type 0} (get : Flow → X) (b : Bool) (f g : Flow) (x : X) → get f ≡ x → get g ≡ x →
    get (cond b f g) ≡ x
same get true f g x e d = e
same get false f g x e d = d

-- the id and what is held are the same in both
pub record HasSameHeld (before after : Flow) : Type 0 where
  pub held : after.held ≡ before.held
  pub id : after.id ≡ before.id

stays_kept : (f : Flow) → EventsKeep (HasSameHeld f)
unfolding with_event
stays_kept f = record {
  tells = λ g e s. record { held = s.held; id = s.id };
  begins = λ g n s. record { held = s.held; id = s.id };
  delivers = λ g p s. record { held = s.held; id = s.id };
  closes = λ g n cause s. record { held = s.held; id = s.id };
  idles = λ g s. record { held = s.held; id = s.id };
  tails = λ g t s. record { held = s.held; id = s.id };
}

-- taking a payload changes neither the flow's id nor what is held
pub taken_stays : (F : Reader) (f : Flow) (p : Payload) → HasSameHeld f (taken F f p)
taken_stays F f p =
    taken_kept (HasSameHeld f) (stays_kept f) F f p (record { held = refl; id = refl })

closed_stays : (f : Flow) (cause : CloseCause) → HasSameHeld f (closed f cause)
closed_stays f cause =
    closed_kept (HasSameHeld f) (stays_kept f) f cause (record { held = refl; id = refl })

awaiting_stays : (f : Flow) (count : ℕ) → HasSameHeld f (awaiting_stream f count)
awaiting_stays f count = let s : HasSameHeld f (closed f Gap) = closed_stays f Gap in
    record { held = s.held; id = s.id }

-- a flow has what removing its own payloads keeps
pub record HeldSatisfies (Property : ℕ → List Payload → Type 0) (id : ℕ)
    (flow : Flow) : Type 0 where
  pub own : flow.id ≡ id
  pub held : Property id flow.held

holds_on : (P : ℕ → List Payload → Type 0) (id : ℕ) (f g : Flow) → HasSameHeld f g →
    HeldSatisfies P id f →
    HeldSatisfies P id g
holds_on P id f g s h = record { own = s.id ∙ h.own; held = subst (P id) (sym s.held) h.held }

pub held_keeps : (F : Reader) (P : ℕ → List Payload → Type 0) (id : ℕ) →
    ((ps : List Payload) (i : ℕ) → i < length ps → (get_or ps i no_payload).flow ≡ id →
    P id ps → P id (remove ps i))
    → StepsKeep F (HeldSatisfies P id)
unfolding oldest_held at
held_keeps F P id keeps =
    record {
      takes =
          λ f i e d h.
          let within : i < length f.held = rw e at (first_within f.id f.next f.held) in
          let own : (get_or f.held i no_payload).flow ≡ f.id =
          rw e at (first_own f.id f.next no_payload f.held) in
          let g : Flow = record f { held = remove f.held i } in
          holds_on P id g (taken F g (get_or f.held i no_payload))
          (taken_stays F g (get_or f.held i no_payload))
          (record { own = h.own; held = keeps f.held i within (own ∙ h.own) h.held });
      closes = λ f cause h. holds_on P id f (closed f cause) (closed_stays f cause) h;
      waits = λ f count live h. holds_on P id f (awaiting_stream f count)
          (awaiting_stays f count) h;
      fins = λ f n h. record { own = h.own; held = h.held };
    }

pub far_some : (id next : ℕ) (ps : List Payload) → holds_beyond_window id next ps ≡ true →
    is_some (oldest_index id next ps) ≡ true
unfolding holds_beyond_window
far_some id next [] h = absurd (true≢false (sym h))
far_some id next (p ∷ ps) h =
    first_some id next p ps
    ∙ elim (or_cases (nat_eq p.flow id && nat_lt window (ahead next p.number + length p.octets))
    (holds_beyond_window id next ps) h) [
      | inl x ↦ or_left (nat_eq p.flow id) (is_some (oldest_index id next ps))
          (and_parts (nat_eq p.flow id) (nat_lt window (ahead next p.number + length p.octets)) x).0
      | inr x ↦ or_right (nat_eq p.flow id) (is_some (oldest_index id next ps))
          (far_some id next ps x)
    ]

some_is : (r : Option ℕ) → is_some r ≡ true → (i : ℕ) × (r ≡ Some i)
some_is None h = absurd (true≢false (sym h))
some_is (Some i) h = (i, refl)

HasAtMost : ℕ → ℕ → List Payload → Type 0
HasAtMost most id ps = length ps ≤ most

most_keeps : (F : Reader) (most id : ℕ) → StepsKeep F (HeldSatisfies (HasAtMost most) id)
unfolding HasAtMost
most_keeps F most id = held_keeps F (HasAtMost most) id
    (λ ps i l own h. omega (arith, length_remove ps i l))

pub closed_dead : (f : Flow) (cause : CloseCause) → is_some (closed f cause).live ≡ false
unfolding closed with_event
closed_dead f cause = same (λ (g : Flow). is_some g.live) (lives f.live f.waits)
    (stream_closed f f.next cause) (out_of_step f) false refl refl

pub closed_next : (f : Flow) (cause : CloseCause) → (closed f cause).next ≡ f.next
unfolding closed with_event
closed_next f cause =
    same (λ (g : Flow). g.next) (lives f.live f.waits) (stream_closed f f.next cause)
    (out_of_step f)
    f.next refl refl

-- a flow takes at least one payload, if the first is due
due_shrinks : (F : Reader) (c : Flow) (i m : ℕ) → is_due c i ≡ true → oldest_held c ≡ Some i →
    length c.held ≤ suc m → HeldSatisfies (HasAtMost m) c.id (drained_due F c)
unfolding drained_due HasAtMost oldest_held
due_shrinks F c i m due e l =
    let within : i < length c.held = rw e at (first_within c.id c.next c.held) in
    let k : ℕ = length (remove c.held i) in
    let n : length c.held ≡ suc k = length_remove c.held i within in
    let g : Flow = record c { held = remove c.held i } in
    let s : HasSameHeld g (taken F g (at c i)) = taken_stays F g (at c i) in
    let h : HeldSatisfies (HasAtMost m) c.id (taken F g (at c i)) =
    record { own = s.id; held = omega (arith, n, ap length s.held) } in
    let on : HeldSatisfies (HasAtMost m) c.id (drained_at_most F k (taken F g (at c i))) =
    flowing_by F (HeldSatisfies (HasAtMost m) c.id) (most_keeps F m c.id) k
    (taken F g (at c i)) h in
    let goes : drained_at_most F (suc k) c ≡ drained_at_most F k (taken F g (at c i)) =
    flowing_takes F k c i e due in
    subst (λ (x : ℕ). HeldSatisfies (HasAtMost m) c.id (drained_at_most F x c)) (sym n)
    (subst (HeldSatisfies (HasAtMost m) c.id) (sym goes) on)

-- a flow that isn't in step takes at least one payload
dead_shrinks : (F : Reader) (f : Flow) (m : ℕ) → is_some (oldest_held f) ≡ true →
    length f.held ≤ suc m → HeldSatisfies (HasAtMost m) f.id (drained_due F (closed f Gap))
unfolding oldest_held
dead_shrinks F f m some l =
    let c : Flow = closed f Gap in
    let s : HasSameHeld f c = closed_stays f Gap in
    let i : (i : ℕ) × (oldest_index f.id f.next f.held ≡ Some i) =
    some_is (oldest_index f.id f.next f.held) some in
    let e : oldest_index c.id c.next c.held ≡ Some i.0 = rw (s.id, s.held, closed_next f Gap) i.1 in
    subst (λ (n : ℕ). HeldSatisfies (HasAtMost m) n (drained_due F c)) s.id
    (due_shrinks F c i.0 m (due_now c i.0 (closed_dead f Gap)) e
    (omega (arith, l, ap length s.held)))

-- a gap passes over no more than up to the first payload that is held
reaches : (next number : ℕ) (o : Option ℕ) (count : ℕ) →
    passable_octets next number o ≡ Some count →
    is_to_come (onward next count) number ≡ false
unfolding passable_octets
reaches next number None count e = absurd (true≢false (sym (ap is_some e)))
reaches next number (Some n) count e =
    let past : Bool = nat_lt n (2 ^ 31) && not (is_to_come (onward next n) number) in
    elim (cases_Bool past) [
      | inl y ↦
          (let same : n ≡ count = ap (λ (o : Option ℕ). unwrap_or o 0)
          (sym (cond-true past (Some n) None y) ∙ e) in
          subst (λ (m : ℕ). is_to_come (onward next m) number ≡ false) same
          (not-true (is_to_come (onward next n) number)
          (and_parts (nat_lt n (2 ^ 31)) (not (is_to_come (onward next n) number)) y).1))
      | inr z ↦ absurd (true≢false (sym (ap is_some (sym (cond-false past (Some n) None z) ∙ e))))
    ]

-- what is passed over depends on the first payload that is held
over_by : (F : Reader) (f : Flow) (i count : ℕ) → oldest_index f.id f.next f.held ≡ Some i →
    octets_passed_over F f ≡ Some count →
    passable_octets f.next (get_or f.held i no_payload).number (F.lacking f.events f.id)
    ≡ Some count
unfolding octets_passed_over oldest_held at
over_by F f i count e over =
    elim (cases_Bool (lives f.live f.waits)) [
      | inl y ↦ rw (y, e) at over
      | inr z ↦ absurd (true≢false (sym (ap is_some (rw z at over))))
    ]

-- a flow that waits takes at least one payload, since its first one is no longer to come
waiting_shrinks : (F : Reader) (f : Flow) (count m : ℕ) → octets_passed_over F f ≡ Some count →
    is_some (oldest_held f) ≡ true → length f.held ≤ suc m →
    HeldSatisfies (HasAtMost m) f.id (drained_due F (awaiting_stream f count))
unfolding oldest_held at octets_passed_over
waiting_shrinks F f count m over some l =
    let c : Flow = awaiting_stream f count in
    let s : HasSameHeld f c = awaiting_stays f count in
    let due : ℕ = onward f.next count in
    let i : (i : ℕ) × (oldest_index f.id f.next f.held ≡ Some i) =
    some_is (oldest_index f.id f.next f.held) some in
    let within : i.0 < length f.held = rw i.1 at (first_within f.id f.next f.held) in
    let own : (get_or f.held i.0 no_payload).flow ≡ f.id =
    rw i.1 at (first_own f.id f.next no_payload f.held) in
    let number : ℕ = (get_or f.held i.0 no_payload).number in
    let lack : Option ℕ = F.lacking f.events f.id in
    let reach = reaches f.next number lack count (over_by F f i.0 count i.1 over) in
    let j : (j : ℕ) × (oldest_index f.id due f.held ≡ Some j) =
    some_is (oldest_index f.id due f.held) (first_anywhere f.id due f.next f.held ∙ some) in
    let e : oldest_index c.id c.next c.held ≡ Some j.0 = rw (s.id, s.held) j.1 in
    let past : is_to_come due (get_or f.held j.0 no_payload).number ≡ false =
    first_reached f.id due f.held i.0 j.0 reach within own j.1 in
    let now : is_due c j.0 ≡ true = due_reached c j.0
    (subst (λ (ps : List Payload). is_to_come due (get_or ps j.0 no_payload).number ≡ false)
    (sym s.held) past) in
    subst (λ (n : ℕ). HeldSatisfies (HasAtMost m) n (drained_due F c)) s.id
    (due_shrinks F c j.0 m now e (omega (arith, l, ap length s.held)))

-- after a gap a flow holds at least one payload less
gap_shrinks : (F : Reader) (f : Flow) (m : ℕ) → is_some (oldest_held f) ≡ true →
    length f.held ≤ suc m → length (with_gap F f).held ≤ m
unfolding with_gap gone_on_with_held closed_for_gap HasAtMost
gap_shrinks F f m some l = by (octets_passed_over F f) refl
  where
    rest : (c : Flow) → HeldSatisfies (HasAtMost m) f.id (drained_due F c) →
        length (gone_on_with_held F c).held ≤ m
    rest c h = (rest_keeps F (HeldSatisfies (HasAtMost m) f.id) (most_keeps F m f.id)
        (drained_due F c) h).held

    by : (o : Option ℕ) → octets_passed_over F f ≡ o →
        length (gone_on_with_held F (closed_for_gap f o)).held ≤ m
    by None e = rest (closed f Gap) (dead_shrinks F f m some l)
    by (Some count) e = rest (awaiting_stream f count) (waiting_shrinks F f count m e some l)

pub gap_fewer : (F : Reader) (f : Flow) → is_some (oldest_held f) ≡ true →
    length (with_gap F f).held < length f.held
unfolding oldest_held
gap_fewer F f some =
    let i : (i : ℕ) × (oldest_index f.id f.next f.held ≡ Some i) =
    some_is (oldest_index f.id f.next f.held) some in
    let within : i.0 < length f.held = rw i.1 at (first_within f.id f.next f.held) in
    let l : length f.held ≤ suc (length f.held - 1) = omega arith in
    omega (arith, within, gap_shrinks F f (length f.held - 1) some l)

pub none_some : (f : Flow) → length f.held ≤ 0 → is_some (oldest_held f) ≡ false
unfolding oldest_held oldest_index
none_some f h = rw (nil_from_length f.held (omega (arith, h))) refl

flow_either : (b : Bool) (p q : Payload) (n : ℕ) → p.flow ≡ n → q.flow ≡ n → (cond b p q).flow ≡ n
flow_either true p q n e d = e
flow_either false p q n e d = d

pub left_flow : (next : ℕ) (live : Bool) (p : Payload) →
    (without_old_octets next live p).flow ≡ p.flow
unfolding without_old_octets
left_flow next live p = flow_either (nat_lt window (age next p.number) && not live) p
    (without_first (age next p.number) p)
    p.flow refl refl

blocks_remove : (ps : List Payload) (i : ℕ) → blocks_of (remove ps i) ≤ blocks_of ps
unfolding blocks_of
blocks_remove [] zero = omega arith
blocks_remove [] (suc i) = omega arith
blocks_remove (p ∷ ps) zero = omega arith
blocks_remove (p ∷ ps) (suc i) = omega (arith, blocks_remove ps i)

FitsBlocks : ℕ → ℕ → List Payload → Type 0
FitsBlocks blocks id ps = blocks_of ps ≤ blocks

blocks_keeps : (F : Reader) (blocks id : ℕ) → StepsKeep F (HeldSatisfies (FitsBlocks blocks) id)
unfolding FitsBlocks
blocks_keeps F blocks id = held_keeps F (FitsBlocks blocks) id
    (λ ps i l own h. omega (arith, h, blocks_remove ps i))

left_shorter : (next : ℕ) (live : Bool) (p : Payload) →
    length (without_old_octets next live p).octets ≤ length p.octets
unfolding without_old_octets
left_shorter next live p = by (nat_lt window (age next p.number) && not live)
  where
    by : (b : Bool) → length (cond b p (without_first (age next p.number) p)).octets
        ≤ length p.octets
    by true = omega arith
    by false = simp length-drop (omega arith)

-- a payload that comes takes no more blocks than its own
pub came_blocks : (F : Reader) (f : Flow) (p : Payload) →
    blocks_of (payload_came F f p).held ≤ blocks_of f.held + (length p.octets + 1023) / 1024
unfolding with_held FitsBlocks
came_blocks F f p =
    let q : Payload = without_old_octets f.next (is_some f.live) p in
    let most : ℕ = blocks_of f.held + (length p.octets + 1023) / 1024 in
    (came_keeps F (HeldSatisfies (FitsBlocks most) f.id) (blocks_keeps F most f.id) f p
    (record { own = refl; held = omega arith })
    (record {
      own = refl;
      held = omega (
        arith,
        blocks_insert f.held (place_of (key_of q) f.held) q,
        left_shorter f.next (is_some f.live) p,
      );
    })).held

-- going on, and the gaps after it, take no more blocks
pub window_blocks : (F : Reader) (count : ℕ) (f : Flow) →
    blocks_of (within_window F count (gone_on_with_held F f)).held ≤ blocks_of f.held
unfolding FitsBlocks
window_blocks F count f =
    let k : StepsKeep F (HeldSatisfies (FitsBlocks (blocks_of f.held)) f.id) =
    blocks_keeps F (blocks_of f.held) f.id in
    (window_keeps F (HeldSatisfies (FitsBlocks (blocks_of f.held)) f.id) k count
    (gone_on_with_held F f)
    (gone_on_keeps F (HeldSatisfies (FitsBlocks (blocks_of f.held)) f.id) k f
    (record { own = refl; held = omega arith }))).held

-- if no payload comes, no more blocks are taken
pub fin_blocks : (F : Reader) (f : Flow) (n : ℕ) →
    blocks_of (fin_came F f n).held ≤ blocks_of f.held
unfolding FitsBlocks
fin_blocks F f n = (fin_keeps F (HeldSatisfies (FitsBlocks (blocks_of f.held)) f.id)
    (blocks_keeps F (blocks_of f.held) f.id) f n (record { own = refl; held = omega arith })).held

pub gap_blocks : (F : Reader) (f : Flow) → blocks_of (with_gap F f).held ≤ blocks_of f.held
unfolding FitsBlocks
gap_blocks F f = (gap_keeps F (HeldSatisfies (FitsBlocks (blocks_of f.held)) f.id)
    (blocks_keeps F (blocks_of f.held) f.id) f (record { own = refl; held = omega arith })).held

pub heard_blocks : (F : Reader) (count : ℕ) (h : Heard) (f : Flow) →
    blocks_of (heard F count h f).held ≤ blocks_of f.held
unfolding FitsBlocks
heard_blocks F count h f =
    (heard_keeps F (HeldSatisfies (FitsBlocks (blocks_of f.held)) f.id)
    (blocks_keeps F (blocks_of f.held) f.id) count h f
    (record { own = refl; held = omega arith })).held

lost_holds_by : (h : Heard) (f : Flow) (o : Option ℕ) → oldest_held f ≡ o → is_lost h f ≡ true →
    is_some (oldest_held f) ≡ true
unfolding is_lost
lost_holds_by h f None e t = absurd (true≢false (sym t ∙ rw (e, is_lost) refl))
lost_holds_by h f (Some i) e t = ap is_some e

-- what is lost is missing before something that is held
lost_holds : (h : Heard) (f : Flow) → is_lost h f ≡ true → is_some (oldest_held f) ≡ true
lost_holds h f t = lost_holds_by h f (oldest_held f) refl t

none_lost : (h : Heard) (f : Flow) (o : Option ℕ) → oldest_held f ≡ o →
    is_some (oldest_held f) ≡ false →
    is_lost h f ≡ false
unfolding is_lost
none_lost h f None e n = rw (e, is_lost) refl
none_lost h f (Some i) e n = absurd (true≢false (sym (ap is_some e) ∙ n))

abbrev IsNotLost : (packet : Heard) (flow : Flow) → Type 0
IsNotLost h g = is_lost h g ≡ false

-- the gaps that a packet causes end
pub heard_ends : (F : Reader) (count : ℕ) (h : Heard) (f : Flow) → length f.held ≤ count →
    is_lost h (heard F count h f) ≡ false
unfolding heard
heard_ends F zero h f l = none_lost h f (oldest_held f) refl (none_some f l)
heard_ends F (suc count) h f l =
    elim (is_lost h f) as
    (λ (b : Bool). is_lost h f ≡ b →
    IsNotLost h (elim b [ true ↦ heard F count h (with_gap F f) | false ↦ f ])) [
      | true ↦ (λ e. heard_ends F count h (with_gap F f)
          (gap_shrinks F f count (lost_holds h f e) l))
      | false ↦ (λ e. e)
    ] refl
