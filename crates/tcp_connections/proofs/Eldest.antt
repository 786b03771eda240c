-- The connection that makes room is the eldest.
use Rattle.std.proofs.Common.{◌≡◌, ◌⊎◌, ℕ, zero, suc, ◌<◌, ◌≤◌, Bool, true, false, cond, nat_eq, nat_lt, ◌&&◌, ◌||◌, length, refl, sym, ◌∙◌, subst, arith, inl, inr, true≢false}
use Rattle.std.proofs.lemmas.Bool.{cases_Bool, cases_eq, cases_lt, cond-true, cond-false, lt-ltb, ltb-true, eqb-true, eq-eqb, or_cases, or_left, or_right, and_from, and_parts}
use Rattle.tcp_flow.specs.Flow.{Reader}
use Rattle.tcp_connections.specs.Connections.{State, slot_at, is_live, both_have_come, room_class_of, makes_room_before, eldest}
use Rattle.tcp_connections.specs.Forgetting.{last_at, IsEldest, MakesRoom}
use Rattle.tcp_connections.specs.Ranks.{IsBeforeAll}
use Rattle.tcp_connections.specs.State.{IsSound}
use Rattle.tcp_connections.proofs.Cases.{room_made}
use Rattle.tcp_connections.proofs.Sound.{slot_below}
use Rattle.tcp_connections.proofs.Times.{times_both}
use Rattle.tcp_connections.proofs.Unknown.{eldest_within}

-- whether one goes before another, by their classes and by when they were seen
abbrev before : (class_one class_other seen_one seen_other : ℕ) → Bool
before a b m n = nat_lt a b || nat_eq a b && nat_lt m n

before_is : (a b m n : ℕ) → before a b m n ≡ true → (a < b) ⊎ ((a ≡ b) × (m < n))
before_is a b m n h =
    elim (or_cases (nat_lt a b) (nat_eq a b && nat_lt m n) h) [
      | inl e ↦ inl (ltb-true a b e)
      | inr e ↦ (let both = and_parts (nat_eq a b) (nat_lt m n) e in
          inr (eqb-true a b both.0, ltb-true m n both.1))
    ]

before_by : (a b m n : ℕ) → (a < b) ⊎ ((a ≡ b) × (m < n)) → before a b m n ≡ true
before_by a b m n (inl l) = or_left (nat_lt a b) (nat_eq a b && nat_lt m n) (lt-ltb a b l)
before_by a b m n (inr (e, l)) = or_right (nat_lt a b) (nat_eq a b && nat_lt m n)
    (and_from (nat_eq a b) (nat_lt m n) (eq-eqb a b e) (lt-ltb m n l))

before_both : (a b c m n k : ℕ) → before a b m n ≡ true → before b c n k ≡ true →
    before a c m k ≡ true
before_both a b c m n k h g = before_by a c m k (by (before_is a b m n h) (before_is b c n k g))
  where
    by : (a < b) ⊎ ((a ≡ b) × (m < n)) → (b < c) ⊎ ((b ≡ c) × (n < k)) →
        (a < c) ⊎ ((a ≡ c) × (m < k))
    by (inl l) (inl d) = inl (omega (arith, l, d))
    by (inl l) (inr (e, d)) = inl (omega (arith, l, e))
    by (inr (e, l)) (inl d) = inl (omega (arith, e, d))
    by (inr (e, l)) (inr (f, d)) = inr (e ∙ f, omega (arith, l, d))

not_true : (b : Bool) → (b ≡ true → ⊥) → b ≡ false
not_true true h = absurd (h refl)
not_true false h = refl

not_before : (a b m n : ℕ) → before a b m n ≡ false → (a < b) ⊎ ((a ≡ b) × (m < n)) → ⊥
not_before a b m n h o = true≢false (sym (before_by a b m n o) ∙ h)

not_before_itself : (a n : ℕ) → before a a n n ≡ false
not_before_itself a n = not_true (before a a n n) (λ h. by (before_is a a n n h))
  where
    by : (a < a) ⊎ ((a ≡ a) × (n < n)) → ⊥
    by (inl l) = omega (arith, l)
    by (inr (e, l)) = omega (arith, l)

-- none of those that were looked at goes before the eldest
none_before : (w : State) (n k : ℕ) → k < n → makes_room_before w k (eldest w n) ≡ false
unfolding eldest
none_before w zero k l = absurd (omega (arith, l))
none_before w (suc n) k l =
    let best : ℕ = eldest w n in
    elim (cases_Bool (makes_room_before w n best)) [
      | inl e ↦
          subst (λ (b : ℕ). makes_room_before w k b ≡ false)
          (sym (cond-true (makes_room_before w n best) n best e))
          (elim (cases_lt k n) [
            | inl less ↦ not_true (makes_room_before w k n) (λ o. true≢false
                (sym (before_both (room_class_of w (slot_at w k)) (room_class_of w (slot_at w n))
                (room_class_of w (slot_at w best)) (last_at w k) (last_at w n) (last_at w best) o e)
                ∙ none_before w n k less))
            | inr more ↦ subst (λ (i : ℕ). makes_room_before w i n ≡ false) (omega (arith, l, more))
                (not_before_itself (room_class_of w (slot_at w n)) (last_at w n))
          ])
      | inr e ↦
          subst (λ (b : ℕ). makes_room_before w k b ≡ false)
          (sym (cond-false (makes_room_before w n best) n best e))
          (elim (cases_lt k n) [
            | inl less ↦ none_before w n k less
            | inr more ↦ subst (λ (i : ℕ). makes_room_before w i best ≡ false)
                (omega (arith, l, more)) e
          ])
    ]

-- the connection that goes before all others is the eldest
pub only_eldest : (w : State) (index : ℕ) → IsSound w → index < length w.known →
    IsBeforeAll w.flows w.came w.lasts (slot_at w index) → index ≡ eldest w (length w.known)
only_eldest w index h l first =
    let best : ℕ = eldest w (length w.known) in
    let within : best < length w.known =
    eldest_within w (length w.known) (omega (arith, l)) in
    elim (cases_eq index best) [
      | inl e ↦ e
      | inr ne ↦ absurd (true≢false
          (sym (first.before (slot_at w best) (slot_below w best h within) (λ e.
          (let twice = times_both w.slots best index (omega (arith, within, h.pairs))
          (omega (arith, l, h.pairs)) (λ o. ne (sym o)) e in
          omega (arith, twice, h.once (slot_at w index)))))
          ∙ none_before w (length w.known) index l))
    ]

-- a class, from whether a stream is live and whether segments of both flows came
abbrev class : (live both : Bool) → ℕ
class live both = cond live (cond both 2 1) 0

some_class : (b : Bool) → 0 < class true b
some_class true = omega arith
some_class false = omega arith

alive_too : (a b c d : Bool) (m n : ℕ) → before (class a c) (class b d) m n ≡ false → b ≡ true →
    a ≡ true
alive_too true b c d m n h l = refl
alive_too false true c d m n h l = absurd (not_before 0 (class true d) m n h (inl (some_class d)))
alive_too false false c d m n h l = l

both_too : (a b c d : Bool) (m n : ℕ) → before (class a c) (class b d) m n ≡ false → b ≡ true →
    d ≡ true → c ≡ true
both_too a b true d m n h l e = refl
both_too true true false true m n h l e = absurd (not_before 1 2 m n h (inl (omega arith)))
both_too false true false true m n h l e = absurd (not_before 0 2 m n h (inl (omega arith)))
both_too a false false d m n h l e = absurd (true≢false (sym l))
both_too a true false false m n h l e = e

seen_later : (a b m n : ℕ) → before a b m n ≡ false → a ≡ b → n ≤ m
seen_later a b m n h e =
    elim (cases_lt m n) [
      | inl l ↦ absurd (not_before a b m n h (inr (e, l)))
      | inr g ↦ g
    ]

eldest_is_eldest : (w : State) → 0 < length w.known → IsEldest w (eldest w (length w.known))
eldest_is_eldest w some =
    let index : ℕ = eldest w (length w.known) in
    let own : ℕ = slot_at w index in
    record {
      within = eldest_within w (length w.known) some;
      idle = λ live other l. alive_too (is_live w (slot_at w other)) (is_live w own)
          (both_have_come w (slot_at w other)) (both_have_come w own) (last_at w other)
          (last_at w index)
          (none_before w (length w.known) other l) live;
      one_way = λ live both other l. both_too (is_live w (slot_at w other)) (is_live w own)
          (both_have_come w (slot_at w other)) (both_have_come w own) (last_at w other)
          (last_at w index)
          (none_before w (length w.known) other l) live both;
      oldest = λ other l alike. seen_later (room_class_of w (slot_at w other)) (room_class_of w own)
          (last_at w other) (last_at w index) (none_before w (length w.known) other l) alike;
    }

pub eldest_makes_room : (F : Reader) (w : State) → 0 < length w.known →
    length w.lasts ≤ length w.known → MakesRoom F w
eldest_makes_room F w some full = record {
  index = eldest w (length w.known);
  eldest = eldest_is_eldest w some;
  cleared = room_made F w full;
}
