-- The ranks of slots have the order in which connections make room, and they only rise.
use Rattle.std.proofs.Common.{◌≡◌, ℕ, zero, suc, ◌+◌, ◌*◌, ◌^◌, ◌<◌, ◌≤◌, Bool, true, false, cond, nat_eq, nat_lt, ◌&&◌, ◌||◌, List, [], ◌∷◌, length, get_or, set, replicate, Option, Some, None, is_some, refl, sym, ap, ◌∙◌, arith, inl, inr, true≢false}
use Rattle.std.proofs.lemmas.Bool.{cases_eq, cases_lt, lt-ltb, le-ltb, eq-eqb, ne_eqb, or_cases, or_left, or_right, or_from, and_from, and_left, and_right, and_parts}
use Rattle.tcp_flow.specs.declared.flow.FlowState.{FlowState}
use Rattle.tcp_slots.specs.Ranks.{IsUniqueLeast, rank_at}
use Rattle.tcp_connections.specs.Connections.{has_live}
use Rattle.tcp_connections.specs.Ranks.{AreAtMost, IsBeforeAll, rank_among, room_class_among, has_come_among}

-- ---- The order.

-- ranks compare by the classes and then by the last segments, whose numbers are less than 2^64
pub ranks_before : (a b m n : ℕ) → m < 2 ^ 64 → n < 2 ^ 64 →
    nat_lt (a * 2 ^ 64 + m) (b * 2 ^ 64 + n) ≡ (nat_lt a b || nat_eq a b && nat_lt m n)
ranks_before a b m n k l =
    elim (cases_lt a b) [
      | inl less ↦ lt-ltb (a * 2 ^ 64 + m) (b * 2 ^ 64 + n) (omega (arith, k, less))
          ∙ sym (or_left (nat_lt a b) (nat_eq a b && nat_lt m n) (lt-ltb a b less))
      | inr more ↦ elim (cases_eq a b) [
        | inl e ↦ elim (cases_lt m n) [
          | inl d ↦ lt-ltb (a * 2 ^ 64 + m) (b * 2 ^ 64 + n) (omega (arith, e, d))
              ∙ sym (or_right (nat_lt a b) (nat_eq a b && nat_lt m n)
              (and_from (nat_eq a b) (nat_lt m n) (eq-eqb a b e) (lt-ltb m n d)))
          | inr g ↦ le-ltb (a * 2 ^ 64 + m) (b * 2 ^ 64 + n) (omega (arith, e, g))
              ∙ sym (or_from (nat_lt a b) (nat_eq a b && nat_lt m n) (le-ltb a b more)
              (and_right (nat_eq a b) (nat_lt m n) (le-ltb m n g)))
        ]
        | inr ne ↦ le-ltb (a * 2 ^ 64 + m) (b * 2 ^ 64 + n) (omega (arith, l, ne, more))
            ∙ sym (or_from (nat_lt a b) (nat_eq a b && nat_lt m n) (le-ltb a b more)
            (and_left (nat_eq a b) (nat_lt m n) (ne_eqb a b ne)))
      ]
    ]

-- the slot of the least noted rank makes room before all others, if that is its true rank
pub first_before : (slots : ℕ) (nodes : List ℕ) (flows : List (Option FlowState))
    (came : List Bool) (lasts : List ℕ) (slot : ℕ) → IsUniqueLeast slots nodes slot →
    AreAtMost slots nodes flows came lasts →
    rank_at slots nodes slot ≡ rank_among flows came lasts slot → length lasts ≡ slots →
    ((k : ℕ) → get_or lasts k 0 < 2 ^ 64) → IsBeforeAll flows came lasts slot
first_before slots nodes flows came lasts slot h most own many small = record {
  within = omega (arith, h.within, many);
  before = λ other l ne.
      let within : other < slots = omega (arith, l, many) in
      let noted = h.least other within ne in
      let up = most other within in
      let less : rank_among flows came lasts slot < rank_among flows came lasts other =
      omega (arith, noted, up, own) in
      sym (ranks_before (room_class_among flows came slot) (room_class_among flows came other)
      (get_or lasts slot 0) (get_or lasts other 0) (small slot) (small other))
      ∙ lt-ltb (rank_among flows came lasts slot) (rank_among flows came lasts other) less;
}

-- ---- What rises.

or_up : (a b c d : Bool) → (a ≡ true → c ≡ true) → (b ≡ true → d ≡ true) → (a || b) ≡ true →
    (c || d) ≡ true
or_up a b c d h k e =
    elim (or_cases a b e) [ inl l ↦ or_left c d (h l) | inr r ↦ or_right c d (k r) ]

and_up : (a b c d : Bool) → (a ≡ true → c ≡ true) → (b ≡ true → d ≡ true) → (a && b) ≡ true →
    (c && d) ≡ true
and_up a b c d h k e = let both = and_parts a b e in and_from c d (h both.0) (k both.1)

class_up : (l m b d : Bool) → (l ≡ true → m ≡ true) → (b ≡ true → d ≡ true) →
    cond l (cond b 2 1) 0 ≤ cond m (cond d 2 1) 0
class_up false m b d h k = omega arith
class_up true false b d h k = absurd (true≢false (sym (h refl)))
class_up true true false false h k = omega arith
class_up true true false true h k = omega arith
class_up true true true false h k = absurd (true≢false (sym (k refl)))
class_up true true true true h k = omega arith

-- a class doesn't fall if live streams stay live, and segments that came have come
class_rises : (flows flows' : List (Option FlowState)) (came came' : List Bool) (slot : ℕ)
    → ((k : ℕ) → has_live (get_or flows k None) ≡ true → has_live (get_or flows' k None) ≡ true)
    → ((k : ℕ) → has_come_among flows came k ≡ true → has_come_among flows' came' k ≡ true)
    → room_class_among flows came slot ≤ room_class_among flows' came' slot
class_rises flows flows' came came' slot live come =
    let a : ℕ = 2 * slot in
    let b : ℕ = 2 * slot + 1 in
    class_up (has_live (get_or flows a None) || has_live (get_or flows b None))
    (has_live (get_or flows' a None) || has_live (get_or flows' b None))
    (has_come_among flows came a && has_come_among flows came b)
    (has_come_among flows' came' a && has_come_among flows' came' b)
    (or_up (has_live (get_or flows a None)) (has_live (get_or flows b None))
    (has_live (get_or flows' a None)) (has_live (get_or flows' b None)) (live a) (live b))
    (and_up (has_come_among flows came a) (has_come_among flows came b)
    (has_come_among flows' came' a) (has_come_among flows' came' b) (come a) (come b))

live_some : (o : Option FlowState) → has_live o ≡ true → is_some o ≡ true
unfolding has_live
live_some None h = h
live_some (Some s) h = refl

live_set : (flows : List (Option FlowState)) (id k : ℕ) (o : Option FlowState) →
    has_live o ≡ true → has_live (get_or flows k None) ≡ true →
    has_live (get_or (set flows id o) k None) ≡ true
live_set [] id k o live h = h
live_set (f ∷ fs) zero zero o live h = live
live_set (f ∷ fs) zero (suc k) o live h = h
live_set (f ∷ fs) (suc id) zero o live h = h
live_set (f ∷ fs) (suc id) (suc k) o live h = live_set fs id k o live h

some_set : (flows : List (Option FlowState)) (id k : ℕ) (o : Option FlowState) →
    is_some o ≡ true → is_some (get_or flows k None) ≡ true →
    is_some (get_or (set flows id o) k None) ≡ true
some_set [] id k o some h = h
some_set (f ∷ fs) zero zero o some h = some
some_set (f ∷ fs) zero (suc k) o some h = h
some_set (f ∷ fs) (suc id) zero o some h = h
some_set (f ∷ fs) (suc id) (suc k) o some h = some_set fs id k o some h

-- a flow with a live stream is set
pub set_at_most : (slots : ℕ) (nodes : List ℕ) (flows : List (Option FlowState))
    (came : List Bool) (lasts : List ℕ) (id : ℕ) (o : Option FlowState) → has_live o ≡ true →
    AreAtMost slots nodes flows came lasts → AreAtMost slots nodes (set flows id o) came lasts
set_at_most slots nodes flows came lasts id o live h slot within =
    let up = class_rises flows (set flows id o) came came slot
    (λ k. live_set flows id k o live)
    (λ k. or_up (is_some (get_or flows k None)) (get_or came k false)
    (is_some (get_or (set flows id o) k None)) (get_or came k false)
    (some_set flows id k o (live_some o live)) (λ e. e)) in
    let own = h slot within in
    omega (arith, own, up)

same_all : {A : Type 0} → (a : A) (n i : ℕ) → get_or (replicate n a) i a ≡ a
same_all a zero i = refl
same_all a (suc n) zero = refl
same_all a (suc n) (suc i) = same_all a n i

pub none_small : (lasts : List ℕ) (n : ℕ) → lasts ≡ replicate n 0 → (k : ℕ) →
    get_or lasts k 0 < 2 ^ 64
none_small lasts n e k =
    let none : get_or lasts k 0 ≡ 0 =
    ap (λ (ns : List ℕ). get_or ns k 0) e ∙ same_all {A = ℕ} 0 n k in
    omega (arith, none)
