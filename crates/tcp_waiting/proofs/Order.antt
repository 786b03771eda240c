-- The order of payloads, and what is found by it.
use Rattle.std.proofs.Common.{◌≡◌, ℕ, zero, suc, ◌+◌, ◌%◌, ◌^◌, ◌<◌, ◌≤◌, Bool, true, false, cond, nat_eq, nat_lt, List, [], ◌∷◌, length, get_or, Option, Some, None, IfSome, refl, ap, arith, inl, inr}
use Rattle.std.specs.List.{insert, remove}
use Rattle.std.specs.Option.{MatchOption, option_map}
use Rattle.std.proofs.lemmas.Bool.{eqb-true, eqb-false, ltb-true, ltb-false, cases_lt, cases_order, cond_both, and_parts, both_ways}
use Rattle.std.proofs.lemmas.List.{get_or_default}
use Rattle.std.proofs.lemmas.Option.{IfSome_then}
use Rattle.tcp_waiting.specs.Numbers.{rank}
use Rattle.tcp_waiting.specs.Payload.{Payload, no_payload, key, key_of, place_of, oldest_with, oldest_index, holds_as_long}
use Rattle.tcp_waiting.specs.Layout.{IsSmall, AreSmall, AreOrdered, is_of_flow_at}
use Rattle.tcp_waiting.proofs.Held.{all_at, all_insert, all_remove, all_weaker}

-- ---- Places.

pub place_within : (k : ℕ) (ps : List Payload) → place_of k ps ≤ length ps
unfolding place_of
place_within k [] = omega arith
place_within k (p ∷ ps) = grind (arith, place_within k ps)

-- a place is before that of a key if its payload has a lesser key
pub before_is : (k : ℕ) (ps : List Payload) (i : ℕ) (d : Payload) → AreOrdered ps → i < length ps →
    nat_lt (key_of (get_or ps i d)) k ≡ nat_lt i (place_of k ps)
unfolding place_of AreOrdered
before_is k [] i d o l = absurd (omega arith)
before_is k (p ∷ ps) zero d o l = grind arith
before_is k (p ∷ ps) (suc i) d o l =
    let l' : i < length ps = omega arith in
    grind (arith, all_at (λ q. key_of p ≤ key_of q) ps i d o.0 l', before_is k ps i d o.1 l')

-- payloads from the place of a key on, and those before it
behind : (k : ℕ) (ps : List Payload) (i : ℕ) → AreOrdered ps → i < length ps → place_of k ps ≤ i →
    k ≤ key_of (get_or ps i no_payload)
behind k ps i o l h = grind (arith, h, before_is k ps i no_payload o l)

in_front : (k : ℕ) (ps : List Payload) (i : ℕ) → AreOrdered ps → i < place_of k ps →
    key_of (get_or ps i no_payload) < k
in_front k ps i o h =
    let l : i < length ps = omega (arith, place_within k ps) in
    grind (arith, h, before_is k ps i no_payload o l)

-- ---- The order.

ordered_at : (ps : List Payload) (i j : ℕ) (d : Payload) → AreOrdered ps → i ≤ j → j < length ps →
    key_of (get_or ps i d) ≤ key_of (get_or ps j d)
unfolding AreOrdered
ordered_at [] i j d o h l = absurd (omega arith)
ordered_at (p ∷ ps) zero zero d o h l = omega arith
ordered_at (p ∷ ps) zero (suc j) d o h l =
    all_at (λ q. key_of p ≤ key_of q) ps j d o.0 (omega arith)
ordered_at (p ∷ ps) (suc i) zero d o h l = absurd (omega arith)
ordered_at (p ∷ ps) (suc i) (suc j) d o h l =
    ordered_at ps i j d o.1 (omega arith) (omega arith)

pub ordered_insert : (p : Payload) (ps : List Payload) → AreOrdered ps →
    AreOrdered (insert ps (place_of (key_of p) ps) p)
unfolding place_of AreOrdered
ordered_insert p [] o = (tt, tt)
ordered_insert p (q ∷ ps) o =
    cond_both (nat_lt (key_of q) (key_of p)) (suc (place_of (key_of p) ps)) 0
    (λ (i : ℕ). AreOrdered (insert (q ∷ ps) i p))
    (λ e. (
      all_insert (λ r. key_of q ≤ key_of r) ps (place_of (key_of p) ps) p o.0
          (omega (arith, ltb-true (key_of q) (key_of p) e)),
      ordered_insert p ps o.1,
    ))
    (λ e.
    let l : key_of p ≤ key_of q = ltb-false (key_of q) (key_of p) e in (
      (
        l,
        all_weaker (λ r. key_of q ≤ key_of r) (λ r. key_of p ≤ key_of r) ps
            (λ r m. omega arith) o.0,
      ),
      o,
    ))

pub ordered_remove : (ps : List Payload) (i : ℕ) → AreOrdered ps → AreOrdered (remove ps i)
unfolding AreOrdered
ordered_remove [] zero o = o
ordered_remove [] (suc i) o = o
ordered_remove (p ∷ ps) zero o = o.1
ordered_remove (p ∷ ps) (suc i) o =
    (all_remove (λ q. key_of p ≤ key_of q) ps i o.0, ordered_remove ps i o.1)

-- ---- The first of what a flow holds.

-- a payload has no greater rank than another one, and a lesser one than one before it
abbrev IsNoLater : (next : ℕ) (payload : Payload) (index : ℕ) (other_index : ℕ) (other : Payload) →
    Type 0
IsNoLater next p i j q = (rank next p.number ≤ rank next q.number)
    × (j < i → rank next p.number < rank next q.number)

-- the payload at an index is the first of a flow
pub record IsFirst (id next : ℕ) (payloads : List Payload) (index : ℕ) : Type 0 where
  pub within : index < length payloads
  pub own : (get_or payloads index no_payload).flow ≡ id
  pub least : (j : ℕ) → j < length payloads → (get_or payloads j no_payload).flow ≡ id →
      IsNoLater next (get_or payloads index no_payload) index j (get_or payloads j no_payload)

-- the index of the first payload of a flow; if there is none, the flow holds nothing
abbrev IsFirstOf : (id next : ℕ) (payloads : List Payload) (index : Option ℕ) → Type 0
IsFirstOf id next ps r = MatchOption r
    ((j : ℕ) → j < length ps → (get_or ps j no_payload).flow ≡ id → ⊥) (IsFirst id next ps)

in_each : (id : ℕ) (p : Payload) (ps : List Payload) (Q : ℕ → Payload → Type 0) →
    (p.flow ≡ id → Q 0 p)
    → ((j : ℕ) → j < length ps → (get_or ps j no_payload).flow ≡ id
    → Q (suc j) (get_or ps j no_payload))
    → (j : ℕ) → j < length (p ∷ ps) → (get_or (p ∷ ps) j no_payload).flow ≡ id
    → Q j (get_or (p ∷ ps) j no_payload)
in_each id p ps Q q h zero l own = q own
in_each id p ps Q q h (suc j) l own = h j (omega arith) own

here_first : (id next : ℕ) (p : Payload) (ps : List Payload) → p.flow ≡ id →
    ((j : ℕ) → j < length ps → (get_or ps j no_payload).flow ≡ id
    → rank next p.number ≤ rank next (get_or ps j no_payload).number)
    → IsFirst id next (p ∷ ps) 0
here_first id next p ps own h = record {
  within = omega arith;
  own = own;
  least = in_each id p ps (IsNoLater next p 0) (λ o. (omega arith, λ l. absurd (omega arith)))
      (λ j l o. (h j l o, λ b. absurd (omega arith)));
}

later_first : (id next : ℕ) (p : Payload) (ps : List Payload) (i : ℕ) →
    (p.flow ≡ id → rank next (get_or ps i no_payload).number < rank next p.number)
    → IsFirst id next ps i → IsFirst id next (p ∷ ps) (suc i)
later_first id next p ps i less h = record {
  within = omega arith;
  own = h.own;
  least = in_each id p ps (IsNoLater next (get_or ps i no_payload) (suc i))
      (λ o. (omega (arith, less o), λ b. less o))
      (λ j l o. ((h.least j l o).0, λ b. (h.least j l o).1 (omega arith)));
}

first_by : (id next : ℕ) (p : Payload) (ps : List Payload) (c : Bool) (r : Option ℕ) →
    nat_eq p.flow id ≡ c → IsFirstOf id next ps r
    → IsFirstOf id next (p ∷ ps) (cond c (oldest_with next p ps r) (option_map suc r))
unfolding oldest_with
first_by id next p ps true None e h =
    here_first id next p ps (eqb-true p.flow id e) (λ j l o. absurd (h j l o))
first_by id next p ps true (Some k) e h =
    let same =
    ap (λ (q : Payload). rank next q.number) (get_or_default ps k p no_payload h.within) in
    cond_both (nat_lt (rank next (get_or ps k p).number) (rank next p.number))
    (Some (suc k)) (Some 0) (IsFirstOf id next (p ∷ ps))
    (λ b. later_first id next p ps k (λ o. omega (arith, ltb-true _ _ b)) h)
    (λ b. here_first id next p ps (eqb-true p.flow id e)
    (λ j l o. omega (arith, ltb-false _ _ b, (h.least j l o).0)))
first_by id next p ps false None e h =
    in_each id p ps (λ j q. ⊥) (λ o. eqb-false p.flow id e o) h
first_by id next p ps false (Some k) e h =
    later_first id next p ps k (λ o. absurd (eqb-false p.flow id e o)) h

first_of : (id next : ℕ) (ps : List Payload) →
    IsFirstOf id next ps (oldest_index id next ps)
unfolding oldest_index
first_of id next [] = λ j l own. absurd (omega arith)
first_of id next (p ∷ ps) = first_by id next p ps (nat_eq p.flow id) (oldest_index id next ps)
    refl (first_of id next ps)

pub first_at : (id next : ℕ) (ps : List Payload) (i : ℕ) → oldest_index id next ps ≡ Some i →
    IsFirst id next ps i
first_at id next ps i e = rw e at (first_of id next ps)

first_some : (id next : ℕ) (ps : List Payload) (r : Option ℕ) → IsFirstOf id next ps r →
    IfSome r (IsFirst id next ps)
first_some id next ps None h = tt
first_some id next ps (Some k) h = h

-- the first payload is within the list
pub first_within : (id next : ℕ) (ps : List Payload) →
    IfSome (oldest_index id next ps) (λ k. k < length ps)
first_within id next ps = IfSome_then (oldest_index id next ps)
    (first_some id next ps (oldest_index id next ps) (first_of id next ps)) (λ k h. h.within)

-- the first payload is the flow's own
pub first_own : (id next : ℕ) (d : Payload) (ps : List Payload) →
    IfSome (oldest_index id next ps) (λ k. (get_or ps k d).flow ≡ id)
first_own id next d ps = IfSome_then (oldest_index id next ps)
    (first_some id next ps (oldest_index id next ps) (first_of id next ps))
    (λ k h. rw (get_or_default ps k d no_payload h.within) h.own)

pub first_here : (next : ℕ) (p : Payload) (ps : List Payload) (r : Option ℕ) →
    IfSome r (λ k. rank next p.number ≤ rank next (get_or ps k p).number)
    → oldest_with next p ps r ≡ Some 0
unfolding oldest_with
first_here next p ps None h = refl
first_here next p ps (Some k) h =
    grind (arith, h)

pub both : (r : Option ℕ) (P Q R : ℕ → Type 0) → ((k : ℕ) → P k → Q k → R k) → IfSome r P →
    IfSome r Q → IfSome r R
both None P Q R f p q = tt
both (Some k) P Q R f p q = f k p q

-- a flow has one first payload at most
same_first : (id next : ℕ) (ps : List Payload) (i : ℕ) (r : Option ℕ) → IsFirst id next ps i →
    IsFirstOf id next ps r → r ≡ Some i
same_first id next ps i None h f = absurd (f i h.within h.own)
same_first id next ps i (Some j) h f = ap Some (elim (cases_order j i) [
  | inl e ↦ e
  | inr (inl l) ↦ absurd (omega (
    arith,
    (h.least j f.within f.own).1 l,
    (f.least i h.within h.own).0,
  ))
  | inr (inr l) ↦ absurd (omega (
    arith,
    (f.least i h.within h.own).1 l,
    (h.least j f.within f.own).0,
  ))
])

first_is : (id next : ℕ) (ps : List Payload) (i : ℕ) → IsFirst id next ps i →
    oldest_index id next ps ≡ Some i
first_is id next ps i h =
    same_first id next ps i (oldest_index id next ps) h (first_of id next ps)

no_first : (id next : ℕ) (ps : List Payload) (r : Option ℕ) → IsFirstOf id next ps r →
    ((j : ℕ) → j < length ps → (get_or ps j no_payload).flow ≡ id → ⊥) → r ≡ None
no_first id next ps None f h = refl
no_first id next ps (Some i) f h = absurd (h i f.within f.own)

-- the number of the least rank
abbrev pub oldest_number : (next : ℕ) → ℕ
oldest_number next = (next + 2 ^ 31) % 2 ^ 32

-- the rank of a number from the oldest one on, and of a number below it
rank_from : (next n : ℕ) → next < 2 ^ 32 → n < 2 ^ 32 → oldest_number next ≤ n →
    rank next n + oldest_number next ≡ n
rank_from next n a b h = omega arith

rank_below : (next n : ℕ) → next < 2 ^ 32 → n < 2 ^ 32 → n < oldest_number next →
    rank next n + oldest_number next ≡ n + 2 ^ 32
rank_below next n a b h = omega arith

pub stands_own : (i id : ℕ) (ps : List Payload) → is_of_flow_at i id ps ≡ true →
    (i < length ps) × ((get_or ps i no_payload).flow ≡ id)
stands_own i id ps h =
    let e = and_parts (nat_lt i (length ps)) (nat_eq (get_or ps i no_payload).flow id) h in
    (ltb-true i (length ps) e.0, eqb-true (get_or ps i no_payload).flow id e.1)

stands_so : (i id : ℕ) (ps : List Payload) → i < length ps →
    (get_or ps i no_payload).flow ≡ id → is_of_flow_at i id ps ≡ true
stands_so i id ps l h = grind (arith, l, h)

-- a payload between two keys of a flow is one of the flow
between : (id n m : ℕ) (p q : Payload) → IsSmall p → IsSmall q → q.flow ≡ id →
    key id n m ≤ key_of p → key_of p ≤ key_of q → p.flow ≡ id
between id n m p q s t own low high =
    omega arith

-- if the payload at a key's place isn't the flow's, none after it is
none_behind : (id n m : ℕ) (ps : List Payload) (i j : ℕ) → AreOrdered ps → AreSmall ps →
    i ≡ place_of (key id n m) ps → is_of_flow_at i id ps ≡ false → j < length ps
    → (get_or ps j no_payload).flow ≡ id → j < i
none_behind id n m ps i j o s is none l own = elim (cases_lt j i) [
  | inl a ↦ a
  | inr b ↦
      (let w : i < length ps = omega arith in
      let own_too = between id n m (get_or ps i no_payload) (get_or ps j no_payload)
      (all_at IsSmall ps i no_payload s w) (all_at IsSmall ps j no_payload s l) own
      (behind (key id n m) ps i o w (omega arith)) (ordered_at ps i j no_payload o b l) in
      absurd (both_ways (is_of_flow_at i id ps) none (stands_so i id ps w own_too)))
]

-- of two payloads of a flow the later one has no lesser number
upward : (id : ℕ) (ps : List Payload) (i j : ℕ) → AreOrdered ps → AreSmall ps → i ≤ j →
    j < length ps → (get_or ps i no_payload).flow ≡ id → (get_or ps j no_payload).flow ≡ id
    → (get_or ps i no_payload).number ≤ (get_or ps j no_payload).number
upward id ps i j o s h l own own_too = omega (
  arith,
  ordered_at ps i j no_payload o h l,
  (all_at IsSmall ps j no_payload s l).short,
)

-- the first payload of a flow, found by two searches: it is the one at the place of the oldest
-- number
pub first_oldest : (id next : ℕ) (ps : List Payload) (i : ℕ) → AreOrdered ps → AreSmall ps →
    next < 2 ^ 32 → i ≡ place_of (key id (oldest_number next) 0) ps → is_of_flow_at i id ps ≡ true
    → oldest_index id next ps ≡ Some i
first_oldest id next ps i o s n is at =
    let k : ℕ = key id (oldest_number next) 0 in
    let here = stands_own i id ps at in
    let small = all_at IsSmall ps i no_payload s here.0 in
    let number : oldest_number next ≤ (get_or ps i no_payload).number =
    omega (arith, behind k ps i o here.0 (omega arith)) in
    let own_rank = rank_from next (get_or ps i no_payload).number n small.number number in
    first_is id next ps i (record {
      within = here.0;
      own = here.1;
      least = λ j l own.
          let small_too = all_at IsSmall ps j no_payload s l in
          elim (cases_lt j i) [
            | inl a ↦
                (let less = rank_below next (get_or ps j no_payload).number n small_too.number
                (omega (arith, in_front k ps j o (omega arith))) in (
                  omega arith,
                  λ b. omega arith,
                ))
            | inr b ↦
                (let up = upward id ps i j o s b l here.1 own in (
                  omega (
                    arith,
                    rank_from next (get_or ps j no_payload).number n small_too.number (omega arith),
                  ),
                  λ a. absurd (omega arith),
                ))
          ];
    })

-- or the one at the place of the least number, if no payload of the flow is from its oldest number
-- on
pub first_number : (id next : ℕ) (ps : List Payload) (i j : ℕ) → AreOrdered ps → AreSmall ps →
    next < 2 ^ 32 → i ≡ place_of (key id (oldest_number next) 0) ps → is_of_flow_at i id ps ≡ false
    → j ≡ place_of (key id 0 0) ps → is_of_flow_at j id ps ≡ true → oldest_index id next ps ≡ Some j
first_number id next ps i j o s n is none js at =
    let here = stands_own j id ps at in
    let ranked : (m : ℕ) → m < length ps → (get_or ps m no_payload).flow ≡ id →
    rank next (get_or ps m no_payload).number + oldest_number next
    ≡ (get_or ps m no_payload).number + 2 ^ 32 = λ m l own.
    (let a = none_behind id (oldest_number next) 0 ps i m o s is none l own in
    rank_below next (get_or ps m no_payload).number n (all_at IsSmall ps m no_payload s l).number
    (omega (arith, in_front (key id (oldest_number next) 0) ps m o (omega arith)))) in
    first_is id next ps j (record {
      within = here.0;
      own = here.1;
      least = λ m l own.
          elim (cases_lt m j) [
            | inl a ↦ absurd (omega (arith, in_front (key id 0 0) ps m o (omega arith)))
            | inr b ↦ (
              omega (
                arith,
                upward id ps j m o s b l here.1 own,
                ranked j here.0 here.1,
                ranked m l own,
              ),
              λ a. absurd (omega arith),
            )
          ];
    })

pub first_nowhere : (id next : ℕ) (ps : List Payload) (j : ℕ) → AreOrdered ps → AreSmall ps →
    j ≡ place_of (key id 0 0) ps → is_of_flow_at j id ps ≡ false → oldest_index id next ps ≡ None
first_nowhere id next ps j o s js none =
    no_first id next ps (oldest_index id next ps) (first_of id next ps) (λ m l own.
    let a = none_behind id 0 0 ps j m o s js none l own in
    omega (arith, in_front (key id 0 0) ps m o (omega arith)))

-- ---- Whether a flow holds as much.

has_so : (id number count : ℕ) (ps : List Payload) (i : ℕ) (d : Payload) → i < length ps →
    (get_or ps i d).flow ≡ id → (get_or ps i d).number ≡ number
    → count ≤ length (get_or ps i d).octets → holds_as_long id number count ps ≡ true
unfolding holds_as_long
has_so id number count [] i d l f n c = absurd (omega arith)
has_so id number count (p ∷ ps) zero d l f n c =
    grind (arith, f, n, c)
has_so id number count (p ∷ ps) (suc i) d l f n c =
    grind (arith, has_so id number count ps i d (omega arith) f n c)

has_not : (id number count : ℕ) (ps : List Payload) →
    ((i : ℕ) → i < length ps → (get_or ps i no_payload).flow ≡ id
    → (get_or ps i no_payload).number ≡ number
    → count ≤ length (get_or ps i no_payload).octets → ⊥)
    → holds_as_long id number count ps ≡ false
unfolding holds_as_long
has_not id number count [] h = refl
has_not id number count (p ∷ ps) h =
    grind (
      arith,
      h 0 (omega arith),
      has_not id number count ps (λ i l f n c. h (suc i) (omega arith) f n c),
    )

-- found by one search
has_there : (id number count : ℕ) (ps : List Payload) (i : ℕ) → AreOrdered ps →
    i ≡ place_of (key id number count) ps → is_of_flow_at i id ps ≡ true
    → (get_or ps i no_payload).number ≡ number → holds_as_long id number count ps ≡ true
has_there id number count ps i o is at n =
    let here = stands_own i id ps at in
    has_so id number count ps i no_payload here.0 here.1 n (omega (
      arith,
      behind (key id number count) ps i o here.0 (omega arith),
    ))

has_other : (id number count : ℕ) (ps : List Payload) (i : ℕ) → AreOrdered ps → AreSmall ps →
    i ≡ place_of (key id number count) ps → is_of_flow_at i id ps ≡ true
    → ((get_or ps i no_payload).number ≡ number → ⊥) → holds_as_long id number count ps ≡ false
has_other id number count ps i o s is at other =
    let here = stands_own i id ps at in
    let low = behind (key id number count) ps i o here.0 (omega arith) in
    has_not id number count ps (λ j l f n c.
    elim (cases_lt j i) [
      | inl a ↦ omega (arith, in_front (key id number count) ps j o (omega arith))
      | inr b ↦ other (omega (
        arith,
        ordered_at ps i j no_payload o b l,
        (all_at IsSmall ps i no_payload s here.0).short,
        (all_at IsSmall ps j no_payload s l).short,
      ))
    ])

pub has_by : (id number count : ℕ) (ps : List Payload) (i : ℕ) → AreOrdered ps → AreSmall ps →
    i ≡ place_of (key id number count) ps → is_of_flow_at i id ps ≡ true
    → holds_as_long id number count ps ≡ nat_eq (get_or ps i no_payload).number number
has_by id number count ps i o s is at = grind (
  arith,
  has_there id number count ps i o is at,
  has_other id number count ps i o s is at,
)

pub has_nowhere : (id number count : ℕ) (ps : List Payload) (i : ℕ) → AreOrdered ps →
    AreSmall ps → i ≡ place_of (key id number count) ps → is_of_flow_at i id ps ≡ false
    → holds_as_long id number count ps ≡ false
has_nowhere id number count ps i o s is none =
    has_not id number count ps (λ j l f n c.
    let a = none_behind id number count ps i j o s is none l f in
    omega (arith, in_front (key id number count) ps j o (omega arith)))
