-- The kinds of messages exclude one another; and after how many octets of its payload a message of
-- each kind has its place among the open ones.
use Rattle.std.proofs.Common.{inl, inr, ◌⊎◌, ◌≡◌, ℕ, ◌<◌, ◌≤◌, Bool, true, false, List, refl, sym, ◌∙◌, arith}
use Rattle.std.specs.Prelude.{nat_lt, ◌==◌, ◌||◌}
use Rattle.std.proofs.lemmas.Bool.{cases_lt, and_from, and_parts, and_right, or_cases, or_parts, or_from, or_left, or_right, lt-ltb, ltb-true, eqb-true, ne_eqb, false_from_ne_true}
use Rattle.giop_message.specs.Headers.{minor, kind, size, may_be_fragmented, is_opener_1_2, is_fragment_1_2, is_cancel_request, begins_with_request_id}
use Rattle.giop_stream.specs.Kinds.{is_opener_1_1, is_fragment_1_1, is_fragmented_1_1, has_fragments, is_any_fragment, lookup_offset, is_too_short_for_id}
use Rattle.giop_stream.specs.PayloadOwner.{acts_on_open}

or_none : (a b : Bool) → b ≡ false → (a || b) ≡ a
or_none true b e = refl
or_none false b e = e

-- ---- The versions and the types.

opener_minor : (h : List ℕ) → is_opener_1_2 h ≡ true → minor h ≡ 2
unfolding is_opener_1_2
opener_minor h e = eqb-true _ _ (and_parts _ _ (and_parts _ _ e).0).0

fragment_minor : (h : List ℕ) → is_fragment_1_2 h ≡ true → minor h ≡ 2
unfolding is_fragment_1_2
fragment_minor h e = eqb-true _ _ (and_parts _ _ e).0

old_opener_minor : (h : List ℕ) → is_opener_1_1 h ≡ true → minor h ≡ 1
unfolding is_opener_1_1
old_opener_minor h e = eqb-true _ _ (and_parts _ _ (and_parts _ _ e).0).0

pub old_fragment_minor : (h : List ℕ) → is_fragment_1_1 h ≡ true → minor h ≡ 1
unfolding is_fragment_1_1
old_fragment_minor h e = eqb-true _ _ (and_parts _ _ e).0

pub old_opener_low : (h : List ℕ) → is_opener_1_1 h ≡ true → kind h < 2
unfolding is_opener_1_1
old_opener_low h e = ltb-true _ _ (and_parts _ _ e).1

pub old_fragment_kind : (h : List ℕ) → is_fragment_1_1 h ≡ true → kind h ≡ 7
unfolding is_fragment_1_1
old_fragment_kind h e = eqb-true _ _ (and_parts _ _ e).1

cancel_kind : (h : List ℕ) → is_cancel_request h ≡ true → kind h ≡ 2
unfolding is_cancel_request
cancel_kind h e = eqb-true _ _ e

-- ---- Which messages aren't of 1.1 with a place.

old_minor : (h : List ℕ) → is_fragmented_1_1 h ≡ true → minor h ≡ 1
unfolding is_fragmented_1_1
old_minor h e = elim (or_cases (is_opener_1_1 h) (is_fragment_1_1 h) e) [
  | inl o ↦ old_opener_minor h o
  | inr f ↦ old_fragment_minor h f
]

pub opener_not_old : (h : List ℕ) → is_opener_1_2 h ≡ true → is_fragmented_1_1 h ≡ false
opener_not_old h e =
    false_from_ne_true _ (λ old. omega (arith, opener_minor h e, old_minor h old))

pub fragment_not_old : (h : List ℕ) → is_fragment_1_2 h ≡ true → is_fragmented_1_1 h ≡ false
fragment_not_old h e =
    false_from_ne_true _ (λ old. omega (arith, fragment_minor h e, old_minor h old))

old_no_cancel : (h : List ℕ) → is_fragmented_1_1 h ≡ true → kind h ≡ 2 → ⊥
unfolding is_fragmented_1_1
old_no_cancel h e two = elim (or_cases (is_opener_1_1 h) (is_fragment_1_1 h) e) [
  | inl o ↦ omega (arith, two, old_opener_low h o)
  | inr f ↦ omega (arith, two, old_fragment_kind h f)
]

pub cancel_not_old : (h : List ℕ) → is_cancel_request h ≡ true → is_fragmented_1_1 h ≡ false
cancel_not_old h e = false_from_ne_true _ (λ old. old_no_cancel h old (cancel_kind h e))

-- a message that begins with its request id
pub named_not_old : (h : List ℕ) → begins_with_request_id h ≡ true → is_fragmented_1_1 h ≡ false
named_not_old h n = elim (or_cases (is_opener_1_2 h || is_fragment_1_2 h) (is_cancel_request h) n) [
  | inl both ↦ elim (or_cases (is_opener_1_2 h) (is_fragment_1_2 h) both) [
    | inl o ↦ opener_not_old h o
    | inr f ↦ fragment_not_old h f
  ]
  | inr c ↦ cancel_not_old h c
]

pub any_is : (h : List ℕ) → is_fragmented_1_1 h ≡ false → is_any_fragment h ≡ is_fragment_1_2 h
unfolding is_any_fragment is_fragmented_1_1
any_is h new = or_none _ _ (or_parts (is_opener_1_1 h) (is_fragment_1_1 h) new).1

pub first_is : (h : List ℕ) → is_fragmented_1_1 h ≡ false → has_fragments h ≡ is_opener_1_2 h
unfolding has_fragments is_fragmented_1_1
first_is h new = or_none _ _ (or_parts (is_opener_1_1 h) (is_fragment_1_1 h) new).0

-- ---- Which are.

pub old_opener_old : (h : List ℕ) → is_opener_1_1 h ≡ true → is_fragmented_1_1 h ≡ true
unfolding is_fragmented_1_1
old_opener_old h e = or_left _ _ e

pub old_fragment_old : (h : List ℕ) → is_fragment_1_1 h ≡ true → is_fragmented_1_1 h ≡ true
unfolding is_fragmented_1_1
old_fragment_old h e = or_right _ _ e

-- Fragments follow such a message, or it is one
pub old_kinds : (h : List ℕ) → is_fragmented_1_1 h ≡ true →
    (is_any_fragment h ≡ true) ⊎ (has_fragments h ≡ true)
unfolding is_fragmented_1_1 is_any_fragment has_fragments
old_kinds h e = elim (or_cases (is_opener_1_1 h) (is_fragment_1_1 h) e) [
  | inl o ↦ inr (or_right (is_opener_1_2 h) (is_opener_1_1 h) o)
  | inr f ↦ inl (or_right (is_fragment_1_2 h) (is_fragment_1_1 h) f)
]

pub old_fragment_any : (h : List ℕ) → is_fragment_1_1 h ≡ true → is_any_fragment h ≡ true
unfolding is_any_fragment
old_fragment_any h f = or_right _ _ f

old_opener_first : (h : List ℕ) → is_opener_1_1 h ≡ true → has_fragments h ≡ true
unfolding has_fragments
old_opener_first h o = or_right _ _ o

pub old_opener_is : (h : List ℕ) → is_fragmented_1_1 h ≡ true → is_fragment_1_1 h ≡ false →
    has_fragments h ≡ true
unfolding is_fragmented_1_1 has_fragments
old_opener_is h e f = elim (or_cases (is_opener_1_1 h) (is_fragment_1_1 h) e) [
  | inl o ↦ or_right (is_opener_1_2 h) (is_opener_1_1 h) o
  | inr g ↦ absurd (let both : true ≡ false = sym g ∙ f in cc)
]

-- ---- The octets before the place.

pub named_old : (h : List ℕ) → is_fragmented_1_1 h ≡ true → lookup_offset h ≡ 0
unfolding lookup_offset
named_old h e = rw e refl

pub named_four : (h : List ℕ) → is_fragmented_1_1 h ≡ false → lookup_offset h ≡ 4
unfolding lookup_offset
named_four h e = rw e refl

opener_four : (h : List ℕ) → is_opener_1_2 h ≡ true → lookup_offset h ≡ 4
opener_four h e = named_four h (opener_not_old h e)

pub fragment_four : (h : List ℕ) → is_fragment_1_2 h ≡ true → lookup_offset h ≡ 4
fragment_four h e = named_four h (fragment_not_old h e)

pub named_by_four : (h : List ℕ) → begins_with_request_id h ≡ true → lookup_offset h ≡ 4
named_by_four h n = named_four h (named_not_old h n)

-- there are none or four
pub named_either : (h : List ℕ) → (lookup_offset h ≡ 0) ⊎ (lookup_offset h ≡ 4)
named_either h = go (is_fragmented_1_1 h) refl
  where
    go : (b : Bool) → is_fragmented_1_1 h ≡ b → (lookup_offset h ≡ 0) ⊎ (lookup_offset h ≡ 4)
    go true old = inl (named_old h old)
    go false new = inr (named_four h new)

pub named_within : (h : List ℕ) → lookup_offset h ≤ 4
named_within h = elim (named_either h) [
  | inl none ↦ omega (arith, none)
  | inr four ↦ omega (arith, four)
]

pub later_new : (h : List ℕ) → 0 < lookup_offset h → is_fragmented_1_1 h ≡ false
later_new h some = false_from_ne_true _ (λ old. omega (arith, some, named_old h old))

pub none_old : (h : List ℕ) → lookup_offset h ≡ 0 → is_fragmented_1_1 h ≡ true
none_old h none = go (is_fragmented_1_1 h) refl
  where
    go : (b : Bool) → is_fragmented_1_1 h ≡ b → is_fragmented_1_1 h ≡ true
    go true old = old
    go false new = absurd (omega (arith, none, named_four h new))

-- ---- A message that Fragments continue is no Fragment.

fragmented_kind : (h : List ℕ) → may_be_fragmented h ≡ true → (kind h == 7) ≡ false
unfolding may_be_fragmented
fragmented_kind h e = search (arith, ne_eqb)

opener_kind : (h : List ℕ) → is_opener_1_2 h ≡ true → (kind h == 7) ≡ false
unfolding is_opener_1_2
opener_kind h e = fragmented_kind h (and_parts _ _ e).1

old_opener_kind : (h : List ℕ) → is_opener_1_1 h ≡ true → (kind h == 7) ≡ false
old_opener_kind h e = ne_eqb _ _ (λ seven. omega (arith, seven, old_opener_low h e))

no_fragment : (h : List ℕ) → (kind h == 7) ≡ false → is_any_fragment h ≡ false
unfolding is_any_fragment is_fragment_1_2 is_fragment_1_1
no_fragment h e = or_from _ _ (and_right _ _ e) (and_right _ _ e)

pub first_no_fragment : (h : List ℕ) → has_fragments h ≡ true → is_any_fragment h ≡ false
unfolding has_fragments
first_no_fragment h e = elim (or_cases (is_opener_1_2 h) (is_opener_1_1 h) e) [
  | inl o ↦ no_fragment h (opener_kind h o)
  | inr o ↦ no_fragment h (old_opener_kind h o)
]

-- nor does a message that is a Fragment open one of 1.1
pub fragment_no_old : (h : List ℕ) → is_any_fragment h ≡ true → is_opener_1_1 h ≡ false
fragment_no_old h f = false_from_ne_true _ (λ o.
    let both : true ≡ false = sym f ∙ first_no_fragment h (old_opener_first h o) in absurd cc)

pub fragment_any : (h : List ℕ) → is_fragment_1_2 h ≡ true → is_any_fragment h ≡ true
unfolding is_any_fragment
fragment_any h e = or_left _ _ e

-- ---- Whether a message ends before its place.

short_by : (h : List ℕ) → (is_opener_1_2 h || is_fragment_1_2 h) ≡ true → size h < 4 →
    is_too_short_for_id h ≡ true
unfolding is_too_short_for_id
short_by h e less = and_from _ _ (lt-ltb _ _ less) e

pub short_first : (h : List ℕ) → has_fragments h ≡ true → size h < lookup_offset h →
    is_too_short_for_id h ≡ true
unfolding has_fragments
short_first h e less = elim (or_cases (is_opener_1_2 h) (is_opener_1_1 h) e) [
  | inl o ↦ short_by h (or_left _ _ o) (omega (arith, less, opener_four h o))
  | inr o ↦ absurd (omega (arith, less, named_old h (old_opener_old h o)))
]

pub short_fragment : (h : List ℕ) → is_any_fragment h ≡ true → size h < lookup_offset h →
    is_too_short_for_id h ≡ true
unfolding is_any_fragment
short_fragment h e less = elim (or_cases (is_fragment_1_2 h) (is_fragment_1_1 h) e) [
  | inl f ↦ short_by h (or_right _ _ f) (omega (arith, less, fragment_four h f))
  | inr f ↦ absurd (omega (arith, less, named_old h (old_fragment_old h f)))
]

pub short_before : (h : List ℕ) → is_too_short_for_id h ≡ true → size h < lookup_offset h
unfolding is_too_short_for_id
short_before h e =
    let both = and_parts (nat_lt (size h) 4) (is_opener_1_2 h || is_fragment_1_2 h) e in
    let less = ltb-true (size h) 4 both.0 in
    elim (or_cases (is_opener_1_2 h) (is_fragment_1_2 h) both.1) [
      | inl o ↦ omega (arith, less, opener_four h o)
      | inr f ↦ omega (arith, less, fragment_four h f)
    ]

pub long_enough : (h : List ℕ) → lookup_offset h ≤ size h → is_too_short_for_id h ≡ false
long_enough h long =
    false_from_ne_true _ (λ short. omega (arith, long, short_before h short))

pub fragment_long : (h : List ℕ) → is_any_fragment h ≡ true → is_too_short_for_id h ≡ false →
    lookup_offset h ≤ size h
fragment_long h f long = elim (cases_lt (size h) (lookup_offset h)) [
  | inl less ↦ absurd (let short = short_fragment h f less in cc)
  | inr enough ↦ omega (arith, enough)
]

-- a message of another kind has no place
pub other_long : (h : List ℕ) → has_fragments h ≡ false → is_any_fragment h ≡ false →
    is_too_short_for_id h ≡ false
unfolding is_too_short_for_id has_fragments is_any_fragment
other_long h g f =
    and_right (nat_lt (size h) 4) (is_opener_1_2 h || is_fragment_1_2 h)
    (or_from (is_opener_1_2 h) (is_fragment_1_2 h) (or_parts (is_opener_1_2 h)
    (is_opener_1_1 h) g).0
    (or_parts (is_fragment_1_2 h) (is_fragment_1_1 h) f).0)

-- ---- Whether a message has a place.

pub unnamed : (h : List ℕ) → begins_with_request_id h ≡ false → (is_opener_1_2 h ≡ false) ×
    (is_fragment_1_2 h ≡ false)
    × (is_cancel_request h ≡ false)
unnamed h e =
    let one = or_parts (is_opener_1_2 h || is_fragment_1_2 h) (is_cancel_request h) e in
    let two = or_parts (is_opener_1_2 h) (is_fragment_1_2 h) one.0 in
    (two.0, two.1, one.1)

pub unplaced : (h : List ℕ) → acts_on_open h ≡ false → (has_fragments h ≡ false)
    × (is_any_fragment h ≡ false) × (is_cancel_request h ≡ false)
unplaced h e =
    let both = or_parts (begins_with_request_id h) (is_fragmented_1_1 h) e in
    let kinds = unnamed h both.0 in
    (first_is h both.1 ∙ kinds.0, any_is h both.1 ∙ kinds.1, kinds.2)

pub any_placed : (h : List ℕ) → is_any_fragment h ≡ true → acts_on_open h ≡ true
unfolding is_any_fragment
any_placed h e = elim (or_cases (is_fragment_1_2 h) (is_fragment_1_1 h) e) [
  | inl f ↦ or_left (begins_with_request_id h) (is_fragmented_1_1 h) (or_left _ _ (or_right _ _ f))
  | inr f ↦ or_right (begins_with_request_id h) (is_fragmented_1_1 h) (old_fragment_old h f)
]

-- a message whose place comes after its request id begins with that id
pub placed_named : (h : List ℕ) → acts_on_open h ≡ true → is_fragmented_1_1 h ≡ false →
    begins_with_request_id h ≡ true
placed_named h e new = sym (or_none (begins_with_request_id h) (is_fragmented_1_1 h) new) ∙ e
