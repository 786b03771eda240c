-- How far the payloads of a flow reach: what is known of this stays true, and holds for another
-- number that is due.
use Rattle.std.proofs.Common.{◌≡◌, ◌⊎◌, ℕ, zero, suc, ◌^◌, ◌<◌, ◌≤◌, Bool, false, not, nat_eq, ◌&&◌, List, [], ◌∷◌, length, get_or, set, Option, Some, None, refl, ap, sym, ◌∙◌, arith, inl, inr}
use Rattle.std.specs.List.{insert, remove}
use Rattle.std.proofs.lemmas.Bool.{cases_eq, cases_lt, ne_eqb, and_right}
use Rattle.std.proofs.lemmas.List.{get_or-set_same, get_or-set_other, get_or_past, length-set}
use Rattle.std.proofs.lemmas.Option.{none-some}
use Rattle.tcp_waiting.specs.Numbers.{ahead}
use Rattle.tcp_waiting.specs.Payload.{Payload, no_payload, holds_beyond_window, ends_beyond_window, holds_as_long}
use Rattle.tcp_waiting.specs.Layout.{AreSmall, holds_beyond_window_but}
use Rattle.tcp_waiting.proofs.Order.{IsFirst}

-- whether a payload of the flow is one of those that end too far
abbrev pub is_other_beyond_window : (id next number count : ℕ) (payload : Payload) → Bool
is_other_beyond_window id next number count p =
    nat_eq p.flow id && not (nat_eq p.number number && nat_eq (length p.octets) count)
    && ends_beyond_window next p.number (length p.octets)

pub far_insert : (id next number count : ℕ) (ps : List Payload) (i : ℕ) (p : Payload) →
    holds_beyond_window_but id next number count ps ≡ false →
    is_other_beyond_window id next number count p ≡ false
    → holds_beyond_window_but id next number count (insert ps i p) ≡ false
unfolding holds_beyond_window_but
far_insert id next number count [] zero p h c = grind (arith, h, c)
far_insert id next number count [] (suc i) p h c = grind (arith, h, c)
far_insert id next number count (q ∷ ps) zero p h c = grind (arith, h, c)
far_insert id next number count (q ∷ ps) (suc i) p h c =
    grind (arith, h, c, far_insert id next number count ps i p)

pub far_remove : (id next number count : ℕ) (ps : List Payload) (i : ℕ) →
    holds_beyond_window_but id next number count ps ≡ false
    → holds_beyond_window_but id next number count (remove ps i) ≡ false
unfolding holds_beyond_window_but
far_remove id next number count [] zero h = h
far_remove id next number count [] (suc i) h = h
far_remove id next number count (q ∷ ps) zero h =
    grind (arith, h)
far_remove id next number count (q ∷ ps) (suc i) h =
    grind (arith, h, far_remove id next number count ps i)

-- if none ends too far, none but the left out ones does
pub far_none_but : (id next number count : ℕ) (ps : List Payload) →
    holds_beyond_window id next ps ≡ false →
    holds_beyond_window_but id next number count ps ≡ false
unfolding holds_beyond_window holds_beyond_window_but
far_none_but id next number count [] h = refl
far_none_but id next number count (p ∷ ps) h =
    grind (arith, h, far_none_but id next number count ps)

-- the payload that is left out isn't counted
pub itself : (id next : ℕ) (p : Payload) →
    is_other_beyond_window id next p.number (length p.octets) p ≡ false
itself id next p = grind arith

-- a payload of another flow isn't counted
pub another : (id next number count : ℕ) (p : Payload) → (p.flow ≡ id → ⊥) →
    is_other_beyond_window id next number count p ≡ false
another id next number count p h = grind (arith, ne_eqb p.flow id h)

-- ---- The answer from the payload that is left out.

pub far_by : (id next number count : ℕ) (ps : List Payload) →
    holds_beyond_window_but id next number count ps ≡ false
    → holds_beyond_window id next ps ≡ (ends_beyond_window next number count && holds_as_long id
    number count ps)
unfolding holds_beyond_window holds_beyond_window_but holds_as_long
far_by id next number count [] h = sym (and_right (ends_beyond_window next number count) false refl)
far_by id next number count (p ∷ ps) h =
    grind (arith, h, far_by id next number count ps)

-- ---- Another number that is due.

-- all payloads of a flow are ahead of `next` by less than 2^31
abbrev pub AreAhead : (id next : ℕ) (payloads : List Payload) → Type 0
AreAhead id next ps = (j : ℕ) → j < length ps → (get_or ps j no_payload).flow ≡ id →
    ahead next (get_or ps j no_payload).number < 2 ^ 31

pub far_on : (id base next number count : ℕ) (ps : List Payload) → next < 2 ^ 32 →
    ahead base next ≤ 2 ^ 31 → AreSmall ps → AreAhead id next ps
    → holds_beyond_window_but id base number count ps ≡ false →
    holds_beyond_window_but id next number count ps ≡ false
unfolding holds_beyond_window_but
far_on id base next number count [] n a s c h = refl
far_on id base next number count (p ∷ ps) n a s c h = grind (
  arith,
  n,
  a,
  s.0.number,
  c 0 (omega arith),
  h,
  far_on id base next number count ps n a s.1 (λ j l own. c (suc j) (omega arith) own),
)

-- if the first payload of a flow is ahead, all are
pub all_ahead : (id next : ℕ) (ps : List Payload) (i : ℕ) → IsFirst id next ps i →
    ahead next (get_or ps i no_payload).number < 2 ^ 31 → AreAhead id next ps
all_ahead id next ps i first h = λ j l own. omega (arith, (first.least j l own).0)

-- ---- What is known of each flow.

-- an element of a list after one was set: the new one, or the old one at another index
pub set_cases : {X : Type 0} (xs : List (Option X)) (i j : ℕ) (v : Option X) (x : X) →
    get_or (set xs i v) j None ≡ Some x
    → ((j ≡ i) × (v ≡ Some x)) ⊎ ((i ≡ j → ⊥) × (get_or xs j None ≡ Some x))
set_cases xs i j v x h =
    elim (cases_eq j i) [
      | inl e ↦ elim (cases_lt i (length xs)) [
        | inl l ↦ inl (
          e,
          sym (get_or-set_same xs i v None l)
              ∙ ap (λ (k : ℕ). get_or (set xs i v) k None) (sym e) ∙ h,
        )
        | inr l ↦ absurd (none-some x (sym (get_or_past (set xs i v) j None
            (omega (arith, length-set xs i v))) ∙ h))
      ]
      | inr o ↦ inr (λ e. o (sym e), sym (get_or-set_other xs i j v None o) ∙ h)
    ]
