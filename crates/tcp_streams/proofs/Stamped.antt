-- The flows of the live streams have stamps, so a flow without a stamp isn't among them; and at
-- which place a flow stands.
use Rattle.std.proofs.Common.{◌≡◌, ℕ, suc, ◌<◌, Bool, true, false, cond, eqb, List, [], ◌∷◌, ◌++◌, length, get_or, set, Option, Some, refl, sym, arith, inl, inr}
use Rattle.std.specs.Option.{option_map}
use Rattle.std.specs.List.{AllByRecursion, IsDistinct}
use Rattle.std.proofs.lemmas.Bool.{eqb-false, cases_eq, cases_lt}
use Rattle.std.proofs.lemmas.List.{get_or-set_same, get_or-set_other, get_or_past, length-set}
use Rattle.tcp_streams.specs.declared.pair.Side.TheVariants.{FromLesser, FromGreater}
use Rattle.tcp_streams.specs.Lives.{without}
use Rattle.tcp_streams.specs.Stamped.{AreStamped, first_side}
use Rattle.tcp_streams.proofs.Ids.{all_without, none_left, push_all}

-- ---- Which flows have a stamp.

-- a flow has a stamp, or there is no memory for one, after the stamp of a flow was noted
pub stamp_set : (stamps : List ℕ) (n s x : ℕ) → (x ≡ n → 0 < s) →
    ((x ≡ n → ⊥) → 0 < get_or stamps x 1) → 0 < get_or (set stamps n s) x 1
stamp_set stamps n s x own other =
    elim (cases_eq x n) [
      | inl e ↦ elim (cases_lt n (length stamps)) [
        | inl b ↦ rw (e, get_or-set_same stamps n s 1 b) (own e)
        | inr b ↦ omega (
          arith,
          get_or_past (set stamps n s) x 1 (omega (arith, length-set stamps n s)),
        )
      ]
      | inr o ↦ rw (get_or-set_other stamps n x s 1 o) (other o)
    ]

-- the other flows keep their stamps
pub stamped_others : (stamps : List ℕ) (n s : ℕ) (xs : List ℕ) →
    AllByRecursion (λ x. eqb n x ≡ false) xs → AreStamped stamps xs → AreStamped (set stamps n s) xs
stamped_others stamps n s [] d h = tt
stamped_others stamps n s (x ∷ xs) d h = (
  stamp_set stamps n s x (λ e. absurd (eqb-false n x d.0 (sym e))) (λ o. h.0),
  stamped_others stamps n s xs d.1 h.1,
)

-- the flows that are left have stamps after one was taken away
pub stamped_without : (stamps : List ℕ) (n s : ℕ) (xs : List ℕ) → IsDistinct eqb xs →
    AreStamped stamps xs → AreStamped (set stamps n s) (without n xs)
stamped_without stamps n s xs d h = stamped_others stamps n s (without n xs) (none_left n xs d)
    (all_without (λ x. 0 < get_or stamps x 1) n xs h)

-- the flows have stamps after one more was added
pub stamped_push : (stamps : List ℕ) (n s : ℕ) (xs : List ℕ) → 0 < s →
    AllByRecursion (λ x. eqb n x ≡ false) xs → AreStamped stamps xs →
    AreStamped (set stamps n s) (xs ++ n ∷ [])
stamped_push stamps n s xs l d h = push_all (λ x. 0 < get_or (set stamps n s) x 1) xs n
    (stamped_others stamps n s xs d h)
    (stamp_set stamps n s n (λ e. l) (λ o. absurd (o refl)))

-- ---- Which stream of a slot is the first, from the places of the two.

pub elder_case : (l g : Option ℕ) (a b : Bool) → (a ≡ true → b ≡ false) →
    first_side (cond a (Some 0) (option_map suc l)) (cond b (Some 0) (option_map suc g))
    ≡ cond a FromLesser (cond b FromGreater (first_side l g))
unfolding first_side
elder_case l g a b h = grind (arith, h)
