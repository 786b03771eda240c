-- A search for the first element that passes a test goes on after elements that don't.
use Rattle.std.proofs.Common.{◌≡◌, ◌+◌, ◌-◌, ℕ, Bool, true, false, cond, min, List, [], ◌∷◌, ◌++◌, length, Option, Some, refl, sym, ap, ◌∙◌, arith, add-zero, suc, ◌≤◌, drop, length-take, length-drop, slice_range, inl, inr}
use Rattle.std.proofs.Math.Seq.{drop-length, drop-append-add}
use Rattle.std.proofs.lemmas.Bool.{cases_lt}
use Rattle.std.proofs.lemmas.List.{take_all, drop-append-le}
use Rattle.std.proofs.lemmas.List.Folds.{drop_split}
use Rattle.std.specs.List.{list_any, position_from}
use Rattle.std.specs.Option.{option_map, option_or}

module _ {X : Type 0} (test : X → Bool) where
  pub position-past : (xs ys : List X) (from : ℕ) → list_any test xs ≡ false →
      position_from test from (xs ++ ys) ≡ position_from test (from + length xs) ys
  position-past [] ys from none = rw add-zero refl
  position-past (x ∷ xs) ys from none = by (test x) refl (position-past xs ys (from + 1))
    where
      by : (b : Bool) → test x ≡ b → (list_any test xs ≡ false →
          position_from test (from + 1) (xs ++ ys) ≡ position_from test (from + 1 + length xs) ys) →
          position_from test from (x ∷ xs ++ ys) ≡ position_from test (from + suc (length xs)) ys
      by true e past = absurd (cc (rw e at none))
      by false e past =
          let same : from + 1 + length xs ≡ from + suc (length xs) = omega arith in
          rw (e, ← same) (past (rw e at none))

  -- a block in which no element passes the test is skipped
  pub position-block : (xs : List X) (at size : ℕ) → at + size ≤ length xs →
      list_any test (slice_range xs at (at + size)) ≡ false →
      position_from test at (drop at xs) ≡ position_from test (at + size) (drop (at + size) xs)
  position-block xs at size within none =
      let block = slice_range xs at (at + size) in
      let past = position-past block (drop (at + size) xs) at none in
      let long : length block ≡ size = grind (arith, length-take, length-drop) in
      ap (position_from test at) (drop_split xs at (at + size) (omega arith)) ∙ (rw long at past)

  -- a search that counts on from another number finds the same element
  position-on : (xs : List X) (more from : ℕ) →
      position_from test (more + from) xs
      ≡ option_map (λ k. more + k) (position_from test from xs)
  position-on [] more from = refl
  position-on (x ∷ xs) more from =
      let next : more + from + 1 ≡ more + (from + 1) = omega arith in
      rw (next, position-on xs more (from + 1)) (on (test x) (position_from test (from + 1) xs))
    where
      on : (b : Bool) (o : Option ℕ) → cond b (Some (more + from)) (option_map (λ k. more + k) o)
          ≡ option_map (λ k. more + k) (cond b (Some from) o)
      on true o = refl
      on false o = refl

  pub position-shift : (xs : List X) (from : ℕ) →
      position_from test from xs ≡ option_map (λ k. from + k) (position_from test 0 xs)
  position-shift xs from =
      ap (λ n. position_from test n xs) (sym (add-zero from)) ∙ position-on xs from 0

  -- a search goes on in the second list if the first one has no such element
  position-joined : (xs ys : List X) (from : ℕ) →
      position_from test from (xs ++ ys)
      ≡ option_or (position_from test from xs) (position_from test (from + length xs) ys)
  position-joined [] ys from = rw add-zero refl
  position-joined (x ∷ xs) ys from =
      let long : from + suc (length xs) ≡ from + 1 + length xs = omega arith in
      rw (long, position-joined xs ys (from + 1))
      (or (test x) (position_from test (from + 1) xs))
    where
      or : (b : Bool) (o : Option ℕ) →
          cond b (Some from) (option_or o (position_from test (from + 1 + length xs) ys))
          ≡ option_or (cond b (Some from) o) (position_from test (from + 1 + length xs) ys)
      or true o = refl
      or false o = refl

  -- the same for a search from an index on
  pub position-slices : (xs ys : List X) (from : ℕ) →
      position_from test from (drop from (xs ++ ys))
      ≡ option_or
      (position_from test (min from (length xs)) (drop (min from (length xs)) xs))
      (option_map (λ k. length xs + k)
      (position_from test (from - length xs) (drop (from - length xs) ys)))
  position-slices xs ys from = elim (cases_lt from (length xs)) [
    | inl within ↦
        let at : min from (length xs) ≡ from = omega (arith, within) in
        let none : from - length xs ≡ 0 = omega (arith, within) in
        let end : from + length (drop from xs) ≡ length xs = omega (
          arith,
          within,
          length-drop from xs,
        ) in
        rw (
          at,
          none,
          drop-append-le from xs ys (omega (arith, within)),
          position-joined (drop from xs) ys from,
          end,
          ← position-shift ys (length xs),
        ) refl
    | inr past ↦
        let at : min from (length xs) ≡ length xs = omega (arith, past) in
        let rest : from ≡ length xs + (from - length xs) = omega (arith, past) in
        rw (at, drop-length xs) (ap (λ n. position_from test n (drop n (xs ++ ys))) rest
        ∙ ap (position_from test (length xs + (from - length xs))) (drop-append-add xs ys _)
        ∙ position-on (drop (from - length xs) ys) (length xs) (from - length xs))
  ]

-- the part of a list from an index to its end
pub rest-is : {X : Type 0} (xs : List X) (at : ℕ) → slice_range xs at (length xs) ≡ drop at xs
rest-is xs at = take_all _ (drop at xs) (omega (arith, length-drop at xs))
