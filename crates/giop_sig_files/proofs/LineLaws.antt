-- The first line of a text, by the index of its LF; and the words of a line, as they are read.
use Rattle.std.proofs.Common.{◌≡◌, ℕ, ◌-◌, ◌<◌, ◌≤◌, Bool, true, false, cond, ltb, refl, List, length, drop, take, Option, Some, None, arith}
use Rattle.std.specs.Prelude.{MatchOption}
use Rattle.std.specs.List.{position_or_len}
use Rattle.std.proofs.lemmas.Bool.{ltb-true, ltb-false}
use Rattle.std.proofs.lemmas.List.{take_all, length-drop}

ends_by : (n k : ℕ) (b : Bool) → ltb n k ≡ b
    → MatchOption (cond b (Some n) None) (k ≤ n) (λ i. (i ≡ n) × (i < k))
ends_by n k true is = (refl, ltb-true n k is)
ends_by n k false is = ltb-false n k is

module _ (p : ℕ → Bool) where
  pub ends_at : (xs : List ℕ) (r : Option ℕ)
      → r ≡ cond (ltb (position_or_len p xs) (length xs)) (Some (position_or_len p xs)) None
      → MatchOption r (length xs ≤ position_or_len p xs)
      (λ k. (k ≡ position_or_len p xs) × (k < length xs))
  ends_at xs r e = rw e (ends_by (position_or_len p xs) (length xs) _ refl)

pub to_end : (n : ℕ) (xs : List ℕ) → take (length xs - n) (drop n xs) ≡ drop n xs
to_end n xs = search (arith, take_all, drop, length-drop)
