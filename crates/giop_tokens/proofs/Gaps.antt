-- White space and comments, octet by octet.
use Rattle.std.proofs.Common.{◌≡◌, ℕ, zero, suc, ◌+◌, ◌-◌, ◌<◌, Bool, List, [], ◌∷◌, length, get_or, take, drop, refl, take_all, suc-add, arith}
use Rattle.std.proofs.lemmas.List.{length-drop}
use Rattle.giop_tokens.specs.Tokens.{after_gap, gap_step, here_or_on}

pub gap_at : (bs : List ℕ) (i : ℕ) (comment : Bool) → i < length bs
    → after_gap comment (drop i bs) ≡ here_or_on
    (gap_step comment (get_or bs i 0) (get_or bs (i + 1) 0))
    (drop i bs) (λ more. after_gap more (drop (i + 1) bs))
unfolding after_gap
gap_at [] i comment lt = absurd (omega arith)
gap_at (b ∷ []) zero comment lt = refl
gap_at (b ∷ d ∷ bs) zero comment lt = refl
gap_at (b ∷ bs) (suc i) comment lt = rw (suc-add i 1) (gap_at bs i comment (omega arith))

pub to_end : (n : ℕ) (xs : List ℕ) → take (length xs - n) (drop n xs) ≡ drop n xs
to_end n xs = search (arith, take_all, drop, length-drop)

pub gap_none : (comment : Bool) → after_gap comment [] ≡ []
unfolding after_gap
gap_none comment = refl
