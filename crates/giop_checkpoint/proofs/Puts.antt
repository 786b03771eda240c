-- Octets that are written one part after another.
use Rattle.std.proofs.Common.{◌≡◌, ℕ, List, ◌++◌, ap, ◌∙◌, append_assoc}

-- one part is written after the others
pub then : (before between after a b : List ℕ) → between ≡ before ++ a → after ≡ between ++ b →
    after ≡ before ++ (a ++ b)
then before between after a b first next =
    next ∙ ap (λ (xs : List ℕ). xs ++ b) first ∙ append_assoc before a b
