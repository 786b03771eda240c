-- The slots that are free (meaning).
use Rattle.std.specs.Prelude.{ℕ, zero, suc, List, [], ◌∷◌, ◌++◌}

-- the slots below a number, in ascending order
unfoldable pub slots_below : (bound : ℕ) → List ℕ
slots_below zero = []
slots_below (suc count) = slots_below count ++ count ∷ []
