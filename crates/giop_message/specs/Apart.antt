-- No two lines of one octet of a message have the same class (meaning).
use Rattle.std.specs.Prelude.{◌≢◌, ℕ, List, [], ◌∷◌, ◌++◌, map}
use Rattle.std.specs.List.{AllByRecursion as Each}
use Rattle.giop_message.specs.Phases.{Phase}
use Rattle.giop_message.specs.MessageReader.{LineClass, MessageReader, next_lines}

-- each line has a class that no line after it has
abbrev pub AreDistinct : (classes : List LineClass) → Type 0
AreDistinct [] = Unit {0}
AreDistinct (s ∷ ss) = Each (λ t. s ≢ t) ss × AreDistinct ss

-- no two lines of one octet, with those of a close at it, have the same class
pub record HasDistinctClasses (R : MessageReader) : Type 0 where
  pub apart : (phase : Phase) (number : ℕ) (header xs : List ℕ) (x : ℕ) →
      AreDistinct (map (λ r. r.line_class) (next_lines R phase number header xs x)
      ++ map (λ l. l.0) (R.closes phase number header (xs ++ x ∷ [])))
