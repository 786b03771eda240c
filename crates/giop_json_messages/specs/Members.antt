-- Members of an object that are put one after another (RFC 8259, Objects; meaning).
use Rattle.std.specs.Prelude.{ℕ, Bool, false, ◌==◌, List, [], ◌∷◌}

-- whether a member comes first, and not the end of the object
abbrev pub begins_member : (text : List ℕ) → Bool
begins_member [] = false
begins_member (b ∷ bs) = b == 34
