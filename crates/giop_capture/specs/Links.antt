-- The link types for which a notice is given, among those in a capture whose packets aren't read
-- (meaning).
use Rattle.std.specs.Prelude.{ℕ, ◌==◌, ◌||◌, Bool, cond, not, ltb, List, [], ◌∷◌, ◌++◌, length}
use Rattle.std.specs.List.{list_any}

-- whether a link type is new: it isn't among those of `noted`, and these are fewer than `most`
abbrev pub is_new_link : (most_noted : ℕ) (noted_before : List ℕ) (link_type : ℕ) → Bool
is_new_link room noted link = not (list_any (λ other. other == link) noted
    || not (ltb (length noted)
    room))

-- the link types of `noted` after one more packet of a link type that isn't read
abbrev pub noted_after : (most_noted : ℕ) (noted_before : List ℕ) (unread_link_type : ℕ) → List ℕ
noted_after room noted link = cond (is_new_link room noted link) (noted ++ link ∷ []) noted
