-- What a line that is spelled from its end holds (state).
use Rattle.std.specs.Prelude.{◌≡◌, ℕ, ◌+◌, Bool, IsTrue, List, ◌++◌, length, drop, codes, decimal}
use Rattle.giop_print.specs.declared.line.Line.{Line}

-- the text that was spelled
abbrev pub line_text : (line : Line) → List ℕ
line_text l = drop l.at l.octets

-- how many more octets fit
abbrev pub line_room : (line : Line) → ℕ
line_room l = l.at

-- a line of a message: `m`, the message's number, and the rest of the line
abbrev pub numbered : (message_number : ℕ) (text_after_number : List ℕ) → List ℕ
numbered message rest = codes "m" ++ (decimal message ++ rest)

-- a line of a message at a place: `m`, the message's number, a space, the place, and the rest of
-- the line
abbrev pub headed : (message_number : ℕ) (path_text rest_of_line : List ℕ) → List ℕ
headed message place rest = numbered message (codes " " ++ (place ++ rest))

-- what spelling a text before a line did: all of the text was put there, or an end of it if the
-- line had no room for all
pub record Spells (all_fitted : Bool) (before after : Line) (text : List ℕ) : Type 0 where
  pub front : List ℕ
  pub spelled : line_text after ≡ front ++ line_text before
  pub room : line_room after + length front ≡ line_room before
  pub all : IsTrue all_fitted → front ≡ text
