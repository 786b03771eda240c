-- What a window holds after one more piece of a part.
use Rattle.std.proofs.Common.{◌≡◌, ℕ, ◌+◌, ◌-◌, ◌<◌, ◌≤◌, List, ◌++◌, length, take, drop, get_or, max, min, arith}
use Rattle.std.proofs.lemmas.List.{length-append, length-take, length-drop, get_or-take, get_or-drop, get_or_append_left, get_or-append_right}
use Rattle.std.proofs.lemmas.Bool.Decides.{leb_tells}
use Rattle.std.proofs.lemmas.Grind.{same_number_lists}
use Rattle.capture_file.specs.Window.{IsHeld}

-- after octets were copied into a window from an index on, the window has them there
copied : (old next : List ℕ) (i n k : ℕ) → i ≤ length old → length next ≡ n → i ≤ k → k < i + n →
    get_or (take i old ++ (next ++ drop n (drop i old))) k 0 ≡ get_or next (k - i) 0
copied old next i n k fits long low high = search (
  arith,
  take,
  length-take,
  get_or-append_right,
  drop,
  get_or_append_left,
)

left : (old next : List ℕ) (i n k : ℕ) → i ≤ length old → k < i →
    get_or (take i old ++ (next ++ drop n (drop i old))) k 0 ≡ get_or old k 0
left old next i n k fits low = search (
  arith,
  take,
  length-take,
  get_or_append_left,
  drop,
  get_or-take,
)

-- if all octets that a window is for have come, the window holds all of them
pub held_all : (begin size : ℕ) (had window : List ℕ) → IsHeld begin size had window →
    size ≤ length window →
    begin + size ≤ length had → take size window ≡ take size (drop begin had)
held_all begin size had window held fits come = search (
  arith,
  same_number_lists,
  take,
  drop,
  length-take,
  length-drop,
  get_or-take,
  get_or-drop,
)

pub kept_copied : (begin size from to : ℕ) (had piece window : List ℕ) →
    IsHeld begin size had window → size ≤ length window →
    from ≡ max (length had) begin → to ≡ min (length had + length piece) (begin + size) →
    from < to →
    IsHeld begin size (had ++ piece)
    (take (from - begin) window
    ++ (take (to - length had - (from - length had)) (drop (from - length had) piece)
    ++ drop (to - begin - (from - begin)) (drop (from - begin) window)))
kept_copied begin size from to had piece window held fits is_from is_to less k below come = search (
  arith,
  take,
  drop,
  length-take,
  length-drop,
  leb_tells,
  left,
  get_or_append_left,
  copied,
  length-append,
  get_or-take,
  get_or-drop,
  get_or,
  get_or-append_right,
)
