-- The octets of a part that a window holds (state).
use Rattle.std.specs.Prelude.{◌≡◌, ℕ, ◌+◌, ◌<◌, List, length, get_or}

-- the window is for `size` octets of a part, from offset `begin` on, and holds those of them that
-- have come
abbrev pub IsHeld : (window_begin window_size : ℕ) (part_octets_so_far window_octets : List ℕ) →
    Type 0
IsHeld begin size had window =
    (k : ℕ) → k < size → begin + k < length had → get_or window k 0 ≡ get_or had (begin + k) 0
