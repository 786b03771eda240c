-- How the fields of a checkpoint are written in octets: numbers with the most significant octet
-- first, and zeros if nothing is stored (meaning).
use Rattle.std.specs.Prelude.{ℕ, ◌-◌, List, ◌∷◌, ◌++◌, length, replicate, Option, Some, None}
use Rattle.std.specs.Int.{w32, w64, to_be_bytes}

-- a number below 2 ^ 32
unfoldable pub four : (big_endian_number : ℕ) → List ℕ
four number = to_be_bytes w32 number

-- a number below 2 ^ 64
unfoldable pub eight : (big_endian_number : ℕ) → List ℕ
eight number = to_be_bytes w64 number

-- a number that may be missing: 1 and the number, or zeros
abbrev pub optional : (flagged_four_octet_number : Option ℕ) → List ℕ
optional None = 0 ∷ four 0
optional (Some number) = 1 ∷ four number

-- a few octets: first their number, then the octets, then zeros up to the room for them
abbrev pub held : (zero_filled_room : ℕ) (counted_octets : List ℕ) → List ℕ
held room octets = length octets ∷ octets ++ replicate (room - length octets) 0
