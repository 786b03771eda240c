-- Fields of a header: octets at an offset, and the numbers in them, the most significant octet
-- first (meaning).
use Rattle.std.specs.Prelude.{ℕ, Bool, List, take, drop, Option, None, option_and_then, if◌then◌else◌}
use Rattle.std.specs.Int.{w16, w32, from_be_bytes}

-- a value, and then another one that is made from it
infixl 10 ◌>>=◌
abbrev pub ◌>>=◌ : {A B : Type 0} → Option A → (A → Option B) → Option B
o >>= f = option_and_then f o

-- a value, if a condition holds
abbrev pub provided : {A : Type 0} (holds : Bool) (value : Option A) → Option A
provided holds o = if holds then o else None

-- this number of octets at an offset
abbrev pub octets_at : (offset size : ℕ) (octets : List ℕ) → List ℕ
octets_at at size octets = take size (drop at octets)

-- the number in two octets at an offset
unfoldable pub two_at : (offset : ℕ) (octets : List ℕ) → ℕ
two_at at octets = from_be_bytes w16 (octets_at at 2 octets)

-- the number in four octets at an offset
unfoldable pub four_at : (offset : ℕ) (octets : List ℕ) → ℕ
four_at at octets = from_be_bytes w32 (octets_at at 4 octets)
