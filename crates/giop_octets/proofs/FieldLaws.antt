-- How many octets a field has, which numbers they are, and what follows them.
use Rattle.std.proofs.Common.{◌≡◌, ℕ, ◌+◌, ◌-◌, ◌^◌, ◌<◌, ◌≤◌, List, ◌++◌, length, drop, replicate, Option, Some, None, refl, sym, ap, ◌∙◌, arith}
use Rattle.std.specs.Int.{w32, w64, from_be_bytes}
use Rattle.std.proofs.lemmas.List.{drop_at, drop-drop, length-append, length-replicate}
use Rattle.std.proofs.lemmas.Nat.{from_be_bytes-to_be_bytes_4, from_be_bytes-to_be_bytes_8}
use Rattle.giop_octets.specs.Fields.{four, eight, optional, held}

pub four_long : (n : ℕ) → length (four n) ≡ 4
unfolding four
four_long n = refl

pub four_again : (n : ℕ) → n < 2 ^ 32 → from_be_bytes w32 (four n) ≡ n
unfolding four
four_again n small = from_be_bytes-to_be_bytes_4 n small

pub eight_long : (n : ℕ) → length (eight n) ≡ 8
unfolding eight
eight_long n = refl

pub eight_again : (n : ℕ) → n < 2 ^ 64 → from_be_bytes w64 (eight n) ≡ n
unfolding eight
eight_again n small = from_be_bytes-to_be_bytes_8 n small

pub optional_long : (n : Option ℕ) → length (optional n) ≡ 5
unfolding four
optional_long None = refl
optional_long (Some n) = refl

pub held_long : (room : ℕ) (octets : List ℕ) → length octets ≤ room →
    length (held room octets) ≡ 1 + room
held_long room octets few =
    omega (
      arith,
      length-append octets (replicate (room - length octets) 0),
      length-replicate {A = ℕ} (room - length octets) 0,
    )

-- what follows after a field of this size at an offset
pub behind : (at size : ℕ) (octets field rest : List ℕ) → drop at octets ≡ field ++ rest →
    length field ≡ size → drop (at + size) octets ≡ rest
behind at size octets field rest is long =
    sym (drop-drop size at octets) ∙ ap (drop size) is ∙ drop_at field rest size long
