-- The numbers in octets at an offset, in either byte order (meaning).
use Rattle.std.specs.Prelude.{ℕ, List, take, drop}
use Rattle.std.specs.Int.{w16, w32, from_be_bytes, from_le_bytes}
use Rattle.capture_file.specs.declared.part.ByteOrder.{ByteOrder}
use Rattle.capture_file.specs.declared.part.ByteOrder.TheVariants.{Big, Little}

-- the number in two octets
unfoldable pub two_at : (order : ByteOrder) (offset : ℕ) (octets : List ℕ) → ℕ
two_at Big at octets = from_be_bytes w16 (take 2 (drop at octets))
two_at Little at octets = from_le_bytes w16 (take 2 (drop at octets))

-- the number in four octets
unfoldable pub four_at : (order : ByteOrder) (offset : ℕ) (octets : List ℕ) → ℕ
four_at Big at octets = from_be_bytes w32 (take 4 (drop at octets))
four_at Little at octets = from_le_bytes w32 (take 4 (drop at octets))
