-- The number that octets are, and its value as a primitive (CDR Transfer Syntax, Primitive Types;
-- meaning).
use Rattle.std.specs.Prelude.{ℕ, ◌+◌, ◌-◌, ◌*◌, ◌^◌, ◌<◌, ◌==◌, ℤ, pos, ◌-ℤ◌, true, false, if◌then◌else◌, nat_lt, List, [], ◌∷◌, reverse, All, Option, Some, None}
use Rattle.giop_cdr.specs.declared.order.Order.{Order}
use Rattle.giop_cdr.specs.declared.order.Order.TheVariants.{Big, Little}
use Rattle.giop_cdr.specs.declared.prim.Primitive.{Primitive}
use Rattle.giop_cdr.specs.declared.prim.Primitive.TheVariants as prims
use Rattle.giop_cdr.specs.declared.number.Number.{Number}
use Rattle.giop_cdr.specs.declared.number.Number.TheVariants as numbers

-- numbers that are octets
abbrev pub AreOctets : (octets : List ℕ) → Type 0
AreOctets octets = All (λ x. x < 256) octets

-- the whole number that octets are in base 256, the least significant octet first
abbrev pub little_endian_number : (octets : List ℕ) → ℕ
little_endian_number [] = 0
little_endian_number (x ∷ xs) = x + 256 * little_endian_number xs

-- the whole number that octets are in base 256; the most significant octet is first for Big and
-- last for Little
unfoldable pub num : (order : Order) (octets : List ℕ) → ℕ
num Big octets = little_endian_number (reverse octets)
num Little octets = little_endian_number octets

-- the signed number that a number of this many octets is in two's complement: if its most
-- significant bit is set, it is less by 2 to the number of its bits
unfoldable pub twos_complement : (octet_count unsigned_number : ℕ) → ℤ
twos_complement size number = if nat_lt number (2 ^ (8 * size - 1)) then pos number else
    (pos number -ℤ pos (2 ^ (8 * size)))

-- a boolean is 0 or 1
abbrev pub truth_of : (whole_number : ℕ) → Option Number
truth_of number = if number == 0 then Some (numbers.Truth false) else
    (if number == 1 then Some (numbers.Truth true) else None)

-- the value that a whole number is as a primitive; a boolean above 1 has none
abbrev pub interpreted_as : (primitive : Primitive) (whole_number : ℕ) → Option Number
interpreted_as prims.Octet number = Some (numbers.Unsigned number)
interpreted_as prims.Char number = Some (numbers.Char number)
interpreted_as prims.Boolean number = truth_of number
interpreted_as prims.Short number = Some (numbers.Signed (twos_complement 2 number))
interpreted_as prims.UShort number = Some (numbers.Unsigned number)
interpreted_as prims.Long number = Some (numbers.Signed (twos_complement 4 number))
interpreted_as prims.ULong number = Some (numbers.Unsigned number)
interpreted_as prims.LongLong number = Some (numbers.Signed (twos_complement 8 number))
interpreted_as prims.ULongLong number = Some (numbers.Unsigned number)
interpreted_as prims.Float number = Some (numbers.Bits number)
interpreted_as prims.Double number = Some (numbers.Bits number)

-- the value that octets are as a primitive
abbrev pub number_of : (primitive : Primitive) (order : Order) (octets : List ℕ) → Option Number
number_of prim order octets = interpreted_as prim (num order octets)
