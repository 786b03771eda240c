-- Sequence numbers, which have 32 bits and wrap around (RFC 9293, Sequence Numbers).
use Rattle.std.specs.Prelude.{ℕ, ◌+◌, ◌-◌, ◌%◌, ◌^◌, Bool, cond, nat_lt, ◌&&◌}

-- how far `number` is after `next`, modulo 2^32
abbrev pub ahead : (next number : ℕ) → ℕ
ahead next number = (number + (2 ^ 32 - next)) % 2 ^ 32

-- the number that is `count` after a number, modulo 2^32
abbrev pub onward : (number octet_count : ℕ) → ℕ
onward number count = (number + count) % 2 ^ 32

-- how far a number is before `next`; 0 if it is `next` or after it
abbrev pub age : (next number : ℕ) → ℕ
age next number = cond (nat_lt (ahead next number) (2 ^ 31)) 0 (2 ^ 32 - ahead next number)

-- whether a number is after `next`, by less than 2^31
abbrev pub is_to_come : (next number : ℕ) → Bool
is_to_come next number = nat_lt 0 (ahead next number) && nat_lt (ahead next number) (2 ^ 31)

-- a number's signed distance from `next`, plus 2^31: the oldest number has the least rank
abbrev pub rank : (next number : ℕ) → ℕ
rank next number = (ahead next number + 2 ^ 31) % 2 ^ 32
