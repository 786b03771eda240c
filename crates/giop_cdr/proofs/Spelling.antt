-- The code's loop over the octets of a number: at each octet the number becomes 256 times the
-- number before, plus the octet.
use Rattle.std.proofs.Common.{◌≡◌, ℕ, zero, suc, ◌+◌, ◌-◌, ◌*◌, ◌^◌, ◌<◌, ◌≤◌, List, length, take, drop, get_or, reverse, ◌∙◌, ap, arith, add-zero, add-one, pow-suc, add-suc, le_refl}
use Rattle.std.proofs.lemmas.List.{take_more, take_all, drop_more, reverse-append}
use Rattle.giop_cdr.specs.declared.order.Order.TheVariants.{Big, Little}
use Rattle.giop_cdr.specs.Numbers.{little_endian_number, num}

-- from the front, the most significant first
pub big_more : (xs : List ℕ) (i n x : ℕ) → i < length xs → n ≡ little_endian_number
    (reverse (take i xs)) →
    x ≡ get_or xs i 0 → n * 256 + x ≡ little_endian_number (reverse (take (i + 1) xs))
big_more xs i n x h e is = rw (take_more xs i 0 h, ← is, reverse-append, e) (omega arith)

pub big_all : (xs : List ℕ) (i n : ℕ) → length xs ≤ i → n ≡ little_endian_number
    (reverse (take i xs)) →
    n ≡ num Big xs
unfolding num
big_all xs i n h e = e ∙ ap (λ ys. little_endian_number (reverse ys)) (take_all i xs h)

-- from the back, the least significant first
pub little_more : (xs : List ℕ) (i n x : ℕ) → i < length xs → n ≡ little_endian_number
    (drop (i + 1) xs) →
    x ≡ get_or xs i 0 → n * 256 + x ≡ little_endian_number (drop i xs)
little_more xs i n x h e is = rw (drop_more xs i 0 h, ← is, e) (omega arith)

pub little_all : (xs : List ℕ) (n : ℕ) → n ≡ little_endian_number (drop 0 xs) → n ≡ num Little xs
unfolding num
little_all xs n e = e

-- with one more octet, the number is below one more power
pub spelled_bound : (k n x : ℕ) → n < 256 ^ k → x < 256 → n * 256 + x < 256 ^ (k + 1)
spelled_bound k n x h l = rw (add-one, pow-suc) (omega arith)

pow_le : (d k : ℕ) → 256 ^ k ≤ 256 ^ (k + d)
pow_le zero k = rw add-zero (le_refl (256 ^ k))
pow_le (suc d) k = rw (add-suc, pow-suc) (omega (arith, pow_le d k))

-- a number of fewer than 8 octets leaves room for one more octet in 64 bits
pub spelled_small : (k n : ℕ) → n < 256 ^ k → k < 8 → n < 2 ^ 56
spelled_small k n h below =
    let e : k + (7 - k) ≡ 7 = omega arith in
    let p : 256 ^ k ≤ 256 ^ 7 = rw e at (pow_le (7 - k) k) in
    omega arith

pub ruleset spelling_steps = (
  big_more,
  big_all,
  little_more,
  little_all,
  spelled_bound,
  spelled_small,
)
