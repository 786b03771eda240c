-- Laws of the numbers that octets are: with one more octet, and their bounds.
use Rattle.std.proofs.Common.{◌≡◌, ℕ, suc, ◌+◌, ◌*◌, ◌^◌, ◌<◌, ◌≤◌, List, [], ◌∷◌, ◌++◌, length, reverse, refl, arith, pow-suc}
use Rattle.std.proofs.lemmas.List.{reverse-append, length-reverse}
use Rattle.std.proofs.Math.Nat.{mul-le-mul_left}
use Rattle.giop_cdr.specs.declared.order.Order.{Order}
use Rattle.giop_cdr.specs.declared.order.Order.TheVariants.{Big, Little}
use Rattle.giop_cdr.specs.Numbers.{AreOctets, little_endian_number, num}

-- no octets are the number 0
pub num-nil : (order : Order) → num order [] ≡ 0
unfolding num
num-nil Big = refl
num-nil Little = refl

little-push : (xs : List ℕ) (x : ℕ) → little_endian_number (xs ++ x ∷ [])
    ≡ little_endian_number xs + x * 256 ^ length xs
little-push [] x = omega arith
little-push (y ∷ xs) x = rw (little-push xs x, pow-suc) (omega arith)

-- one more octet in front, which is the least significant one
pub num_little-cons : (x : ℕ) (xs : List ℕ) → num Little (x ∷ xs) ≡ x + 256 * num Little xs
unfolding num
num_little-cons x xs = refl

-- one more octet in front, which is the most significant one
pub num_big-cons : (x : ℕ) (xs : List ℕ) → num Big (x ∷ xs) ≡ x * 256 ^ length xs + num Big xs
unfolding num
num_big-cons x xs =
    let turned : reverse (x ∷ xs) ≡ reverse xs ++ x ∷ [] = reverse-append (x ∷ []) xs in
    rw (turned, little-push (reverse xs) x, length-reverse) (omega arith)

first_octet : (x : ℕ) (xs : List ℕ) → AreOctets (x ∷ xs) → x < 256
first_octet x xs h = h 0 0 (omega arith)

octets_after : (x : ℕ) (xs : List ℕ) → AreOctets (x ∷ xs) → AreOctets xs
octets_after x xs h = λ k d below. h (suc k) d (omega arith)

-- with one more octet in front, which is the most significant one, the number is below one more
-- power
below_power : (x n power : ℕ) → x < 256 → n < power → x * power + n < power * 256
below_power x n power octet below = omega (arith, mul-le-mul_left power (le_pred x octet))
  where
    le_pred : (x : ℕ) → x < 256 → x ≤ 255
    le_pred x h = omega arith

-- octets are a number below 256 to the power of their count
pub num_bound : (order : Order) (xs : List ℕ) → AreOctets xs → num order xs < 256 ^ length xs
num_bound Big [] h = rw num-nil (omega arith)
num_bound Little [] h = rw num-nil (omega arith)
num_bound Big (x ∷ xs) h = rw (num_big-cons, pow-suc)
    (below_power x (num Big xs) (256 ^ length xs) (first_octet x xs h)
    (num_bound Big xs (octets_after x xs h)))
num_bound Little (x ∷ xs) h = rw (num_little-cons, pow-suc)
    (omega (arith, num_bound Little xs (octets_after x xs h), first_octet x xs h))

-- four octets are a number of 32 bits
pub num_bound-4 : (order : Order) (xs : List ℕ) → AreOctets xs → length xs ≡ 4 →
    num order xs < 2 ^ 32
num_bound-4 order xs h e = let b : num order xs < 256 ^ 4 = rw e at (num_bound order xs h) in
    omega arith
