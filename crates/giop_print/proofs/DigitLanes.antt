-- The lanes of a vector are spelled as the specs spell octets and numbers.
use Rattle.std.proofs.Common.{◌≡◌, ℕ, suc, ◌+◌, ◌*◌, ◌/◌, ◌%◌, ◌^◌, ◌<◌, ◌≤◌, List, [], ◌∷◌, ◌++◌, length, map, take, drop, replicate, leb, cond, bit_and, Fits, w8, refl, ap, ap₂, ◌∙◌, subst, arith}
use Rattle.std.proofs.lemmas.Bool.{cond-false, lt-leb}
use Rattle.std.proofs.lemmas.Nat.{and_mask}
use Rattle.std.proofs.lemmas.Simd.{zip2_splat, pick_l_whole, swz_l}
use Rattle.std.specs.Prelude.{codes}
use lib.Lanes.{Each1, zip2, pick_l}
use Rattle.giop_print.specs.Text.{hex_digit, hex}

-- the digits of the numbers of a vector, from lane `i` on
pub looked_up : (js : List ℕ) (i : ℕ) → i + length js ≤ 16 → Each1 (λ j. j < 16) js →
    swz_l w8 16 (codes "0123456789abcdef") i js ≡ map hex_digit js
looked_up [] i within below = refl
looked_up (j ∷ js) i within below =
    let same : 16 * (i / 16) + j ≡ j = omega arith in
    let rest = looked_up js (suc i) (omega arith) below.1 in
    let here : cond (leb 128 j) 0 (hex_digit (16 * (i / 16) + j)) ≡ hex_digit j =
    cond-false _ _ _ (lt-leb 128 j (omega (arith, below.0))) ∙ ap hex_digit same in
    λ k. here k ∷ rest k

abbrev low : (x : ℕ) → ℕ
low x = bit_and x 15

-- the upper half and the lower half of each octet, one octet after another
abbrev halves : (octets : List ℕ) → List ℕ
halves [] = []
halves (x ∷ xs) = x / 16 ∷ low x ∷ halves xs

low_is : (x : ℕ) → low x ≡ x % 16
low_is x = and_mask x 4

pub halves_below : (xs : List ℕ) → Each1 (Fits w8) xs → Each1 (λ half. half < 16) (halves xs)
halves_below [] fits = tt
halves_below (x ∷ xs) fits =
    (omega (arith, fits.0), (omega (arith, low_is x), halves_below xs fits.1))

pub halves_spelled : (xs : List ℕ) → map hex_digit (halves xs) ≡ hex xs
unfolding hex
halves_spelled [] = refl
halves_spelled (x ∷ xs) =
    let rest = halves_spelled xs in
    λ i. hex_digit (x / 16) ∷ hex_digit (low_is x i) ∷ rest i

-- the upper halves of 16 octets, and then the lower ones
abbrev apart : (v : List ℕ) → List ℕ
apart v = zip2 (λ a b. a / 2 ^ b) v (replicate 16 4) ++ zip2 bit_and v (replicate 16 15)

apart_is : (v : List ℕ) → length v ≡ 16 → apart v ≡ map (λ x. x / 16) v ++ map low v
apart_is v long = ap₂ (λ a b. a ++ b) (zip2_splat _ v 16 4 long) (zip2_splat _ v 16 15 long)

abbrev first_lanes : List ℕ
first_lanes =
    0 ∷ 16 ∷ 1 ∷ 17 ∷ 2 ∷ 18 ∷ 3 ∷ 19 ∷ 4 ∷ 20 ∷ 5 ∷ 21 ∷ 6 ∷ 22 ∷ 7 ∷ 23 ∷ []

abbrev other_lanes : List ℕ
other_lanes =
    8 ∷ 24 ∷ 9 ∷ 25 ∷ 10 ∷ 26 ∷ 11 ∷ 27 ∷ 12 ∷ 28 ∷ 13 ∷ 29 ∷ 14 ∷ 30 ∷ 15 ∷ 31 ∷ []

pub first_halves : (v : List ℕ) → length v ≡ 16 →
    pick_l 0 (apart v) first_lanes ≡ halves (take 8 v)
first_halves v long =
    ap (λ xs. pick_l 0 xs first_lanes) (apart_is v long)
    ∙ subst (λ u. pick_l 0 (map (λ x. x / 16) u ++ map low u) first_lanes ≡ halves (take 8 u))
    (pick_l_whole 0 v 16 long) refl

pub other_halves : (v : List ℕ) → length v ≡ 16 →
    pick_l 0 (apart v) other_lanes ≡ halves (drop 8 v)
other_halves v long =
    ap (λ xs. pick_l 0 xs other_lanes) (apart_is v long)
    ∙ subst (λ u. pick_l 0 (map (λ x. x / 16) u ++ map low u) other_lanes ≡ halves (drop 8 u))
    (pick_l_whole 0 v 16 long) refl
