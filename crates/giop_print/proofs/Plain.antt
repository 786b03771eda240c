-- Octets that stand for themselves between quotes, as a vector's lanes are compared.
use Rattle.std.proofs.Common.{◌≡◌, ℕ, zero, suc, ◌+◌, ◌*◌, ◌^◌, ◌%◌, ◌≤◌, Bool, true, false, cond, nat_lt, nat_eq, eqb, List, [], ◌∷◌, ◌++◌, length, map, replicate, IsTrue, bit_or, refl, sym, ap, ◌∙◌, arith}
use Rattle.std.proofs.lemmas.Bool.{eqb-true}
use Rattle.std.proofs.lemmas.Nat.{le_or_l, le_or_r}
use Rattle.std.proofs.lemmas.List.{length-map}
use Rattle.std.proofs.lemmas.Simd.{mask_l-mod}
use lib.Lanes.{zip2, mask_l, top}
use Rattle.giop_print.specs.Text.{escaped}

-- the lanes that are equal or ordered have all bits, and the mask has the top bit of each lane
abbrev lanes_mask : (holds : ℕ → ℕ → Bool) (xs ys : List ℕ) → ℕ
lanes_mask holds xs ys = mask_l (map (top 7) (zip2 (λ a b. cond (holds a b) 255 0) xs ys))

first_clear : (b : Bool) (n : ℕ) → cond (top 7 (cond b 255 0)) 1 zero + 2 * n ≡ 0 →
    (b ≡ false) × (n ≡ 0)
first_clear true n e = absurd (omega (arith, e))
first_clear false n e = (refl, omega (arith, e))

all_plain : (n : ℕ) (xs : List ℕ) → length xs ≡ n → lanes_mask nat_lt xs (replicate n 32) ≡ 0 →
    lanes_mask nat_lt (replicate n 126) xs ≡ 0 → lanes_mask nat_eq xs (replicate n 34) ≡ 0 →
    lanes_mask nat_eq xs (replicate n 92) ≡ 0 → escaped xs ≡ xs
unfolding escaped
all_plain zero [] e low high quote backslash = refl
all_plain zero (x ∷ xs) e low high quote backslash = absurd (omega (arith, e))
all_plain (suc n) [] e low high quote backslash = absurd (omega (arith, e))
all_plain (suc n) (x ∷ xs) e low high quote backslash =
    let l = first_clear (nat_lt x 32) (lanes_mask nat_lt xs (replicate n 32)) low in
    let h = first_clear (nat_lt 126 x) (lanes_mask nat_lt (replicate n 126) xs) high in
    let q = first_clear (nat_eq x 34) (lanes_mask nat_eq xs (replicate n 34)) quote in
    let b = first_clear (nat_eq x 92) (lanes_mask nat_eq xs (replicate n 92)) backslash in
    rw (l.0, h.0, q.0, b.0)
    (ap (λ ys. x ∷ ys) (all_plain n xs (omega (arith, e)) l.1 h.1 q.1 b.1))

length-zip2 : (f : ℕ → ℕ → ℕ) (xs ys : List ℕ) → length (zip2 f xs ys) ≤ length xs
length-zip2 f [] ys = omega arith
length-zip2 f (x ∷ xs) [] = omega arith
length-zip2 f (x ∷ xs) (y ∷ ys) = omega (arith, length-zip2 f xs ys)

none_set : (holds : ℕ → ℕ → Bool) (xs ys : List ℕ) → length xs ≡ 16 →
    lanes_mask holds xs ys % 2 ^ 64 ≤ 0 → lanes_mask holds xs ys ≡ 0
none_set holds xs ys e none =
    let lanes = zip2 (λ a b. cond (holds a b) 255 0) xs ys in
    let short : length (map (top 7) lanes) ≤ 64 = omega (
      arith,
      length-map lanes (top 7),
      length-zip2 (λ a b. cond (holds a b) 255 0) xs ys,
      e,
    ) in
    omega (arith, none, mask_l-mod (map (top 7) lanes) 64 short)

pub block_plain : (xs : List ℕ) → length xs ≡ 16 →
    IsTrue (nat_eq (bit_or (bit_or (bit_or (lanes_mask nat_lt xs (replicate 16 32) % 2 ^ 64)
    (lanes_mask nat_lt (replicate 16 126) xs % 2 ^ 64))
    (lanes_mask nat_eq xs (replicate 16 34) % 2 ^ 64))
    (lanes_mask nat_eq xs (replicate 16 92) % 2 ^ 64)) 0) → escaped xs ≡ xs
block_plain xs e is =
    let a = lanes_mask nat_lt xs (replicate 16 32) % 2 ^ 64 in
    let b = lanes_mask nat_lt (replicate 16 126) xs % 2 ^ 64 in
    let c = lanes_mask nat_eq xs (replicate 16 34) % 2 ^ 64 in
    let d = lanes_mask nat_eq xs (replicate 16 92) % 2 ^ 64 in
    let none : bit_or (bit_or (bit_or a b) c) d ≡ 0 = eqb-true _ 0 is in
    all_plain 16 xs e
    (none_set nat_lt xs (replicate 16 32) e (omega (
      arith,
      none,
      le_or_l (bit_or (bit_or a b) c) d,
      le_or_l (bit_or a b) c,
      le_or_l a b,
    )))
    (none_set nat_lt (replicate 16 126) xs refl (omega (
      arith,
      none,
      le_or_l (bit_or (bit_or a b) c) d,
      le_or_l (bit_or a b) c,
      le_or_r a b,
    )))
    (none_set nat_eq xs (replicate 16 34) e (omega (
      arith,
      none,
      le_or_l (bit_or (bit_or a b) c) d,
      le_or_r (bit_or a b) c,
    )))
    (none_set nat_eq xs (replicate 16 92) e (omega (
      arith,
      none,
      le_or_r (bit_or (bit_or a b) c) d,
    )))
