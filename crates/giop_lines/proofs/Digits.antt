-- Hexadecimal digits.
use Rattle.std.proofs.Common.{◌≡◌, ℕ, zero, suc, ◌+◌, ◌*◌, ◌-◌, ◌/◌, ◌%◌, ◌^◌, ◌<◌, ◌≤◌, Bool, true, false, ◌&&◌, T, eqb, eqb→eq, eq-zero-or-pos, ◌⊎◌, inl, inr, List, [], ◌∷◌, ◌++◌, get_or, drop, pow-suc, refl, sym, ap, subst, ◌∙◌, arith}
use Rattle.std.proofs.Math.Nat.{pow-le-pow_right, mul_comm, div-div-eq-div-mul}
use Rattle.std.proofs.lemmas.Nat.{div-mul-add}
use lib.Ieee.Fits.{and_l, and_r}
use Rattle.std.specs.Prelude.{Option, Some, None, codes}
use Rattle.std.specs.Borrow.{Bor}
use Rattle.giop_print.specs.Text.{hex_digit, hex_octet, hex_number, is_plain, escaped_octet}
use Rattle.giop_lines.specs.Texts.{IsFirstOctet, IsEscapeDigits}

-- whether a test holds for all numbers below one
holds_below : (test : ℕ → Bool) (limit : ℕ) → Bool
holds_below p zero = true
holds_below p (suc n) = p n && holds_below p n

holds_below_at : (p : ℕ → Bool) (n x : ℕ) → T (holds_below p n) → x < n → T (p x)
unfolding holds_below
holds_below_at p zero x t h = absurd (omega arith)
holds_below_at p (suc n) x t h =
    elim (eq-zero-or-pos (n - x)) [
      | inl z ↦ let e : n ≡ x = omega arith in
          subst (λ (y : ℕ). T (p y)) e (and_l _ (holds_below p n) t)
      | inr g ↦ holds_below_at p n x (and_r _ (holds_below p n) t) (omega arith)
    ]

pub low_digit : (d : ℕ) → d < 10 → hex_digit d ≡ d + 48
unfolding holds_below
low_digit d h = eqb→eq _ _ (holds_below_at (λ x. eqb (hex_digit x) (x + 48)) 10 d tt h)

pub high_digit : (d : ℕ) → d < 6 → hex_digit (d + 10) ≡ d + 97
unfolding holds_below
high_digit d h = eqb→eq _ _ (holds_below_at (λ x. eqb (hex_digit (x + 10)) (x + 97)) 6 d tt h)

digit_is : (d : ℕ) → d < 16
    → ((d < 10) × (hex_digit d ≡ d + 48)) ⊎ ((10 ≤ d) × (hex_digit d ≡ d + 87))
digit_is d h =
    elim (eq-zero-or-pos (10 - d)) [
      | inl z ↦ let e : d - 10 + 10 ≡ d = omega arith in
          let k = high_digit (d - 10) (omega arith) in
          inr (omega arith, sym (ap hex_digit e) ∙ omega (arith, k))
      | inr g ↦ inl (omega arith, low_digit d (omega arith))
    ]

pub same_digit : (a b : ℕ) → a < 16 → b < 16 → hex_digit a ≡ hex_digit b → a ≡ b
same_digit a b la lb e =
    elim (digit_is a la) [
      | inl p ↦ elim (digit_is b lb) [
        | inl q ↦ omega (arith, p.1, q.1, e)
        | inr q ↦ omega (arith, p.1, q.1, p.0, q.0, e)
      ]
      | inr p ↦ elim (digit_is b lb) [
        | inl q ↦ omega (arith, p.1, q.1, p.0, q.0, e)
        | inr q ↦ omega (arith, p.1, q.1, e)
      ]
    ]

-- the octet of an escape isn't one that stands for itself
pub escape_plain : (ds : List ℕ) (x : ℕ) (rest : List ℕ) → ds ≡ hex_octet x ++ rest → x < 256
    → true ≡ is_plain x → (y : ℕ) (next : List ℕ) → y < 256 → is_plain y ≡ false
    → ds ≡ hex_octet y ++ next → ⊥
escape_plain ds x rest e lt plain y next small other e2 =
    let both = sym e ∙ e2 in
    let upper = same_digit (x / 16) (y / 16) (omega arith) (omega arith)
    (ap (λ (xs : List ℕ). get_or xs 0 0) both) in
    let lower = same_digit (x % 16) (y % 16) (omega arith) (omega arith)
    (ap (λ (xs : List ℕ). get_or xs 1 0) both) in
    let same : x ≡ y = omega (arith, upper, lower) in
    let no : true ≡ false = plain ∙ ap is_plain same ∙ other in
    absurd cc

pub escaped_plain : (x : ℕ) → is_plain x ≡ true → escaped_octet x ≡ x ∷ []
escaped_plain x e = rw e refl

escaped_other : (x : ℕ) → is_plain x ≡ false → escaped_octet x ≡ codes "\\x" ++ hex_octet x
escaped_other x e = rw e refl

plain_or_not : (b : Bool) → (b ≡ true) ⊎ (b ≡ false)
plain_or_not true = inl refl
plain_or_not false = inr refl

pub escaped_first : (text ds : List ℕ) (r : Option (ℕ × Bor (List ℕ))) → text ≡ codes "\\x" ++ ds
    → IsEscapeDigits ds r → IsFirstOctet text r
escaped_first text ds (Some f) e h = (
  h.0,
  e ∙ ap (λ (xs : List ℕ). codes "\\x" ++ xs) h.2
      ∙ ap (λ (xs : List ℕ). xs ++ f.1.now) (sym (escaped_other f.0 h.1)),
)
escaped_first text ds None e h = λ x rest lt e2.
    elim (plain_or_not (is_plain x)) [
      | inl p ↦
          let is : codes "\\x" ++ ds ≡ x ∷ rest =
          sym e ∙ e2 ∙ ap (λ (xs : List ℕ). xs ++ rest) (escaped_plain x p) in
          let first : 92 ≡ x = ap (λ (xs : List ℕ). get_or xs 0 0) is in
          let no : false ≡ true = ap is_plain first ∙ p in
          absurd cc
      | inr q ↦
          let is : codes "\\x" ++ ds ≡ codes "\\x" ++ hex_octet x ++ rest =
          sym e ∙ e2 ∙ ap (λ (xs : List ℕ). xs ++ rest) (escaped_other x q) in
          h x rest lt q (ap (drop 2) is)
    ]

pub hex_number_none : [] ≡ hex_number 0 0
unfolding hex_number
hex_number_none = refl

pub hex_number_more : (k n d : ℕ) → d < 16
    → hex_number (suc k) (n * 16 + d) ≡ hex_number k n ++ (hex_digit d ∷ [])
unfolding hex_number
hex_number_more zero n d lt =
    let e : (n * 16 + d) / 16 ^ 0 % 16 ≡ d = omega arith in
    ap (λ (x : ℕ). hex_digit x ∷ []) e
hex_number_more (suc k) n d lt =
    let e : (n * 16 + d) / 16 ^ suc k ≡ n / 16 ^ k =
    ap (λ (p : ℕ). (n * 16 + d) / p) (pow-suc 16 k ∙ mul_comm (16 ^ k) 16)
    ∙ sym (div-div-eq-div-mul (n * 16 + d) 16 (16 ^ k))
    ∙ ap (λ (x : ℕ). x / 16 ^ k) (div-mul-add n 16 d lt) in
    let rest = hex_number_more k n d lt in
    rw (e, rest) refl

pub below_16 : (n i : ℕ) → n < 16 ^ i → i < 16 → n < 2 ^ 60
below_16 n i lt most =
    let le : 16 ^ i ≤ 16 ^ 15 =
    pow-le-pow_right {n = 16} (omega arith) {i = i} {j = 15} (omega arith) in
    omega (arith, le)
