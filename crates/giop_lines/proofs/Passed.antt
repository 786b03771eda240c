-- Texts in which each octet passes a test.
use Rattle.std.proofs.Common.{◌≡◌, ℕ, zero, suc, ◌+◌, ◌-◌, ◌*◌, ◌/◌, ◌%◌, ◌<◌, ◌≤◌, ◌⊎◌, inl, inr, Bool, true, false, cond, ◌&&◌, ◌||◌, List, [], ◌∷◌, ◌++◌, length, take, flat_map, leb-true, ltb-false, refl, sym, ap, ap₂, subst, ◌∙◌, arith}
use Rattle.std.specs.Prelude.{All, nat_le, nat_lt, not, ◌==◌, if◌then◌else◌}
use Rattle.std.specs.List.{list_all, prefix_len}
use Rattle.std.proofs.lemmas.List.Elements.{All-nil, All-cons}
use Rattle.giop_print.specs.Text.{is_plain, escaped, escaped_octet, hex, hex_octet, hex_digit}
use Rattle.giop_lines.specs.Numbers.{is_hex_digit}
use Rattle.giop_lines.specs.Texts.{IsEscapedText, AreHexOctets}
use Rattle.giop_lines.proofs.Digits.{low_digit, high_digit, escaped_plain}

both : (x y : Bool) → (x && y) ≡ true → (x ≡ true) × (y ≡ true)
both true y e = (refl, e)
both false y e = let no : false ≡ true = e in absurd cc

either : (x y : Bool) → (x || y) ≡ true → (x ≡ true) ⊎ (y ≡ true)
either true y e = inl refl
either false y e = inr e

-- each octet of the front that `prefix_len` counts passes the test
pub first_pass : (p : ℕ → Bool) (xs : List ℕ) → list_all p (take (prefix_len p xs) xs) ≡ true
first_pass p [] = refl
first_pass p (x ∷ xs) = by (p x) refl (first_pass p xs)
  where
    by : (b : Bool) → p x ≡ b → list_all p (take (prefix_len p xs) xs) ≡ true
        → list_all p (take (cond b (1 + prefix_len p xs) 0) (x ∷ xs)) ≡ true
    by false e rest = refl
    by true e rest =
        let one : 1 + prefix_len p xs ≡ suc (prefix_len p xs) = omega arith in
        subst (λ (n : ℕ). list_all p (take n (x ∷ xs)) ≡ true) (sym one)
        (ap (λ (b : Bool). b && list_all p (take (prefix_len p xs) xs)) e ∙ rest)

small : (low high other : Bool) (x : ℕ) → nat_lt 126 x ≡ high
    → (if low then false else (if high then false else other)) ≡ true → x < 256
small true high other x h e = let no : false ≡ true = e in absurd cc
small false true other x h e = let no : false ≡ true = e in absurd cc
small false false other x h e = omega (arith, ltb-false 126 x h)

small_plain : (x : ℕ) → is_plain x ≡ true → x < 256
small_plain x e = small (nat_lt x 32) (nat_lt 126 x) (not (x == 34 || x == 92)) x refl e

all_plain : (xs : List ℕ) → list_all is_plain xs ≡ true
    → All (λ x. x < 256) xs × (xs ≡ flat_map escaped_octet xs)
all_plain [] e = (All-nil (λ x. x < 256), refl)
all_plain (x ∷ xs) e =
    let h = both (is_plain x) (list_all is_plain xs) e in
    let rest = all_plain xs h.1 in (
      All-cons (λ y. y < 256) x xs (small_plain x h.0) rest.0,
      ap₂ (λ (front back : List ℕ). front ++ back) (sym (escaped_plain x h.0)) rest.1,
    )

-- octets that stand for themselves are a text
pub plain_text : (most : ℕ) (xs : List ℕ) → list_all is_plain xs ≡ true → length xs ≤ most
    → IsEscapedText most xs
unfolding escaped
plain_text most xs e le =
    let all = all_plain xs e in record { octets = xs; small = all.0; few = le; spelled = all.1 }

digit_of : (b : ℕ) → is_hex_digit b ≡ true → (d : ℕ) × (d < 16) × (hex_digit d ≡ b)
digit_of b e =
    elim (either (nat_le 48 b && nat_le b 57) (nat_le 97 b && nat_le b 102) e) [
      | inl p ↦ let h = both (nat_le 48 b) (nat_le b 57) p in
          let low = leb-true 48 b h.0 in
          let high = leb-true b 57 h.1 in
          (b - 48, omega arith, low_digit (b - 48) (omega arith) ∙ omega arith)
      | inr p ↦ let h = both (nat_le 97 b) (nat_le b 102) p in
          let low = leb-true 97 b h.0 in
          let high = leb-true b 102 h.1 in
          (b - 97 + 10, omega arith, high_digit (b - 97) (omega arith) ∙ omega arith)
    ]

record HexPairs (digits : List ℕ) : Type 0 where
  octets : List ℕ
  small : All (λ x. x < 256) octets
  many : 2 * length octets ≡ length digits
  spelled : digits ≡ flat_map hex_octet octets

pairs : (ds : List ℕ) → length ds % 2 ≡ 0 → list_all is_hex_digit ds ≡ true → HexPairs ds
pairs [] even e =
    record { octets = []; small = All-nil (λ x. x < 256); many = refl; spelled = refl }
pairs (a ∷ []) even e = absurd (omega (arith, even))
pairs (a ∷ b ∷ ds) even e =
    let h = both (is_hex_digit a) (list_all is_hex_digit (b ∷ ds)) e in
    let k = both (is_hex_digit b) (list_all is_hex_digit ds) h.1 in
    let x = digit_of a h.0 in
    let y = digit_of b k.0 in
    let rest = pairs ds (omega (arith, even)) k.1 in
    let octet : ℕ = x.0 * 16 + y.0 in
    let upper : octet / 16 ≡ x.0 = omega (arith, x.1, y.1) in
    let lower : octet % 16 ≡ y.0 = omega (arith, x.1, y.1) in
    record {
      octets = octet ∷ rest.octets;
      small = All-cons (λ z. z < 256) octet rest.octets (omega (arith, x.1, y.1)) rest.small;
      many = omega (arith, rest.many);
      spelled = ap₂ (λ (front back : List ℕ). front ++ back)
          (ap₂ (λ (m n : ℕ). m ∷ n ∷ []) (sym (ap hex_digit upper ∙ x.2))
          (sym (ap hex_digit lower ∙ y.2))) rest.spelled;
    }

-- an even number of digits are octets
pub digits_octets : (ds : List ℕ) → 0 < length ds → length ds % 2 ≡ 0 → length ds / 2 ≤ 32
    → list_all is_hex_digit ds ≡ true → AreHexOctets ds
unfolding hex
digits_octets ds some even few e =
    let p = pairs ds even e in
    record {
      octets = p.octets;
      small = p.small;
      some = omega (arith, p.many);
      few = omega (arith, p.many);
      spelled = p.spelled;
    }
