-- The code spells octets and numbers of a line as the specs do, octet by octet.
use Rattle.std.proofs.Common.{◌≡◌, ℕ, zero, suc, ◌+◌, ◌-◌, ◌*◌, ◌/◌, ◌%◌, ◌^◌, ◌<◌, ◌≤◌, List, [], ◌∷◌, ◌++◌, length, get_or, refl, sym, ap, ◌∙◌, arith, append_assoc, append-nil, pow-suc, add-one, take, drop, take-append-drop, flat_map, Bool, true, ◌&&◌, T, eqb, eqb→eq, eq-zero-or-pos, inl, inr}
use Rattle.std.proofs.lemmas.Nat.{pow-add, shr-shr}
use Rattle.std.proofs.lemmas.List.{drop_all, drop_more}
use lib.Ieee.Fits.{and_l, and_r}
use Rattle.giop_print.specs.declared.line.TheConstants.{PAIRS}
use Rattle.std.proofs.lemmas.List.Concat.{flat_map-append}
use Rattle.std.specs.Prelude.{codes}
use Rattle.giop_print.specs.Text.{hex_digit, hex_octet, hex, hex_number, escaped_octet, escaped, quoted}
use Rattle.giop_print.specs.Lines.{spaced_hex}

-- the digits of octets and of those that follow them
pub hex_append : (xs ys : List ℕ) → hex (xs ++ ys) ≡ hex xs ++ hex ys
unfolding hex
hex_append xs ys = flat_map-append hex_octet xs ys

-- the digits of the first octets, and of those after them
pub hex_parted : (n : ℕ) (xs text : List ℕ) →
    hex (take n xs) ++ (hex (drop n xs) ++ text) ≡ hex xs ++ text
hex_parted n xs text =
    sym (append_assoc (hex (take n xs)) (hex (drop n xs)) text)
    ∙ ap (λ z. z ++ text) (sym (hex_append (take n xs) (drop n xs))
    ∙ ap hex (take-append-drop n xs))

pub escaped_append : (xs ys : List ℕ) → escaped (xs ++ ys) ≡ escaped xs ++ escaped ys
unfolding escaped
escaped_append xs ys = flat_map-append escaped_octet xs ys

-- what stands for the first octets, and for those after them
pub escaped_parted : (n : ℕ) (xs text : List ℕ) →
    escaped (take n xs) ++ (escaped (drop n xs) ++ text) ≡ escaped xs ++ text
escaped_parted n xs text =
    sym (append_assoc (escaped (take n xs)) (escaped (drop n xs)) text)
    ∙ ap (λ z. z ++ text) (sym (escaped_append (take n xs) (drop n xs))
    ∙ ap escaped (take-append-drop n xs))

pub spaced_some : (xs : List ℕ) → 0 < length xs → spaced_hex xs ≡ codes " " ++ hex xs
spaced_some [] h = absurd (omega arith)
spaced_some (x ∷ xs) h = refl

-- the text of a piece, if the piece comes in two parts
pub quoted_before : (held next text : List ℕ) →
    32 ∷ 34 ∷ (escaped held ++ (escaped next ++ (34 ∷ text))) ≡ (codes " " ++ quoted (held ++ next))
    ++ text
quoted_before held next text =
    rw escaped_append (ap (λ z. 32 ∷ 34 ∷ z)
    (sym (append_assoc (escaped held ++ escaped next) (34 ∷ []) text
    ∙ append_assoc (escaped held) (escaped next) (34 ∷ text))))

pub spaced_before : (held next text : List ℕ) → 0 < length (held ++ next) →
    32 ∷ (hex held ++ (hex next ++ text)) ≡ spaced_hex (held ++ next) ++ text
spaced_before held next text some =
    rw (spaced_some (held ++ next) some, hex_append)
    (ap (λ z. 32 ∷ z) (sym (append_assoc (hex held) (hex next) text)))

-- the text of one octet alone
pub escaped_one : (x : ℕ) → escaped (x ∷ []) ≡ escaped_octet x
unfolding escaped
escaped_one x = append-nil (escaped_octet x)

-- a power of 16 as a power of 2
pow-16 : (k : ℕ) → 16 ^ k ≡ 2 ^ (4 * k)
pow-16 zero = refl
pow-16 (suc k) = let e : 4 * suc k ≡ 4 * k + 4 = omega arith in
    rw (pow-suc, e, pow-add, pow-16 k) refl

-- the table holds the two digits of each octet
are_pairs : ℕ → Bool
are_pairs zero = true
are_pairs (suc x) = (eqb (get_or PAIRS (x * 2) 0) (hex_digit (x / 16))
    && eqb (get_or PAIRS (x * 2 + 1) 0) (hex_digit (x % 16))) && are_pairs x

pairs_below : (n x : ℕ) → T (are_pairs n) → x < n → (get_or PAIRS (x * 2) 0 ≡ hex_digit (x / 16))
    × (get_or PAIRS (x * 2 + 1) 0 ≡ hex_digit (x % 16))
unfolding are_pairs
pairs_below zero x t h = absurd (omega arith)
pairs_below (suc n) x t h =
    elim (eq-zero-or-pos (n - x)) [
      | inl z ↦ let e : x ≡ n = omega arith in let a = and_l _ (are_pairs n) t in
          rw e (eqb→eq _ _ (and_l _ _ a), eqb→eq _ _ (and_r _ _ a))
      | inr g ↦ pairs_below n x (and_r _ (are_pairs n) t) (omega arith)
    ]

pub pair_at : (x : ℕ) → x < 256 → (get_or PAIRS (x * 2) 0 ≡ hex_digit (x / 16))
    × (get_or PAIRS (x * 2 + 1) 0 ≡ hex_digit (x % 16))
unfolding are_pairs
pair_at x h = pairs_below 256 x tt h

-- octets are spelled from the last to the first: no octet is spelled yet
pub hex_last : (text : List ℕ) (xs : List ℕ) → text ≡ hex (drop (length xs) xs) ++ text
unfolding hex
hex_last text xs = rw (drop_all (length xs) xs (omega arith)) refl

pub escaped_last : (text : List ℕ) (xs : List ℕ) → text ≡ escaped (drop (length xs) xs) ++ text
unfolding escaped
escaped_last text xs = rw (drop_all (length xs) xs (omega arith)) refl

-- one more octet is spelled
from_end : (xs : List ℕ) (i : ℕ) → 0 < i → i ≤ length xs →
    drop (i - 1) xs ≡ get_or xs (i - 1) 0 ∷ drop i xs
from_end xs i p h = let e : i - 1 + 1 ≡ i = omega arith in
    rw e at (drop_more xs (i - 1) 0 (omega arith))

pub hex_before : (text before : List ℕ) (xs : List ℕ) (i : ℕ) → 0 < i → i ≤ length xs →
    before ≡ hex (drop i xs) ++ text → hex_octet (get_or xs (i - 1) 0)
    ++ before ≡ hex (drop (i - 1) xs) ++ text
unfolding hex
hex_before text before xs i p h e = rw (from_end xs i p h, e) refl

pub escaped_before : (text before : List ℕ) (xs : List ℕ) (i : ℕ) → 0 < i → i ≤ length xs →
    before ≡ escaped (drop i xs) ++ text → escaped_octet (get_or xs (i - 1) 0)
    ++ before ≡ escaped (drop (i - 1) xs) ++ text
unfolding escaped
escaped_before text before xs i p h e = rw (from_end xs i p h, e)
    (sym (append_assoc (escaped_octet (get_or xs (i - 1) 0)) (flat_map escaped_octet (drop i xs))
    text))

-- the two digits of an octet of a number
high_digit : (k n : ℕ) → n / 2 ^ (8 * k) % 256 / 16 ≡ n / 16 ^ (2 * k + 1) % 16
high_digit k n =
    let e : 4 * (2 * k + 1) ≡ 8 * k + 4 = omega arith in
    rw (pow-16 (2 * k + 1), e, ← shr-shr n (8 * k) 4) (omega arith)

low_digit : (k n : ℕ) → n / 2 ^ (8 * k) % 256 % 16 ≡ n / 16 ^ (2 * k) % 16
low_digit k n =
    let e : 4 * (2 * k) ≡ 8 * k = omega arith in
    rw (pow-16 (2 * k), e) (omega arith)

-- a number without its last 8 * k bits: the octets of a number are spelled from these
abbrev shifted : (k n : ℕ) → ℕ
shifted zero n = n
shifted (suc k) n = shifted k n / 256

abbrev pub number_octets : (k n : ℕ) → List ℕ
number_octets zero n = []
number_octets (suc k) n = shifted k n % 256 ∷ number_octets k n

shifted_is : (k n : ℕ) → shifted k n ≡ n / 2 ^ (8 * k)
shifted_is zero n = omega arith
shifted_is (suc k) n =
    let e : 8 * suc k ≡ 8 * k + 8 = omega arith in
    rw (shifted_is k n, e) (shr-shr n (8 * k) 8)

pub number_spelled : (k n : ℕ) → hex (number_octets k n) ≡ hex_number (2 * k) n
unfolding hex hex_number
number_spelled zero n = refl
number_spelled (suc k) n =
    let s : 2 * suc k ≡ suc (suc (2 * k)) = omega arith in
    rw (s, shifted_is k n, high_digit, low_digit, number_spelled k n, add-one) refl

-- the last digits of a number
digits_behind : (k digits n : ℕ) → drop k (hex_number (k + digits) n) ≡ hex_number digits n
unfolding hex_number
digits_behind zero digits n = let e : 0 + digits ≡ digits = omega arith in rw e refl
digits_behind (suc k) digits n =
    let e : suc k + digits ≡ suc (k + digits) = omega arith in rw e (digits_behind k digits n)

pub last_digits : (digits n : ℕ) → digits ≤ 16 →
    drop (16 - digits) (hex_number 16 n) ≡ hex_number digits n
last_digits digits n few =
    let e : 16 - digits + digits ≡ 16 = omega arith in
    rw e at (digits_behind (16 - digits) digits n)

pub ruleset spelling_steps = (
  hex_last,
  hex_before,
  escaped_last,
  escaped_before,
)
