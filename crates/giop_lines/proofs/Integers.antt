-- Numbers with a sign, and what their digits are.
use Rattle.std.proofs.Common.{◌≡◌, ℕ, zero, suc, ◌<◌, ◌^◌, ℤ, pos, negsuc, ◌-ℤ◌, FitsSigned, w64, List, ◌∷◌, ◌++◌, drop, sym, ap, subst, ◌∙◌, arith}
use Rattle.std.proofs.Math.IntN.{+ℤ_idl}
use Rattle.std.specs.Prelude.{Option, Some, None, Result, Ok, Err, codes}
use Rattle.std.specs.Option.{SomeIff}
use Rattle.std.specs.Result.{OkIff, result_ok}
use Rattle.std.specs.Fmt.{decimal, signed_decimal}
use Rattle.giop_lines.specs.Numbers.{IsInteger, IsNegativeDigits}
use Rattle.giop_lines.proofs.Decimals.{is_written, same_number, AllDigits-at, is_digit_octet}

pub negative_is : (ds : List ℕ) (n : ℕ) (r : Option ℤ) → ds ≡ decimal n → 0 < n → n < 2 ^ 64
    → SomeIff r (FitsSigned w64 (pos 0 -ℤ pos n)) (pos 0 -ℤ pos n) → IsNegativeDigits ds r
negative_is ds zero r e some lt h = absurd (omega arith)
negative_is ds (suc k) (Some z) e some lt h = (k, h.1 ∙ +ℤ_idl (negsuc k), e)
negative_is ds (suc k) None e some lt h = λ m more le e2.
    let same = same_number ds (suc k) m lt (omega arith) e e2 in
    let fits : FitsSigned w64 (negsuc k) = record { sfits = omega (arith, same) } in
    h (subst (FitsSigned w64) (sym (+ℤ_idl (negsuc k))) fits)

-- no digit is a sign
no_sign : (ds : List ℕ) (n : ℕ) → n < 2 ^ 64 → 45 ∷ ds ≡ decimal n → ⊥
no_sign ds n lt e =
    let w = is_written (45 ∷ ds) n lt e in
    let d = is_digit_octet 45 (AllDigits-at (45 ∷ ds) 0 w.digits (omega arith)) in
    omega (arith, d.0)

pub integer_negative : (text ds : List ℕ) (r : Option ℤ) → text ≡ codes "-" ++ ds
    → IsNegativeDigits ds r → IsInteger text r
integer_negative text ds (Some z) e h =
    e ∙ ap (λ (xs : List ℕ). 45 ∷ xs) h.2 ∙ ap signed_decimal (sym h.1)
integer_negative text ds None e h = λ z fits e2. signs z fits (sym e ∙ e2)
  where
    signs : (z : ℤ) → FitsSigned w64 z → codes "-" ++ ds ≡ signed_decimal z → ⊥
    signs (pos k) fits e3 = no_sign ds k (omega (arith, fits)) e3
    signs (negsuc k) fits e3 = h (suc k) (omega arith) (omega (arith, fits)) (ap (drop 1) e3)

pub integer_positive : {E : Type 0} (text : List ℕ) (m : ℕ) (v : Result ℤ E)
    → ((rest : List ℕ) → text ≡ codes "-" ++ rest → ⊥) → text ≡ decimal m → m < 2 ^ 64
    → OkIff v (FitsSigned w64 (pos m)) (pos m) → IsInteger text (result_ok v)
integer_positive text m (Ok z) none e lt h =
    subst (λ (y : ℤ). text ≡ signed_decimal y) (sym h.1) e
integer_positive text m (Err x) none e lt h = λ z fits e2. signs z fits e2
  where
    signs : (z : ℤ) → FitsSigned w64 z → text ≡ signed_decimal z → ⊥
    signs (pos k) fits e3 =
        let small : k < 2 ^ 63 = omega (arith, fits) in
        let same : k ≡ m = same_number text k m (omega arith) lt e3 e in
        h (subst (λ (j : ℕ). FitsSigned w64 (pos j)) same fits)
    signs (negsuc k) fits e3 = none (decimal (suc k)) e3
