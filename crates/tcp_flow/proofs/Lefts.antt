-- What is left of a payload, and small facts on tests.
use Rattle.std.specs.Option.{option_map}
use Rattle.tcp_flow.specs.Flow.{is_header, index_of_header}
use Rattle.std.proofs.Common.{◌≡◌, ℕ, suc, ◌+◌, ◌∷◌, get_or, true, false, Option, Some, None, add-one, ◌-◌, ◌<◌, ◌≤◌, min, List, [], length, take, drop, refl, sym, ◌∙◌, ap, subst, arith, inl, inr}
use Rattle.std.proofs.lemmas.List.{length-drop}
use Rattle.std.proofs.Math.ListN.{drop_of_length-le}
use Rattle.std.proofs.Math.Seq.{drop-cons, take-length, drop-length}
use Rattle.std.proofs.lemmas.Bool.{cases_lt, cond-true, cond-false}

pub cut : (a m : ℕ) (xs : List ℕ) → m ≡ min a (length xs) →
    take (length xs - m) (drop m xs) ≡ drop a xs
cut a m xs e =
    elim (cases_lt a (length xs)) [
      | inl h ↦
          (let f : a ≡ m = omega arith in
          let l : length (drop m xs) ≡ length xs - m = length-drop m xs in
          subst (λ (k : ℕ). take k (drop m xs) ≡ drop a xs) l
          (take-length (drop m xs) ∙ sym (ap (λ (k : ℕ). drop k xs) f)))
      | inr h ↦
          (let f : length xs ≡ m = omega arith in
          let d : drop m xs ≡ [] = subst (λ (k : ℕ). drop k xs ≡ []) f (drop-length xs) in
          let n : length xs - m ≡ 0 = omega arith in
          rw n (sym (drop_of_length-le xs h)))
    ]

pub header_here : (xs : List ℕ) (i : ℕ) → i < length xs → is_header (drop i xs) ≡ true →
    index_of_header (drop i xs) ≡ Some 0
unfolding index_of_header
header_here xs i h e = search (arith, drop, get_or, drop-cons, cond-true)

shifted : (i : ℕ) (r : Option ℕ) → option_map (λ (k : ℕ). i + k) (option_map suc r)
    ≡ option_map (λ (k : ℕ). i + 1 + k) r
shifted i None = refl
shifted i (Some k) = search (arith)

pub header_later : (xs : List ℕ) (i : ℕ) → i < length xs → is_header (drop i xs) ≡ false →
    option_map (λ (k : ℕ). i + k) (index_of_header (drop i xs))
    ≡ option_map (λ (k : ℕ). i + 1 + k) (index_of_header (drop (i + 1) xs))
unfolding index_of_header
header_later xs i h e =
    let d : drop i xs ≡ get_or xs i 0 ∷ drop (suc i) xs = drop-cons xs i 0 h in
    let f : is_header (get_or xs i 0 ∷ drop (suc i) xs) ≡ false =
    subst (λ (ys : List ℕ). is_header ys ≡ false) d e in
    let s : index_of_header (get_or xs i 0 ∷ drop (suc i) xs)
    ≡ option_map suc (index_of_header (drop (suc i) xs)) =
    cond-false (is_header (get_or xs i 0 ∷ drop (suc i) xs)) (Some 0)
    (option_map suc (index_of_header (drop (suc i) xs))) f in
    let t : index_of_header (drop i xs) ≡ option_map suc (index_of_header (drop (i + 1) xs)) =
    rw (add-one, d) s in
    rw t (shifted i (index_of_header (drop (i + 1) xs)))

pub header_none : (xs : List ℕ) (i : ℕ) → length xs ≤ i → index_of_header (drop i xs) ≡ None
unfolding index_of_header
header_none xs i h = rw (drop_of_length-le xs h) refl

pub from_zero : (r : Option ℕ) → r ≡ option_map (λ (k : ℕ). 0 + k) r
from_zero None = refl
from_zero (Some k) = search (arith)

pub whole_tail : (xs : List ℕ) (i : ℕ) → take (length xs - i) (drop i xs) ≡ drop i xs
whole_tail xs i = subst (λ (k : ℕ). take k (drop i xs) ≡ drop i xs) (length-drop i xs)
    (take-length (drop i xs))
