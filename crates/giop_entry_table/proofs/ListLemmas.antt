-- Lists without the element at an index, facts about each element, and numbers that differ.
use Rattle.std.proofs.Common.{◌≡◌, ◌≢◌, ◌<◌, ℕ, zero, suc, false, eqb, List, [], ◌∷◌, ◌++◌, length, get_or, refl, sym, ◌∙◌, arith}
use Rattle.std.specs.List.{AllByRecursion as Each, IsDistinct, remove}
use Rattle.std.proofs.lemmas.List.{get_or_default}
use Rattle.std.proofs.lemmas.Bool.{eqb-false, ne_eqb}

pub remove-nil : {X : Type 0} (index : ℕ) → remove {X = X} [] index ≡ []
remove-nil zero = refl
remove-nil (suc index) = refl

pub each-remove : {X : Type 0} (P : X → Type 0) (xs : List X) (index : ℕ) → Each P xs →
    Each P (remove xs index)
each-remove P [] index all = rw (remove-nil index) tt
each-remove P (x ∷ xs) zero all = all.1
each-remove P (x ∷ xs) (suc index) all = (all.0, each-remove P xs index all.1)

pub each-at : (P : ℕ → Type 0) (xs : List ℕ) (index : ℕ) → Each P xs → index < length xs →
    P (get_or xs index 0)
each-at P [] index all within = absurd (omega (arith, within))
each-at P (x ∷ xs) zero all within = all.0
each-at P (x ∷ xs) (suc index) all within = each-at P xs index all.1 (omega (arith, within))

pub each-map : {X : Type 0} (P Q : X → Type 0) → ((x : X) → P x → Q x) → (xs : List X) →
    Each P xs → Each Q xs
each-map P Q f [] all = tt
each-map P Q f (x ∷ xs) all = (f x all.0, each-map P Q f xs all.1)

pub each-both : {X : Type 0} (P Q R : X → Type 0) → ((x : X) → P x → Q x → R x) → (xs : List X) →
    Each P xs → Each Q xs → Each R xs
each-both P Q R f [] p q = tt
each-both P Q R f (x ∷ xs) p q = (f x p.0 q.0, each-both P Q R f xs p.1 q.1)

pub each-push : {X : Type 0} (P : X → Type 0) (xs : List X) (x : X) → Each P xs → P x →
    Each P (xs ++ x ∷ [])
each-push P [] x all last = (last, tt)
each-push P (y ∷ ys) x all last = (all.0, each-push P ys x all.1 last)

pub distinct-remove : (numbers : List ℕ) (index : ℕ) → IsDistinct eqb numbers →
    IsDistinct eqb (remove numbers index)
unfolding IsDistinct
distinct-remove [] index distinct = rw (remove-nil index) tt
distinct-remove (n ∷ ns) zero distinct = distinct.1
distinct-remove (n ∷ ns) (suc index) distinct =
    (each-remove (λ m. eqb n m ≡ false) ns index distinct.0, distinct-remove ns index distinct.1)

-- the numbers that are left differ from the one that is taken
pub others-remove : (numbers : List ℕ) (index : ℕ) → IsDistinct eqb numbers →
    index < length numbers →
    Each (λ m. m ≢ get_or numbers index 0) (remove numbers index)
unfolding IsDistinct
others-remove [] index distinct within = absurd (omega (arith, within))
others-remove (n ∷ ns) zero distinct within =
    each-map (λ m. eqb n m ≡ false) (λ m. m ≢ n) (λ m e same. eqb-false n m e (sym same)) ns
    distinct.0
others-remove (n ∷ ns) (suc index) distinct within =
    let apart = each-at (λ m. eqb n m ≡ false) ns index distinct.0 (omega (arith, within)) in
    (eqb-false _ _ apart, others-remove ns index distinct.1 (omega (arith, within)))

pub distinct-push : (numbers : List ℕ) (number : ℕ) → IsDistinct eqb numbers →
    Each (λ m. m ≢ number) numbers →
    IsDistinct eqb (numbers ++ number ∷ [])
unfolding IsDistinct
distinct-push [] number distinct apart = (tt, tt)
distinct-push (n ∷ ns) number distinct apart = (
  each-push (λ m. eqb n m ≡ false) ns number distinct.0 (ne_eqb n number apart.0),
  distinct-push ns number distinct.1 apart.1,
)

-- an element within a list is the same by any default
pub read-at : (xs : List ℕ) (index x : ℕ) → index < length xs → x ≡ get_or xs index x →
    x ≡ get_or xs index 0
read-at xs index x within found = found ∙ get_or_default xs index x 0 within
