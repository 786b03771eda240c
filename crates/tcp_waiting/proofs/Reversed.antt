-- A list that is kept last first, after an insertion or a removal.
use Rattle.std.proofs.Common.{◌≡◌, ℕ, suc, ◌+◌, List, [], ◌∷◌, ◌++◌, length, reverse, take, drop, append_assoc, ap, sym, ◌∙◌, arith}
use Rattle.std.specs.List.{insert, remove}
use Rattle.std.proofs.lemmas.List.{length-reverse, length-drop, reverse-append, take-append-drop, take_at, drop_at}

-- what stands before a place, and from there on
parts : {X : Type 0} (xs : List X) (i j : ℕ) → i + j ≡ length xs →
    (take i (reverse xs) ≡ reverse (drop j xs)) × (drop i (reverse xs) ≡ reverse (take j xs))
parts xs i j e =
    let p = reverse (drop j xs) in
    let q = reverse (take j xs) in
    let l : length p ≡ i = simp (length-reverse, length-drop) (omega arith) in
    let is : reverse xs ≡ p ++ q =
    ap reverse (sym (take-append-drop j xs)) ∙ reverse-append (take j xs) (drop j xs) in
    (rw is (take_at p q i l), rw is (drop_at p q i l))

pub reverse_insert : {X : Type 0} (xs : List X) (i j : ℕ) (x : X) → i + j ≡ length xs →
    reverse (insert xs j x) ≡ insert (reverse xs) i x
reverse_insert xs i j x e =
    let at = parts xs i j e in
    rw (at.0, at.1) (reverse-append (take j xs) (x ∷ drop j xs)
    ∙ ap (λ l. l ++ reverse (take j xs)) (reverse-append (x ∷ []) (drop j xs))
    ∙ append_assoc (reverse (drop j xs)) (x ∷ []) (reverse (take j xs)))

pub reverse_remove : {X : Type 0} (xs : List X) (i j : ℕ) → i + j + 1 ≡ length xs →
    reverse (remove xs j) ≡ remove (reverse xs) i
reverse_remove xs i j e =
    rw ((parts xs i (suc j) (omega arith)).0, (parts xs (suc i) j (omega arith)).1)
    (reverse-append (take j xs) (drop (suc j) xs))
