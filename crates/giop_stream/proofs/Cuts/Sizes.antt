-- The last four octets of a header, which give the size of its payload.
use Rattle.std.proofs.Common.{◌≡◌, ℕ, List, [], ◌∷◌, length, drop, ap, ◌∙◌, arith}
use Rattle.std.specs.Prelude.{get_or}
use Rattle.std.proofs.Math.Seq.{drop-cons}
use Rattle.std.proofs.lemmas.List.{drop_all}
use Rattle.giop_cdr.specs.Numbers.{num}
use Rattle.giop_message.specs.Headers.{order, size}

last_four : (header : List ℕ) → length header ≡ 12 →
    drop 8 header ≡ get_or header 8 0 ∷ get_or header 9 0 ∷ get_or header 10 0 ∷ get_or header 11 0
    ∷ []
last_four header h =
    drop-cons header 8 0 (omega (arith, h))
    ∙ ap (λ xs. get_or header 8 0 ∷ xs) (drop-cons header 9 0 (omega (arith, h))
    ∙ ap (λ xs. get_or header 9 0 ∷ xs) (drop-cons header 10 0 (omega (arith, h))
    ∙ ap (λ xs. get_or header 10 0 ∷ xs) (drop-cons header 11 0 (omega (arith, h))
    ∙ ap (λ xs. get_or header 11 0 ∷ xs) (drop_all 12 header (omega (arith, h))))))

pub size_is : (header : List ℕ) → length header ≡ 12
    → size header ≡ num (order header) (get_or header 8 0 ∷ get_or header 9 0 ∷ get_or header 10 0 ∷
    get_or header 11 0 ∷ [])
unfolding size
size_is header h = search (arith, last_four)
