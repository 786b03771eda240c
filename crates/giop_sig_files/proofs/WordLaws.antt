-- The words of a line, as they are read from the front.
use Rattle.std.proofs.Common.{◌≡◌, ℕ, ◌+◌, ◌-◌, ◌<◌, ◌≤◌, Bool, true, false, cond, eqb, List, [], ◌∷◌, ◌++◌, length, get_or, drop, take, Some, refl, sym, ap, ◌∙◌, add-one, arith}
use Rattle.std.proofs.lemmas.List.{take_more, get_or-drop, length-drop}
use Rattle.std.proofs.Math.Seq.{drop-cons}
use Rattle.giop_sig_files.specs.Names.{word_before}

-- the part of a text between two indices
abbrev pub between : (start end : ℕ) (text : List ℕ) → List ℕ
between start end text = take (end - start) (drop start text)

between_more : (start end : ℕ) (text : List ℕ) → start ≤ end → end < length text
    → between start (end + 1) text ≡ between start end text ++ get_or text end 0 ∷ []
between_more start end text order inside =
    let more : take (end - start + 1) (drop start text)
    ≡ take (end - start) (drop start text) ++ get_or (drop start text) (end - start) 0 ∷ [] =
    take_more (drop start text) (end - start) 0
    (omega (arith, order, inside, length-drop start text))
    in let at : get_or (drop start text) (end - start) 0 ≡ get_or text end 0 =
    get_or-drop start text (end - start) 0 ∙ ap (λ (n : ℕ). get_or text n 0) (omega (arith, order))
    in ap (λ (n : ℕ). take n (drop start text)) (omega (arith, order)) ∙ more
    ∙ ap (λ (x : ℕ). take (end - start) (drop start text) ++ x ∷ []) at

nothing : (end : ℕ) → 0 ≡ end + 1 - (end + 1)
nothing end = omega arith

step : (stop : ℕ) (word : List ℕ) (x : ℕ) (xs : List ℕ) (a b : Bool)
    → eqb x stop ≡ a → eqb x 32 ≡ b
    → word_before stop word (x ∷ xs)
    ≡ cond a (Some word)
    (cond b (word_before stop [] xs) (word_before stop (word ++ x ∷ []) xs))
unfolding word_before
step stop word x xs a b e f = rw (e, f) refl

module _ (stop : ℕ) (text : List ℕ) (start end : ℕ) (order : start ≤ end)
    (inside : end < length text) where
  abbrev at : ℕ
  at = get_or text end 0

  opened : word_before stop (between start end text) (drop end text)
      ≡ word_before stop (between start end text) (at ∷ drop (end + 1) text)
  opened = ap (word_before stop (between start end text))
      (drop-cons text end 0 inside ∙ ap (λ (n : ℕ). at ∷ drop n text) (sym (add-one end)))

  pub stops : eqb at stop ≡ true → word_before stop (between start end text) (drop end text)
      ≡ Some (between start end text)
  stops e = opened ∙ step stop _ at _ true _ e refl

  pub breaks : eqb at stop ≡ false → eqb at 32 ≡ true
      → word_before stop (between start end text) (drop end text)
      ≡ word_before stop (between (end + 1) (end + 1) text) (drop (end + 1) text)
  breaks e f = opened ∙ step stop _ at _ false true e f
      ∙ ap (λ (n : ℕ). word_before stop (take n (drop (end + 1) text)) (drop (end + 1) text))
      (nothing end)

  pub goes_on : eqb at stop ≡ false → eqb at 32 ≡ false
      → word_before stop (between start end text) (drop end text)
      ≡ word_before stop (between start (end + 1) text) (drop (end + 1) text)
  goes_on e f = opened ∙ step stop _ at _ false false e f
      ∙ ap (λ (w : List ℕ). word_before stop w (drop (end + 1) text))
      (sym (between_more start end text order inside))
