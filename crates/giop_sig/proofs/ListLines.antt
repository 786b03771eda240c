-- A list that is cut at the first element that passes a test, and the first line of a text.
use Rattle.std.proofs.Common.{◌≡◌, ℕ, suc, ◌+◌, ◌-◌, ◌<◌, Bool, true, false, cond, eqb, ltb, List, [], ◌∷◌, ◌++◌, ◌⊎◌, inl, inr, length, take, drop, Option, Some, None, append_assoc, refl, sym, ap, ◌∙◌, arith}
use Rattle.std.specs.Prelude.{MatchOption}
use Rattle.std.specs.List.{position_or_len, onto_first, AllByRecursion}
use Rattle.std.proofs.lemmas.Bool.{le-ltb, lt-ltb}
use Rattle.std.proofs.lemmas.List.{take_at, drop_at, length-append, length-take, length-drop, take_all}
use Rattle.giop_sig.specs.RequestList.{lines}

abbrev pub is_lf : (b : ℕ) → Bool
is_lf b = eqb b 10

module _ {X : Type 0} (p : X → Bool) where
  abbrev pub NonePass : (xs : List X) → Type 0
  NonePass xs = AllByRecursion (λ x. p x ≡ false) xs

  -- xs is `front`, then y, the first that passes, and then `back`
  pub record Cut (xs front : List X) (y : X) (back : List X) : Type 0 where
    pub parts : xs ≡ front ++ y ∷ back
    pub none : NonePass front
    pub passes : p y ≡ true
    pub index : position_or_len p xs ≡ length front

  abbrev pub Cuts : (xs : List X) → Type 0
  Cuts xs = (NonePass xs × (position_or_len p xs ≡ length xs))
      ⊎ ((front : List X) × (y : X) × (back : List X) × Cut xs front y back)

  cuts_on : (x : X) (xs : List X) → p x ≡ false → Cuts xs → Cuts (x ∷ xs)
  cuts_on x xs e (inl h) = search (arith)
  cuts_on x xs e (inr h) = inr (
    x ∷ h.0,
    h.1,
    h.2,
    record {
      parts = ap (λ (ys : List X). x ∷ ys) h.3.parts;
      none = (e, h.3.none);
      passes =
          h.3.passes;
      index = rw e (omega (arith, h.3.index));
    },
  )

  cuts_cons : (x : X) (xs : List X) (v : Bool) → p x ≡ v → Cuts xs → Cuts (x ∷ xs)
  cuts_cons x xs true e h = inr (
    [],
    x,
    xs,
    record { parts = refl; none = tt; passes = e; index = rw e refl },
  )
  cuts_cons x xs false e h = cuts_on x xs e h

  pub cuts : (xs : List X) → Cuts xs
  cuts [] = inl (tt, refl)
  cuts (x ∷ xs) = search (arith, cuts_cons, cuts xs)

  index_on : (x : X) (xs : List X) (n : ℕ) → p x ≡ false → position_or_len p xs ≡ n →
      position_or_len p (x ∷ xs) ≡ suc n
  index_on x xs n e h = rw e (omega (arith, h))

  index_made : (front : List X) (y : X) (back : List X) → NonePass front → p y ≡ true →
      position_or_len p (front ++ y ∷ back) ≡ length front
  index_made [] y back none e = rw e refl
  index_made (x ∷ front) y back none e = search (arith, index_on, index_made front y back none.1 e)

  pub cut_made : (xs front : List X) (y : X) (back : List X) → xs ≡ front ++ y ∷ back →
      NonePass front → p y ≡ true → Cut xs front y back
  cut_made xs front y back parts none e = record {
    parts = parts;
    none = none;
    passes = e;
    index = ap (position_or_len p) parts ∙ index_made front y back none e;
  }

  pub none_cut : (front : List X) (y : X) (back : List X) → NonePass (front ++ y ∷ back) →
      p y ≡ false
  none_cut [] y back none = none.0
  none_cut (x ∷ front) y back none = none_cut front y back none.1

  -- what a position says
  pub record CutAt (xs : List X) (k : ℕ) : Type 0 where
    pub first : X
    pub parts : xs ≡ take k xs ++ first ∷ drop (k + 1) xs
    pub none : NonePass (take k xs)
    pub passes : p first ≡ true
    pub inside : k < length xs

  inside_of : (xs front : List X) (y : X) (back : List X) → Cut xs front y back →
      length front < length xs
  inside_of xs front y back c = search (arith, length-append)

  cut_at : (xs front : List X) (y : X) (back : List X) → Cut xs front y back →
      CutAt xs (length front)
  cut_at xs front y back c =
      let t : take (length front) xs ≡ front =
      ap (take (length front)) c.parts ∙ take_at front (y ∷ back) (length front) refl in
      let d : drop (length front + 1) xs ≡ back =
      ap (drop (length front + 1)) (c.parts ∙ sym (append_assoc front (y ∷ []) back))
      ∙ drop_at (front ++ y ∷ []) back (length front + 1) (length-append front (y ∷ [])) in
      record {
        first = y;
        parts = rw (t, d) c.parts;
        none = rw t c.none;
        passes = c.passes;
        inside =
            inside_of xs front y back c;
      }

  -- a list is cut in one way only
  pub cut_is : (xs front : List X) (y : X) (back : List X) (k : ℕ) → Cut xs front y back →
      CutAt xs k → (take k xs ≡ front) × (drop (k + 1) xs ≡ back)
  cut_is xs front y back k c d =
      let len : length (take k xs) ≡ k = omega (arith, length-take k xs, d.inside) in
      let e : position_or_len p xs ≡ k = ap (position_or_len p) d.parts
      ∙ index_made (take k xs) d.first (drop (k + 1) xs) d.none d.passes ∙ len in
      let l : length front ≡ k = sym c.index ∙ e in
      let t : take k xs ≡ front = ap (take k) c.parts ∙ take_at front (y ∷ back) k l in
      let r : drop (k + 1) xs ≡ back = ap (drop (k + 1))
      (c.parts ∙ sym (append_assoc front (y ∷ []) back))
      ∙ drop_at (front ++ y ∷ []) back (k + 1)
      (length-append front (y ∷ []) ∙ ap (λ (n : ℕ). n + 1) l) in
      (t, r)

  pub cut_same : (xs f : List X) (y : X) (b g : List X) (z : X) (e : List X) → Cut xs f y b →
      Cut xs g z e → (f ≡ g) × (b ≡ e)
  cut_same xs f y b g z e c d =
      let at = cut_is xs g z e (length f) d (cut_at xs f y b c) in
      let own = cut_is xs f y b (length f) c (cut_at xs f y b c) in
      (sym own.0 ∙ at.0, sym own.1 ∙ at.1)

  found_by : (xs : List X) → Cuts xs → MatchOption
      (cond (ltb (position_or_len p xs) (length xs)) (Some (position_or_len p xs)) None)
      (NonePass xs) (CutAt xs)
  found_by xs (inl h) = search (arith, le-ltb)
  found_by xs (inr h) = search (arith, lt-ltb, inside_of, cut_at)

  pub found : (xs : List X) (r : Option ℕ) →
      r ≡ cond (ltb (position_or_len p xs) (length xs)) (Some (position_or_len p xs)) None
      → MatchOption r (NonePass xs) (CutAt xs)
  found xs r e = rw e (found_by xs (cuts xs))

pub to_end : {X : Type 0} (n : ℕ) (xs : List X) → take (length xs - n) (drop n xs) ≡ drop n xs
to_end n xs = search (arith, take_all, drop, length-drop)

-- ---- lines

on_line : (b : ℕ) (bs : List ℕ) (ls : List (List ℕ)) → is_lf b ≡ false → lines bs ≡ ls
    → lines (b ∷ bs) ≡ onto_first b ls
on_line b bs ls e h = rw (e, h) refl

pub lines_cut : (front : List ℕ) (y : ℕ) (back : List ℕ) → NonePass is_lf front → is_lf y ≡ true
    → lines (front ++ y ∷ back) ≡ front ∷ lines back
lines_cut [] y back none e = rw e refl
lines_cut (b ∷ front) y back none e = search (arith, on_line, lines_cut front y back none.1 e)

pub lines_only : (b : ℕ) (bs : List ℕ) → NonePass is_lf (b ∷ bs) → lines (b ∷ bs) ≡ (b ∷ bs) ∷ []
lines_only b [] none = on_line b [] [] none.0 refl
lines_only b (d ∷ bs) none = search (arith, on_line, lines_only d bs none.1)

pub lines_at : (bs : List ℕ) (k : ℕ) → CutAt is_lf bs k
    → lines bs ≡ take k bs ∷ lines (drop (k + 1) bs)
lines_at bs k c = search (arith, lines_cut, take, drop)

pub lines_one : (bs : List ℕ) → 0 < length bs → NonePass is_lf bs → lines bs ≡ bs ∷ []
lines_one [] some none = absurd (omega arith)
lines_one (b ∷ bs) some none = lines_only b bs none
