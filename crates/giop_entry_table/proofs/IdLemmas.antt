-- The ids of a table by their remainders. The search for an id skips only ids that differ from it.
-- What is kept of the remainders stays right when an id is added or removed.
use Rattle.std.proofs.Common.{◌≡◌, ◌≢◌, ◌==◌, ◌<◌, ◌≤◌, ◌+◌, ◌-◌, ◌%◌, ◌^◌, ℕ, zero, suc, Bool, false, cond, min, List, [], ◌∷◌, ◌++◌, length, get_or, set, drop, sym, ap, ◌∙◌, inl, inr, arith, zero-add, length-append}
use Rattle.std.proofs.Math.Seq.{get_or-append_seam}
use Rattle.std.specs.List.{count_by, remove, position_from}
use Rattle.std.proofs.lemmas.List.{get_or_append_left, get_or-set_same, get_or-set_other, length-set}
use Rattle.std.proofs.lemmas.List.Edits.{length-remove, get_or-remove_below, get_or-remove_above}
use Rattle.std.proofs.lemmas.List.Sums.{sum_by-append, sum_by-cons, sum_by-remove}
use Rattle.std.proofs.lemmas.Bool.{ne_eqb}
use Rattle.std.proofs.lemmas.Bool.Decides.{eqb_tells, leb_tells}
use Rattle.giop_entry_table.specs.Ids.{IsLowerBound, AreIndexedByRemainder}

-- a search goes on after elements that don't pass the test
position-apart : (test : ℕ → Bool) (xs : List ℕ) (n from : ℕ) → n ≤ length xs →
    ((i : ℕ) → i < n → test (get_or xs i 0) ≡ false) →
    position_from test from xs ≡ position_from test (from + n) (drop n xs)
position-apart test xs zero from few none = grind arith
position-apart test [] (suc n) from few none = absurd (omega (arith, few))
position-apart test (x ∷ xs) (suc n) from few none =
    let here : test x ≡ false = none 0 (omega arith) in
    let rest = position-apart test xs n (from + 1) (omega (arith, few))
    (λ i less. none (suc i) (omega (arith, less))) in
    let index : from + 1 + n ≡ from + suc n = omega arith in
    rw (here, ← index) rest

-- the same for a search from the beginning
pub position-behind : (test : ℕ → Bool) (xs : List ℕ) (n : ℕ) → n ≤ length xs →
    ((i : ℕ) → i < n → test (get_or xs i 0) ≡ false) →
    position_from test 0 xs ≡ position_from test n (drop n xs)
position-behind test xs n few none = position-apart test xs n 0 few none
    ∙ ap (λ k. position_from test k (drop n xs)) (zero-add n)

-- an id that has the remainder is counted, and no other one is
abbrev one_if : (test : Bool) → ℕ
one_if test = cond test 1 0

one_of : (a b : ℕ) → a ≡ b → one_if (a == b) ≡ 1
one_of a b e = elim (eqb_tells a b) [
  | inl same ↦ ap one_if same.0
  | inr apart ↦ absurd (apart.1 e)
]

none_of : (a b : ℕ) → a ≢ b → one_if (a == b) ≡ 0
none_of a b apart = ap one_if (ne_eqb a b apart)

added : (p : ℕ → Bool) (xs : List ℕ) (x : ℕ) →
    count_by p (xs ++ x ∷ []) ≡ count_by p xs + cond (p x) 1 0
added p xs x = grind (arith, sum_by-append, sum_by-cons)

module _ (divisor : ℕ) (keys counts firsts : List ℕ) (removals : ℕ)
    (h : AreIndexedByRemainder divisor keys counts firsts removals) where
  -- the id at this index is counted
  pub some_counted : (index r : ℕ) → index < length keys → r ≡ get_or keys index 0 % divisor →
      r < divisor → 1 ≤ get_or counts r 0
  some_counted index r there is within =
      let f : ℕ → ℕ = λ k. cond (k % divisor == r) 1 0 in
      let all = sum_by-remove f keys index 0 there in
      let one : f (get_or keys index 0) ≡ 1 = one_of (get_or keys index 0 % divisor) r (sym is) in
      omega (arith, all, one, h.counted r within)

  pub indexed_push : (key r first : ℕ) → r < divisor → r ≡ key % divisor →
      IsLowerBound keys divisor removals r first → first ≤ length keys + removals → first < 2 ^ 64 →
      AreIndexedByRemainder divisor (keys ++ key ∷ []) (set counts r (get_or counts r 0 + 1))
      (set firsts r first) removals
  indexed_push key r first within is before few range =
      let long = length-append keys (key ∷ []) in
      let written = get_or-set_same firsts r first 0 (omega (arith, within, h.firsts_many)) in
      let other : (j : ℕ) → j ≢ r → get_or (set firsts r first) j 0 ≡ get_or firsts j 0 =
      λ j apart. get_or-set_other firsts r j first 0 apart in
      record {
        counts_many = length-set counts r _ ∙ h.counts_many;
        firsts_many = length-set firsts r _ ∙ h.firsts_many;
        counted = λ j less. elim (eqb_tells j r) [
          | inl same ↦
              let old = h.counted j less in
              let one = one_of (key % divisor) j (sym is ∙ sym same.1) in
              let now = get_or-set_same counts r (get_or counts r 0 + 1) 0
              (omega (arith, within, h.counts_many)) in
              let sum = added (λ k. k % divisor == j) keys key in
              ap (λ n. get_or (set counts r (get_or counts r 0 + 1)) n 0) same.1 ∙ now
              ∙ ap (λ n. get_or counts n 0 + 1) (sym same.1) ∙ omega (arith, old, one, sum)
          | inr apart ↦
              let old = h.counted j less in
              let none = none_of (key % divisor) j (λ e. apart.1 (sym e ∙ sym is)) in
              rw (added (λ k. k % divisor == j) keys key)
              (get_or-set_other counts r j _ 0 apart.1 ∙ omega (arith, old, none))
        ];
        before = λ j less i here has. elim (eqb_tells i (length keys)) [
          | inl last ↦
              let own = sym has ∙ ap (λ k. k % divisor)
              (ap (λ n. get_or (keys ++ key ∷ []) n 0) last.1 ∙ get_or-append_seam keys key [] 0)
              ∙ sym is in
              rw (own, last.1) (omega (arith, written, few))
          | inr apart ↦
              let short : i < length keys = omega (arith, here, long, apart.1) in
              let held = sym (ap (λ k. k % divisor) (get_or_append_left keys (key ∷ []) 0 i short))
              ∙ has in
              elim (eqb_tells j r) [
                | inl same ↦ rw same.1 (omega (arith, written, before i short (held ∙ same.1)))
                | inr other_r ↦ omega (arith, other j other_r.1, h.before j less i short held)
              ]
        ];
        range = λ j less. elim (eqb_tells j r) [
          | inl same ↦ rw same.1 (omega (arith, written, range))
          | inr apart ↦ omega (arith, other j apart.1, h.range j less)
        ];
      }

  pub indexed_remove : (index r removals' : ℕ) → index < length keys →
      r ≡ get_or keys index 0 % divisor → r < divisor →
      removals' ≡ min (removals + min (length keys - index - 1) 1) (2 ^ 64 - 1) →
      AreIndexedByRemainder divisor (remove keys index) (set counts r
      (get_or counts r 0 - 1)) firsts removals'
  indexed_remove index r removals' there is within up =
      let shorter = length-remove keys index there in
      record {
        counts_many = length-set counts r _ ∙ h.counts_many;
        firsts_many = h.firsts_many;
        counted = λ j less.
            let f : ℕ → ℕ = λ k. one_if (k % divisor == j) in
            let all = sum_by-remove f keys index 0 there in
            let old = h.counted j less in
            elim (eqb_tells j r) [
              | inl same ↦
                  let one = one_of (get_or keys index 0 % divisor) j (sym is ∙ sym same.1) in
                  let now = get_or-set_same counts r (get_or counts r 0 - 1) 0
                  (omega (arith, within, h.counts_many)) in
                  ap (λ n. get_or (set counts r (get_or counts r 0 - 1)) n 0) same.1 ∙ now
                  ∙ ap (λ n. get_or counts n 0 - 1) (sym same.1) ∙ omega (arith, all, old, one)
              | inr apart ↦
                  let none = none_of (get_or keys index 0 % divisor) j
                  (λ e. apart.1 (sym e ∙ sym is)) in
                  let now = get_or-set_other counts r j (get_or counts r 0 - 1) 0 apart.1 in
                  omega (arith, all, old, none, now)
            ];
        before = λ j less i here has. elim (leb_tells (suc i) index) [
          | inl sooner ↦
              let held = sym (ap (λ k. k % divisor)
              (get_or-remove_below keys index 0 i sooner.1 there)) ∙ has in
              let bound = h.before j less i (omega (arith, sooner.1, there)) held in
              omega (arith, bound, h.range j less, up)
          | inr later ↦
              let held = sym (ap (λ k. k % divisor)
              (get_or-remove_above keys index 0 i (omega (arith, later.1)) there)) ∙ has in
              let bound = h.before j less (i + 1) (omega (arith, here, shorter)) held in
              omega (arith, bound, h.range j less, here, shorter, later.1, there, up)
        ];
        range = h.range;
      }

-- if the divisor is 0, nothing is kept of any ids
pub indexed_none : (divisor : ℕ) (keys others counts firsts : List ℕ) (removals : ℕ) →
    divisor ≡ 0 → AreIndexedByRemainder divisor keys counts firsts removals →
    AreIndexedByRemainder divisor others counts firsts removals
indexed_none divisor keys others counts firsts removals none h = record {
  counts_many = h.counts_many;
  firsts_many = h.firsts_many;
  counted = λ r less. absurd (omega (arith, less, none));
  before = λ r less i here has. absurd (omega (arith, less, none));
  range = λ r less. absurd (omega (arith, less, none));
}
