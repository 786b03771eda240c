-- The run of zeros that the text of an address leaves out is the longest one, and the first one if
-- several are equally long.
use Rattle.std.proofs.Common.{◌≡◌, ℕ, zero, suc, ◌+◌, ◌<◌, ◌≤◌, Bool, true, false, nat_le, if◌then◌else◌, List, [], ◌∷◌, length, refl, arith, add-one}
use Rattle.std.specs.Net.Text.{zero_run, longest_zero_run}
use Rattle.tcp_segment.specs.EndpointText.{AreZeros, IsLongestRun}

-- ---- Zeros after the first group.

behind : (s : ℕ) (rest : List ℕ) (at count : ℕ) → AreZeros (s ∷ rest) (suc at) count
    → AreZeros rest at count
behind s rest at count zeros k low high = zeros (suc k) (omega arith) (omega arith)

before : (s : ℕ) (rest : List ℕ) (at count : ℕ) → AreZeros rest at count
    → AreZeros (s ∷ rest) (suc at) count
before s rest at count zeros zero low high = omega arith
before s rest at count zeros (suc k) low high = zeros k (omega arith) (omega arith)

-- ---- The run at the front.

run_within : (groups : List ℕ) → zero_run groups ≤ length groups
run_within [] = omega arith
run_within (s ∷ rest) = grind (arith, run_within rest)

run_zeros : (groups : List ℕ) → AreZeros groups 0 (zero_run groups)
run_zeros [] k low high = omega arith
run_zeros (s ∷ rest) zero low high = grind arith
run_zeros (s ∷ rest) (suc k) low high =
    let in_rest : k < 0 + zero_run rest = grind arith in
    run_zeros rest k (omega arith) in_rest

run_longest : (groups : List ℕ) (count : ℕ) → count ≤ length groups → AreZeros groups 0 count
    → count ≤ zero_run groups
run_longest groups zero fits zeros = omega arith
run_longest [] (suc count) fits zeros = omega arith
run_longest (s ∷ rest) (suc count) fits zeros =
    let first : s ≡ 0 = zeros 0 (omega arith) (omega arith) in
    let more = run_longest rest count (omega arith)
    (behind s rest 0 count (λ k low high. zeros k (omega arith) (omega arith))) in
    grind (arith, first, more)

-- ---- The choice between the run at the front and the longest run after the first group.

module _ (s : ℕ) (rest : List ℕ) (start len : ℕ) (of : IsLongestRun rest start len) where
  longest_here : len ≤ zero_run (s ∷ rest) → (at count : ℕ) → at + count ≤ length (s ∷ rest)
      → AreZeros (s ∷ rest) at count → count ≤ zero_run (s ∷ rest)
  longest_here le zero count fits zeros = run_longest (s ∷ rest) count (omega arith) zeros
  longest_here le (suc at) count fits zeros =
      let l = of.longest at count (omega arith) (behind s rest at count zeros) in omega arith

  here : len ≤ zero_run (s ∷ rest) → IsLongestRun (s ∷ rest) 0 (zero_run (s ∷ rest))
  here le = record {
    within = let w = run_within (s ∷ rest) in omega arith;
    zeros = run_zeros (s ∷ rest);
    longest = longest_here le;
    first = λ at fits zeros. omega arith;
  }

  longest_later : zero_run (s ∷ rest) < len → (at count : ℕ) → at + count ≤ length (s ∷ rest)
      → AreZeros (s ∷ rest) at count → count ≤ len
  longest_later less zero count fits zeros =
      let l = run_longest (s ∷ rest) count (omega arith) zeros in omega arith
  longest_later less (suc at) count fits zeros =
      of.longest at count (omega arith) (behind s rest at count zeros)

  first_later : zero_run (s ∷ rest) < len → (at : ℕ) → at + len ≤ length (s ∷ rest)
      → AreZeros (s ∷ rest) at len → start + 1 ≤ at
  first_later less zero fits zeros =
      let l = run_longest (s ∷ rest) len (omega arith) zeros in omega arith
  first_later less (suc at) fits zeros =
      let l = of.first at (omega arith) (behind s rest at len zeros) in omega arith

  later : zero_run (s ∷ rest) < len → IsLongestRun (s ∷ rest) (start + 1) len
  later less = record {
    within = let w = of.within in omega arith;
    zeros = rw add-one (before s rest start len of.zeros);
    longest = longest_later less;
    first = first_later less;
  }

  -- the run at the front, or the other one
  abbrev one_of : (front : Bool) → ℕ × ℕ
  one_of front = if front then (0, zero_run (s ∷ rest)) else (start + 1, len)

  chosen : (front : Bool) → nat_le len (zero_run (s ∷ rest)) ≡ front
      → IsLongestRun (s ∷ rest) (one_of front).0 (one_of front).1
  chosen true is = here (grind arith)
  chosen false is = later (grind arith)

pub is_longest : (groups : List ℕ)
    → IsLongestRun groups (longest_zero_run groups).0 (longest_zero_run groups).1
is_longest [] = record {
  within = omega arith;
  zeros = λ k low high. omega arith;
  longest = λ at count fits zeros. omega arith;
  first = λ at fits zeros. omega arith;
}
is_longest (s ∷ rest) =
    let of = longest_zero_run rest in
    chosen s rest of.0 of.1 (is_longest rest) (nat_le of.1 (zero_run (s ∷ rest))) refl
