-- Places of a content by their sequence numbers, and its octets from a place on.
use Rattle.std.proofs.Common.{◌≡◌, ℕ, ◌+◌, ◌-◌, ◌^◌, ◌<◌, ◌≤◌, false, nat_lt, List, ◌++◌, length, take, drop, sym, ◌∙◌, ap, arith}
use Rattle.std.proofs.lemmas.Bool.{cases_lt, lt-ltb, le-ltb, ltb-false, and_cases}
use Rattle.std.proofs.lemmas.List.{drop-take, drop-drop}
use Rattle.std.proofs.Math.Seq.{take-add}
use Rattle.tcp_waiting.specs.Numbers.{ahead, onward, age, is_to_come, rank}

ahead_up : (s r i : ℕ) → r ≤ i → i < 2 ^ 31 → ahead (onward s r) (onward s i) ≡ i - r
ahead_up s r i l m = omega (arith, l, m)

ahead_down : (s r i : ℕ) → i < r → r < 2 ^ 31 → ahead (onward s r) (onward s i) ≡ 2 ^ 32 - (r - i)
ahead_down s r i l m = omega (arith, l, m)

-- an octet that isn't to come is at the place that is due, or before it
pub place_due : (s r i : ℕ) → r < 2 ^ 31 → i < 2 ^ 31 →
    is_to_come (onward s r) (onward s i) ≡ false → i ≤ r
place_due s r i l m e = search (arith, cases_lt, ahead_up, and_cases, nat_lt, ltb-false)

pub age_before : (s r i : ℕ) → i ≤ r → r < 2 ^ 31 → age (onward s r) (onward s i) ≡ r - i
age_before s r i l m = search (arith, cases_lt, ahead_down, le-ltb, ahead_up, lt-ltb)

pub age_behind : (s r i : ℕ) → r ≤ i → i < 2 ^ 31 → age (onward s r) (onward s i) ≡ 0
age_behind s r i l m = search (arith, ahead_up, lt-ltb)

pub same_place : (s i j : ℕ) → i < 2 ^ 31 → j < 2 ^ 31 → onward s i ≡ onward s j → i ≡ j
same_place s i j l m e = omega (arith, l, m, e)

pub place_further : (s i k : ℕ) → onward (onward s i) k ≡ onward s (i + k)
place_further s i k = omega arith

pub place_later : (s r i : ℕ) → r < 2 ^ 31 → i < 2 ^ 31 → 2 ^ 31 < rank (onward s r) (onward s i) →
    r < i
place_later s r i l m h = search (arith, cases_lt, ahead_down, ahead_up)

-- the octets of a payload without its first `k`
pub drop_content : (place k : ℕ) (octets content : List ℕ) → k ≤ length octets →
    octets ≡ take (length octets) (drop place content)
    → drop k octets ≡ take (length octets - k) (drop (place + k) content)
drop_content place k octets content l e =
    let n : length octets ≡ k + (length octets - k) = omega (arith, l) in
    ap (drop k) (e ∙ ap (λ (m : ℕ). take m (drop place content)) n)
    ∙ drop-take k (length octets - k) (drop place content)
    ∙ ap (take (length octets - k)) (drop-drop k place content)

-- what was delivered, and then the octets that follow it
pub is_continued_by : (at r place : ℕ) (octets content : List ℕ) → at ≤ r → place ≤ r →
    r ≤ place + length octets → octets ≡ take (length octets) (drop place content)
    → take (r - at) (drop at content) ++ drop (r - place) octets
    ≡ take (place + length octets - at) (drop at content)
is_continued_by at r place octets content l m n e =
    let rest : drop (r - place) octets ≡ take (length octets - (r - place))
    (drop (place + (r - place)) content) =
    drop_content place (r - place) octets content (omega (arith, n, m)) e in
    let here : place + (r - place) ≡ at + (r - at) = omega (arith, l, m) in
    let long : place + length octets - at ≡ (r - at) + (length octets - (r - place)) =
    omega (arith, l, m, n) in
    ap (λ (xs : List ℕ). take (r - at) (drop at content) ++ xs)
    (rest ∙ ap (λ (k : ℕ). take (length octets - (r - place)) (drop k content)) here
    ∙ ap (take (length octets - (r - place))) (sym (drop-drop (r - at) at content)))
    ∙ sym (ap (λ (k : ℕ). take k (drop at content)) long
    ∙ take-add (r - at) (length octets - (r - place)) (drop at content))
