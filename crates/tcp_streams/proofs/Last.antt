-- The last id of a queue, and the queue after its last place is given up, which has no id.
use Rattle.std.proofs.Common.{◌≡◌, ℕ, ◌+◌, ◌-◌, ◌<◌, ◌≤◌, eqb, List, [], ◌∷◌, ◌++◌, length, take, Option, Some, None, refl, sym, ◌∙◌, ap, subst, arith, inl, inr, length-append, append-nil}
use Rattle.std.specs.List.{IsDistinct, last_or, slice_get}
use Rattle.std.proofs.lemmas.Bool.{cases_lt, le-ltb}
use Rattle.std.proofs.lemmas.List.{take_all, take_more, get_or_push}
use Rattle.std.proofs.lemmas.List.Elements.{filter-append}
use Rattle.std.proofs.lemmas.Option.{slice_get_within, get_or_from_slice_get}
use Rattle.tcp_streams.specs.Lives.{most_ids}
use Rattle.tcp_streams.specs.Places.{IsQueue, is_id, ids_of}
use Rattle.tcp_streams.specs.Stamped.{AreStamped}
use Rattle.tcp_streams.proofs.Placed.{ids_push}

last_pushed : (o : Option ℕ) (xs : List ℕ) (n : ℕ) → last_or o (xs ++ n ∷ []) ≡ Some n
last_pushed o [] n = refl
last_pushed o (x ∷ xs) n = last_pushed (Some x) xs n

-- a list that has a last number is what stands before it, and this number
by_last : (xs : List ℕ) (n : ℕ) → slice_get xs (length xs - 1) ≡ Some n →
    xs ≡ take (length xs - 1) xs ++ n ∷ []
by_last xs n e =
    let k : ℕ = length xs - 1 in
    let l : k < length xs = slice_get_within xs k n e in
    sym (take_all (k + 1) xs (omega arith)) ∙ take_more xs k n l
    ∙ ap (λ (m : ℕ). take k xs ++ m ∷ []) (get_or_from_slice_get xs k n n e)

-- if the last place has an id, it is the last id
pub last_alive : (xs : List ℕ) (n : ℕ) → slice_get xs (length xs - 1) ≡ Some n → n < most_ids →
    last_or None (ids_of xs) ≡ Some n
last_alive xs n e l =
    ap (λ (ys : List ℕ). last_or None (ids_of ys)) (by_last xs n e)
    ∙ ap (λ (ys : List ℕ). last_or None ys) (ids_push (take (length xs - 1) xs) n l)
    ∙ last_pushed None (ids_of (take (length xs - 1) xs)) n

ids_dead : (xs : List ℕ) (n : ℕ) → most_ids ≤ n → ids_of (xs ++ n ∷ []) ≡ ids_of xs
ids_dead xs n l =
    filter-append is_id xs (n ∷ []) ∙ rw (le-ltb n most_ids l) (append-nil (ids_of xs))

pub last_dead : (xs : List ℕ) (n : ℕ) → slice_get xs (length xs - 1) ≡ Some n → most_ids ≤ n →
    ids_of (take (length xs - 1) xs) ≡ ids_of xs
last_dead xs n e l =
    sym (ap ids_of (by_last xs n e) ∙ ids_dead (take (length xs - 1) xs) n l)

dropped : (xs stamps : List ℕ) (n front count : ℕ) → most_ids ≤ n →
    IsQueue (xs ++ n ∷ []) stamps front count → IsQueue xs stamps (length xs) count
dropped xs stamps n front count l h =
    let many = length-append xs (n ∷ []) in
    let same = ids_dead xs n l in
    let all : length (xs ++ n ∷ []) ≤ front =
    elim (cases_lt (length xs) front) [
      | inl more ↦ omega arith
      | inr less ↦ absurd (omega (
        arith,
        h.whole (length xs) less (omega arith),
        get_or_push xs n 0 (length xs) refl,
      ))
    ] in
    record {
      few = omega arith;
      distinct = subst (IsDistinct eqb) same h.distinct;
      stamped = subst (AreStamped stamps) same h.stamped;
      within = omega arith;
      counted = h.counted ∙ ap (λ (ys : List ℕ). length (ids_of ys)) (take_all front _ all)
          ∙ ap length (same ∙ ap ids_of (sym (take_all (length xs) xs (omega arith))));
      whole = λ k d m. absurd (omega arith);
    }

-- the last place has no id, and is given up
pub drop_dead : (xs stamps : List ℕ) (n front count : ℕ) →
    slice_get xs (length xs - 1) ≡ Some n → most_ids ≤ n → IsQueue xs stamps front count →
    IsQueue (take (length xs - 1) xs) stamps (length (take (length xs - 1) xs)) count
drop_dead xs stamps n front count e l h =
    dropped (take (length xs - 1) xs) stamps n front count l
    (subst (λ (ys : List ℕ). IsQueue ys stamps front count) (by_last xs n e) h)
