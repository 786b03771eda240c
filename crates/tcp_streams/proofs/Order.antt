-- Which streams live after one more event, and at which index a number stands.
use Rattle.std.proofs.Common.{◌≡◌, ℕ, suc, ◌+◌, ◌<◌, ◌≤◌, true, false, nat_eq, List, [], ◌∷◌, ◌++◌, length, drop, get_or, Option, Some, None, refl, ap, arith}
use Rattle.std.specs.Option.{option_map}
use Rattle.std.proofs.lemmas.List.{drop_more, drop_all}
use Rattle.tcp_flow.specs.Flow.{Event}
use Rattle.tcp_streams.specs.Lives.{index_of, lives_behind, lives_from}

pub lives_more : (live : List ℕ) (es : List Event) (e : Event) →
    lives_from live (es ++ e ∷ []) ≡ lives_behind (lives_from live es) e
unfolding lives_from
lives_more live [] e = refl
lives_more live (x ∷ es) e = lives_more (lives_behind live x) es e

-- ---- What a loop has seen.

pub index_here : (n : ℕ) (xs : List ℕ) (i : ℕ) → i < length xs → nat_eq (get_or xs i 0) n ≡ true →
    index_of n (drop i xs) ≡ Some 0
unfolding index_of
index_here n xs i l e = rw (drop_more xs i 0 l, e) refl

one_further : (i : ℕ) (r : Option ℕ) → option_map (λ (k : ℕ). i + k) (option_map suc r)
    ≡ option_map (λ (k : ℕ). i + 1 + k) r
one_further i None = refl
one_further i (Some k) = ap Some (omega arith)

pub index_later : (n : ℕ) (xs : List ℕ) (i : ℕ) → i < length xs → nat_eq (get_or xs i 0) n ≡ false →
    option_map (λ (k : ℕ). i + k) (index_of n (drop i xs))
    ≡ option_map (λ (k : ℕ). i + 1 + k) (index_of n (drop (i + 1) xs))
unfolding index_of
index_later n xs i l e =
    rw (drop_more xs i 0 l, e) (one_further i (index_of n (drop (i + 1) xs)))

pub index_end : (n : ℕ) (xs : List ℕ) (i : ℕ) → length xs ≤ i → index_of n (drop i xs) ≡ None
unfolding index_of
index_end n xs i l = rw (drop_all i xs l) refl
