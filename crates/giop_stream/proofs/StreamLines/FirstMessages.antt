-- Lists of message numbers: those of the first messages (all except Fragments) that are not
-- over, and those of the open ones.
use Rattle.std.proofs.Common.{arith, ◌≡◌, ℕ, Bool, true, false, cond, not, List, [], ◌∷◌, ◌++◌, map, refl}
use Rattle.std.specs.Prelude.{◌==◌, if◌then◌else◌, ◌||◌}
use Rattle.std.specs.List.{filter}
use Rattle.std.proofs.lemmas.Bool.{cases_eq, ne_eqb, eqb-true}
use Rattle.std.proofs.lemmas.List.Elements.{filter-append}
use Rattle.giop_stream.specs.Kinds.{is_any_fragment}
use Rattle.giop_stream.specs.Framing.{CutMessage}
use Rattle.giop_stream.specs.Events.{Open}
use Rattle.giop_stream.specs.OpenSlots.{is_open}

-- The numbers of the open messages, and the number of the current one if it is no Fragment and not
-- open.
unfoldable pub numbers_of : (still_open : List Open) → List ℕ
numbers_of still_open = map (λ o. o.opener.number) still_open

unfoldable pub current_if_unopened : (still_open : List Open) (message : CutMessage) → List ℕ
current_if_unopened still_open m = if is_any_fragment m.header
    || is_open still_open m.number then [] else m.number ∷ []

unfoldable pub open_and_current : (still_open : List Open) (message : CutMessage) → List ℕ
open_and_current still_open m = numbers_of still_open ++ current_if_unopened still_open m

unfoldable pub without_over : (over : ℕ → Bool) (octets : List ℕ) → List ℕ
without_over over xs = filter (λ i. not (over i)) xs

unfoldable pub without_number : (n : ℕ) (still_open : List Open) → List Open
without_number n still_open = filter (λ o. not (o.opener.number == n)) still_open

drop_by : (over : ℕ → Bool) (n : ℕ) (o : Open) (still_open : List Open) (b : Bool) → over n ≡ true →
    (o.opener.number == n) ≡ b
    → without_over over (numbers_of (without_number n still_open)) ≡ without_over over
    (numbers_of still_open)
    → without_over over (numbers_of (cond (not b) (o ∷ without_number n still_open)
    (without_number n still_open)))
    ≡ without_over over (numbers_of (o ∷ still_open))
unfolding without_over numbers_of
drop_by over n o still_open true h e ih = search (arith, eqb-true)
drop_by over n o still_open false h e ih = search (arith, cond, not)

drops_numbers : (over : ℕ → Bool) (n : ℕ) (still_open : List Open) → over n ≡ true →
    without_over over (numbers_of (without_number n still_open)) ≡ without_over over
    (numbers_of still_open)
unfolding without_number
drops_numbers over n [] h = refl
drops_numbers over n (o ∷ still_open) h = search (arith, drop_by, drops_numbers over n still_open h)

open_by : (n i : ℕ) (o : Open) (still_open : List Open) (b : Bool) → (i ≡ n → ⊥) →
    (o.opener.number == n) ≡ b
    → is_open (without_number n still_open) i ≡ is_open still_open i
    → is_open (cond (not b) (o ∷ without_number n still_open) (without_number n still_open)) i
    ≡ is_open (o ∷ still_open) i
unfolding is_open
open_by n i o still_open true h e ih = search (arith, eqb-true, ne_eqb)
open_by n i o still_open false h e ih = search (arith)

open_without : (n i : ℕ) (still_open : List Open) → (i ≡ n → ⊥) →
    is_open (without_number n still_open) i ≡ is_open still_open i
unfolding without_number
open_without n i [] h = refl
open_without n i (o ∷ still_open) h = search (arith, open_by, open_without n i still_open h)

pub dead_tail : (over : ℕ → Bool) (m : CutMessage) (b : Bool) → over m.number ≡ true →
    without_over over (if b then [] else m.number ∷ []) ≡ []
unfolding without_over
dead_tail over m true h = refl
dead_tail over m false h = rw h refl

pub removed : (over : ℕ → Bool) (n : ℕ) (still_open : List Open) (m : CutMessage) → over n ≡ true →
    without_over over (open_and_current (without_number n still_open) m) ≡ without_over over
    (open_and_current still_open m)
unfolding open_and_current current_if_unopened without_over
removed over n still_open m h = search (
  arith,
  filter-append,
  not,
  drops_numbers,
  cases_eq,
  dead_tail,
  open_without,
)
