-- What runs of octets add to the text of a stream, and the state after them.
use Rattle.std.proofs.Common.{◌≡◌, ℕ, List, [], ◌∷◌, ◌++◌, drop, refl, sym, ap, ◌∙◌, append_assoc, append-nil, Some, arith}
use Rattle.std.specs.Prelude.{slice_get}
use Rattle.std.proofs.Math.Seq.{drop-append_seam}
use Rattle.giop_message.specs.MessageReader.{KeepsEarlierLines, IsStreamable}
use Rattle.giop_stream.specs.Rules.{Rules}
use Rattle.giop_stream.specs.Text.{lines_text}
use Rattle.giop_stream.specs.Stream.{text}
use Rattle.giop_stream.specs.EngineHolds.{added}
use Rattle.giop_stream.specs.EngineState.{State}
use Rattle.giop_stream.specs.EngineStep.{step, lines_of_run, run_state, run_step}
use Rattle.giop_stream.proofs.SlotSteps.Performing.{text_append}
use Rattle.giop_stream.proofs.CodeSteps.EngineLaws.{run_text}
use Rattle.giop_stream.proofs.SlotSteps.Adding.{added_run}

added_from : (R : Rules) (p q z : List ℕ) → text R (p ++ q) ≡ text R p ++ z → added R p q ≡ z
unfolding added
added_from R p q z e = search (arith, drop, drop-append_seam)

-- the text of a stream with more octets is its own text, and then what these add
pub text_adds : (R : Rules) → KeepsEarlierLines R.reading → IsStreamable R.reading →
    (p q : List ℕ) →
    text R (p ++ q) ≡ text R p ++ added R p q
text_adds R causal laws p q = search (arith, run_text, added_run)

-- what q and r add is what q adds, and then what r adds
pub added_both : (R : Rules) → KeepsEarlierLines R.reading → IsStreamable R.reading →
    (p q r : List ℕ) →
    added R p (q ++ r) ≡ added R p q ++ added R (p ++ q) r
added_both R causal laws p q r =
    added_from R p (q ++ r) (added R p q ++ added R (p ++ q) r)
    (ap (text R) (sym (append_assoc p q r))
    ∙ (text_adds R causal laws (p ++ q) r ∙
    (ap (λ (z : List ℕ). z ++ added R (p ++ q) r) (text_adds R causal laws p q)
    ∙ append_assoc (text R p) (added R p q) (added R (p ++ q) r))))

-- ---- A run, and then another.

pub run_state_on : (R : Rules) (s : State) (q r : List ℕ) →
    run_state R s (q ++ r) ≡ run_state R (run_state R s q) r
unfolding run_state
run_state_on R s [] r = refl
run_state_on R s (x ∷ q) r = run_state_on R (step R s x).state q r

run_on : (R : Rules) (s : State) (q r : List ℕ) → lines_of_run R s (q ++ r) ≡ lines_of_run R s q
    ++ lines_of_run R (run_state R s q) r
unfolding lines_of_run run_state
run_on R s [] r = refl
run_on R s (x ∷ q) r =
    rw (run_on R (step R s x).state q r) (sym (append_assoc (step R s x).lines
    (lines_of_run R (step R s x).state q) (lines_of_run R (run_state R (step R s x).state q) r)))

pub run_text_on : (R : Rules) (s : State) (q r : List ℕ) →
    lines_text (lines_of_run R s (q ++ r)) ≡ lines_text (lines_of_run R s q) ++ lines_text
    (lines_of_run R (run_state R s q) r)
run_text_on R s q r = search (arith, run_on, text_append)

pub one_run : (R : Rules) (s : State) (x : ℕ) → run_step R s (x ∷ []) ≡ step R s x
unfolding lines_of_run run_state
one_run R s x = search (arith, append-nil)

-- ---- A piece that is taken run by run.

pub first_of : (xs : List ℕ) (x : ℕ) → Some x ≡ slice_get xs 0 → xs ≡ x ∷ drop 1 xs
first_of [] x e = absurd cc
first_of (y ∷ xs) x e = search (arith)

-- the octets taken so far, with one more run of them
pub further : (octets_taken rest q left piece : List ℕ) → piece ≡ octets_taken ++ rest → rest ≡ q
    ++ left → piece ≡ (octets_taken ++ q) ++ left
further octets_taken rest q left piece e f = search (arith, append_assoc)

-- the text so far is a front of the piece's text
pub run_within : (R : Rules) (s : State) (octets_taken q left piece : List ℕ) →
    piece ≡ (octets_taken ++ q) ++ left
    → (more : List ℕ) × (lines_text (lines_of_run R s piece)
    ≡ (lines_text (lines_of_run R s octets_taken) ++ lines_text (lines_of_run R
    (run_state R s octets_taken) q))
    ++ more)
run_within R s octets_taken q left piece e = (
  lines_text (lines_of_run R (run_state R s (octets_taken ++ q)) left),
  ap (λ (z : List ℕ). lines_text (lines_of_run R s z)) e
      ∙ (run_text_on R s (octets_taken ++ q) left
      ∙ ap (λ (z : List ℕ). z ++ lines_text (lines_of_run R (run_state R s (octets_taken
      ++ q)) left))
      (run_text_on R s octets_taken q)),
)
