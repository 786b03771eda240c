-- The text that octets add to the text of a stream.
use Rattle.std.proofs.Common.{arith, ◌≡◌, ℕ, List, [], ◌++◌, length, drop, refl, append-nil}
use Rattle.std.proofs.Math.Seq.{drop-append_seam}
use Rattle.giop_message.specs.MessageReader.{KeepsEarlierLines, IsStreamable}
use Rattle.giop_stream.specs.Rules.{Rules}
use Rattle.giop_stream.specs.Lines.{StreamLine, lines}
use Rattle.giop_stream.specs.Text.{lines_text}
use Rattle.giop_stream.specs.Stream.{text}
use Rattle.giop_stream.specs.EngineState.{state_of}
use Rattle.giop_stream.specs.EngineStep.{lines_of_run}
use Rattle.giop_stream.specs.EngineHolds.{added}
use Rattle.giop_stream.proofs.CodeSteps.EngineLaws.{run_lines}
use Rattle.giop_stream.proofs.SlotSteps.Performing.{text_append}

-- the text of the lines that are added
added_by : (R : Rules) (p q : List ℕ) (ls : List StreamLine) → lines R (p ++ q) ≡ lines R p ++ ls →
    added R p q ≡ lines_text ls
unfolding added text
added_by R p q ls e = search (arith, drop, text_append, drop-append_seam)

-- the text that is added is the lines of a run
pub added_run : (R : Rules) → KeepsEarlierLines R.reading → IsStreamable R.reading →
    (p q : List ℕ) →
    added R p q ≡ lines_text (lines_of_run R (state_of R p) q)
added_run R causal laws p q = search (arith, added_by, run_lines)

pub added_text : (R : Rules) → KeepsEarlierLines R.reading → IsStreamable R.reading →
    (p q : List ℕ) →
    drop (length (text R p)) (text R (p ++ q)) ≡ lines_text (lines_of_run R (state_of R p) q)
unfolding added
added_text R causal laws p q = added_run R causal laws p q

pub added_nil : (R : Rules) → (p : List ℕ) → added R p [] ≡ []
unfolding lines_text
added_nil R p = added_by R p [] [] (rw (append-nil p, append-nil (lines R p)) refl)
