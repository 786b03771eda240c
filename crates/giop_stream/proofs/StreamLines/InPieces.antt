-- However a stream is cut into pieces, the same text is written.
use Rattle.std.proofs.Common.{arith, ◌≡◌, ℕ, List, [], ◌∷◌, ◌++◌, sym}
use Rattle.std.specs.List.{concat}
use Rattle.giop_message.specs.MessageReader.{KeepsEarlierLines, IsStreamable}
use Rattle.giop_stream.specs.Rules.{Rules}
use Rattle.giop_stream.specs.EngineHolds.{added}
use Rattle.giop_stream.specs.Pieces.{fed}
use Rattle.giop_stream.proofs.SlotSteps.Adding.{added_nil}
use Rattle.giop_stream.proofs.StreamLines.MoreOctets.{added_both}

pub fed_together : (R : Rules) → KeepsEarlierLines R.reading → IsStreamable R.reading →
    (p : List ℕ) (pieces : List (List ℕ)) → fed R p pieces ≡ added R p (concat pieces)
unfolding fed
fed_together R causal laws p [] = sym (added_nil R p)
fed_together R causal laws p (piece ∷ pieces) = search (
  arith,
  added_both,
  fed_together R causal
      laws (p ++ piece) pieces,
)

pub fed_alike : (R : Rules) → KeepsEarlierLines R.reading → IsStreamable R.reading →
    (p : List ℕ) (pieces others : List (List ℕ))
    → concat pieces ≡ concat others → fed R p pieces ≡ fed R p others
fed_alike R causal laws p pieces others same = search (arith, fed_together)
