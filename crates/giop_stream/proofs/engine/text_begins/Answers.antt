use Rattle.giop_message.specs.Signatures.{signatures_of, by_list}
use Rattle.giop_message.proofs.MessageLaws.{is_causal}
use Rattle.giop_stream.specs.Rules.{rules}
use Rattle.giop_stream.specs.EngineHolds.{added}
use Rattle.giop_stream.proofs.SlotSteps.Parts.{in_turn}
use Rattle.giop_stream.proofs.StreamLines.MoreOctets.{text_adds}
use Rattle.giop_stream.proofs.engine.text_begins.Goals as goal

pub returns : goal.returns
returns c = λ C l n p q. (
  added (rules C l n) p q,
  text_adds (rules C l n) (is_causal (λ phase number. signatures_of C (by_list l number) phase))
      (in_turn C (by_list l)) p q,
)
