use Rattle.giop_message.specs.Signatures.{signatures_of, by_list}
use Rattle.giop_message.proofs.MessageLaws.{is_causal}
use Rattle.giop_stream.specs.Rules.{rules}
use Rattle.giop_stream.proofs.SlotSteps.Parts.{in_turn}
use Rattle.giop_stream.proofs.StreamLines.InPieces.{fed_together, fed_alike}
use Rattle.giop_stream.proofs.engine.any_pieces.Goals as goal

pub returns : goal.returns
returns c = record {
  whole = λ C l n. fed_together (rules C l n)
      (is_causal (λ phase number. signatures_of C (by_list l number) phase))
      (in_turn C (by_list l));
  same = λ C l n. fed_alike (rules C l n) (is_causal
      (λ phase number. signatures_of C (by_list l number) phase))
      (in_turn C (by_list l));
}
