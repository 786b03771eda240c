use Rattle.giop_message.specs.Signatures.{signatures_of, by_list}
use Rattle.giop_message.proofs.MessageLaws.{is_causal}
use Rattle.giop_stream.specs.Rules.{rules}
use Rattle.giop_stream.proofs.SlotSteps.Parts.{in_turn}
use Rattle.giop_stream.proofs.StreamLines.ReadOn.{remains, spells_within}
use Rattle.giop_stream.proofs.engine.remaining.Goals as goal

pub returns : goal.returns
returns c = record {
  text = λ C l n octets p q s. remains (rules C l n)
      (is_causal (λ phase number. signatures_of C (by_list l number) phase)) (in_turn C (by_list l))
      p q;
  within = λ C l n octets p laws s. spells_within octets p C l n laws s;
}
