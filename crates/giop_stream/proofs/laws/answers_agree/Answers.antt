use Rattle.giop_stream.proofs.CodeSteps.AgreementAtHeaders.{text_alike, state_alike}
use Rattle.giop_stream.proofs.CodeSteps.AnswersGoOn.{at_headers, held_agree}
use Rattle.giop_stream.proofs.laws.answers_agree.Goals as goal

pub returns : goal.returns
returns c = record {
  text = λ C a b n p h. text_alike C a b n p (at_headers C n a b p h);
  state = λ C a b n p h. state_alike C a b n p (at_headers C n a b p h);
  held = λ e a b p h k. held_agree e a b p h k;
}
