use Rattle.giop_stream.proofs.CodeSteps.AgreementAtHeaders.{text_alike, state_alike, leads_on}
use Rattle.giop_stream.proofs.CodeSteps.AnswersGoOn.{at_headers}
use Rattle.giop_stream.proofs.laws.answers_at_headers.Goals as goal

pub returns : goal.returns
returns g c = record {
  text = λ C a b n p h. text_alike C a b n p h;
  state = λ C a b n p h. state_alike C a b n p h;
  agree = λ C a b n p h. at_headers C n a b p h;
  one = λ C a b n p q st h f k. leads_on C a b n g.Q.Correspondent.answer
      g.Q.Correspondent.notified p q st h f k;
}
