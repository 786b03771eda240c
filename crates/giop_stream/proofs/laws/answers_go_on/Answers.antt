use Rattle.giop_stream.proofs.CodeSteps.AnswersGoOn.{goes_on}
use Rattle.giop_stream.proofs.laws.answers_go_on.Goals as goal

pub returns : goal.returns
returns g c = λ C a n p q st. goes_on C n g.Q.Correspondent.answer g.Q.Correspondent.notified q p a
    st
