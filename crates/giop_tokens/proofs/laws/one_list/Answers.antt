use Rattle.giop_tokens.proofs.WrittenLaws.{one_list}
use Rattle.giop_tokens.proofs.laws.one_list.Goals as goal

pub returns : goal.returns
returns c = λ text ts us. one_list text ts us
