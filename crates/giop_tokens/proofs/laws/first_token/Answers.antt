use Rattle.giop_tokens.proofs.LayoutLaws.{first_next}
use Rattle.giop_tokens.proofs.WrittenLaws.{next_first}
use Rattle.giop_tokens.proofs.laws.first_token.Goals as goal

pub returns : goal.returns
returns c = λ text t rest. (next_first text t rest, first_next text t rest)
