use Rattle.giop_tokens.proofs.LayoutLaws.{layout_tokens}
use Rattle.giop_tokens.proofs.WrittenLaws.{tokens_layout}
use Rattle.giop_tokens.proofs.laws.laid_out.Goals as goal

pub returns : goal.returns
returns c = λ text ts. (tokens_layout text ts, layout_tokens text ts)
