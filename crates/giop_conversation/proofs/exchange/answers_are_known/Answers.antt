use Rattle.giop_conversation.specs.ExchangeLaws.{all_known}
use Rattle.giop_conversation.proofs.exchange.answers_are_known.Goals as goal

pub returns : goal.returns
returns c = all_known
