use Rattle.giop_stream.proofs.Cuts.OpenMessages.{few_open}
use Rattle.giop_stream.proofs.laws.open_messages.Goals as goal

pub returns : goal.returns
returns c = few_open
