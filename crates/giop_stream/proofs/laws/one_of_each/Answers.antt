use Rattle.giop_stream.proofs.StreamLines.OneOfEach.{one_of_class}
use Rattle.giop_stream.proofs.laws.one_of_each.Goals as goal

pub returns : goal.returns
returns c = one_of_class
