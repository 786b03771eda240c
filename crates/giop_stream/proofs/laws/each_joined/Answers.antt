use Rattle.giop_stream.proofs.Events.Sharing.{joined_is}
use Rattle.giop_stream.proofs.laws.each_joined.Goals as goal

pub returns : goal.returns
returns c = joined_is
