use Rattle.giop_stream.proofs.StreamLines.OldFragments.{mixed_after, mixed_on, joins_none}
use Rattle.giop_stream.proofs.laws.mixed_streams.Goals as goal

pub returns : goal.returns
returns c = record { mixes = mixed_after; stays = mixed_on; shares = joins_none }
