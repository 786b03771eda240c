use Rattle.giop_stream.proofs.StreamLines.OldFragments.{padding_from_header}
use Rattle.giop_stream.proofs.laws.fragment_padding.Goals as goal

pub returns : goal.returns
returns c = padding_from_header
