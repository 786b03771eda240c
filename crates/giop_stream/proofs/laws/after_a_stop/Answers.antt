use Rattle.giop_stream.proofs.Cuts.Stopped.{text_stays, tally_stays}
use Rattle.giop_stream.proofs.laws.after_a_stop.Goals as goal

pub returns : goal.returns
returns c = record { text = text_stays; totals = tally_stays }
