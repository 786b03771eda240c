use Rattle.giop_stream.proofs.Cuts.Counts.{octets_few, octets_free, messages_few}
use Rattle.giop_stream.proofs.Events.FaultsBound.{faults_few, all_faults}
use Rattle.giop_stream.proofs.laws.counts_are_bounded.Goals as goal

pub returns : goal.returns
returns c = record {
  octets = octets_few;
  free = octets_free;
  messages = messages_few;
  faults = faults_few;
  all_faults = all_faults;
}
