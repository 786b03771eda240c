use Rattle.giop_capture.proofs.Gapless.{packets_gapless, capture_gapless, capture_whole, capture_slots}
use Rattle.giop_capture.proofs.gap_laws.no_stream_of_a_capture_has_a_gap.Goals as goal

pub returns-clause-packets : goal.returns-clause-packets
returns-clause-packets c = packets_gapless

pub returns-clause-ended : goal.returns-clause-ended
returns-clause-ended c = capture_gapless

pub returns-clause-closed : goal.returns-clause-closed
returns-clause-closed c = capture_whole

pub returns-clause-slots : goal.returns-clause-slots
returns-clause-slots c = capture_slots
