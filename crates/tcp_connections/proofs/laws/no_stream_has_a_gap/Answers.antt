use Rattle.tcp_connections.proofs.Gapless.{after_gapless, after_whole, after_owned, after_end_owned, after_end_slots}
use Rattle.tcp_connections.proofs.laws.no_stream_has_a_gap.Goals as goal

pub returns-clause-gapless : goal.returns-clause-gapless
returns-clause-gapless c = after_gapless

pub returns-clause-ended : goal.returns-clause-ended
returns-clause-ended c = after_whole

pub returns-clause-own : goal.returns-clause-own
returns-clause-own c = after_owned

pub returns-clause-own_to_the_end : goal.returns-clause-own_to_the_end
returns-clause-own_to_the_end c = after_end_owned

pub returns-clause-slots : goal.returns-clause-slots
returns-clause-slots c = after_end_slots
