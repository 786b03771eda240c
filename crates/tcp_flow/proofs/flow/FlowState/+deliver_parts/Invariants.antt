use Rattle.std.proofs.Common.{length}
use Rattle.tcp_flow.proofs.flow.FlowState.+deliver_parts.Given as goal

abbrev pub decreases-deliver_parts : goal.decreases-deliver_parts
decreases-deliver_parts g l = length l.parts.now
