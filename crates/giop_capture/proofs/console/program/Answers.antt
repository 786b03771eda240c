use Rattle.std.proofs.Common.{inr}
use Rattle.giop_capture.proofs.console.program.Goals as goal

pub returns-clause-status : goal.returns-clause-status
returns-clause-status c = inr (c.in-Ok-read.asked, c.print_capture.ensures.status)
