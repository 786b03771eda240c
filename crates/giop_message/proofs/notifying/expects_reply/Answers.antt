use Rattle.std.proofs.Common.{ap}
use Rattle.giop_print.specs.declared.path.Root.TheVariants as roots
use Rattle.giop_message.specs.HeaderEnds.{expects_reply}
use Rattle.giop_message.proofs.notifying.expects_reply.Goals as goal

pub returns-in-Some : goal.returns-in-Some
returns-in-Some c C r keeps_noted =
    ap expects_reply (c.in-Some.ensures C roots.Header r keeps_noted)

pub returns-in-None : goal.returns-in-None
returns-in-None c C r keeps_noted =
    ap expects_reply (c.in-None.ensures C roots.Header r keeps_noted)
