-- The last lines say how many packets and octets were read.
use Rattle.std.proofs.Common.{◌∙◌, ap}
use Rattle.giop_capture.specs.CaptureRun.{ending_of}
use Rattle.giop_capture.proofs.ending.finish_dump.Goals as goal

pub returns-in-Ok-clause-ends : goal.returns-in-Ok-clause-ends
returns-in-Ok-clause-ends g c =
    c.ending_of.ensures ∙ ap (ending_of c.args.fault) c.in-Ok.ensures.value

pub returns-in-Ok-clause-last : goal.returns-in-Ok-clause-last
returns-in-Ok-clause-last g c = λ p events reads observed.
    rw (
      ← c.packets.ensures p reads,
      ← c.octets.ensures.octets p reads,
      ← c.in-Ok.ensures.value,
    )
    (c.in-Ok.ensures.finished events observed)
