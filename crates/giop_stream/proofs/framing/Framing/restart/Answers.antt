use Rattle.std.specs.Prelude.{not}
use Rattle.std.proofs.Common.{ap, ◌∙◌}
use Rattle.giop_stream.proofs.CodeSteps.OutsideMessages.{nothing_shown}
use Rattle.giop_stream.proofs.framing.Framing.restart.Goals as goal

pub returns-clause-shows : goal.returns-clause-shows
returns-clause-shows c C l n joins = nothing_shown C l n _ c.clear.ensures.totals
    c.clear.ensures.stopped c.clear.ensures.header c.clear.ensures.payload_count
    c.clear.ensures.bare (c.clear.ensures.mixed ∙ ap not joins)
