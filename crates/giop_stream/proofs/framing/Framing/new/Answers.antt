use Rattle.std.specs.Prelude.{not}
use Rattle.std.proofs.Common.{refl, ap, ◌∙◌}
use Rattle.giop_stream.proofs.CodeSteps.OutsideMessages.{nothing_shown}
use Rattle.giop_stream.proofs.framing.Framing.new.Goals as goal

pub returns-clause-shows : goal.returns-clause-shows
returns-clause-shows c C l n joins = nothing_shown C l n _ refl refl c.new.ensures refl
    c.in_ok-new.ensures.bare (c.in_ok-new.ensures.mixed ∙ ap not joins)
