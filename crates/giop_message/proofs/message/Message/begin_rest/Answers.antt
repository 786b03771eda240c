use Rattle.std.proofs.Common.{◌+◌, length, ◌∙◌}
use Rattle.giop_message.proofs.Starting.{front_rests}
use Rattle.giop_message.proofs.message.Message.begin_rest.Goals as goal

pub returns-clause-arrives : goal.returns-clause-arrives
returns-clause-arrives c C answers phase number header s at before e =
    rw (c.new.ensures.offset, c.new.ensures.held) (before, e ∙ front_rests before (12 + length s))
