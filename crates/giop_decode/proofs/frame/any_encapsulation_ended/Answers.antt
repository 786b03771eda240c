use Rattle.std.proofs.Common.{sym, ◌∙◌}
use Rattle.giop_decode.proofs.Surrounding.{free_ended}
use Rattle.giop_decode.proofs.frame.any_encapsulation_ended.Goals as goal

pub returns-in-Nothing : goal.returns-in-Nothing
returns-in-Nothing c = sym (free_ended c.args.outer.now (sym c.requires ∙ c.in-Nothing.is))
