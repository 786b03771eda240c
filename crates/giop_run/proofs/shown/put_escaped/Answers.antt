use Rattle.std.proofs.Common.{arith}
use Rattle.std.proofs.lemmas.Grind.{common_steps}
use Rattle.giop_run.proofs.shown.put_escaped.Goals as goal

pub returns : goal.returns
returns g c = λ plain ok. grind (arith, common_steps)
