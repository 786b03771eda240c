use Rattle.std.proofs.Common.{arith, rules}
use Rattle.std.proofs.lemmas.Grind.{common_steps}
use Rattle.giop_run.specs.CommandLine.{escaped}
use Rattle.giop_run.proofs.shown.ShownNameDisplay.fmt.Goals as goal

pub loop-octet-init : goal.loop-octet-init
unfolding escaped
loop-octet-init g c = λ plain. search rules

pub loop-octet-preserved : goal.loop-octet-preserved
unfolding escaped
loop-octet-preserved g c = λ plain. grind (arith, common_steps)
