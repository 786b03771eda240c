use Rattle.std.proofs.Common.{arith, refl, rules}
use Rattle.std.proofs.lemmas.Grind.{common_steps}
use Rattle.giop_run.specs.CommandLine.{escaped_with_stand_ins}
use Rattle.giop_run.proofs.shown.EscapingWrite.write_str.Goals as goal

pub loop-octet-init : goal.loop-octet-init
unfolding escaped_with_stand_ins
loop-octet-init g c = (λ plain. search rules, refl)

pub loop-octet-preserved : goal.loop-octet-preserved
unfolding escaped_with_stand_ins
loop-octet-preserved g c = (λ plain. grind (arith, common_steps), search rules)
