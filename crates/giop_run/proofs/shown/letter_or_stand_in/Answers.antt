use Rattle.std.proofs.Common.{arith}
use Rattle.std.proofs.lemmas.Grind.{common_steps}
use lib.Utf8.{encode}
use Rattle.giop_run.proofs.shown.letter_or_stand_in.Goals as goal

pub returns-else-letter-eq10 : goal.returns-else-letter-eq10
unfolding encode
returns-else-letter-eq10 c = grind (arith, common_steps)
