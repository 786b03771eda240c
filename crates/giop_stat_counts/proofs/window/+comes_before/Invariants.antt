use Rattle.std.proofs.Common.{length}
use Rattle.giop_stat_counts.proofs.window.+comes_before.Given as goal

abbrev pub decreases-comes_before : goal.decreases-comes_before
decreases-comes_before l = length l.text.now
