use Rattle.giop_sig.proofs.CaseLabels.{FirstKeysRise}
use Rattle.giop_sig.proofs.cases.keys_rise.Given as goal

abbrev pub invariant-loop-index : goal.invariant-loop-index
invariant-loop-index l = FirstKeysRise l.labels l.index
