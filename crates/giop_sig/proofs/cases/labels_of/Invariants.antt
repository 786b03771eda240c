use Rattle.std.proofs.Common.{map, take}
use Rattle.giop_sig.specs.UnionCases.{case_view, AreLabels}
use Rattle.giop_sig.proofs.cases.labels_of.Given as goal

abbrev pub invariant-loop-index : goal.invariant-loop-index
invariant-loop-index l = AreLabels (map case_view (take l.index l.cases)) l.labels.items
