use Rattle.std.proofs.Common.{◌≡◌, ◌++◌, map, take}
use Rattle.giop_sig.specs.UnionCases.{placed_label}
use Rattle.giop_sig.proofs.cases.add_labels.Given as goal

abbrev pub invariant-loop-number : goal.invariant-loop-number
invariant-loop-number l =
    l.labels.items ≡ l.fn.labels.items ++ map (placed_label l.index) (take l.number-index l.numbers)
