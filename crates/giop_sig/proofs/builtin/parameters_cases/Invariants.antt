use Rattle.std.proofs.Common.{◌≡◌, map, take}
use Rattle.giop_sig.specs.UnionCases.{case_view}
use Rattle.giop_sig.specs.Literals.{literal_parameters}
use Rattle.giop_sig.proofs.builtin.parameters_cases.Given as goal

abbrev pub invariant-loop-parameters : goal.invariant-loop-parameters
invariant-loop-parameters l =
    map case_view l.cases.items ≡ map literal_parameters (take l.parameters-index l.all)
