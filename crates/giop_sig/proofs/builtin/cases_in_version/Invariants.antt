use Rattle.std.proofs.Common.{◌≡◌, map, take}
use Rattle.giop_sig.specs.Builtin.{number_in_version, renumbered_case}
use Rattle.giop_sig.specs.UnionCases.{case_view}
use Rattle.giop_sig.specs.Literals.{literal_case}
use Rattle.giop_sig.proofs.builtin.cases_in_version.Given as goal

abbrev pub invariant-loop-case : goal.invariant-loop-case
invariant-loop-case l = map case_view l.all.items
    ≡ map (renumbered_case (number_in_version l.version))
    (map literal_case (take l.case-index l.cases))
