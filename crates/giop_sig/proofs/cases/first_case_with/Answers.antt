use Rattle.std.proofs.Common.{rules, tests, sym, ◌∙◌}
use Rattle.std.specs.List.{list_any}
use Rattle.std.proofs.lemmas.Iterator.{YieldsList-from_slice}
use Rattle.std.proofs.lemmas.Iterator.Search.{position_from_yields_List}
use Rattle.giop_sig.specs.Table.{same_number}
use Rattle.giop_sig.specs.UnionCases.{case_view}
use Rattle.giop_sig.proofs.Finds.{position-map}
use Rattle.giop_sig.proofs.cases.first_case_with.Goals as goal

pub returns : goal.returns
returns c =
    let k = position_from_yields_List (λ e.
    list_any (λ label. same_number label c.args.number) e.labels.items) _ _ c.position.result
    c.position.ensures.ran
    (YieldsList-from_slice c.args.cases.now cc) (λ x b q k. search (rules, tests)) in
    k ∙ sym (position-map (λ e. list_any (λ label. same_number label c.args.number) e.labels)
    case_view c.args.cases.now)
