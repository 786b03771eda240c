use Rattle.std.proofs.Common.{ap, ◌∙◌}
use Rattle.giop_sig.specs.Table.{Table}
use Rattle.giop_sig.proofs.FrontLaws.{none_found, number_found}
use Rattle.giop_sig.proofs.catalogue.Catalogue.front_number.Goals as goal

pub returns-in_err-number : goal.returns-in_err-number
returns-in_err-number c =
    c.from_residual.ensures
    ∙ none_found c.self.inside.fronts.keys c.args.self.now.fronts c.args.front.now.items
    (ap (λ (t : Table). t.fronts) c.self.view_is) c.in_err-number.ensures.index

pub returns : goal.returns
returns c =
    number_found c.self.inside.fronts.keys c.args.self.now.fronts c.args.front.now.items
    c.in_ok-number.number (ap (λ (t : Table). t.fronts) c.self.view_is) c.in_ok-number.ensures.index
