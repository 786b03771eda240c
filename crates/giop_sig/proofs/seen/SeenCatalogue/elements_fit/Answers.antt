use Rattle.std.proofs.Common.{◌∙◌}
use Rattle.giop_sig.proofs.Tables.{fits_entered, others_fit}
use Rattle.giop_sig.proofs.seen.SeenCatalogue.elements_fit.Goals as goal

pub returns-in-Recursive : goal.returns-in-Recursive
returns-in-Recursive c =
    c.can_be_value.ensures
    ∙ fits_entered c.args.self.now c.args.t.0 c.args.room c.entry.result.now
    c.in-Recursive.field-0 c.in-Recursive.element c.entry.ensures.node c.in-Recursive.is

pub returns-in_default : goal.returns-in_default
returns-in_default c =
    others_fit c.args.self.now c.args.t.0 c.args.room c.entry.result.now c.entry.ensures.node
    c.in_default.not-Recursive
