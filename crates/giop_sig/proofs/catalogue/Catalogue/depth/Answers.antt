use Rattle.std.proofs.Common.{◌≤◌, sym, subst}
use Rattle.giop_sig.proofs.Builtins.{least_depth}
use Rattle.giop_sig.proofs.catalogue.Catalogue.depth.Goals as goal

pub returns-clause-least : goal.returns-clause-least
returns-clause-least c = subst (λ n. 9 ≤ n) (sym c.deepest.ensures)
    (least_depth _ c.self.invariant)
