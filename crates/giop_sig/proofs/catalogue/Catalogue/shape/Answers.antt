use Rattle.std.proofs.Common.{refl, subst}
use Rattle.giop_sig.specs.Trees.{tree_at}
use Rattle.giop_sig.specs.Types.{HasShape}
use Rattle.giop_sig.proofs.catalogue.Catalogue.shape.Goals as goal

pub returns-clause-shapes : goal.returns-clause-shapes
returns-clause-shapes c n =
    subst (λ t. HasShape (tree_at t n c.args.t.0) c.shape.result) (c.seen.ensures.own refl)
    (c.shape.ensures.shapes n)
