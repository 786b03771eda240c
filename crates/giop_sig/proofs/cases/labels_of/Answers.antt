use Rattle.std.proofs.Common.{◌++◌, map, ap, ◌∙◌, arith}
use Rattle.giop_sig.specs.UnionCases.{placed_label}
use Rattle.giop_sig.proofs.CaseLabels.{labels_step}
use Rattle.giop_sig.proofs.cases.labels_of.Goals as goal

pub loop-index-preserved : goal.loop-index-preserved
loop-index-preserved c =
    labels_step c.args.cases.now c.loop-index.index c.index-cases-index.result
    c.loop-index.labels.items c.add_labels.new.labels.items
    (omega arith) c.loop-index.invariant
    (c.in_ok-add_labels.ensures ∙ ap (λ ns. c.loop-index.labels.items
    ++ map (placed_label c.loop-index.index) ns) c.deref.ensures.value)
