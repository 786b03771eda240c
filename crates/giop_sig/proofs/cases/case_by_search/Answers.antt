use Rattle.std.proofs.Common.{sym, ◌∙◌, arith}
use Rattle.giop_cdr.specs.declared.number.Number.TheVariants as numbers
use Rattle.giop_sig.proofs.CaseLabels.{found, not_found}
use Rattle.giop_sig.proofs.cases.case_by_search.Goals.{else-at-labels-via-then-at-labels+else-is_same, else-at-labels-via-else-at-labels}
use Rattle.giop_sig.proofs.cases.case_by_search.Goals as goal

pub returns-then-is_same : goal.returns-then-is_same
returns-then-is_same c = λ cases is.
    found cases c.args.labels.now c.first_not_below-at.result c.args.number _ is c.requires
    c.if-at-labels.true (sym c.is_same.ensures ∙ c.if-is_same.true)

pub returns-else-at-labels : goal.returns-else-at-labels
returns-else-at-labels c = λ cases is.
    let ls = c.args.labels.now in
    let at = c.first_not_below-at.result in
    let none = not_found cases ls at c.args.number
    (record { number = numbers.Unsigned 0; index = 0 }) is c.requires
    (λ i d lt. omega (arith, c.first_not_below-at.ensures.below i d lt, c.sort_key_of.ensures))
    (λ i d le lt. omega (
      arith,
      c.first_not_below-at.ensures.above i d le lt,
      c.sort_key_of.ensures,
    )) in
    elim c.else-at-labels.branch [
      | else-at-labels-via-then-at-labels+else-is_same w ↦ none
          (λ lt. sym w.is_same.ensures ∙ w.if-is_same.false)
      | else-at-labels-via-else-at-labels w ↦ none
          (λ lt. absurd (omega (arith, w.if-at-labels.false)))
    ]
