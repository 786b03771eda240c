use Rattle.std.proofs.Common.{Err, sym, ap, ◌∙◌}
use Rattle.std.proofs.lemmas.Result.{err_from_is_err_and}
use Rattle.giop_sig.specs.FileReading.{declarations_step, misplaced_after}
use Rattle.giop_sig.proofs.RepeatLaws.{goes_on, ends, fails, limited}
use Rattle.giop_sig.proofs.parse.declarations.Goals as goal

pub returns-in_err-over : goal.returns-in_err-over
returns-in_err-over c =
    let p = err_from_is_err_and c.from_residual.result c.from_residual.ensures.1 in
    rw (p.1, p.2) (fails declarations_step misplaced_after c.args.steps c.loop.counter
    (c.loop.draft, c.loop.lefts.items, c.loop.rest.now) _ c.loop.invariant c.loop-test.true
    c.in_err-over.field-0.0
    c.in_err-over.ensures)

pub returns-then-over : goal.returns-then-over
returns-then-over c =
    ends declarations_step misplaced_after c.args.steps c.loop.counter
    (c.loop.draft, c.loop.lefts.items, c.loop.rest.now) _ c.loop.invariant c.loop-test.true _
    c.in_ok-over.ensures
    c.if-over.true

pub loop-preserved : goal.loop-preserved
loop-preserved c =
    goes_on declarations_step misplaced_after c.args.steps c.loop.counter
    (c.loop.draft, c.loop.lefts.items, c.loop.rest.now) _ c.loop.invariant c.loop-test.true _
    c.in_ok-over.ensures
    c.if-over.false

pub returns : goal.returns
returns c =
    limited declarations_step misplaced_after c.args.steps c.loop.counter
    (c.loop.draft, c.loop.lefts.items, c.loop.rest.now) _ c.loop.invariant c.loop-test.false
    ∙ ap Err (sym c.misplaced.ensures)
