use Rattle.std.proofs.Common.{Err, length, sym, ap, ◌∙◌}
use Rattle.std.proofs.lemmas.Result.{err_from_is_err_and}
use Rattle.giop_sig.specs.TypeReading.{openers_step, too_many_openers}
use Rattle.giop_sig.proofs.RepeatLaws.{goes_on, ends, fails, limited}
use Rattle.giop_sig.proofs.read_types.openers_at.Goals as goal

pub returns-in_err-over : goal.returns-in_err-over
returns-in_err-over c =
    let p = err_from_is_err_and c.from_residual.result c.from_residual.ensures.1 in
    rw (p.1, p.2) (fails (openers_step c.args.draft.now) too_many_openers
    (length c.args.text.now) c.loop.counter (c.loop.openers.items, c.loop.rest.now) _
    c.loop.invariant c.loop-test.true
    c.in_err-over.field-0.0 c.in_err-over.ensures)

pub returns-then-over : goal.returns-then-over
returns-then-over c =
    ends (openers_step c.args.draft.now) too_many_openers (length c.args.text.now)
    c.loop.counter (c.loop.openers.items, c.loop.rest.now) _ c.loop.invariant
    c.loop-test.true _ c.in_ok-over.ensures
    c.if-over.true

pub loop-preserved : goal.loop-preserved
loop-preserved c =
    goes_on (openers_step c.args.draft.now) too_many_openers (length c.args.text.now)
    c.loop.counter (c.loop.openers.items, c.loop.rest.now) _ c.loop.invariant
    c.loop-test.true _ c.in_ok-over.ensures
    c.if-over.false

pub returns : goal.returns
returns c =
    limited (openers_step c.args.draft.now) too_many_openers (length c.args.text.now)
    c.loop.counter (c.loop.openers.items, c.loop.rest.now) _ c.loop.invariant
    c.loop-test.false
    ∙ ap Err (sym c.misplaced.ensures)
