use Rattle.std.proofs.Common.{Err, sym, ap, ◌∙◌}
use Rattle.std.proofs.lemmas.Result.{err_from_is_err_and}
use Rattle.giop_sig.specs.Table.{node_at}
use Rattle.giop_sig.specs.Scopes.{is_version_3}
use Rattle.giop_sig.specs.UnionReading.{labels_step, too_many_labels}
use Rattle.giop_sig.proofs.RepeatLaws.{goes_on, ends, fails, limited}
use Rattle.giop_sig.proofs.read_unions.labels_while_any.Goals as goal

pub returns-in_err-closed : goal.returns-in_err-closed
returns-in_err-closed c =
    let p = err_from_is_err_and c.from_residual.result c.from_residual.ensures.1 in
    rw (p.1, p.2) (fails (labels_step (is_version_3 c.args.draft.now.names)
    (node_at c.args.draft.now.table c.args.switch.0))
    too_many_labels 1025 c.loop.counter
    (c.loop.seen.items, c.loop.own.items, c.loop.default, c.loop.rest.now) _ c.loop.invariant
    c.loop-test.true
    c.in_err-closed.field-0.0 c.in_err-closed.ensures)

pub returns-then-closed : goal.returns-then-closed
returns-then-closed c =
    ends (labels_step (is_version_3 c.args.draft.now.names)
    (node_at c.args.draft.now.table c.args.switch.0)) too_many_labels 1025
    c.loop.counter
    (c.loop.seen.items, c.loop.own.items, c.loop.default, c.loop.rest.now) _ c.loop.invariant
    c.loop-test.true _ c.in_ok-closed.ensures c.if-closed.true

pub loop-preserved : goal.loop-preserved
loop-preserved c =
    goes_on (labels_step (is_version_3 c.args.draft.now.names)
    (node_at c.args.draft.now.table c.args.switch.0)) too_many_labels 1025
    c.loop.counter
    (c.loop.seen.items, c.loop.own.items, c.loop.default, c.loop.rest.now) _ c.loop.invariant
    c.loop-test.true _ c.in_ok-closed.ensures c.if-closed.false

pub returns : goal.returns
returns c =
    limited (labels_step (is_version_3 c.args.draft.now.names)
    (node_at c.args.draft.now.table c.args.switch.0)) too_many_labels 1025
    c.loop.counter
    (c.loop.seen.items, c.loop.own.items, c.loop.default, c.loop.rest.now) _ c.loop.invariant
    c.loop-test.false ∙ ap Err (sym c.refused.ensures)
