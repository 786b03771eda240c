-- What the finish, and the flush after it, say about the end of a run.
use Rattle.std.proofs.lemmas.Result.{err_from_is_err_and}
use Rattle.giop_run.proofs.TurnLemmas.{closed_flushed, closed_cut, closed_unfinished}
use Rattle.giop_run.proofs.running.finish_and_flush.Goals as goal

pub returns-in_err-totals-clause-closed : goal.returns-in_err-totals-clause-closed
returns-in_err-totals-clause-closed g c =
    λ p h.
    let r = err_from_is_err_and c.from_residual.result c.from_residual.ensures.1 in
    rw (r.1, r.2) (closed_unfinished c.args.engine c.in_err-totals.field-0.0 p _ _
    (c.in_err-totals.ensures.finished p h))

pub returns-in_err-flush-clause-closed : goal.returns-in_err-flush-clause-closed
returns-in_err-flush-clause-closed g c =
    λ p h.
    let r = err_from_is_err_and c.from_residual-in_err-flush.result
    c.from_residual-in_err-flush.ensures.1 in
    rw (r.1, r.2, c.in_err-flush.ensures.cause)
    (closed_cut c.args.engine c.in_ok-totals.totals p _ _ _
    (c.in_ok-totals.ensures.finished p h) c.in_err-flush.ensures.flushed)

pub returns-clause-closed : goal.returns-clause-closed
returns-clause-closed g c =
    λ p h. closed_flushed c.args.engine c.in_ok-totals.totals p _ _ _ _
    (c.in_ok-totals.ensures.finished p h) c.in_ok-flush.ensures.flushed
