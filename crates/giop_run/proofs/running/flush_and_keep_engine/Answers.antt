-- What the flush says about the end of a run.
use Rattle.std.proofs.lemmas.Result.{err_from_is_err_and}
use Rattle.giop_run.proofs.TurnLemmas.{closed_kept, closed_unkept}
use Rattle.giop_run.proofs.running.flush_and_keep_engine.Goals as goal

pub returns-in_err-flush-clause-closed : goal.returns-in_err-flush-clause-closed
returns-in_err-flush-clause-closed g c =
    λ p h.
    let r = err_from_is_err_and c.from_residual.result c.from_residual.ensures.1 in
    rw (r.1, r.2, c.in_err-flush.ensures.cause)
    (closed_unkept c.args.engine p _ _ c.in_err-flush.ensures.flushed)

pub returns-clause-closed : goal.returns-clause-closed
returns-clause-closed g c =
    λ p h. rw c.totals-totals.ensures.value
    (closed_kept c.args.engine p _ _ _ h c.in_ok-flush.ensures.flushed)
