-- A run is the feed of all that its source gave, and then its close.
use Rattle.std.proofs.lemmas.Result.{err_from_is_err_and}
use Rattle.std.proofs.Common.{◌++◌}
use Rattle.giop_run.proofs.TurnLemmas.{ran_failed, ran_closed}
use Rattle.giop_run.proofs.running.run_with_flushes.Goals as goal

pub returns-in_err-feed_whole_source-clause-ran : goal.returns-in_err-feed_whole_source-clause-ran
returns-in_err-feed_whole_source-clause-ran g c =
    λ p h.
    let s = c.in_err-feed_whole_source.ensures.fed p h in
    let r = err_from_is_err_and c.from_residual.result c.from_residual.ensures.1 in
    (s.0, rw (r.1, r.2) (ran_failed _ c.in_err-feed_whole_source.field-0.0 p s.0 _ _ _ _ s.1))

pub returns-clause-ran : goal.returns-clause-ran
returns-clause-ran g c =
    λ p h.
    let s = c.in_ok-feed_whole_source.ensures.fed p h in (
      s.0,
      ran_closed _ c.end_run.result p s.0 _ _ _ _ _ _ s.1 c.in_ok-feed_whole_source.ensures.same
          (c.end_run.ensures.closed (p ++ s.0) s.1.fed.holds),
    )
