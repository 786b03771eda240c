-- Each outcome of feeding all that a source gives, from the reads and feeds before it.
use Rattle.std.proofs.Common.{◌+◌, [], ◌++◌, ◌∙◌, arith}
use Rattle.std.proofs.lemmas.Result.{err_from_is_err_and}
use Rattle.giop_run.proofs.TextLemmas.{adds_up}
use Rattle.giop_run.proofs.ReadLemmas.{one_more_read}
use Rattle.giop_run.proofs.TurnLemmas.{going_start, going_more, going_flushed, turn_unflushed, turn_failed, ran_turns, turn_over, over_first, failed_first}
use Rattle.giop_run.proofs.running.feed_whole_source.Goals as goal

pub returns-in_err-feed-clause-fed : goal.returns-in_err-feed-clause-fed
returns-in_err-feed-clause-fed g c =
    λ p h.
    let r = err_from_is_err_and c.from_residual.result c.from_residual.ensures.1 in (
      [],
      rw (r.1, r.2) (failed_first _ c.in_err-feed.field-0.0 p _ _ _ _
          (c.in_err-feed.ensures.fed p h)),
    )

pub returns-then-not-branch-clause-fed : goal.returns-then-not-branch-clause-fed
returns-then-not-branch-clause-fed g c =
    λ p h. ([], over_first _ p _ _ _ _ (rw c.if-not-branch.true at (c.in_ok-feed.ensures.fed p h)))

pub loop-turn-init : goal.loop-turn-init
loop-turn-init g c =
    record {
      going = λ p h. (
        [],
        going_start _ p _ _ _ _
            (rw c.if-not-branch.false at (c.in_ok-feed.ensures.fed p h)),
      );
      sound = c.in_ok-feed.ensures.leaves;
      same = c.in_ok-feed.ensures.same;
      reads = omega arith;
    }

pub returns-in_err-flush-clause-fed : goal.returns-in_err-flush-clause-fed
returns-in_err-flush-clause-fed g c =
    λ p h.
    let s = c.loop-turn.invariant.going p h in
    let r = err_from_is_err_and c.from_residual-in_err-flush.result
    c.from_residual-in_err-flush.ensures.1 in (
      s.0,
      rw (r.1, r.2, c.in_err-flush.ensures.cause)
          (turn_unflushed _ p s.0 _ c.loop-turn._turn _ _ _ _ _ s.1 c.in_err-flush.ensures.flushed
          (omega (arith, c.loop-turn-test.true))),
    )

pub returns-in_err-read_and_feed-clause-fed : goal.returns-in_err-read_and_feed-clause-fed
returns-in_err-read_and_feed-clause-fed g c =
    λ p h.
    let s = c.loop-turn.invariant.going p h in
    let f = going_flushed _ p s.0 _ c.loop-turn._turn _ _ _ _ _ _ s.1 c.in_ok-flush.ensures.flushed
    in
    let t = c.in_err-read_and_feed.ensures.fed (p ++ s.0) f.took.holds in
    let r = err_from_is_err_and c.from_residual-in_err-read_and_feed.result
    c.from_residual-in_err-read_and_feed.ensures.1 in (
      s.0 ++ t.0,
      rw (r.1, r.2) (turn_failed _ (adds_up c.args.engine.now)
          c.in_err-read_and_feed.field-0.0 p s.0 t.0 _ _ c.loop-turn._turn _ _ _ _ _ _ f t.1
          (omega (arith, c.loop-turn-test.true))),
    )

pub returns-then-not-branch-2-clause-fed : goal.returns-then-not-branch-2-clause-fed
returns-then-not-branch-2-clause-fed g c =
    λ p h.
    let s = c.loop-turn.invariant.going p h in
    let f = going_flushed _ p s.0 _ c.loop-turn._turn _ _ _ _ _ _ s.1 c.in_ok-flush.ensures.flushed
    in
    let t = c.in_ok-read_and_feed.ensures.fed (p ++ s.0) f.took.holds in (
      s.0 ++ t.0,
      turn_over _ (adds_up c.args.engine.now) p s.0 t.0 _ _ c.loop-turn._turn _ _ _ _ _ _
          f (rw c.if-not-branch-2.true at t.1) (omega (arith, c.loop-turn-test.true)),
    )

pub returns-then-not-branch-2-clause-same : goal.returns-then-not-branch-2-clause-same
returns-then-not-branch-2-clause-same g c =
    let same = c.in_ok-read_and_feed.ensures.same in
    let kept = c.loop-turn.invariant.same in
    (same.0 ∙ kept.0, same.1 ∙ kept.1, same.2 ∙ kept.2)

pub returns-in_err-read_and_feed-clause-reads : goal.returns-in_err-read_and_feed-clause-reads
returns-in_err-read_and_feed-clause-reads g c =
    one_more_read _ _ _ _ _ c.loop-turn.invariant.reads c.in_err-read_and_feed.ensures.reads
    (omega (arith, c.loop-turn-test.true))

pub returns-then-not-branch-2-clause-reads : goal.returns-then-not-branch-2-clause-reads
returns-then-not-branch-2-clause-reads g c =
    one_more_read _ _ _ _ _ c.loop-turn.invariant.reads c.in_ok-read_and_feed.ensures.reads
    (omega (arith, c.loop-turn-test.true))

pub loop-turn-preserved : goal.loop-turn-preserved
loop-turn-preserved g c =
    record {
      going = λ p h.
          let s = c.loop-turn.invariant.going p h in
          let f = going_flushed _ p s.0 _ c.loop-turn._turn _ _ _ _ _ _ s.1
          c.in_ok-flush.ensures.flushed in
          let t = c.in_ok-read_and_feed.ensures.fed (p ++ s.0) f.took.holds in (
            s.0 ++ t.0,
            going_more _ (adds_up c.args.engine.now) p s.0 t.0 _ _ c.loop-turn._turn _ _
                _ _ _ _ f (rw c.if-not-branch-2.false at t.1),
          );
      sound = c.in_ok-read_and_feed.ensures.leaves c.loop-turn.invariant.sound;
      same =
          let same = c.in_ok-read_and_feed.ensures.same in
          let kept = c.loop-turn.invariant.same in
          (same.0 ∙ kept.0, same.1 ∙ kept.1, same.2 ∙ kept.2);
      reads = one_more_read _ _ _ _ (c.loop-turn._turn + 1) c.loop-turn.invariant.reads
          c.in_ok-read_and_feed.ensures.reads (omega arith);
    }

pub returns-in_err-flush-2-clause-fed : goal.returns-in_err-flush-2-clause-fed
returns-in_err-flush-2-clause-fed g c =
    λ p h.
    let s = c.loop-turn.invariant.going p h in
    let r = err_from_is_err_and c.from_residual-in_err-flush-2.result
    c.from_residual-in_err-flush-2.ensures.1 in (
      s.0,
      rw (r.1, r.2, c.in_err-flush-2.ensures.cause)
          (turn_unflushed _ p s.0 _ c.loop-turn._turn _ _ _ _ _ s.1 c.in_err-flush-2.ensures.flushed
          (omega (arith, c.loop-turn-test, c.loop-turn.auto))),
    )

pub returns-clause-fed : goal.returns-clause-fed
returns-clause-fed g c =
    λ p h.
    let s = c.loop-turn.invariant.going p h in
    let f = going_flushed _ p s.0 _ c.loop-turn._turn _ _ _ _ _ _ s.1
    c.in_ok-flush-2.ensures.flushed in (
      s.0,
      ran_turns _ p s.0 _ c.loop-turn._turn _ _ _ _ f
          (omega (arith, c.loop-turn-test, c.loop-turn.auto)),
    )
