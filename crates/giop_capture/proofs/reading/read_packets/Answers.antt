-- Each result of reading a capture, from the reads before it.
use Rattle.std.proofs.Common.{◌+◌, ◌++◌, arith}
use Rattle.std.proofs.lemmas.Result.{err_from_is_err_and}
use Rattle.giop_capture.specs.Packets.{capture_packets}
use Rattle.giop_capture.proofs.ReadingOn.{one_more_read, all_after, end_after, longer, failed_after}
use Rattle.giop_capture.proofs.reading.read_packets.Goals as goal

pub returns-in_err-read_once-clause-ran : goal.returns-in_err-read_once-clause-ran
returns-in_err-read_once-clause-ran g c =
    λ start taken.
    let so_far = c.loop-turn.invariant.all start taken in
    let flushed = c.in_ok-flush.ensures.flushed start (capture_packets so_far.0)
    so_far.1.handed.taken in
    let once = c.in_err-read_once.ensures.does start so_far.0 so_far.1.handed.reads flushed in
    let r = err_from_is_err_and c.from_residual-in_err-read_once.result
    c.from_residual-in_err-read_once.ensures.1 in (
      so_far.0 ++ once.0,
      rw (r.1, r.2) (failed_after c.in_err-read_once.field-0.0 _ _ _ _ so_far.0
          once.0 _ _ _ so_far.1 once.1),
    )

pub returns-in_err-read_once-clause-reads : goal.returns-in_err-read_once-clause-reads
returns-in_err-read_once-clause-reads g c =
    one_more_read _ _ _ _ _ c.loop-turn.invariant.reads c.in_err-read_once.ensures.reads
    (omega (arith, c.loop-turn-test.true))

pub returns-then-not-branch-clause-ran : goal.returns-then-not-branch-clause-ran
returns-then-not-branch-clause-ran g c =
    λ start taken.
    let so_far = c.loop-turn.invariant.all start taken in
    let flushed = c.in_ok-flush.ensures.flushed start (capture_packets so_far.0)
    so_far.1.handed.taken in
    let once = c.in_ok-read_once.ensures.does start so_far.0 so_far.1.handed.reads flushed in (
      so_far.0 ++ once.0,
      end_after _ _ _ _ so_far.0 once.0 _ _ _ so_far.1
          (rw c.if-not-branch.true at once.1),
    )

pub returns-then-not-branch-clause-reads : goal.returns-then-not-branch-clause-reads
returns-then-not-branch-clause-reads g c =
    one_more_read _ _ _ _ _ c.loop-turn.invariant.reads c.in_ok-read_once.ensures.reads
    (omega (arith, c.loop-turn-test.true))

pub loop-turn-preserved : goal.loop-turn-preserved
loop-turn-preserved g c =
    record {
      all = λ start taken.
          let so_far = c.loop-turn.invariant.all start taken in
          let flushed = c.in_ok-flush.ensures.flushed start (capture_packets so_far.0)
          so_far.1.handed.taken in
          let once = c.in_ok-read_once.ensures.does start so_far.0 so_far.1.handed.reads flushed in
          let more = rw c.if-not-branch.false at once.1 in (
            so_far.0 ++ once.0,
            all_after _ _ _ _ so_far.0 once.0 _ _ _ so_far.1 more.0,
            longer so_far.0 once.0 c.loop-turn._turn so_far.2 more.1,
          );
      count = let more = c.in_ok-read_once.ensures.count in let below =
          c.loop-turn.invariant.count in omega arith;
      reads = one_more_read _ _ _ _ (c.loop-turn._turn + 1) c.loop-turn.invariant.reads
          c.in_ok-read_once.ensures.reads (omega arith);
    }
