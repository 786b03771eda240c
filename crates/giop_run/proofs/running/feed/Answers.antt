-- What the engine's clauses give for a piece, result by result.
use Rattle.std.proofs.Common.{refl, ◌++◌, sym, ◌∙◌}
use Rattle.giop_stream.specs.EngineHolds.{added}
use Rattle.giop_run.proofs.TextLemmas.{is_running, is_stopped}
use Rattle.giop_run.proofs.running.feed.Goals as goal

pub returns-in-Ok-Running-clause-fed : goal.returns-in-Ok-Running-clause-fed
unfolding added
returns-in-Ok-Running-clause-fed g c =
    λ p h.
    let e = c.in-Ok-Running.ensures in (
      record {
        reads = rw (e.same.0, e.same.1, e.most) refl;
        holds = e.held p h;
        written =
            e.text p h;
      },
      is_running (p ++ c.args.piece.now) (sym c.in-Ok-Running.field-0-is ∙ e.status p h),
    )

pub returns-in-Ok-Stopped-clause-fed : goal.returns-in-Ok-Stopped-clause-fed
unfolding added
returns-in-Ok-Stopped-clause-fed g c =
    λ p h.
    let e = c.in-Ok-Stopped.ensures in (
      record {
        reads = rw (e.same.0, e.same.1, e.most) refl;
        holds = e.held p h;
        written =
            e.text p h;
      },
      is_stopped (p ++ c.args.piece.now) c.in-Ok-Stopped.field-0-0
          (sym c.in-Ok-Stopped.field-0-is ∙ e.status p h),
    )

pub returns-in-Err-Out-clause-fed : goal.returns-in-Err-Out-clause-fed
unfolding added
returns-in-Err-Out-clause-fed g c = λ p h.
    rw c.in-Err-Out.field-0-is at (c.in-Err-Out.ensures.text p h)
