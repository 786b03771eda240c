-- What the run did, and the save after it.
use Rattle.std.proofs.Common.{Ok, Err, refl, ap, ◌∙◌}
use Rattle.std.proofs.lemmas.Result.{err_from_is_err_and}
use Rattle.giop_run.specs.Performing.{task_of}
use Rattle.giop_program.proofs.PerformLemmas.{did_by, kept_ok}
use Rattle.giop_program.proofs.steps.run_and_save.Goals as goal

pub returns-in_err-report-clause-did : goal.returns-in_err-report-clause-did
returns-in_err-report-clause-did g c =
    let e = c.in_err-report.ensures in
    let r = err_from_is_err_and c.from_residual.result c.from_residual.ensures.1 in
    did_by (task_of _ _ _ _) _ _ (Err c.in_err-report.field-0.0) c.from_residual.result _ _ _ _
    c.requires.of c.requires.read
    e.dumped e.refused e.unwritten e.sound (r.1 ∙ ap Err r.2, refl)

pub returns-clause-did : goal.returns-clause-did
returns-clause-did g c =
    let r = c.in_ok-report.ensures in
    did_by (task_of _ _ _ _) _ _ (Ok c.in_ok-report.report) c.save_kept_engine.result _ _ _ _
    c.requires.of
    c.requires.read
    r.dumped r.refused r.unwritten r.sound c.save_kept_engine.ensures

pub returns-clause-flushed : goal.returns-clause-flushed
returns-clause-flushed g c = kept_ok _ (Ok c.in_ok-report.report) c.save_kept_engine.result _ _ _
    c.save_kept_engine.ensures
    c.in_ok-report.ensures.flushed
