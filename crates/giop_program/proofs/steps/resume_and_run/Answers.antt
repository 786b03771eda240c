use Rattle.std.proofs.Common.{refl}
use Rattle.giop_program.specs.Words.{asked_of}
use Rattle.giop_program.proofs.BeginLemmas.{begun_dumped}
use Rattle.giop_program.proofs.steps.resume_and_run.Goals as goal

pub returns-in-None-clause-dumped : goal.returns-in-None-clause-dumped
returns-in-None-clause-dumped g c =
    let e = c.in_ok-engine.ensures in
    begun_dumped _ (asked_of c.args.asked) _ _ c.in_ok-engine.engine _ _
    (g.R.Inputs.given c.args.rt.now) _ _ _
    e.table e.request_table c.ending_by_save-ending.ensures (rw c.in-None.is refl)
    e.ok (c.run_on_source.ensures.dumped _ c.standard_input.ensures)

pub returns-in-Some-clause-dumped : goal.returns-in-Some-clause-dumped
returns-in-Some-clause-dumped g c =
    let e = c.in_ok-engine.ensures in
    begun_dumped _ (asked_of c.args.asked) _ _ c.in_ok-engine.engine _ _
    (g.R.Inputs.given c.args.rt.now) _ _ _
    e.table e.request_table c.ending_by_save-ending.ensures (rw c.in-Some.is refl) e.ok
    c.open_and_run.ensures.dumped
