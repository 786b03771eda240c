use Rattle.giop_program.proofs.BeginLemmas.{dumped_by}
use Rattle.giop_program.proofs.steps.run_on_source.Goals as goal

pub returns-in-Ok-clause-dumped : goal.returns-in-Ok-clause-dumped
returns-in-Ok-clause-dumped g c told is p h =
    let r = c.in-Ok.ensures.ran p h in
    dumped_by _ _ p r.0 _ _ _ _ _ is r.1
