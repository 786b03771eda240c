-- The streams close after the capture's fault.
use Rattle.giop_capture.specs.Arrivals.{with_fault}
use Rattle.giop_capture.proofs.ending.end_capture.Goals as goal

pub returns-clause-ended : goal.returns-clause-ended
returns-clause-ended g c =
    λ p w reads h.
    let same = c.finish-fault.ensures p reads in
    let told = c.in_ok-tell_fault.ensures.does w h in
    (same, rw (← same) (c.in_ok-end.ensures.does (with_fault w c.finish-fault.result) told))
