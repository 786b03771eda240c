use Rattle.std.proofs.Common.{arith}
use Rattle.giop_stream.proofs.SlotSteps.ReadingEffects.{seam_keeps, seam_over}
use Rattle.giop_stream.proofs.open_message.seam_message.Goals as goal

pub returns-in-Some-clause-kept : goal.returns-in-Some-clause-kept
returns-in-Some-clause-kept c =
    λ C l w o place k. seam_keeps C l c.in-Some.m c.seam.new.self w o place (rw c.in-Some.is at k)
    (c.seam.ensures.follows C l)

pub returns-in_default-clause-kept : goal.returns-in_default-clause-kept
returns-in_default-clause-kept c =
    λ C l w o place k. rw c.in_default.is (seam_over C l w o place (rw c.in_default.is at k))

pub returns-in-Some-clause-ready : goal.returns-in-Some-clause-ready
returns-in-Some-clause-ready c =
    λ C n h.
    let ready = rw c.in-Some.is at h in
    (c.seam.ensures.fits C ready.0, omega (arith, ready.1, c.seam.ensures.reach))
