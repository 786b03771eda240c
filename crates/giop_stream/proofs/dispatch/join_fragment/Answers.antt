use Rattle.std.proofs.Common.{sym, ◌∙◌}
use Rattle.giop_stream.proofs.SlotSteps.AtRequestId.{finds, misses, fragment_placed}
use Rattle.giop_stream.proofs.SlotSteps.Continuing.{continuing}
use Rattle.giop_stream.proofs.dispatch.join_fragment.Goals as goal

pub returns-in-Some-clause-does : goal.returns-in-Some-clause-does
returns-in-Some-clause-does g c =
    λ C l c' m h f.
    let found = finds C l c.args.slots.now c' m c.args.now c.args.id h (fragment_placed m.header f)
    c.in-Some.k (sym c.find_under.ensures.value ∙ c.in-Some.is) in
    rw found.is (rw found.is at (c.continue_message.ensures.does C l c' _ m found.o
    (continuing C l c.args.slots.now c' m c.args.now c.args.id h f) f found.is found.here))

pub returns-in-None-clause-does : goal.returns-in-None-clause-does
returns-in-None-clause-does g c =
    λ C l c' m h f.
    let missed = misses C l c.args.slots.now c' m c.args.now c.args.id h
    (fragment_placed m.header f) (sym c.find_under.ensures.value ∙ c.in-None.is) in
    rw missed (rw missed at (c.fault_unmatched_fragment.ensures.does C l c' m c.args.id h f missed))
