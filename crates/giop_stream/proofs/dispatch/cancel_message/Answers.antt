use Rattle.std.proofs.Common.{Some, sym, ◌∙◌}
use Rattle.giop_stream.proofs.SlotSteps.AtRequestId.{cancels_open, finds, misses, cancel_placed}
use Rattle.giop_stream.proofs.dispatch.cancel_message.Goals as goal

pub returns-in-Some-clause-does : goal.returns-in-Some-clause-does
returns-in-Some-clause-does g c =
    λ C l c' m h f o b.
    let found = finds C l c.args.slots.now c' m c.args.now (Some c.args.id) h
    (cancel_placed m.header b) c.in-Some.k (sym c.find.ensures.value ∙ c.in-Some.is) in
    rw (cancels_open C l c.args.slots.now c' m c.args.now (Some c.args.id) h f o b found.o found.is)
    (c.cancel_at.ensures.does C l c' m (Some c.args.id) found.o h b found.here)

pub returns-in-None-clause-does : goal.returns-in-None-clause-does
returns-in-None-clause-does g c =
    λ C l c' m h f o b.
    c.cancel_pending.ensures.does C l c' m h f o b
    (misses C l c.args.slots.now c' m c.args.now (Some c.args.id) h (cancel_placed m.header b)
    (sym c.find.ensures.value ∙ c.in-None.is))
