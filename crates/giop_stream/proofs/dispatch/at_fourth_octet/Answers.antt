use Rattle.std.proofs.Common.{refl, sym}
use Rattle.giop_stream.proofs.SlotSteps.Performing.{does_nothing}
use Rattle.giop_stream.proofs.SlotSteps.AfterOctet.{id_here, no_id, named_here, owner_then, owner_still}
use Rattle.giop_stream.proofs.dispatch.at_fourth_octet.Goals as goal

pub returns-then-ends_request_id-clause-does : goal.returns-then-ends_request_id-clause-does
returns-then-ends_request_id-clause-does g c =
    λ C l c' m h some.
    let at = sym c.if-ends_request_id.ensures in
    rw (
      id_here C l c.args.slots.now c' m c.args.now h at,
      owner_then C l c.args.slots.now c' m c.args.now h at,
    )
    (c.at_request_id.ensures.does C l c' m (named_here C l c.args.slots.now c' m c.args.now h
    c.request_id-id.result
    (c.request_id-id.ensures C l) at))

pub returns-clause-does : goal.returns-clause-does
returns-clause-does g c =
    λ C l c' m h some.
    let other = sym c.if-ends_request_id.ensures in
    rw (
      no_id C l c.args.slots.now c' m c.args.now h other some,
      owner_still C l c.args.slots.now c' m c.args.now h other some,
    ) (does_nothing _ _ refl h.keeps)
