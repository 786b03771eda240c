use Rattle.std.proofs.Common.{refl}
use Rattle.giop_stream.proofs.SlotSteps.Performing.{performs_on}
use Rattle.giop_stream.proofs.SlotSteps.AtRequestId.{unknown, unknown_calm}
use Rattle.giop_stream.proofs.SlotSteps.SlotLists.{room_then}
use Rattle.giop_stream.proofs.dispatch.fault_unmatched_fragment.Goals as goal

pub returns-clause-does : goal.returns-clause-does
returns-clause-does g c =
    λ C l c' m i h f e.
    rw (unknown C l c.args.slots.now c' m c.args.now i h f e c.no_open_fault-fault.result
    c.no_open_fault-fault.ensures)
    (performs_on c.fault_message-faulted.result _ _ refl
    (λ k. c.set_no_owner.ensures.kept C l _ _ k)
    (c.fault_message-faulted.ensures.does C l c' _ h.keeps h.current.number h.rising
    (unknown_calm C l c.args.slots.now c' m c.args.now i h f c.no_open_fault-fault.result)))

pub returns-clause-room : goal.returns-clause-room
returns-clause-room g c = room_then c.fault_message-faulted.ensures.room c.set_no_owner.ensures.room
