use Rattle.std.proofs.Common.{true, refl}
use Rattle.giop_stream.specs.Events.{message_key}
use Rattle.giop_stream.proofs.SlotSteps.AtRequestId.{refused_one, refused_mixes, mixing_does, named_calm, opener_placed}
use Rattle.giop_stream.proofs.SlotSteps.SlotLists.{room_then}
use Rattle.giop_stream.proofs.dispatch.refuse_opening.Goals as goal

pub returns-in-Some-clause-does : goal.returns-in-Some-clause-does
returns-in-Some-clause-does g c =
    λ C l c' m h f e.
    rw (refused_one C l c.args.slots.now c' m c.args.now c.args.id h f c.args.fault e)
    (c.fault_message.ensures.does C l c' _ h.keeps h.current.number h.rising
    (named_calm C l c.args.slots.now c' m c.args.now c.args.id h (opener_placed m.header f) _
    c.in-Some.is c.args.fault))

pub returns-in-None-clause-does : goal.returns-in-None-clause-does
returns-in-None-clause-does g c =
    λ C l c' m h f e.
    let mixed = refused_mixes C l c.args.slots.now c' m c.args.now c.args.id h f c.in-None.is
    c.args.fault e in
    rw (refused_one C l c.args.slots.now c' m c.args.now c.args.id h f c.args.fault e)
    (mixing_does C l c.fault_message-in-None.result _ _ _ c' c.args.now.place (message_key m)
    c.args.fault _ mixed (c.fault_message-in-None.ensures.does C l (record c' { mixed = true }) _
    (c.stop_joining_1_1.ensures.kept C l c' _ h.keeps) h.current.number h.rising refl))

pub returns-in-None-clause-room : goal.returns-in-None-clause-room
returns-in-None-clause-room g c =
    room_then c.stop_joining_1_1.ensures.room c.fault_message-in-None.ensures.room
