use Rattle.std.proofs.Common.{refl}
use Rattle.giop_stream.proofs.SlotSteps.Performing.{does_nothing, performs_on}
use Rattle.giop_stream.proofs.SlotSteps.Ending.{own_short, ends_short, ends_followed, ends_closed}
use Rattle.giop_stream.specs.declared.fault.FramingFault.TheVariants.{Short}
use Rattle.giop_stream.proofs.SlotSteps.OneSlotChanges.{calm_fault}
use Rattle.giop_stream.proofs.SlotSteps.SlotLists.{room_then}
use Rattle.giop_stream.proofs.dispatch.at_message_end.Goals as goal

pub returns-then-is_too_short_for_id-clause-does : goal.returns-then-is_too_short_for_id-clause-does
returns-then-is_too_short_for_id-clause-does g c =
    λ l c' m h last.
    let C = c.args.catalogue.now in
    let keeps = rw (own_short c.args.catalogue.now l c.args.slots.now c' m c.args.now h
    c.if-is_too_short_for_id.ensures last) at h.keeps in
    rw (ends_short c.args.catalogue.now l c.args.slots.now c' m c.args.now h
    c.if-is_too_short_for_id.ensures)
    (performs_on c.fault_message-faulted.result _ _ refl
    (λ k. c.set_no_owner.ensures.kept C l _ _ k)
    (c.fault_message-faulted.ensures.does C l c' _ keeps h.current.number h.rising
    (calm_fault c' c.args.now.place _ Short refl)))

pub returns-then-is_too_short_for_id-clause-room : goal.returns-then-is_too_short_for_id-clause-room
returns-then-is_too_short_for_id-clause-room g c =
    room_then c.fault_message-faulted.ensures.room c.set_no_owner.ensures.room

pub returns-then-is_continued-clause-does : goal.returns-then-is_continued-clause-does
returns-then-is_continued-clause-does g c =
    λ l c' m h last.
    rw (ends_followed c.args.catalogue.now l c.args.slots.now c' m c.args.now h
    c.if-is_too_short_for_id.ensures c.if-is_continued.ensures)
    (does_nothing _ _ refl (c.set_no_owner-then-is_continued.ensures.kept c.args.catalogue.now l _ _
    h.keeps))

pub returns-clause-does : goal.returns-clause-does
returns-clause-does g c =
    λ l c' m h last.
    rw (ends_closed c.args.catalogue.now l c.args.slots.now c' m c.args.now h
    c.if-is_too_short_for_id.ensures
    c.if-is_continued.ensures last)
    (c.close.ensures.does l c' _ h.keeps h.rising)
