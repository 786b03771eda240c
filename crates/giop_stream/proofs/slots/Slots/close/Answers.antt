use Rattle.std.proofs.Common.{None, refl}
use Rattle.giop_stream.proofs.SlotSteps.Performing.{does_nothing}
use Rattle.giop_stream.proofs.SlotSteps.ReadingEffects.{no_lines}
use Rattle.giop_stream.proofs.SlotSteps.EventsOnSlots.{own_closes}
use Rattle.giop_stream.proofs.slots.Slots.close.Goals as goal

pub returns-else-is_over-clause-does : goal.returns-else-is_over-clause-does
returns-else-is_over-clause-does g c =
    λ l c' owner_of_next h rising.
    own_closes c.args.catalogue.now l c.close_message.result _ _ c.args.place
    c.args.self.now _ c.in-Current.message c' owner_of_next
    (refl, refl) (rw (c.in-Current.is, c.if-is_over.false) (refl, refl)) h
    (λ w o k. c.close_message.ensures l w o k)

pub returns-then-is_over-clause-does : goal.returns-then-is_over-clause-does
returns-then-is_over-clause-does g c =
    λ l c' owner_of_next h rising.
    own_closes c.args.catalogue.now l _ _ _ c.args.place c.args.self.now _ None c' owner_of_next
    (refl, rw c.if-is_over.true refl) (rw (c.in-Current.is, c.if-is_over.true) (refl, refl)) h
    (λ w o k. rw (no_lines c.args.catalogue.now l w o _ k) (does_nothing _ _ refl tt))
