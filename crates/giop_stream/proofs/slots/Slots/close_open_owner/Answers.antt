use Rattle.std.proofs.Common.{None, refl, ap, sym, ◌∙◌}
use Rattle.giop_stream.specs.SlotsRepresent.{index_of}
use Rattle.giop_stream.proofs.SlotSteps.Performing.{does_nothing}
use Rattle.giop_stream.proofs.SlotSteps.ReadingEffects.{no_lines}
use Rattle.giop_stream.proofs.SlotSteps.EventsOnSlots.{own_closes, slot_closes, no_slot_says}
use Rattle.giop_stream.proofs.SlotSteps.SlotLists.{entry_there, none_beyond, ready_at, some_within}
use Rattle.giop_stream.proofs.slots.Slots.close_open_owner.Goals as goal

pub returns-in-None-clause-does : goal.returns-in-None-clause-does
returns-in-None-clause-does g c =
    λ l c' owner_of_next h rising.
    own_closes c.args.catalogue.now l _ _ _ c.args.place c.args.self.now _ None c' owner_of_next
    (c.in-None.ensures.after, refl) (rw c.in-Open.is (sym c.in-None.ensures.value, refl)) h
    (λ w o k. rw (no_lines c.args.catalogue.now l w o _ k) (does_nothing _ _ refl tt))

pub returns-in-Some-get-clause-does : goal.returns-in-Some-get-clause-does
returns-in-Some-get-clause-does g c =
    λ l c' owner_of_next h rising.
    let C = c.args.catalogue.now in
    let index = ap index_of c.in-Open.is ∙ sym c.in-Some.ensures.value in
    let there = entry_there c.args.self.now.slots.entries c.in-Some.k c.in-Some-get.slot.now
    (sym c.in-Some-get.ensures) in
    slot_closes C l c.close_message-closed.result _ _ c.args.place
    c.args.self.now _ there.0 c.remove.new.self c' owner_of_next c.in-Some.k
    (c.in-Some.ensures.after, refl) index there.1 c.remove.ensures.entries rising h
    (λ w k. c.close_message-closed.ensures l w (c'.known w.number) (rw there.2 at k))

pub remove-requires : goal.remove-requires
remove-requires g c = some_within c.args.self.now.slots.entries c.in-Some.k _ c.in-Some-get.ensures

pub close_message-closed-requires : goal.close_message-closed-requires
close_message-closed-requires g c = record {
  ready = ready_at c.args.catalogue.now _ c.args.self.now.slots.entries c.in-Some.k
      c.in-Some-get.slot.now (sym c.in-Some-get.ensures) c.requires.ready.each_ready;
}

pub returns-in-None-get-clause-does : goal.returns-in-None-get-clause-does
returns-in-None-get-clause-does g c =
    λ l c' owner_of_next h rising.
    let index = ap index_of c.in-Open.is ∙ sym c.in-Some.ensures.value in
    no_slot_says c.args.catalogue.now l c.args.self.now c' owner_of_next c.in-Some.k index
    (none_beyond _ _ c.in-None-get.ensures) h
