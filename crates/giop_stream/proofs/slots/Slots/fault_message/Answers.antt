use Rattle.std.proofs.Common.{Some, None, refl, ap, sym, ◌∙◌}
use Rattle.giop_stream.specs.declared.slots.PayloadOwner.TheVariants as owners
use Rattle.giop_stream.specs.SlotsRepresent.{index_of}
use Rattle.giop_stream.proofs.SlotSteps.Performing.{does_nothing}
use Rattle.giop_stream.proofs.SlotSteps.ReadingEffects.{over_part}
use Rattle.giop_stream.proofs.SlotSteps.EventsOnSlots.{still_faulted, still_alters, own_effects, slot_effects, no_slot_says}
use Rattle.giop_stream.proofs.SlotSteps.SlotLists.{none_beyond, value_ready}
use Rattle.giop_stream.proofs.slots.Slots.fault_message.Goals as goal

pub returns-else-is_over-clause-does : goal.returns-else-is_over-clause-does
returns-else-is_over-clause-does g c =
    λ C l c' w h n rising calm.
    own_effects C l c.fault_message.result _ _ c.args.self.now _ c.in-Current.message
    c.fault_message.new.message c' w _ _ (refl, rw c.if-is_over.false refl)
    (rw (c.in-Current.is, c.if-is_over.false) (refl, refl)) h
    (still_alters C l c.args.place c' w _ (still_faulted c.args.fault) calm)
    (λ k. c.fault_message.ensures.does C l w (c'.known w.number) k n)

pub returns-in-Open-None-clause-does : goal.returns-in-Open-None-clause-does
returns-in-Open-None-clause-does g c =
    λ C l c' w h n rising calm.
    own_effects C l _ _ _ c.args.self.now (owners.Open c.in-Open-None.field-0) None None c' w _ _
    (c.in-Open-None.field-0-is, refl) (rw c.in-Open-None.is (c.in-Open-None.field-0-is, refl)) h
    (still_alters C l c.args.place c' w _ (still_faulted c.args.fault) calm)
    (λ k. rw (over_part C l w (c'.known w.number) _ k) (does_nothing _ _ refl tt))

pub returns-in-Some-clause-does : goal.returns-in-Some-clause-does
returns-in-Some-clause-does g c =
    λ C l c' w h n rising calm.
    let here = sym c.in-Some.ensures.value in
    let index = ap index_of c.in-Open-Some.is ∙ c.in-Open-Some.field-0-is in
    slot_effects C l c.fault_message-in-Some.result _ _ c.args.self.now _ c.in-Some.slot.now
    c.fault_message-in-Some.new.message c' w _ _ c.in-Open-Some.k refl index here rising h
    (still_alters C l c.args.place c' w _ (still_faulted c.args.fault) calm)
    (λ m k. c.fault_message-in-Some.ensures.does C l w (c'.known w.number) k m)

pub returns-in-None-clause-does : goal.returns-in-None-clause-does
returns-in-None-clause-does g c =
    λ C l c' w h n rising calm.
    let index = ap index_of c.in-Open-Some.is ∙ c.in-Open-Some.field-0-is in
    no_slot_says C l c.args.self.now c' (Some w) c.in-Open-Some.k index
    (none_beyond _ _ c.in-None.ensures.value) h

pub returns-else-is_over-clause-room : goal.returns-else-is_over-clause-room
returns-else-is_over-clause-room g c = record {
  most = refl;
  ready = λ C n h.
      record {
        current_ready = rw c.if-is_over.false (c.fault_message.ensures.ready C n);
        each_ready = h.each_ready;
      };
}

pub returns-in-Some-clause-room : goal.returns-in-Some-clause-room
returns-in-Some-clause-room g c = record {
  most = refl;
  ready = λ C n h. record {
    current_ready = tt;
    each_ready = value_ready C n c.args.self.now.slots.entries c.in-Open-Some.k _
        (c.fault_message-in-Some.ensures.ready C n) h.each_ready;
  };
}

pub returns-then-is_over-clause-does : goal.returns-then-is_over-clause-does
returns-then-is_over-clause-does g c =
    λ C l c' w h n rising calm.
    own_effects C l _ _ _ c.args.self.now _ None None c' w _ _
    (refl, rw c.if-is_over.true refl)
    (rw (c.in-Current.is, c.if-is_over.true) (refl, refl)) h
    (still_alters C l c.args.place c' w _ (still_faulted c.args.fault) calm)
    (λ k. rw (over_part C l w (c'.known w.number) _ k) (does_nothing _ _ refl tt))
