use Rattle.std.proofs.Common.{◌≡◌, ℕ, Bool, length, None, refl, take, ap, sym, arith, ◌∙◌}
use Rattle.giop_message.specs.DueOctets.{StaysUndue}
use Rattle.giop_message.specs.HeaderEnds.{AgreesAtEnds, after_ends}
use Rattle.giop_stream.specs.declared.slots.PayloadOwner.TheVariants as owners
use Rattle.giop_stream.specs.DoesEffect.{count_one_if}
use Rattle.giop_stream.specs.SlotsRepresent.{index_of}
use Rattle.giop_stream.proofs.SlotSteps.SlotLists.{none_beyond, all_later, value_ready}
use Rattle.giop_stream.proofs.SlotSteps.EventsOnSlots.{no_slot_says}
use Rattle.giop_stream.proofs.CodeSteps.Runs.{own_takes, slot_takes}
use Rattle.giop_stream.proofs.CodeSteps.OwnerRuns.{over_takes}
use Rattle.giop_stream.proofs.CodeSteps.HeaderEndSteps.{own_ends, slot_ends, none_ends, if_ok_weaker}
use Rattle.giop_stream.proofs.slots.Slots.take.Goals as goal

pub returns-else-is_over-clause-does : goal.returns-else-is_over-clause-does
returns-else-is_over-clause-does g c =
    λ a c' owner_of_next h rising.
    own_takes c.args.catalogue.now a (λ (r : ℕ × Bool). r.0) (λ (r : ℕ × Bool). count_one_if r.1)
    c.take_octets.result _ _
    c.args.self.now c' owner_of_next c.args.before c.args.octets.now h
    (λ ends. AgreesAtEnds g.Q.Correspondent.answer g.Q.Correspondent.notified c.args.catalogue.now
    (g.Q.Correspondent.state c.args.correspondent.now) a (ends c.args.octets.now))
    (StaysUndue g.Q.Correspondent.due g.Q.Correspondent.notified c.args.catalogue.now
    (g.Q.Correspondent.state c.args.correspondent.now))
    _ c.in-Current.message c.take_octets.new.message
    (refl, rw c.if-is_over.false refl)
    (rw (c.in-Current.is, c.if-is_over.false) (refl, refl))
    (λ w o k agrees. c.take_octets.ensures.does a w o k agrees)

pub returns-in-Open-None-clause-does : goal.returns-in-Open-None-clause-does
returns-in-Open-None-clause-does g c =
    λ a c' owner_of_next h rising.
    own_takes c.args.catalogue.now a (λ (r : ℕ × Bool). r.0) (λ (r : ℕ ×
    Bool). count_one_if r.1) _ _ _
    c.args.self.now c' owner_of_next c.args.before c.args.octets.now h
    (λ ends. AgreesAtEnds g.Q.Correspondent.answer g.Q.Correspondent.notified c.args.catalogue.now
    (g.Q.Correspondent.state c.args.correspondent.now) a (ends c.args.octets.now))
    (StaysUndue g.Q.Correspondent.due g.Q.Correspondent.notified c.args.catalogue.now
    (g.Q.Correspondent.state c.args.correspondent.now))
    (owners.Open c.in-Open-None.field-0) None None
    (c.in-Open-None.field-0-is, refl) (rw c.in-Open-None.is (c.in-Open-None.field-0-is, refl))
    (λ w o k agrees. over_takes c.args.catalogue.now a w c.args.before c.args.octets.now o k
    (StaysUndue g.Q.Correspondent.due g.Q.Correspondent.notified c.args.catalogue.now _) _
    (λ xs calm. calm))

pub returns-in-Some-clause-does : goal.returns-in-Some-clause-does
returns-in-Some-clause-does g c =
    λ a c' owner_of_next h rising.
    let index = ap index_of c.in-Open-Some.is ∙ c.in-Open-Some.field-0-is in
    slot_takes c.args.catalogue.now a (λ (r : ℕ × Bool). r.0) (λ (r : ℕ × Bool). count_one_if r.1)
    c.take_octets-in-Some.result _ _
    c.args.self.now c' owner_of_next c.args.before c.args.octets.now h
    (λ ends. AgreesAtEnds g.Q.Correspondent.answer g.Q.Correspondent.notified c.args.catalogue.now
    (g.Q.Correspondent.state c.args.correspondent.now) a (ends c.args.octets.now))
    (StaysUndue g.Q.Correspondent.due g.Q.Correspondent.notified c.args.catalogue.now
    (g.Q.Correspondent.state c.args.correspondent.now))
    _ c.in-Some.slot.now c.take_octets-in-Some.new.message c.in-Open-Some.k refl index
    (sym c.in-Some.ensures.value) rising
    (λ w k agrees. c.take_octets-in-Some.ensures.does a w (c'.known w.number) k agrees)

pub returns-in-None-clause-does : goal.returns-in-None-clause-does
returns-in-None-clause-does g c =
    λ a c' owner_of_next h rising agrees.
    let index = ap index_of c.in-Open-Some.is ∙ c.in-Open-Some.field-0-is in
    no_slot_says c.args.catalogue.now a c.args.self.now c' owner_of_next c.in-Open-Some.k index
    (none_beyond _ _ c.in-None.ensures.value) h

pub returns-in-Some-clause-ready : goal.returns-in-Some-clause-ready
returns-in-Some-clause-ready g c =
    if_ok_weaker c.take_octets-in-Some.result (λ r m. record {
      current_ready = tt;
      each_ready = value_ready c.args.catalogue.now _ c.args.self.now.slots.entries c.in-Open-Some.k
          _ m
          (all_later c.args.catalogue.now _ _ _ (omega arith) c.requires.ready.each_ready);
    }) c.take_octets-in-Some.ensures.ready

pub returns-in-None-clause-ready : goal.returns-in-None-clause-ready
returns-in-None-clause-ready g c = record {
  current_ready = tt;
  each_ready =
      all_later c.args.catalogue.now _ _ _ (omega arith) c.requires.ready.each_ready;
}

pub returns-in-Open-None-clause-ready : goal.returns-in-Open-None-clause-ready
returns-in-Open-None-clause-ready g c =
    record {
      current_ready = tt;
      each_ready =
          all_later c.args.catalogue.now _ _ _ (omega arith) c.requires.ready.each_ready;
    }

pub returns-else-is_over-clause-told : goal.returns-else-is_over-clause-told
returns-else-is_over-clause-told g c = if_ok_weaker c.take_octets.result
    (λ r told a c' owner_of_next h.
    own_ends (λ ends. AgreesAtEnds g.Q.Correspondent.answer g.Q.Correspondent.notified
    c.args.catalogue.now (g.Q.Correspondent.state c.args.correspondent.now) a
    (ends c.args.octets.now) → g.Q.Correspondent.state c.take_octets.new.correspondent
    ≡ after_ends g.Q.Correspondent.notified c.args.catalogue.now
    (g.Q.Correspondent.state c.args.correspondent.now) (ends (take r.0 c.args.octets.now)))
    c.args.catalogue.now a c.args.self.now c' owner_of_next h c.in-Current.message
    (rw (c.in-Current.is, c.if-is_over.false) (refl, refl)) (λ w o k agrees. told a w o k agrees))
    c.take_octets.ensures.told

pub returns-in-Some-clause-told : goal.returns-in-Some-clause-told
returns-in-Some-clause-told g c = if_ok_weaker c.take_octets-in-Some.result
    (λ r told a c' owner_of_next h.
    let index = ap index_of c.in-Open-Some.is ∙ c.in-Open-Some.field-0-is in
    slot_ends (λ ends. AgreesAtEnds g.Q.Correspondent.answer g.Q.Correspondent.notified
    c.args.catalogue.now (g.Q.Correspondent.state c.args.correspondent.now) a
    (ends c.args.octets.now) → g.Q.Correspondent.state c.take_octets-in-Some.new.correspondent
    ≡ after_ends g.Q.Correspondent.notified c.args.catalogue.now
    (g.Q.Correspondent.state c.args.correspondent.now) (ends (take r.0 c.args.octets.now)))
    c.args.catalogue.now a c.args.self.now c' owner_of_next h c.in-Some.slot.now c.in-Open-Some.k
    index (sym c.in-Some.ensures.value)
    (λ w k agrees. told a w (c'.known w.number) k agrees)) c.take_octets-in-Some.ensures.told

pub returns-in-None-clause-told : goal.returns-in-None-clause-told
returns-in-None-clause-told g c =
    λ a c' owner_of_next h agrees.
    let index = ap index_of c.in-Open-Some.is ∙ c.in-Open-Some.field-0-is in
    no_slot_says c.args.catalogue.now a c.args.self.now c' owner_of_next c.in-Open-Some.k index
    (none_beyond _ _ c.in-None.ensures.value) h

pub returns-in-Open-None-clause-told : goal.returns-in-Open-None-clause-told
returns-in-Open-None-clause-told g c =
    λ a c' owner_of_next h agrees.
    let st = g.Q.Correspondent.state c.args.correspondent.now in
    let octets = c.args.octets.now in
    own_ends (λ ends. st ≡ after_ends g.Q.Correspondent.notified c.args.catalogue.now st
    (ends (take (length octets) octets)))
    c.args.catalogue.now a c.args.self.now c' owner_of_next h None
    (rw c.in-Open-None.is (c.in-Open-None.field-0-is, refl))
    (λ w o k. none_ends (λ ends. st ≡ after_ends g.Q.Correspondent.notified c.args.catalogue.now st
    (ends (take (length octets) octets))) c.args.catalogue.now a w o k refl)

pub returns-then-is_over-clause-does : goal.returns-then-is_over-clause-does
returns-then-is_over-clause-does g c =
    λ a c' owner_of_next h rising.
    own_takes c.args.catalogue.now a (λ (r : ℕ × Bool). r.0) (λ (r : ℕ ×
    Bool). count_one_if r.1) _ _ _
    c.args.self.now c' owner_of_next c.args.before c.args.octets.now h
    (λ ends. AgreesAtEnds g.Q.Correspondent.answer g.Q.Correspondent.notified c.args.catalogue.now
    (g.Q.Correspondent.state c.args.correspondent.now) a (ends c.args.octets.now))
    (StaysUndue g.Q.Correspondent.due g.Q.Correspondent.notified c.args.catalogue.now
    (g.Q.Correspondent.state c.args.correspondent.now))
    _ None None (refl, rw c.if-is_over.true refl)
    (rw (c.in-Current.is, c.if-is_over.true) (refl, refl))
    (λ w o k agrees. over_takes c.args.catalogue.now a w c.args.before c.args.octets.now o k
    (StaysUndue g.Q.Correspondent.due g.Q.Correspondent.notified c.args.catalogue.now _) _
    (λ xs calm. calm))

pub returns-then-is_over-clause-told : goal.returns-then-is_over-clause-told
returns-then-is_over-clause-told g c =
    λ a c' owner_of_next h agrees.
    let st = g.Q.Correspondent.state c.args.correspondent.now in
    let octets = c.args.octets.now in
    own_ends (λ ends. st ≡ after_ends g.Q.Correspondent.notified c.args.catalogue.now st
    (ends (take (length octets) octets)))
    c.args.catalogue.now a c.args.self.now c' owner_of_next h None
    (rw (c.in-Current.is, c.if-is_over.true) (refl, refl))
    (λ w o k. none_ends (λ ends. st ≡ after_ends g.Q.Correspondent.notified c.args.catalogue.now st
    (ends (take (length octets) octets))) c.args.catalogue.now a w o k refl)

pub returns-then-is_over-clause-ready : goal.returns-then-is_over-clause-ready
returns-then-is_over-clause-ready g c =
    record {
      current_ready = rw c.if-is_over.true tt;
      each_ready =
          all_later c.args.catalogue.now _ _ _ (omega arith) c.requires.ready.each_ready;
    }

pub returns-else-is_over-clause-ready : goal.returns-else-is_over-clause-ready
returns-else-is_over-clause-ready g c =
    if_ok_weaker c.take_octets.result (λ r m. record {
      current_ready = rw c.if-is_over.false m;
      each_ready =
          all_later c.args.catalogue.now _ _ _ (omega arith) c.requires.ready.each_ready;
    }) c.take_octets.ensures.ready
