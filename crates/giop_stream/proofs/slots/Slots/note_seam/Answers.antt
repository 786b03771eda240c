use Rattle.std.proofs.Common.{refl, ap, sym, ◌∙◌}
use Rattle.giop_stream.specs.Events.{Seams}
use Rattle.giop_stream.specs.Effects.{message_effect, message_kept_after, event}
use Rattle.giop_stream.specs.SlotsRepresent.{index_of}
use Rattle.giop_stream.proofs.SlotSteps.OneSlotChanges.{calm_same, mixes_not}
use Rattle.giop_stream.proofs.SlotSteps.EventsOnSlots.{still_seams, still_alters, slot_keeps, slot_kept, open_owner_says, no_slot_says}
use Rattle.giop_stream.proofs.SlotSteps.SlotLists.{none_beyond, value_ready, ready_at}
use Rattle.giop_stream.proofs.slots.Slots.note_seam.Goals as goal

pub returns-in-Current-clause-kept : goal.returns-in-Current-clause-kept
returns-in-Current-clause-kept c =
    λ C l c' k o place h here rising.
    open_owner_says C l c.args.self.now c' k o (ap index_of c.in-Current.is) h here

pub returns-in-Open-None-clause-kept : goal.returns-in-Open-None-clause-kept
returns-in-Open-None-clause-kept c =
    λ C l c' k o place h here rising.
    open_owner_says C l c.args.self.now c' k o
    (ap index_of c.in-Open-None.is ∙ c.in-Open-None.field-0-is) h here

pub returns-in-Some-clause-kept : goal.returns-in-Some-clause-kept
unfolding message_effect message_kept_after
returns-in-Some-clause-kept c =
    λ C l c' k o place h here rising.
    let get = sym c.in-Some.ensures.value in
    let index = ap index_of c.in-Open-Some.is ∙ c.in-Open-Some.field-0-is in
    slot_keeps C l c.args.self.now _ c.in-Some.slot.now c.seam_message.new.message c' o.opener _ _
    c.in-Open-Some.k refl index get rising h
    (still_alters C l place c' o.opener Seams still_seams
    (calm_same c' (event place o.opener Seams) (mixes_not (event place o.opener Seams) refl)))
    (c.seam_message.ensures.kept C l o.opener (c'.known o.opener.number) place
    (slot_kept C l c.args.self.now c.in-Some.slot.now c' o.opener c.in-Open-Some.k index get h))

pub returns-in-None-clause-kept : goal.returns-in-None-clause-kept
returns-in-None-clause-kept c =
    λ C l c' k o place h here rising.
    let index = ap index_of c.in-Open-Some.is ∙ c.in-Open-Some.field-0-is in
    no_slot_says C l c.args.self.now c' _ c.in-Open-Some.k index
    (none_beyond _ _ c.in-None.ensures.value) h

pub returns-in-Some-clause-room : goal.returns-in-Some-clause-room
returns-in-Some-clause-room c = record {
  most = refl;
  ready = λ C n h. record {
    current_ready = tt;
    each_ready = value_ready C n c.args.self.now.slots.entries c.in-Open-Some.k _
        (c.seam_message.ensures.ready C n (ready_at C n c.args.self.now.slots.entries
        c.in-Open-Some.k c.in-Some.slot.now (sym c.in-Some.ensures.value) h.each_ready))
        h.each_ready;
  };
}
