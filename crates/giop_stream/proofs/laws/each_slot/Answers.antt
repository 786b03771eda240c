use Rattle.giop_stream.proofs.Cuts.OpenMessages.{rising_open}
use Rattle.giop_stream.proofs.SlotSteps.OneSlotChanges.{own_then, others_then}
use Rattle.giop_stream.proofs.SlotSteps.EventsInSlots.{slot_stays, slots_stay, slot_leaves, slots_left, slot_opens, tracked_stays}
use Rattle.giop_stream.proofs.laws.each_slot.Goals as goal

pub returns : goal.returns
returns c = record {
  stays = slot_stays;
  own = slots_stay;
  goes = slot_leaves;
  closes = slots_left;
  opens = slot_opens;
  continues = tracked_stays;
  kept = own_then;
  others = others_then;
  rising = rising_open;
}
