use Rattle.std.proofs.Common.{Some}
use Rattle.giop_stream.proofs.SlotSteps.EventsOnSlots.{open_keeps}
use Rattle.giop_stream.proofs.SlotSteps.SlotLists.{push_ready}
use Rattle.giop_stream.proofs.slots.Slots.open.Goals as goal

pub returns : goal.returns
returns c = record {
  kept = λ C l c' w place h apart n f.
      open_keeps C l c.args.self.now c.add.new.self c' w place c.args.number c.args.header
      (Some c.args.id) c.take_current-message.result c.len.result c.add.ensures.entries
      c.take_current-message.ensures c.len.ensures.value h apart n f;
  room = record {
    most = c.add.ensures.most;
    ready = λ C n h. record {
      current_ready = tt;
      each_ready = rw c.add.ensures.entries (push_ready C n c.args.self.now.slots.entries _
          (rw c.take_current-message.ensures h.current_ready) h.each_ready);
    };
  };
}
