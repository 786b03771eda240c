use Rattle.std.proofs.Common.{◌≡◌, Option, ◌+◌, ◌-◌}
use Rattle.giop_message.specs.Signatures.{Answers}
use Rattle.giop_checkpoint.specs.Records.{AreRecords}
use Rattle.giop_stream.specs.Events.{MessageKey}
use Rattle.giop_stream.specs.Lines.{Kept}
use Rattle.giop_stream.specs.SlotsRepresent.{AreReady}
use Rattle.giop_stream.proofs.Restored.Loaded.{Completes}
use Rattle.giop_stream.proofs.loading.load_records.Given as goal

abbrev pub invariant-loop : goal.invariant-loop
invariant-loop l = record {
  ready : AreReady l.catalogue (l.octets + 1) l.slots;
  lengths : AreRecords (l.count - l.counter) l.rest;
  most : l.slots.slots.most ≡ l.initial.slots.slots.most;
  completes : (a : Answers) (w : MessageKey) (xs : Option Kept) →
      Completes l.catalogue a (l.octets + 1) l.count l.records w xs
      l.initial.slots l.slots
      (l.count - l.counter) l.rest;
}
