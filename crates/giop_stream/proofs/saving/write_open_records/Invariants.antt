use Rattle.std.proofs.Common.{ℕ, ◌+◌, ◌*◌, ◌≤◌, List, take}
use Rattle.std.specs.List.{AllByRecursion as Each}
use Rattle.std.specs.Result.{IfOk}
use Rattle.giop_print.specs.Output.{OutLog}
use Rattle.giop_sig.specs.Table.{Table}
use Rattle.giop_stream.specs.SlotsRepresent.{IsReady}
use Rattle.giop_stream.specs.Checkpoint.{IsPut, AreOpen, Puts, PutsSuch}
use Rattle.giop_stream.proofs.saving.write_open_records.Given as goal

abbrev pub invariant-loop-k : goal.invariant-loop-k
invariant-loop-k g l = record {
  put : (C : Table) (at : ℕ) (before : OutLog) (front : List ℕ) →
      Each (λ slot. IsReady C at slot.value.message) l.slots.slots.entries
      → Puts l.initial.written before (g.O.Out.log l.initial.out) front
      → PutsSuch l.written before (g.O.Out.log l.out)
      (λ octets. IsPut front octets (AreOpen (take l.k l.slots.slots.entries)));
  size : IfOk l.written (λ n. n ≤ 96 + 832 * l.k);
}
