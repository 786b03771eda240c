-- If the reading failed, all that was put to an out can be seen (meaning).
use Rattle.std.specs.Prelude.{ℕ, List}
use Rattle.giop_print.specs.Output.{OutLog}
use Rattle.giop_conversation.specs.Seen.{IsSeen}
use Rattle.giop_run.specs.declared.fault.RunFault.TheVariants as runs
use Rattle.giop_capture.specs.declared.failure.DumpError.{DumpError}
use Rattle.giop_capture.specs.declared.failure.DumpError.TheVariants as failures

-- If a read failed, or there were too many reads, all that was put can be seen.
abbrev pub SeenWhereReadingFailed : {O : Type 0} (log : O → OutLog) (kept_back : O → List ℕ)
    (dump_error : DumpError O) → Type 0
SeenWhereReadingFailed log kept (failures.Step fault) = Unit {0}
SeenWhereReadingFailed log kept (failures.Run runs.Read out) = IsSeen log kept (log out).written
SeenWhereReadingFailed log kept (failures.Run runs.Turns out) = IsSeen log kept (log out).written
SeenWhereReadingFailed log kept (failures.Run runs.Out out) = Unit {0}
SeenWhereReadingFailed log kept (failures.Run runs.Failed out) = Unit {0}
