-- The fault of a capture that wasn't dumped, and what was put until then (meaning).
use Rattle.std.specs.Prelude.{Option, Some, None}
use Rattle.giop_print.specs.Output.{OutLog}
use Rattle.giop_run.specs.declared.fault.ProgramError.{ProgramError}
use Rattle.giop_run.specs.declared.fault.ProgramError.TheVariants as faults
use Rattle.giop_capture.specs.declared.failure.DumpError.{DumpError}
use Rattle.giop_capture.specs.declared.failure.DumpError.TheVariants as failures

-- the fault of the step that failed, or of the run
abbrev pub fault_of : {O : Type 0} → DumpError O → ProgramError
fault_of (failures.Step fault) = fault
fault_of (failures.Run fault out) = faults.Run fault

-- the log of the out, if the run had begun
abbrev pub log_of : {O : Type 0} (log : O → OutLog) (dump_error : DumpError O) → Option OutLog
log_of log (failures.Step fault) = None
log_of log (failures.Run fault out) = Some (log out)
