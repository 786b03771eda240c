-- What a run did with a reader and an out, and the status of the program (meaning).
use Rattle.std.specs.Prelude.{ℕ, ◌==◌, List, [], Option, Some, None, Result, Ok, Err, if◌then◌else◌}
use Rattle.giop_print.specs.Output.{OutLog}
use Rattle.giop_stream.specs.declared.status.Totals.{Totals}
use Rattle.giop_run.specs.SourceLog.{SourceLog, unread_source}
use Rattle.giop_run.specs.Looks.{look_words, reason_words}
use Rattle.giop_run.specs.Running.{RunSetup, Ran}
use Rattle.giop_run.specs.declared.running.Report.{Report}
use Rattle.giop_run.specs.declared.fault.RunFault.{RunFault}
use Rattle.giop_run.specs.declared.fault.ProgramError.{ProgramError}
use Rattle.giop_run.specs.declared.fault.ProgramError.TheVariants as faults

-- a run whose engine held p did this with a source of these octets and an out
pub record Dumped (setup : RunSetup) (ran : Result Report RunFault) (stream_held : List ℕ)
    (source_octets : Option (List ℕ)) (old new : OutLog) : Type 0 where
  pub octets : List ℕ
  pub after : SourceLog
  pub did : Ran setup ran stream_held octets (unread_source source_octets) after old new

-- the status of a failure: 2 if the words of the command line are no text, 3 if a file is refused,
-- 4 if a file can't be read or written or a run failed, 5 if there is no memory
abbrev pub fault_status : ProgramError → ℕ
fault_status faults.Words = 2
fault_status (faults.Signatures name fault look) = 3
fault_status (faults.Requests name fault) = 3
fault_status (faults.Checkpoint name fault) = 3
fault_status (faults.Unreadable name why) = 4
fault_status (faults.Unwritable name) = 4
fault_status (faults.Run fault) = 4
fault_status faults.OutOfMemory = 5

-- the words that giopcap prints after a fault
abbrev pub fault_explanation : ProgramError → List ℕ
fault_explanation (faults.Signatures name fault look) = look_words look
fault_explanation (faults.Unreadable name why) = reason_words why
fault_explanation faults.Words = []
fault_explanation (faults.Requests name fault) = []
fault_explanation (faults.Checkpoint name fault) = []
fault_explanation (faults.Unwritable name) = []
fault_explanation (faults.Run fault) = []
fault_explanation faults.OutOfMemory = []

-- the fault of the run, if it is a run that failed
abbrev pub run_fault : ProgramError → Option RunFault
run_fault (faults.Run fault) = Some fault
run_fault faults.Words = None
run_fault (faults.Signatures name fault look) = None
run_fault (faults.Requests name fault) = None
run_fault (faults.Checkpoint name fault) = None
run_fault (faults.Unreadable name why) = None
run_fault (faults.Unwritable name) = None
run_fault faults.OutOfMemory = None

-- the result of a run that failed with this fault
abbrev pub failed_run_result : Option RunFault → Option (Result Report RunFault)
failed_run_result (Some fault) = Some (Err fault)
failed_run_result None = None

-- the result of the run, by the result of the program; None if a step before the run failed
abbrev pub run_result : Result Report ProgramError → Option (Result Report RunFault)
run_result (Ok report) = Some (Ok report)
run_result (Err fault) = failed_run_result (run_fault fault)

-- the program's status: 0 if no fault was counted, 1 if one was, or the status of the failure
abbrev pub exit_status : Result Totals ProgramError → ℕ
exit_status (Ok totals) = if totals.faults == 0 then 0 else 1
exit_status (Err fault) = fault_status fault
