use Rattle.std.proofs.Common.{◌≤◌, Ok, Err, None, inl, refl, arith}
use Rattle.giop_run.specs.Console.{fault_status}
use Rattle.giop_run.specs.declared.fault.ProgramError.{ProgramError}
use Rattle.giop_run.specs.declared.fault.ProgramError.TheVariants as faults
use Rattle.giop_capture.specs.Failures.{fault_of}
use Rattle.giop_capture.proofs.console.print_capture.Goals as goal

pub returns-in_default-clause-status : goal.returns-in_default-clause-status
returns-in_default-clause-status c =
    (Err faults.OutOfMemory, (None, inl (inl refl)), c.print_fault.ensures)

pub returns-in-Ok-perform_capture-clause-status : goal.returns-in-Ok-perform_capture-clause-status
returns-in-Ok-perform_capture-clause-status c = (
  Ok c.in-Ok-perform_capture.ending,
  (_, c.in-Ok-perform_capture.ensures.dumped),
  c.report_ending.ensures,
)

pub returns-clause-status : goal.returns-clause-status
returns-clause-status c =
    (Err (fault_of c.in-Err.failure), (_, c.in-Err.ensures.refused), c.report_failure.ensures)

few : (fault : ProgramError) → fault_status fault ≤ 5
few faults.Words = omega arith
few (faults.Signatures name why look) = omega arith
few (faults.Requests name why) = omega arith
few (faults.Checkpoint name why) = omega arith
few (faults.Unreadable name why) = omega arith
few (faults.Unwritable name) = omega arith
few (faults.Run why) = omega arith
few faults.OutOfMemory = omega arith

pub returns-clause-most : goal.returns-clause-most
returns-clause-most c = rw c.report_failure.ensures (few (fault_of c.in-Err.failure))
