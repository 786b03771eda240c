-- What the program did for its arguments (meaning). The logs of its out before and after are x and
-- y; the saved files before and after are a and b.
use Rattle.std.specs.Prelude.{◌≡◌, ℕ, List, Option, None, Some, Result, Ok, Err}
use Rattle.giop_print.specs.Output.{OutLog}
use Rattle.giop_sig.specs.Table.{Table}
use Rattle.giop_message.specs.Signatures.{RequestTable}
use Rattle.giop_stream.specs.EngineHolds.{IsRequestTableOf}
use Rattle.giop_stream.specs.EngineView.{EngineView}
use Rattle.giop_stream.specs.declared.status.Totals.{Totals}
use Rattle.giop_run.specs.Console.{Dumped}
use Rattle.giop_run.specs.Files.{KnownFiles, FileErrors, Asked, HoldsOfResumed, ReadsBy, StepFailed, stream_octets, setup_by}
use Rattle.giop_run.specs.Saving.{Saved, SavedOneMore}
use Rattle.giop_run.specs.declared.running.Report.{Report}
use Rattle.giop_run.specs.declared.fault.RunFault.{RunFault}
use Rattle.giop_run.specs.declared.fault.RunFault.TheVariants as fault
use Rattle.giop_run.specs.declared.fault.ProgramError.{ProgramError}
use Rattle.giop_run.specs.declared.fault.ProgramError.TheVariants as faults

-- what the arguments ask for, and what can be read, if it is known: the files by their names, the
-- errors for which they can't be read, and standard input
pub record Task : Type 1 where
  pub held : KnownFiles
  pub refuses : FileErrors
  pub given : Option (List ℕ)
  pub asked : Asked

abbrev pub task_of : (held : KnownFiles) (refuses : FileErrors) (standard_input : Option (List ℕ))
    (asked : Asked) → Task
task_of held refuses given asked =
    record { held = held; refuses = refuses; given = given; asked = asked }

-- The run read what the arguments name: the stream, by the catalogue and the request list of the
-- files, from the checkpoint on.
pub record Performed (task : Task) (ran : Result Report RunFault) (old new : OutLog) : Type 0 where
  pub table : Table
  pub request_table : RequestTable
  pub of : IsRequestTableOf table request_table
  pub reads : ReadsBy task.held task.asked table request_table
  pub dumped : HoldsOfResumed task.held task.asked.resume task.asked.most table request_table
      (λ n p. Dumped
      (setup_by table request_table n task.asked) ran p
      (stream_octets task.held task.given task.asked.stream) old new)

-- the checkpoint of the engine that was kept is saved in the file that the arguments name; if they
-- name none, nothing is saved
abbrev pub SavedIn : (save_file_name : Option (List ℕ)) (kept_engine : Option EngineView)
    (saved_before saved_after : Option (List Saved)) → Type 0
SavedIn None kept old new = new ≡ old
SavedIn (Some name) None old new = ⊥
SavedIn (Some name) (Some e) old new = SavedOneMore old new name e

-- The run succeeded, and its checkpoint is saved if the arguments ask for that.
pub record PerformedAndSaved (task : Task) (totals : Totals) (old new : OutLog)
    (saved_before saved_after : Option (List Saved))
    : Type 0 where
  pub report : Report
  pub run : Performed task (Ok report) old new
  pub totals_are : totals ≡ report.totals
  pub saved : SavedIn task.asked.save report.kept saved_before saved_after

-- The run failed.
pub record RunHasFailed (task : Task) (why : RunFault) (old new : OutLog) : Type 0 where
  pub run : Performed task (Err why) old new

-- The run succeeded, but the file for its checkpoint can't be written.
pub record RunIsUnsaved (task : Task) (save_file_name : List ℕ) (old new : OutLog) : Type 0 where
  pub named : task.asked.save ≡ Some save_file_name
  pub report : Report
  pub run : Performed task (Ok report) old new

-- A step before the run failed, and nothing is written.
pub record NotRun (task : Task) (why : ProgramError) (old new : OutLog) : Type 0 where
  pub refused : StepFailed task.held task.refuses task.asked why
  pub unwritten : new ≡ old

-- what the program did, by the fault with which it failed; the engine of its run is never one that
-- had failed
abbrev pub FailedBy : (task : Task) (fault : ProgramError) (old new : OutLog) → Type 0
FailedBy t (faults.Run fault.Failed) old new = ⊥
FailedBy t (faults.Run fault.Read) old new = RunHasFailed t fault.Read old new
FailedBy t (faults.Run fault.Turns) old new = RunHasFailed t fault.Turns old new
FailedBy t (faults.Run fault.Out) old new = RunHasFailed t fault.Out old new
FailedBy t (faults.Unwritable name) old new = RunIsUnsaved t name.now old new
FailedBy t faults.Words old new = ⊥
FailedBy t (faults.Signatures name why look) old new =
    NotRun t (faults.Signatures name why look) old new
FailedBy t (faults.Requests name why) old new = NotRun t (faults.Requests name why) old new
FailedBy t (faults.Checkpoint name why) old new = NotRun t (faults.Checkpoint name why) old new
FailedBy t (faults.Unreadable name why) old new = NotRun t (faults.Unreadable name why) old new
FailedBy t faults.OutOfMemory old new = NotRun t faults.OutOfMemory old new

-- what the program did, by its result; if it failed, nothing is saved
abbrev pub HasPerformed : (task : Task) (result : Result Totals ProgramError) (old new : OutLog)
    (saved_before saved_after : Option (List Saved)) → Type 0
HasPerformed t (Ok totals) old new saved_before saved_after =
    PerformedAndSaved t totals old new saved_before saved_after
HasPerformed t (Err why) old new saved_before saved_after =
    FailedBy t why old new × (saved_after ≡ saved_before)

-- what the last step did: its result is the run's, or the fault that the file which the arguments
-- name can't be written
abbrev pub HasSaved : (save_file_name : Option (List ℕ)) (ran : Result Report ProgramError)
    (result : Result Totals ProgramError) (saved_before saved_after : Option (List Saved)) → Type 0
HasSaved asked (Ok report) (Ok totals) old new =
    (totals ≡ report.totals) × SavedIn asked report.kept old new
HasSaved asked (Ok report) (Err why) old new =
    (new ≡ old) × ((name : _) × (why ≡ faults.Unwritable name) × (asked ≡ Some name.now))
HasSaved asked (Err why) result old new = (result ≡ Err why) × (new ≡ old)
