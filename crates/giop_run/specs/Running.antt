-- What a run did (meaning). The stream that its engine held is p, the octets that its source gave
-- are s, and its setup is w. The logs of its out before and after are x and y.
use Rattle.std.specs.Prelude.{◌≡◌, ℕ, ◌+◌, ◌^◌, ◌≤◌, ◌<◌, List, [], ◌++◌, length, Option, None, Some, IsSome, Result, Ok, Err, ◌⊎◌}
use Rattle.std.specs.Io.KnownBytes.{Consumes, IsAtEnd}
use Rattle.giop_cdr.specs.Numbers.{AreOctets}
use Rattle.giop_print.specs.Output.{OutLog, saturating_next, Wrote, WroteFront}
use Rattle.giop_sig.specs.Table.{Table}
use Rattle.giop_message.specs.Signatures.{RequestTable}
use Rattle.giop_stream.specs.Rules.{Rules, rules}
use Rattle.giop_stream.specs.Framing.{cut}
use Rattle.giop_stream.specs.Stream.{closing, final, totals_so_far}
use Rattle.giop_stream.specs.EngineHolds.{added, Holds}
use Rattle.giop_stream.specs.EngineView.{EngineView}
use Rattle.giop_run.specs.SourceLog.{SourceLog}
use Rattle.giop_run.specs.declared.running.Ending.{Ending}
use Rattle.giop_run.specs.declared.running.Ending.TheVariants as endings
use Rattle.giop_run.specs.declared.running.Report.{Report}
use Rattle.giop_run.specs.declared.fault.RunFault.{RunFault}
use Rattle.giop_run.specs.declared.fault.RunFault.TheVariants as fault

-- the setup of a run: what it reads by, and how it ends
pub record RunSetup : Type 0 where
  pub table : Table
  pub request_table : RequestTable
  pub most : ℕ  -- the number of messages that may be open at once
  pub ending : Ending

-- the setup of a run of this engine
abbrev pub setup_of : (engine : EngineView) (ending : Ending) → RunSetup
setup_of e ending = record {
  table = e.table;
  request_table = e.request_table;
  most = e.most;
  ending = ending;
}

-- the rules that a run reads by
abbrev pub run_rules : RunSetup → Rules
run_rules w = rules w.table w.request_table w.most

-- what an ending writes after the lines of the stream: its closing, or nothing if the stream is
-- read on later
abbrev pub end_text : (ending : Ending) (R : Rules) (stream : List ℕ) → List ℕ
end_text endings.Finish R stream = closing R stream
end_text endings.Keep R stream = []

-- whether the report of a run has an engine, by the ending
abbrev pub HasKept : (ending : Ending) (kept_engine : Option EngineView) → Type 0
HasKept endings.Finish kept = kept ≡ None
HasKept endings.Keep kept = IsSome kept

-- the stream p is finished: a truncated end is counted, and no engine is kept
pub record IsFinish (setup : RunSetup) (report : Report) (stream : List ℕ) : Type 0 where
  pub totals : report.totals ≡ final (run_rules setup) stream
  pub kept : report.kept ≡ None

-- the stream p is read on later: the report has an engine that holds p and reads by the same setup
pub record IsKept (setup : RunSetup) (report : Report) (stream : List ℕ) : Type 0 where
  pub totals : report.totals ≡ totals_so_far (run_rules setup) stream
  pub engine : EngineView
  pub kept : report.kept ≡ Some engine
  pub holds : Holds engine stream
  pub same : setup_of engine setup.ending ≡ setup

-- what the report says of the stream, by the ending
abbrev pub EndsAs : (ending : Ending) (setup : RunSetup) (report : Report) (stream : List ℕ) →
    Type 0
EndsAs endings.Finish w report stream = IsFinish w report stream
EndsAs endings.Keep w report stream = IsKept w report stream

-- the stream has a fault, so that no octet after it is read
abbrev pub HasStreamFault : (stream : List ℕ) → Type 0
HasStreamFault stream = IsSome (cut stream).stop

-- the octets s end with those of one read, at most 4096; before that read the stream had no fault
pub record EndsWithOneRead (stream_before octets_given : List ℕ) : Type 0 where
  pub earlier : List ℕ
  pub last : List ℕ
  pub whole : octets_given ≡ earlier ++ last
  pub room : length last ≤ 4096
  pub running : ¬ HasStreamFault (stream_before ++ earlier)

-- the source gave the octets s in at most 2^40 reads, and there was no read after a stream fault
pub record GivenByReads (stream_before octets_given : List ℕ) (before after : SourceLog)
    : Type 0 where
  pub left : Consumes before.left after.left octets_given
  pub octets : AreOctets octets_given
  pub reads : after.reads ≤ before.reads + 2 ^ 40
  pub none : HasStreamFault stream_before → (octets_given ≡ []) × (after ≡ before)
  pub stops : ¬ HasStreamFault stream_before → EndsWithOneRead stream_before octets_given

-- a read returned 0, and nothing is left in the source
pub record ReadFoundEnd (before after : SourceLog) : Type 0 where
  pub answered : after.ends ≡ saturating_next before.ends
  pub none : IsAtEnd after.left

-- the source is at its end, or the stream has a fault
abbrev pub SourceOrStreamEnded : (stream : List ℕ) (before after : SourceLog) → Type 0
SourceOrStreamEnded stream before after = ReadFoundEnd before after ⊎ HasStreamFault stream

-- the source is at its end, or the stream has a fault; the lines are written, and the report is as
-- the ending requires
pub record Finished (setup : RunSetup) (report : Report) (stream_before octets_given : List ℕ)
    (before after : SourceLog)
    (old new : OutLog) : Type 0 where
  pub given : GivenByReads stream_before octets_given before after
  pub over : SourceOrStreamEnded (stream_before ++ octets_given) before after
  pub failures : after.failures ≡ before.failures
  pub written : Wrote old new
      (added (run_rules setup) stream_before octets_given
      ++ end_text setup.ending (run_rules setup) (stream_before ++ octets_given))
  pub ended : EndsAs setup.ending setup report (stream_before ++ octets_given)

-- a read failed; the lines of what was read are written, and no closing
pub record ReadStopped (R : Rules) (stream_before octets_given : List ℕ) (before after : SourceLog)
    (old new : OutLog) : Type 0
  where
    pub given : GivenByReads stream_before octets_given before after
    pub failures : after.failures ≡ saturating_next before.failures
    pub written : Wrote old new (added R stream_before octets_given)

-- all reads were used up; the lines of what was read are written, and no closing
pub record ReadsSpent (R : Rules) (stream_before octets_given : List ℕ) (before after : SourceLog)
    (old new : OutLog) : Type 0
  where
    pub given : GivenByReads stream_before octets_given before after
    pub reads : before.reads + 2 ^ 40 < 2 ^ 64 → after.reads ≡ before.reads + 2 ^ 40
    pub failures : after.failures ≡ before.failures
    pub ends : after.ends ≡ before.ends
    pub running : ¬ HasStreamFault (stream_before ++ octets_given)
    pub written : Wrote old new (added R stream_before octets_given)

-- a put failed, and a front of what was due is written
pub record WriteStopped (setup : RunSetup) (stream_before octets_given : List ℕ)
    (before after : SourceLog) (old new : OutLog) : Type 0 where
  pub given : GivenByReads stream_before octets_given before after
  pub failures : after.failures ≡ before.failures
  pub written : WroteFront old new
      (added (run_rules setup) stream_before octets_given
      ++ end_text setup.ending (run_rules setup) (stream_before ++ octets_given))

-- what a run did, by its result; it never fails with Failed if its engine held a stream
abbrev pub Ran : (setup : RunSetup) (result : Result Report RunFault)
    (stream_before octets_given : List ℕ) (before after : SourceLog) (old new : OutLog) → Type 0
Ran w (Ok report) stream octets before after old new =
    Finished w report stream octets before after old new
Ran w (Err fault.Read) stream octets before after old new =
    ReadStopped (run_rules w) stream octets before after old new
Ran w (Err fault.Turns) stream octets before after old new =
    ReadsSpent (run_rules w) stream octets before after old new
Ran w (Err fault.Out) stream octets before after old new =
    WriteStopped w stream octets before after old new
Ran w (Err fault.Failed) stream octets before after old new = ⊥

-- what a run did if its engine had failed: it read nothing and wrote nothing
pub record DidNothing (result : Result Report RunFault) (before after : SourceLog)
    (old new : OutLog) :
    Type 0 where
  pub answer : result ≡ Err fault.Failed
  pub unread : after ≡ before
  pub unwritten : new ≡ old
