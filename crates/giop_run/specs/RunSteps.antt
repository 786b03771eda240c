-- What each read and feed of a run did, and how a run ended (steps). Only private clauses cite
-- these.
use Rattle.std.specs.Prelude.{◌≡◌, ℕ, ◌+◌, ◌^◌, ◌≤◌, ◌<◌, List, ◌++◌, length, None, Result, Ok, Err, Bool, true, false, ◌⊎◌}
use Rattle.std.specs.Io.KnownBytes.{Consumes}
use Rattle.giop_cdr.specs.Numbers.{AreOctets}
use Rattle.giop_print.specs.Output.{OutLog, saturating_next, Wrote, WroteFront}
use Rattle.giop_stream.specs.Rules.{Rules}
use Rattle.giop_stream.specs.Framing.{cut}
use Rattle.giop_stream.specs.Stream.{closing, final}
use Rattle.giop_stream.specs.EngineHolds.{added, Holds, rules_of}
use Rattle.giop_stream.specs.EngineView.{EngineView}
use Rattle.giop_run.specs.SourceLog.{SourceLog}
use Rattle.giop_run.specs.Running.{HasStreamFault, SourceOrStreamEnded, GivenByReads, ReadStopped, ReadsSpent, RunSetup, run_rules, end_text, EndsAs}
use Rattle.giop_stream.specs.declared.status.Totals.{Totals}
use Rattle.giop_run.specs.declared.running.Report.{Report}
use Rattle.giop_run.specs.declared.fault.RunFault.{RunFault}
use Rattle.giop_run.specs.declared.fault.RunFault.TheVariants as fault

-- the stream has no fault
abbrev pub HasNoStreamFault : (stream : List ℕ) → Type 0
HasNoStreamFault stream = (cut stream).stop ≡ None

-- The run failed because the out failed, or because the engine had failed before. A read has
-- neither fault.
abbrev pub IsOfWriting : RunFault → Type 0
IsOfWriting why = (why ≡ fault.Out) ⊎ (why ≡ fault.Failed)

-- the octets s were fed to an engine that held p and reads by R, and their lines were written
pub record HasFed (R : Rules) (stream_before octets_fed : List ℕ) (engine_after : EngineView)
    (old new : OutLog) : Type 0 where
  pub reads : rules_of engine_after ≡ R
  pub holds : Holds engine_after (stream_before ++ octets_fed)
  pub written : Wrote old new (added R stream_before octets_fed)

-- what the feed of the octets did to an engine that held the stream; the result is true if the
-- stream goes on
abbrev pub HasFedPiece : (R : Rules) (result : Result Bool RunFault)
    (stream_before octets_fed : List ℕ) (engine_after : EngineView) (old new : OutLog) → Type 0
HasFedPiece R (Ok true) stream octets engine old new =
    HasFed R stream octets engine old new × HasNoStreamFault (stream ++ octets)
HasFedPiece R (Ok false) stream octets engine old new =
    HasFed R stream octets engine old new × HasStreamFault (stream ++ octets)
HasFedPiece R (Err fault.Out) stream octets engine old new = WroteFront old new
    (added R stream octets)
HasFedPiece R (Err fault.Read) stream octets engine old new = ⊥
HasFedPiece R (Err fault.Turns) stream octets engine old new = ⊥
HasFedPiece R (Err fault.Failed) stream octets engine old new = ⊥

-- one read, of at most 4096 octets, gave the octets s
pub record OneRead (octets_given : List ℕ) (before after : SourceLog) : Type 0 where
  pub left : Consumes before.left after.left octets_given
  pub octets : AreOctets octets_given
  pub within : length octets_given ≤ 4096
  pub reads : after.reads ≡ saturating_next before.reads

-- what one read and the feed of its octets did to an engine that held the stream; the result is
-- true if the stream goes on
abbrev pub HasReadAndFed : (R : Rules) (result : Result Bool RunFault)
    (stream_before octets_given : List ℕ) (engine_after : EngineView) (before after : SourceLog)
    (old new : OutLog) → Type 0
HasReadAndFed R (Ok true) stream octets engine before after old new =
    OneRead octets before after × (after.failures ≡ before.failures) × (after.ends ≡ before.ends)
    × HasFed R stream octets engine old new × HasNoStreamFault (stream ++ octets)
HasReadAndFed R (Ok false) stream octets engine before after old new =
    OneRead octets before after × (after.failures ≡ before.failures) × SourceOrStreamEnded (stream
    ++ octets)
    before after
    × HasFed R stream octets engine old new
HasReadAndFed R (Err fault.Read) stream octets engine before after old new =
    OneRead octets before after × (after.failures ≡ saturating_next before.failures) × Wrote old new
    (added R stream octets)
HasReadAndFed R (Err fault.Out) stream octets engine before after old new =
    OneRead octets before after × (after.failures ≡ before.failures) × WroteFront old new
    (added R stream octets)
HasReadAndFed R (Err fault.Turns) stream octets engine before after old new = ⊥
HasReadAndFed R (Err fault.Failed) stream octets engine before after old new = ⊥

-- the source is at its end, or the stream has a fault, and all that the source gave was fed
pub record ReadToEnd (R : Rules) (stream_before octets_given : List ℕ) (engine_after : EngineView)
    (before after : SourceLog)
    (old new : OutLog) : Type 0 where
  pub given : GivenByReads stream_before octets_given before after
  pub over : SourceOrStreamEnded (stream_before ++ octets_given) before after
  pub failures : after.failures ≡ before.failures
  pub fed : HasFed R stream_before octets_given engine_after old new

-- a put failed, and a front of the lines of what was read is written
pub record PutFailed (R : Rules) (stream_before octets_given : List ℕ) (before after : SourceLog)
    (old new : OutLog) : Type 0
  where
    pub given : GivenByReads stream_before octets_given before after
    pub failures : after.failures ≡ before.failures
    pub written : WroteFront old new (added R stream_before octets_given)

-- how a run failed before its end, by its fault
abbrev pub FailedBeforeEnd : (R : Rules) (fault : RunFault) (stream_before octets_given : List ℕ)
    (before after : SourceLog) (old new : OutLog) → Type 0
FailedBeforeEnd R fault.Read stream octets before after old new =
    ReadStopped R stream octets before after old new
FailedBeforeEnd R fault.Turns stream octets before after old new =
    ReadsSpent R stream octets before after old new
FailedBeforeEnd R fault.Out stream octets before after old new =
    PutFailed R stream octets before after old new
FailedBeforeEnd R fault.Failed stream octets before after old new = ⊥

-- what the feed of all that the source gave did to an engine that held the stream
abbrev pub HasFedSource : {A : Type 0} (R : Rules) (result : Result A RunFault)
    (stream_before octets_given : List ℕ)
    (engine_after : EngineView) (before after : SourceLog) (old new : OutLog) → Type 0
HasFedSource R (Ok done) stream octets engine before after old new =
    ReadToEnd R stream octets engine before after old new
HasFedSource R (Err why) stream octets engine before after old new =
    FailedBeforeEnd R why stream octets before after old new

-- the text of the ending was written after the lines of p, and the report is as the ending requires
pub record RunHasEnded (setup : RunSetup) (report : Report) (stream : List ℕ)
    (old new : OutLog) : Type 0 where
  pub written : Wrote old new (end_text setup.ending (run_rules setup) stream)
  pub ended : EndsAs setup.ending setup report stream

-- what the finish did to an engine that held the stream
abbrev pub FinishedStream : (R : Rules) (result : Result Totals RunFault) (stream : List ℕ)
    (old new : OutLog) → Type 0
FinishedStream R (Ok totals) stream old new =
    Wrote old new (closing R stream) × (totals ≡ final R stream)
FinishedStream R (Err fault.Out) stream old new = WroteFront old new (closing R stream)
FinishedStream R (Err fault.Read) stream old new = ⊥
FinishedStream R (Err fault.Turns) stream old new = ⊥
FinishedStream R (Err fault.Failed) stream old new = ⊥

-- what the end of a run did, if the run's engine held the stream
abbrev pub HasEndedRun : (setup : RunSetup) (result : Result Report RunFault) (stream : List ℕ)
    (old new : OutLog) → Type 0
HasEndedRun w (Ok report) stream old new = RunHasEnded w report stream old new
HasEndedRun w (Err fault.Out) stream old new =
    WroteFront old new (end_text w.ending (run_rules w) stream)
HasEndedRun w (Err fault.Read) stream old new = ⊥
HasEndedRun w (Err fault.Turns) stream old new = ⊥
HasEndedRun w (Err fault.Failed) stream old new = ⊥

-- k reads, and the feeds of their octets, did this to an engine that held p; the stream goes on
-- after each of them
pub record HasFedReads (R : Rules) (stream_before octets_fed : List ℕ) (engine_after : EngineView)
    (read_count : ℕ) (before after : SourceLog) (old new : OutLog) : Type 0 where
  pub began : HasNoStreamFault stream_before
  pub running : HasNoStreamFault (stream_before ++ octets_fed)
  pub took : HasFed R stream_before octets_fed engine_after old new
  pub left : Consumes before.left after.left octets_fed
  pub octets : AreOctets octets_fed
  pub reads : after.reads ≤ before.reads + read_count
  pub exact : before.reads + read_count < 2 ^ 64 → after.reads ≡ before.reads + read_count
  pub failures : after.failures ≡ before.failures
  pub ends : after.ends ≡ before.ends
