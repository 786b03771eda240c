-- What the reading of a whole capture has done (state).
use Rattle.std.specs.Prelude.{◌≡◌, ℕ, Bool, true, false, if◌then◌else◌, Some, None, List, [], ◌++◌, length, Option, IsSome, Result, Ok, Err, ◌⊎◌}
use Rattle.std.specs.Io.KnownBytes.{Consumes}
use Rattle.capture_file.specs.declared.capture.Capture.{Capture}
use Rattle.capture_file.specs.declared.fault.CaptureFault.{CaptureFault}
use Rattle.capture_file.specs.Reading.{packets, fault, final_fault}
use Rattle.capture_file.specs.CaptureState.{Reads}
use Rattle.tcp_flow.specs.Flow.{Event, Reader}
use Rattle.tcp_connections.specs.declared.connections.Connections.{Connections}
use Rattle.tcp_connections.specs.Connections.{State}
use Rattle.tcp_connections.specs.State.{IsAt}
use Rattle.giop_run.specs.SourceLog.{SourceLog}
use Rattle.giop_run.specs.Running.{ReadFoundEnd}
use Rattle.giop_run.specs.declared.fault.RunFault.{RunFault}
use Rattle.capture_file.specs.declared.fault.FaultKind.{FaultKind}
use Rattle.capture_file.specs.declared.fault.FaultKind.TheVariants as kinds
use Rattle.giop_capture.specs.declared.ending.Ending.{Ending}
use Rattle.giop_capture.specs.declared.ending.Ending.TheVariants as endings
use Rattle.giop_capture.specs.Packets.{PacketView, capture_packets, Ran}
use Rattle.giop_capture.specs.Arrivals.{capture_ended, notices_due}
use Rattle.giop_capture.specs.declared.notices.Notice.{Notice}

-- A capture was read to its end, or to its fault, after which nothing was read. The source gave the
-- octets s, and no read failed. The listener was told all that the packets of the capture, its
-- fault and its end do to the connections, and each notice that is due was given.
pub record ReadWhole (Observed : List Event → Type 0) (Told : List Notice → Type 0)
    (reader : Reader) (connections : Connections) (live_flow_ids : List ℕ)
    (capture_reader : Capture) (start_state : State) (octets_given : List ℕ)
    (before after : SourceLog) (fault_found : Option CaptureFault) : Type 0 where
  pub given : Consumes before.left after.left octets_given
  pub failures : after.failures ≡ before.failures
  pub read : List ℕ
  pub rest : List ℕ
  pub parts : octets_given ≡ read ++ rest
  pub over : (ReadFoundEnd before after × (rest ≡ [])) ⊎ IsSome (fault read)
  pub reads : Reads capture_reader read
  pub fault : fault_found ≡ final_fault read
  pub ended : IsAt Observed live_flow_ids connections (capture_ended reader start_state read)
  pub told : Told (notices_due reader start_state (capture_packets read))

-- What a run did, by its result. If the source failed, or the reads were used up, the listener has
-- taken the packets that came until then, and the capture hasn't ended.
abbrev pub CaptureRan : (result : Result (Option CaptureFault) RunFault)
    (HasTaken : List PacketView → Type 0) (Observed : List Event → Type 0)
    (Told : List Notice → Type 0) (reader : Reader) (connections : Connections)
    (live_flow_ids : List ℕ) (capture_reader : Capture) (start_state : State)
    (octets_given : List ℕ) (before after : SourceLog) → Type 0
CaptureRan (Ok found) HasTaken Observed Told F connections live c start octets before after =
    ReadWhole Observed Told F connections live c start octets before after found
CaptureRan (Err failed) HasTaken Observed Told F connections live c start octets before after =
    Ran (Err failed) HasTaken c octets before after

-- how the dump of a capture ended, by whether the listener was told of a fault
abbrev pub ending_by_faulty : (was_told_of_fault : Bool) → Ending
ending_by_faulty faulty = if faulty then endings.Faulty else endings.Whole

-- how a dump ended, by the rule that the capture breaks: if it doesn't begin as a capture, it is
-- none
abbrev pub ending_by_kind : (broken_rule : FaultKind) (was_told_of_fault : Bool) → Ending
ending_by_kind (kinds.Magic file) faulty = endings.NoCapture file
ending_by_kind _ faulty = ending_by_faulty faulty

-- how a dump ended, by the fault of the capture, and by whether the listener was told of any fault
abbrev pub ending_of : (capture_fault : Option CaptureFault) (was_told_of_fault : Bool) → Ending
ending_of (Some fault) faulty = ending_by_kind fault.kind faulty
ending_of None faulty = ending_by_faulty faulty

-- A capture was read whole, and all that is due was written. The listener was told of all before it
-- wrote the last lines, which say whether it was told of a fault. After that it has finished.
pub record DumpedWholeCapture {L : Type 0} (ending : Ending) (observed : L → List Event → Type 0)
    (finished : L → List Event → ℕ → ℕ → Bool → Type 0) (was_told_of_fault : L → Bool)
    (reader : Reader) (Told : List Notice → Type 0) (capture_reader : Capture) (start_state : State)
    (before after : SourceLog) (listener_after : L) : Type 0 where
  pub listener : L
  pub connections : Connections
  pub live : List ℕ
  pub octets : List ℕ
  pub found : Option CaptureFault
  pub whole : ReadWhole (observed listener) Told reader connections live capture_reader start_state
      octets before after found
  pub ends : ending ≡ ending_of found (was_told_of_fault listener)
  pub last : finished listener_after (capture_ended reader start_state whole.read).events
      (length (packets whole.read)) (length whole.read) (was_told_of_fault listener)
