-- What the steps of the program did, by their result (meaning).
use Rattle.std.specs.Prelude.{◌≡◌, ◌<◌, ◌≤◌, ◌^◌, ◌⊎◌, ℕ, Bool, List, [], ◌++◌, length, map, Option, Some, None, IsSome, option_map, Result, Ok, Err}
use Rattle.std.specs.Io.KnownBytes.{Consumes, IsAtEnd}
use Rattle.capture_file.specs.Reading.{packets, fault, final_fault}
use Rattle.giop_print.specs.Output.{OutLog}
use Rattle.giop_sig.specs.Table.{Table}
use Rattle.tcp_connections.specs.Connections.{none_known}
use Rattle.giop_conversation.specs.Captured.{Setup, setup}
use Rattle.giop_conversation.specs.Followed.{stream_reader}
use Rattle.giop_run.specs.declared.fault.RunFault.TheVariants as runs
use Rattle.giop_run.specs.declared.fault.ProgramError.{ProgramError}
use Rattle.giop_run.specs.declared.fault.ProgramError.TheVariants as faults
use Rattle.giop_run.specs.Console.{fault_status}
use Rattle.giop_run.specs.Files.{KnownFiles, FileErrors, NoStream, stream_octets}
use Rattle.giop_run.specs.Joint.{CataloguesOf, NoCatalogues}
use Rattle.giop_capture.specs.declared.arguments.Arguments.{Arguments}
use Rattle.giop_capture.specs.declared.ending.Ending.{Ending}
use Rattle.giop_capture.specs.declared.ending.Ending.TheVariants as endings
use Rattle.giop_capture.specs.Packets.{capture_packets}
use Rattle.giop_capture.specs.Arrivals.{after_packets, capture_ended}
use Rattle.giop_capture.specs.CaptureRun.{ending_of}
use Rattle.giop_capture.specs.Text.{HasText, HasTextSoFar, HasStreams}

-- the program's status: 0; 1 if a fault was counted, a stream was cut, or the file is no capture;
-- or the status of the failure
abbrev pub capture_status : (result : Result Ending ProgramError) → ℕ
capture_status (Ok endings.Whole) = 0
capture_status (Ok endings.Faulty) = 1
capture_status (Ok (endings.NoCapture file)) = 1
capture_status (Err fault) = fault_status fault

-- the names of the signature files that the arguments give
abbrev pub signatures_of : (asked : Arguments) → List (List ℕ)
signatures_of asked = map (λ name. name.now) asked.signatures.items

abbrev pub capture_of : (asked : Arguments) → Option (List ℕ)
capture_of asked = option_map (λ name. name.now) asked.capture

-- What is known of a dump before it begins is true: its setup is the one that the arguments ask
-- for, with these types, and this was written before.
abbrev pub BeginsAs : (begins_with : Setup → List ℕ → Type 0) (asked : Arguments) (table : Table)
    (written_before : Option (List ℕ)) → Type 0
BeginsAs begins asked table before =
    (S : Setup) (written : List ℕ) → begins S written
    → (S ≡ setup table asked.messages asked.calls asked.connections asked.first_stream)
    × (before ≡ Some written)

-- A source was read to the end of a capture or to the capture's fault, after which nothing was
-- read. `source_octets` are those of the source, if they are known. What was put is what was
-- written before, then the text of what the capture's packets, its fault and its end do if no
-- connection was known before, then the capture's last line, and nothing else. In it the lines of
-- each stream are giopdump's. The ending says whether there was a fault.
pub record CaptureDumped (ending : Ending) (begins_with : Setup → List ℕ → Type 0)
    (asked : Arguments) (source_octets all_put : Option (List ℕ)) : Type 0 where
  pub left : Option (List ℕ)
  pub octets : List ℕ
  pub given : Consumes source_octets left octets
  pub read : List ℕ
  pub rest : List ℕ
  pub parts : octets ≡ read ++ rest
  pub over : (IsAtEnd left × (rest ≡ [])) ⊎ IsSome (fault read)
  pub faulty : Bool
  pub ends : ending ≡ ending_of (final_fault read) faulty
  pub text : (S : Setup) (written : List ℕ) → begins_with S written
      → HasText S written
      (capture_ended stream_reader (none_known asked.ports.items asked.pool asked.connections [])
      read).events
      (length (packets read)) (length read) faulty all_put
  pub streams : (S : Setup) (written : List ℕ) (known : begins_with S written)
      → HasStreams S written
      (capture_ended stream_reader (none_known asked.ports.items asked.pool asked.connections [])
      read).events
      (length (packets read)) (length read) (text S written known)

-- The reading of a capture stopped after some octets of a source. What was put is what was written
-- before, and then the text of what the packets in these octets do if no connection was known
-- before, and nothing else.
pub record ReadInPart (begins_with : Setup → List ℕ → Type 0) (asked : Arguments)
    (source_octets all_put : Option (List ℕ)) : Type 0 where
  pub left : Option (List ℕ)
  pub octets : List ℕ
  pub given : Consumes source_octets left octets
  pub text : (S : Setup) (written : List ℕ) → begins_with S written
      → HasTextSoFar S written
      (after_packets stream_reader (none_known asked.ports.items asked.pool asked.connections [])
      (capture_packets octets)).events
      all_put

-- A read failed; or the reads were used up, and each of them gave an octet; or the writing of the
-- lines failed: a put or a flush of the out.
abbrev pub RunFailed : (begins_with : Setup → List ℕ → Type 0) (asked : Arguments)
    (source_octets : Option (List ℕ)) (fault : ProgramError) (log_if_begun : Option OutLog) → Type 0
RunFailed begins asked source (faults.Run runs.Read) (Some log) =
    ReadInPart begins asked source log.written
RunFailed begins asked source (faults.Run runs.Turns) (Some log) =
    (part : ReadInPart begins asked source log.written) × (2 ^ 40 ≤ length part.octets)
RunFailed begins asked source (faults.Run runs.Out) (Some log) = 0 < log.failures
RunFailed begins asked source _ _ = ⊥

-- why a capture wasn't dumped: the first step that failed, or the run, with the log of its out
abbrev pub NotDumped : (held : KnownFiles) (refuses : FileErrors) (source_octets : Option (List ℕ))
    (begins_with : Setup → List ℕ → Type 0) (asked : Arguments) (fault : ProgramError)
    (log_if_begun : Option OutLog) → Type 0
NotDumped held refuses source begins asked fault log =
    NoCatalogues held refuses (signatures_of asked) fault
    ⊎ ((C : Table) × CataloguesOf held (signatures_of asked) C
    × (NoStream refuses (capture_of asked) fault ⊎ RunFailed begins asked source fault log))

-- ---- The program's status.

-- nothing is known of a dump before it begins
abbrev pub nothing_known : (S : Setup) (written : List ℕ) → Type 0
nothing_known S written = ⊥

-- What the steps did, if nothing is known of files, of standard input, and of what was written
-- before.
abbrev pub HasTakenSteps : (asked : Arguments) (result : Result Ending ProgramError) → Type 0
HasTakenSteps asked (Ok ending) =
    (put : Option (List ℕ))
    × CaptureDumped ending nothing_known asked (stream_octets (λ name. None) None
    (capture_of asked)) put
HasTakenSteps asked (Err fault) =
    (log : Option OutLog)
    × NotDumped (λ name. None) (λ name kind. Unit {0})
    (stream_octets (λ name. None) None (capture_of asked)) nothing_known asked fault log

-- the status is the one for what the steps did
abbrev pub HasStatus : (asked : Arguments) (status : ℕ) → Type 0
HasStatus asked status =
    (ended : Result Ending ProgramError) × HasTakenSteps asked ended
    × (status ≡ capture_status ended)

-- the status is one for words that ask for no dump: 0 for help or a version, 2 for words that can't
-- be read, 4 for a text that can't be printed, 5 for no memory
abbrev pub IsStatusWithoutDump : (status : ℕ) → Type 0
IsStatusWithoutDump status = (status ≡ 0) ⊎ (status ≡ 2) ⊎ (status ≡ 4) ⊎ (status ≡ 5)

-- the status is one that the program may have
abbrev pub IsStatus : (status : ℕ) → Type 0
IsStatus status = IsStatusWithoutDump status ⊎ ((asked : Arguments) × HasStatus asked status)
