-- The packets of a capture that a listener was given (meaning).
use Rattle.std.specs.Prelude.{◌≡◌, ℕ, List, [], ◌++◌, length, Bool, true, false, IsSome, map, Result, Ok, Err, ◌⊎◌, ◌<◌, ◌≤◌, ◌^◌}
use Rattle.std.specs.Io.KnownBytes.{Consumes}
use Rattle.capture_file.specs.declared.capture.Capture.{Capture}
use Rattle.capture_file.specs.declared.part.PacketInfo.{PacketInfo}
use Rattle.capture_file.specs.declared.progress.Packet.{Packet}
use Rattle.capture_file.specs.Reading.{PacketRecord, packets, fault}
use Rattle.capture_file.specs.CaptureState.{Reads}
use Rattle.giop_print.specs.Output.{saturating_next}
use Rattle.giop_run.specs.SourceLog.{SourceLog}
use Rattle.giop_run.specs.Running.{ReadFoundEnd}
use Rattle.giop_run.specs.declared.fault.RunFault.{RunFault}
use Rattle.giop_run.specs.declared.fault.RunFault.TheVariants as faults

-- a packet as a listener gets it: its link type and time, and its octets
pub record PacketView : Type 0 where
  pub info : PacketInfo
  pub octets : List ℕ

abbrev pub packet_view : Packet → PacketView
packet_view p = record { info = record { link = p.link; time = p.time }; octets = p.octets.now }

abbrev pub view_of_record : PacketRecord → PacketView
view_of_record p = record { info = p.info; octets = p.octets }

-- the packets of a capture, as a listener gets them
abbrev pub capture_packets : (capture : List ℕ) → List PacketView
capture_packets capture = map view_of_record (packets capture)

-- from some start on, the listener has taken all packets of what the capture has read
abbrev pub HasTakenAllRead : {Self Start : Type 0} (taken : Self → Start → List PacketView → Type 0)
    (listener : Self) (capture_reader : Capture) → Type 0
HasTakenAllRead {Start = Start} taken listener c =
    (start : Start) × (p : List ℕ) × Reads c p × taken listener start (capture_packets p)

-- Of the octets that came after others, those of `octets_read` were read, and the packets that they
-- complete were given to the listener. Those of `octets_unread` weren't looked at.
pub record HasGivenPackets (HasTaken : List PacketView → Type 0) (capture_reader : Capture)
    (octets_before octets_given octets_read octets_unread : List ℕ) :
    Type 0 where
  pub parts : octets_given ≡ octets_read ++ octets_unread
  pub reads : Reads capture_reader (octets_before ++ octets_read)
  pub taken : HasTaken (capture_packets (octets_before ++ octets_read))

-- All octets were read, or, if the result is false, those up to a fault of the capture.
abbrev pub HasGivenUpToFault : (goes_on : Bool) (HasTaken : List PacketView → Type 0)
    (capture_reader : Capture) (octets_before octets_given : List ℕ) → Type 0
HasGivenUpToFault true HasTaken c capture octets = HasGivenPackets HasTaken c capture octets octets
    []
HasGivenUpToFault false HasTaken c capture octets =
    (read rest : List ℕ) × HasGivenPackets HasTaken c capture octets read rest × IsSome
    (fault (capture ++ read))

-- ---- What a run did with a source, which gave the octets s.

-- all that the source gave was read after p, and its packets were given to the listener; no read
-- failed, and none was at the end
pub record ReadAll (HasTaken : List PacketView → Type 0) (capture_reader : Capture)
    (octets_before octets_given : List ℕ)
    (before after : SourceLog) : Type 0 where
  pub given : Consumes before.left after.left octets_given
  pub failures : after.failures ≡ before.failures
  pub ends : after.ends ≡ before.ends
  pub handed : HasGivenPackets HasTaken capture_reader octets_before octets_given octets_given []

-- a read failed, and there was no read after it; the packets of all that was read were given to the
-- listener
pub record ReadStopped (HasTaken : List PacketView → Type 0) (capture_reader : Capture)
    (octets_before octets_given : List ℕ)
    (before after : SourceLog) : Type 0 where
  pub given : Consumes before.left after.left octets_given
  pub failures : after.failures ≡ saturating_next before.failures
  pub handed : HasGivenPackets HasTaken capture_reader octets_before octets_given octets_given []

-- The source came to its end, or the capture to a fault, after which nothing was read. No read
-- failed.
pub record ReadToEnd (HasTaken : List PacketView → Type 0) (capture_reader : Capture)
    (octets_before octets_given : List ℕ)
    (before after : SourceLog) : Type 0 where
  pub given : Consumes before.left after.left octets_given
  pub failures : after.failures ≡ before.failures
  pub read : List ℕ
  pub rest : List ℕ
  pub handed : HasGivenPackets HasTaken capture_reader octets_before octets_given read rest
  pub over : (ReadFoundEnd before after × (rest ≡ [])) ⊎ IsSome (fault (octets_before ++ read))

-- the listener failed, and no read did
pub record NotTaken (octets_given : List ℕ) (before after : SourceLog) : Type 0 where
  pub given : Consumes before.left after.left octets_given
  pub failures : after.failures ≡ before.failures

-- What a run did, by its result. If the listener failed, nothing is said of what it has taken. If
-- the reads were used up, each of them gave an octet.
abbrev pub Ran : (result : Result (Unit {0}) RunFault) (HasTaken : List PacketView → Type 0)
    (capture_reader : Capture) (octets_given : List ℕ) (before after : SourceLog) → Type 0
Ran (Ok _) HasTaken c octets before after = ReadToEnd HasTaken c [] octets before after
Ran (Err faults.Read) HasTaken c octets before after = ReadStopped HasTaken c [] octets before after
Ran (Err faults.Turns) HasTaken c octets before after =
    ReadAll HasTaken c [] octets before after × (2 ^ 40 ≤ length octets)
Ran (Err faults.Out) HasTaken c octets before after = NotTaken octets before after
Ran (Err faults.Failed) HasTaken c octets before after = ⊥

-- ---- One read of a run (steps).

-- what a read and its packets did after these octets of the capture; the result is true if the
-- reading goes on
abbrev pub HasReadOnce : (result : Result Bool RunFault) (HasTaken : List PacketView → Type 0)
    (capture_reader : Capture) (octets_before octets_given : List ℕ) (before after : SourceLog) →
    Type 0
HasReadOnce (Ok true) HasTaken c capture octets before after =
    ReadAll HasTaken c capture octets before after × (0 < length octets)
HasReadOnce (Ok false) HasTaken c capture octets before after =
    ReadToEnd HasTaken c capture octets before after
HasReadOnce (Err faults.Read) HasTaken c capture octets before after =
    ReadStopped HasTaken c capture octets before after
HasReadOnce (Err faults.Turns) HasTaken c capture octets before after = ⊥
HasReadOnce (Err faults.Out) HasTaken c capture octets before after = NotTaken octets before after
HasReadOnce (Err faults.Failed) HasTaken c capture octets before after = ⊥
