-- What was put if the run over a capture failed.
use Rattle.std.proofs.Common.{◌≡◌, ◌<◌, ◌∙◌, ℕ, Bool, List, [], Option, Some, Err, refl}
use Rattle.std.specs.Io.KnownBytes.{Consumes}
use Rattle.capture_file.specs.declared.capture.Capture.{Capture}
use Rattle.tcp_flow.specs.Flow.{Event}
use Rattle.tcp_connections.specs.declared.connections.Connections.{Connections}
use Rattle.tcp_connections.specs.Connections.{none_known}
use Rattle.giop_print.specs.Output.{OutLog}
use Rattle.giop_conversation.specs.declared.conversations.Conversations.{Conversations}
use Rattle.giop_conversation.specs.Captured.{Setup}
use Rattle.giop_conversation.specs.DumpWritten.{IsWritten}
use Rattle.giop_conversation.specs.Follows.{Follows}
use Rattle.giop_conversation.specs.Followed.{stream_reader}
use Rattle.giop_run.specs.SourceLog.{SourceLog}
use Rattle.giop_run.specs.declared.fault.RunFault.{RunFault}
use Rattle.giop_run.specs.declared.fault.RunFault.TheVariants as runs
use Rattle.giop_run.specs.declared.fault.ProgramError.{ProgramError}
use Rattle.giop_run.specs.declared.fault.ProgramError.TheVariants as faults
use Rattle.giop_capture.specs.declared.arguments.Arguments.{Arguments}
use Rattle.giop_capture.specs.Packets.{HasGivenPackets, Ran}
use Rattle.giop_capture.specs.Notices.{seen}
use Rattle.giop_capture.specs.declared.notices.Seen.{Seen}
use Rattle.giop_capture.specs.declared.notices.Notice.{Notice}
use Rattle.giop_capture.specs.PacketState.{HasRead}
use Rattle.giop_capture.specs.Text.{HasTextSoFar}
use Rattle.giop_capture.specs.Steps.{ReadInPart, RunFailed}

-- the conversations have followed the events, and written their text
abbrev pub Observed : {O : Type 0} (begins : Setup → List ℕ → Type 0) (c : Conversations O)
    (s : Seen) (events : List Event) → Type 0
Observed begins c s events =
    Follows c events
    × ((S : Setup) (written : List ℕ) → begins S written → IsWritten S written events c)
    × (s ≡ seen events)

so_far : {O : Type 0} (c : Conversations O) (S : Setup) (written : List ℕ) (events : List Event)
    (put : Option (List ℕ)) → put ≡ c.out.whole → IsWritten S written events c
    → HasTextSoFar S written events put
so_far c S written events put same told = record {
  dump = told.dump;
  leads = told.leads;
  text = same ∙ told.holds.ready.known;
}

in_part : {O : Type 0} (begins : Setup → List ℕ → Type 0) (c : Conversations O) (made : Seen)
    (IsWritten : List Notice → Type 0) (asked : Arguments) (connections : Connections)
    (live links : List ℕ)
    (capture : Capture) (s : List ℕ) (before after : SourceLog) (put : Option (List ℕ))
    → put ≡ c.out.whole → Consumes before.left after.left s
    → HasGivenPackets (HasRead (Observed begins c made) IsWritten stream_reader connections live
    links
    (none_known asked.ports.items asked.pool asked.connections [])) capture [] s s []
    → ReadInPart begins asked before.left put
in_part begins c made IsWritten asked connections live links capture s before after put same given
    handed =
    record {
      left = after.left;
      octets = s;
      given = given;
      text = λ S written known.
          so_far c S written _ put same (handed.taken.state.observed.1 S written known);
    }

pub stopped : {O : Type 0} (fault : RunFault) (begins : Setup → List ℕ → Type 0)
    (c : Conversations O) (made : Seen) (IsWritten : List Notice → Type 0) (asked : Arguments)
    (connections : Connections)
    (live links : List ℕ) (capture : Capture) (s : List ℕ) (before after : SourceLog)
    (log : OutLog) → log.written ≡ c.out.whole → (fault ≡ runs.Out → 0 < log.failures)
    → Ran (Err fault) (HasRead (Observed begins c made) IsWritten stream_reader connections live
    links
    (none_known asked.ports.items asked.pool asked.connections [])) capture s before after
    → RunFailed begins asked before.left (faults.Run fault) (Some log)
unfolding in_part
stopped runs.Read begins c made IsWritten asked connections live links capture s before after log
    same
    out ran =
    in_part begins c made IsWritten asked connections live links capture s before after log.written
    same ran.given ran.handed
stopped runs.Turns begins c made IsWritten asked connections live links capture s before after log
    same
    out ran = (
      in_part begins c made IsWritten asked connections live links capture s before after
          log.written
          same ran.0.given ran.0.handed,
      ran.1,
    )
stopped runs.Out begins c made IsWritten asked connections live links capture s before after log
    same
    out ran =
    out refl
stopped runs.Failed begins c made IsWritten asked connections live links capture s before after log
    same
    out ran = absurd ran
