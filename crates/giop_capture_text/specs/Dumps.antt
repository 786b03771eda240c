-- What a dump of a capture in memory is, with the built-in types and the limits that hold without
-- arguments (meaning).
use Rattle.std.specs.Prelude.{◌≡◌, ℕ, Bool, List, [], ◌++◌, length, Some, IsSome, ◌⊎◌}
use Rattle.capture_file.specs.Reading.{packets, fault, final_fault}
use Rattle.giop_sig.specs.Builtin.{builtin_table}
use Rattle.tcp_connections.specs.Connections.{none_known}
use Rattle.giop_conversation.specs.Captured.{Setup, setup}
use Rattle.giop_conversation.specs.Followed.{stream_reader}
use Rattle.giop_capture.specs.declared.ending.Ending.{Ending}
use Rattle.giop_capture.specs.Arrivals.{capture_ended}
use Rattle.giop_capture.specs.CaptureRun.{ending_of}
use Rattle.giop_capture.specs.Text.{HasText}

-- 16 open messages for each stream, 128 outstanding calls for each flow, 1,024 connections; the
-- first stream is s1
abbrev pub plain_setup : Setup
plain_setup = setup builtin_table 16 128 1024 1

-- The text is the text of what the capture's packets, its fault and its end do if no connection was
-- known before, then the capture's last line, and nothing else. If the capture has a fault, nothing
-- was read after it; else it was read to its end. The ending says whether there was a fault, or a
-- stream that was cut.
pub record IsDumpOf (capture : List ℕ) (ending : Ending) (text : List ℕ) : Type 0 where
  pub read : List ℕ
  pub rest : List ℕ
  pub parts : capture ≡ read ++ rest
  pub over : (rest ≡ []) ⊎ IsSome (fault read)
  pub faulty : Bool
  pub ends : ending ≡ ending_of (final_fault read) faulty
  pub is : HasText plain_setup []
      (capture_ended stream_reader (none_known [] 16384 1024 []) read).events
      (length (packets read)) (length read) faulty (Some text)
