-- One direction of a connection as contracts see it, and the stream that it has read (state).
use Rattle.std.specs.Prelude.{◌≡◌, ℕ, Bool, List, Option, Some, None}
use Rattle.giop_checkpoint.specs.declared.fault.StreamFault.{StreamFault}
use Rattle.giop_sig.specs.Table.{Table}
use Rattle.giop_message.specs.Signatures.{Answers}
use Rattle.giop_stream.specs.EngineView.{EngineView}
use Rattle.giop_stream.specs.EngineHolds.{HoldsBy}
use Rattle.tcp_segment.specs.declared.endpoint.Flow.{Flow}

pub record DirectionView : Type 0 where
  pub engine : EngineView
  pub stream : ℕ  -- the number of its last stream, from 1; 0 if none has begun
  pub is_live : Bool  -- whether that stream lives
  pub flow : Option Flow  -- who sends to whom

-- the number of the octet at which a stream has a stream fault, from 1, if it has one
abbrev pub fault_place : (octet_number_and_fault : Option (ℕ × StreamFault)) → Option ℕ
fault_place None = None
fault_place (Some found) = Some found.0

-- The engine has read this stream, by some answers to the ids of its messages.
pub record HasRead (engine : EngineView) (stream : List ℕ) : Type 0 where
  pub answers : Answers
  pub holds : HoldsBy engine answers stream

-- The engine has read some stream, by these types.
pub record IsReading (table : Table) (engine : EngineView) : Type 0 where
  pub same : engine.table ≡ table
  pub stream : List ℕ
  pub read : HasRead engine stream
