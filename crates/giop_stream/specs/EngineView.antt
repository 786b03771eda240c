-- The fields of an engine as contracts see them: what it keeps of a stream, and what it reads by
-- (state).
use Rattle.std.specs.Prelude.{ℕ, List, Bool, Option}
use Rattle.giop_sig.specs.Table.{Table}
use Rattle.giop_message.specs.Signatures.{RequestTable}
use Rattle.giop_checkpoint.specs.declared.fault.StreamFault.{StreamFault}
use Rattle.giop_stream.specs.declared.status.Totals.{Totals}
use Rattle.giop_stream.specs.declared.slots.Slots.{Slots}

-- what is kept of the stream
pub record FramingView : Type 0 where
  pub totals : Totals
  pub stopped : Option StreamFault
  pub header : List ℕ  -- the header octets that are held; all 12 within a payload
  pub payload_count : ℕ  -- how many payload octets were read
  pub slots : Slots  -- the messages that have begun and not ended

-- the whole engine: what it keeps of the stream, and what it reads by, which is the types of its
-- catalogue and what it knows of requests
pub record EngineView : Type 0 where
  pub failed : Bool
  pub table : Table
  pub request_table : RequestTable
  pub most : ℕ  -- the number of messages that may be open at once
  pub stream : FramingView
