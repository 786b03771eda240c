-- The rules that a stream is read by: the reader of its messages, how many of them may be open at
-- once, and whether Fragments of 1.1 are joined (meaning).
use Rattle.std.specs.Prelude.{ℕ, Bool, List, Option, nat_le}
use Rattle.giop_sig.specs.Table.{Table}
use Rattle.giop_message.specs.Phases.{Phase}
use Rattle.giop_message.specs.MessageReader.{MessageReader}
use Rattle.giop_message.specs.Messages.{read_message, message_lines}
use Rattle.giop_message.specs.Signatures.{RequestTable, Answers, by_list, signatures_of}
use Rattle.giop_message.specs.ReaderOfTable.{message_reader, first_request_id}
use Rattle.giop_stream.specs.declared.slots.TheConstants.{MOST_OPEN}

-- the request id that a message has given, from what padding is counted by, the message's number,
-- its header, and the octets after the header
abbrev pub RequestIds : Type 0
RequestIds = Phase → ℕ → List ℕ → List ℕ → Option ℕ

pub record Rules : Type 0 where
  pub reading : MessageReader
  pub asks : RequestIds
  pub most : ℕ
  pub joins : Bool

-- Fragments of 1.1 are joined by signature files from version 3 on.
abbrev pub joins_by : (C : Table) → Bool
joins_by C = nat_le 3 C.version

-- the request id by a table: the one that the header shows
unfoldable pub asks_by : (C : Table) (answers : Answers) → RequestIds
asks_by C a phase number header xs =
    first_request_id (message_lines (read_message (signatures_of C (a number) phase) header xs))

-- the rules of a table, of the operations that the ids of each message answer, and of this number
-- of open messages
abbrev pub rules_by : (C : Table) (answers : Answers) (most_open_messages : ℕ) → Rules
rules_by C a most = record {
  reading = message_reader C a;
  asks = asks_by C a;
  most = most;
  joins = joins_by C;
}

-- the rules if a request table gives the operations, the same ones for each message
abbrev pub rules : (C : Table) (request_table : RequestTable) (most_open_messages : ℕ) → Rules
rules C l most = rules_by C (by_list l) most

-- the greatest number of open messages that an engine may allow
abbrev pub most_open : ℕ
most_open = MOST_OPEN
