-- The streams that an engine holds. The whole stream determines each of its fields (state).
use Rattle.std.specs.Prelude.{◌≡◌, ℕ, List, length, drop, ◌++◌, true, false, Option, Some, None, Result, Ok, Err}
use Rattle.giop_cdr.specs.Numbers.{AreOctets}
use Rattle.giop_print.specs.Output.{OutLog, Wrote, WroteFront}
use Rattle.giop_sig.specs.Table.{Table}
use Rattle.giop_message.specs.Signatures.{RequestTable, Answers, by_list}
use Rattle.giop_stream.specs.Rules.{Rules, rules, rules_by}
use Rattle.giop_message.specs.MessageState as messages
use Rattle.giop_checkpoint.specs.declared.fault.StreamFault.{StreamFault}
use Rattle.giop_stream.specs.declared.status.Status.{Status}
use Rattle.giop_stream.specs.declared.status.Status.TheVariants.{Running, Stopped}
use Rattle.giop_stream.specs.declared.fault.Stop.{Stop}
use Rattle.giop_stream.specs.declared.fault.Stop.TheVariants as stop
use Rattle.giop_stream.specs.Stream.{text}
use Rattle.giop_stream.specs.EngineState.{state_of}
use Rattle.giop_stream.specs.ViewOfState.{Shows}
use Rattle.giop_stream.specs.EngineView.{EngineView}

-- the request table is one for the operations of this table
abbrev pub IsRequestTableOf : (C : Table) (request_table : RequestTable) → Type 0
IsRequestTableOf C l = messages.IsRequestTableOf C l

-- the rules that an engine reads by: its table, the operations that the ids of each message answer,
-- and the number of messages that may be open
abbrev pub rules_with : (engine : EngineView) (answers : Answers) → Rules
rules_with e a = rules_by e.table a e.most

-- the rules that an engine reads by, if its request table gives the operations
abbrev pub rules_of : (engine : EngineView) → Rules
rules_of e = rules e.table e.request_table e.most

-- what these octets add to the text of a stream
unfoldable pub added : (R : Rules) (stream octets_after_stream : List ℕ) → List ℕ
added R stream more = drop (length (text R stream)) (text R (stream ++ more))

-- The engine holds the stream, if the ids of each message answer these operations: its fields show
-- the state of the stream.
pub record HoldsBy (engine : EngineView) (answers : Answers) (stream : List ℕ) : Type 0 where
  pub sound : engine.failed ≡ false
  pub octets : AreOctets stream
  pub shows : Shows engine.table answers engine.stream (state_of (rules_with engine answers) stream)

-- The engine holds the stream, if its request table gives the operations.
abbrev pub Holds : (engine : EngineView) (stream : List ℕ) → Type 0
Holds e stream = HoldsBy e (by_list e.request_table) stream

abbrev pub status_of : (fault : Option StreamFault) → Status
status_of None = Running
status_of (Some fault) = Stopped fault

-- what was written: all that was due; or a front of it, if a put failed; or nothing, if the engine
-- had failed before
abbrev pub StopWrites : {A : Type 0} (result : Result A Stop) (before after : OutLog)
    (octets_due : List ℕ) → Type 0
StopWrites (Ok x) before after due = Wrote before after due
StopWrites (Err (stop.Out f)) before after due = WroteFront before after due
StopWrites (Err stop.Failed) before after due = after ≡ before

-- how a call leaves the engine: whether it has failed, and with which totals
abbrev pub Leaves : {A : Type 0} (result : Result A Stop)
    (engine_before engine_after : EngineView) → Type 0
Leaves (Ok x) before after = (before.failed ≡ false) × (after.failed ≡ false)
Leaves (Err (stop.Out f)) before after =
    (before.failed ≡ false) × (after.failed ≡ true) × (after.stream.totals ≡ before.stream.totals)
Leaves (Err stop.Failed) before after = (before.failed ≡ true) × (after ≡ before)
