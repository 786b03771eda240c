-- A call carries out the effect of events: the lines that it writes, the faults that it counts, and
-- what the slots keep after it (steps). Only private clauses cite these.
use Rattle.std.specs.Prelude.{◌≡◌, ℕ, Bool, List, Option, Result, OnOk, IfOk, if◌then◌else◌}
use Rattle.giop_print.specs.Output.{OutLog, Writes}
use Rattle.giop_sig.specs.Table.{Table}
use Rattle.giop_message.specs.declared.message.Message.{Message as CodeMessage}
use Rattle.giop_message.specs.Signatures.{Answers}
use Rattle.giop_stream.specs.declared.slots.Slots.{Slots}
use Rattle.giop_stream.specs.Events.{MessageKey}
use Rattle.giop_stream.specs.Lines.{StreamLine}
use Rattle.giop_stream.specs.Text.{lines_text}
use Rattle.giop_stream.specs.Stream.{fault_count}
use Rattle.giop_stream.specs.Effects.{Effect, MessageEffect}
use Rattle.giop_stream.specs.SlotsRepresent.{RepresentsMessage, SlotsRepresent}

-- The call writes these lines, and its result counts the faults among them. If it doesn't fail,
-- `leaves` holds after it.
pub record WritesAndLeaves {A E : Type 0} (fault_count_in_result : A → ℕ) (result : Result A E)
    (before after : OutLog) (lines : List StreamLine) (leaves : Type 0) : Type 0 where
  pub text : Writes result before after (lines_text lines)
  pub faults : IfOk result (λ x. fault_count lines ≡ fault_count_in_result x)
  pub kept : OnOk result leaves

-- how many faults the result of a call counts, if it tells whether there is a fault
abbrev pub count_one_if : (fault : Bool) → ℕ
count_one_if fault = if fault then 1 else 0

-- the same if it tells how many there are
abbrev pub count_all : (faults : ℕ) → ℕ
count_all faults = faults

-- the same if it finds none
abbrev pub count_none : {A : Type 0} (value : A) → ℕ
count_none value = 0

-- The slots represent what the effect leaves tracked, and the next octets of the payload belong to
-- this message.
abbrev pub DoesEffect : {A E : Type 0} (C : Table) (answers : Answers)
    (fault_count_in_result : A → ℕ) (result : Result A E) (before after : OutLog) (slots : Slots)
    (effect : Effect) (owner_of_next : Option MessageKey) → Type 0
DoesEffect C l count result before after slots effect owner_of_next =
    WritesAndLeaves count result before after effect.lines
    (SlotsRepresent C l slots effect.tracked owner_of_next)

-- The code's message with this number and header represents what this part of an effect leaves.
abbrev pub DoesMessageEffect : {A E : Type 0} (C : Table) (answers : Answers)
    (fault_count_in_result : A → ℕ) (result : Result A E) (before after : OutLog)
    (message : Option CodeMessage) (key : MessageKey) (effect_part : MessageEffect) → Type 0
DoesMessageEffect C l count result before after message w part =
    WritesAndLeaves count result before after part.lines
    (RepresentsMessage C l message w part.kept)

-- The call writes only lines: nothing is kept.
abbrev pub WritesLines : {A E : Type 0} (fault_count_in_result : A → ℕ) (result : Result A E)
    (before after : OutLog) (lines : List StreamLine) → Type 0
WritesLines count result before after lines =
    WritesAndLeaves count result before after lines (Unit {0})
