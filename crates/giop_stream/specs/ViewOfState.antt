-- How the fields of the code show the state that an engine holds of a stream (state), and what a
-- call does to them (steps).
use Rattle.std.specs.Prelude.{◌≡◌, ◌-◌, ℕ, List, length, Result, OnOk, nat_lt, if◌then◌else◌}
use Rattle.giop_print.specs.Output.{OutLog, Writes}
use Rattle.giop_cdr.specs.Numbers.{AreOctets}
use Rattle.giop_sig.specs.Table.{Table}
use Rattle.giop_message.specs.Headers.{size}
use Rattle.giop_stream.specs.Rules.{rules_by}
use Rattle.giop_message.specs.Signatures.{Answers}
use Rattle.giop_stream.specs.EngineView.{FramingView}
use Rattle.giop_stream.specs.Text.{lines_text}
use Rattle.giop_stream.specs.SlotsRepresent.{SlotsRepresent}
use Rattle.giop_stream.specs.EngineState.{State, state_of}
use Rattle.giop_stream.specs.EngineStep.{Step}

-- how many payload octets were read
unfoldable pub payload_count_in : (state : State) → ℕ
payload_count_in s = if nat_lt (length s.held) 12 then 0 else size s.held - s.left

-- The fields show this state.
pub record Shows (C : Table) (answers : Answers) (fields : FramingView)
    (state : State) : Type 0 where
  pub totals : fields.totals ≡ state.totals
  pub stopped : fields.stopped ≡ state.stop
  pub header : fields.header ≡ state.held
  pub payload_count : fields.payload_count ≡ payload_count_in state
  pub slots : SlotsRepresent C answers fields.slots state.tracked state.owner

-- The state is the state of an engine that has read some stream of octets.
pub record IsReached (C : Table) (answers : Answers) (most_open_messages : ℕ) (state : State)
    : Type 0 where
  pub stream : List ℕ
  pub octets : AreOctets stream
  pub held : state ≡ state_of (rules_by C answers most_open_messages) stream

-- a call writes the lines of this step, and its fields then show the state of the step
pub record Does {A E : Type 0} (C : Table) (answers : Answers) (result : Result A E)
    (before after : OutLog) (fields : FramingView) (step_done : Step) : Type 0 where
  pub text : Writes result before after (lines_text step_done.lines)
  pub shows : OnOk result (Shows C answers fields step_done.state)
