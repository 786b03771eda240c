-- How to show that a call does a step; and the fields after a message's last octet.
use Rattle.std.proofs.Common.{arith, ◌≡◌, ℕ, ◌+◌, ◌<◌, ◌≤◌, List, [], ◌∷◌, ◌++◌, length, refl, Option, Some, None, Result, Ok, Err, IsErr}
use Rattle.std.specs.Prelude.{OnOk}
use Rattle.std.proofs.lemmas.Bool.{lt-ltb, le-ltb, eq-eqb, ne_eqb, false≢true}
use Rattle.std.proofs.lemmas.List.{append_cancel_left}
use Rattle.giop_print.specs.Output.{OutLog, Writes}
use Rattle.giop_sig.specs.Table.{Table}
use Rattle.giop_message.specs.Headers.{size}
use Rattle.giop_message.specs.Signatures.{Answers}
use Rattle.giop_checkpoint.specs.declared.fault.StreamFault.{StreamFault}
use Rattle.giop_stream.specs.Rules.{rules_by}
use Rattle.giop_stream.specs.Framing.{CutMessage, fault_of}
use Rattle.giop_stream.specs.Lines.{StreamLine, lines}
use Rattle.giop_stream.specs.Text.{lines_text}
use Rattle.giop_stream.specs.SlotsRepresent.{AreReady}
use Rattle.giop_stream.specs.EngineView.{FramingView}
use Rattle.giop_stream.specs.EngineState.{state_of}
use Rattle.giop_stream.specs.EngineStep.{Step}
use Rattle.giop_stream.specs.FramingSteps.{cleared_if_complete as settled}
use Rattle.giop_stream.specs.ViewOfState.{Shows, Does}
use Rattle.giop_stream.proofs.Cuts.Cutting.{cut_of_parts}
use Rattle.giop_stream.proofs.Cuts.CutFrom.{cut_with_last_message}

-- ---- A call does a step, if it writes the lines of the longer stream and leaves its state.

pub does_by : {A E : Type 0} (C : Table) (l : Answers) (most : ℕ) (p q : List ℕ) (one : Step)
    (ls : List StreamLine) (result : Result A E) (before after : OutLog) (f : FramingView)
    → (let R = rules_by C l most in state_of R q ≡ one.state → lines R q ≡ lines R p ++ one.lines
    → lines R q ≡ lines R p ++ ls → Writes result before after (lines_text ls) →
    OnOk result (Shows C l f (state_of R q))
    → Does C l result before after f one)
does_by C l most p q one ls result before after f state more grows text shows = search (
  arith,
  append_cancel_left,
)

-- if a put failed, nothing is said of the fields
pub on_err : {A E : Type 0} (P : Type 0) (r : Result A E) → IsErr r → OnOk r P
on_err P (Ok x) h = absurd (false≢true h)
on_err P (Err e) h = tt

-- ---- After a message's last octet, and before it.

pub settled_on : (m : FramingView) (n : ℕ) → (m.payload_count ≡ n → ⊥) → settled m n ≡ m
unfolding settled
settled_on m n other = search (arith, ne_eqb)

pub settled_off : (m : FramingView) (n : ℕ) → m.payload_count ≡ n →
    settled m n ≡ record m { header = []; payload_count = 0 }
unfolding settled
settled_off m n same = search (arith, eq-eqb)

pub goes_on : (whole : List CutMessage) (m : CutMessage) → length m.payload < size m.header →
    cut_with_last_message whole m ≡ cut_of_parts whole (Some m) [] None
unfolding cut_with_last_message cut_of_parts
goes_on whole m less = search (arith, lt-ltb)

pub goes_off : (whole : List CutMessage) (m : CutMessage) → size m.header ≤ length m.payload →
    cut_with_last_message whole m ≡ cut_of_parts (whole ++ m ∷ []) None [] None
unfolding cut_with_last_message cut_of_parts
goes_off whole m more = search (arith, le-ltb)

-- the slots stay ready after a message's last octet
pub ready_settled : (C : Table) (m m' : FramingView) (n place : ℕ) → m' ≡ settled m n →
    place ≡ m.totals.octets
    → AreReady C (place + 1) m.slots → AreReady C (m'.totals.octets + 1) m'.slots
unfolding settled
ready_settled C m m' n place e is h = search (arith)

pub none_stops : (o : Option (ℕ × StreamFault)) → fault_of o ≡ None → o ≡ None
none_stops None e = refl
none_stops (Some found) e = absurd cc
