-- An octet outside of messages: in an incomplete header, past the limit, or after a stream fault.
-- The code does its step.
use Rattle.std.proofs.Common.{◌≡◌, ℕ, suc, ◌+◌, ◌^◌, ◌<◌, ◌≤◌, true, false, List, [], ◌∷◌, ◌++◌, length, refl, append-nil, Option, Some, None, arith}
use Rattle.std.specs.Prelude.{nat_lt, not, is_some}
use Rattle.std.proofs.lemmas.Bool.{cases_eq, lt-ltb, le-ltb, ne_eqb, false≢true}
use Rattle.std.proofs.lemmas.List.{length_push}
use Rattle.giop_sig.specs.Table.{Table}
use Rattle.giop_message.specs.Signatures.{Answers}
use Rattle.giop_checkpoint.specs.declared.fault.StreamFault.{StreamFault}
use Rattle.giop_checkpoint.specs.declared.fault.StreamFault.TheVariants.{StreamLimit}
use Rattle.giop_stream.specs.HeaderOctets.{last_octet_fault}
use Rattle.giop_stream.specs.Rules.{Rules, joins_by, rules_by}
use Rattle.giop_stream.specs.Framing.{limit}
use Rattle.giop_stream.specs.Lines.{stop_line}
use Rattle.giop_stream.specs.Text.{stop_text, lines_text}
use Rattle.giop_stream.specs.SlotsRepresent.{IsBare, AreReady}
use Rattle.giop_stream.specs.OpenSlots.{slots_of}
use Rattle.giop_stream.specs.EngineView.{FramingView}
use Rattle.giop_stream.specs.Octet.{kind_after_front, octet_in}
use Rattle.giop_stream.specs.EngineState.{State}
use Rattle.giop_stream.specs.EngineStep.{fresh_state, kind_of_octet, stream_fault_step, header_octet_step, step}
use Rattle.giop_stream.specs.FramingSteps as steps
use Rattle.giop_stream.specs.ViewOfState.{Shows, payload_count_in}
use Rattle.giop_stream.proofs.CodeSteps.OneOctet.{octet_limit, octet_front, front_short}

-- ---- The limit.

pub past_limit : (n : ℕ) → 2 ^ 48 ≤ n → nat_lt limit (suc n) ≡ true
unfolding limit
past_limit n h = search (arith, lt-ltb)

pub within_limit : (n : ℕ) → n < 2 ^ 48 → nat_lt limit (suc n) ≡ false
unfolding limit
within_limit n h = search (arith, le-ltb)

pub none_by : (o : Option StreamFault) → is_some o ≡ false → o ≡ None
none_by None e = refl
none_by (Some fault) e = absurd cc

-- if the reading ends, the slots stay ready
pub ready_stopped : (C : Table) (m m' : FramingView) (fault : StreamFault) (place : ℕ) →
    m' ≡ steps.stopped_with m fault place
    → AreReady C (place + 1) m.slots → AreReady C (m'.totals.octets + 1) m'.slots
unfolding steps.stopped_with
ready_stopped C m m' fault place e h = rw e h

-- the fields with one more header octet held
pub pushed_is : (m : FramingView) (x : ℕ) (header : List ℕ) → header ≡ m.header ++ x ∷ []
    → record m { totals = record m.totals { octets = m.totals.octets + 1 }; header = header }
    ≡ steps.with_header_octet m x
unfolding steps.with_header_octet
pushed_is m x header e = search (arith)

-- ---- Before the first octet.

pub nothing_shown : (C : Table) (l : Answers) (n : ℕ) (m : FramingView) →
    m.totals ≡ record { messages = 0; faults = 0; octets = 0 }
    → m.stopped ≡ None → m.header ≡ [] → m.payload_count ≡ 0 → IsBare m.slots →
    m.slots.is_mixed ≡ not (joins_by C) → Shows C l m (fresh_state (rules_by C l n))
unfolding fresh_state payload_count_in slots_of
nothing_shown C l n m totals stopped header payload_count bare mixed = search (arith)

module _ (C : Table) (l : Answers) (most : ℕ) (m : FramingView) (s : State) (h : Shows C l m s)
  where
    abbrev R : Rules
    R = rules_by C l most

    octets_are : m.totals.octets ≡ s.totals.octets
    octets_are = search (arith)

    -- an octet after the stream fault
    pub stopped_step : (x : ℕ) → is_some m.stopped ≡ true →
        step R s x ≡ record { state = s; lines = [] }
    unfolding step kind_of_octet octet_in
    stopped_step x over = search (arith, false≢true)

    -- an octet past the limit
    pub limit_step : (x : ℕ) → m.stopped ≡ None → 2 ^ 48 ≤ m.totals.octets →
        step R s x ≡ stream_fault_step s StreamLimit
    unfolding step kind_of_octet
    limit_step x free full = search (arith, octet_limit, past_limit, octets_are)

    -- ---- The reading ends.

    pub ended_text : (fault : StreamFault) →
        stop_text fault (m.totals.octets + 1) ≡ lines_text (stream_fault_step s fault).lines
    unfolding stream_fault_step lines_text stop_line
    ended_text fault = search (arith, octets_are, append-nil)

    -- the fields show the end of the reading, whatever header octets were held
    pub ended_shows : (fault : StreamFault) (b : FramingView) →
        b.totals.messages ≡ m.totals.messages
        → b.totals.faults ≡ m.totals.faults → b.slots ≡ m.slots
        → Shows C l (steps.stopped_with b fault (m.totals.octets + 1))
        (stream_fault_step s fault).state
    unfolding steps.stopped_with stream_fault_step payload_count_in
    ended_shows fault b messages faults slots = search (arith, octets_are)

    -- ---- An octet of a header.

    module _ (x : ℕ) (free : m.stopped ≡ None) (room : m.totals.octets < 2 ^ 48)
        (few : length m.header < 12) where
      abbrev front : List ℕ
      front = m.header ++ x ∷ []

      short : length s.held < 12
      short = search (arith)

      pub none_come : m.payload_count ≡ 0
      unfolding payload_count_in
      none_come = search (arith, lt-ltb, short)

      octet_is : kind_of_octet s x ≡ kind_after_front front s.totals.messages (suc s.totals.octets)
          (last_octet_fault front)
      unfolding kind_of_octet
      octet_is = search (arith, octet_front, within_limit, octets_are, short)

      pub wrong_step : (fault : StreamFault) → last_octet_fault front ≡ Some fault →
          step R s x ≡ stream_fault_step s fault
      unfolding step
      wrong_step fault e = search (arith, octet_is)

      pub held_step : last_octet_fault front ≡ None → (length front ≡ 12 → ⊥) →
          step R s x ≡ header_octet_step s front
      unfolding step
      held_step e other = search (arith, octet_is, front_short, ne_eqb)

      not_full : (length front ≡ 12 → ⊥) → length front < 12
      not_full other = search (arith, cases_eq, length_push)

      pub held_shows : (length front ≡ 12 → ⊥) →
          Shows C l (steps.with_header_octet m x) (header_octet_step s front).state
      unfolding steps.with_header_octet header_octet_step payload_count_in
      held_shows other = search (arith, not_full, octets_are, none_come, lt-ltb)

      pub held_text : lines_text (header_octet_step s front).lines ≡ []
      unfolding header_octet_step lines_text
      held_text = refl
