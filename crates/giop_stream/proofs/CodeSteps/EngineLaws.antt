-- The state of a stream is the fresh state after one step for each octet, and it gives what is
-- written at the finish.
use Rattle.std.proofs.Common.{◌≡◌, ℕ, true, false, List, [], ◌∷◌, ◌++◌, length, refl, append_assoc, Option, Some, None, arith}
use Rattle.std.specs.Prelude.{◌&&◌, not, nat_lt, is_none, IfSome}
use Rattle.std.proofs.lemmas.Bool.{lt-ltb}
use Rattle.std.proofs.lemmas.List.{append-nil}
use Rattle.std.proofs.lemmas.List.Concat.{flat_map-append}
use Rattle.giop_message.specs.MessageReader.{KeepsEarlierLines, ClosesWithLastLine, IsStreamable}
use Rattle.giop_checkpoint.specs.declared.fault.StreamFault.{StreamFault}
use Rattle.giop_stream.specs.Rules.{Rules}
use Rattle.giop_stream.specs.Framing.{CutMessage, Cut, cut, octets_read, fault_of}
use Rattle.giop_stream.specs.Lines.{lines}
use Rattle.giop_stream.specs.Text.{lines_text}
use Rattle.giop_stream.specs.Stream.{start_count, fault_count, ends_inside, is_truncated, text, totals_so_far, final, closing}
use Rattle.giop_stream.specs.Events.{events, before_by}
use Rattle.giop_stream.specs.OpenSlots.{tracked_after}
use Rattle.giop_stream.specs.Octet.{header_of}
use Rattle.giop_stream.specs.EngineState.{none_if_stopped, state_of}
use Rattle.giop_stream.specs.EngineStep.{fresh_state, step, lines_of_run, run_state, is_cut_short, final_totals, text_at_finish}
use Rattle.giop_stream.proofs.Cuts.Cutting.{cut_of_parts}
use Rattle.giop_stream.proofs.Events.Soundness.{CurrentFitsStream}
use Rattle.giop_stream.proofs.Cuts.Start.{cut_nothing, lines_nothing, known_nothing, open_nothing, events_nothing}
use Rattle.giop_stream.proofs.Events.UnfinishedAtFinish.{left_is, read_by, truncated_by}
use Rattle.giop_stream.proofs.SlotSteps.OneSlotChanges.{or_nothing}
use Rattle.giop_stream.proofs.CodeSteps.EngineAlive.{sound, alive}
use Rattle.giop_stream.proofs.CodeSteps.EngineStep.{steps}
use Rattle.giop_stream.proofs.CodeSteps.NextOctet.{IsStepOf}

stepped : (R : Rules) → KeepsEarlierLines R.reading → IsStreamable R.reading →
    (p : List ℕ) (x : ℕ) →
    IsStepOf R p (p ++ x ∷ []) (step R (state_of R p) x)
stepped R causal laws p x = search (arith, steps, sound, alive)

-- ---- The states and the lines, octet by octet.

mixed_nothing : (R : Rules) → (before_by R (events R [])).mixed ≡ not R.joins
unfolding before_by
mixed_nothing R = rw (events_nothing R) (or_nothing (not R.joins) false refl)

pub start_is : (R : Rules) → state_of R [] ≡ fresh_state R
unfolding state_of fresh_state totals_so_far cut_of_parts tracked_after octets_read start_count
    fault_count
start_is R = search (
  arith,
  known_nothing,
  cut_nothing,
  open_nothing,
  mixed_nothing,
  lines_nothing,
)

pub step_state : (R : Rules) → KeepsEarlierLines R.reading → IsStreamable R.reading →
    (p : List ℕ) (x : ℕ) →
    state_of R (p ++ x ∷ []) ≡ (step R (state_of R p) x).state
step_state R causal laws p x = search (arith, stepped)

pub step_lines : (R : Rules) → KeepsEarlierLines R.reading → IsStreamable R.reading →
    (p : List ℕ) (x : ℕ) →
    lines R (p ++ x ∷ []) ≡ lines R p ++ (step R (state_of R p) x).lines
step_lines R causal laws p x = (stepped R causal laws p x).lines

pub run_lines : (R : Rules) → KeepsEarlierLines R.reading → IsStreamable R.reading →
    (p q : List ℕ) →
    lines R (p ++ q) ≡ lines R p ++ lines_of_run R (state_of R p) q
unfolding lines_of_run
run_lines R causal laws p [] = search (arith, append-nil)
run_lines R causal laws p (x ∷ q) = search (
  arith,
  append_assoc,
  step_lines,
  step_state,
  run_lines
      R causal laws (p ++ x ∷ []) q,
)

pub run_holds : (R : Rules) → KeepsEarlierLines R.reading → IsStreamable R.reading →
    (p q : List ℕ) →
    state_of R (p ++ q) ≡ run_state R (state_of R p) q
unfolding run_state
run_holds R causal laws p [] = rw (append-nil p) refl
run_holds R causal laws p (x ∷ q) = search (
  arith,
  append_assoc,
  step_state,
  run_holds R causal
      laws (p ++ x ∷ []) q,
)

pub run_text : (R : Rules) → KeepsEarlierLines R.reading → IsStreamable R.reading → (p q : List ℕ) →
    text R (p ++ q) ≡ text R p ++ lines_text (lines_of_run R (state_of R p) q)
unfolding text lines_text
run_text R causal laws p q = search (arith, run_lines, flat_map-append)

pub stop_is : (R : Rules) (p : List ℕ) → (state_of R p).stop ≡ fault_of (cut p).stop
unfolding state_of
stop_is R p = refl

-- ---- The finish.

cut_short : (stop : Option (ℕ × StreamFault)) (current : Option CutMessage) (held : List ℕ)
    → (stop ≡ None → IfSome current (λ m. length m.header ≡ 12))
    → ends_inside current held stop ≡ (is_none (fault_of stop)
    && nat_lt 0 (length (none_if_stopped stop [] (header_of current held))))
unfolding ends_inside
cut_short (Some found) current held h = refl
cut_short None (Some m) held h = search (arith, lt-ltb)
cut_short None None held h = refl

twelve_of : (n : ℕ) (c : Cut) (o : Option CutMessage) → IfSome o (CurrentFitsStream n c) →
    IfSome o (λ m. length m.header ≡ 12)
twelve_of n c None h = tt
twelve_of n c (Some m) h = h.twelve

pub cut_short_is : (R : Rules) → KeepsEarlierLines R.reading → IsStreamable R.reading →
    (p : List ℕ) →
    is_truncated (cut p) ≡ is_cut_short (state_of R p)
unfolding is_truncated is_cut_short state_of
cut_short_is R causal laws p =
    cut_short (cut p).stop (cut p).current (cut p).held
    (λ free. twelve_of (length p) (cut p) (cut p).current
    ((sound R causal laws p).fits free).current)

pub final_is : (R : Rules) → KeepsEarlierLines R.reading → IsStreamable R.reading → (p : List ℕ) →
    final R p ≡ final_totals (state_of R p)
unfolding final final_totals state_of
final_is R causal laws p = search (arith, cut_short_is)

read_short : (R : Rules) (p : List ℕ) → is_truncated (cut p) ≡ true →
    (state_of R p).totals.octets ≡ length p
unfolding state_of totals_so_far is_truncated
read_short R p h = read_by p (cut p) refl h

pub finish_is : (R : Rules) → KeepsEarlierLines R.reading → IsStreamable R.reading →
    ClosesWithLastLine R.reading →
    (p : List ℕ) → closing R p ≡ text_at_finish (state_of R p)
unfolding closing text_at_finish
finish_is R causal laws ending p = search (
  arith,
  cut_short_is,
  truncated_by,
  read_short,
  left_is,
  final_is,
)
