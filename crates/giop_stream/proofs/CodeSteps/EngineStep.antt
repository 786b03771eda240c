-- The step agrees with the definitions: from the state of a stream, it gives the lines that the
-- octet adds, and the state of the longer stream.
use Rattle.std.proofs.Common.{inr, ◌≡◌, ℕ, suc, ◌+◌, ◌<◌, ◌≤◌, true, List, [], ◌∷◌, ◌++◌, length, refl, sym, ap, subst, ◌∙◌, None, arith}
use Rattle.std.specs.Prelude.{nat_le}
use Rattle.std.specs.List.{list_any}
use Rattle.std.proofs.lemmas.Bool.{cases_lt, cases_eq, lt-ltb, le-ltb, eq-eqb, leb-true, and_parts}
use Rattle.std.proofs.lemmas.List.{length_push}
use Rattle.giop_message.specs.Headers.{size}
use Rattle.giop_stream.specs.Kinds.{is_any_fragment, lookup_offset}
use Rattle.giop_stream.specs.PayloadOwner.{acts_on_open}
use Rattle.giop_message.specs.MessageReader.{KeepsEarlierLines, IsStreamable}
use Rattle.giop_stream.specs.declared.status.Totals.{Totals}
use Rattle.giop_stream.specs.Rules.{Rules}
use Rattle.giop_stream.specs.Framing.{CutMessage, cut, messages, octets_read}
use Rattle.giop_stream.specs.Events.{OpenState, key, place, open_under, opener_of, is_named_fragment, events_of_octet, events_with_key, events, open_after, ends_joining, before_by, MessageOctet, last_octet_of}
use Rattle.giop_stream.specs.Lines.{StreamLine, lines}
use Rattle.giop_stream.specs.Stream.{fault_count, totals_so_far}
use Rattle.giop_stream.specs.OpenSlots.{tracked_after, before_in}
use Rattle.giop_stream.specs.Effects.{Effect, effects}
use Rattle.giop_stream.specs.Octet.{OctetKind, AfterStop, Ends, Held, Of}
use Rattle.giop_stream.specs.EngineState.{State, owner_of_next, state_of}
use Rattle.giop_stream.specs.EngineStep.{key_of, open_message_for, events_at, owner_for, message_octet_step, step_by, step}
use Rattle.giop_stream.proofs.Cuts.Cutting.{settled_messages, settle_stop}
use Rattle.giop_stream.proofs.Cuts.CutFrom.{cut_with_last_message}
use Rattle.giop_stream.proofs.Events.MessageKinds.{any_placed}
use Rattle.giop_stream.proofs.Events.EventsOfOctet.{quiet_one, fragment_mixes, opener_by}
use Rattle.giop_stream.proofs.Events.AfterMoreEvents.{count_append}
use Rattle.giop_stream.proofs.Events.Soundness.{IsSound}
use Rattle.giop_stream.proofs.StreamLines.IdBeforeEnd.{KeepsCurrentOctets}
use Rattle.giop_stream.proofs.Events.EventsByEngine.{events_with_key_agree}
use Rattle.giop_stream.proofs.SlotSteps.OneSlotChanges.{or_nothing}
use Rattle.giop_stream.proofs.SlotSteps.Alike.{effects_still_open}
use Rattle.giop_stream.proofs.CodeSteps.OneOctet.{AddsLinesAndState, IsOctetOfMessage, IsStateThen, then_is}
use Rattle.giop_stream.proofs.CodeSteps.WhatStands.{before_is, effects_mixed}
use Rattle.giop_stream.proofs.CodeSteps.NextOctet.{state_from_cut, state_is, tally_by, octet_is, IsStepOf, stopped_steps, ends_steps, held_steps, ShowsMessage, shows}

-- ---- The state after an octet of a message.

module _ (R : Rules) (p : List ℕ) (m : CutMessage) (sound : IsSound R p)
    (shows : ShowsMessage R p m)
  where
    s : State
    s = state_of R p

    now : MessageOctet
    now = last_octet_of m

    effect : Effect
    effect = effects R.reading (tracked_after R p)
        (events_of_octet R.most (before_by R (events R p)) m)

    same_name : length m.payload ≡ lookup_offset m.header → acts_on_open m.header ≡ true →
        open_message_for R.asks s now ≡ opener_of (before_by R (events R p)) m
    unfolding s now open_message_for opener_of state_of
    same_name named place =
        rw (eq-eqb (length m.payload) (lookup_offset m.header) named, before_is R p sound)
        (ap (open_under (before_by R (events R p))) (shows.name_is named place))

    effect_same : effects R.reading s.tracked (events_at R s now) ≡ effect
    unfolding s now effect events_at events_of_octet state_of
    effect_same =
        ap (λ (b : OpenState). effects R.reading (tracked_after R p)
        (events_with_key R.most b now (key_of s now) (open_message_for R.asks s now)))
        (before_is R p sound)
        ∙ ap (effects R.reading (tracked_after R p))
        (events_with_key_agree R.most (before_by R (events R p)) (last_octet_of m) (key_of s now)
        (key m)
        (open_message_for R.asks s now) (opener_of (before_by R (events R p)) m)
        (λ named place. (shows.name_is named place, same_name named place)) shows.past_is)

    -- the open message that the octet's message continues or has the key of
    named_other : is_any_fragment m.header ≡ true → lookup_offset m.header ≤ length m.payload →
        open_message_for R.asks s now ≡ opener_of (before_by R (events R p)) m
    unfolding s now
    named_other f named = search (arith, cases_eq, same_name, any_placed, shows)

    -- after a Fragment has its place: the message that the Fragment continues
    named_same : is_named_fragment m ≡ true → length m.payload < size m.header →
        opener_of (before_in R.asks effect.tracked) m ≡ open_message_for R.asks s now
    unfolding effect is_named_fragment before_in before_by tracked_after open_after
    named_same named less =
        let c = tracked_after R p in
        let b = before_by R (events R p) in
        let es = events_of_octet R.most b m in
        let both = and_parts (is_any_fragment m.header)
        (nat_le (lookup_offset m.header) (length m.payload)) named in
        opener_by b (before_in R.asks effect.tracked) m
        (effects_still_open R.reading c es ∙ quiet_one R.most b.still_open b m less (inr both.0))
        (effects_mixed R.reading c es
        ∙ or_nothing c.mixed (list_any ends_joining es) (fragment_mixes R.most b m both.0))
        ∙ sym (named_other both.0 (leb-true (lookup_offset m.header) (length m.payload) both.1))

    owner_same : length m.payload < size m.header →
        owner_of_next (before_in R.asks effect.tracked) m ≡ owner_for now
        (open_message_for R.asks s now)
    unfolding owner_of_next is_named_fragment now
    owner_same less = search (arith, now, named_same)

    stepped_is : (whole : List CutMessage) (t : Totals)
        → t ≡ record {
          messages = m.number;
          faults = s.totals.faults + fault_count effect.lines;
          octets = place m;
        }
        → state_from_cut R.asks t (cut_with_last_message whole m) effect.tracked ≡
        (message_octet_step R.asks s now effect).state
    unfolding cut_with_last_message state_from_cut message_octet_step now
    stepped_is whole t et = search (arith, cases_lt, lt-ltb, owner_same, le-ltb)

-- ---- The step.

read_settled : (p : List ℕ) (whole : List CutMessage) (m : CutMessage) →
    octets_read p (cut_with_last_message whole m).stop ≡ length p
unfolding octets_read
read_settled p whole m = rw (settle_stop whole m) refl

totals : ℕ → ℕ → ℕ → Totals
totals a b n = record { messages = a; faults = b; octets = n }

counts_by : (R : Rules) (p : List ℕ) (m : CutMessage) (ls : List StreamLine)
    → totals m.number (fault_count (lines R p) + fault_count ls) (place m) ≡ totals m.number
    ((state_of R p).totals.faults + fault_count ls) (place m)
unfolding state_of totals_so_far
counts_by R p m ls = refl

counted : (whole : List CutMessage) (m : CutMessage) → m.number ≡ suc (length whole) →
    length (messages (cut_with_last_message whole m)) ≡ m.number
counted whole m number = search (arith, settled_messages, length_push)

-- the totals after the octet of m
pub tally_settled : (R : Rules) (p : List ℕ) (x : ℕ) (m : CutMessage) (does : Effect) →
    m.number ≡ suc (length (cut p).whole)
    → AddsLinesAndState R p (p ++ x ∷ []) (cut_with_last_message
    (cut p).whole m) does.lines does.tracked
    → totals_so_far R (p ++ x ∷ []) ≡ record {
      messages = m.number;
      faults = fault_count (lines R p) + fault_count does.lines;
      octets = suc (length p);
    }
tally_settled R p x m does number adds = search (
  arith,
  tally_by,
  cut_with_last_message,
  counted,
  count_append,
  read_settled,
  length_push,
)

module _ (R : Rules) (causal : KeepsEarlierLines R.reading) (laws : IsStreamable R.reading)
    (p : List ℕ)
    (x : ℕ) (sound : IsSound R p) (alive : KeepsCurrentOctets R p) where
  of_steps : (now : MessageOctet) → (cut p).stop ≡ None → IsOctetOfMessage R p x now
      → IsStepOf R p (p ++ x ∷ []) (step_by R (state_of R p) (Of now))
  unfolding s now effect totals message_octet_step
  of_steps now st h =
      let m = h.m in
      let p' = p ++ x ∷ [] in
      let whole = (cut p).whole in
      let view = shows R p x sound alive m st h.from in
      let one = effect R p m sound view in
      let t = tally_settled R p x m one h.number_is h.adds
      ∙ (λ j. totals m.number (fault_count (lines R p) + fault_count one.lines)
      (sym h.place_is j)) in
      subst (λ (n : MessageOctet). IsStepOf R p p' (step_by R (state_of R p) (Of n))) h.is_now
      (rw (effect_same R p m sound view) (record {
        state = state_is R p' h.adds.sound _ (cut_with_last_message whole m) _ t h.adds.cut_is
            h.adds.tracked_after
            ∙ stepped_is R p m sound view whole _ (counts_by R p m one.lines);
        lines = h.adds.lines;
      }))

  steps_by : (o : OctetKind) → IsStateThen R p x o → IsStepOf R p (p ++ x ∷ []) (step_by R
      (state_of R p) o)
  steps_by AfterStop h = search (arith, stopped_steps)
  steps_by (Ends fault) h = search (arith, ends_steps)
  steps_by (Held front) h = search (arith, held_steps)
  steps_by (Of now) h = of_steps now h.0 h.1

  pub steps : IsStepOf R p (p ++ x ∷ []) (step R (state_of R p) x)
  unfolding step
  steps = search (arith, octet_is, steps_by, then_is)
