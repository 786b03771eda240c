-- An octet of a message: if the fields show the state of a stream, the code does the step.
use Rattle.std.proofs.Common.{inl, inr, ◌≡◌, ℕ, suc, ◌+◌, ◌^◌, ◌<◌, ◌≤◌, List, [], ◌∷◌, ◌++◌, length, refl, sym, ap, subst, ◌∙◌, append-nil, Option, Some, None, Result, arith}
use Rattle.std.specs.Prelude.{OnOk, IfSome, ◌-◌, nat_lt, if◌then◌else◌}
use Rattle.std.proofs.lemmas.Bool.{cases_lt, lt-ltb, le-ltb, eq-eqb, ne_eqb}
use Rattle.std.proofs.lemmas.List.{length_push}
use Rattle.std.proofs.lemmas.List.Elements.{All-append}
use Rattle.giop_cdr.specs.Numbers.{AreOctets}
use Rattle.giop_print.specs.Output.{OutLog, Writes}
use Rattle.giop_sig.specs.Table.{Table}
use Rattle.giop_message.specs.Headers.{size}
use Rattle.giop_message.specs.MessageReader.{KeepsEarlierLines}
use Rattle.giop_message.specs.Signatures.{Answers, signatures_of}
use Rattle.giop_message.proofs.MessageLaws.{is_causal}
use Rattle.giop_stream.specs.declared.current.Current.{Current}
use Rattle.giop_stream.specs.HeaderOctets.{last_octet_fault, first_wrong_octet}
use Rattle.giop_stream.specs.Rules.{Rules, rules_by}
use Rattle.giop_stream.specs.Framing.{CutMessage, Cut, cut, messages}
use Rattle.giop_stream.specs.Events.{OpenState, events_of_octet, events, before_by}
use Rattle.giop_stream.specs.Lines.{StreamLine, lines}
use Rattle.giop_stream.specs.Text.{lines_text}
use Rattle.giop_stream.specs.Stream.{fault_count, totals_so_far}
use Rattle.giop_stream.specs.Effects.{Effect, effects}
use Rattle.giop_stream.specs.OpenSlots.{tracked_after}
use Rattle.giop_stream.specs.SlotsRepresent.{SlotsRepresent}
use Rattle.giop_stream.specs.PayloadOwner.{IsBeforeMessage, owner_after, before_with, octet_effect}
use Rattle.giop_stream.specs.EngineView.{FramingView}
use Rattle.giop_stream.specs.Octet.{header_of, payload_count_of}
use Rattle.giop_stream.specs.EngineState.{State, payload_octets_left, state_of, owner_of_next, owner_of_next_in}
use Rattle.giop_stream.specs.EngineStep.{step, run_state, run_step}
use Rattle.giop_stream.specs.FramingSteps.{with_header_octet, cleared_if_complete as settled}
use Rattle.giop_stream.specs.ViewOfState.{IsReached, Shows, payload_count_in, Does}
use Rattle.giop_stream.proofs.Lists.{each_weaker}
use Rattle.giop_stream.proofs.Cuts.Cutting.{cut_of_parts}
use Rattle.giop_stream.proofs.Cuts.CutFrom.{cut_with_last_message}
use Rattle.giop_stream.proofs.Events.Soundness.{CurrentFitsStream, CutFitsStream, IsSound}
use Rattle.giop_stream.proofs.Events.StepCases.{place_first}
use Rattle.giop_stream.proofs.Events.StepCases.{if_some}
use Rattle.giop_stream.proofs.SlotSteps.Parts.{in_turn}
use Rattle.giop_stream.proofs.Cuts.OfOctets.{header_octets, size_fits}
use Rattle.giop_stream.proofs.CodeSteps.OneOctet.{AddsLinesAndState, message_that_begins, begins_is}
use Rattle.giop_stream.proofs.CodeSteps.WhatStands.{before_is}
use Rattle.giop_stream.proofs.CodeSteps.EngineStep.{tally_settled}
use Rattle.giop_stream.proofs.CodeSteps.NextOctet.{state_from_cut, state_is, read_all}
use Rattle.giop_stream.proofs.CodeSteps.EngineAlive.{sound}
use Rattle.giop_stream.proofs.CodeSteps.EngineLaws.{step_state, step_lines, run_holds, run_lines}
use Rattle.giop_stream.proofs.CodeSteps.OutsideMessages.{within_limit}
use Rattle.giop_stream.proofs.CodeSteps.MessageEnds.{does_by, settled_on, settled_off, goes_on, goes_off, none_stops}

-- ---- States that a stream can reach.

-- a state that a stream reaches with more octets
abbrev pub reached_on : (C : Table) (l : Answers) (most : ℕ) (s : State) (q : List ℕ) →
    AreOctets q → IsReached C l most s → IsReached C l most (run_state (rules_by C l most) s q)
reached_on C l most s q octets r =
    let R = rules_by C l most in
    record {
      stream = r.stream ++ q;
      octets = All-append (λ x. x < 256) r.stream q r.octets octets;
      held = ap (λ (t : State). run_state R t q) r.held
          ∙ sym (run_holds R (is_causal (λ phase number. signatures_of C (l number) phase))
          (in_turn C l)
          r.stream q);
    }

-- the same state, with an equal limit of open messages
abbrev pub reached_at : (C : Table) (l : Answers) (n most : ℕ) (s : State) → n ≡ most →
    IsReached C l n s → IsReached C l most s
reached_at C l n most s same r = record {
  stream = r.stream;
  octets = r.octets;
  held = r.held ∙ ap (λ (k : ℕ). state_of (rules_by C l k) r.stream) same;
}

-- ---- How many payload octets were read, if it is known how many are to come.

come_by : (n : ℕ) (c : Cut) (current : Option CutMessage) (held : List ℕ) →
    IfSome current (CurrentFitsStream n c) → length held < 12
    → (if nat_lt (length (header_of current held)) 12 then 0 else size (header_of current held)
    - payload_octets_left current) ≡ payload_count_of current
come_by n c None held h short = search (arith, lt-ltb)
come_by n c (Some m) held h short = search (arith, le-ltb)

-- ---- What the fields show after an octet of this message.

module _ (C : Table) (l : Answers) (most : ℕ) (p : List ℕ) where
  abbrev rules : Rules
  rules = rules_by C l most

  abbrev pub effect_of : (message : CutMessage) → Effect
  effect_of n = octet_effect C l most (tracked_after rules p) n

  module _ (x : ℕ) (n : CutMessage) (fits : length n.payload ≤ size n.header)
      (number : n.number ≡ suc (length (cut p).whole))
      (adds : AddsLinesAndState rules p (p ++ x ∷ []) (cut_with_last_message (cut p).whole n)
      (effect_of n).lines
      (effect_of n).tracked) where
    pub settled_shows : (b f : FramingView) (k : ℕ) → f ≡ settled b k → b.totals.messages ≡ n.number
        → b.totals.faults ≡ fault_count (lines rules p) + fault_count (effect_of n).lines →
        b.totals.octets ≡ suc (length p)
        → b.stopped ≡ None → b.header ≡ n.header → b.payload_count ≡ length n.payload →
        k ≡ size n.header
        → SlotsRepresent C l b.slots (effect_of n).tracked
        (owner_after (before_with C l (effect_of n).tracked) n) →
        Shows C l f (state_of rules (p ++ x ∷ []))
    unfolding state_from_cut cut_of_parts tracked_after owner_after payload_count_in
    settled_shows b f k e messages faults octets stopped header payload_count sized keeps =
        let p' = p ++ x ∷ [] in
        let whole = (cut p).whole in
        let totals : b.totals ≡ record {
          messages = n.number;
          faults = fault_count (lines rules p) + fault_count (effect_of n).lines;
          octets = suc (length p);
        } = λ j. record { messages = messages j; faults = faults j; octets = octets j } in
        subst (Shows C l f) (sym (state_is rules p' adds.sound _ (cut_with_last_message whole n)
        (effect_of n).tracked
        (tally_settled rules p x n (effect_of n) number adds) adds.cut_is adds.tracked_after))
        (rw e (elim (cases_lt (length n.payload) (size n.header)) [
          | inl less ↦
              let now = adds.cut_is ∙ goes_on whole n less in
              let fit = if_some (CurrentFitsStream (length p') (cut p')) (cut p').current n
              (ap (λ (c : Cut). c.current) now)
              (adds.sound.fits (ap (λ (c : Cut). c.stop) now)).current in
              rw (
                settled_on b k (λ same. omega (arith, same, payload_count, sized, less)),
                goes_on whole n less,
              ) (record {
                totals = totals;
                stopped = stopped;
                header = header;
                payload_count = payload_count
                    ∙ sym (come_by (length p') (cut p') (Some n) [] fit (omega arith));
                slots = rw (ne_eqb (length n.payload) (size n.header)
                    (λ same. omega (arith, less, same))) at keeps;
              })
          | inr more ↦
              rw (
                settled_off b k (omega (arith, payload_count, sized, more, fits)),
                goes_off whole n more,
              ) (record {
                totals = totals;
                stopped = stopped;
                header = refl;
                payload_count = refl;
                slots = rw (eq-eqb (length n.payload) (size n.header) (omega (arith, more, fits)))
                    at keeps;
              })
        ]))

module _ (C : Table) (l : Answers) (most : ℕ) (s : State) (reached : IsReached C l most s)
    (m : FramingView) (h : Shows C l m s) where
  abbrev R : Rules
  R = rules_by C l most

  abbrev pub p : List ℕ
  p = reached.stream

  causal : KeepsEarlierLines R.reading
  causal = search (arith, is_causal)

  so : IsSound R p
  so = sound R causal (in_turn C l) p

  pub at_p : Shows C l m (state_of R p)
  at_p = search (arith)

  -- a call that writes the lines of the octet and leaves its state does the step of the octet
  pub does_step : {A E : Type 0} (x : ℕ) (ls : List StreamLine) (result : Result A E)
      (before after : OutLog) (f : FramingView)
      → lines R (p ++ x ∷ []) ≡ lines R p ++ ls → Writes result before after (lines_text ls)
      → OnOk result (Shows C l f (state_of R (p ++ x ∷ []))) →
      Does C l result before after f (step R s x)
  does_step x ls result before after f grows text shows = search (
    arith,
    does_by,
    step_state,
    causal,
    in_turn,
    step_lines,
  )

  -- a call that writes the lines of a run and leaves its state does the steps of the run
  pub does_run : {A E : Type 0} (q : List ℕ) (ls : List StreamLine) (result : Result A E)
      (before after : OutLog) (f : FramingView)
      → lines R (p ++ q) ≡ lines R p ++ ls → Writes result before after (lines_text ls)
      → OnOk result (Shows C l f (state_of R (p ++ q))) →
      Does C l result before after f (run_step R s q)
  does_run q ls result before after f grows text shows =
      subst (λ (t : State). Does C l result before after f (run_step R t q)) (sym reached.held)
      (does_by C l most p (p ++ q) (run_step R (state_of R p) q) ls result before after f
      (run_holds R causal (in_turn C l) p q)
      (run_lines R causal (in_turn C l) p q) grows text shows)

  -- ---- What follows from the fields for the stream, if the reading goes on.

  module _ (free : m.stopped ≡ None) where
    pub runs_on : (cut p).stop ≡ None
    unfolding state_of
    runs_on = search (arith, none_stops, at_p)

    pub header_at : m.header ≡ header_of (cut p).current (cut p).held
    unfolding state_of
    header_at = at_p.header ∙ rw runs_on refl

    pub fits_at : CutFitsStream (length p) (cut p)
    fits_at = so.fits runs_on

    pub come_at : m.payload_count ≡ payload_count_of (cut p).current
    unfolding payload_count_in state_of
    come_at = search (arith, at_p, runs_on, come_by, fits_at)

    pub all_read : m.totals.octets ≡ length p
    unfolding state_of totals_so_far
    all_read = search (arith, at_p, read_all, runs_on)

    pub knows_at : SlotsRepresent C l m.slots (tracked_after R p)
        (owner_of_next_in (before_by R (events R p)) (cut p).current)
    unfolding state_of
    knows_at = at_p.slots

    -- the same for the current message, by what is tracked
    pub owned_at : (c : CutMessage) → (cut p).current ≡ Some c →
        SlotsRepresent C l m.slots (tracked_after R p)
        (owner_of_next (before_with C l (tracked_after R p)) c)
    owned_at c current =
        subst (λ (b : OpenState). SlotsRepresent C l m.slots (tracked_after R p)
        (owner_of_next b c))
        (sym (before_is R p so))
        (subst (λ (o : Option CutMessage). SlotsRepresent C l m.slots (tracked_after R p)
        (owner_of_next_in (before_by R (events R p)) o)) current knows_at)

    -- while the header is incomplete there is no current message
    pub no_current : length m.header < 12 → (cut p).current ≡ None
    no_current few = search (arith, if_some, fits_at, header_at)

    -- a complete header is the header of the current message
    pub has_current : length m.header ≡ 12 → (c : CutMessage) × ((cut p).current ≡ Some c)
    has_current full = search (arith, header_at, fits_at)

  pub messages_at : m.totals.messages ≡ length (messages (cut p))
  unfolding state_of totals_so_far
  messages_at = search (arith, at_p, so)

  pub faults_at : m.totals.faults ≡ fault_count (lines R p)
  unfolding state_of totals_so_far
  faults_at = search (arith, at_p)

  -- ---- A header's last octet.

  module _ (x : ℕ) (b : FramingView) (e : b ≡ with_header_octet m x) (full : length b.header ≡ 12)
      (right : last_octet_fault b.header ≡ None)
      (free : b.stopped ≡ None) (room : b.totals.octets ≤ 2 ^ 48) where
    ran : m.stopped ≡ None
    unfolding with_header_octet
    ran = search (arith)

    header_was : b.header ≡ m.header ++ x ∷ []
    unfolding with_header_octet
    header_was = search (arith)

    octets_was : b.totals.octets ≡ suc m.totals.octets
    unfolding with_header_octet
    octets_was = search (arith)

    messages_was : b.totals.messages ≡ m.totals.messages
    unfolding with_header_octet
    messages_was = search (arith)

    faults_was : b.totals.faults ≡ m.totals.faults
    unfolding with_header_octet
    faults_was = search (arith)

    come_was : b.payload_count ≡ m.payload_count
    unfolding with_header_octet
    come_was = search (arith)

    slots_was : b.slots ≡ m.slots
    unfolding with_header_octet
    slots_was = search (arith)

    cur : (cut p).current ≡ None
    cur = search (arith, no_current, ran, length_push, header_was)

    header_now : b.header ≡ (cut p).held ++ x ∷ []
    header_now = search (arith, header_was, header_at, ran, cur)

    -- the message that begins
    abbrev pub first : CutMessage
    first = message_that_begins (cut p).whole (suc (length p)) ((cut p).held ++ x ∷ [])

    -- the effect of the header's last octet
    abbrev pub beginning : Effect
    beginning = effect_of C l most p first

    first_adds : AddsLinesAndState R p (p ++ x ∷ []) (cut_with_last_message
        (cut p).whole first) beginning.lines
        beginning.tracked
    first_adds =
        subst (λ (b : OpenState). AddsLinesAndState R p (p ++ x ∷ []) (cut_with_last_message
        (cut p).whole first)
        (effects R.reading (tracked_after R p) (events_of_octet most b first)).lines
        (effects R.reading (tracked_after R p) (events_of_octet most b first)).tracked)
        (sym (before_is R p so))
        (begins_is R causal (in_turn C l) p x so (runs_on ran) cur
        (within_limit (length p) (omega (arith, all_read ran, octets_was, room)))
        (ap last_octet_fault (sym header_now) ∙ right)
        (ap length (sym header_now) ∙ full))

    count : length (messages (cut p)) ≡ length (cut p).whole
    unfolding messages
    count = search (arith, cur, append-nil)

    none_come : b.payload_count ≡ 0
    none_come = search (arith, come_was, come_at, ran, cur)

    pub is_first : (now : Current) → now.number ≡ b.totals.messages + 1 → now.header ≡ b.header
        → now.place ≡ b.totals.octets → now.payload_count ≡ b.payload_count
        → IsBeforeMessage C l b.slots (tracked_after R p)
        (owner_of_next_in (before_by R (events R p)) (cut p).current) first now
    unfolding tracked_after
    is_first now number header at payload_count = search (
      arith,
      fits_at,
      ran,
      slots_was,
      knows_at,
      so,
      messages_was,
      messages_at,
      count,
      header_now,
      place_first,
      length_push,
      all_read,
      octets_was,
      none_come,
      each_weaker,
    )

    pub begun_does : {A E : Type 0} (result : Result A E) (before after : OutLog) (f : FramingView)
        → Writes result before after (lines_text beginning.lines) →
        OnOk result (Shows C l f (state_of R (p ++ x ∷ [])))
        → Does C l result before after f (step R s x)
    begun_does result before after f text shows = search (arith, does_step, first_adds)

    pub begun_shows : (b' f : FramingView) (k : ℕ) → f ≡ settled b' k →
        b'.totals.messages ≡ b.totals.messages + 1
        → b'.totals.faults ≡ b.totals.faults + fault_count beginning.lines →
        b'.totals.octets ≡ b.totals.octets
        → b'.stopped ≡ b.stopped → b'.header ≡ b.header → b'.payload_count ≡ b.payload_count →
        k ≡ size b.header
        → SlotsRepresent C l b'.slots beginning.tracked
        (owner_after (before_with C l beginning.tracked) first) →
        Shows C l f (state_of R (p ++ x ∷ []))
    begun_shows b' f k is messages faults octets stopped header payload_count sized keeps =
        settled_shows C l most p x first (omega arith) refl first_adds b' f k is
        (omega (arith, messages, messages_was, messages_at, count))
        (omega (arith, faults, faults_was, faults_at))
        (omega (arith, octets, octets_was, all_read ran)) (stopped ∙ free) (header ∙ header_now)
        (payload_count ∙ none_come)
        (sized ∙ ap size header_now) keeps

  -- ---- The current message.

  module _ (free : m.stopped ≡ None) (c : CutMessage) (cur : (cut p).current ≡ Some c) where
    pub current_fits : CurrentFitsStream (length p) (cut p) c
    current_fits = search (arith, if_some, cur, fits_at)

    pub header_is : m.header ≡ c.header
    header_is = search (arith, header_at, cur)

    pub come_is : m.payload_count ≡ length c.payload
    come_is = search (arith, come_at, cur)

    all_messages : length (messages (cut p)) ≡ length (cut p).whole + 1
    unfolding messages
    all_messages = search (arith, cur, length_push)

    pub number_is : c.number ≡ m.totals.messages
    number_is = search (arith, current_fits, messages_at, all_messages)

    pub right : AreOctets c.header × (first_wrong_octet c.header ≡ None)
    right = if_some (λ c. AreOctets c.header × (first_wrong_octet c.header ≡ None)) (cut p).current
        c cur (header_octets p reached.octets)

    -- the size of its payload is below 2^32
    pub size_few : size m.header < 2 ^ 32
    size_few = search (arith, header_is, size_fits, right, current_fits)
