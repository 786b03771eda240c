-- The last octet of a header and the request id of a Fragment that continues an open message: the
-- stream with these octets, and that the code does their steps. The octets write the start line,
-- the line of the request id, and the lines of the id's last octet.
use Rattle.std.proofs.Common.{◌≡◌, ℕ, suc, ◌+◌, ◌^◌, ◌<◌, ◌≤◌, true, List, [], ◌∷◌, ◌++◌, length, refl, sym, ap, subst, ◌∙◌, append_assoc, append-nil, length-append, take_all, Option, Some, None, Result, arith}
use Rattle.std.specs.Prelude.{OnOk}
use Rattle.std.proofs.lemmas.Bool.{and_parts, eqb-true, le-ltb}
use Rattle.std.proofs.lemmas.List.{length_push}
use Rattle.giop_cdr.specs.Numbers.{num}
use Rattle.giop_print.specs.Output.{OutLog, Writes}
use Rattle.giop_sig.specs.Table.{Table}
use Rattle.giop_decode.specs.Noted.{Noted}
use Rattle.giop_message.specs.Headers.{minor, kind, order, size, is_fragment_1_2}
use Rattle.giop_message.specs.MessageReader.{KeepsEarlierLines}
use Rattle.giop_message.specs.Signatures.{Answers}
use Rattle.giop_message.specs.ReaderOfTable.{message_reader}
use Rattle.giop_message.specs.HeaderEnds.{HeaderEnd, Header_end, header_event, call_event}
use Rattle.giop_message.proofs.MessageLaws.{is_causal, bodiless_ends}
use Rattle.giop_stream.specs.declared.current.Current.{Current}
use Rattle.giop_stream.specs.declared.fragment.Continuation.{Continuation}
use Rattle.giop_stream.specs.HeaderOctets.{last_octet_fault}
use Rattle.giop_stream.specs.Rules.{Rules, rules_by}
use Rattle.giop_stream.specs.Framing.{CutMessage, with_payload, limit, cut, messages}
use Rattle.giop_stream.specs.Kinds.{lookup_offset, header_fault}
use Rattle.giop_stream.specs.Events.{Takes, MessageKey, OpenState, Open, octets_of_event, open_after_event, message_key, id, events_of_octet, open_after}
use Rattle.giop_stream.specs.Lines.{StreamLine, Kept, nothing_kept, lines}
use Rattle.giop_stream.specs.Text.{lines_text}
use Rattle.giop_stream.specs.Stream.{fault_count}
use Rattle.giop_stream.specs.Effects.{Effect, effects, start_line_of, tracked_after_event, lines_of, with_octet, event, effect_to}
use Rattle.giop_stream.specs.OpenSlots.{Tracked, tracked_after, IsNotOpen, slots_at}
use Rattle.giop_stream.specs.SlotsRepresent.{SlotsRepresent}
use Rattle.giop_stream.specs.PayloadRuns.{run_effect}
use Rattle.giop_stream.specs.PayloadOwner.{IsBeforeOctet, IsNewest, BeginsWithRequestId, octet_effect, owner_after, before_with}
use Rattle.giop_stream.specs.Continuation.{IsContinuation, IsBeforeContinuation, continuation_effect}
use Rattle.giop_stream.specs.HeaderEndsOfStream.{run_header_ends, owner_header_ends, header_ends_from}
use Rattle.giop_stream.specs.EngineView.{FramingView}
use Rattle.giop_stream.specs.EngineState.{State, state_of, owner_of_next, owner_of_next_in}
use Rattle.giop_stream.specs.EngineStep.{run_step}
use Rattle.giop_stream.specs.Octet.{header_of}
use Rattle.giop_stream.specs.FramingSteps.{cleared_if_complete as settled}
use Rattle.giop_stream.specs.ViewOfState.{IsReached, Shows, Does}
use Rattle.giop_stream.proofs.Lists.{each_weaker}
use Rattle.giop_stream.proofs.Cuts.Cutting.{cut_of_parts}
use Rattle.giop_stream.proofs.Cuts.CutFrom.{cut_with_last_message}
use Rattle.giop_stream.proofs.Events.AfterMoreEvents.{count_append}
use Rattle.giop_stream.proofs.Events.Soundness.{CurrentFitsStream, IsSound}
use Rattle.giop_stream.proofs.Events.StepCases.{place_more, if_some}
use Rattle.giop_stream.proofs.SlotSteps.AtHeader.{starts_faults}
use Rattle.giop_stream.proofs.SlotSteps.Cases.{header_begins}
use Rattle.giop_stream.proofs.SlotSteps.Continuing.{few_due, owned_by_none}
use Rattle.giop_stream.proofs.SlotSteps.Ending.{owner_early}
use Rattle.giop_stream.proofs.SlotSteps.EventsInSlots.{slots_stay}
use Rattle.giop_stream.proofs.SlotSteps.OneSlotChanges.{own_then}
use Rattle.giop_stream.proofs.SlotSteps.Parts.{in_turn}
use Rattle.giop_stream.proofs.SlotSteps.Performing.{no_faults}
use Rattle.giop_stream.proofs.SlotSteps.ReadingEffects.{reader_lines, take_lines, then_by}
use Rattle.giop_stream.proofs.SlotSteps.RequestIds.{fragment_says}
use Rattle.giop_stream.proofs.CodeSteps.EngineAlive.{sound, alive}
use Rattle.giop_stream.proofs.CodeSteps.HeaderEndSteps.{AreWithoutEvents, at_none, run_from}
use Rattle.giop_stream.proofs.Events.MessageKinds.{named_within, fragment_not_old, fragment_four, placed_named}
use Rattle.giop_stream.proofs.StreamLines.IdBeforeEnd.{first_octet}
use Rattle.giop_stream.proofs.CodeSteps.WhatStands.{before_is}
use Rattle.giop_stream.proofs.CodeSteps.Runs.{with_more}
use Rattle.giop_stream.proofs.CodeSteps.MessageEnds.{goes_on}
use Rattle.giop_stream.proofs.CodeSteps.MessageOctets.{does_run, runs_on, all_read, header_at, no_current, knows_at, messages_at, faults_at, settled_shows}
use Rattle.giop_stream.proofs.CodeSteps.OneOctet.{AddsLinesAndState, message_that_begins, begins_is, paid_is}
use Rattle.giop_stream.proofs.CodeSteps.PayloadRunSteps.{IsWithinPayload, IsRun, before_of, takes_mixed, octets_are, run_is}

-- ---- The header of a Fragment.

-- the last octet of a header is not wrong
right_at_twelve : (header : List ℕ) → length header ≡ 12 → last_octet_fault header ≡ None
unfolding last_octet_fault
right_at_twelve header twelve = rw twelve refl

fragment_is : (header : List ℕ) → is_fragment_1_2 header ≡ true → (minor header ≡ 2) ×
    (kind header ≡ 7)
unfolding is_fragment_1_2
fragment_is header f = search (arith, and_parts, eqb-true)

-- the header of a Fragment is not refused
fragment_stands : (header : List ℕ) → is_fragment_1_2 header ≡ true → header_fault header ≡ None
unfolding header_fault
fragment_stands header f = search (arith, fragment_is)

-- the correspondent is told nothing of a Fragment
fragment_tells : (C : Table) (number : ℕ) (header : List ℕ) (n : Noted) → kind header ≡ 7 →
    call_event C (Header_end number header n) ≡ None
unfolding header_event
fragment_tells C number header n seven = rw seven refl

fragment_untold : (C : Table) (w : MessageKey) (o : Option Kept) (octets : List ℕ) →
    kind w.header ≡ 7 → AreWithoutEvents C (run_header_ends w o octets)
fragment_untold C w None octets seven = tt
fragment_untold C w (Some kept) octets seven =
    bodiless_ends (λ e. call_event C e ≡ None) kept.phase w.number w.header seven
    (λ n. fragment_tells C w.number w.header n seven) kept.octets octets

-- ---- The octets of a request id before the last one.

-- The octets add no lines, and change no slot; and Fragments of 1.1 are joined as before.
record IsQuietRun (c : Tracked) (ran : Effect) : Type 0 where
  lines : ran.lines ≡ []
  slots : slots_at ran.tracked ≡ slots_at c
  mixed : ran.tracked.mixed ≡ c.mixed

module _ (C : Table) (l : Answers) (w : MessageKey) (says : BeginsWithRequestId w.header) where
  quiet_run : (q : List ℕ) (kept : Kept) (at : ℕ) (c : Tracked) →
      c.known w.number ≡ Some kept → kept.phase 12 ≡ 12 →
      length kept.octets + length q ≤ 3 → IsNotOpen w.number c.still_open
      → IsQuietRun c (run_effect C l at c (Some w) q)
  unfolding run_effect tracked_after_event open_after_event octets_of_event
  quiet_run [] kept at c known twelve few apart = search (arith)
  quiet_run (x ∷ q) kept at c known twelve few apart =
      let e = event (suc at) w (Takes x) in
      let one = effect_to C l (suc at) c (Some w) (Takes x) in
      let nothing = few_due C l w.number w.header says kept twelve x (omega (arith, few)) in
      let silent : one.lines ≡ [] =
      ap (λ (o : Option Kept). lines_of (message_reader C l) e o) known
      ∙ (take_lines C l (suc at) w kept x ∙ ap (reader_lines (suc at) w.number) nothing) in
      let now_kept : one.tracked.known w.number ≡ Some (with_more C l kept (x ∷ [])) =
      own_then (message_reader C l) c e
      ∙ rw known (then_by C l (suc at) w kept x ∙ rw nothing refl)
      in
      let slots : slots_at one.tracked ≡ slots_at c =
      slots_stay (message_reader C l) c e refl apart in
      let more = quiet_run q (with_more C l kept (x ∷ [])) (suc at) one.tracked now_kept twelve
      (omega (arith, few, length_push kept.octets x)) apart in
      let ran = run_effect C l (suc at) one.tracked (Some w) q in
      record {
        lines = ap (λ (ls : List StreamLine). ls ++ ran.lines) silent ∙ more.lines;
        slots =
            more.slots ∙ slots;
        mixed = more.mixed ∙ takes_mixed C l (suc at) c (Some w) x;
      }

-- ---- The stream with these octets: x is the last octet of a header, q and d are the octets of a
-- request id.

module _ (C : Table) (l : Answers) (most : ℕ) (p : List ℕ) (x : ℕ) (q : List ℕ) (d : ℕ)
    (free : (cut p).stop ≡ None)
    (none : (cut p).current ≡ None) (three : length q ≡ 3)
    (full : length ((cut p).held ++ x ∷ []) ≡ 12)
    (fragment : is_fragment_1_2 ((cut p).held ++ x ∷ []) ≡ true)
    (sized : 4 ≤ size ((cut p).held ++ x ∷ []))
    (room : length p + 5 ≤ limit) where
  abbrev R : Rules
  R = rules_by C l most

  causal : KeepsEarlierLines R.reading
  causal = search (arith, is_causal)

  so : IsSound R p
  so = sound R causal (in_turn C l) p

  abbrev pub header : List ℕ
  header = (cut p).held ++ x ∷ []

  -- the Fragment when it begins
  abbrev pub first : CutMessage
  first = message_that_begins (cut p).whole (suc (length p)) header

  abbrev p₁ : List ℕ
  p₁ = p ++ x ∷ []

  abbrev c₀ : Tracked
  c₀ = tracked_after R p

  pub count : length (messages (cut p)) ≡ length (cut p).whole
  unfolding messages
  count = search (arith, append-nil)

  abbrev begun : Effect
  begun = effects R.reading c₀ (events_of_octet most (before_of C l most p) first)

  first_adds : AddsLinesAndState R p p₁ (cut_with_last_message
      (cut p).whole first) begun.lines begun.tracked
  first_adds = begins_is R causal (in_turn C l) p x so free none
      (le-ltb limit (suc (length p)) (omega (arith, room))) (right_at_twelve header full) full

  -- its start line is the only effect
  begun_is : begun ≡ record { tracked = c₀; lines = start_line_of first ∷ [] }
  unfolding tracked_after
  begun_is =
      ap (effects R.reading c₀) (first_octet most (before_of C l most p) first refl
      (omega (arith, fragment_four header fragment)) (omega (arith, sized)))
      ∙ header_begins R.reading c₀ first nothing_kept known (fragment_stands header fragment)
    where
      known : c₀.known first.number ≡ Some nothing_kept
      known = so.unknown first.number (omega (arith, count))

  begun_cut : cut p₁ ≡ cut_of_parts (cut p).whole (Some first) [] None
  begun_cut = search (arith, first_adds, goes_on)

  begun_tracked : tracked_after R p₁ ≡ c₀
  begun_tracked = search (arith, first_adds, begun_is)

  begun_lines : lines R p₁ ≡ lines R p ++ start_line_of first ∷ []
  begun_lines = search (arith, first_adds, begun_is)

  within : IsWithinPayload p₁ first (length q)
  unfolding cut_of_parts
  within = search (arith, begun_cut, length_push)

  -- ---- With the request id except its last octet.

  run : IsRun C l most p₁ first q
  run = search (arith, run_is, within)

  abbrev p₄ : List ℕ
  p₄ = p₁ ++ q

  abbrev pub c₄ : Tracked
  c₄ = tracked_after R p₄

  abbrev pub m₄ : CutMessage
  m₄ = with_payload first q

  own : owner_of_next (before_of C l most p₁) first ≡ Some (message_key first)
  own = search (arith, owner_early, fragment_four)

  quiet : IsQuietRun c₀ (run_effect C l (length p₁) c₀ (Some (message_key first)) q)
  unfolding tracked_after
  quiet =
      quiet_run C l (message_key first) (fragment_says header fragment) q nothing_kept (length p₁)
      c₀ (so.unknown (suc (length (cut p).whole)) (omega (arith, count))) refl
      (omega (arith, three))
      (each_weaker {A = Open} (λ o. o.opener.number ≤ length (messages (cut p)))
      (λ o. o.opener.number ≡ suc (length (cut p).whole) → ⊥)
      (λ o k same. omega (arith, k, same, count)) (open_after R p) so.numbers)

  pub same_slots : slots_at c₄ ≡ slots_at c₀
  same_slots = search (arith, run, begun_tracked, own, quiet)

  pub same_mixed : c₄.mixed ≡ c₀.mixed
  same_mixed = search (arith, run, begun_tracked, own, quiet)

  pub started : lines R p₄ ≡ lines R p ++ start_line_of first ∷ []
  started = search (arith, run, begun_lines, begun_tracked, own, quiet, append-nil)

  so₄ : IsSound R p₄
  so₄ = sound R causal (in_turn C l) p₄

  pub fits : CurrentFitsStream (length p₄) (cut p₄) m₄
  fits = if_some (CurrentFitsStream (length p₄) (cut p₄)) (cut p₄).current m₄ run.within.current
      (so₄.fits run.within.free).current

  pub many : length p₄ ≡ length p + 4
  many = search (arith, length-append, length_push)

  pub before_last : (now : Current) → now.number ≡ suc (length (cut p).whole) →
      now.header ≡ header → now.place ≡ length p + 5
      → now.payload_count ≡ 4 → IsBeforeOctet c₄ m₄ now d
  unfolding tracked_after
  before_last now number head place_is payload_count = record {
    rising = so₄.rising;
    current = record {
      number = sym number;
      header = sym head;
      place = omega (arith, place_more m₄ d (length p₄) fits.place_is, many, place_is);
    };
    payload_count = omega (arith, three, payload_count);
    newest = if_some (λ m. length m.payload < lookup_offset m.header →
        IsNewest m.number (open_after R p₄))
        (cut p₄).current m₄ run.within.current (so₄.early run.within.free);
    alive = λ place less. alive R causal (in_turn C l) p₄ run.within.free m₄ run.within.current
        (placed_named header place (fragment_not_old header fragment))
        (omega (arith, less, named_within header));
    says = λ name. fragment_says header fragment;
  }

  -- the request id
  pub id_is : id (with_octet m₄ d) ≡ num (order header) (q ++ d ∷ [])
  unfolding id
  id_is = ap (num (order header)) (take_all 4 (q ++ d ∷ []) (omega (arith, three, length_push q d)))

  -- ---- With all octets of the request id.

  abbrev pub all_do : Effect
  all_do = continuation_effect C l most c₄ m₄ d

  abbrev last_does : Effect
  last_does = octet_effect C l most c₄ (with_octet m₄ d)

  pub paid : AddsLinesAndState R p₄ (p₄ ++ d ∷ []) (cut_with_last_message (cut p₄).whole
      (with_octet m₄ d)) last_does.lines
      last_does.tracked
  paid =
      subst (λ (b : OpenState). AddsLinesAndState R p₄ (p₄ ++ d ∷ []) (cut_with_last_message
      (cut p₄).whole
      (with_octet m₄ d))
      (effects R.reading c₄ (events_of_octet most b (with_octet m₄ d))).lines
      (effects R.reading c₄ (events_of_octet most b (with_octet m₄ d))).tracked)
      (sym (before_is R p₄ so₄))
      (paid_is R causal (in_turn C l) p₄ d so₄ m₄ run.within.free run.within.current
      (le-ltb limit (suc (length p₄)) (omega (arith, room, many))))

  pub all_octets : p₄ ++ d ∷ [] ≡ p ++ (x ∷ (q ++ d ∷ []))
  all_octets = search (arith, append_assoc)

  pub grows : lines R (p ++ (x ∷ (q ++ d ∷ []))) ≡ lines R p ++ all_do.lines
  grows = search (arith, all_octets, paid, started, append_assoc)

  -- the correspondent is told nothing of these octets
  pub tells_none : AreWithoutEvents C (header_ends_from R p (x ∷ (q ++ d ∷ [])))
  unfolding header_ends_from
  tells_none =
      let ends : header_ends_from R p₁ (q ++ d ∷ [])
      ≡ run_header_ends (message_key first) ((tracked_after R p₁).known first.number)
      (q ++ d ∷ []) =
      sym (run_from C l most q p₁ first d within (omega (arith, room, length_push p x, three)))
      ∙ ap (λ (w : Option MessageKey). owner_header_ends (tracked_after R p₁) w (q ++ d ∷ [])) own
      in
      subst (AreWithoutEvents C) (sym (ap (λ (es : List HeaderEnd). es
      ++ header_ends_from R p₁ (q ++ d ∷ [])) (at_none R p x none) ∙ ends))
      (fragment_untold C (message_key first) ((tracked_after R p₁).known first.number)
      (q ++ d ∷ []) (fragment_is header fragment).1)

-- ---- From the fields.

module _ (C : Table) (l : Answers) (most : ℕ) (s : State) (reached : IsReached C l most s)
    (m : FramingView) (h : Shows C l m s)
    (octets : List ℕ) (found : Continuation) (free : m.stopped ≡ None)
    (room : m.totals.octets + 5 ≤ 2 ^ 48)
    (is : IsContinuation m.header octets m.slots found) where
  abbrev R' : Rules
  R' = rules_by C l most

  abbrev p : List ℕ
  p = reached.stream

  abbrev x : ℕ
  x = is.last

  pub runs_free : (cut p).stop ≡ None
  runs_free = search (arith, runs_on)

  pub no_message : (cut p).current ≡ None
  no_message = no_current C l most s reached m h free (omega (arith, is.eleven))

  held : m.header ≡ (cut p).held
  held = header_at C l most s reached m h free
      ∙ ap (λ (o : Option CutMessage). header_of o (cut p).held) no_message

  pub all_come : m.totals.octets ≡ length p
  all_come = search (arith, all_read)

  -- the octets of the request id before the last one, and the last one
  pub parts : (q : List ℕ) × ((d : ℕ) × (is.id ≡ q ++ d ∷ []))
  parts = search (arith, octets_are)

  abbrev q : List ℕ
  q = parts.0

  abbrev pub d : ℕ
  d = parts.1.0

  pub three : length q ≡ 3
  three = search (arith, parts, length_push)

  pub full : length ((cut p).held ++ x ∷ []) ≡ 12
  full = search (arith, length_push, held)

  header_as : m.header ++ x ∷ [] ≡ (cut p).held ++ x ∷ []
  header_as = search (arith, held)

  pub fragment : is_fragment_1_2 ((cut p).held ++ x ∷ []) ≡ true
  fragment = search (arith, header_as)

  pub sized : 4 ≤ size ((cut p).held ++ x ∷ [])
  sized = search (arith, header_as)

  pub within_limit : length p + 5 ≤ limit
  unfolding limit
  within_limit = omega (arith, room, all_come)

  come : octets ≡ x ∷ (q ++ d ∷ [])
  come = search (arith, parts)

  abbrev pub tracked : Tracked
  tracked = c₄ C l most p x q d runs_free no_message three full fragment sized within_limit

  abbrev pub message : CutMessage
  message = m₄ C l most p x q d runs_free no_message three full fragment sized within_limit

  abbrev pub effect : Effect
  effect = continuation_effect C l most tracked message d

  pub is_before : (now : Current) → now.number ≡ m.totals.messages + 1 → now.header ≡ m.header
      ++ x ∷ [] → now.place ≡ m.totals.octets + 5
      → now.payload_count ≡ 4 → IsBeforeContinuation C l m.slots tracked message now d found
  is_before now number head place_is payload_count = record {
    keeps = owned_by_none C l m.slots (tracked_after R' p) tracked
        (same_slots C l most p x q d runs_free no_message three full fragment sized within_limit)
        (same_mixed C l most p x q d runs_free no_message three full fragment sized within_limit)
        (subst (λ (o : Option CutMessage). SlotsRepresent C l m.slots (tracked_after R' p)
        (owner_of_next_in (before_of C l most p) o)) no_message
        (knows_at C l most s reached m h free));
    before = before_last C l most p x q d runs_free no_message three full fragment sized
        within_limit now
        (omega (
          arith,
          number,
          messages_at C l most s reached m h,
          count C l most p x q d runs_free no_message three full fragment sized within_limit,
        ))
        (head ∙ header_as) (omega (arith, place_is, all_come)) payload_count;
    three = three;
    fragment = fragment;
    spells = id_is C l most p x q d runs_free no_message three full fragment sized within_limit
        ∙ (ap (num (order ((cut p).held ++ x ∷ []))) (sym parts.1.1)
        ∙ (ap (λ (z : List ℕ). num (order z) is.id) (sym header_as) ∙ sym is.spells));
    open_at = is.open_at;
  }

  pub continuation_does : {A E : Type 0} (result : Result A E) (before after : OutLog)
      (f : FramingView)
      → Writes result before after (lines_text effect.lines) →
      OnOk result (Shows C l f (state_of R' (p ++ octets)))
      → Does C l result before after f (run_step R' s octets)
  continuation_does result before after f text shows = search (
    arith,
    does_run,
    come,
    grows,
    runs_free,
    no_message,
    three,
    full,
    fragment,
    sized,
    within_limit,
  )

  pub continuation_shows : (b f : FramingView) (k : ℕ) → f ≡ settled b k →
      b.totals.messages ≡ m.totals.messages + 1
      → b.totals.faults ≡ m.totals.faults + fault_count effect.lines →
      b.totals.octets ≡ m.totals.octets + 5
      → b.stopped ≡ m.stopped → b.header ≡ m.header ++ x ∷ [] → b.payload_count ≡ 4 →
      k ≡ size (m.header ++ x ∷ [])
      → SlotsRepresent C l b.slots effect.tracked
      (owner_after (before_with C l effect.tracked) (with_octet message d))
      → Shows C l f (state_of R' (p ++ octets))
  continuation_shows b f k settles messages_are faults_are octets_read stopped head payload_count
      size_is keeps =
      let p₄ = (p ++ x ∷ []) ++ q in
      let n = with_octet message d in
      let last = octet_effect C l most tracked n in
      let here = fits C l most p x q d runs_free no_message three full fragment sized within_limit
      in
      let before : fault_count (lines R' p₄) ≡ fault_count (lines R' p) =
      ap fault_count (started C l most p x q d runs_free no_message three full fragment sized
      within_limit)
      ∙ (count_append (lines R' p) (start_line_of (with_payload message []) ∷ [])
      ∙ omega (arith, starts_faults (with_payload message []) [], no_faults)) in
      let start : fault_count effect.lines ≡ fault_count last.lines =
      starts_faults (with_payload message []) last.lines in
      let messages_before = count C l most p x q d runs_free no_message three full fragment sized
      within_limit in
      let octets_before = many C l most p x q d runs_free no_message three full fragment sized
      within_limit in
      subst (λ (z : List ℕ). Shows C l f (state_of R' z))
      (all_octets C l most p x q d runs_free no_message three full fragment sized within_limit
      ∙ ap (λ (z : List ℕ). p ++ z) (sym come))
      (settled_shows C l most p₄ d n (omega (arith, length_push q d, three, sized)) here.number_is
      (paid C l most p x q d runs_free no_message three full fragment sized within_limit) b f k
      settles
      (omega (arith, messages_are, messages_at C l most s reached m h, messages_before))
      (omega (arith, faults_are, faults_at C l most s reached m h, before, start))
      (omega (arith, octets_read, all_come, octets_before)) (stopped ∙ free) (head ∙ header_as)
      (omega (arith, payload_count, length_push q d, three)) (size_is ∙ ap size header_as) keeps)

  pub continuation_untold : AreWithoutEvents C (header_ends_from R' p octets)
  continuation_untold = subst (λ (z : List ℕ). AreWithoutEvents C (header_ends_from R' p z))
      (sym come)
      (tells_none C l most p x q d runs_free no_message three full fragment sized within_limit)
