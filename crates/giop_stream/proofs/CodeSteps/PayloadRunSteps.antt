-- Runs of payload octets; only the last one of a run may end a request id or the message. The
-- stream with these octets, and that the code does their steps.
use Rattle.std.proofs.Common.{inl, inr, ◌≡◌, ◌≢◌, ℕ, suc, ◌+◌, ◌-◌, ◌^◌, ◌<◌, ◌≤◌, List, [], ◌∷◌, ◌++◌, length, take, get_or, refl, sym, ap, subst, ◌∙◌, append_assoc, append-nil, length-append, Option, Some, None, Result, Ok, Err, arith}
use Rattle.std.specs.Prelude.{OnOk}
use Rattle.std.specs.Result.{OkIff, result_unwrap_or}
use Rattle.std.proofs.lemmas.Bool.{cases_lt, le-ltb, ne_eqb}
use Rattle.std.proofs.lemmas.List.{length_push, length-take-le, get_or_push}
use Rattle.giop_print.specs.Output.{OutLog, Writes}
use Rattle.giop_sig.specs.Table.{Table}
use Rattle.giop_message.specs.Headers.{size}
use Rattle.giop_stream.specs.Kinds.{lookup_offset}
use Rattle.giop_message.specs.Signatures.{Answers, signatures_of}
use Rattle.giop_message.specs.ReaderOfTable.{message_reader}
use Rattle.giop_message.specs.MessageReader.{KeepsEarlierLines}
use Rattle.giop_message.proofs.MessageLaws.{is_causal}
use Rattle.giop_stream.specs.declared.current.Current.{Current}
use Rattle.giop_stream.specs.Rules.{Rules, rules_by}
use Rattle.giop_stream.specs.Framing.{CutMessage, Cut, with_payload, limit, cut, messages}
use Rattle.giop_stream.specs.Events.{Takes, MessageKey, OpenState, events_of_octet, events_at_octet, events, open_after_event, open_after, before_by}
use Rattle.giop_stream.specs.Lines.{lines}
use Rattle.giop_stream.specs.Text.{lines_text}
use Rattle.giop_stream.specs.Stream.{fault_count}
use Rattle.giop_stream.specs.Effects.{Effect, effects, tracked_after_event, with_octet, event, effect_to}
use Rattle.giop_stream.specs.OpenSlots.{Tracked, tracked_after, before_in}
use Rattle.giop_stream.specs.SlotsRepresent.{SlotsRepresent}
use Rattle.giop_stream.specs.PayloadRuns.{run_effect}
use Rattle.giop_stream.specs.Further.{current_after}
use Rattle.giop_stream.specs.PayloadOwner.{IsBeforeOctet, IsBeforeOctets, IsNewest, effect_before, octet_effect, octets_effect, owner_after, before_with}
use Rattle.giop_stream.specs.EngineView.{FramingView}
use Rattle.giop_stream.specs.EngineState.{State, state_of, owner_of_next}
use Rattle.giop_stream.specs.EngineStep.{run_step}
use Rattle.giop_stream.specs.FramingSteps.{cleared_if_complete as settled}
use Rattle.giop_stream.specs.ViewOfState.{IsReached, Shows, Does}
use Rattle.giop_stream.proofs.Cuts.Cutting.{next_cut, cut_of_parts, parts_by, cut_grows, next_payload}
use Rattle.giop_stream.proofs.Cuts.CutFrom.{cut_with_last_message}
use Rattle.giop_stream.proofs.Events.AfterMoreEvents.{count_append}
use Rattle.giop_stream.proofs.Events.Soundness.{CurrentFitsStream, IsSound}
use Rattle.giop_stream.proofs.Events.StepCases.{place_more, if_some}
use Rattle.giop_stream.proofs.Events.MessageKinds.{named_either, named_within, placed_named, later_new}
use Rattle.giop_stream.proofs.SlotSteps.OneSlotChanges.{mixes_not, mixed_same}
use Rattle.giop_stream.proofs.SlotSteps.Alike.{next_alike}
use Rattle.giop_stream.proofs.SlotSteps.AfterOctet.{owner_elsewhere}
use Rattle.giop_stream.proofs.SlotSteps.Parts.{in_turn, octet_does, owner_next}
use Rattle.giop_stream.proofs.SlotSteps.RequestIds.{says_id}
use Rattle.giop_stream.proofs.CodeSteps.OneOctet.{AddsLinesAndState, paid_is}
use Rattle.giop_stream.proofs.CodeSteps.EngineAlive.{sound, alive}
use Rattle.giop_stream.proofs.CodeSteps.WhatStands.{before_is}
use Rattle.giop_stream.proofs.CodeSteps.MessageOctets.{does_run, runs_on, all_read, owned_at, faults_at, header_is, come_is, number_is, size_few, current_fits, right, effect_of, settled_shows}
use Rattle.giop_stream.proofs.CodeSteps.MessageEnds.{goes_on}

-- ---- One of the octets.

-- The next n octets are payload of m, the current message: none of them is the last of its request
-- id or of the message.
pub record IsWithinPayload (stream : List ℕ) (message : CutMessage) (n : ℕ) : Type 0 where
  pub free : (cut stream).stop ≡ None
  pub current : (cut stream).current ≡ Some message
  pub apart : length message.payload < 4 → length message.payload + n < 4
  pub before_last : length message.payload + n < size message.header
  pub room : length stream + n ≤ limit

within_grows : (p : List ℕ) (m : CutMessage) (x n : ℕ) → IsWithinPayload p m (suc n) →
    cut (p ++ x ∷ []) ≡ cut_of_parts (cut p).whole (Some (with_octet m x)) [] None
within_grows p m x n h =
    cut_grows p x
    ∙ (ap (next_cut (length p) x) (parts_by (cut p) (Some m) None h.current h.free)
    ∙ (next_payload (cut p).whole m (cut p).held (length p) x
    (le-ltb limit (suc (length p)) (omega (arith, h.room)))
    ∙ goes_on (cut p).whole (with_octet m x)
    (omega (arith, h.before_last, length_push m.payload x))))

-- the message has no place at the next octet
not_named : (p : List ℕ) (m : CutMessage) (x n : ℕ) → IsWithinPayload p m (suc n) →
    length (m.payload ++ x ∷ []) ≢ lookup_offset m.header
not_named p m x n h e = elim (named_either m.header) [
  | inl none ↦ omega (arith, e, none, length_push m.payload x)
  | inr four ↦ elim (cases_lt (length m.payload) 4) [
    | inl less ↦ omega (arith, e, four, length_push m.payload x, h.apart less)
    | inr many ↦ omega (arith, e, four, length_push m.payload x, many)
  ]
]

pub within_on : (p : List ℕ) (m : CutMessage) (x n : ℕ) → IsWithinPayload p m (suc n) →
    IsWithinPayload (p ++ x ∷ []) (with_octet m x) n
unfolding cut_of_parts
within_on p m x n h =
    let grown = within_grows p m x n h in
    record {
      free = ap (λ (d : Cut). d.stop) grown;
      current = ap (λ (d : Cut). d.current) grown;
      apart = λ less. omega (
        arith,
        h.apart (omega (arith, less, length_push m.payload x)),
        length_push m.payload x,
      );
      before_last = omega (arith, h.before_last, length_push m.payload x);
      room = omega (arith, h.room, length_push p x);
    }

-- the octet's only event is that a message takes it
comes_alone : (most : ℕ) (b : OpenState) (m : CutMessage) → 0 < length m.payload →
    length m.payload ≢ lookup_offset m.header → length m.payload < size m.header →
    events_of_octet most b m ≡ events_at_octet b m
unfolding events_of_octet
comes_alone most b m some other less = search (arith, ne_eqb, append-nil)

-- the next octet belongs to the same message
owner_on : (b : OpenState) (m : CutMessage) (x : ℕ) →
    length (m.payload ++ x ∷ []) ≢ lookup_offset m.header →
    owner_of_next b (with_octet m x) ≡ owner_of_next b m
owner_on b m x other = search (arith, owner_elsewhere, ne_eqb, owner_next)

module _ (C : Table) (l : Answers) where
  takes_still_open : (at : ℕ) (c : Tracked) (w : Option MessageKey) (x : ℕ) →
      (effect_to C l at c w (Takes x)).tracked.still_open ≡ c.still_open
  unfolding tracked_after_event open_after_event
  takes_still_open at c None x = refl
  takes_still_open at c (Some w) x = refl

  pub takes_mixed : (at : ℕ) (c : Tracked) (w : Option MessageKey) (x : ℕ) →
      (effect_to C l at c w (Takes x)).tracked.mixed ≡ c.mixed
  takes_mixed at c None x = refl
  takes_mixed at c (Some w) x =
      mixed_same (message_reader C l) c (event at w (Takes x))
      (mixes_not (event at w (Takes x)) refl)

  module _ (most : ℕ) (p : List ℕ) (m : CutMessage) (x n : ℕ) (h : IsWithinPayload p m
      (suc n)) where
    abbrev by_these : Rules
    by_these = rules_by C l most

    is_sound : IsSound by_these p
    is_sound =
        sound by_these (is_causal (λ phase number. signatures_of C (l number) phase))
        (in_turn C l) p

    at_hand : CurrentFitsStream (length p) (cut p) m
    at_hand =
        if_some (CurrentFitsStream (length p) (cut p)) (cut p).current m h.current
        (is_sound.fits h.free).current

    -- the octet's effect on the message to which it belongs
    abbrev pub taken : Effect
    taken = effect_to C l (suc (length p)) (tracked_after by_these p)
        (owner_of_next (before_by by_these (events by_these p)) m) (Takes x)

    octet_takes : effects (message_reader C l) (tracked_after by_these p)
        (events_of_octet most (before_by by_these (events by_these p)) (with_octet m x)) ≡ taken
    octet_takes =
        let last : get_or (m.payload ++ x ∷ []) (length (m.payload ++ x ∷ []) - 1) 0 ≡ x =
        get_or_push m.payload x 0 (length (m.payload ++ x ∷ []) - 1)
        (omega (arith, length_push m.payload x)) in
        let b = before_by by_these (events by_these p) in
        let alone =
        comes_alone most b (with_octet m x) (omega (arith, length_push m.payload x))
        (not_named p m x n h) (omega (arith, h.before_last, length_push m.payload x)) in
        rw (alone, ← owner_next b m x)
        (octet_does C l (tracked_after by_these p) b (with_octet m x) x (suc (length p)) last
        (place_more m x (length p) at_hand.place_is))

    pub octet_adds : AddsLinesAndState by_these p (p ++ x ∷ [])
        (cut_with_last_message (cut p).whole (with_octet m x)) taken.lines taken.tracked
    octet_adds =
        let room = le-ltb limit (suc (length p)) (omega (arith, h.room)) in
        rw octet_takes at (paid_is by_these
        (is_causal (λ phase number. signatures_of C (l number) phase)) (in_turn C l) p x is_sound m
        h.free h.current room)

    pub octet_owner : owner_of_next (before_by by_these (events by_these (p ++ x ∷ [])))
        (with_octet m x)
        ≡ owner_of_next (before_by by_these (events by_these p)) m
    unfolding before_in
    octet_owner =
        let p' = p ++ x ∷ [] in
        let w = owner_of_next (before_by by_these (events by_these p)) m in
        let c = tracked_after by_these p in
        let after : before_by by_these (events by_these p')
        ≡ before_in by_these.asks taken.tracked =
        sym (before_is by_these p' octet_adds.sound)
        ∙ ap (before_in by_these.asks) octet_adds.tracked_after in
        ap (λ (b : OpenState). owner_of_next b (with_octet m x)) after
        ∙ (next_alike (before_in by_these.asks c) (before_in by_these.asks taken.tracked)
        (with_octet m x)
        (record {
          still_open = takes_still_open (suc (length p)) c w x;
          mixed = takes_mixed (suc (length p)) c w x;
        })
        ∙ (ap (λ (b : OpenState). owner_of_next b (with_octet m x)) (before_is by_these p is_sound)
        ∙ owner_on (before_by by_these (events by_these p)) m x (not_named p m x n h)))

-- fewer than n octets are payload of m too
pub within_less : (p : List ℕ) (m : CutMessage) (k n : ℕ) → k ≤ n → IsWithinPayload p m n →
    IsWithinPayload p m k
within_less p m k n less h = record {
  free = h.free;
  current = h.current;
  apart = λ early. omega (arith, less, h.apart early);
  before_last = omega (arith, less, h.before_last);
  room = omega (arith, less, h.room);
}

-- no message begins in these octets
pub none_begin : (xs p : List ℕ) (m : CutMessage) → IsWithinPayload p m (length xs) →
    length (messages (cut (p ++ xs))) ≡ length (messages (cut p))
unfolding cut_of_parts messages
none_begin [] p m h = ap (λ z. length (messages (cut z))) (append-nil p)
none_begin (x ∷ xs) p m h =
    let grown = ap (λ (c : Cut). length (messages c)) (within_grows p m x (length xs) h) in
    let was = ap (λ (c : Cut). length (messages c)) (parts_by (cut p) (Some m) None h.current
    h.free)
    in
    let more = none_begin xs (p ++ x ∷ []) (with_octet m x) (within_on p m x (length xs) h) in
    ap (λ z. length (messages (cut z))) (sym (append_assoc p (x ∷ []) xs))
    ∙ omega (
      arith,
      more,
      grown,
      was,
      length_push (cut p).whole m,
      length_push (cut p).whole (with_octet m x),
    )

-- ---- All of the octets.

-- what stands before the next octet of the stream p
abbrev pub before_of : (C : Table) (answers : Answers) (most : ℕ) (stream : List ℕ) → OpenState
before_of C l most p = before_by (rules_by C l most) (events (rules_by C l most) p)

-- the stream p with these octets, if m is its current message
pub record IsRun (C : Table) (answers : Answers) (most : ℕ) (stream : List ℕ) (message : CutMessage)
    (q : List ℕ) :
    Type
    0 where
  pub within : IsWithinPayload (stream ++ q) (with_payload message (message.payload ++ q)) 0
  pub lines : lines (rules_by C answers most) (stream ++ q) ≡ lines
      (rules_by C answers most) stream ++ (run_effect C answers (length stream) (tracked_after
      (rules_by C answers most) stream)
      (owner_of_next (before_of C answers most stream) message) q).lines
  pub tracked_after : tracked_after (rules_by C answers most) (stream ++ q)
      ≡ (run_effect C answers (length stream) (tracked_after (rules_by C answers most) stream)
      (owner_of_next (before_of C answers most stream) message) q).tracked
  pub owner_of_next : owner_of_next (before_of C answers most (stream ++ q)) (with_payload message
      (message.payload ++ q))
      ≡ owner_of_next (before_of C answers most stream) message

module _ (C : Table) (l : Answers) where
  pub run_is : (most : ℕ) (q p : List ℕ) (m : CutMessage) → IsWithinPayload p m (length q) →
      IsRun C l most p m q
  unfolding run_effect
  run_is most [] p m h = search (arith, append-nil)
  run_is most (x ∷ q) p m h =
      let R = rules_by C l most in
      let p' = p ++ x ∷ [] in
      let more = run_is most q p' (with_octet m x) (within_on p m x (length q) h) in
      let all : p' ++ q ≡ p ++ x ∷ q = append_assoc p (x ∷ []) q in
      let payload : (m.payload ++ x ∷ []) ++ q ≡ m.payload ++ x ∷ q =
      append_assoc m.payload (x ∷ []) q in
      let at : length p' ≡ suc (length p) = omega (arith, length_push p x) in
      let one = octet_adds C l most p m x (length q) h in
      let who = octet_owner C l most p m x (length q) h in
      record {
        within = subst (λ (z : List ℕ). IsWithinPayload (p ++ x ∷ q) (with_payload m z) 0) payload
            (subst (λ (r : List ℕ). IsWithinPayload r (with_payload m ((m.payload ++ x ∷ [])
            ++ q)) 0) all
            more.within);
        lines = ap (lines R) (sym all) ∙ (more.lines
            ∙ ((λ j. one.lines j ++ (run_effect C l (at j) (one.tracked_after j) (who j) q).lines)
            ∙ append_assoc (lines R p) _ _));
        tracked_after = ap (tracked_after R) (sym all)
            ∙ (more.tracked_after ∙ (λ j. (run_effect C l (at j) (one.tracked_after j) (who j)
            q).tracked));
        owner_of_next = (λ j. owner_of_next (before_of C l most (sym all j))
            (with_payload m (sym payload j))) ∙ (more.owner_of_next ∙ who);
      }

-- ---- What the fields show after these octets.

-- a number below 2 ^ 32 is converted as it is
pub number_fits : {E : Type 0} (r : Result ℕ E) (n other : ℕ) → n < 2 ^ 32 →
    OkIff r (n < 2 ^ 32) n → result_unwrap_or r other ≡ n
number_fits (Ok k) n other less h = h.1
number_fits (Err e) n other less h = absurd (h less)

-- the octets before the last one, and the last one
pub octets_are : (xs : List ℕ) → 0 < length xs → (q : List ℕ) × ((x : ℕ) × (xs ≡ q ++ x ∷ []))
octets_are [] some = absurd (omega (arith, some))
octets_are (x ∷ []) some = ([], (x, refl))
octets_are (x ∷ y ∷ xs) some = let (q, (z, e)) = octets_are (y ∷ xs) (omega arith) in
    (x ∷ q, (z, ap (λ (zs : List ℕ). x ∷ zs) e))

-- none of the octets before the last one is the message's last
before_all : (q : List ℕ) (n payload_count most : ℕ) → n ≡ suc (length q) → payload_count < most →
    (1 < n → payload_count + n ≤ most)
    → payload_count + length q < most
before_all [] n payload_count most one lacks few = omega (arith, lacks)
before_all (y ∷ q) n payload_count most one lacks few = search (arith)

module _ (C : Table) (l : Answers) (most : ℕ) (s : State) (reached : IsReached C l most s)
    (m : FramingView) (h : Shows C l m s)
    (free : m.stopped ≡ None) (c : CutMessage) (current : (cut reached.stream).current ≡ Some c)
    (octets q : List ℕ) (x : ℕ)
    (split : octets ≡ q ++ x ∷ []) (apart : m.payload_count < 4 →
    m.payload_count + length octets ≤ 4)
    (few : 1 < length octets → m.payload_count + length octets ≤ size m.header)
    (room : m.totals.octets + length octets ≤ 2 ^ 48) where
  abbrev R : Rules
  R = rules_by C l most

  abbrev p : List ℕ
  p = reached.stream

  causal : KeepsEarlierLines R.reading
  causal = search (arith, is_causal)

  pub all : m.totals.octets ≡ length p
  all = search (arith, all_read)

  one_more : length octets ≡ suc (length q)
  one_more = search (arith, length_push)

  here : m.payload_count ≡ length c.payload
  here = come_is C l most s reached m h free c current

  header : m.header ≡ c.header
  header = header_is C l most s reached m h free c current

  lacks : m.payload_count < size m.header
  lacks = omega (
    arith,
    (current_fits C l most s reached m h free c current).lacks,
    here,
    ap size header,
  )

  before_last : m.payload_count + length q < size m.header
  before_last = search (arith, before_all, header, one_more, lacks)

  pub begins : IsWithinPayload p c (length q)
  unfolding limit
  begins = record {
    free = runs_on C l most s reached m h free;
    current = current;
    apart = λ less. omega (arith, apart (omega (arith, less, here)), here, one_more);
    before_last = omega (arith, before_last, here, ap size header);
    room = omega (arith, room, all, one_more);
  }

  -- the number of payload octets with these is below 2^32
  pub run_fits : m.payload_count + length octets < 2 ^ 32
  run_fits = omega (arith, before_last, size_few C l most s reached m h free c current, one_more)

  -- ---- The octets before the last one, and the message with them.

  run : IsRun C l most p c q
  run = run_is C l most q p c begins

  abbrev p' : List ℕ
  p' = p ++ q

  abbrev c' : CutMessage
  c' = with_payload c (c.payload ++ q)

  so : IsSound R p'
  so = sound R causal (in_turn C l) p'

  fits : CurrentFitsStream (length p') (cut p') c'
  fits = if_some (CurrentFitsStream (length p') (cut p')) (cut p').current c' run.within.current
      (so.fits run.within.free).current

  abbrev last_does : Effect
  last_does = effect_of C l most p' (with_octet c' x)

  so_p : IsSound R p
  so_p = sound R causal (in_turn C l) p

  paid : AddsLinesAndState R p' (p' ++ x ∷ []) (cut_with_last_message (cut p').whole
      (with_octet c' x)) last_does.lines
      last_does.tracked
  unfolding limit
  paid =
      subst (λ (b : OpenState). AddsLinesAndState R p' (p' ++ x ∷ []) (cut_with_last_message
      (cut p').whole
      (with_octet c' x))
      (effects R.reading (tracked_after R p') (events_of_octet most b (with_octet c' x))).lines
      (effects R.reading (tracked_after R p') (events_of_octet most b (with_octet c' x))).tracked)
      (sym (before_is R p' so))
      (paid_is R causal (in_turn C l) p' x so c' run.within.free run.within.current
      (le-ltb limit (suc (length p')) (omega (arith, room, all, one_more, length-append p q))))

  all_octets : p' ++ x ∷ [] ≡ p ++ octets
  all_octets = search (arith, append_assoc)

  -- ---- What the code knows.

  pub run_keeps : SlotsRepresent C l m.slots (tracked_after R p)
      (owner_of_next (before_with C l (tracked_after R p)) c)
  run_keeps = owned_at C l most s reached m h free c current

  module _ (now : Current) (number : now.number ≡ m.totals.messages) (head : now.header ≡ m.header)
      (place_is : now.place ≡ m.totals.octets + length octets)
      (payload_count : now.payload_count ≡ m.payload_count + length octets) where
    start : now.place - suc (length q) ≡ length p
    start = search (arith, all, one_more)

    -- what the octets before the last one do
    abbrev before : Effect
    before = effect_before C l (tracked_after R p) c now q

    ran_same : before ≡ run_effect C l (length p) (tracked_after R p)
        (owner_of_next (before_of C l most p) c) q
    ran_same = λ j. run_effect C l (start j) (tracked_after R p)
        (owner_of_next (before_is R p so_p j) c) q

    ran_then : before.tracked ≡ tracked_after R p'
    ran_then = ap (λ (e : Effect). e.tracked) ran_same ∙ sym run.tracked_after

    ran_lines : lines R p' ≡ lines R p ++ before.lines
    ran_lines = run.lines ∙ ap (λ (e : Effect). lines R p ++ e.lines) (sym ran_same)

    before_x : IsBeforeOctet (tracked_after R p') c' now x
    unfolding tracked_after
    before_x = record {
      rising = so.rising;
      current = record {
        number = number_is C l most s reached m h free c current ∙ sym number;
        header = sym (head ∙ header);
        place = omega (
          arith,
          place_more c' x (length p') fits.place_is,
          all,
          place_is,
          one_more,
          length-append p q,
        );
      };
      payload_count = omega (arith, payload_count, here, one_more, length-append c.payload q);
      newest = if_some (λ m. length m.payload < lookup_offset m.header →
          IsNewest m.number (open_after R p'))
          (cut p').current c' run.within.current (so.early run.within.free);
      alive = λ place less. alive R causal (in_turn C l) p' run.within.free c' run.within.current
          (placed_named c.header place (later_new c.header (omega (arith, less))))
          (omega (arith, less, named_within c.header));
      says = λ name. says_id c.header (current_fits C l most s reached m h free c current).twelve
          (right C l most s reached m h free c current).1 name;
    }

    pub run_before : IsBeforeOctets C l m.slots (tracked_after R p) c now q x
    unfolding tracked_after
    run_before = record {
      keeps = run_keeps;
      rising = so_p.rising;
      same_owner = ap (λ (t : Tracked). owner_of_next (before_with C l t) c') ran_then
          ∙ (ap (λ (b : OpenState). owner_of_next b c') (before_is R p' so)
          ∙ (run.owner_of_next
          ∙ ap (λ (b : OpenState). owner_of_next b c) (sym (before_is R p so_p))));
      last = subst (λ (t : Tracked). IsBeforeOctet t c' now x) (sym ran_then) before_x;
    }

    -- ---- What these octets do.

    abbrev all_do : Effect
    all_do = octets_effect C l most (tracked_after R p) c now q x

    abbrev x_does : (tracked : Tracked) → Effect
    x_does t = octet_effect C l most t (with_octet c' x)

    grows : lines R (p ++ octets) ≡ lines R p ++ all_do.lines
    grows = ap (lines R) (sym all_octets)
        ∙ (paid.lines ∙ ((λ j. ran_lines j ++ (x_does (sym ran_then j)).lines)
        ∙ append_assoc (lines R p) before.lines (x_does before.tracked).lines))

    pub run_does : {A E : Type 0} (result : Result A E) (before after : OutLog) (f : FramingView)
        → Writes result before after (lines_text all_do.lines) →
        OnOk result (Shows C l f (state_of R (p ++ octets)))
        → Does C l result before after f (run_step R s octets)
    run_does result before after f text shows = search (arith, does_run, grows)

    pub run_shows : (b f : FramingView) (k : ℕ) → f ≡ settled b k →
        b.totals.messages ≡ m.totals.messages
        → b.totals.faults ≡ m.totals.faults + fault_count all_do.lines
        → b.totals.octets ≡ m.totals.octets + length octets → b.stopped ≡ m.stopped →
        b.header ≡ m.header
        → b.payload_count ≡ m.payload_count + length octets → k ≡ size m.header
        → SlotsRepresent C l b.slots all_do.tracked
        (owner_after (before_with C l all_do.tracked) (with_octet c' x)) →
        Shows C l f (state_of R (p ++ octets))
    unfolding tracked_after
    run_shows b f k is messages faults octets stopped head_is count sized keeps =
        let n = with_octet c' x in
        let grown : fault_count (lines R p') ≡ fault_count (lines R p) + fault_count before.lines =
        ap fault_count ran_lines ∙ count_append (lines R p) before.lines in
        let sum : fault_count all_do.lines ≡ fault_count before.lines + fault_count
        (x_does (tracked_after R p')).lines =
        count_append before.lines (x_does before.tracked).lines
        ∙ ap (λ (t : Tracked). fault_count before.lines + fault_count (x_does t).lines) ran_then in
        subst (λ (z : List ℕ). Shows C l f (state_of R z)) all_octets
        (settled_shows C l most p' x n (omega (
          arith,
          run.within.before_last,
          length_push (c.payload ++ q) x,
        )) fits.number_is paid b f k is
        (messages ∙ sym (number_is C l most s reached m h free c current))
        (omega (arith, faults, faults_at C l most s reached m h, grown, sum))
        (omega (arith, octets, all, one_more, length-append p q)) (stopped ∙ free)
        (head_is ∙ header)
        (omega (
          arith,
          count,
          here,
          one_more,
          length-append c.payload q,
          length_push (c.payload ++ q) x,
        )) (sized ∙ ap size header)
        (subst (λ (t : Tracked). SlotsRepresent C l b.slots (x_does t).tracked
        (owner_after (before_with C l (x_does t).tracked) n)) ran_then keeps))

-- ---- The first n of the octets, which are those that are taken.

module _ (C : Table) (l : Answers) (most : ℕ) (s : State) (reached : IsReached C l most s)
    (m : FramingView) (h : Shows C l m s)
    (free : m.stopped ≡ None) (c : CutMessage) (current : (cut reached.stream).current ≡ Some c)
    (octets : List ℕ) (apart : m.payload_count < 4 → m.payload_count + length octets ≤ 4)
    (few : 1 < length octets → m.payload_count + length octets ≤ size m.header)
    (room : m.totals.octets + length octets ≤ 2 ^ 48) (n : ℕ) (some : 0 < n)
    (within : n ≤ length octets) (before : Current)
    (known : (before.number ≡ m.totals.messages) × (before.header ≡ m.header)
    × (before.place ≡ m.totals.octets) × (before.payload_count ≡ m.payload_count)) where
  abbrev xs : List ℕ
  xs = take n octets

  pub long : length xs ≡ n
  long = length-take-le n octets within

  abbrev pub parts : (q : List ℕ) × ((x : ℕ) × (xs ≡ q ++ x ∷ []))
  parts = octets_are xs (omega (arith, long, some))

  abbrev pub now : Current
  now = current_after before (suc (length parts.0))

  apart_then : m.payload_count < 4 → m.payload_count + length xs ≤ 4
  apart_then less = omega (arith, long, within, apart less)

  few_then : 1 < length xs → m.payload_count + length xs ≤ size m.header
  few_then more = omega (arith, long, within, more, few (omega (arith, long, within, more)))

  room_then : m.totals.octets + length xs ≤ 2 ^ 48
  room_then = omega (arith, long, within, room)

  few_taken : m.payload_count + length xs < 2 ^ 32
  few_taken = run_fits C l most s reached m h free c current xs parts.0 parts.1.0 parts.1.1
      apart_then
      few_then room_then

  last : length xs ≡ suc (length parts.0)
  last = omega (arith, ap length parts.1.1, length_push parts.0 parts.1.0)

  pub place_is : now.place ≡ m.totals.octets + length xs
  place_is = omega (arith, known.2, last)

  pub count_is : now.payload_count ≡ m.payload_count + length xs
  count_is = omega (arith, known.3, last, few_taken)

  pub taken_before : IsBeforeOctets C l m.slots (tracked_after (rules_by C l most) reached.stream) c
      now parts.0 parts.1.0
  taken_before = run_before C l most s reached m h free c current xs parts.0 parts.1.0 parts.1.1
      apart_then few_then room_then now known.0 known.1 place_is count_is

  -- the effect of the octets that are taken
  abbrev pub taken_do : Effect
  taken_do = octets_effect C l most (tracked_after (rules_by C l most) reached.stream) c now parts.0
      parts.1.0

  pub taken_does : {A E : Type 0} (result : Result A E) (a b : OutLog) (f : FramingView) →
      Writes result a b (lines_text taken_do.lines) →
      OnOk result (Shows C l f (state_of (rules_by C l most) (reached.stream ++ xs))) →
      Does C l result a b f (run_step (rules_by C l most) s xs)
  taken_does result a b f text shows =
      run_does C l most s reached m h free c current xs parts.0 parts.1.0 parts.1.1 apart_then
      few_then room_then now known.0 known.1 place_is count_is result a b f text shows

  pub taken_shows : (b f : FramingView) (k : ℕ) → f ≡ settled b k →
      b.totals.messages ≡ m.totals.messages →
      b.totals.faults ≡ m.totals.faults + fault_count taken_do.lines →
      b.totals.octets ≡ now.place → b.stopped ≡ m.stopped → b.header ≡ m.header →
      b.payload_count ≡ now.payload_count → k ≡ size m.header →
      SlotsRepresent C l b.slots taken_do.tracked (owner_after (before_with C l taken_do.tracked)
      (with_octet (with_payload c (c.payload ++ parts.0)) parts.1.0)) →
      Shows C l f (state_of (rules_by C l most) (reached.stream ++ xs))
  taken_shows b f k is messages faults octets_are stopped head count sized keeps =
      run_shows C l most s reached m h free c current xs parts.0 parts.1.0 parts.1.1 apart_then
      few_then room_then now known.0 known.1 place_is count_is b f k is messages faults
      (octets_are ∙ place_is) stopped head (count ∙ count_is) sized keeps
