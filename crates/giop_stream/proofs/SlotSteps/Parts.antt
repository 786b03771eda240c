-- A payload octet in three parts, as the code does it: its owner takes it; then come the events of
-- the message's place among the open ones, and then those of its end.
use Rattle.std.proofs.Common.{append-nil, append_assoc, length-append, suc, ◌≡◌, ℕ, ◌+◌, ◌-◌, ◌<◌, ◌≤◌, Bool, true, false, List, [], ◌∷◌, ◌++◌, length, get_or, refl, sym, ap, ◌∙◌, Option, Some, None, arith}
use Rattle.std.specs.Prelude.{◌==◌, is_none, if◌then◌else◌}
use Rattle.std.specs.List.{find}
use Rattle.std.proofs.lemmas.Bool.{ne_eqb, eqb-true, le-leb, lt-ltb, cases_lt}
use Rattle.std.proofs.lemmas.List.{length_push, get_or_push, take-append-le}
use Rattle.giop_sig.specs.Table.{Table}
use Rattle.giop_message.specs.Signatures.{Answers}
use Rattle.giop_message.specs.ReaderOfTable.{message_reader}
use Rattle.giop_message.specs.MessageReader.{MessageReader, IsStreamable}
use Rattle.giop_message.specs.Headers.{size, begins_with_request_id}
use Rattle.giop_stream.specs.Kinds.{is_fragmented_1_1, is_any_fragment, lookup_offset}
use Rattle.giop_message.proofs.MessageLaws.{is_ordered, is_closing, is_named, lines_phased}
use Rattle.giop_stream.specs.declared.slots.Slots.{Slots}
use Rattle.giop_stream.specs.declared.current.Current.{Current}
use Rattle.giop_stream.specs.Rules.{RequestIds, Rules, rules_by}
use Rattle.giop_stream.specs.Framing.{CutMessage, with_payload}
use Rattle.giop_stream.specs.Events.{Takes, MessageKey, OpenState, Open, Event, message_key, place, opener_of, is_named_fragment, has_joined_octets, id, key, octets_of_event, events_at_octet, events_at_name, events_at_end, events_of_octet, open_after_events, NumbersRise, naming_events, message_end_events}
use Rattle.giop_stream.specs.Effects.{Effect, effects, tracked_after_event, then_effect, with_octet, event, effect_to}
use Rattle.giop_stream.specs.OpenSlots.{KeptByNumber, Tracked, IsNotOpen, given_id, given_id_of_open, before_in}
use Rattle.giop_stream.specs.SlotsRepresent.{SlotsRepresent}
use Rattle.giop_stream.specs.PayloadRuns.{run_effect}
use Rattle.giop_stream.specs.PayloadOwner.{IsBeforeOctet, IsBeforeOctets, before_with, effect_before, IsAfterTake, IsAtOctet, IsNewest, acts_on_open, own_kept, owner_of_octet, owner_after, events_if_at_name, events_if_at_end}
use Rattle.giop_stream.specs.EngineState.{opener_key, owner_of_next}
use Rattle.giop_stream.proofs.Events.MessageKinds.{named_four, named_within, later_new}
use Rattle.giop_stream.proofs.Events.EventsOfOctet.{quiet_octet, quiet_continues}
use Rattle.giop_stream.proofs.Events.EventsKeep.{rising_push, rising_filter, opened_by, kept_name}
use Rattle.giop_stream.proofs.SlotSteps.OneSlotChanges.{own_then, others_then, mixes_not, mixed_same, or_nothing}
use Rattle.giop_stream.proofs.SlotSteps.EventsOnSlots.{still_takes}
use Rattle.giop_stream.proofs.SlotSteps.Alike.{IsSameOpenState, effects_still_open, effects_alike, next_alike, octet_alike, end_alike, calm_octet, calm_name}
use Rattle.giop_stream.proofs.StreamLines.IdBeforeEnd.{named_then}
use Rattle.giop_stream.proofs.StreamLines.LineOrder.{not_past}
use Rattle.giop_stream.proofs.SlotSteps.Cases.{effects_none, effects_append, octet_own, octet_passed, octet_lost}
use Rattle.giop_stream.proofs.SlotSteps.Ending.{owner_early, owner_plain}
use Rattle.giop_stream.proofs.SlotSteps.AfterOctet.{newest_apart, owner_own}

-- ---- The open messages between the parts.

-- a Fragment opens and closes nothing as it has its place
pub fragment_still : (most : ℕ) (b : OpenState) (still_open : List Open) (m : CutMessage) →
    is_any_fragment m.header ≡ true →
    open_after_events still_open (events_if_at_name most b m) ≡ still_open
unfolding events_if_at_name naming_events open_after_events
fragment_still most b still_open m f = search (arith, quiet_continues)

-- if a message is no Fragment, what stands before it makes no difference to the events at its end
pub plain_end : (b b' : OpenState) (m : CutMessage) → is_any_fragment m.header ≡ false →
    events_if_at_end b' m ≡ events_if_at_end b m
unfolding events_if_at_end message_end_events
plain_end b b' m f = rw f refl

pub rising_name : (most : ℕ) (b : OpenState) (m : CutMessage) → NumbersRise b.still_open →
    (length m.payload ≡ lookup_offset m.header → IsNewest m.number b.still_open) →
    NumbersRise (open_after_events b.still_open (events_if_at_name most b m))
unfolding events_if_at_name open_after_events opened_by
rising_name most b m r newest = go (length m.payload == lookup_offset m.header) refl
  where
    go : (at : Bool) → (length m.payload == lookup_offset m.header) ≡ at →
        NumbersRise (open_after_events b.still_open (if at then events_at_name most b m else []))
    go true e =
        kept_name most NumbersRise b m (record {
          fewer = rising_filter;
          more = λ can q. rising_push b.still_open (opened_by m) q
              (newest can.named);
        }) (eqb-true (length m.payload) (lookup_offset m.header) e) r
    go false e = r

-- ---- What stands before the events of the place, after the message itself took its octet.

asked_one : (asks : RequestIds) (K K' : KeptByNumber) (o : Open) (rest : Option Open) (b : Bool) →
    K' o.opener.number ≡ K o.opener.number → given_id_of_open asks K' rest
    ≡ given_id_of_open asks K rest →
    given_id_of_open asks K' (if b then Some o else rest) ≡ given_id_of_open asks K
    (if b then Some o else rest)
asked_one asks K K' o rest true e h = ap (given_id asks o.opener) e
asked_one asks K K' o rest false e h = h

asked_same : (asks : RequestIds) (K K' : KeptByNumber) (test : Open → Bool)
    (still_open : List Open) (n : ℕ) → IsNotOpen n still_open →
    ((i : ℕ) → (i ≡ n → ⊥) → K' i ≡ K i) →
    given_id_of_open asks K' (find test still_open) ≡ given_id_of_open asks K (find test still_open)
asked_same asks K K' test [] n h same = refl
asked_same asks K K' test (o ∷ still_open) n h same =
    asked_one asks K K' o (find test still_open) (test o) (same o.opener.number h.0)
    (asked_same asks K K' test still_open n h.1 same)

takes_still : (R : MessageReader) (c : Tracked) (at : ℕ) (w : MessageKey) (x : ℕ) →
    (tracked_after_event R c (event at w (Takes x))).still_open ≡ c.still_open
unfolding tracked_after_event
takes_still R c at w x = still_takes x c.still_open w

-- an octet of a message that isn't open changes nothing of what stands before it
taken_before : (R : Rules) (c : Tracked) (at : ℕ) (w : MessageKey) (x : ℕ) →
    IsNotOpen w.number c.still_open →
    before_in R.asks (tracked_after_event R.reading c (event at w (Takes x))) ≡ before_in R.asks c
unfolding before_in
taken_before R c at w x apart = λ j. record {
  still_open = still j;
  mixed = mixed j;
  asked = (ap (λ (open' : List Open). given_id_of_open R.asks known' (find
      (λ o. is_none o.key) open'))
      still ∙ asked_same R.asks c.known known' (λ o. is_none o.key) c.still_open w.number apart
      (λ i other. others_then R.reading c e i other)) j;
}
  where
    e : Event
    e = event at w (Takes x)

    known' : KeptByNumber
    known' = (tracked_after_event R.reading c e).known

    still : (tracked_after_event R.reading c e).still_open ≡ c.still_open
    still = takes_still R.reading c at w x

    mixed : (tracked_after_event R.reading c e).mixed ≡ c.mixed
    mixed = mixed_same R.reading c e (mixes_not e refl)

third_if : (R : Rules) (c : Tracked) (m : CutMessage) (b : OpenState) (last : Bool) →
    (if last then None else owner_of_next (before_in R.asks c) m)
    ≡ (if last then None else owner_of_next (before_in R.asks
    (effects R.reading c (if last then events_at_end b m else [])).tracked) m)
third_if R c m b true = refl
third_if R c m b false = ap (λ (p : Effect). owner_of_next (before_in R.asks p.tracked) m)
    (sym (effects_none R.reading c))

-- the events at the message's end make no difference to the owner of the octets after this one
pub third_by : (R : Rules) (c : Tracked) (m : CutMessage) →
    (let b = before_in R.asks c in owner_after b m
    ≡ owner_after (before_in R.asks (effects R.reading c (events_if_at_end b m)).tracked) m)
unfolding owner_after events_if_at_end
third_by R c m =
    third_if R c m (before_in R.asks c) (length m.payload == size m.header)

-- ---- The parts.

module _ (R : Rules) (c : Tracked) (m : CutMessage) where
  abbrev b : OpenState
  b = before_in R.asks c

  abbrev pub first : Effect
  first = effects R.reading c (events_at_octet b m)

  abbrev b1 : OpenState
  b1 = before_in R.asks first.tracked

  abbrev pub second : Effect
  second = effects R.reading first.tracked (events_if_at_name R.most b1 m)

  abbrev b2 : OpenState
  b2 = before_in R.asks second.tracked

  abbrev pub third : Effect
  third = effects R.reading second.tracked (events_if_at_end b2 m)

  pub first_alike : IsSameOpenState b b1
  first_alike = effects_alike R c (events_at_octet b m) (calm_octet b m)
      (quiet_octet c.still_open _ _)

  pub first_still_open : first.tracked.still_open ≡ c.still_open
  unfolding before_in
  first_still_open = first_alike.still_open

  second_alike : is_any_fragment m.header ≡ true → IsSameOpenState b1 b2
  second_alike f = effects_alike R first.tracked (events_if_at_name R.most b1 m)
      (calm_name R.most b1 m f) (fragment_still R.most b1 first.tracked.still_open m f)

  second_still_open : second.tracked.still_open
      ≡ open_after_events b1.still_open (events_if_at_name R.most b1 m)
  unfolding before_in
  second_still_open = effects_still_open R.reading first.tracked (events_if_at_name R.most b1 m)

  end_same : events_if_at_end b2 m ≡ events_if_at_end b m
  end_same = go (is_any_fragment m.header) refl
    where
      go : (fragment : Bool) → is_any_fragment m.header ≡ fragment →
          events_if_at_end b2 m ≡ events_if_at_end b m
      go true f = end_alike b1 b2 m (second_alike f) ∙ end_alike b b1 m first_alike
      go false f = plain_end b b2 m f

  -- the message is newer than the open ones if it has its place at this octet
  abbrev pub IsNew : Type 0
  IsNew = length m.payload ≡ lookup_offset m.header → IsNewest m.number c.still_open

  first_before : IsNew → length m.payload ≡ lookup_offset m.header → b1 ≡ b
  first_before newest named =
      let past = not_past m (omega (arith, named)) in
      ap (λ (p : Effect). before_in R.asks p.tracked) (octet_own R.reading c b m past)
      ∙ taken_before R c (place m) (message_key m) (get_or m.payload (length m.payload - 1) 0)
      (newest_apart m.number c.still_open (newest named))

  name_same : IsNew → events_if_at_name R.most b1 m ≡ events_if_at_name R.most b m
  unfolding events_if_at_name
  name_same newest = go (length m.payload == lookup_offset m.header) refl
    where
      go : (at : Bool) → (length m.payload == lookup_offset m.header) ≡ at →
          (if at then events_at_name R.most b1 m else [])
          ≡ (if at then events_at_name R.most b m else [])
      go true e = ap (λ (a : OpenState). events_at_name R.most a m)
          (first_before newest (eqb-true (length m.payload) (lookup_offset m.header) e))
      go false e = refl

  parts : (length m.payload ≡ 0 → ⊥) → events_of_octet R.most b m
      ≡ events_at_octet b m ++ (events_if_at_name R.most b m ++ events_if_at_end b m)
  unfolding events_of_octet events_if_at_name events_if_at_end
  parts some = search (arith, ne_eqb)

  pub in_parts : (length m.payload ≡ 0 → ⊥) → IsNew →
      effects R.reading c (events_of_octet R.most b m)
      ≡ then_effect first (then_effect second third)
  in_parts some newest =
      ap (effects R.reading c) (parts some ∙ ap (λ (es : List Event). events_at_octet b m ++ es)
      (λ j. sym (name_same newest) j ++ sym end_same j))
      ∙ (effects_append R.reading c (events_at_octet b m) _
      ∙ ap (then_effect first) (effects_append R.reading first.tracked
      (events_if_at_name R.most b1 m)
      (events_if_at_end b2 m)))

  pub second_owner : owner_of_next b1 m ≡ owner_of_next b2 m
  second_owner = go (is_any_fragment m.header) refl
    where
      go : (fragment : Bool) → is_any_fragment m.header ≡ fragment →
          owner_of_next b1 m ≡ owner_of_next b2 m
      go true f = sym (next_alike b1 b2 m (second_alike f))
      go false f = owner_plain b1 m f ∙ sym (owner_plain b2 m f)

  pub second_rising : NumbersRise c.still_open → IsNew → NumbersRise second.tracked.still_open
  unfolding before_in
  second_rising r newest = rw second_still_open (rising_name R.most b1 m (rw first_still_open r)
      (λ named. rw first_still_open (newest named)))

  pub third_owner : owner_after b2 m ≡ owner_after (before_in R.asks third.tracked) m
  third_owner = third_by R second.tracked m

-- ---- The owner of the next octet.

same_id : (m : CutMessage) (x : ℕ) → 4 ≤ length m.payload → id (with_octet m x) ≡ id m
unfolding id
same_id m x many = search (arith, take-append-le)

pub same_key : (m : CutMessage) (x : ℕ) → lookup_offset m.header ≤ length m.payload → (old : Bool) →
    is_fragmented_1_1 m.header ≡ old → key (with_octet m x) ≡ key m
unfolding key
same_key m x many true old = rw old refl
same_key m x many false new = search (arith, same_id, named_four)

same_opener : (b : OpenState) (m : CutMessage) (x : ℕ) →
    lookup_offset m.header ≤ length m.payload →
    opener_of b (with_octet m x) ≡ opener_of b m
unfolding opener_of
same_opener b m x many = rw (same_key m x many (is_fragmented_1_1 m.header) refl) refl

pub owner_next : (b : OpenState) (m : CutMessage) (x : ℕ) →
    owner_of_octet b (with_octet m x) ≡ owner_of_next b m
unfolding owner_of_octet owner_of_next is_named_fragment has_joined_octets
owner_next b m x = search (
  arith,
  cases_lt,
  owner_own,
  length_push,
  owner_early,
  lt-ltb,
  le-leb,
  same_opener,
)

module _ (C : Table) (l : Answers) where
  pub in_turn : IsStreamable (message_reader C l)
  in_turn = search (arith, is_named, is_ordered, is_closing, lines_phased)

  about_takes : (c : Tracked) (b : OpenState) (m : CutMessage) (x at : ℕ) (r : Option Open) →
      has_joined_octets m ≡ true → opener_of b m ≡ r
      → get_or m.payload (length m.payload - 1) 0 ≡ x → place m ≡ at
      → effects (message_reader C l) c (events_at_octet b m)
      ≡ effect_to C l at c (opener_key r) (Takes x)
  about_takes c b m x at None past e last here = search (arith, octet_lost)
  about_takes c b m x at (Some o) past e last here = search (arith, octet_passed)

  pub octet_does : (c : Tracked) (b : OpenState) (m : CutMessage) (x at : ℕ) →
      get_or m.payload (length m.payload - 1) 0 ≡ x → place m ≡ at
      → effects (message_reader C l) c (events_at_octet b m)
      ≡ effect_to C l at c (owner_of_octet b m) (Takes x)
  unfolding owner_of_octet
  octet_does c b m x at last here = search (arith, about_takes, octet_own)

module _ (C : Table) (l : Answers) (most : ℕ) (c : Tracked) (m : CutMessage) (now : Current) (x : ℕ)
    (h : IsBeforeOctet c m now x) where
  abbrev m' : CutMessage
  m' = with_octet m x

  abbrev at_first : Effect
  at_first = first (rules_by C l most) c m'

  last_is : get_or (m.payload ++ x ∷ []) (length (m.payload ++ x ∷ []) - 1) 0 ≡ x
  last_is = search (arith, get_or_push, length_push)

  pub some_come : length (m.payload ++ x ∷ []) ≡ 0 → ⊥
  some_come e = search (arith, length_push)

  pub more_come : 0 < length (m.payload ++ x ∷ [])
  more_come = omega (arith, length_push m.payload x)

  pub newest_come : length (m.payload ++ x ∷ []) ≡ lookup_offset m.header →
      IsNewest m.number c.still_open
  newest_come named = h.newest (omega (arith, length_push m.payload x, named))

  some_place : suc (now.place - 1) ≡ now.place
  unfolding place
  some_place = search (arith)

  pub takes_at : at_first
      ≡ effect_to C l now.place c (owner_of_next (before_with C l c) m) (Takes x)
  takes_at = rw (← owner_next (before_with C l c) m x)
      (octet_does C l c (before_with C l c) m' x now.place last_is h.current.place)

  -- the effect of one octet is the effect of a run of one octet
  pub takes_effect : at_first
      ≡ run_effect C l (now.place - 1) c (owner_of_next (before_with C l c) m) (x ∷ [])
  unfolding run_effect
  takes_effect = search (arith, takes_at, some_place, append-nil)

  named_new : length m.payload < lookup_offset m.header → acts_on_open m.header ≡ true →
      begins_with_request_id m.header ≡ true
  named_new few place =
      sym (or_nothing (begins_with_request_id m.header) (is_fragmented_1_1 m.header)
      (later_new m.header (omega (arith, few)))) ∙ place

  pub known_is : length m.payload < lookup_offset m.header → acts_on_open m.header ≡ true
      → at_first.tracked.known m.number ≡ Some (own_kept m')
  unfolding octets_of_event
  known_is few name =
      let w : owner_of_octet (before_with C l c) m' ≡ Some (message_key m) =
      owner_own (before_with C l c) m' (omega (arith, length_push m.payload x)) in
      let tracked : at_first.tracked
      ≡ tracked_after_event (message_reader C l) c (event now.place (message_key m) (Takes x)) =
      ap (λ (p : Effect). p.tracked) (octet_does C l c (before_with C l c) m' x now.place last_is
      h.current.place)
      ∙ ap (λ (v : Option MessageKey). (effect_to C l now.place c v (Takes x)).tracked) w in
      ap (λ (d : Tracked). d.known m.number) tracked
      ∙ (own_then (message_reader C l) c (event now.place (message_key m) (Takes x))
      ∙ rw (h.alive name few) (named_then (message_reader C l) (in_turn C l) now.place
      (message_key m) (own_kept m) x (named_new few name)
      (omega (arith, few, named_within m.header)) refl))

  pub taken_here : (s' : Slots) →
      SlotsRepresent C l s' at_first.tracked (owner_of_next (before_with C l c) m)
      → IsAfterTake C l s' at_first.tracked m' now
  taken_here s' k =
      let R = rules_by C l most in
      let still_open : at_first.tracked.still_open ≡ c.still_open = first_still_open R c m' in
      let w : owner_of_octet (before_with C l at_first.tracked) m'
      ≡ owner_of_next (before_with C l c) m =
      octet_alike (before_with C l c) (before_with C l at_first.tracked) m' (first_alike R c m')
      ∙ owner_next (before_with C l c) m x in
      record {
        keeps = rw w k;
        rising = rw still_open h.rising;
        current = h.current;
        payload_count = omega (arith, length_push m.payload x, h.payload_count);
        newest = λ named. rw still_open (newest_come named);
        alive = λ name named. known_is (omega (arith, length_push m.payload x, named)) name;
        says = h.says;
      }

  pub come_is : length (m.payload ++ x ∷ []) ≡ now.payload_count
  come_is = search (arith, length_push)

  pub after_second : (s' : Slots) → SlotsRepresent C l s'
      (second (rules_by C l most) c m').tracked
      (owner_of_next (before_with C l at_first.tracked) m')
      → IsAtOctet C l s' (second (rules_by C l most) c m').tracked m' now
  after_second s' k =
      let R = rules_by C l most in
      record {
        keeps = rw (← second_owner R c m') k;
        rising = second_rising R c m' h.rising newest_come;
        current = h.current;
      }

-- ---- Octets that only add to contents, and one octet after them.

-- the effect of a run is the effect of its first octets, and then of the others
run_both : (C : Table) (l : Answers) (q : List ℕ) (before : ℕ) (c : Tracked) (w : Option MessageKey)
    (r : List ℕ)
    → run_effect C l before c w (q ++ r)
    ≡ (let ran = run_effect C l before c w q in
    then_effect ran (run_effect C l (before + length q) ran.tracked w r))
unfolding run_effect
run_both C l [] before c w r = search (arith)
run_both C l (x ∷ q) before c w r =
    let one = effect_to C l (suc before) c w (Takes x) in
    let ran = run_effect C l (suc before) one.tracked w q in
    let at : suc before + length q ≡ before + length (x ∷ q) = omega arith in
    ap (then_effect one) (run_both C l q (suc before) one.tracked w r)
    ∙ (λ j. let more = run_effect C l (at j) ran.tracked w r in
    record { tracked = more.tracked; lines = sym (append_assoc one.lines ran.lines more.lines) j })

module _ (C : Table) (l : Answers) (most : ℕ) (s : Slots) (c : Tracked) (m : CutMessage)
    (now : Current) (q : List ℕ) (x : ℕ)
    (h : IsBeforeOctets C l s c m now q x) where
  abbrev ran : Effect
  ran = effect_before C l c m now q

  abbrev pub at_last : CutMessage
  at_last = with_payload m (m.payload ++ q)

  room : suc (length q) ≤ now.place
  unfolding place
  room = search (arith, length-append, length_push)

  -- the owner takes all of these octets in one run
  pub takes_run : (octets : List ℕ) (before : ℕ) → octets ≡ q ++ x ∷ [] →
      before ≡ now.place - length octets
      → run_effect C l before c (owner_of_next (before_with C l c) m) octets
      ≡ then_effect ran (first (rules_by C l most) ran.tracked (with_octet at_last x))
  takes_run octets before split is =
      let w = owner_of_next (before_with C l c) m in
      let start = now.place - suc (length q) in
      let count : length (q ++ x ∷ []) ≡ suc (length q) = omega (arith, length_push q x) in
      let here : before ≡ start = is ∙ ap (λ (n : ℕ). now.place - n) (ap length split ∙ count) in
      let place_is : start + length q ≡ now.place - 1 = omega (arith, room) in
      rw (split, here) (run_both C l q start c w (x ∷ [])
      ∙ (λ j. then_effect ran (run_effect C l (place_is j) ran.tracked (sym h.same_owner j)
      (x ∷ [])))
      ∙ ap (λ (e : Effect). then_effect ran e)
      (sym (takes_effect C l most ran.tracked at_last now x h.last)))
