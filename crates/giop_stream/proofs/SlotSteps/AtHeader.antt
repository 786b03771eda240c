-- A header's last octet, as the code does it: the message begins; in 1.1 it has its place among the
-- open ones there; and it ends there if it has no payload.
use Rattle.std.proofs.Common.{◌≡◌, ℕ, ◌≤◌, Bool, true, false, List, [], ◌∷◌, ◌++◌, length, refl, sym, ap, ◌∙◌, Option, Some, None, arith}
use Rattle.std.specs.Prelude.{◌||◌}
use Rattle.std.proofs.lemmas.Bool.{eq-eqb, or_from, or_right}
use Rattle.giop_sig.specs.Table.{Table}
use Rattle.giop_message.specs.Signatures.{Answers}
use Rattle.giop_message.specs.ReaderOfTable.{message_reader}
use Rattle.giop_stream.specs.declared.fault.FramingFault.{FramingFault}
use Rattle.giop_stream.specs.declared.slots.Slots.{Slots}
use Rattle.giop_stream.specs.declared.current.Current.{Current}
use Rattle.giop_stream.specs.Rules.{Rules, rules_by}
use Rattle.giop_stream.specs.Framing.{CutMessage}
use Rattle.giop_stream.specs.Text.{line_text, start_line}
use Rattle.giop_stream.specs.Kinds.{is_opener_1_1, is_fragment_1_1, is_fragmented_1_1, has_fragments, is_any_fragment, lookup_offset, header_fault}
use Rattle.giop_stream.specs.Events.{MessageKey, OpenState, Event, Faults, last_octet_of, key, message_key, opener_of, events_at_header, events_at_name, events_of_octet, ends_joining, NumbersRise}
use Rattle.giop_stream.specs.Lines.{StreamLine, nothing_kept}
use Rattle.giop_stream.specs.Stream.{fault_count}
use Rattle.giop_stream.specs.Effects.{Effect, effects, one_effect, no_effect, then_effect, line_effect, start_line_of, event}
use Rattle.giop_stream.specs.OpenSlots.{Tracked, IsNotOpen, before_in}
use Rattle.giop_stream.specs.SlotsRepresent.{SlotsRepresent, AreReady}
use Rattle.giop_stream.specs.PayloadOwner.{IsBeforeMessage, IsAtHeader, IsAtName, IsAtOctet, IsNewest, before_with, owner_after, events_if_at_name, events_if_at_end}
use Rattle.giop_stream.specs.EngineState.{opener_key, owner_of_next}
use Rattle.giop_stream.proofs.Events.MessageKinds.{first_no_fragment, named_old, named_four, old_opener_old, old_fragment_old, old_fragment_any}
use Rattle.giop_stream.proofs.Events.EventsOfOctet.{quiet_header}
use Rattle.giop_stream.proofs.StreamLines.Accepted.{old_accepted}
use Rattle.giop_stream.proofs.SlotSteps.OneSlotChanges.{no_opener_mixes, calm_same}
use Rattle.giop_stream.proofs.SlotSteps.SlotLists.{later_ready, all_later}
use Rattle.giop_stream.proofs.SlotSteps.Alike.{IsSameOpenState, effects_still_open, effects_alike, next_alike, end_alike, calm_header, calm_name, refused_no_opener}
use Rattle.giop_stream.proofs.SlotSteps.AfterOctet.{newest_apart}
use Rattle.giop_stream.proofs.SlotSteps.Cases.{effects_none, effects_append, header_begins, header_refused}
use Rattle.giop_stream.proofs.SlotSteps.Performing.{BeginsSo}
use Rattle.giop_stream.proofs.SlotSteps.Ending.{owner_early, owner_plain, owner_passed}
use Rattle.giop_stream.proofs.SlotSteps.Parts.{fragment_still, plain_end, rising_name, third_by}

-- slots that are ready for an octet are ready for a later one
pub ready_later : (C : Table) (n n' : ℕ) (s : Slots) → n ≤ n' → AreReady C n s → AreReady C n' s
ready_later C n n' s less h = search (arith, later_ready, all_later)

pub starts_faults : (m : CutMessage) (ls : List StreamLine) → fault_count (start_line_of m ∷ ls) ≡
    fault_count ls
unfolding fault_count
starts_faults m ls = refl

-- ---- The events of the header itself, then those of the message's place, and then the end.

-- a message that isn't of 1.1 has its place later, or none
pub no_name : (most : ℕ) (b : OpenState) (m : CutMessage) → m.payload ≡ [] →
    is_fragmented_1_1 m.header ≡ false → events_if_at_name most b m ≡ []
unfolding events_if_at_name
no_name most b m none new = rw (none, named_four m.header new) refl

module _ (R : Rules) (c : Tracked) (m : CutMessage) where
  abbrev b : OpenState
  b = before_in R.asks c

  abbrev pub begun : Effect
  begun = effects R.reading c (events_at_header m)

  abbrev b1 : OpenState
  b1 = before_in R.asks begun.tracked

  abbrev pub placed : Effect
  placed = effects R.reading begun.tracked (events_if_at_name R.most b1 m)

  abbrev b2 : OpenState
  b2 = before_in R.asks placed.tracked

  abbrev pub ended : Effect
  ended = effects R.reading placed.tracked (events_if_at_end b2 m)

  begun_alike : IsSameOpenState b b1
  begun_alike = effects_alike R c (events_at_header m) (calm_header m)
      (quiet_header c.still_open (last_octet_of m))

  pub begun_still_open : begun.tracked.still_open ≡ c.still_open
  unfolding before_in
  begun_still_open = begun_alike.still_open

  parts : m.payload ≡ [] → events_of_octet R.most b m ≡ events_at_header m
      ++ (events_if_at_name R.most b m ++ events_if_at_end b m)
  unfolding events_of_octet events_if_at_name events_if_at_end
  parts none = rw (eq-eqb (length m.payload) 0 (ap (λ (xs : List ℕ). length xs) none)) refl

  -- a message that begins changes nothing that is tracked, if it isn't refused
  begun_same : c.known m.number ≡ Some nothing_kept → is_fragmented_1_1 m.header ≡ true →
      begun.tracked ≡ c
  begun_same unknown old = ap (λ (p : Effect). p.tracked)
      (header_begins R.reading c m nothing_kept unknown (old_accepted m.header old))

  name_same : m.payload ≡ [] → c.known m.number ≡ Some nothing_kept →
      events_if_at_name R.most b1 m ≡ events_if_at_name R.most b m
  name_same none unknown = go (is_fragmented_1_1 m.header) refl
    where
      go : (old : Bool) → is_fragmented_1_1 m.header ≡ old →
          events_if_at_name R.most b1 m ≡ events_if_at_name R.most b m
      go true old = ap (λ (d : Tracked). events_if_at_name R.most (before_in R.asks d) m)
          (begun_same unknown old)
      go false new = no_name R.most b1 m none new ∙ sym (no_name R.most b m none new)

  placed_alike : is_any_fragment m.header ≡ true → IsSameOpenState b1 b2
  placed_alike f = effects_alike R begun.tracked (events_if_at_name R.most b1 m)
      (calm_name R.most b1 m f) (fragment_still R.most b1 begun.tracked.still_open m f)

  end_same : events_if_at_end b2 m ≡ events_if_at_end b m
  end_same = go (is_any_fragment m.header) refl
    where
      go : (fragment : Bool) → is_any_fragment m.header ≡ fragment →
          events_if_at_end b2 m ≡ events_if_at_end b m
      go true f = end_alike b1 b2 m (placed_alike f) ∙ end_alike b b1 m begun_alike
      go false f = plain_end b b2 m f

  pub in_three : m.payload ≡ [] → c.known m.number ≡ Some nothing_kept →
      effects R.reading c (events_of_octet R.most b m)
      ≡ then_effect begun (then_effect placed ended)
  in_three none unknown =
      ap (effects R.reading c) (parts none ∙ ap (λ (es : List Event). events_at_header m ++ es)
      (λ j. sym (name_same none unknown) j ++ sym end_same j))
      ∙ (effects_append R.reading c (events_at_header m) _
      ∙ ap (then_effect begun) (effects_append R.reading begun.tracked
      (events_if_at_name R.most b1 m) (events_if_at_end b2 m)))

  -- the owner of the next octets is the same before the events of the end and before those of the
  -- place
  pub placed_owner : owner_of_next b1 m ≡ owner_of_next b2 m
  placed_owner = go (is_any_fragment m.header) refl
    where
      go : (fragment : Bool) → is_any_fragment m.header ≡ fragment →
          owner_of_next b1 m ≡ owner_of_next b2 m
      go true f = sym (next_alike b1 b2 m (placed_alike f))
      go false f = owner_plain b1 m f ∙ sym (owner_plain b2 m f)

  pub placed_rising : NumbersRise c.still_open → IsNewest m.number c.still_open →
      NumbersRise placed.tracked.still_open
  unfolding before_in
  placed_rising r newest =
      rw (effects_still_open R.reading begun.tracked (events_if_at_name R.most b1 m))
      (rising_name R.most b1 m (rw begun_still_open r) (λ named. rw begun_still_open newest))

  pub ended_owner : owner_after b2 m ≡ owner_after (before_in R.asks ended.tracked) m
  ended_owner = third_by R placed.tracked m

module _ (C : Table) (l : Answers) (s : Slots) (c : Tracked) (who : Option MessageKey)
    (m : CutMessage) (now : Current) (h : IsBeforeMessage C l s c who m now) where
  abbrev R : Rules
  R = rules_by C l s.slots.most

  pub apart : IsNotOpen m.number c.still_open
  apart = search (arith, newest_apart)

  pub none_come : length m.payload ≡ 0
  none_come = ap length h.none_come

  pub begins : None ≡ header_fault now.header →
      effects (message_reader C l) c (events_at_header m) ≡ line_effect (start_line_of m)
      (no_effect c)
  begins e = search (arith, header_begins)

  pub refuses : (fault : FramingFault) → Some fault ≡ header_fault now.header
      → effects (message_reader C l) c (events_at_header m)
      ≡ line_effect (start_line_of m) (one_effect (message_reader C l) c now.place (message_key m)
      (Faults fault))
  refuses fault e = search (arith, header_refused)

  -- a message that is refused by its header alone doesn't keep Fragments of 1.1 from being joined
  pub refuses_calm : (fault : FramingFault) → Some fault ≡ header_fault now.header →
      (c.mixed || ends_joining (event now.place (message_key m) (Faults fault))) ≡ c.mixed
  refuses_calm fault e = calm_same c (event now.place (message_key m) (Faults fault))
      (no_opener_mixes (event now.place (message_key m) (Faults fault))
      (refused_no_opener m.header fault (ap header_fault h.current.header ∙ sym e)))

  pub starts_text : line_text (start_line_of m) ≡ start_line now.number now.header
  starts_text = search (arith)

  pub starts_first : BeginsSo (start_line_of m) (effects (message_reader C l) c
      (events_at_header m)).lines
  starts_first = go (header_fault now.header) refl
    where
      go : (r : Option FramingFault) → r ≡ header_fault now.header →
          BeginsSo (start_line_of m) (effects (message_reader C l) c (events_at_header m)).lines
      go None e = search (arith, begins)
      go (Some fault) e = record { more = _; is = ap (λ (p : Effect). p.lines) (refuses fault e) }

  pub begun_at : (s' : Slots) → SlotsRepresent C l s' (begun R c m).tracked (Some (message_key m))
      → IsAtHeader C l s' (begun R c m).tracked m now
  begun_at s' k =
      let still_open = begun_still_open R c m in
      record {
        keeps = k;
        rising = rw still_open h.rising;
        current = h.current;
        none_come = h.none_come;
        not_open = rw still_open apart;
        alive = λ old. ap (λ (d : Tracked). d.known m.number) (begun_same R c m h.unknown old)
            ∙ h.unknown;
      }

  pub placed_at : (s' : Slots) → SlotsRepresent C l s' (placed R c m).tracked
      (owner_of_next (before_with C l (begun R c m).tracked) m)
      → IsAtOctet C l s' (placed R c m).tracked m now
  placed_at s' k = record {
    keeps = rw (← placed_owner R c m) k;
    rising = placed_rising R c m h.rising h.newest;
    current = h.current;
  }

  pub come_is : length m.payload ≡ now.payload_count
  come_is = search (arith, none_come)

-- ---- The place of a message, after it has begun.

module _ (C : Table) (l : Answers) (s : Slots) (c : Tracked) (m : CutMessage) (now : Current)
    (h : IsAtHeader C l s c m now) where
  header_of : (says : List ℕ → Bool) (r : Bool) → r ≡ says now.header → says m.header ≡ r
  header_of says r e = search (arith, h.current.header)

  not_old : false ≡ is_opener_1_1 now.header → false ≡ is_fragment_1_1 now.header →
      is_fragmented_1_1 m.header ≡ false
  unfolding is_fragmented_1_1
  not_old o f = or_from (is_opener_1_1 m.header) (is_fragment_1_1 m.header)
      (header_of is_opener_1_1 false o) (header_of is_fragment_1_1 false f)

  pub nothing_named : false ≡ is_opener_1_1 now.header → false ≡ is_fragment_1_1 now.header →
      effects (message_reader C l) c (events_if_at_name s.slots.most (before_with C l c) m)
      ≡ no_effect c
  nothing_named o f =
      rw (no_name s.slots.most (before_with C l c) m h.none_come (not_old o f))
      (effects_none (message_reader C l) c)

  pub owner_new : false ≡ is_opener_1_1 now.header → false ≡ is_fragment_1_1 now.header →
      owner_of_next (before_with C l c) m ≡ Some (message_key m)
  owner_new o f = owner_early (before_with C l c) m
      (omega (
        arith,
        named_four m.header (not_old o f),
        ap (λ (xs : List ℕ). length xs) h.none_come,
      ))

  pub opener_first : true ≡ is_opener_1_1 now.header → has_fragments m.header ≡ true
  unfolding has_fragments
  opener_first o = or_right _ _ (header_of is_opener_1_1 true o)

  pub fragment_first : true ≡ is_fragment_1_1 now.header → is_any_fragment m.header ≡ true
  fragment_first f = old_fragment_any m.header (header_of is_fragment_1_1 true f)

  pub opener_old : true ≡ is_opener_1_1 now.header → is_fragmented_1_1 m.header ≡ true
  opener_old o = old_opener_old m.header (header_of is_opener_1_1 true o)

  pub fragment_old : true ≡ is_fragment_1_1 now.header → is_fragmented_1_1 m.header ≡ true
  fragment_old f = old_fragment_old m.header (header_of is_fragment_1_1 true f)

  key_none : is_fragmented_1_1 m.header ≡ true → key m ≡ None
  unfolding key
  key_none old = rw old refl

  place_here : is_fragmented_1_1 m.header ≡ true → length m.payload ≡ lookup_offset m.header
  place_here old = ap (λ (xs : List ℕ). length xs) h.none_come ∙ sym (named_old m.header old)

  pub at_place : is_fragmented_1_1 m.header ≡ true → IsAtName C l s c m now None
  at_place old = record {
    keeps = h.keeps;
    rising = h.rising;
    current = h.current;
    key_is = λ place. key_none old;
    not_open = λ place. h.not_open;
    alive = λ place. (nothing_kept, h.alive old);
  }

  pub named_here : is_fragmented_1_1 m.header ≡ true → events_if_at_name s.slots.most
      (before_with C l c) m
      ≡ events_at_name s.slots.most (before_with C l c) m
  unfolding events_if_at_name
  named_here old = rw (eq-eqb (length m.payload) (lookup_offset m.header) (place_here old)) refl

  pub owner_opener : true ≡ is_opener_1_1 now.header →
      owner_of_next (before_with C l c) m ≡ Some (message_key m)
  owner_opener o =
      owner_plain (before_with C l c) m (first_no_fragment m.header (opener_first o))

  pub owner_fragment : true ≡ is_fragment_1_1 now.header →
      owner_of_next (before_with C l c) m ≡ opener_key (opener_of (before_with C l c) m)
  owner_fragment f = owner_passed (before_with C l c) m (fragment_first f)
      (omega (arith, place_here (fragment_old f)))
