-- A payload octet after its owner has taken it, as the code does it: at the request id, and at the
-- end.
use Rattle.std.proofs.Common.{◌≡◌, ℕ, ◌<◌, ◌≤◌, Bool, true, false, not, List, length, refl, sym, ap, subst, ◌∙◌, Option, Some, None, arith}
use Rattle.std.specs.Prelude.{◌==◌, ◌&&◌, if◌then◌else◌}
use Rattle.std.proofs.lemmas.Bool.{eq-eqb, eqb-true, ne_eqb, and_parts, lt-leb, le-leb, lt-ltb, le-ltb, cases_lt, false≢true}
use Rattle.giop_sig.specs.Table.{Table}
use Rattle.giop_message.specs.Signatures.{Answers, signatures_of}
use Rattle.giop_message.specs.Messages.{read_message, message_lines}
use Rattle.giop_message.specs.ReaderOfTable.{message_reader, first_request_id}
use Rattle.giop_message.specs.Headers.{size, begins_with_request_id}
use Rattle.giop_stream.specs.Kinds.{is_fragmented_1_1, lookup_offset}
use Rattle.giop_stream.specs.declared.slots.Slots.{Slots}
use Rattle.giop_stream.specs.declared.current.Current.{Current}
use Rattle.giop_stream.specs.Framing.{CutMessage}
use Rattle.giop_stream.specs.Lines.{Kept}
use Rattle.giop_stream.specs.Events.{MessageKey, OpenState, Open, id, key, message_key, is_named_fragment, has_joined_octets, events_at_name, events_at_end}
use Rattle.giop_stream.specs.Effects.{effects, no_effect}
use Rattle.giop_stream.specs.OpenSlots.{Tracked, IsNotOpen}
use Rattle.giop_stream.specs.SlotsRepresent.{RepresentsMessage, SlotsRepresent, current_of}
use Rattle.giop_stream.specs.PayloadOwner.{IsAtName, IsAfterTake, IsAtOctet, IsNewest, acts_on_open, own_kept, before_with, owner_after_name, owner_of_octet, owner_after, events_if_at_name, events_if_at_end}
use Rattle.giop_stream.specs.EngineState.{owner_of_next}
use Rattle.giop_stream.proofs.Events.MessageKinds.{named_old, named_four}
use Rattle.giop_stream.proofs.SlotSteps.RequestIds.{id_is_id}
use Rattle.giop_stream.proofs.Lists.{each_weaker}
use Rattle.giop_stream.proofs.SlotSteps.EventsOnSlots.{current_kept}
use Rattle.giop_stream.proofs.SlotSteps.OneSlotChanges.{or_nothing}
use Rattle.giop_stream.proofs.StreamLines.LineOrder.{not_past}
use Rattle.giop_stream.proofs.SlotSteps.Cases.{effects_none}

-- ---- The owner of the octets, if the request id isn't complete at this octet.

both_by : (f a b : Bool) (x y : Option MessageKey) → a ≡ b →
    (if f && a then x else y) ≡ (if f && b then x else y)
both_by f a b x y e = rw e refl

pub owner_elsewhere : (b : OpenState) (m : CutMessage) →
    (length m.payload == lookup_offset m.header) ≡ false →
    owner_of_next b m ≡ owner_of_octet b m
unfolding owner_of_next owner_of_octet is_named_fragment has_joined_octets
owner_elsewhere b m other = search (
  arith,
  both_by,
  cases_lt,
  le-leb,
  lt-ltb,
  lt-leb,
  le-ltb,
  false≢true,
  eq-eqb,
)

pub owner_at_id : (b : OpenState) (m : CutMessage) → length m.payload ≡ lookup_offset m.header →
    owner_of_next b m ≡ owner_after_name b m
unfolding owner_of_next owner_after_name is_named_fragment
owner_at_id b m named = search (arith, le-leb)

pub owner_own : (b : OpenState) (m : CutMessage) → length m.payload ≤ lookup_offset m.header →
    owner_of_octet b m ≡ Some (message_key m)
unfolding owner_of_octet
owner_own b m few = rw (not_past m few) refl

-- ---- A message that is newer than the open ones isn't open.

pub newest_apart : (n : ℕ) (still_open : List Open) → IsNewest n still_open → IsNotOpen n still_open
newest_apart n still_open newest = search (arith, each_weaker)

module _ (C : Table) (l : Answers) (s : Slots) (c : Tracked) (m : CutMessage) (now : Current)
    (h : IsAfterTake C l s c m now) where
  -- whether the code takes the octet for the last one of a request id
  abbrev At : (r : Bool) → Type 0
  At r = ((now.payload_count == 4) && not (is_fragmented_1_1 now.header)) ≡ r

  new_is : At true → is_fragmented_1_1 m.header ≡ false
  new_is e = search (arith, and_parts, h.current.header, not)

  four_is : At true → length m.payload ≡ 4
  four_is e = search (arith, and_parts, eqb-true)

  named_is : At true → length m.payload ≡ lookup_offset m.header
  named_is e = four_is e ∙ sym (named_four m.header (new_is e))

  -- if it doesn't, the message has no place at this octet of its payload
  not_named : At false → 0 < length m.payload → (b : Bool) → is_fragmented_1_1 m.header ≡ b →
      (length m.payload == lookup_offset m.header) ≡ false
  not_named e some true old =
      ne_eqb _ _ (λ k. absurd (omega (arith, some, k, named_old m.header old)))
  not_named e some false new = search (arith, named_four, h.current.header, not)

  pub id_here : At true →
      events_if_at_name s.slots.most (before_with C l c) m
      ≡ events_at_name s.slots.most (before_with C l c) m
  unfolding events_if_at_name
  id_here e = search (arith, eq-eqb, named_is)

  pub no_id : At false → 0 < length m.payload →
      effects (message_reader C l) c (events_if_at_name s.slots.most (before_with C l c) m)
      ≡ no_effect c
  unfolding events_if_at_name
  no_id e some =
      rw (not_named e some (is_fragmented_1_1 m.header) refl) (effects_none (message_reader C l) c)

  key_new : is_fragmented_1_1 m.header ≡ false → key m ≡ Some (id m)
  unfolding key
  key_new new = rw new refl

  place_new : is_fragmented_1_1 m.header ≡ false → acts_on_open m.header ≡ true →
      begins_with_request_id m.header ≡ true
  place_new new place = sym (or_nothing (begins_with_request_id m.header)
      (is_fragmented_1_1 m.header) new) ∙ place

  -- the request id that is read from the octets of the message itself
  pub named_here : (i : ℕ) → ((w : MessageKey) (kept : Kept) (j : ℕ) →
      RepresentsMessage C l (current_of s.owner) w (Some kept)
      → first_request_id (message_lines (read_message (signatures_of C (l w.number) kept.phase)
      w.header kept.octets))
      ≡ Some j → i ≡ j) → At true → IsAtName C l s c m now (Some i)
  named_here i f e =
      let named = named_is e in
      let few : length m.payload ≤ lookup_offset m.header = omega (arith, named) in
      let apart = newest_apart m.number c.still_open (h.newest named) in
      let keeps : SlotsRepresent C l s c (Some (message_key m)) =
      rw (owner_own (before_with C l c) m few) at h.keeps in
      record {
        keeps = keeps;
        rising = h.rising;
        current = h.current;
        key_is = λ place. key_new (new_is e) ∙ ap Some (sym (f (message_key m) (own_kept m) (id m)
            (subst (RepresentsMessage C l (current_of s.owner) (message_key m))
            (h.alive place named) (current_kept C l s c (message_key m) apart keeps))
            (id_is_id C l m (four_is e) (h.says (place_new (new_is e) place)))));
        not_open = λ place. apart;
        alive = λ place. (own_kept m, h.alive place named);
      }

  pub owner_then : At true →
      owner_of_next (before_with C l c) m ≡ owner_after_name (before_with C l c) m
  owner_then e = search (arith, owner_at_id, named_is)

  pub owner_still : At false → 0 < length m.payload →
      owner_of_next (before_with C l c) m ≡ owner_of_octet (before_with C l c) m
  owner_still e some =
      owner_elsewhere (before_with C l c) m (not_named e some (is_fragmented_1_1 m.header) refl)

module _ (C : Table) (l : Answers) (s : Slots) (c : Tracked) (m : CutMessage) (now : Current)
    (h : IsAtOctet C l s c m now) (payload_count : length m.payload ≡ now.payload_count) where
  last_is : (now.payload_count == size now.header) ≡ true → length m.payload ≡ size m.header
  last_is e = search (arith, eqb-true)

  pub end_here : (now.payload_count == size now.header) ≡ true →
      events_if_at_end (before_with C l c) m ≡ events_at_end (before_with C l c) m
  unfolding events_if_at_end
  end_here e = search (arith, eq-eqb, last_is)

  pub after_here : (now.payload_count == size now.header) ≡ true →
      owner_after (before_with C l c) m ≡ None
  unfolding owner_after
  after_here e = search (arith, eq-eqb, last_is)

  pub no_end : (now.payload_count == size now.header) ≡ false →
      effects (message_reader C l) c (events_if_at_end (before_with C l c) m) ≡ no_effect c
  unfolding events_if_at_end
  no_end e = search (arith, effects_none)

  pub after_still : (now.payload_count == size now.header) ≡ false →
      owner_after (before_with C l c) m ≡ owner_of_next (before_with C l c) m
  unfolding owner_after
  after_still e = search (arith)

  pub last_here : (now.payload_count == size now.header) ≡ true → length m.payload ≡ size m.header
  last_here e = last_is e
