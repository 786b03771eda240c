-- A message's last octet, as the code does it.
use Rattle.std.proofs.Common.{◌≡◌, ℕ, ◌<◌, ◌≤◌, Bool, true, false, List, [], length, refl, Option, Some, None, arith}
use Rattle.std.specs.Prelude.{◌&&◌, ◌||◌, if◌then◌else◌}
use Rattle.std.proofs.lemmas.Bool.{lt-leb, le-leb}
use Rattle.giop_sig.specs.Table.{Table}
use Rattle.giop_message.specs.Signatures.{Answers}
use Rattle.giop_message.specs.ReaderOfTable.{message_reader}
use Rattle.giop_message.specs.Headers.{size}
use Rattle.giop_stream.specs.declared.fault.FramingFault.TheVariants.{Short}
use Rattle.giop_stream.specs.declared.slots.Slots.{Slots}
use Rattle.giop_stream.specs.declared.current.Current.{Current}
use Rattle.giop_stream.specs.Framing.{CutMessage}
use Rattle.giop_stream.specs.Kinds.{is_any_fragment, lookup_offset, is_too_short_for_id, is_continued}
use Rattle.giop_stream.specs.Events.{OpenState, Open, Event, Closes, Faults, message_key, opener_of, is_named_fragment, own_event, event_of_open, events_at_end, last_octet_of, message_end_events}
use Rattle.giop_stream.specs.Effects.{effects, one_effect, no_effect, effect_to}
use Rattle.giop_stream.specs.OpenSlots.{Tracked}
use Rattle.giop_stream.specs.PayloadOwner.{IsAtOctet, before_with}
use Rattle.giop_stream.specs.EngineState.{opener_key, owner_of_next}
use Rattle.giop_stream.proofs.Events.MessageKinds.{short_before, fragment_long}
use Rattle.giop_stream.proofs.SlotSteps.Cases.{effects_none, effects_own, effects_about, effects_nobody}

-- ---- The owner of the octets.

pub owner_early : (b : OpenState) (m : CutMessage) → length m.payload < lookup_offset m.header →
    owner_of_next b m ≡ Some (message_key m)
unfolding owner_of_next is_named_fragment
owner_early b m few = search (arith, lt-leb)

pub owner_plain : (b : OpenState) (m : CutMessage) → is_any_fragment m.header ≡ false →
    owner_of_next b m ≡ Some (message_key m)
unfolding owner_of_next is_named_fragment
owner_plain b m f = rw f refl

pub owner_passed : (b : OpenState) (m : CutMessage) → is_any_fragment m.header ≡ true →
    lookup_offset m.header ≤ length m.payload →
    owner_of_next b m ≡ opener_key (opener_of b m)
unfolding owner_of_next is_named_fragment
owner_passed b m f many = search (arith, le-leb)

-- ---- The cases of the last octet.

followed_by : (o f more : Bool) (xs ys : List Event) → (o || (f && more)) ≡ true →
    (if o then [] else if f then (if more then [] else xs) else ys) ≡ []
followed_by true f more xs ys e = refl
followed_by false true true xs ys e = refl
followed_by false true false xs ys e = absurd cc
followed_by false false more xs ys e = absurd cc

last_by : (o f more : Bool) (xs ys : List Event) → (o || (f && more)) ≡ false
    → (if o then [] else if f then (if more then [] else xs) else ys) ≡ (if f then xs else ys)
last_by true f more xs ys e = absurd cc
last_by false true true xs ys e = absurd cc
last_by false true false xs ys e = refl
last_by false false more xs ys e = refl

module _ (C : Table) (l : Answers) (s : Slots) (c : Tracked) (m : CutMessage) (now : Current)
    (h : IsAtOctet C l s c m now) where
  header_at : (says : List ℕ → Bool) (r : Bool) → r ≡ says now.header → says m.header ≡ r
  header_at says r e = search (arith)

  pub ends_short : true ≡ is_too_short_for_id now.header
      → effects (message_reader C l) c (events_at_end (before_with C l c) m)
      ≡ one_effect (message_reader C l) c now.place (message_key m) (Faults Short)
  unfolding message_end_events
  ends_short e = search (arith, header_at, effects_own)

  pub own_short : true ≡ is_too_short_for_id now.header → length m.payload ≡ size m.header →
      owner_of_next (before_with C l c) m ≡ Some (message_key m)
  own_short e last =
      let short = header_at is_too_short_for_id true e in
      owner_early (before_with C l c) m (omega (arith, last, short_before m.header short))

  pub ends_followed : false ≡ is_too_short_for_id now.header → true ≡ is_continued now.header →
      effects (message_reader C l) c (events_at_end (before_with C l c) m) ≡ no_effect c
  unfolding message_end_events is_continued
  ends_followed e k = search (arith, header_at, followed_by, effects_none)

  ends_last : false ≡ is_too_short_for_id now.header → false ≡ is_continued now.header
      → events_at_end (before_with C l c) m ≡ (if is_any_fragment m.header
      then event_of_open (last_octet_of m) (opener_of (before_with C l c) m) Closes
      else own_event (last_octet_of m) Closes)
  unfolding message_end_events is_continued
  ends_last e k = search (arith, header_at, last_by)

  long_enough : false ≡ is_too_short_for_id now.header → is_any_fragment m.header ≡ true →
      length m.payload ≡ size m.header → lookup_offset m.header ≤ length m.payload
  long_enough e f last =
      omega (arith, last, fragment_long m.header f (header_at is_too_short_for_id false e))

  about_does : (r : Option Open) → effects (message_reader C l) c
      (event_of_open (last_octet_of m) r Closes) ≡ effect_to C l now.place c (opener_key r) Closes
  about_does None = search (arith, effects_nobody)
  about_does (Some o) = search (arith, effects_about)

  pub ends_closed : false ≡ is_too_short_for_id now.header → false ≡ is_continued now.header →
      length m.payload ≡ size m.header
      → effects (message_reader C l) c (events_at_end (before_with C l c) m)
      ≡ effect_to C l now.place c (owner_of_next (before_with C l c) m) Closes
  ends_closed e k last = search (
    arith,
    ends_last,
    owner_passed,
    long_enough,
    about_does,
    owner_plain,
    effects_own,
  )
