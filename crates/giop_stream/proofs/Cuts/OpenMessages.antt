-- The open messages of a stream, and the places of its events, by any rules: what holds here needs
-- no law of the reading.
use native.Mathlib.Nat.{le_of_eq}
use Rattle.std.proofs.Common.{◌≡◌, ℕ, suc, ◌+◌, ◌-◌, ◌<◌, ◌≤◌, Bool, true, false, List, [], ◌∷◌, ◌++◌, length, refl, sym, ap, subst, ◌∙◌, Option, Some, None, arith, append-nil}
use Rattle.std.specs.Prelude.{nat_lt, ◌==◌, IfSome}
use Rattle.std.specs.List.{AllByRecursion as Each}
use Rattle.std.proofs.lemmas.Bool.{eq-eqb, eqb-true}
use Rattle.std.proofs.lemmas.List.{length_push}
use Rattle.giop_checkpoint.specs.declared.fault.StreamFault.{StreamFault}
use Rattle.giop_checkpoint.specs.declared.fault.StreamFault.TheVariants.{StreamLimit}
use Rattle.giop_stream.specs.HeaderOctets.{last_octet_fault}
use Rattle.giop_stream.specs.Rules.{Rules}
use Rattle.giop_stream.specs.Kinds.{lookup_offset}
use Rattle.giop_stream.specs.Framing.{CutMessage, Cut, cut, limit, messages}
use Rattle.giop_stream.specs.Events.{EventKind, Event, Open, NumbersRise, place, events_of_octet, open_after_events, before_by, events_from, events, open_after}
use Rattle.giop_stream.specs.Effects.{with_octet}
use Rattle.giop_stream.proofs.Lists.{by_growth, each_append, each_weaker, all_by}
use Rattle.giop_stream.proofs.Cuts.Cutting.{cut_of_parts, parts_by, cut_grows, settled_messages, next_limit, next_payload, next_front, next_stopped}
use Rattle.giop_stream.proofs.Cuts.CutFrom.{cut_with_last_message, header_case}
use Rattle.giop_stream.proofs.Cuts.Start.{cut_nothing, events_nothing, open_nothing}
use Rattle.giop_stream.proofs.Events.EventsOfOctet.{events_of_octet_each, opened_each}
use Rattle.giop_stream.proofs.Events.EventsKeep.{NumbersAreBelow, IsWithinLimit, rising_events, few_events}
use Rattle.giop_stream.proofs.Events.AfterMoreEvents.{open_grows, open_idle}
use Rattle.giop_stream.proofs.Events.Soundness.{CutFitsStream, settled_fits, settled_length, settled_early, settled_current, events_on, events_begin}
use Rattle.giop_stream.proofs.Events.StepCases.{place_more, place_first, events_of_cut, not_twelve}

record IsShaped (R : Rules) (stream : List ℕ) : Type 0 where
  places : Each (λ e. e.place ≤ length stream) (events R stream)
  numbers : Each (λ o. o.opener.number ≤ length (messages (cut stream))) (open_after R stream)
  fits : (cut stream).stop ≡ None → CutFitsStream (length stream) (cut stream)
  rising : NumbersRise (open_after R stream)
  early : (cut stream).stop ≡ None → IfSome (cut stream).current
      (λ m. length m.payload < lookup_offset m.header → NumbersAreBelow m.number
      (open_after R stream))
  few : IsWithinLimit R.most (open_after R stream)

-- a message that begins with the last octet of this header
abbrev begun : (whole : List CutMessage) (place : ℕ) (header : List ℕ) → CutMessage
begun whole at header = record {
  number = suc (length whole);
  before = at - 12;
  header = header;
  payload = [];
}

module _ (R : Rules) (p : List ℕ) (x : ℕ) (shaped : IsShaped R p) where
  abbrev p' : List ℕ
  p' = p ++ x ∷ []

  len : length p' ≡ suc (length p)
  len = search (arith, length_push)

  -- an octet of no message
  idle : (c : Cut) → cut p' ≡ c → messages c ≡ messages (cut p) →
      (c.stop ≡ None → (c.current ≡ None) × CutFitsStream (suc (length p)) c) → IsShaped R p'
  unfolding events
  idle c ec ms fits =
      let ev : events R p' ≡ events R p = ap (events_from R []) (ap messages ec ∙ ms) in
      let still : open_after R p' ≡ open_after R p = open_idle R p p' ev in
      record {
        places = rw (ev, len) (each_weaker (λ e. e.place ≤ length p)
            (λ e. e.place ≤ suc (length p)) (λ e h. omega arith) (events R p) shaped.places);
        numbers = rw (still, ec, ms) shaped.numbers;
        fits = λ st. rw (ec, len) ((fits (rw ec at st)).1);
        rising = rw still shaped.rising;
        early = λ st. rw (ec, (fits (rw ec at st)).0) tt;
        few = rw still shaped.few;
      }

  -- an octet of the message m
  deals : (whole : List CutMessage) (m : CutMessage) → cut p' ≡ cut_with_last_message whole m
      → events R p' ≡ events R p ++ events_of_octet R.most (before_by R (events R p)) m
      → place m ≡ suc (length p) → m.number ≡ suc (length whole) → length m.header ≡ 12 →
      length (messages (cut p)) ≤ suc (length whole) →
      (length m.payload ≤ lookup_offset m.header → NumbersAreBelow m.number (open_after R p)) →
      IsShaped R p'
  unfolding before_by open_after
  deals whole m ec ev pl nm twelve more low =
      let b = before_by R (events R p) in
      let still_open = open_after_events [] (events R p) in
      let es = events_of_octet R.most b m in
      let all = suc (length whole) in
      let count : length (messages (cut p')) ≡ all = rw ec (settled_length whole m) in
      let here : Each (λ e. e.place ≡ suc (length p)) es =
      events_of_octet_each R.most (λ e. e.place ≡ suc (length p)) b m (λ what. pl)
      (all_by (λ (o : Open). (what : EventKind) → place m ≡ suc (length p)) (λ o what. pl)
      still_open) in
      let old : Each (λ o. o.opener.number ≤ all) still_open =
      each_weaker (λ o. o.opener.number ≤ length (messages (cut p))) (λ o. o.opener.number ≤ all)
      (λ o h. omega arith) still_open shaped.numbers in
      let mine : m.number ≤ all = omega arith in
      let subjects : Each (λ e. e.subject.number ≤ all) es =
      events_of_octet_each R.most (λ e. e.subject.number ≤ all) b m (λ what. mine)
      (each_weaker (λ o. o.opener.number ≤ all) _ (λ o h what. h) still_open old) in
      let grows = open_grows R p p' es ev in
      record {
        places = rw (ev, len) (each_append (λ e. e.place ≤ suc (length p)) (events R p) es
            (each_weaker (λ e. e.place ≤ length p) (λ e. e.place ≤ suc (length p))
            (λ e h. omega arith) (events R p) shaped.places)
            (each_weaker (λ e. e.place ≡ suc (length p)) (λ e. e.place ≤ suc (length p))
            (λ e h. omega arith) es here));
        numbers = rw (count, grows)
            (opened_each (λ subject. subject.number ≤ all) still_open es old subjects);
        fits = λ st. rw (ec, len) (settled_fits (suc (length p)) whole m pl nm twelve);
        rising = rw grows (rising_events R.most b m shaped.rising (λ named. low (omega arith)));
        early = λ st.
            rw ec (settled_current whole m (λ m. length m.payload < lookup_offset m.header →
            NumbersAreBelow m.number (open_after_events still_open (events_of_octet R.most b m)))
            (λ m. length m.payload < lookup_offset m.header →
            NumbersAreBelow m.number (open_after R p'))
            (λ k short. subst (NumbersAreBelow m.number) (sym grows) (k short))
            (settled_early R.most whole m b low));
        few = rw grows (few_events R.most b m shaped.few);
      }

  paid : (whole : List CutMessage) (was : CutMessage) (held : List ℕ) →
      cut p ≡ cut_of_parts whole (Some was) held None → nat_lt limit (suc (length p)) ≡ false →
      IsShaped R p'
  unfolding cut_of_parts messages open_after
  paid whole was held ec room =
      let c = cut_of_parts whole (Some was) held None in
      let m = with_octet was x in
      let st : (cut p).stop ≡ None = rw ec refl in
      let fit : CutFitsStream (length p) c = rw ec at (shaped.fits st) in
      let fits = fit.current in
      let long = length_push was.payload x in
      let one : length (whole ++ was ∷ []) ≡ suc (length whole) =
      omega (arith, length_push whole was) in
      let count : length (messages (cut p)) ≡ suc (length whole) = rw ec one in
      let ec' : cut p' ≡ cut_with_last_message whole m =
      cut_grows p x ∙ rw ec (next_payload whole was held (length p) x room) in
      let ev : events R p ≡ events_from R [] (whole ++ was ∷ []) = events_of_cut R p c ec in
      let early : length was.payload < lookup_offset was.header →
      NumbersAreBelow was.number (open_after_events [] (events R p)) =
      rw ec at (shaped.early st) in
      let grows : events R p' ≡ events R p
      ++ events_of_octet R.most (before_by R (events R p)) m =
      events_of_cut R p' (cut_with_last_message whole m) ec'
      ∙ (ap (events_from R []) (settled_messages whole m)
      ∙ (events_on R whole was x fits.lacks
      (λ few. subst (λ (es : List Event). NumbersAreBelow was.number (open_after_events [] es)) ev
      (early few))
      ∙ ap (λ (es : List Event). es ++ events_of_octet R.most (before_by R es) m) (sym ev))) in
      deals whole m ec' grows (place_more was x (length p) fits.place_is) fits.number_is fits.twelve
      (le_of_eq count) (λ named. early (omega (arith, named, long)))

  begins : (whole : List CutMessage) (held : List ℕ) → cut p ≡ cut_of_parts whole None held None
      → nat_lt limit (suc (length p)) ≡ false → last_octet_fault (held ++ x ∷ []) ≡ None →
      length (held ++ x ∷ []) ≡ 12 → IsShaped R p'
  unfolding cut_of_parts messages header_case
  begins whole held ec room right twelve =
      let c = cut_of_parts whole None held None in
      let front = held ++ x ∷ [] in
      let m = begun whole (suc (length p)) front in
      let st : (cut p).stop ≡ None = rw ec refl in
      let fit : CutFitsStream (length p) c = rw ec at (shaped.fits st) in
      let within = fit.held in
      let none : messages c ≡ whole = append-nil whole in
      let count : length (messages (cut p)) ≡ length whole = rw (ec, none) refl in
      let ev : events R p ≡ events_from R [] whole =
      events_of_cut R p c ec ∙ ap (events_from R []) none in
      let grown : cut p' ≡ header_case 1 (suc (length p)) whole front (last_octet_fault front)
      (length front == 12) =
      cut_grows p x ∙ rw ec (next_front whole held (length p) x room) in
      let number : 1 + length whole ≡ suc (length whole) = omega arith in
      let ec' : cut p' ≡ cut_with_last_message whole m =
      grown ∙ rw (right, eq-eqb (length front) 12 twelve, number) refl in
      let grows : events R p' ≡ events R p
      ++ events_of_octet R.most (before_by R (events R p)) m =
      events_of_cut R p' (cut_with_last_message whole m) ec'
      ∙ (ap (events_from R []) (settled_messages whole m)
      ∙ (events_begin R whole m refl
      ∙ ap (λ (es : List Event). es ++ events_of_octet R.most (before_by R es) m) (sym ev))) in
      let low : NumbersAreBelow m.number (open_after R p) =
      each_weaker (λ o. o.opener.number ≤ length (messages (cut p)))
      (λ o. o.opener.number < m.number)
      (λ o k. omega (arith, k, count)) (open_after R p) shaped.numbers in
      deals whole m ec' grows (place_first (length p) m refl refl
      (omega (arith, within, length_push held x, twelve))) refl twelve (omega (arith, count))
      (λ short. low)

  stops : (whole : List CutMessage) (current : Option CutMessage) (held : List ℕ)
      (fault : StreamFault) → cut p ≡ cut_of_parts whole current held None
      → cut p' ≡ cut_of_parts whole current [] (Some (suc (length p), fault)) → IsShaped R p'
  unfolding cut_of_parts messages
  stops whole current held fault ec ec' =
      idle (cut_of_parts whole current [] (Some (suc (length p), fault))) ec' (rw ec refl)
      (λ free. absurd cc)

  fronts : (whole : List CutMessage) (held : List ℕ) → cut p ≡ cut_of_parts whole None held None
      → nat_lt limit (suc (length p)) ≡ false → (w : Option StreamFault) →
      last_octet_fault (held ++ x ∷ []) ≡ w → (is : Bool) → (length (held ++ x ∷ []) == 12) ≡ is →
      IsShaped R p'
  unfolding cut_of_parts header_case messages
  fronts whole held ec room (Some fault) e is k =
      stops whole None held fault ec
      (cut_grows p x ∙ rw ec (next_front whole held (length p) x room ∙ rw e refl))
  fronts whole held ec room None e true k =
      begins whole held ec room e (eqb-true (length (held ++ x ∷ [])) 12 k)
  fronts whole held ec room None e false k =
      let front = held ++ x ∷ [] in
      let long = length_push held x in
      let st : (cut p).stop ≡ None = rw ec refl in
      let fit : CutFitsStream (length p) (cut_of_parts whole None held None) =
      rw ec at (shaped.fits st) in
      let within = fit.held in
      let short = fit.short in
      idle (cut_of_parts whole None front None)
      (cut_grows p x ∙ rw ec (next_front whole held (length p) x room ∙ rw (e, k) refl))
      (rw ec refl) (λ free. (
        refl,
        record {
          current = tt;
          held = omega (arith, within, long);
          short = not_twelve (length front) k (omega (arith, short, long));
        },
      ))

  shaped_by : (whole : List CutMessage) (current : Option CutMessage) (held : List ℕ)
      (stop : Option (ℕ × StreamFault)) → cut p ≡ cut_of_parts whole current held stop →
      (is : Bool) → nat_lt limit (suc (length p)) ≡ is → IsShaped R p'
  unfolding cut_of_parts messages
  shaped_by whole current held (Some found) ec is e =
      idle (cut_of_parts whole current held (Some found))
      (cut_grows p x ∙ rw ec (next_stopped whole current held found (length p) x))
      (rw ec refl) (λ free. absurd cc)
  shaped_by whole current held None ec true e =
      stops whole current held StreamLimit ec
      (cut_grows p x ∙ rw ec (next_limit whole current held (length p) x e))
  shaped_by whole (Some was) held None ec false e = paid whole was held ec e
  shaped_by whole None held None ec false e =
      fronts whole held ec e (last_octet_fault (held ++ x ∷ [])) refl (length (held ++ x
      ∷ []) == 12) refl

  shaped_then : IsShaped R p'
  shaped_then =
      shaped_by (cut p).whole (cut p).current (cut p).held (cut p).stop
      (parts_by (cut p) (cut p).current (cut p).stop refl refl)
      (nat_lt limit (suc (length p))) refl

shaped_start : (R : Rules) → IsShaped R []
unfolding cut_of_parts messages IsWithinLimit
shaped_start R = record {
  places = rw (events_nothing R) tt;
  numbers = rw (open_nothing R) tt;
  fits = λ st. rw cut_nothing (record { current = tt; held = omega arith; short = omega arith });
  rising = rw (open_nothing R) tt;
  early = λ st. rw cut_nothing tt;
  few = rw (open_nothing R) (omega arith);
}

shape : (R : Rules) (p : List ℕ) → IsShaped R p
shape R = by_growth (IsShaped R) (shaped_start R) (λ p x h. shaped_then R p x h)

-- at most as many messages are open as may be
pub few_open : (R : Rules) (p : List ℕ) → length (open_after R p) ≤ R.most
unfolding IsWithinLimit
few_open R p = (shape R p).few

-- their numbers rise
pub rising_open : (R : Rules) (p : List ℕ) → NumbersRise (open_after R p)
rising_open R p = (shape R p).rising

-- no event comes after the end of the stream
pub early_events : (R : Rules) (p : List ℕ) → Each (λ e. e.place ≤ length p) (events R p)
early_events R p = (shape R p).places
