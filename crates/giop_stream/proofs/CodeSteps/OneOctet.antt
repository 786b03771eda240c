-- A stream with one more octet, in each case: its cut, its lines, and what is tracked of its
-- messages; the invariants stay.
use native.Mathlib.Nat.{le_of_eq}
use Rattle.std.proofs.Common.{inl, inr, ◌⊎◌, ◌≡◌, ℕ, suc, ◌+◌, ◌-◌, ◌<◌, ◌≤◌, Bool, true, false, List, [], ◌∷◌, ◌++◌, length, get_or, refl, sym, ap, subst, ◌∙◌, Option, Some, None, arith}
use Rattle.std.specs.Prelude.{nat_lt, ◌==◌, IfSome}
use Rattle.std.specs.List.{AllByRecursion as Each}
use Rattle.std.proofs.lemmas.Bool.{lt-ltb, le-ltb, eq-eqb, eqb-true}
use Rattle.std.proofs.lemmas.List.{append-nil, length_push, get_or_push}
use Rattle.giop_message.specs.Headers.{size, begins_with_request_id}
use Rattle.giop_stream.specs.Kinds.{lookup_offset}
use Rattle.giop_message.specs.MessageReader.{MessageReader, KeepsEarlierLines, IsStreamable}
use Rattle.giop_checkpoint.specs.declared.fault.StreamFault.{StreamFault}
use Rattle.giop_checkpoint.specs.declared.fault.StreamFault.TheVariants.{StreamLimit}
use Rattle.giop_stream.specs.HeaderOctets.{last_octet_fault}
use Rattle.giop_stream.specs.Rules.{Rules}
use Rattle.giop_stream.specs.Framing.{CutMessage, Cut, limit, cut, messages, fault_of}
use Rattle.giop_stream.specs.Events.{EventKind, Event, Open, place, events_of_octet, events_from, events, open_after_events, open_after, joined_octets, before_by, MessageOctet, last_octet_of}
use Rattle.giop_stream.specs.Lines.{StreamLine, Kept, nothing_kept, kept_of, lines_of_messages, stop_line, lines}
use Rattle.giop_stream.specs.Stream.{start_count}
use Rattle.giop_stream.specs.OpenSlots.{KeptByNumber, known_of, Tracked, tracked_after}
use Rattle.giop_stream.proofs.StreamLines.EventsTogether.{all_lines, sorted_lines}
use Rattle.giop_stream.specs.Effects.{effects, IsBegun, with_octet}
use Rattle.giop_stream.specs.Octet.{OctetKind, AfterStop, Ends, Held, Of, kind_after_front, octet_in, octet_of, header_of, payload_count_of}
use Rattle.giop_stream.proofs.Lists.{all_by, each_weaker}
use Rattle.giop_stream.proofs.Cuts.Cutting.{next_cut, cut_stopped_at, cut_of_parts, parts_by, cut_grows, settle_stop, settled_messages, next_limit, next_payload, next_front, next_stopped}
use Rattle.giop_stream.proofs.Cuts.CutFrom.{cut_with_last_message, header_case}
use Rattle.giop_stream.proofs.Events.MessageKinds.{named_by_four}
use Rattle.giop_stream.proofs.Events.EventsOfOctet.{events_of_octet_each}
use Rattle.giop_stream.proofs.StreamLines.LinesOfOctet.{standing_each, all_lines_places, phase_twelve}
use Rattle.giop_stream.proofs.Events.EventsKeep.{NumbersAreBelow}
use Rattle.giop_stream.proofs.StreamLines.Ordering.{RanksDoNotFall, RanksRise, IsOrderedWithoutTwins, ordered_stays, are_effects}
use Rattle.giop_stream.proofs.StreamLines.LineOrder.{events_of_octet_fine, not_past}
use Rattle.giop_stream.proofs.Events.Sharing.{header_joined, own_joined}
use Rattle.giop_stream.proofs.StreamLines.StartLines.{start_append, none_later, one_first}
use Rattle.giop_stream.proofs.Events.AfterMoreEvents.{message_lines_grow, message_lines_same, known_grow, known_idle, open_grows, open_idle, lines_free, lines_stopped}
use Rattle.giop_stream.proofs.Events.Soundness.{CutFitsStream, IsSound, dealt_sound, events_on, events_begin}
use Rattle.giop_stream.proofs.CodeSteps.WhatStands.{mixed_grows}
use Rattle.giop_stream.proofs.Events.StepCases.{quiet_sound, stop_starts, not_twelve, place_more, place_first, events_of_cut}

pub record AddsLinesAndState (R : Rules) (stream next_stream : List ℕ) (cut_stream : Cut)
    (ls : List StreamLine) (tracked : Tracked) :
    Type 0
  where
    pub cut_is : cut next_stream ≡ cut_stream
    pub lines : lines R next_stream ≡ lines R stream ++ ls
    pub here : Each (λ l. l.place ≡ suc (length stream)) ls
    pub rises : RanksRise ls
    pub tracked_after : tracked_after R next_stream ≡ tracked
    pub sound : IsSound R next_stream

-- an octet of the message m: the last one of its header, or one of its payload
pub record IsOctetOfMessage (R : Rules) (stream : List ℕ) (octet : ℕ)
    (now : MessageOctet) : Type 0 where
  pub m : CutMessage
  pub is_now : last_octet_of m ≡ now
  pub fits : length m.payload ≤ size m.header
  pub number_is : m.number ≡ suc (length (cut stream).whole)
  pub place_is : place m ≡ suc (length stream)
  pub from : (((cut stream).current ≡ None) × (m.payload ≡ []))
      ⊎ ((was : CutMessage) × ((cut stream).current ≡ Some was) × (m ≡ with_octet was octet))
  pub grows : events R (stream ++ octet ∷ []) ≡ events R stream
      ++ events_of_octet R.most (before_by R (events R stream)) m
  pub adds : AddsLinesAndState R stream (stream ++ octet ∷ []) (cut_with_last_message
      (cut stream).whole m)
      (effects R.reading (tracked_after R stream)
      (events_of_octet R.most (before_by R (events R stream)) m)).lines
      (effects R.reading (tracked_after R stream)
      (events_of_octet R.most (before_by R (events R stream)) m)).tracked

-- the message that begins with this header, after these messages
abbrev pub message_that_begins : (whole : List CutMessage) (place : ℕ) (header : List ℕ) →
    CutMessage
message_that_begins whole at header = record {
  number = suc (length whole);
  before = at - 12;
  header = header;
  payload = [];
}

abbrev pub IsStateThen : (R : Rules) (stream : List ℕ) (x : ℕ) (octet : OctetKind) → Type 0
IsStateThen R p x AfterStop = (found : ℕ × StreamFault) × ((cut p).stop ≡ Some found)
    × AddsLinesAndState R p (p ++ x ∷ []) (cut p) [] (tracked_after R p)
IsStateThen R p x (Ends fault) =
    ((cut p).stop ≡ None) × AddsLinesAndState R p (p ++ x ∷ []) (cut_stopped_at (suc
    (length p)) fault (cut p))
    (stop_line (Some (suc (length p), fault))) (tracked_after R p)
IsStateThen R p x (Held front) = ((cut p).stop ≡ None) × ((cut p).current ≡ None)
    × AddsLinesAndState R p (p ++ x ∷ []) (cut_of_parts (cut p).whole None front None) []
    (tracked_after R p)
IsStateThen R p x (Of now) = ((cut p).stop ≡ None) × IsOctetOfMessage R p x now

-- ---- What the next octet is, from the parts of the cut.

pub octet_limit : (held : List ℕ) (number n payload_count x : ℕ) → nat_lt limit (suc n) ≡ true →
    octet_in None held number n payload_count x ≡ Ends StreamLimit
unfolding octet_in
octet_limit held number n payload_count x e = rw e refl

pub octet_front : (held : List ℕ) (number n payload_count x : ℕ) → nat_lt limit (suc n) ≡ false →
    length held < 12
    → octet_in None held number n payload_count x
    ≡ kind_after_front (held ++ x ∷ []) number (suc n) (last_octet_fault (held ++ x ∷ []))
unfolding octet_in
octet_front held number n payload_count x e short = search (arith, lt-ltb)

pub octet_paid : (header : List ℕ) (number n payload_count x : ℕ) → nat_lt limit (suc n) ≡ false →
    length header ≡ 12
    → octet_in None header number n payload_count x ≡ Of
    (record {
      subject = record { number = number; header = header };
      place = suc n;
      payload_count =
          suc payload_count;
      octet = x;
    })
unfolding octet_in
octet_paid header number n payload_count x e twelve = search (arith, le-ltb)

pub front_full : (front : List ℕ) (number at : ℕ) → length front ≡ 12
    → kind_after_front front number at None ≡ Of
    (record {
      subject = record { number = suc number; header = front };
      place = at;
      payload_count =
          0;
      octet = 0;
    })
front_full front number at twelve = search (arith, eq-eqb)

pub front_short : (front : List ℕ) (number at : ℕ) → (length front == 12) ≡ false →
    kind_after_front front number at None ≡ Held front
front_short front number at e = rw e refl

-- ---- The lines of an effect, in their order.

now_here : (R : MessageReader) (n : ℕ) (K : KeptByNumber) (es : List Event) →
    RanksDoNotFall (all_lines R K es) → Each (λ e. e.place ≡ n) es
    → Each (λ l. l.place ≡ n) (sorted_lines R K es)
unfolding sorted_lines
now_here R n K es h here =
    rw (ordered_stays (all_lines R K es) h)
    (standing_each (λ l. l.place ≡ n) (λ i. false) (all_lines R K es)
    (all_lines_places R (λ k. k ≡ n) K es here))

now_rises : (R : MessageReader) (K : KeptByNumber) (es : List Event) →
    IsOrderedWithoutTwins (all_lines R K es) →
    RanksRise (sorted_lines R K es)
unfolding sorted_lines
now_rises R K es h = search (arith, ordered_stays, all_lines)

-- ---- What is kept.

-- what is kept of a message is what its events keep
pub kept_is : (R : Rules) (p : List ℕ) (i : ℕ) (kept : Kept) → known_of R p i ≡ Some kept →
    kept ≡ kept_of i (events R p)
unfolding known_of
kept_is R p i kept e = search (arith)

-- ---- The cases.

module _ (R : Rules) (causal : KeepsEarlierLines R.reading) (laws : IsStreamable R.reading)
    (p : List ℕ)
    (x : ℕ) (sound : IsSound R p) where
  len : length (p ++ x ∷ []) ≡ suc (length p)
  len = search (arith, length_push)

  -- the octet is one of no message
  idle : (c : Cut) (ls : List StreamLine) → cut (p ++ x ∷ []) ≡ c → messages c ≡ messages (cut p)
      → lines_of_messages R p ++ stop_line c.stop ≡ lines R p ++ ls → start_count ls ≡ 0 →
      Each (λ l. l.place ≡ suc (length p)) ls → RanksRise ls
      → (c.stop ≡ None → (c.current ≡ None) × CutFitsStream (suc (length p)) c) →
      AddsLinesAndState R p (p ++ x ∷ []) c ls (tracked_after R p)
  unfolding tracked_after events
  idle c ls ec ms same none here rises fits =
      let p' = p ++ x ∷ [] in
      let ev : events R p' ≡ events R p = ap (events_from R []) (ap messages ec ∙ ms) in
      let sd = message_lines_same R p p' len ev sound.places in
      let more : lines R p' ≡ lines R p ++ ls =
      lines_stopped R p' c.stop (ap (λ (k : Cut). k.stop) ec)
      ∙ (ap (λ (ks : List StreamLine). ks ++ stop_line c.stop) sd ∙ same) in
      record {
        cut_is = ec;
        lines = more;
        here = here;
        rises = rises;
        tracked_after = λ j. record {
          still_open = open_idle R p p' ev j;
          mixed = (before_by R (ev j)).mixed;
          known = λ i. known_idle R p p' ev sd i j;
        };
        sound = quiet_sound R p p' len (ap messages ec ∙ ms) ev sd
            (ap start_count more ∙ (start_append (lines R p) ls
            ∙ omega (arith, none)))
            (λ st. rw ec (fits (ap (λ (k : Cut). k.stop) (sym ec) ∙ st)).1)
            (λ st. no_current st (λ m. length m.payload < lookup_offset m.header →
            NumbersAreBelow m.number (open_after R p')))
            (λ st. no_current st (λ m. length m.payload ≤ lookup_offset m.header →
            joined_octets m.number (events R p') ≡ m.payload)) sound;
      }
    where
      no_current : (cut (p ++ x ∷ [])).stop ≡ None → (P : CutMessage → Type 0) →
          IfSome (cut (p ++ x ∷ [])).current P
      no_current st P = rw (ec, (fits (ap (λ (k : Cut). k.stop) (sym ec) ∙ st)).0) tt

  -- the octet is one of the message m
  deals : (m : CutMessage) (whole : List CutMessage) → cut (p ++ x ∷ [])
      ≡ cut_with_last_message whole m
      → events R (p ++ x ∷ []) ≡ events R p
      ++ events_of_octet R.most (before_by R (events R p)) m → place m ≡ suc (length p) →
      m.number ≡ suc (length whole)
      → length m.header ≡ 12 → (cut p).stop ≡ None → length (messages (cut p)) ≤ suc (length whole)
      → (length m.payload ≤ lookup_offset m.header → NumbersAreBelow m.number (open_after R p))
      → length (messages (cut p)) + start_count
      (sorted_lines R.reading (known_of R p) (events_of_octet R.most (before_by R (events R p)) m))
      ≡ suc
      (length whole) → length m.payload ≤ size m.header →
      (begins_with_request_id m.header ≡ true → IsBegun (known_of R p) m)
      → (length m.payload ≤ lookup_offset m.header → joined_octets m.number (events R p)
      ++ joined_octets m.number (events_of_octet R.most (before_by R (events R p)) m) ≡ m.payload)
      → AddsLinesAndState R p (p ++ x ∷ []) (cut_with_last_message whole m)
      (effects R.reading (tracked_after R p)
      (events_of_octet R.most (before_by R (events R p)) m)).lines
      (effects R.reading (tracked_after R p)
      (events_of_octet R.most (before_by R (events R p)) m)).tracked
  unfolding tracked_after
  deals m whole ec ev pl nm twelve st more low starts fits begun grows =
      let p' = p ++ x ∷ [] in
      let b = before_by R (events R p) in
      let K = known_of R p in
      let es = events_of_octet R.most b m in
      let here : Each (λ e. e.place ≡ suc (length p)) es =
      events_of_octet_each R.most (λ e. e.place ≡ suc (length p)) b m (λ what. pl)
      (all_by (λ (o : Open). (what : EventKind) → place m ≡ suc (length p)) (λ o what. pl)
      b.still_open) in
      let sd = message_lines_grow R causal laws.phased p p' es len ev sound.places here in
      let fine = events_of_octet_fine R laws K b m fits begun in
      let p1 = are_effects R.reading (tracked_after R p) es fine.ordered in
      let st' : (cut p').stop ≡ None = ap (λ (c : Cut). c.stop) ec ∙ settle_stop whole m in
      record {
        cut_is = ec;
        lines = lines_free R p' st' ∙ (sd ∙ rw (lines_free R p st, p1.lines) refl);
        here = subst (Each (λ l. l.place ≡ suc (length p))) p1.lines
            (now_here R.reading (suc (length p)) K es fine.ordered here);
        rises = subst RanksRise p1.lines (now_rises R.reading K es fine);
        tracked_after = λ j. record {
          still_open = (open_grows R p p' es ev ∙ p1.still_open) j;
          mixed = (ap (λ (all : List Event). (before_by R all).mixed) ev
              ∙ (mixed_grows R (events R p) es ∙ p1.mixed)) j;
          known = λ i. (known_grow R p p' es (sorted_lines R.reading K es) ev sd i ∙ p1.known i)
              j;
        };
        sound = dealt_sound R causal laws p p' whole m len ec ev pl nm twelve st more low
            starts grows sound;
      }

  begun_by : (was : CutMessage) → (length was.payload ≤ 4 →
      joined_octets was.number (events R p) ≡ was.payload) →
      IsBegun (known_of R p) (with_octet was x)
  begun_by was begun some short kept known =
      let is = kept_is R p was.number kept known in
      let long = length_push was.payload x in (
        omega (
          arith,
          ap (λ (k : Kept). length k.octets) is,
          ap length (begun (omega (arith, short, long))),
          long,
        ),
        ap (λ (k : Kept). k.phase 12) is ∙ phase_twelve was.number (events R p),
      )

  pub paid_events : (whole : List CutMessage) (was : CutMessage) (held : List ℕ) →
      cut p ≡ cut_of_parts whole (Some was) held None
      → nat_lt limit (suc (length p)) ≡ false → events R (p ++ x ∷ []) ≡ events R p
      ++ events_of_octet R.most (before_by R (events R p)) (with_octet was x)
  unfolding cut_of_parts messages open_after
  paid_events whole was held ec room =
      let p' = p ++ x ∷ [] in
      let st : (cut p).stop ≡ None = rw ec refl in
      let fit : CutFitsStream (length p) (cut_of_parts whole (Some was) held None) =
      rw ec at (sound.fits st) in
      let ec' : cut p' ≡ cut_with_last_message whole (with_octet was x) =
      cut_grows p x ∙ rw ec (next_payload whole was held (length p) x room) in
      let ev : events R p ≡ events_from R [] (whole ++ was ∷ []) =
      events_of_cut R p (cut_of_parts whole (Some was) held None) ec in
      let early : length was.payload < lookup_offset was.header →
      NumbersAreBelow was.number (open_after_events [] (events R p)) =
      rw ec at (sound.early st) in
      events_of_cut R p' (cut_with_last_message whole (with_octet was x)) ec'
      ∙ (ap (events_from R []) (settled_messages whole (with_octet was x))
      ∙ (events_on R whole was x fit.current.lacks
      (λ few. subst (λ (es : List Event). NumbersAreBelow was.number (open_after_events [] es)) ev
      (early few))
      ∙ ap (λ (es : List Event). es ++ events_of_octet R.most (before_by R es) (with_octet was x))
      (sym ev)))

  paid_adds : (whole : List CutMessage) (was : CutMessage) (held : List ℕ) →
      cut p ≡ cut_of_parts whole (Some was) held None → nat_lt limit (suc (length p)) ≡ false
      → AddsLinesAndState R p (p ++ x ∷ []) (cut_with_last_message whole (with_octet was x))
      (effects R.reading (tracked_after R p)
      (events_of_octet R.most (before_by R (events R p)) (with_octet was x))).lines
      (effects R.reading (tracked_after R p)
      (events_of_octet R.most (before_by R (events R p)) (with_octet was x))).tracked
  unfolding cut_of_parts messages open_after
  paid_adds whole was held ec room =
      let c = cut_of_parts whole (Some was) held None in
      let m = with_octet was x in
      let st : (cut p).stop ≡ None = rw ec refl in
      let fit : CutFitsStream (length p) c = rw ec at (sound.fits st) in
      let fits = fit.current in
      let lacks = fits.lacks in
      let long = length_push was.payload x in
      let early : length was.payload < lookup_offset was.header →
      NumbersAreBelow was.number (open_after R p) =
      rw ec at (sound.early st) in
      let one : length (whole ++ was ∷ []) ≡ suc (length whole) =
      omega (arith, length_push whole was) in
      let count : length (messages (cut p)) ≡ suc (length whole) = rw ec one in
      let ec' : cut (p ++ x ∷ []) ≡ cut_with_last_message whole m =
      cut_grows p x ∙ rw ec (next_payload whole was held (length p) x room) in
      let ev = paid_events whole was held ec room in
      let begun : length was.payload ≤ lookup_offset was.header →
      joined_octets was.number (events R p) ≡ was.payload =
      rw ec at (sound.begun st) in
      let starts = none_later R (known_of R p) (before_by R (events R p)) m (omega (arith, long)) in
      deals m whole ec' ev (place_more was x (length p) fits.place_is) fits.number_is fits.twelve st
      (le_of_eq count)
      (λ named. early (omega (arith, named, long))) (omega (arith, count, starts))
      (omega (arith, lacks, long))
      (λ name. begun_by was (λ few. begun (omega (arith, few, named_by_four was.header name))))
      (λ short. rw (
        begun (omega (arith, short, long)),
        own_joined R.most (before_by R (events R p)) was was.payload x (not_past m short),
      ) refl)

  paid : (whole : List CutMessage) (was : CutMessage) (held : List ℕ) →
      cut p ≡ cut_of_parts whole (Some was) held None
      → nat_lt limit (suc (length p)) ≡ false → IsStateThen R p x
      (octet_in None was.header (length (messages (cut p))) (length p) (length was.payload) x)
  unfolding cut_of_parts messages
  paid whole was held ec room =
      let st : (cut p).stop ≡ None = rw ec refl in
      let fit : CutFitsStream (length p) (cut_of_parts whole (Some was) held None) =
      rw ec at (sound.fits st) in
      let fits = fit.current in
      let lacks = fits.lacks in
      let long = length_push was.payload x in
      let one : length (whole ++ was ∷ []) ≡ suc (length whole) =
      omega (arith, length_push whole was) in
      let count : length (messages (cut p)) ≡ suc (length whole) = rw ec one in
      let pl = place_more was x (length p) fits.place_is in
      let same : (cut p).whole ≡ whole = rw ec refl in
      let last : get_or (was.payload ++ x ∷ []) (length (was.payload ++ x ∷ []) - 1) 0 ≡ x =
      get_or_push was.payload x 0 (length (was.payload ++ x ∷ []) - 1) (omega (arith, long)) in
      let payload_count : length (was.payload ++ x ∷ []) ≡ suc (length was.payload) =
      omega (arith, long) in
      let number : was.number ≡ length (messages (cut p)) = fits.number_is ∙ sym count in
      rw (octet_paid was.header (length (messages (cut p))) (length p) (length was.payload) x room
      fits.twelve) (
        st,
        record {
          m = with_octet was x;
          is_now = λ j. record {
            subject = record { number = number j; header = was.header };
            place = pl j;
            payload_count = payload_count j;
            octet = last j;
          };
          fits = omega (arith, lacks, long);
          number_is = fits.number_is ∙ ap (λ (l : List CutMessage). suc (length l)) (sym same);
          place_is = pl;
          from = inr (was, rw ec refl, refl);
          grows = paid_events whole was held ec room;
          adds = rw same (paid_adds whole was held ec room);
        },
      )

  begins_events : (whole : List CutMessage) (held : List ℕ) →
      cut p ≡ cut_of_parts whole None held None
      → nat_lt limit (suc (length p)) ≡ false → last_octet_fault (held ++ x ∷ []) ≡ None →
      length (held ++ x ∷ []) ≡ 12
      → events R (p ++ x ∷ []) ≡ events R p
      ++ events_of_octet R.most (before_by R (events R p))
      (message_that_begins whole (suc (length p)) (held ++ x ∷ []))
  unfolding cut_of_parts messages header_case
  begins_events whole held ec room right twelve =
      let p' = p ++ x ∷ [] in
      let front = held ++ x ∷ [] in
      let m = message_that_begins whole (suc (length p)) front in
      let none : messages (cut_of_parts whole None held None) ≡ whole = append-nil whole in
      let ev : events R p ≡ events_from R [] whole =
      events_of_cut R p (cut_of_parts whole None held None) ec ∙ ap (events_from R []) none in
      let number : 1 + length whole ≡ suc (length whole) = omega arith in
      let grown : cut p' ≡ header_case 1 (suc (length p)) whole (held ++ x ∷ [])
      (last_octet_fault (held ++ x ∷ [])) (length (held ++ x ∷ []) == 12) =
      cut_grows p x ∙ rw ec (next_front whole held (length p) x room) in
      let ec' : cut p' ≡ cut_with_last_message whole m =
      grown ∙ rw (right, eq-eqb (length front) 12 twelve, number) refl in
      events_of_cut R p' (cut_with_last_message whole m) ec'
      ∙ (ap (events_from R []) (settled_messages whole m)
      ∙ (events_begin R whole m refl
      ∙ ap (λ (es : List Event). es ++ events_of_octet R.most (before_by R es) m) (sym ev)))

  begins_adds : (whole : List CutMessage) (held : List ℕ) →
      cut p ≡ cut_of_parts whole None held None
      → nat_lt limit (suc (length p)) ≡ false → last_octet_fault (held ++ x ∷ []) ≡ None →
      length (held ++ x ∷ []) ≡ 12
      → (let m = message_that_begins whole (suc (length p)) (held ++ x ∷ []) in
      AddsLinesAndState R p (p ++ x ∷ []) (cut_with_last_message whole m)
      (effects R.reading (tracked_after R p)
      (events_of_octet R.most (before_by R (events R p)) m)).lines
      (effects R.reading (tracked_after R p)
      (events_of_octet R.most (before_by R (events R p)) m)).tracked)
  unfolding cut_of_parts messages open_after header_case
  begins_adds whole held ec room right twelve =
      let c = cut_of_parts whole None held None in
      let front = held ++ x ∷ [] in
      let m = message_that_begins whole (suc (length p)) front in
      let st : (cut p).stop ≡ None = rw ec refl in
      let fit : CutFitsStream (length p) c = rw ec at (sound.fits st) in
      let within = fit.held in
      let long = length_push held x in
      let none : messages c ≡ whole = append-nil whole in
      let count : length (messages (cut p)) ≡ length whole = rw (ec, none) refl in
      let known : known_of R p m.number ≡ Some nothing_kept =
      sound.unknown m.number (omega (arith, count)) in
      let number : 1 + length whole ≡ suc (length whole) = omega arith in
      let grown : cut (p ++ x ∷ []) ≡ header_case 1 (suc (length p)) whole front
      (last_octet_fault front)
      (length front == 12) =
      cut_grows p x ∙ rw ec (next_front whole held (length p) x room) in
      let ec' : cut (p ++ x ∷ []) ≡ cut_with_last_message whole m =
      grown ∙ rw (right, eq-eqb (length front) 12 twelve, number) refl in
      let ev = begins_events whole held ec room right twelve in
      let starts = one_first R (known_of R p) (before_by R (events R p)) m nothing_kept refl known
      in
      let low : NumbersAreBelow m.number (open_after R p) =
      each_weaker (λ o. o.opener.number ≤ length (messages (cut p)))
      (λ o. o.opener.number < m.number)
      (λ o k. omega (arith, k, count)) (open_after R p) sound.numbers in
      deals m whole ec' ev (place_first (length p) m refl refl
      (omega (arith, within, long, twelve))) refl twelve st
      (omega (arith, count)) (λ four. low) (omega (arith, count, starts)) (omega arith)
      (λ name some. absurd (omega (arith, some)))
      (λ short. rw (
        sym (ap (λ (k : Kept). k.octets) (kept_is R p m.number nothing_kept known)),
        header_joined R.most m.number (before_by R (events R p)) m refl,
      ) refl)

  begins : (whole : List CutMessage) (held : List ℕ) → cut p ≡ cut_of_parts whole None held None
      → nat_lt limit (suc (length p)) ≡ false → last_octet_fault (held ++ x ∷ []) ≡ None →
      length (held ++ x ∷ []) ≡ 12
      → IsStateThen R p x (kind_after_front (held ++ x ∷ []) (length (messages (cut p))) (suc
      (length p)) None)
  unfolding cut_of_parts messages
  begins whole held ec room right twelve =
      let front = held ++ x ∷ [] in
      let st : (cut p).stop ≡ None = rw ec refl in
      let fit : CutFitsStream (length p) (cut_of_parts whole None held None) =
      rw ec at (sound.fits st) in
      let within = fit.held in
      let none : messages (cut_of_parts whole None held None) ≡ whole = append-nil whole in
      let count : length (messages (cut p)) ≡ length whole = rw (ec, none) refl in
      let pl = place_first (length p) (message_that_begins whole (suc (length p)) front) refl refl
      (omega (arith, within, length_push held x, twelve)) in
      let same : (cut p).whole ≡ whole = rw ec refl in
      rw (front_full front (length (messages (cut p))) (suc (length p)) twelve) (
        st,
        record {
          m = message_that_begins whole (suc (length p)) front;
          is_now = λ j. record {
            subject = record { number = suc (sym count j); header = front };
            place = pl j;
            payload_count = 0;
            octet = 0;
          };
          fits = omega arith;
          number_is = ap (λ (l : List CutMessage). suc (length l)) (sym same);
          place_is = pl;
          from = inl (rw ec refl, refl);
          grows = begins_events whole held ec room right twelve;
          adds = rw same (begins_adds whole held ec room right twelve);
        },
      )

  stops : (whole : List CutMessage) (current : Option CutMessage) (held : List ℕ) (fault :
      StreamFault)
      → cut p ≡ cut_of_parts whole current held None →
      next_cut (length p) x (cut p) ≡ cut_stopped_at (suc (length p)) fault (cut p)
      → IsStateThen R p x (Ends fault)
  unfolding cut_of_parts cut_stopped_at messages stop_line
  stops whole current held fault ec grown =
      let st : (cut p).stop ≡ None = rw ec refl in (
        st,
        idle (cut_stopped_at (suc (length p)) fault (cut p)) (stop_line (Some (
          suc (length p),
          fault,
        )))
            (cut_grows p x ∙ grown) refl (rw (lines_free R p st) refl)
            (stop_starts (suc (length p), fault)) (refl, tt) (tt, tt)
            (λ free. absurd cc),
      )

  fronts : (whole : List CutMessage) (held : List ℕ) → cut p ≡ cut_of_parts whole None held None
      → nat_lt limit (suc (length p)) ≡ false → (w : Option StreamFault) →
      last_octet_fault (held ++ x ∷ []) ≡ w → (b : Bool)
      → (length (held ++ x ∷ []) == 12) ≡ b
      → IsStateThen R p x (kind_after_front (held ++ x ∷ []) (length (messages (cut p))) (suc
      (length p)) w)
  unfolding cut_of_parts header_case cut_stopped_at messages start_count stop_line
  fronts whole held ec room (Some fault) e b k =
      stops whole None held fault ec (rw ec (next_front whole held (length p) x room ∙ rw e refl))
  fronts whole held ec room None e true k = search (arith, begins, eqb-true)
  fronts whole held ec room None e false k = search (
    arith,
    cut_of_parts,
    length_push,
    not_twelve,
    cut_grows,
    next_front,
    front_short,
    idle,
    lines_free,
  )

  then_by : (whole : List CutMessage) (current : Option CutMessage) (held : List ℕ)
      (stop : Option (ℕ × StreamFault))
      → cut p ≡ cut_of_parts whole current held stop → (b : Bool) →
      nat_lt limit (suc (length p)) ≡ b
      → IsStateThen R p x (octet_in (fault_of stop) (header_of current held) (length (messages
      (cut p)))
      (length p) (payload_count_of current) x)
  unfolding cut_of_parts octet_in cut_stopped_at start_count
  then_by whole current held (Some found) ec b e =
      let st : (cut p).stop ≡ Some found = rw ec refl in (
        found,
        st,
        idle (cut p) [] (cut_grows p x ∙ rw ec (next_stopped whole current held found (length p) x))
            refl
            (sym (lines_stopped R p (cut p).stop refl) ∙ sym (append-nil (lines R p))) refl tt tt
            (λ free. absurd (let no : Some found ≡ None = sym st ∙ free in cc)),
      )
  then_by whole current held None ec true e =
      rw (octet_limit (header_of current held) (length (messages (cut p))) (length p)
      (payload_count_of current) x e)
      (stops whole current held StreamLimit ec
      (rw ec (next_limit whole current held (length p) x e)))
  then_by whole (Some was) held None ec false e = paid whole was held ec e
  then_by whole None held None ec false e =
      let fit : CutFitsStream (length p) (cut_of_parts whole None held None) =
      rw ec at (sound.fits (rw ec refl)) in
      rw (octet_front held (length (messages (cut p))) (length p) 0 x e fit.short)
      (fronts whole held ec e (last_octet_fault (held ++ x ∷ [])) refl (length (held ++ x
      ∷ []) == 12) refl)

  pub then_is : IsStateThen R p x (octet_of (cut p) (length p) x)
  unfolding cut_of_parts octet_of
  then_is = then_by (cut p).whole (cut p).current (cut p).held (cut p).stop refl
      (nat_lt limit (suc (length p))) refl

  -- an octet of the current message's payload, and the last octet of a header
  pub paid_is : (was : CutMessage) → (cut p).stop ≡ None → (cut p).current ≡ Some was →
      nat_lt limit (suc (length p)) ≡ false
      → AddsLinesAndState R p (p ++ x ∷ []) (cut_with_last_message (cut p).whole (with_octet was x))
      (effects R.reading (tracked_after R p)
      (events_of_octet R.most (before_by R (events R p)) (with_octet was x))).lines
      (effects R.reading (tracked_after R p)
      (events_of_octet R.most (before_by R (events R p)) (with_octet was x))).tracked
  paid_is was st cur = paid_adds (cut p).whole was (cut p).held
      (parts_by (cut p) (Some was) None cur st)

  pub begins_is : (cut p).stop ≡ None → (cut p).current ≡ None →
      nat_lt limit (suc (length p)) ≡ false
      → last_octet_fault ((cut p).held ++ x ∷ []) ≡ None → length ((cut p).held ++ x ∷ []) ≡ 12
      → (let m = message_that_begins (cut p).whole (suc (length p)) ((cut p).held ++ x ∷ []) in
      AddsLinesAndState R p (p ++ x ∷ [])
      (cut_with_last_message (cut p).whole m) (effects R.reading (tracked_after R p)
      (events_of_octet R.most (before_by R (events R p)) m)).lines
      (effects R.reading (tracked_after R p)
      (events_of_octet R.most (before_by R (events R p)) m)).tracked)
  begins_is st cur = search (arith, begins_adds, parts_by)
