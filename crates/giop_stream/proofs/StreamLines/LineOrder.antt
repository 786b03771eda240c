-- The lines of an octet are in the order of their classes: those that the message's reader gives,
-- then those of the request id, and then those of the close.
use Rattle.std.proofs.Common.{inl, inr, ◌⊎◌, ◌≡◌, ℕ, suc, ◌<◌, ◌≤◌, Bool, true, false, List, [], ◌∷◌, ◌++◌, length, map, refl, Option, Some, None, arith}
use Rattle.std.specs.Prelude.{nat_lt, ◌==◌, if◌then◌else◌, ◌||◌, option_map}
use Rattle.std.specs.List.{AllByRecursion as Each}
use Rattle.std.proofs.lemmas.Bool.{cases_lt, cases_eq, le-ltb, lt-ltb, eq-eqb, ne_eqb, and_parts, and_right}
use Rattle.std.proofs.lemmas.List.{append-nil, length_push}
use Rattle.giop_message.specs.Headers.{size, is_fragment_1_2, is_opener_1_2, begins_with_request_id}
use Rattle.giop_stream.specs.Kinds.{is_fragmented_1_1, is_any_fragment, is_too_short_for_id, lookup_offset}
use Rattle.giop_stream.specs.PayloadOwner.{acts_on_open}
use Rattle.giop_stream.specs.Rules.{Rules}
use Rattle.giop_stream.specs.Framing.{CutMessage}
use Rattle.giop_message.specs.MessageReader.{LineClass, Value, Fault, MessageReader, next_lines, IsStreamable}
use Rattle.giop_stream.specs.Effects.{IsBegun, kept_after_event, lines_for, kept_with}
use Rattle.giop_stream.specs.Events.{EventKind, Begins, Takes, Closes, MessageKey, Event, OpenState, Open, own_event, event_of_open, opener_of, has_joined_octets, events_at_header, events_at_octet, events_at_name, events_at_end, events_of_octet, octets_of_event, last_octet_of, header_events, payload_events, naming_events, message_end_events, events_with_key, MessageOctet}
use Rattle.giop_stream.specs.Lines.{StreamLine, Said, line, Kept, lines_of_event, is_last_line_of, up_to_last_line}
use Rattle.giop_stream.specs.OpenSlots.{KeptByNumber}
use Rattle.giop_stream.proofs.StreamLines.EventsTogether.{all_lines}
use Rattle.giop_stream.proofs.Lists.{each_filter}
use Rattle.giop_stream.proofs.StreamLines.Ordering.{rank_of, RanksRise, IsOrderedWithoutTwins, fine_of}
use Rattle.giop_stream.proofs.StreamLines.Spans.{RanksRiseWithin, spans_none, class_rank, LineClassesRise, rank_said, reader_classes_each, reader_classes_rise, class_spans, both_say, value_spans}
use Rattle.giop_stream.proofs.StreamLines.Accepted.{named_accepted, old_accepted}
use Rattle.giop_stream.proofs.Events.MessageKinds.{unplaced, unnamed, placed_named, any_placed, named_old, named_four, named_within, named_not_old}
use Rattle.giop_stream.proofs.StreamLines.InClasses.{event_lines_begins, event_lines_takes, EventsSpan, join_spans, always_join, always_none, always_if, always_one, always_own, always_header, ends_short, always_close, always_end, always_later}

-- ---- An octet, and the close after it.

-- If one message has two faults, the second is not written.
two_faults : (d e : Event) (t u : List ℕ) → d.subject.number ≡ e.subject.number →
    IsOrderedWithoutTwins (line d (Said Fault t) ∷ line e (Said Fault u) ∷ [])
unfolding line up_to_last_line is_last_line_of
two_faults d e t u same = search (arith, eq-eqb)

-- The lines of two events d and e; the lines of each are made from a list of its own.
module _ {A B : Type 0} (d e : Event) (f : A → LineClass) (g : A → List ℕ) (f' : B → LineClass)
    (g' : B → List ℕ) where
  abbrev both_give_lines : (xs : List A) (ys : List B) → List StreamLine
  both_give_lines xs ys = map (λ a. line d (Said (f a) (g a))) xs
      ++ map (λ b. line e (Said (f' b) (g' b))) ys

  abbrev sayings : (xs : List A) (ys : List B) → List LineClass
  sayings xs ys = map f xs ++ map f' ys

  pair_each : (P : ℕ → Type 0) (xs : List A) (ys : List B) →
      Each (λ s. P (class_rank s)) (sayings xs ys)
      → Each (λ l. P (rank_of l)) (both_give_lines xs ys)
  pair_each P [] ys h = reader_classes_each P e f' g' ys h
  pair_each P (x ∷ xs) ys h = search (arith, rank_said, pair_each P xs ys h.1)

  pair_rises : (xs : List A) (ys : List B) → LineClassesRise (sayings xs ys) →
      RanksRise (both_give_lines xs ys)
  pair_rises [] ys h = reader_classes_rise e f' g' ys h
  pair_rises (x ∷ xs) ys h = (
    rw (rank_said d (f x) (g x)) (pair_each (λ n. class_rank (f x) < n) xs ys h.0),
    pair_rises xs ys h.1,
  )

  faults_fine : (xs : List A) (ys : List B) → d.subject.number ≡ e.subject.number →
      map f xs ≡ Fault ∷ [] → map f' ys ≡ Fault ∷ []
      → IsOrderedWithoutTwins (both_give_lines xs ys)
  faults_fine [] ys same h k = absurd cc
  faults_fine (x ∷ []) [] same h k = absurd cc
  faults_fine (x ∷ []) (y ∷ []) same h k =
      let first : f x ≡ Fault = cc in
      let second : f' y ≡ Fault = cc in
      rw (first, second) (two_faults d e (g x) (g' y) same)
  faults_fine (x ∷ []) (y ∷ y' ∷ ys) same h k = absurd cc
  faults_fine (x ∷ x' ∷ xs) ys same h k = absurd cc

  pair_fine : (xs : List A) (ys : List B) → d.subject.number ≡ e.subject.number
      → LineClassesRise (sayings xs ys) ⊎ ((map f xs ≡ Fault ∷ []) × (map f' ys ≡ Fault ∷ [])) →
      IsOrderedWithoutTwins (both_give_lines xs ys)
  pair_fine xs ys same (inl h) = fine_of _ (pair_rises xs ys h)
  pair_fine xs ys same (inr h) = search (arith, faults_fine)

fine_none : IsOrderedWithoutTwins []
fine_none = fine_of [] tt

abbrev event : (place : ℕ) (subject : MessageKey) (what : EventKind) → Event
event at subject what = record { place = at; subject = subject; what = what }

module _ (R : MessageReader) (laws : IsStreamable R) where
  pair_by : (at : ℕ) (subject : MessageKey) (x : ℕ) (o : Option Kept)
      → IsOrderedWithoutTwins (lines_for R (event at subject (Takes x)) o
      ++ lines_for R (event at subject Closes) (option_map (kept_after_event (Takes x)) o))
  unfolding lines_for lines_of_event octets_of_event
  pair_by at subject x None = fine_none
  pair_by at subject x (Some kept) =
      let xs = kept.octets in
      let phase = kept.phase in
      let all = xs ++ x ∷ [] in
      let number = subject.number in
      let header = subject.header in
      pair_fine (event at subject (Takes x)) (event at subject Closes) (λ r. r.line_class)
      (λ r. r.text) (λ l. l.0) (λ l. l.1)
      (next_lines R phase number header xs x) (R.closes phase number header all) refl
      (both_say _ _ (laws.ordered.ordered phase number header all (suc (length xs)))
      (laws.closing.closed phase number header all)
      (laws.closing.over phase number header xs x)
      (laws.closing.one_rest phase number header xs x))

  pair_fine_at : (K : KeptByNumber) (at : ℕ) (subject : MessageKey) (x : ℕ) →
      IsOrderedWithoutTwins (all_lines R K (event at subject (Takes x) ∷ event at subject Closes
      ∷ []))
  unfolding all_lines kept_with
  pair_fine_at K at subject x =
      rw (eq-eqb subject.number subject.number refl) (search (arith, append-nil, pair_by))

  takes_alone : (K : KeptByNumber) (at : ℕ) (subject : MessageKey) (x : ℕ) →
      IsOrderedWithoutTwins (all_lines R K (event at subject (Takes x) ∷ []))
  unfolding EventsSpan
  takes_alone K at subject x = fine_of _ (always_one R 1 7 (event at subject (Takes x))
      (event_lines_takes R laws.ordered x) K).rises

  -- an octet of a message, and perhaps the close of the message
  takes_then : (K : KeptByNumber) (now : MessageOctet) (x : ℕ) (b : Bool) (es : List Event) →
      (es ≡ [])
      ⊎ (es ≡ own_event now Closes)
      → IsOrderedWithoutTwins (all_lines R K (own_event now (Takes x) ++ (if b then es else [])))
  unfolding own_event
  takes_then K now x false es h = search (arith, takes_alone)
  takes_then K now x true es (inl h) = search (arith, takes_alone)
  takes_then K now x true es (inr h) = search (arith, pair_fine_at)

  passes_then : (K : KeptByNumber) (now : MessageOctet) (o : Option Open) (x : ℕ) (b : Bool)
      (es : List Event)
      → (es ≡ []) ⊎ (es ≡ event_of_open now o Closes) →
      IsOrderedWithoutTwins (all_lines R K (event_of_open now o (Takes x) ++
      (if b then es else [])))
  unfolding event_of_open all_lines
  passes_then K now None x false es h = fine_none
  passes_then K now None x true es (inl h) = rw h fine_none
  passes_then K now None x true es (inr h) = rw h fine_none
  passes_then K now (Some o) x false es h = search (arith, takes_alone)
  passes_then K now (Some o) x true es (inl h) = search (arith, takes_alone)
  passes_then K now (Some o) x true es (inr h) = search (arith, pair_fine_at)

  -- the first octets of a message that begins with its request id
  named_takes : (at : ℕ) (subject : MessageKey) (x : ℕ) (o : Option Kept) →
      begins_with_request_id subject.header ≡ true
      → ((kept : Kept) → o ≡ Some kept → (length kept.octets < 4) × (kept.phase 12 ≡ 12)) →
      RanksRiseWithin 1 1 (lines_for R (event at subject (Takes x)) o)
  unfolding lines_for lines_of_event octets_of_event
  named_takes at subject x None k few = spans_none 1 1
  named_takes at subject x (Some kept) k few =
      let is = few kept refl in
      let short = is.0 in
      let twelve = is.1 in
      let xs = kept.octets in
      let phase = kept.phase in
      let all = xs ++ x ∷ [] in
      let number = subject.number in
      let header = subject.header in
      class_spans 1 1 (event at subject (Takes x)) (λ r. r.line_class) (λ r. r.text)
      (next_lines R phase number header xs x)
      (value_spans (λ r. r.line_class) (next_lines R phase number header xs x)
      (laws.ordered.ordered phase number header all (suc (length xs)))
      (each_filter (λ r. r.line_class ≡ Value) (λ r. r.at == suc (length xs))
      (R.reads phase number header all)
      (laws.named.named phase number header all (rw twelve refl) k
      (omega (arith, short, length_push xs x)))))

-- ---- All events of an octet.

at_end_owner : (b : OpenState) (m : CutMessage) → ends_short m ≡ false →
    is_any_fragment m.header ≡ false
    → (events_at_end b m ≡ []) ⊎ (events_at_end b m ≡ own_event (last_octet_of m) Closes)
unfolding message_end_events
at_end_owner b m short f = search (arith)

at_end_past : (b : OpenState) (m : CutMessage) → ends_short m ≡ false →
    is_any_fragment m.header ≡ true
    → (events_at_end b m ≡ []) ⊎ (events_at_end b m
    ≡ event_of_open (last_octet_of m) (opener_of b m) Closes)
unfolding message_end_events
at_end_past b m short f = search (arith)

pub not_past : (m : CutMessage) → length m.payload ≤ lookup_offset m.header →
    has_joined_octets m ≡ false
unfolding has_joined_octets
not_past m h = search (arith, and_right, le-ltb)

no_name : (most : ℕ) (b : OpenState) (m : CutMessage) → acts_on_open m.header ≡ false →
    events_at_name most b m ≡ []
unfolding naming_events
no_name most b m h = search (arith, unplaced)

-- a message that doesn't begin with its request id has no place after the octets of its header
unnamed_past : (most : ℕ) (b : OpenState) (m : CutMessage) → 0 < length m.payload →
    begins_with_request_id m.header ≡ false
    → (if length m.payload == lookup_offset m.header then events_at_name most b m else []) ≡ []
unnamed_past most b m some h = go (is_fragmented_1_1 m.header) (acts_on_open m.header) refl refl
  where
    go : (c d : Bool) → is_fragmented_1_1 m.header ≡ c → acts_on_open m.header ≡ d
        → (if length m.payload == lookup_offset m.header then events_at_name most b m else [])
        ≡ []
    go true d old e = search (arith, named_old, ne_eqb)
    go false true old e = absurd (let no = placed_named m.header e old in cc)
    go false false old e = search (arith, no_name)

-- and if it is a Fragment, it is one of 1.1
unnamed_old : (h : List ℕ) → begins_with_request_id h ≡ false → is_any_fragment h ≡ true →
    is_fragmented_1_1 h ≡ true
unnamed_old h n f = go (is_fragmented_1_1 h) refl
  where
    go : (b : Bool) → is_fragmented_1_1 h ≡ b → is_fragmented_1_1 h ≡ true
    go true old = old
    go false old = absurd (let no = placed_named h (any_placed h f) old in cc)

-- a message isn't too short if it has no request id, or if it has at least 4 octets
not_short : (m : CutMessage) → (begins_with_request_id m.header ≡ false) ⊎ (4 ≤ size m.header) →
    ends_short m ≡ false
unfolding is_too_short_for_id
not_short m (inl h) = search (arith, unnamed, and_right)
not_short m (inr h) = search (arith, le-ltb)

-- the last octet of a header
short_begins : (R : MessageReader) (m : CutMessage) → ends_short m ≡ true →
    EventsSpan R 0 0 (events_at_header m)
unfolding header_events own_event is_too_short_for_id
short_begins R m short =
    let named : begins_with_request_id m.header ≡ true =
    rw ((and_parts (nat_lt (size m.header) 4) (is_opener_1_2 m.header || is_fragment_1_2 m.header)
    short).1) refl in
    rw (named_accepted m.header named) (always_own R 0 0 (last_octet_of m) Begins
    (event_lines_begins R))

old_begins : (R : MessageReader) (m : CutMessage) → is_fragmented_1_1 m.header ≡ true →
    EventsSpan R 0 0 (events_at_header m)
unfolding header_events own_event
old_begins R m old =
    rw (old_accepted m.header old) (always_own R 0 0 (last_octet_of m) Begins
    (event_lines_begins R))

module _ (R : Rules) (laws : IsStreamable R.reading) (K : KeptByNumber) (b : OpenState)
    (m : CutMessage) where
  abbrev x : ℕ
  x = (last_octet_of m).octet

  -- the events at the message's end, if this is its last octet
  abbrev close : List Event
  close = if length m.payload == size m.header then events_at_end b m else []

  abbrev IsFine : Type 0
  IsFine = IsOrderedWithoutTwins (all_lines R.reading K (events_of_octet R.most b m))

  own_named : begins_with_request_id m.header ≡ true → 0 < length m.payload → length m.payload ≤ 4 →
      IsBegun K m
      → RanksRiseWithin 1 1 (all_lines R.reading K (own_event (last_octet_of m) (Takes x)))
  unfolding own_event all_lines
  own_named k some short begun =
      rw append-nil (named_takes R.reading laws (last_octet_of m).place (last_octet_of m).subject x
      (K m.number) k
      (λ kept is. let few = begun some short kept is in
      (omega (arith, short, few.0), few.1)))

  -- an octet of a message that does not begin with its request id, or one after the request id
  plain_octet : 0 < length m.payload → (begins_with_request_id m.header ≡ false) ⊎
      (4 < length m.payload) →
      length m.payload ≤ size m.header → IsFine
  unfolding events_of_octet
  plain_octet some h fits =
      rw (events_of_octet, events_with_key, ne_eqb (length m.payload) 0 (λ e. omega arith), second)
      (go (is_any_fragment m.header) refl)
    where
      second : (if length m.payload == lookup_offset m.header then events_at_name R.most b m
          else []) ≡ []
      second = elim h [
        | inl k ↦ unnamed_past R.most b m some k
        | inr k ↦ search (arith, named_within, ne_eqb)
      ]

      long : ends_short m ≡ false
      long = search (arith, not_short)

      go : (is : Bool) → is_any_fragment m.header ≡ is →
          IsOrderedWithoutTwins (all_lines R.reading K (events_at_octet b m ++ close))
      go false f = unfold payload_events has_joined_octets in
          rw (f) (takes_then R.reading laws K (last_octet_of m) x
          (length m.payload == size m.header)
          (events_at_end b m) (at_end_owner b m long f))
      go true f = unfold payload_events has_joined_octets in
          let past : lookup_offset m.header < length m.payload = elim h [
            | inl k ↦ omega (arith, named_old m.header (unnamed_old m.header k f))
            | inr k ↦ omega (arith, named_within m.header)
          ] in
          rw (f, lt-ltb (lookup_offset m.header) (length m.payload) past)
          (passes_then R.reading laws K (last_octet_of m) (opener_of b m) x
          (length m.payload == size m.header) (events_at_end b m)
          (at_end_past b m long f))

  -- an octet of a request id
  named_octet : 0 < length m.payload → begins_with_request_id m.header ≡ true →
      length m.payload ≤ 4 →
      length m.payload ≤ size m.header
      → IsBegun K m → IsFine
  unfolding events_of_octet payload_events has_joined_octets
  named_octet some h short fits begun =
      rw (
        events_of_octet,
        events_with_key,
        payload_events,
        ne_eqb (length m.payload) 0 (λ e. omega arith),
        not_past m (omega (arith, named_four m.header (named_not_old m.header h))),
      )
      (fine_of _ (join_spans R.reading K 1 1 3 8 (own_event (last_octet_of m) (Takes x)) _
      (omega arith)
      (omega arith) (omega arith)
      (own_named h some short begun) (always_later R laws.closing b m fits)).rises)

  first_rises : (is : Bool) → ends_short m ≡ is →
      RanksRise (all_lines R.reading K (events_at_header m ++ close))
  unfolding EventsSpan
  first_rises true short =
      (always_join R.reading 0 0 5 8 (events_at_header m) close (omega arith) (omega arith)
      (omega arith) (short_begins R.reading m short)
      (always_if R.reading 5 8 (length m.payload == size m.header) (events_at_end b m) []
      (always_end R.reading laws.closing b m) (always_none R.reading 5 8)) K).rises
  first_rises false long =
      (always_join R.reading 0 5 6 8 (events_at_header m) close (omega arith) (omega arith)
      (omega arith) (always_header R.reading (last_octet_of m))
      (always_if R.reading 6 8 (length m.payload == size m.header) (events_at_end b m) []
      (always_close R.reading laws.closing b m long) (always_none R.reading 6 8))
      K).rises

  -- the last octet of a header of 1.1, with which the message has its place
  old_rises : length m.payload ≡ 0 → is_fragmented_1_1 m.header ≡ true →
      RanksRise (all_lines R.reading K (events_at_header m
      ++ ((if length m.payload == lookup_offset m.header then events_at_name R.most b m else [])
      ++ close)))
  unfolding EventsSpan
  old_rises none old =
      (always_join R.reading 0 0 3 8 (events_at_header m) _ (omega arith) (omega arith)
      (omega arith) (old_begins R.reading m old)
      (always_later R laws.closing b m (omega (arith, none))) K).rises

  first_by : length m.payload ≡ 0 → (is : Bool) → is_fragmented_1_1 m.header ≡ is → IsFine
  unfolding events_of_octet
  first_by none true old =
      rw (events_of_octet, events_with_key, eq-eqb (length m.payload) 0 none)
      (fine_of _ (old_rises none old))
  first_by none false old =
      let later : (length m.payload == lookup_offset m.header) ≡ false =
      ne_eqb _ _ (λ e. omega (arith, none, e, named_four m.header old)) in
      rw (events_of_octet, events_with_key, eq-eqb (length m.payload) 0 none, later)
      (fine_of _ (first_rises (ends_short m) refl))

  first_octet : length m.payload ≡ 0 → IsFine
  first_octet none = first_by none (is_fragmented_1_1 m.header) refl

  -- The lines of an octet are in order, and no two of those that are written have the same class.
  pub events_of_octet_fine : length m.payload ≤ size m.header →
      (begins_with_request_id m.header ≡ true → IsBegun K m) →
      IsOrderedWithoutTwins (all_lines R.reading K (events_of_octet R.most b m))
  events_of_octet_fine fits begun = search (
    arith,
    cases_eq,
    first_octet,
    cases_lt,
    plain_octet,
    named_octet,
  )
