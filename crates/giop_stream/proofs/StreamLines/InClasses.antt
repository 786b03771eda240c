-- Between which classes the lines are: those of each kind of event, those of lists of events, and
-- those of each part of an octet.
use Rattle.std.proofs.Common.{◌≡◌, ℕ, suc, ◌<◌, ◌≤◌, Bool, true, false, List, [], ◌∷◌, ◌++◌, length, refl, sym, append_assoc, Option, Some, None, arith}
use Rattle.std.specs.Prelude.{◌==◌, if◌then◌else◌}
use Rattle.std.specs.List.{filter}
use Rattle.std.proofs.lemmas.Bool.{eqb-true}
use Rattle.std.proofs.lemmas.List.{append-nil}
use Rattle.giop_stream.specs.declared.fault.FramingFault.{FramingFault}
use Rattle.giop_stream.specs.declared.fault.FramingFault.TheVariants.{FragmentOrder}
use Rattle.giop_message.specs.Headers.{order, size}
use Rattle.giop_stream.specs.Rules.{Rules}
use Rattle.giop_stream.specs.Framing.{CutMessage}
use Rattle.giop_message.specs.MessageReader.{MessageReader, GivesLinesInOrder, ClosesOnce}
use Rattle.giop_stream.specs.Kinds.{is_fragmented_1_1, is_too_short_for_id, lookup_offset, may_be_cancelled, header_fault}
use Rattle.giop_stream.specs.Events.{EventKind, Begins, Takes, Opens, Continues, Seams, Cancelled, Faults, Closes, Event, OpenState, Open, own_event, event_of_open, key, opener_of, fault_events, opening_fault, open_events_unless, opening_events, same_order, order_fault_events, seam_events, no_open_fault, fragment_events, open_to_cancel, cancel_event, cancel_request_events, events_at_name, events_at_end, last_octet_of, header_events, naming_events, message_end_events, MessageOctet}
use Rattle.giop_stream.specs.Lines.{line, Kept, lines_of_event}
use Rattle.giop_stream.specs.OpenSlots.{KeptByNumber}
use Rattle.giop_stream.specs.Effects.{lines_for, kept_with}
use Rattle.giop_stream.proofs.Events.MessageKinds.{long_enough}
use Rattle.giop_stream.proofs.StreamLines.EventsTogether.{all_lines}
use Rattle.giop_stream.proofs.StreamLines.Spans.{RanksRiseWithin, spans_none, spans_wider, spans_join, spans_one, class_spans, turn_spans, close_spans}

-- ---- The lines of one event.

unfoldable pub KindSpans : (R : MessageReader) (lo hi : ℕ) (what : EventKind) → Type 0
KindSpans R lo hi what = (e : Event) (so_far all : Kept) →
    RanksRiseWithin lo hi (lines_of_event R e so_far all what)

pub event_lines_begins : (R : MessageReader) → KindSpans R 0 0 Begins
unfolding KindSpans lines_of_event line
event_lines_begins R e so_far all = spans_one 0 _ refl

event_lines_opens : (R : MessageReader) (key : Option ℕ) (lo hi : ℕ) → KindSpans R lo hi (Opens key)
unfolding KindSpans lines_of_event
event_lines_opens R key lo hi e so_far all = spans_none lo hi

event_lines_continues : (R : MessageReader) (i : ℕ) → KindSpans R 3 3 (Continues i)
unfolding KindSpans lines_of_event line
event_lines_continues R i e so_far all = spans_one 3 _ refl

event_lines_seams : (R : MessageReader) (lo hi : ℕ) → KindSpans R lo hi Seams
unfolding KindSpans lines_of_event
event_lines_seams R lo hi e so_far all = spans_none lo hi

event_lines_cancelled : (R : MessageReader) (j : ℕ) → KindSpans R 4 4 (Cancelled j)
unfolding KindSpans lines_of_event line
event_lines_cancelled R j e so_far all = spans_one 4 _ refl

event_lines_faulted : (R : MessageReader) (fault : FramingFault) → KindSpans R 5 5 (Faults fault)
unfolding KindSpans lines_of_event line
event_lines_faulted R fault e so_far all = spans_one 5 _ refl

pub event_lines_takes : (R : MessageReader) → GivesLinesInOrder R → (x : ℕ) →
    KindSpans R 1 7 (Takes x)
unfolding KindSpans lines_of_event
event_lines_takes R ordered x e so_far all =
    class_spans 1 7 e (λ r. r.line_class) (λ r. r.text)
    (filter (λ r. r.at == suc (length so_far.octets))
    (R.reads all.phase e.subject.number e.subject.header all.octets))
    (turn_spans _ (ordered.ordered all.phase e.subject.number e.subject.header all.octets
    (suc (length so_far.octets))))

event_lines_closes : (R : MessageReader) → ClosesOnce R → KindSpans R 6 8 Closes
unfolding KindSpans lines_of_event
event_lines_closes R closing e so_far all =
    class_spans 6 8 e (λ l. l.0) (λ l. l.1)
    (R.closes so_far.phase e.subject.number e.subject.header so_far.octets)
    (close_spans _
    (closing.closed so_far.phase e.subject.number e.subject.header so_far.octets))

-- ---- The lines of events, whatever is kept.

unfoldable pub EventsSpan : (R : MessageReader) (lo hi : ℕ) (es : List Event) → Type 0
EventsSpan R lo hi es = (K : KeptByNumber) → RanksRiseWithin lo hi (all_lines R K es)

all_lines_join : (R : MessageReader) (K : KeptByNumber) (es fs : List Event) →
    (L : KeptByNumber) × (all_lines R K (es ++ fs) ≡ all_lines R K es ++ all_lines R L fs)
unfolding all_lines
all_lines_join R K [] fs = (K, refl)
all_lines_join R K (e ∷ es) fs =
    let more = all_lines_join R (kept_with K e) es fs in (
      more.0,
      rw more.1 (sym (append_assoc (lines_for R e (K e.subject.number))
          (all_lines R (kept_with K e) es) (all_lines R more.0 fs))),
    )

-- two lists of events, one after the other, if the lines of both rise
pub join_spans : (R : MessageReader) (K : KeptByNumber) (a b c d : ℕ) (es fs : List Event) →
    b < c → a ≤ c → b ≤ d → RanksRiseWithin a b (all_lines R K es) → EventsSpan R c d fs →
    RanksRiseWithin a d (all_lines R K (es ++ fs))
unfolding EventsSpan
join_spans R K a b c d es fs h k i s t = let both = all_lines_join R K es fs in
    rw both.1 (spans_join a b c d (all_lines R K es) (all_lines R both.0 fs) h k i s (t both.0))

pub always_join : (R : MessageReader) (a b c d : ℕ) (es fs : List Event) → b < c → a ≤ c → b ≤ d →
    EventsSpan R a b es → EventsSpan R c d fs → EventsSpan R a d (es ++ fs)
unfolding EventsSpan
always_join R a b c d es fs h k i s t K = search (arith, join_spans)

pub always_none : (R : MessageReader) (lo hi : ℕ) → EventsSpan R lo hi []
unfolding EventsSpan all_lines
always_none R lo hi K = spans_none lo hi

pub always_if : (R : MessageReader) (lo hi : ℕ) (b : Bool) (es fs : List Event) →
    EventsSpan R lo hi es → EventsSpan R lo hi fs → EventsSpan R lo hi (if b then es else fs)
always_if R lo hi true es fs h k = h
always_if R lo hi false es fs h k = k

always_wider : (R : MessageReader) (a b lo hi : ℕ) (es : List Event) → a ≤ lo → hi ≤ b →
    EventsSpan R lo hi es → EventsSpan R a b es
unfolding EventsSpan
always_wider R a b lo hi es h k s K = search (arith, spans_wider, all_lines)

kept_spans : (R : MessageReader) (lo hi : ℕ) (e : Event) (o : Option Kept) →
    KindSpans R lo hi e.what → RanksRiseWithin lo hi (lines_for R e o)
unfolding KindSpans lines_for
kept_spans R lo hi e None h = spans_none lo hi
kept_spans R lo hi e (Some kept) h = search (arith)

pub always_one : (R : MessageReader) (lo hi : ℕ) (e : Event) → KindSpans R lo hi e.what →
    EventsSpan R lo hi (e ∷ [])
unfolding EventsSpan all_lines
always_one R lo hi e h K = search (arith, append-nil, kept_spans)

pub always_own : (R : MessageReader) (lo hi : ℕ) (now : MessageOctet) (what : EventKind) →
    KindSpans R lo hi what → EventsSpan R lo hi (own_event now what)
unfolding own_event
always_own R lo hi now what h = search (arith, always_one)

always_about : (R : MessageReader) (lo hi : ℕ) (now : MessageOctet) (o : Option Open)
    (what : EventKind) →
    KindSpans R lo hi what → EventsSpan R lo hi (event_of_open now o what)
unfolding event_of_open
always_about R lo hi now None what h = always_none R lo hi
always_about R lo hi now (Some o) what h = search (arith, always_one)

-- ---- The parts of an octet.

always_faulted : (R : MessageReader) (now : MessageOctet) (fault : FramingFault) →
    EventsSpan R 5 5 (own_event now (Faults fault))
always_faulted R now fault = search (arith, always_own, event_lines_faulted)

pub always_header : (R : MessageReader) (now : MessageOctet) → EventsSpan R 0 5 (header_events now)
unfolding header_events
always_header R now =
    always_join R 0 0 5 5 (own_event now Begins) (fault_events now
    (header_fault now.subject.header))
    (omega arith) (omega arith) (omega arith)
    (always_own R 0 0 now Begins (event_lines_begins R)) (go (header_fault now.subject.header))
  where
    go : (w : Option FramingFault) → EventsSpan R 5 5 (fault_events now w)
    go None = always_none R 5 5
    go (Some fault) = always_faulted R now fault

-- ---- The octet with which a message has its place among the open ones.

module _ (R : Rules) (now : MessageOctet) where
  faulted : (fault : FramingFault) → EventsSpan R.reading 3 5 (own_event now (Faults fault))
  faulted fault = always_wider R.reading 3 5 5 5 (own_event now (Faults fault)) (omega arith)
      (omega arith) (always_faulted R.reading now fault)

  opens_by : (key : Option ℕ) (why : Option FramingFault) →
      EventsSpan R.reading 3 5 (open_events_unless now key why)
  opens_by key None = always_own R.reading 3 5 now (Opens key) (event_lines_opens R.reading key 3 5)
  opens_by key (Some fault) = faulted fault

  always_opens : (b : OpenState) (key : Option ℕ) (o : Option Open) →
      EventsSpan R.reading 3 5 (opening_events R.most b now key o)
  always_opens b key o = opens_by key (opening_fault R.most b key o)

  always_seams : (o : Open) → EventsSpan R.reading 4 4 (seam_events now o)
  always_seams o =
      always_if R.reading 4 4 (is_fragmented_1_1 now.subject.header) _ []
      (always_about R.reading 4 4 now (Some o) Seams (event_lines_seams R.reading 4 4))
      (always_none R.reading 4 4)

  always_order : (o : Open) → EventsSpan R.reading 5 5 (order_fault_events now o)
  always_order o =
      always_if R.reading 5 5 (same_order (order now.subject.header) (order o.opener.header)) [] _
      (always_none R.reading 5 5)
      (always_about R.reading 5 5 now (Some o) (Faults FragmentOrder)
      (event_lines_faulted R.reading FragmentOrder))

  always_continues : (b : OpenState) (key : Option ℕ) (o : Option Open) →
      EventsSpan R.reading 3 5 (fragment_events b now key o)
  always_continues b key None = faulted (no_open_fault b key)
  always_continues b key (Some o) =
      always_join R.reading 3 3 4 5 (own_event now (Continues o.opener.number))
      (seam_events now o ++ order_fault_events now o) (omega arith) (omega arith) (omega arith)
      (always_own R.reading 3 3 now (Continues o.opener.number)
      (event_lines_continues R.reading o.opener.number))
      (always_join R.reading 4 4 5 5 (seam_events now o) (order_fault_events now o) (omega arith)
      (omega arith)
      (omega arith) (always_seams o) (always_order o))

  cancels_by : (o : Option Open) → EventsSpan R.reading 3 5 (cancel_event now o)
  cancels_by None = always_none R.reading 3 5
  cancels_by (Some o) =
      let gone : List Event = event_of_open now (Some o) (Cancelled now.subject.number) in
      always_if R.reading 3 5 (may_be_cancelled o.opener.header) gone []
      (always_wider R.reading 3 5 4 4 gone (omega arith) (omega arith)
      (always_about R.reading 4 4 now (Some o) (Cancelled now.subject.number)
      (event_lines_cancelled R.reading now.subject.number)))
      (always_none R.reading 3 5)

  always_cancels : (b : OpenState) (key : Option ℕ) (o : Option Open) →
      EventsSpan R.reading 3 5 (cancel_request_events b now key o)
  always_cancels b key o = cancels_by (open_to_cancel b key o)

  always_name : (b : OpenState) (key : Option ℕ) (o : Option Open) →
      EventsSpan R.reading 3 5 (naming_events R.most b now key o)
  unfolding naming_events
  always_name b key o = search (
    arith,
    always_if,
    always_continues,
    always_opens,
    always_cancels,
    always_none,
  )

-- a message that ends before the request id that it needs
abbrev pub ends_short : (message : CutMessage) → Bool
ends_short m = is_too_short_for_id m.header

-- if a message doesn't end before its request id, the joined message may close
pub always_close : (R : MessageReader) → ClosesOnce R → (b : OpenState) (m : CutMessage) →
    ends_short m ≡ false → EventsSpan R 6 8 (events_at_end b m)
unfolding message_end_events
always_close R closing b m long = search (
  arith,
  always_if,
  always_none,
  always_about,
  event_lines_closes,
  always_own,
)

always_short : (R : MessageReader) (b : OpenState) (m : CutMessage) → ends_short m ≡ true →
    EventsSpan R 5 5 (events_at_end b m)
unfolding message_end_events
always_short R b m short = search (arith, always_faulted)

pub always_end : (R : MessageReader) → ClosesOnce R → (b : OpenState) (m : CutMessage) →
    EventsSpan R 5 8 (events_at_end b m)
always_end R closing b m = go (ends_short m) refl
  where
    go : (is : Bool) → ends_short m ≡ is → EventsSpan R 5 8 (events_at_end b m)
    go true short = always_wider R 5 8 5 5 (events_at_end b m) (omega arith) (omega arith)
        (always_short R b m short)
    go false long = always_wider R 5 8 6 8 (events_at_end b m) (omega arith) (omega arith)
        (always_close R closing b m long)

-- the parts after the first one
pub always_later : (R : Rules) → ClosesOnce R.reading → (b : OpenState) (m : CutMessage) →
    length m.payload ≤ size m.header
    → EventsSpan R.reading 3 8
    ((if length m.payload == lookup_offset m.header then events_at_name R.most b m
    else []) ++ (if length m.payload == size m.header then events_at_end b m else []))
always_later R closing b m fits = go (length m.payload == lookup_offset m.header) refl
  where
    go : (here : Bool) → (length m.payload == lookup_offset m.header) ≡ here →
        EventsSpan R.reading 3 8 ((if here then events_at_name R.most b m else [])
        ++ (if length m.payload == size m.header then events_at_end b m else []))
    go true e =
        let named = eqb-true (length m.payload) (lookup_offset m.header) e in
        always_join R.reading 3 5 6 8 (events_at_name R.most b m)
        (if length m.payload == size m.header then events_at_end b m else [])
        (omega arith) (omega arith) (omega arith)
        (always_name R (last_octet_of m) b (key m) (opener_of b m))
        (always_if R.reading 6 8 (length m.payload == size m.header) (events_at_end b m) []
        (always_close R.reading closing b m (long_enough m.header (omega arith)))
        (always_none R.reading 6 8))
    go false e =
        always_wider R.reading 3 8 5 8 (if length m.payload == size m.header then events_at_end
        b m else []) (omega arith) (omega arith)
        (always_if R.reading 5 8 (length m.payload == size m.header) (events_at_end b m) []
        (always_end R.reading closing b m) (always_none R.reading 5 8))
