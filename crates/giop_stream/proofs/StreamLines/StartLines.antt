-- How many start lines an octet has: the last octet of a header has one, and all others have none.
use Rattle.std.proofs.Common.{◌≡◌, ℕ, ◌+◌, ◌<◌, true, false, List, [], ◌∷◌, ◌++◌, length, refl, Option, Some, None, arith, length-append}
use Rattle.std.specs.Prelude.{◌==◌, if◌then◌else◌, ◌||◌}
use Rattle.std.specs.List.{filter, AllByRecursion as Each}
use Rattle.std.proofs.lemmas.Bool.{ne_eqb, eq-eqb}
use Rattle.std.proofs.lemmas.List.Elements.{filter-append}
use Rattle.giop_stream.specs.declared.fault.FramingFault.{FramingFault}
use Rattle.giop_message.specs.Headers.{size}
use Rattle.giop_stream.specs.Rules.{Rules}
use Rattle.giop_stream.specs.Framing.{CutMessage}
use Rattle.giop_stream.specs.Kinds.{lookup_offset, header_fault}
use Rattle.giop_stream.specs.Events.{EventKind, Begins, Takes, Opens, Seams, Closes, Event, OpenState, Open, message_key, place, key, own_event, event_of_open, opener_of, fault_events, events_at_name, events_at_end, events_of_octet, last_octet_of, header_events, payload_events, open_message_1_1, MessageOctet}
use Rattle.giop_message.specs.MessageReader.{LineClass, MessageReader}
use Rattle.giop_stream.specs.Lines.{Start, Started, Said, StreamLine, has_class, line, Kept, lines_of_event, classes, by_class, is_last_line_of, up_to_last_line}
use Rattle.giop_stream.specs.Stream.{is_start, start_count}
use Rattle.giop_stream.specs.OpenSlots.{KeptByNumber}
use Rattle.giop_stream.specs.Effects.{lines_for, kept_with}
use Rattle.giop_stream.proofs.StreamLines.EventsTogether.{all_lines, sorted_lines}
use Rattle.giop_stream.proofs.Events.EventInduction.{IsNeitherBeginNorTake, of_later, either}
use Rattle.giop_stream.proofs.Lists.{each_append, each_map, filter_drops, each_weaker}
use Rattle.giop_stream.proofs.StreamLines.LinesOfOctet.{classes_each, standing_each}

IsNoStartLine : StreamLine → Type 0
IsNoStartLine l = is_start l.content ≡ false

none_count : (ls : List StreamLine) → Each IsNoStartLine ls → start_count ls ≡ 0
unfolding start_count IsNoStartLine
none_count ls h = search (arith, filter_drops)

pub start_append : (xs ys : List StreamLine) → start_count (xs ++ ys) ≡ start_count xs +
    start_count ys
unfolding start_count
start_append xs ys = search (arith, filter-append, length-append)

-- a line that a reader gives is no start line
said_none : (e : Event) (s : LineClass) (text : List ℕ) → IsNoStartLine (line e (Said s text))
unfolding IsNoStartLine line
said_none e s text = refl

takes_none : (R : MessageReader) (e : Event) (so_far all : Kept) (x : ℕ) →
    Each IsNoStartLine (lines_of_event R e so_far all (Takes x))
unfolding lines_of_event
takes_none R e so_far all x = search (arith, each_map, said_none)

closes_none : (R : MessageReader) (e : Event) (so_far all : Kept) →
    Each IsNoStartLine (lines_of_event R e so_far all Closes)
unfolding lines_of_event
closes_none R e so_far all = search (arith, each_map, said_none)

GivesNoStartLine : Event → Type 0
GivesNoStartLine e = (R : MessageReader) (so_far all : Kept) →
    Each IsNoStartLine (lines_of_event R e so_far all e.what)

kept_none : (R : MessageReader) (e : Event) (o : Option Kept) → GivesNoStartLine e →
    Each IsNoStartLine (lines_for R e o)
unfolding lines_for GivesNoStartLine
kept_none R e None h = tt
kept_none R e (Some kept) h = search (arith)

all_lines_none : (R : MessageReader) (K : KeptByNumber) (es : List Event) →
    Each GivesNoStartLine es →
    Each IsNoStartLine (all_lines R K es)
unfolding all_lines
all_lines_none R K [] h = tt
all_lines_none R K (e ∷ es) h =
    each_append IsNoStartLine (lines_for R e (K e.subject.number)) (all_lines R (kept_with K e) es)
    (kept_none R e (K e.subject.number) h.0) (all_lines_none R (kept_with K e) es h.1)

-- ---- All events except those at a header's last octet have no start line.

-- an event of this kind has no start line, whatever the message
KindGivesNoStartLine : EventKind → Type 0
KindGivesNoStartLine what = (R : MessageReader) (e : Event) (so_far all : Kept) →
    Each IsNoStartLine (lines_of_event R e so_far all what)

quiet_own : (now : MessageOctet) (what : EventKind) → KindGivesNoStartLine what →
    Each GivesNoStartLine (own_event now what)
unfolding own_event GivesNoStartLine KindGivesNoStartLine
quiet_own now what h = search (arith)

quiet_about : (now : MessageOctet) (o : Option Open) (what : EventKind) →
    KindGivesNoStartLine what →
    Each GivesNoStartLine (event_of_open now o what)
unfolding event_of_open GivesNoStartLine KindGivesNoStartLine
quiet_about now None what h = tt
quiet_about now (Some o) what h = search (arith)

calm_takes : (x : ℕ) → KindGivesNoStartLine (Takes x)
unfolding KindGivesNoStartLine
calm_takes x R e so_far all = takes_none R e so_far all x

calm : (what : EventKind) → IsNeitherBeginNorTake what → KindGivesNoStartLine what
unfolding KindGivesNoStartLine lines_of_event IsNoStartLine line
calm Begins h = absurd h
calm (Takes x) h = absurd h
calm (Opens key) h = λ R e so_far all. tt
calm Seams h = λ R e so_far all. tt
calm Closes h = search (arith, closes_none)
calm _ h = λ R e so_far all. (refl, tt)

quiet_faulted : (now : MessageOctet) (w : Option FramingFault) →
    Each GivesNoStartLine (fault_events now w)
quiet_faulted now None = tt
quiet_faulted now (Some fault) = search (arith, quiet_own, calm)

quiet_octet : (now : MessageOctet) (other : Option Open) →
    Each GivesNoStartLine (payload_events now other)
unfolding payload_events
quiet_octet now other = search (arith, either, quiet_about, calm_takes, quiet_own)

-- the events of an octet after its first part
later_part : (most : ℕ) → OpenState → CutMessage → List Event
later_part most b m =
    (if length m.payload == lookup_offset m.header then events_at_name most b m else [])
    ++ (if length m.payload == size m.header then events_at_end b m else [])

quiet_later : (most : ℕ) (b : OpenState) (m : CutMessage) →
    Each GivesNoStartLine (later_part most b m)
unfolding later_part
quiet_later most b m =
    of_later most (Each GivesNoStartLine) (record {
      none = tt;
      both =
          each_append GivesNoStartLine;
    }) b
    (last_octet_of m) (key m) (opener_of b m) (record {
      mine = λ what later. quiet_own (last_octet_of m) what (calm what later);
      theirs = λ what later. quiet_about (last_octet_of m) (opener_of b m) what (calm what later);
      waiting = λ what later. quiet_about (last_octet_of m) (open_message_1_1 b) what
          (calm what later);
    })

pub none_later : (R : Rules) (K : KeptByNumber) (b : OpenState) (m : CutMessage) →
    0 < length m.payload → start_count (sorted_lines R.reading K
    (events_of_octet R.most b m)) ≡ 0
unfolding sorted_lines by_class events_of_octet later_part
none_later R K b m h = search (
  arith,
  each_append,
  quiet_octet,
  quiet_later,
  all_lines,
  all_lines_none,
  ne_eqb,
  none_count,
  standing_each,
  classes_each,
)

-- lines without a start line have none of the class Start
no_start_class : (ls : List StreamLine) → Each IsNoStartLine ls → filter (has_class Start) ls ≡ []
unfolding IsNoStartLine
no_start_class ls h = search (arith, filter_drops, each_weaker)

start_first : (l : StreamLine) (header : List ℕ) (ls : List StreamLine) →
    l.content ≡ Started header →
    Each IsNoStartLine ls → by_class (l ∷ ls) ≡ l ∷ by_class ls
unfolding by_class classes
start_first l header ls e h = search (arith, no_start_class)

begun : (R : MessageReader) (K : KeptByNumber) (m : CutMessage) (e : Event) (kept : Kept)
    (rest : List Event) → e.subject ≡ message_key m
    → e.what ≡ Begins → K m.number ≡ Some kept →
    all_lines R K (e ∷ rest) ≡ line e (Started m.header) ∷ all_lines R
    (kept_with K e) rest
unfolding all_lines lines_for lines_of_event
begun R K m e kept rest w is k = rw (w, is, k) refl

first_start : (e : Event) (header : List ℕ) → is_start (line e (Started header)).content ≡ true
unfolding line
first_start e header = refl

by_class_each : (ls : List StreamLine) → Each IsNoStartLine ls → Each IsNoStartLine (by_class ls)
unfolding by_class
by_class_each ls h = search (arith, classes_each)

one_counted : (l : StreamLine) (ls : List StreamLine) → is_start l.content ≡ true
    → Each IsNoStartLine (up_to_last_line (λ i. false || is_last_line_of i l) ls) →
    start_count (up_to_last_line (λ i. false) (l ∷ ls)) ≡ 1
unfolding up_to_last_line start_count
one_counted l ls k h = search (arith, none_count)

first_of_all : (e : Event) (header : List ℕ) (more : List StreamLine) → Each IsNoStartLine more
    → by_class (line e (Started header) ∷ more) ≡ line e (Started header) ∷ by_class more
unfolding line
first_of_all e header more h = search (arith, start_first)

pub one_first : (R : Rules) (K : KeptByNumber) (b : OpenState) (m : CutMessage)
    (kept : Kept) → m.payload ≡ []
    → K m.number ≡ Some kept → start_count (sorted_lines R.reading K
    (events_of_octet R.most b m)) ≡ 1
unfolding sorted_lines events_of_octet header_events own_event later_part
one_first R K b m kept payload_octet known =
    let e : Event = record { place = place m; subject = message_key m; what = Begins } in
    let rest : List Event = fault_events (last_octet_of m) (header_fault m.header)
    ++ later_part R.most b m in
    let more : List StreamLine = all_lines R.reading (kept_with K e) rest in
    let none : Each IsNoStartLine more =
    all_lines_none R.reading (kept_with K e) rest
    (each_append GivesNoStartLine (fault_events (last_octet_of m) (header_fault m.header))
    (later_part R.most b m)
    (quiet_faulted (last_octet_of m) (header_fault m.header)) (quiet_later R.most b m)) in
    let empty : length m.payload ≡ 0 = rw payload_octet refl in
    let lines_of_messages : all_lines R.reading K (e ∷ rest) ≡ line e (Started m.header) ∷ more =
    begun R.reading K m e kept rest refl refl known in
    let calm : Each IsNoStartLine (up_to_last_line
    (λ i. false || is_last_line_of i (line e (Started m.header))) (by_class more)) =
    standing_each IsNoStartLine (λ i. false || is_last_line_of i (line e (Started m.header)))
    (by_class more)
    (by_class_each more none) in
    rw (eq-eqb (length m.payload) 0 empty, lines_of_messages, first_of_all e m.header more none)
    (one_counted (line e (Started m.header)) (by_class more) (first_start e m.header) calm)
