-- If the lines of an octet come in the order of their classes, its events may be taken one after
-- another.
use Rattle.std.proofs.Common.{◌≡◌, ℕ, ◌<◌, ◌≤◌, Bool, true, false, cond, not, List, [], ◌∷◌, ◌++◌, refl, sym, ap, ◌∙◌, Option, None, arith}
use Rattle.std.specs.Prelude.{◌==◌, if◌then◌else◌, ◌||◌, flat_map, option_map}
use Rattle.std.specs.List.{filter, list_any, AllByRecursion as Each}
use Rattle.std.proofs.lemmas.Bool.{ne_eqb, eqb-true}
use Rattle.std.proofs.lemmas.List.Elements.{filter-append}
use Rattle.giop_message.specs.MessageReader.{MessageReader}
use Rattle.giop_stream.specs.Events.{EventKind, Event, ends_joining, open_after_events}
use Rattle.giop_stream.specs.Lines.{Class, Start, rank, class_of, StreamLine, Kept, has_class, classes, by_class, is_last_line_of, up_to_last_line}
use Rattle.giop_stream.specs.OpenSlots.{KeptByNumber, Tracked}
use Rattle.giop_stream.proofs.StreamLines.EventsTogether.{all_lines, sorted_lines, kept_through}
use Rattle.giop_stream.specs.Effects.{kept_after_event, lines_at, tracked_after_event, effects, lines_for, kept_with, kept_unless_ended}
use Rattle.giop_stream.proofs.Lists.{filter_drops, filter_keeps, each_weaker, each_filter, any_append}
use Rattle.giop_stream.proofs.StreamLines.LinesOfOctet.{standing_append, standing_drops, standing_each, event_lines_number}

-- ---- Lines in the order of their classes.

abbrev pub rank_of : (line : StreamLine) → ℕ
rank_of l = rank (class_of l.content)

abbrev pub RanksDoNotFall : (lines : List StreamLine) → Type 0
RanksDoNotFall [] = Unit {0}
RanksDoNotFall (l ∷ ls) = Each (λ k. rank_of l ≤ rank_of k) ls × RanksDoNotFall ls

-- lines whose ranks rise, so that no two have the same class
abbrev pub RanksRise : (lines : List StreamLine) → Type 0
RanksRise [] = Unit {0}
RanksRise (l ∷ ls) = Each (λ k. rank_of l < rank_of k) ls × RanksRise ls

pub rises_ordered : (ls : List StreamLine) → RanksRise ls → RanksDoNotFall ls
rises_ordered [] h = tt
rises_ordered (l ∷ ls) h = search (arith, each_weaker, rises_ordered ls h.1)

rises_if : (b : Bool) (l : StreamLine) (one two : List StreamLine) →
    Each (λ k. rank_of l < rank_of k) two →
    RanksRise one → RanksRise two → RanksRise (if b then one else l ∷ two)
rises_if true l one two h j k = j
rises_if false l one two h j k = (h, k)

pub rises_standing : (over : ℕ → Bool) (ls : List StreamLine) → RanksRise ls →
    RanksRise (up_to_last_line over ls)
unfolding up_to_last_line
rises_standing over [] h = tt
rises_standing over (l ∷ ls) h =
    let later : ℕ → Bool = λ i. over i || is_last_line_of i l in
    rises_if (over l.number) l (up_to_last_line over ls) (up_to_last_line later ls)
    (standing_each (λ k. rank_of l < rank_of k) later ls h.0) (rises_standing over ls h.1)
    (rises_standing later ls h.1)

-- the lines are in order, and no two of those that are written have the same class
pub record IsOrderedWithoutTwins (ls : List StreamLine) : Type 0 where
  pub ordered : RanksDoNotFall ls
  pub rises : RanksRise (up_to_last_line (λ i. false) ls)

pub fine_of : (ls : List StreamLine) → RanksRise ls → IsOrderedWithoutTwins ls
fine_of ls h = search (arith, rises_ordered, rises_standing)

-- the ranks of these classes rise
abbrev Rise : (classes : List Class) → Type 0
Rise [] = Unit {0}
Rise (c ∷ cs) = Each (λ d. rank c < rank d) cs × Rise cs

has_false : (c : Class) (l : StreamLine) → (rank_of l ≡ rank c → ⊥) → has_class c l ≡ false
has_false c l h = ne_eqb (rank_of l) (rank c) h

lower_none : (c : Class) (l : StreamLine) (ls : List StreamLine) → rank c < rank_of l →
    Each (λ k. rank_of l ≤ rank_of k) ls → filter (has_class c) ls ≡ []
lower_none c l ls h k = search (arith, filter_drops, each_weaker, has_false)

higher_none : (cs : List Class) (l : StreamLine) (ls : List StreamLine) →
    Each (λ d. rank_of l < rank d) cs
    → flat_map (λ c. filter (has_class c) (l ∷ ls)) cs ≡ flat_map (λ c. filter (has_class c) ls) cs
higher_none [] l ls h = refl
higher_none (c ∷ cs) l ls h = search (arith, has_false, higher_none cs l ls h.1)

member_rank : (n : ℕ) (c : Class) (cs : List Class) → Each (λ d. rank c < rank d) cs →
    list_any (λ d. n == rank d) cs ≡ true → rank c < n
member_rank n c [] h k = absurd cc
member_rank n c (d ∷ cs) h k = go (n == rank d) refl k (member_rank n c cs h.1)
  where
    go : (b : Bool) → (n == rank d) ≡ b → (b || list_any (λ d. n == rank d) cs) ≡ true →
        (list_any (λ d. n == rank d) cs ≡ true → rank c < n) → rank c < n
    go true e j ih = search (arith, eqb-true)
    go false e j ih = ih j

first_by : (c : Class) (cs : List Class) (l : StreamLine) (ls : List StreamLine) (b : Bool) →
    (rank_of l == rank c) ≡ b
    → Each (λ k. rank_of l ≤ rank_of k) ls → Each (λ d. rank c < rank d) cs
    → (b || list_any (λ d. rank_of l == rank d) cs) ≡ true
    → (list_any (λ d. rank_of l == rank d) cs ≡ true →
    flat_map (λ c. filter (has_class c) (l ∷ ls)) cs
    ≡ l ∷ flat_map (λ c. filter (has_class c) ls) cs)
    → cond b (l ∷ filter (has_class c) ls) (filter (has_class c) ls)
    ++ flat_map (λ c. filter (has_class c) (l ∷ ls)) cs
    ≡ l ∷ (filter (has_class c) ls ++ flat_map (λ c. filter (has_class c) ls) cs)
first_by c cs l ls true e h r m ih = search (arith, eqb-true, higher_none, each_weaker)
first_by c cs l ls false e h r m ih =
    let less = member_rank (rank_of l) c cs r m in
    rw (lower_none c l ls less h, ih m) refl

first_stays : (cs : List Class) (l : StreamLine) (ls : List StreamLine) → Rise cs →
    Each (λ k. rank_of l ≤ rank_of k) ls → list_any (λ d. rank_of l == rank d) cs ≡ true
    → flat_map (λ c. filter (has_class c) (l ∷ ls)) cs
    ≡ l ∷ flat_map (λ c. filter (has_class c) ls) cs
first_stays [] l ls r h m = absurd cc
first_stays (c ∷ cs) l ls r h m = first_by c cs l ls (rank_of l == rank c) refl h r.0 m
    (λ k. first_stays cs l ls r.1 h k)

a_class : (c : Class) → list_any (λ d. rank c == rank d) classes ≡ true
unfolding classes
a_class Start = refl
a_class _ = refl

classes_rise : Rise classes
unfolding classes
classes_rise = omega arith

no_lines : (cs : List Class) → flat_map (λ c. filter (has_class c) []) cs ≡ []
no_lines [] = refl
no_lines (c ∷ cs) = no_lines cs

-- lines in the order of their classes stay as they are when they are sorted
pub ordered_stays : (ls : List StreamLine) → RanksDoNotFall ls → by_class ls ≡ ls
unfolding by_class
ordered_stays [] h = no_lines classes
ordered_stays (l ∷ ls) h = first_stays classes l ls classes_rise h.0 (a_class (class_of l.content))
    ∙ ap (λ (ks : List StreamLine). l ∷ ks) (ordered_stays ls h.1)

pub ordered_right : (xs ys : List StreamLine) → RanksDoNotFall (xs ++ ys) → RanksDoNotFall ys
ordered_right [] ys h = h
ordered_right (x ∷ xs) ys h = ordered_right xs ys h.1

filtered_by : (q : StreamLine → Bool) (l : StreamLine) (ls : List StreamLine) (b : Bool) →
    Each (λ k. rank_of l ≤ rank_of k) ls
    → RanksDoNotFall (filter q ls) → RanksDoNotFall (cond b (l ∷ filter q ls) (filter q ls))
filtered_by q l ls true h k = search (arith, each_filter)
filtered_by q l ls false h k = k

ordered_filter : (q : StreamLine → Bool) (ls : List StreamLine) → RanksDoNotFall ls →
    RanksDoNotFall (filter q ls)
ordered_filter q [] h = tt
ordered_filter q (l ∷ ls) h = search (arith, filtered_by, ordered_filter q ls h.1)

-- ---- The lines of the later events, from what is kept after the first ones.

-- nothing is kept of messages that are over
restricted : (ℕ → Bool) → KeptByNumber → KeptByNumber
restricted over K i = if over i then None else K i

kept_filter : (R : MessageReader) (over : ℕ → Bool) (e : Event) (o : Option Kept) (b : Bool) →
    over e.subject.number ≡ b
    → filter (λ l. not (over l.number)) (lines_for R e o) ≡ lines_for R e (if b then None else o)
unfolding lines_for
kept_filter R over e o true h =
    filter_drops (λ l. not (over l.number)) (lines_for R e o)
    (each_weaker (λ l. over l.number ≡ true) (λ l. not (over l.number) ≡ false) (λ l k. rw k refl)
    (lines_for R e o)
    (event_lines_number R (λ n. over n ≡ true) e o h))
kept_filter R over e o false h =
    filter_keeps (λ l. not (over l.number)) (lines_for R e o)
    (each_weaker (λ l. over l.number ≡ false) (λ l. not (over l.number) ≡ true) (λ l k. rw k refl)
    (lines_for R e o)
    (event_lines_number R (λ n. over n ≡ false) e o h))

restricted_by : (a b : Bool) (o : Option Kept) (what : EventKind)
    → (if a then None else (if b then option_map (kept_after_event what) o else o))
    ≡ (if b then option_map (kept_after_event what) (if a then None else o) else
    (if a then None else o))
restricted_by true true o what = refl
restricted_by true false o what = refl
restricted_by false true o what = refl
restricted_by false false o what = refl

restricted_with : (over : ℕ → Bool) (K : KeptByNumber) (e : Event) (i : ℕ) →
    restricted over (kept_with K e) i ≡ kept_with (restricted over K) e i
unfolding restricted kept_with
restricted_with over K e i = restricted_by (over i) (e.subject.number == i) (K i) e.what

restricted_through : (over : ℕ → Bool) (K : KeptByNumber) (es : List Event) (i : ℕ) →
    kept_through (restricted over K) es i ≡ restricted over (kept_through K es) i
unfolding kept_through
restricted_through over K [] i = refl
restricted_through over K (e ∷ es) i =
    ap (λ (known : KeptByNumber). kept_through known es i)
    (λ j k. sym (restricted_with over K e k) j)
    ∙ restricted_through over (kept_with K e) es i

same_all_lines : (R : MessageReader) (f g : KeptByNumber) (es : List Event) →
    ((i : ℕ) → f i ≡ g i) → all_lines R f es ≡ all_lines R g es
same_all_lines R f g es h = search (arith, all_lines)

all_lines_filter : (R : MessageReader) (over : ℕ → Bool) (K : KeptByNumber) (es : List Event)
    → filter (λ l. not (over l.number)) (all_lines R K es) ≡ all_lines R (restricted over K) es
unfolding all_lines restricted
all_lines_filter R over K [] = refl
all_lines_filter R over K (e ∷ es) =
    filter-append (λ l. not (over l.number)) (lines_for R e (K e.subject.number))
    (all_lines R (kept_with K e) es)
    ∙ rw (
      kept_filter R over e (K e.subject.number) (over e.subject.number) refl,
      all_lines_filter R over (kept_with K e) es,
    )
    (ap (λ (ls : List StreamLine). lines_for R e
    (if over e.subject.number then None else K e.subject.number) ++ ls)
    (same_all_lines R (λ i. if over i then None else kept_with K e i)
    (kept_with (λ i. if over i then None else K i) e) es
    (λ i. restricted_with over K e i)))

-- ---- The effects, one event after another.

pub record AreEffects (R : MessageReader) (c : Tracked) (es : List Event) : Type 0 where
  pub lines : sorted_lines R c.known es ≡ (effects R c es).lines
  pub still_open : open_after_events c.still_open es ≡ (effects R c es).tracked.still_open
  pub mixed : (c.mixed || list_any ends_joining es) ≡ (effects R c es).tracked.mixed
  pub known : (i : ℕ) → kept_unless_ended (kept_through c.known es) (sorted_lines R c.known es) i
      ≡ (effects R c es).tracked.known i

kept_by : (a b : Bool) (o : Option Kept)
    → (if a || b then None else o) ≡ (if b then None else (if a then None else o))
kept_by true true o = refl
kept_by true false o = refl
kept_by false true o = refl
kept_by false false o = refl

or_or : (a b c : Bool) → (a || (b || c)) ≡ ((a || b) || c)
or_or true b c = refl
or_or false b c = refl

or_none : (b : Bool) → b ≡ (b || false)
or_none true = refl
or_none false = refl

-- the lines of the first event, and then those of the others, from what is kept after it
split_lines : (R : MessageReader) (K : KeptByNumber) (e : Event) (es : List Event) →
    RanksDoNotFall (all_lines R K (e ∷ es))
    → sorted_lines R K (e ∷ es) ≡ lines_at R K e
    ++ sorted_lines R (kept_unless_ended (kept_with K e) (lines_at R K e)) es
unfolding sorted_lines lines_at all_lines kept_unless_ended restricted
split_lines R K e es h =
    let A = lines_for R e (K e.subject.number) in
    let B = all_lines R (kept_with K e) es in
    let over : ℕ → Bool = λ i. list_any (is_last_line_of i) (up_to_last_line (λ i. false) A) in
    let later : all_lines R (λ i. if over i then None else kept_with K e i) es
    ≡ filter (λ l. not (over l.number)) B =
    sym (all_lines_filter R over (kept_with K e) es) in
    let sorted : by_class (filter (λ l. not (over l.number)) B)
    ≡ filter (λ l. not (over l.number)) B =
    ordered_stays (filter (λ l. not (over l.number)) B)
    (ordered_filter (λ l. not (over l.number)) B (ordered_right A B h)) in
    rw (ordered_stays (A ++ B) h, later, sorted)
    (standing_append (λ i. false) A B ∙ ap (λ (ls : List StreamLine). up_to_last_line (λ i. false) A
    ++ ls)
    (standing_drops over over (λ i. false) B (λ i. or_none (over i))))

later_ordered : (R : MessageReader) (K : KeptByNumber) (e : Event) (es : List Event) →
    RanksDoNotFall (all_lines R K (e ∷ es))
    → RanksDoNotFall (all_lines R (kept_unless_ended (kept_with K e) (lines_at R K e)) es)
unfolding all_lines kept_unless_ended restricted
later_ordered R K e es h =
    let over : ℕ → Bool = λ i. list_any (is_last_line_of i) (lines_at R K e) in
    rw (← all_lines_filter R over (kept_with K e) es)
    (ordered_filter (λ l. not (over l.number)) (all_lines R (kept_with K e) es)
    (ordered_right (lines_for R e (K e.subject.number)) (all_lines R (kept_with K e) es) h))

nothing_now : (R : MessageReader) (K : KeptByNumber) → sorted_lines R K [] ≡ []
unfolding sorted_lines all_lines up_to_last_line
nothing_now R K = rw (ordered_stays [] tt) refl

nothing_else : (K : KeptByNumber) (i : ℕ) → kept_unless_ended (kept_through K []) [] i ≡ K i
unfolding kept_unless_ended kept_through
nothing_else K i = refl

pub are_effects : (R : MessageReader) (c : Tracked) (es : List Event) →
    RanksDoNotFall (all_lines R c.known es) → AreEffects R c es
unfolding effects open_after_events tracked_after_event lines_at restricted
are_effects R c [] h = search (arith, nothing_now, nothing_else, or_none)
are_effects R c (e ∷ es) h =
    let now = tracked_after_event R c e in
    let ih = are_effects R now es (later_ordered R c.known e es h) in
    let split = split_lines R c.known e es h in
    record {
      lines = split ∙ rw ih.lines refl;
      still_open = ih.still_open;
      mixed = or_or c.mixed (ends_joining e) (list_any ends_joining es) ∙ ih.mixed;
      known =
          λ i. rw split (one i) ∙ ih.known i;
    }
  where
    first : List StreamLine
    first = lines_at R c.known e

    over : ℕ → Bool
    over i = list_any (is_last_line_of i) first

    later : List StreamLine
    later = sorted_lines R (kept_unless_ended (kept_with c.known e) first) es

    one : (i : ℕ) → kept_unless_ended (kept_through c.known (e ∷ es)) (first ++ later) i
        ≡ kept_unless_ended (kept_through (kept_unless_ended
        (kept_with c.known e) first) es) later i
    one i = unfold kept_unless_ended kept_through in
        rw (any_append (is_last_line_of i) first later)
        (kept_by (over i) (list_any (is_last_line_of i) later) (kept_through
        (kept_with c.known e) es i)
        ∙ ap (λ (o : Option Kept). if list_any (is_last_line_of i) later then None else o)
        (sym (restricted_through over (kept_with c.known e) es i)))
