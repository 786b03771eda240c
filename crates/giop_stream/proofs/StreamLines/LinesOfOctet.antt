-- The lines of a stream with one more octet.
use Rattle.std.proofs.Common.{◌≡◌, ℕ, zero, suc, ◌+◌, ◌-◌, ◌<◌, ◌≤◌, Bool, true, false, not, List, [], ◌∷◌, ◌++◌, length, length-append, map, refl, sym, ap, subst, ◌∙◌, append_assoc, Option, Some, None, arith}
use Rattle.std.specs.Prelude.{◌==◌, if◌then◌else◌, flat_map, ◌||◌, option_map, cond, ltb}
use Rattle.std.specs.List.{filter, list_any, AllByRecursion as Each}
use Rattle.std.proofs.lemmas.Bool.{eq-eqb, ne_eqb, eqb-true, lt-ltb}
use Rattle.std.proofs.lemmas.List.{append-nil, length_push}
use Rattle.std.proofs.lemmas.List.Elements.{filter-append}
use Rattle.std.proofs.lemmas.List.Concat.{flat_map-append}
use Rattle.giop_stream.specs.Events.{EventKind, Begins, Takes, Opens, Continues, Seams, Cancelled, Faults, Closes, Event, octets_of_event, joined_octets, phase_after_event, phase_from, phase_of}
use Rattle.giop_message.specs.Phases.{Phase, unbroken, AgreeBefore}
use Rattle.giop_message.specs.MessageReader.{MessageReader, KeepsEarlierLines, UsesPhaseBeforeEnd}
use Rattle.giop_stream.specs.Lines.{Class, Content, Said, StreamLine, Kept, nothing_kept, kept_of, has_class, line, lines_of_event, lines_of_events, classes, by_class, in_order, is_last_line_of, up_to_last_line}
use Rattle.giop_stream.specs.OpenSlots.{KeptByNumber}
use Rattle.giop_stream.specs.Effects.{kept_after_event, lines_for, kept_with}
use Rattle.giop_stream.proofs.StreamLines.EventsTogether.{all_lines, kept_through}
use Rattle.giop_stream.proofs.Lists.{filter_keeps, filter_drops, filter_swap, each_append, each_weaker, each_map, each_filter}

-- The octets of a message in a longer list of events.
pub joined_append : (i : ℕ) (es fs : List Event) → joined_octets i (es ++ fs) ≡ joined_octets i es
    ++ joined_octets i fs
unfolding joined_octets
joined_append i es fs = search (arith, flat_map-append)

joined_own : (e : Event) → joined_octets e.subject.number (e ∷ []) ≡ octets_of_event e.what
unfolding joined_octets
joined_own e = search (arith, eq-eqb, append-nil)

-- What padding is counted by, after a longer list of events.
phase_from_append : (i : ℕ) (phase : Phase) (past es fs : List Event) →
    phase_from i phase past (es ++ fs) ≡ phase_from i (phase_from i phase past es) (past ++ es) fs
unfolding phase_from
phase_from_append i phase past [] fs = rw append-nil refl
phase_from_append i phase past (e ∷ es) fs =
    let next : Phase =
    if e.subject.number == i then phase_after_event (joined_octets i past) phase e.what else phase
    in
    phase_from_append i next (past ++ e ∷ []) es fs
    ∙ ap (λ (so_far : List Event). phase_from i (phase_from i next (past ++ e ∷ []) es) so_far fs)
    (append_assoc past (e ∷ []) es)

pub phase_append : (i : ℕ) (es fs : List Event) →
    phase_of i (es ++ fs) ≡ phase_from i (phase_of i es) es fs
unfolding phase_of
phase_append i es fs = phase_from_append i unbroken [] es fs

phase_push : (i : ℕ) (es : List Event) (e : Event) → phase_of i (es ++ e ∷ [])
    ≡ (if e.subject.number == i then phase_after_event (joined_octets i es) (phase_of i es) e.what
    else phase_of i es)
unfolding phase_from
phase_push i es e = phase_append i es (e ∷ [])

-- What is kept of a message after one more event: of the event's own message, and of another one.
pub kept_own : (past : List Event) (e : Event) →
    kept_of e.subject.number (past ++ e ∷ []) ≡ kept_after_event e.what
    (kept_of e.subject.number past)
kept_own past e =
    let i = e.subject.number in
    rw (
      joined_append i past (e ∷ []),
      joined_own e,
      phase_push i past e,
      eq-eqb i i refl,
    ) refl

pub kept_other : (past : List Event) (e : Event) (i : ℕ) → (e.subject.number == i) ≡ false →
    kept_of i (past ++ e ∷ []) ≡ kept_of i past
unfolding joined_octets
kept_other past e i h =
    rw (
      joined_append i past (e ∷ []),
      phase_push i past e,
      h,
      append-nil (joined_octets i past),
    ) refl

pub kept_push : (i : ℕ) (past : List Event) (e : Event) → kept_of i (past ++ e ∷ [])
    ≡ (if e.subject.number == i then kept_after_event e.what (kept_of i past) else kept_of i past)
kept_push i past e = go (e.subject.number == i) refl
  where
    go : (b : Bool) → (e.subject.number == i) ≡ b → kept_of i (past ++ e ∷ [])
        ≡ (if b then kept_after_event e.what (kept_of i past) else kept_of i past)
    go true is = subst (λ (k : ℕ). kept_of k (past ++ e ∷ []) ≡ kept_after_event e.what
        (kept_of k past))
        (eqb-true e.subject.number i is) (kept_own past e)
    go false is = kept_other past e i is

-- Later events change nothing before them in what padding is counted by.
agrees_one : (b : Bool) (xs : List ℕ) (phase : Phase) (what : EventKind) →
    AgreeBefore (12 + length xs) (if b then phase_after_event xs phase what else phase) phase
agrees_one false xs phase what at h = refl
agrees_one true xs phase Seams at h = rw (lt-ltb at (12 + length xs) h) refl
agrees_one true xs phase _ at h = refl

phase_from_agrees : (i : ℕ) (phase : Phase) (past es : List Event) →
    AgreeBefore (12 + length (joined_octets i past)) (phase_from i phase past es) phase
unfolding phase_from
phase_from_agrees i phase past [] at h = refl
phase_from_agrees i phase past (e ∷ es) at h =
    let next : Phase =
    if e.subject.number == i then phase_after_event (joined_octets i past) phase e.what else phase
    in
    let longer : length (joined_octets i (past ++ e ∷ []))
    ≡ length (joined_octets i past) + length (joined_octets i (e ∷ [])) =
    ap length (joined_append i past (e ∷ [])) ∙ length-append (joined_octets i past)
    (joined_octets i (e ∷ [])) in
    phase_from_agrees i next (past ++ e ∷ []) es at (omega (arith, h, longer))
    ∙ agrees_one (e.subject.number == i) (joined_octets i past) phase e.what at h

pub phases_agree : (i : ℕ) (es fs : List Event) →
    AgreeBefore (12 + length (joined_octets i es)) (phase_of i (es ++ fs)) (phase_of i es)
phases_agree i es fs at h =
    ap (λ (phase : Phase). phase at) (phase_append i es fs)
    ∙ phase_from_agrees i (phase_of i es) es fs at h

-- the first octet after a header is counted as the twelfth one, even if a payload begins with it
twelve_one : (b : Bool) (xs : List ℕ) (phase : Phase) (what : EventKind) → phase 12 ≡ 12 →
    (if b then phase_after_event xs phase what else phase) 12 ≡ 12
twelve_one false xs phase what h = h
twelve_one true xs phase Seams h = go (ltb 12 (12 + length xs))
  where
    go : (b : Bool) → cond b (phase 12) (12 + (12 - (12 + length xs))) ≡ 12
    go true = h
    go false = omega arith
twelve_one true xs phase _ h = h

twelve_from : (i : ℕ) (phase : Phase) (past es : List Event) → phase 12 ≡ 12 →
    phase_from i phase past es 12 ≡ 12
unfolding phase_from
twelve_from i phase past [] h = h
twelve_from i phase past (e ∷ es) h =
    twelve_from i (if e.subject.number == i then phase_after_event
    (joined_octets i past) phase e.what else phase)
    (past ++ e ∷ []) es (twelve_one (e.subject.number == i) (joined_octets i past) phase e.what h)

pub phase_twelve : (i : ℕ) (es : List Event) → phase_of i es 12 ≡ 12
unfolding phase_of
phase_twelve i es = twelve_from i unbroken [] es refl

-- The lines of an event depend only on what is kept up to it.
event_lines_early : (R : MessageReader) → KeepsEarlierLines R → UsesPhaseBeforeEnd R →
    (e : Event) (so_far all : Kept) (more : List ℕ) (what : EventKind)
    → all.octets ≡ (kept_after_event what so_far).octets ++ more
    → AgreeBefore (12 + length (kept_after_event what so_far).octets) all.phase
    (kept_after_event what so_far).phase
    → lines_of_event R e so_far all what ≡ lines_of_event R e so_far
    (kept_after_event what so_far) what
unfolding lines_of_event octets_of_event
event_lines_early R causal phased e so_far all more (Takes x) h k =
    let w = e.subject in
    let xs = so_far.octets ++ x ∷ [] in
    let at : ℕ = suc (length so_far.octets) in
    ap (map (λ r. line e (Said r.line_class r.text)))
    (ap (λ (ys : List ℕ). filter (λ r. r.at == at) (R.reads all.phase w.number w.header ys)) h
    ∙ (causal.earlier all.phase w.number w.header xs more at
    (omega (arith, length_push so_far.octets x))
    ∙ ap (filter (λ r. r.at == at)) (phased.reads all.phase so_far.phase w.number w.header xs k)))
event_lines_early R causal phased e so_far all more _ h k = refl

-- The lines of events; what is kept up to an event determines its lines.
unfoldable pub lines_so_far : (R : MessageReader) (past events : List Event) → List StreamLine
lines_so_far R past [] = []
lines_so_far R past (e ∷ es) = lines_of_event R e (kept_of e.subject.number past)
    (kept_after_event e.what (kept_of e.subject.number past)) e.what ++ lines_so_far R (past ++ e
    ∷ []) es

pub lines_by_past : (R : MessageReader) → KeepsEarlierLines R → UsesPhaseBeforeEnd R →
    (all past es : List Event) →
    past ++ es ≡ all → lines_of_events R all past es ≡ lines_so_far R past es
unfolding lines_of_events lines_so_far
lines_by_past R causal phased all past [] h = refl
lines_by_past R causal phased all past (e ∷ es) h =
    let i = e.subject.number in
    let now = past ++ e ∷ [] in
    let split : now ++ es ≡ all = append_assoc past (e ∷ []) es ∙ h in
    let own = kept_own past e in
    let octets : joined_octets i all ≡ (kept_after_event e.what (kept_of i past)).octets
    ++ joined_octets i es =
    ap (joined_octets i) (sym split) ∙ (joined_append i now es
    ∙ ap (λ (kept : Kept). kept.octets ++ joined_octets i es) own) in
    let whole : AgreeBefore (12 + length (joined_octets i now)) (phase_of i all) (phase_of i now) =
    subst (λ (l : List Event). AgreeBefore (12 + length (joined_octets i now)) (phase_of i l)
    (phase_of i now)) split (phases_agree i now es) in
    let agree : AgreeBefore (12 + length (kept_after_event e.what (kept_of i past)).octets)
    (phase_of i all) (kept_after_event e.what (kept_of i past)).phase =
    subst (λ (kept : Kept). AgreeBefore (12 + length kept.octets) (phase_of i all) kept.phase) own
    whole in
    rw (
      event_lines_early R causal phased e (kept_of i past) (kept_of i all)
          (joined_octets i es) e.what
          octets agree,
      lines_by_past R causal phased all now es split,
    ) refl

lines_so_far_append : (R : MessageReader) (past es fs : List Event) →
    lines_so_far R past (es ++ fs) ≡ lines_so_far R past es ++ lines_so_far R (past ++ es) fs
unfolding lines_so_far
lines_so_far_append R past [] fs = rw append-nil refl
lines_so_far_append R past (e ∷ es) fs = search (
  arith,
  append_assoc,
  lines_so_far_append R (past
      ++ e ∷ []) es fs,
)

-- If more events come at the end, their lines come at the end.
pub lines_grow : (R : MessageReader) → KeepsEarlierLines R → UsesPhaseBeforeEnd R →
    (es fs : List Event) →
    lines_of_events R (es ++ fs) [] (es ++ fs) ≡ lines_of_events R es [] es ++ lines_so_far R es fs
lines_grow R causal phased es fs = search (arith, lines_by_past, lines_so_far_append)

-- Each line of an event has its place and its message.
unfoldable pub IsOf : (event : Event) (line : StreamLine) → Type 0
IsOf e l = (l.place ≡ e.place) × (l.number ≡ e.subject.number)

line_of : (e : Event) (content : Content) → IsOf e (line e content)
unfolding IsOf line
line_of e content = (refl, refl)

pub event_lines_of : (R : MessageReader) (e : Event) (so_far all : Kept) (what : EventKind) →
    Each (IsOf e) (lines_of_event R e so_far all what)
unfolding lines_of_event
event_lines_of R e so_far all Begins = search (arith, line_of)
event_lines_of R e so_far all (Takes x) = search (arith, each_map, line_of)
event_lines_of R e so_far all (Opens id) = tt
event_lines_of R e so_far all (Continues i) = search (arith, line_of)
event_lines_of R e so_far all Seams = tt
event_lines_of R e so_far all (Cancelled j) = search (arith, line_of)
event_lines_of R e so_far all (Faults fault) = search (arith, line_of)
event_lines_of R e so_far all Closes = search (arith, each_map, line_of)

pub lines_so_far_each : (R : MessageReader) (P : ℕ → Type 0) (past es : List Event) →
    Each (λ e. P e.place) es → Each (λ l. P l.place) (lines_so_far R past es)
unfolding lines_so_far IsOf
lines_so_far_each R P past [] h = tt
lines_so_far_each R P past (e ∷ es) h = search (
  arith,
  each_append,
  each_weaker,
  event_lines_of,
  lines_so_far_each R P (past ++ e ∷ []) es h.1,
)

pub lines_of_events_each : (R : MessageReader) (P : ℕ → Type 0) (all past es : List Event) →
    Each (λ e. P e.place) es → Each (λ l. P l.place) (lines_of_events R all past es)
unfolding lines_of_events IsOf
lines_of_events_each R P all past [] h = tt
lines_of_events_each R P all past (e ∷ es) h = search (
  arith,
  each_append,
  each_weaker,
  event_lines_of,
  lines_of_events_each R P all (past ++ e ∷ []) es h.1,
)

-- The order of the lines.
pub by_class_none : by_class [] ≡ []
unfolding by_class classes
by_class_none = refl

earlier_none : (n k : ℕ) (ls : List StreamLine) → Each (λ l. l.place ≤ n) ls → n < k →
    filter (λ l. l.place == k) ls ≡ []
earlier_none n k ls h m = search (arith, filter_drops, each_weaker, ne_eqb)

later_none : (n k : ℕ) (ls : List StreamLine) → Each (λ l. l.place ≡ suc n) ls → k ≤ n →
    filter (λ l. l.place == k) ls ≡ []
later_none n k ls h m = search (arith, filter_drops, each_weaker, ne_eqb)

now_all : (n : ℕ) (ls : List StreamLine) → Each (λ l. l.place ≡ n) ls →
    filter (λ l. l.place == n) ls ≡ ls
now_all n ls h = search (arith, filter_keeps, each_weaker, eq-eqb)

in_order_same : (k n : ℕ) (old new : List StreamLine) → Each (λ l. l.place ≡ suc n) new → k ≤ n →
    in_order k (old ++ new) ≡ in_order k old
unfolding in_order
in_order_same zero n old new h m = refl
in_order_same (suc k) n old new h m =
    rw (
      in_order_same k n old new h (omega arith),
      filter-append (λ l. l.place == suc k) old new,
      later_none n
          (suc k) new h m,
      append-nil (filter (λ l. l.place == suc k) old),
    ) refl

pub in_order_grows : (n : ℕ) (old new : List StreamLine) → Each (λ l. l.place ≤ n) old →
    Each (λ l. l.place ≡ suc n) new
    → in_order (suc n) (old ++ new) ≡ in_order n old ++ by_class new
unfolding in_order
in_order_grows n old new h k =
    rw (
      in_order_same n n old new k (omega arith),
      filter-append (λ l. l.place == suc n) old new,
      earlier_none n
          (suc n) old h (omega arith),
      now_all (suc n) new k,
    ) refl

pub in_order_idle : (n : ℕ) (old : List StreamLine) → Each (λ l. l.place ≤ n) old →
    in_order (suc n) old ≡ in_order n old
unfolding in_order
in_order_idle n old h = rw (earlier_none n (suc n) old h (omega arith), by_class_none)
    (append-nil (in_order n old))

filter_classes : (q : StreamLine → Bool) (ls : List StreamLine) (cs : List Class)
    → filter q (flat_map (λ c. filter (has_class c) ls) cs)
    ≡ flat_map (λ c. filter (has_class c) (filter q ls)) cs
filter_classes q ls [] = refl
filter_classes q ls (c ∷ cs) = search (arith, filter-append, filter_swap, filter_classes q ls cs)

by_class_filter : (q : StreamLine → Bool) (ls : List StreamLine) →
    filter q (by_class ls) ≡ by_class (filter q ls)
unfolding by_class
by_class_filter q ls = filter_classes q ls classes

-- The lines that are written are those up to each message's last one.
or_false : (b : Bool) → (b || false) ≡ b
or_false true = refl
or_false false = refl

or_or : (a b c : Bool) → ((a || b) || c) ≡ (a || (b || c))
or_or true b c = refl
or_or false b c = refl

standing_same : (f g : ℕ → Bool) (ls : List StreamLine) → ((i : ℕ) → f i ≡ g i) →
    up_to_last_line f ls ≡ up_to_last_line g ls
standing_same f g ls h = search (arith)

standing_skips : (f : ℕ → Bool) (l : StreamLine) (ls : List StreamLine) → f l.number ≡ true →
    up_to_last_line f (l ∷ ls) ≡ up_to_last_line f ls
unfolding up_to_last_line
standing_skips f l ls e = rw (up_to_last_line, e) refl

standing_keeps : (f : ℕ → Bool) (l : StreamLine) (ls : List StreamLine) → f l.number ≡ false →
    up_to_last_line f (l ∷ ls) ≡ l ∷ up_to_last_line (λ i. f i || is_last_line_of i l) ls
unfolding up_to_last_line
standing_keeps f l ls e = rw (up_to_last_line, e) refl

append_by : (f : ℕ → Bool) (l : StreamLine) (xs ys : List StreamLine) (b : Bool) → f l.number ≡ b
    → ((f : ℕ → Bool) → up_to_last_line f (xs ++ ys) ≡ up_to_last_line f xs
    ++ up_to_last_line (λ i. f i || list_any (is_last_line_of i) (up_to_last_line f xs)) ys)
    → up_to_last_line f (l ∷ xs ++ ys) ≡ up_to_last_line f (l ∷ xs)
    ++ up_to_last_line (λ i. f i || list_any (is_last_line_of i) (up_to_last_line f (l ∷ xs))) ys
append_by f l xs ys true e ih = search (arith, standing_skips)
append_by f l xs ys false e ih = search (arith, standing_keeps, standing_same, or_or)

pub standing_append : (f : ℕ → Bool) (xs ys : List StreamLine)
    → up_to_last_line f (xs ++ ys) ≡ up_to_last_line f xs
    ++ up_to_last_line (λ i. f i || list_any (is_last_line_of i) (up_to_last_line f xs)) ys
unfolding up_to_last_line
standing_append f [] ys = search (arith, standing_same, or_false)
standing_append f (l ∷ xs) ys = append_by f l xs ys (f l.number) refl (λ g. standing_append g xs ys)

drops_by : (over orig f : ℕ → Bool) (l : StreamLine) (ls : List StreamLine) →
    ((i : ℕ) → over i ≡ (orig i || f i))
    → ((over f : ℕ → Bool) → ((i : ℕ) → over i ≡ (orig i || f i)) →
    up_to_last_line over ls ≡ up_to_last_line f (filter (λ l. not (orig l.number)) ls))
    → (a b : Bool) → orig l.number ≡ a → f l.number ≡ b
    → up_to_last_line over (l ∷ ls) ≡ up_to_last_line f (filter (λ l. not (orig l.number)) (l ∷ ls))
drops_by over orig f l ls h ih true b e k = search (arith, standing_skips)
drops_by over orig f l ls h ih false true e k = search (arith, standing_skips, not)
drops_by over orig f l ls h ih false false e k = search (arith, standing_keeps, or_or, not)

-- Lines of messages that were over before are never written.
pub standing_drops : (over orig f : ℕ → Bool) (ls : List StreamLine) →
    ((i : ℕ) → over i ≡ (orig i || f i))
    → up_to_last_line over ls ≡ up_to_last_line f (filter (λ l. not (orig l.number)) ls)
unfolding up_to_last_line
standing_drops over orig f [] h = refl
standing_drops over orig f (l ∷ ls) h = drops_by over orig f l ls h
    (λ o g k. standing_drops o orig g ls k) (orig l.number) (f l.number) refl refl

-- The lines of several events: those of the messages that are not over, from what is kept of them.
unfoldable pub keeping : (over : ℕ → Bool) (past : List Event) → KeptByNumber
keeping over past i = if over i then None else Some (kept_of i past)

kept_with_by : (a b : Bool) (kept : Kept) (what : EventKind)
    → (if b then option_map (kept_after_event what) (if a then None else Some kept)
    else (if a then None else Some kept))
    ≡ (if a then None else Some (if b then kept_after_event what kept else kept))
kept_with_by true true kept what = refl
kept_with_by true false kept what = refl
kept_with_by false true kept what = refl
kept_with_by false false kept what = refl

pub with_one : (over : ℕ → Bool) (past : List Event) (e : Event) (i : ℕ) →
    kept_with (keeping over past) e i ≡ keeping over (past ++ e ∷ []) i
unfolding kept_with keeping
with_one over past e i = rw (kept_push i past e)
    (kept_with_by (over i) (e.subject.number == i) (kept_of i past) e.what)

pub keeping_through : (over : ℕ → Bool) (past es : List Event) (i : ℕ) →
    kept_through (keeping over past) es i ≡ keeping over (past ++ es) i
unfolding kept_through
keeping_through over past [] i = rw append-nil refl
keeping_through over past (e ∷ es) i =
    ap (λ (known : KeptByNumber). kept_through known es i) (λ j k. with_one over past e k j)
    ∙ (keeping_through over (past ++ e ∷ []) es i
    ∙ ap (λ (l : List Event). keeping over l i) (append_assoc past (e ∷ []) es))

all_lines_same : (R : MessageReader) (f g : KeptByNumber) (es : List Event) →
    ((i : ℕ) → f i ≡ g i) → all_lines R f es ≡ all_lines R g es
all_lines_same R f g es h = search (arith, all_lines)

one_by : (R : MessageReader) (over : ℕ → Bool) (past : List Event) (e : Event) (b : Bool) →
    over e.subject.number ≡ b
    → filter (λ l. not (over l.number)) (lines_of_event R e (kept_of e.subject.number past)
    (kept_after_event e.what (kept_of e.subject.number past)) e.what)
    ≡ lines_for R e (keeping over past e.subject.number)
unfolding lines_for keeping IsOf
one_by R over past e true k = search (arith, filter_drops, not, each_weaker, event_lines_of)
one_by R over past e false k = search (
  arith,
  filter_keeps,
  not,
  each_weaker,
  event_lines_of,
)

pub all_lines_so_far : (R : MessageReader) (over : ℕ → Bool) (past es : List Event)
    → filter (λ l. not (over l.number)) (lines_so_far R past es)
    ≡ all_lines R (keeping over past) es
unfolding lines_so_far all_lines
all_lines_so_far R over past [] = refl
all_lines_so_far R over past (e ∷ es) = search (
  arith,
  one_by,
  all_lines_same,
  with_one,
  not,
  filter-append,
  all_lines_so_far R over (past ++ e ∷ []) es,
)

-- The lines depend only on what is kept of the events' subjects.
pub all_lines_agree : (R : MessageReader) (f g : KeptByNumber) (es : List Event) →
    Each (λ e. f e.subject.number ≡ g e.subject.number) es → all_lines R f es ≡ all_lines R g es
unfolding all_lines kept_with
all_lines_agree R f g [] h = refl
all_lines_agree R f g (e ∷ es) h =
    rw h.0 (ap (λ (ls : List StreamLine). lines_for R e (g e.subject.number) ++ ls)
    (all_lines_agree R (kept_with f e) (kept_with g e) es
    (each_weaker (λ d. f d.subject.number ≡ g d.subject.number)
    (λ d. kept_with f e d.subject.number ≡ kept_with g e d.subject.number)
    (λ d k. ap (λ (o : Option Kept). if e.subject.number == d.subject.number
    then option_map (kept_after_event e.what) o else o) k) es h.1)))

-- The new lines that are written are those of the effects.
pub standing_all_lines : (R : MessageReader) (over : ℕ → Bool) (past es : List Event)
    → up_to_last_line over (by_class (lines_so_far R past es))
    ≡ up_to_last_line (λ i. false) (by_class (all_lines R (keeping over past) es))
standing_all_lines R over past es =
    standing_drops over over (λ i. false) (by_class (lines_so_far R past es))
    (λ i. sym (or_false (over i)))
    ∙ rw (
      by_class_filter (λ l. not (over l.number)) (lines_so_far R past es),
      all_lines_so_far R over past es,
    ) refl

-- If something holds of the numbers of the events' subjects, it holds of the numbers of the lines'
-- messages.
pub event_lines_number : (R : MessageReader) (P : ℕ → Type 0) (e : Event) (o : Option Kept) →
    P e.subject.number → Each (λ l. P l.number) (lines_for R e o)
unfolding lines_for IsOf
event_lines_number R P e None h = tt
event_lines_number R P e (Some kept) h = search (arith, each_weaker, event_lines_of)

-- If something holds of the places of the events, it holds of the places of the lines.
event_lines_place : (R : MessageReader) (P : ℕ → Type 0) (e : Event) (o : Option Kept) →
    P e.place → Each (λ l. P l.place) (lines_for R e o)
unfolding lines_for IsOf
event_lines_place R P e None h = tt
event_lines_place R P e (Some kept) h = search (arith, each_weaker, event_lines_of)

pub all_lines_places : (R : MessageReader) (P : ℕ → Type 0) (known : KeptByNumber)
    (es : List Event) → Each (λ e. P e.place) es → Each (λ l. P l.place) (all_lines R known es)
unfolding all_lines
all_lines_places R P known [] h = tt
all_lines_places R P known (e ∷ es) h =
    each_append (λ l. P l.place) (lines_for R e (known e.subject.number))
    (all_lines R (kept_with known e) es)
    (event_lines_place R P e (known e.subject.number) h.0)
    (all_lines_places R P (kept_with known e) es h.1)

all_lines_each : (R : MessageReader) (P : ℕ → Type 0) (known : KeptByNumber) (es : List Event) →
    Each (λ e. P e.subject.number) es → Each (λ l. P l.number) (all_lines R known es)
unfolding all_lines
all_lines_each R P known [] h = tt
all_lines_each R P known (e ∷ es) h =
    each_append (λ l. P l.number) (lines_for R e (known e.subject.number))
    (all_lines R (kept_with known e) es)
    (event_lines_number R P e (known e.subject.number) h.0)
    (all_lines_each R P (kept_with known e) es h.1)

pub classes_each : (P : StreamLine → Type 0) (ls : List StreamLine) (cs : List Class) → Each P ls →
    Each P (flat_map (λ c. filter (has_class c) ls) cs)
classes_each P ls [] h = tt
classes_each P ls (c ∷ cs) h = search (arith, each_append, each_filter, classes_each P ls cs h)

stands_by : (P : StreamLine → Type 0) (b : Bool) (l : StreamLine) (one two : List StreamLine) →
    P l → Each P one →
    Each P two → Each P (if b then one else l ∷ two)
stands_by P true l one two h j k = j
stands_by P false l one two h j k = (h, k)

pub standing_each : (P : StreamLine → Type 0) (over : ℕ → Bool) (ls : List StreamLine) → Each P ls →
    Each P (up_to_last_line over ls)
unfolding up_to_last_line
standing_each P over [] h = tt
standing_each P over (l ∷ ls) h =
    stands_by P (over l.number) l (up_to_last_line over ls)
    (up_to_last_line (λ i. over i || is_last_line_of i l) ls) h.0
    (standing_each P over ls h.1) (standing_each P (λ i. over i || is_last_line_of i l) ls h.1)

pub written_each : (R : MessageReader) (P : ℕ → Type 0) (known : KeptByNumber) (es : List Event) →
    Each (λ e. P e.subject.number) es
    → Each (λ l. P l.number) (up_to_last_line (λ i. false) (by_class (all_lines R known es)))
unfolding by_class
written_each R P known es h = search (arith, standing_each, classes_each, all_lines, all_lines_each)

none_last_by : (i : ℕ) (l : StreamLine) → l.number < i → is_last_line_of i l ≡ false
unfolding is_last_line_of
none_last_by i l h = search (arith, ne_eqb)

pub none_last : (i : ℕ) (ls : List StreamLine) → Each (λ l. l.number < i) ls →
    list_any (is_last_line_of i) ls ≡ false
none_last i [] h = refl
none_last i (l ∷ ls) h = search (arith, none_last_by, none_last i ls h.1)

pub none_joined : (i : ℕ) (es : List Event) → Each (λ e. e.subject.number < i) es →
    joined_octets i es ≡ []
unfolding joined_octets
none_joined i [] h = refl
none_joined i (e ∷ es) h = search (arith, ne_eqb, none_joined i es h.1)

none_phase : (i : ℕ) (phase : Phase) (past es : List Event) →
    Each (λ e. e.subject.number < i) es → phase_from i phase past es ≡ phase
unfolding phase_from
none_phase i phase past [] h = refl
none_phase i phase past (e ∷ es) h =
    rw (ne_eqb e.subject.number i (λ is. omega (arith, is, h.0)))
    (none_phase i phase (past ++ e ∷ []) es h.1)

pub none_kept : (i : ℕ) (es : List Event) → Each (λ e. e.subject.number < i) es →
    kept_of i es ≡ nothing_kept
unfolding phase_of
none_kept i es h = rw (none_joined i es h, none_phase i unbroken [] es h) refl
