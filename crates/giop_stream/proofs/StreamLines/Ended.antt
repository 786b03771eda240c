-- A message is over if and only if its events have ended it.
use Rattle.std.proofs.Common.{inl, inr, ◌≡◌, ℕ, Bool, true, false, List, [], ◌∷◌, ◌++◌, map, refl, sym, ap, ◌∙◌, append_assoc, append-nil}
use Rattle.std.specs.Prelude.{◌==◌, ◌||◌, ◌&&◌}
use Rattle.std.specs.List.{list_any, AllByRecursion as Each}
use Rattle.std.proofs.lemmas.Bool.{eq-eqb, eqb-true, and_right, or_parts}
use Rattle.giop_message.specs.MessageReader.{LineClass, IsStreamable, AreCloseClasses, next_lines, is_last_class}
use Rattle.giop_stream.specs.Rules.{Rules}
use Rattle.giop_stream.specs.Events.{EventKind, Begins, Takes, Opens, Continues, Seams, Cancelled, Faults, Closes, Event, events, octets_of_event, joined_octets, phase_of, event_ends_message, has_ended}
use Rattle.giop_stream.specs.Lines.{Said, StreamLine, Kept, kept_of, line, lines_of_event, classes, by_class, is_last_line_of, up_to_last_line, lines_of_messages}
use Rattle.giop_stream.specs.Stream.{is_over}
use Rattle.giop_stream.specs.OpenSlots.{known_of}
use Rattle.giop_stream.specs.Effects.{kept_after_event}
use Rattle.giop_stream.proofs.Lists.{any_append, each_weaker}
use Rattle.giop_stream.proofs.StreamLines.EventsTogether.{sorted_lines}
use Rattle.giop_stream.proofs.StreamLines.LinesOfOctet.{lines_so_far, keeping, standing_all_lines, classes_each, IsOf, event_lines_of}
use Rattle.giop_stream.proofs.StreamLines.LastLines.{any_map, any_by_class, last_stands, none_stands, is_over_grows}

-- ---- Whether some line of a list is the last one of a message.

each_of_none : {A : Type 0} (t : A → Bool) (xs : List A) → list_any t xs ≡ false →
    Each (λ x. t x ≡ false) xs
each_of_none t [] h = tt
each_of_none t (x ∷ xs) h =
    let both = or_parts (t x) (list_any t xs) h in
    (both.0, each_of_none t xs both.1)

pub none_of_each : {A : Type 0} (t : A → Bool) (xs : List A) → Each (λ x. t x ≡ false) xs →
    list_any t xs ≡ false
none_of_each t [] h = refl
none_of_each t (x ∷ xs) h = rw (h.0, none_of_each t xs h.1) refl

none_by_class : (t : StreamLine → Bool) (ls : List StreamLine) → list_any t ls ≡ false →
    list_any t (by_class ls) ≡ false
unfolding by_class
none_by_class t ls h = none_of_each t (by_class ls)
    (classes_each (λ l. t l ≡ false) ls classes (each_of_none t ls h))

-- of the lines that are written, if the message was not over
written_ends : (i : ℕ) (over : ℕ → Bool) (ls : List StreamLine) → over i ≡ false
    → list_any (is_last_line_of i) (up_to_last_line over (by_class ls)) ≡ list_any
    (is_last_line_of i) ls
written_ends i over ls free = go (list_any (is_last_line_of i) ls) refl
  where
    go : (b : Bool) → list_any (is_last_line_of i) ls ≡ b
        → list_any (is_last_line_of i) (up_to_last_line over (by_class ls)) ≡ b
    go true h = last_stands i over (by_class ls) free (any_by_class (is_last_line_of i) ls h)
    go false h = none_stands i (by_class ls) over (none_by_class (is_last_line_of i) ls h)

-- ---- The lines of one event.

said_ends : (e : Event) (s : LineClass) (text : List ℕ) →
    is_last_line_of e.subject.number (line e (Said s text)) ≡ is_last_class s
unfolding is_last_line_of line
said_ends e s text = rw (eq-eqb e.subject.number e.subject.number refl) refl

any_said : {A : Type 0} (e : Event) (f : A → LineClass) (g : A → List ℕ) (xs : List A)
    → list_any (is_last_line_of e.subject.number) (map (λ a. line e (Said (f a) (g a))) xs)
    ≡ list_any (λ a. is_last_class (f a)) xs
any_said e f g [] = refl
any_said e f g (x ∷ xs) = rw (said_ends e (f x) (g x), any_said e f g xs) refl

close_ends : (ss : List LineClass) → AreCloseClasses ss → list_any is_last_class ss ≡ true
close_ends ss (inl e) = rw e refl
close_ends ss (inr (inl e)) = rw e refl
close_ends ss (inr (inr e)) = rw e refl

own_ends : (R : Rules) → IsStreamable R.reading → (e : Event) (kept : Kept) (what : EventKind)
    → list_any (is_last_line_of e.subject.number)
    (lines_of_event R.reading e kept (kept_after_event what kept) what)
    ≡ event_ends_message R kept.phase kept.octets e what
unfolding lines_of_event is_last_line_of line octets_of_event
own_ends R laws e kept Begins =
    rw (and_right (e.subject.number == e.subject.number) false refl) refl
own_ends R laws e kept (Takes x) = any_said e (λ r. r.line_class) (λ r. r.text)
    (next_lines R.reading kept.phase e.subject.number e.subject.header kept.octets x)
own_ends R laws e kept (Opens key) = refl
own_ends R laws e kept (Continues j) =
    rw (and_right (e.subject.number == e.subject.number) false refl) refl
own_ends R laws e kept Seams = refl
own_ends R laws e kept (Cancelled j) = rw (eq-eqb e.subject.number e.subject.number refl) refl
own_ends R laws e kept (Faults fault) = rw (eq-eqb e.subject.number e.subject.number refl) refl
own_ends R laws e kept Closes =
    let closes = R.reading.closes kept.phase e.subject.number e.subject.header kept.octets in
    any_said e (λ l. l.0) (λ l. l.1) closes
    ∙ (any_map is_last_class (λ l. l.0) closes
    ∙ close_ends _
    (laws.closing.closed kept.phase e.subject.number e.subject.header kept.octets))

event_ends : (R : Rules) → IsStreamable R.reading → (i : ℕ) (past : List Event) (e : Event)
    → list_any (is_last_line_of i) (lines_of_event R.reading e (kept_of e.subject.number past)
    (kept_after_event e.what (kept_of e.subject.number past)) e.what)
    ≡ ((e.subject.number == i) && event_ends_message R (phase_of i past)
    (joined_octets i past) e e.what)
event_ends R laws i past e = go (e.subject.number == i) refl
  where
    n : ℕ
    n = e.subject.number

    ls : List StreamLine
    ls = lines_of_event R.reading e (kept_of n past) (kept_after_event e.what
        (kept_of n past)) e.what

    go : (b : Bool) → (n == i) ≡ b → list_any (is_last_line_of i) ls
        ≡ (b && event_ends_message R (phase_of i past) (joined_octets i past) e e.what)
    go true h = let same : n ≡ i = eqb-true n i h in
        ap (λ (k : ℕ). list_any (is_last_line_of k) ls) (sym same)
        ∙ (own_ends R laws e (kept_of n past) e.what
        ∙ ap (λ (k : ℕ). event_ends_message R (phase_of k past)
        (joined_octets k past) e e.what) same)
    go false h = unfold is_last_line_of IsOf in
        none_of_each (is_last_line_of i) ls
        (each_weaker (IsOf e) (λ l. is_last_line_of i l ≡ false) (λ l is. rw (is.1, h) refl) ls
        (event_lines_of R.reading e (kept_of n past) (kept_after_event e.what
        (kept_of n past)) e.what))

-- ---- The lines of more events.

pub so_far_ends : (R : Rules) → IsStreamable R.reading → (i : ℕ) (past es : List Event) →
    list_any (is_last_line_of i) (lines_so_far R.reading past es) ≡ has_ended R i past es
unfolding lines_so_far has_ended
so_far_ends R laws i past [] = refl
so_far_ends R laws i past (e ∷ es) =
    any_append (is_last_line_of i) (lines_of_event R.reading e (kept_of e.subject.number past)
    (kept_after_event e.what (kept_of e.subject.number past)) e.what)
    (lines_so_far R.reading (past ++ e ∷ []) es)
    ∙ rw (event_ends R laws i past e, so_far_ends R laws i (past ++ e ∷ []) es) refl

or_or : (a b c : Bool) → (a || (b || c)) ≡ ((a || b) || c)
or_or true b c = refl
or_or false b c = refl

ended_from : (R : Rules) (i : ℕ) (past es fs : List Event) →
    has_ended R i past (es ++ fs) ≡ (has_ended R i past es || has_ended R i (past ++ es) fs)
unfolding has_ended
ended_from R i past [] fs = rw append-nil refl
ended_from R i past (e ∷ es) fs =
    rw (
      ended_from R i (past ++ e ∷ []) es fs,
      append_assoc past (e ∷ []) es,
    )
    (or_or ((e.subject.number == i) && event_ends_message R (phase_of i past)
    (joined_octets i past) e e.what)
    (has_ended R i (past ++ e ∷ []) es) (has_ended R i (past ++ e ∷ es) fs))

pub ended_append : (R : Rules) (i : ℕ) (es fs : List Event) →
    has_ended R i [] (es ++ fs) ≡ (has_ended R i [] es || has_ended R i es fs)
ended_append R i es fs = ended_from R i [] es fs

-- One more octet of a stream keeps that a message is over if its events have ended it.
pub over_grows : (R : Rules) → IsStreamable R.reading →
    (p p' : List ℕ) (es : List Event) (i : ℕ) → events R p' ≡ events R p ++ es
    → lines_of_messages R p' ≡ lines_of_messages R p ++ sorted_lines R.reading (known_of R p) es →
    is_over R p i ≡ has_ended R i [] (events R p) → is_over R p' i ≡ has_ended R i [] (events R p')
over_grows R laws p p' es i ev sd h =
    is_over_grows R p p' _ i sd ∙ (go (is_over R p i) refl ∙ sym later)
  where
    past : List Event
    past = events R p

    later : has_ended R i [] (events R p') ≡ (is_over R p i || has_ended R i past es)
    later = ap (has_ended R i []) ev ∙ (ended_append R i past es
        ∙ ap (λ (b : Bool). b || has_ended R i past es) (sym h))

    go : (b : Bool) → is_over R p i ≡ b
        → (b || list_any (is_last_line_of i) (sorted_lines R.reading (known_of R p) es))
        ≡ (b || has_ended R i past es)
    go true k = refl
    go false k = unfold known_of keeping sorted_lines in
        ap (list_any (is_last_line_of i)) (sym (standing_all_lines R.reading (is_over R p) past es))
        ∙ (written_ends i (is_over R p) (lines_so_far R.reading past es) k
        ∙ so_far_ends R laws i past es)
