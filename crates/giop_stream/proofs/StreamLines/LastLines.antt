-- Which events write the last line of their message.
use Rattle.std.proofs.Common.{arith, inl, inr, ◌≡◌, ℕ, Bool, true, false, cond, List, [], ◌∷◌, ◌++◌, map, refl, ◌∙◌, Option, Some, None}
use Rattle.std.specs.Prelude.{◌==◌, if◌then◌else◌, ◌||◌, flat_map}
use Rattle.std.specs.List.{filter, list_any, AllByRecursion as Each}
use Rattle.std.proofs.lemmas.Bool.{or_cases, or_right, or_left, and_parts, eq-eqb, eqb-true}
use Rattle.giop_message.specs.MessageReader.{LineClass, MessageReader, ClosesWithLastLine, is_last_class}
use Rattle.giop_stream.specs.Rules.{Rules}
use Rattle.giop_stream.specs.Events.{EventKind, Cancelled, Faults, Closes, Event, events}
use Rattle.giop_stream.specs.Lines.{Class, Start, rank, Said, class_of, StreamLine, line, Kept, kept_of, lines_of_event, classes, by_class, is_last_line_of, up_to_last_line, lines_of_messages}
use Rattle.giop_stream.specs.Stream.{is_over}
use Rattle.giop_stream.specs.OpenSlots.{KeptByNumber, known_of}
use Rattle.giop_stream.specs.Effects.{kept_after_event, kept_with, lines_for}
use Rattle.giop_stream.proofs.StreamLines.EventsTogether.{all_lines, sorted_lines}
use Rattle.giop_stream.proofs.Lists.{each_weaker, any_append}

-- No line is lost by ordering them by class.
of_rank : List StreamLine → ℕ → List StreamLine
of_rank ls n = filter (λ l. rank (class_of l.content) == n) ls

any_left : {A : Type 0} (t : A → Bool) (xs ys : List A) → list_any t xs ≡ true →
    list_any t (xs ++ ys) ≡ true
any_left t xs ys h = search (arith, any_append, or_left)

pub any_right : {A : Type 0} (t : A → Bool) (xs ys : List A) → list_any t ys ≡ true →
    list_any t (xs ++ ys) ≡ true
any_right t xs ys h = search (arith, any_append, or_right)

class_by : (t : StreamLine → Bool) (g : ℕ → List StreamLine) (n : ℕ) (d : Class) (cs : List Class)
    (b : Bool) →
    (n == rank d) ≡ b
    → (b || list_any (λ c. n == rank c) cs) ≡ true → list_any t (g n) ≡ true
    → (list_any (λ c. n == rank c) cs ≡ true → list_any t (flat_map (λ c. g (rank c)) cs) ≡ true)
    → list_any t (g (rank d) ++ flat_map (λ c. g (rank c)) cs) ≡ true
class_by t g n d cs true e h k ih = search (arith, any_left, eqb-true)
class_by t g n d cs false e h k ih = search (arith, any_right)

any_class : (t : StreamLine → Bool) (g : ℕ → List StreamLine) (n : ℕ) (cs : List Class) →
    list_any (λ c. n == rank c) cs ≡ true
    → list_any t (g n) ≡ true → list_any t (flat_map (λ c. g (rank c)) cs) ≡ true
any_class t g n [] h k = absurd cc
any_class t g n (d ∷ cs) h k = class_by t g n d cs (n == rank d) refl h k
    (λ j. any_class t g n cs j k)

known_class : (c : Class) → list_any (λ d. rank c == rank d) classes ≡ true
unfolding classes
known_class Start = refl
known_class _ = refl

record Ranked (t : StreamLine → Bool) (ls : List StreamLine) : Type 0 where
  at : ℕ
  known : list_any (λ c. at == rank c) classes ≡ true
  found : list_any t (of_rank ls at) ≡ true

ranked_here : (t : StreamLine → Bool) (l : StreamLine) (ls : List StreamLine) → t l ≡ true →
    Ranked t (l ∷ ls)
unfolding of_rank
ranked_here t l ls h = record {
  at = rank (class_of l.content);
  known = known_class (class_of l.content);
  found = rw (eq-eqb (rank (class_of l.content)) (rank (class_of l.content)) refl)
      (or_left (t l) (list_any t (filter (λ k.
      rank (class_of k.content) == rank (class_of l.content)) ls)) h);
}

ranked_by : (t : StreamLine → Bool) (l : StreamLine) (ls : List StreamLine) (b : Bool) →
    list_any t ls ≡ true →
    list_any t (cond b (l ∷ ls) ls) ≡ true
ranked_by t l ls true h = search (arith, or_right)
ranked_by t l ls false h = h

ranked_more : (t : StreamLine → Bool) (l : StreamLine) (ls : List StreamLine) → Ranked t ls →
    Ranked t (l ∷ ls)
unfolding of_rank
ranked_more t l ls r = search (arith, ranked_by)

ranked : (t : StreamLine → Bool) (ls : List StreamLine) → list_any t ls ≡ true → Ranked t ls
ranked t [] h = absurd cc
ranked t (l ∷ ls) h = elim (or_cases (t l) (list_any t ls) h)
    [ inl a ↦ ranked_here t l ls a | inr b ↦ ranked_more t l ls (ranked t ls b) ]

pub any_by_class : (t : StreamLine → Bool) (ls : List StreamLine) → list_any t ls ≡ true →
    list_any t (by_class ls) ≡ true
unfolding by_class of_rank
any_by_class t ls h = let r = ranked t ls h in
    any_class t (λ n. filter (λ l. rank (class_of l.content) == n) ls) r.at classes r.known r.found

-- The last line is written, if its message was not over before.
stand_by : (i : ℕ) (f : ℕ → Bool) (l : StreamLine) (ls : List StreamLine) (b c : Bool) →
    f i ≡ false →
    f l.number ≡ b
    → is_last_line_of i l ≡ c → (c || list_any (is_last_line_of i) ls) ≡ true
    → ((g : ℕ → Bool) → g i ≡ false → list_any (is_last_line_of i) ls ≡ true →
    list_any (is_last_line_of i) (up_to_last_line g ls) ≡ true)
    → list_any (is_last_line_of i) (if b then up_to_last_line f ls else l ∷ up_to_last_line
    (λ j. f j || is_last_line_of j l) ls) ≡ true
unfolding is_last_line_of
stand_by i f l ls true true free e k h ih = search (arith, eqb-true, and_parts)
stand_by i f l ls true false free e k h ih = ih f free h
stand_by i f l ls false true free e k h ih = rw k refl
stand_by i f l ls false false free e k h ih = search (arith, or_right)

pub last_stands : (i : ℕ) (f : ℕ → Bool) (ls : List StreamLine) → f i ≡ false →
    list_any (is_last_line_of i) ls ≡ true → list_any (is_last_line_of i) (up_to_last_line f ls)
    ≡ true
unfolding up_to_last_line
last_stands i f [] free h = absurd cc
last_stands i f (l ∷ ls) free h = stand_by i f l ls (f l.number)
    (is_last_line_of i l) free refl refl h
    (λ g k j. last_stands i g ls k j)

-- If no line is the last one of a message, none is among those that are written.
none_by : (i : ℕ) (l : StreamLine) (ls : List StreamLine) (f : ℕ → Bool) (a b c : Bool) →
    is_last_line_of i l ≡ a
    → list_any (is_last_line_of i) ls ≡ b → (a || b) ≡ false
    → ((f : ℕ → Bool) → list_any (is_last_line_of i) ls ≡ false →
    list_any (is_last_line_of i) (up_to_last_line f ls) ≡ false)
    → list_any (is_last_line_of i) (if c then up_to_last_line f ls else l ∷ up_to_last_line
    (λ j. f j || is_last_line_of j l) ls) ≡ false
none_by i l ls f true b c e k j ih = absurd cc
none_by i l ls f false true c e k j ih = absurd cc
none_by i l ls f false false true e k j ih = ih f k
none_by i l ls f false false false e k j ih = search (arith)

pub none_stands : (i : ℕ) (ls : List StreamLine) (f : ℕ → Bool) →
    list_any (is_last_line_of i) ls ≡ false → list_any (is_last_line_of i) (up_to_last_line f ls)
    ≡ false
unfolding up_to_last_line
none_stands i [] f h = refl
none_stands i (l ∷ ls) f h = none_by i l ls f (is_last_line_of i l) (list_any
    (is_last_line_of i) ls)
    (f l.number) refl refl h (λ g k. none_stands i ls g k)

-- A framing fault, a cancel and a close each write the last line of a message, unless the message
-- is over.
unfoldable pub gives_last_line : (event_kind : EventKind) → Bool
gives_last_line Closes = true
gives_last_line (Cancelled j) = true
gives_last_line (Faults fault) = true
gives_last_line _ = false

any_weaker : {A : Type 0} (p q : A → Bool) → ((x : A) → p x ≡ true → q x ≡ true) → (xs : List A) →
    list_any p xs ≡ true → list_any q xs ≡ true
any_weaker p q f [] h = absurd cc
any_weaker {A} p q f (x ∷ xs) h =
    elim (or_cases (p x) (list_any p xs) h) [
      | inl a ↦ or_left (q x) (list_any q xs) (f x a)
      | inr b ↦ or_right (q x) (list_any q xs)
          (any_weaker p q f xs b)
    ]

pub any_map : {A B : Type 0} (t : B → Bool) (f : A → B) (xs : List A) →
    list_any (λ x. t (f x)) xs ≡ list_any t (map f xs)
any_map t f [] = refl
any_map t f (x ∷ xs) = search (arith, any_map t f xs)

said_last : (e : Event) (s : LineClass) (text : List ℕ) → is_last_class s ≡ true →
    is_last_line_of e.subject.number (line e (Said s text)) ≡ true
unfolding is_last_line_of line
said_last e s text h = search (arith, eq-eqb)

event_lines_final : (R : MessageReader) → ClosesWithLastLine R →
    (e : Event) (so_far all : Kept) (what : EventKind) → gives_last_line what ≡ true
    → list_any (is_last_line_of e.subject.number) (lines_of_event R e so_far all what) ≡ true
unfolding lines_of_event gives_last_line is_last_line_of line
event_lines_final R ending e so_far all Closes h =
    rw (← any_map (is_last_line_of e.subject.number) (λ l. line e (Said l.0 l.1))
    (R.closes so_far.phase e.subject.number e.subject.header so_far.octets))
    (any_weaker (λ l. is_last_class l.0) (λ l. is_last_line_of e.subject.number (line e
    (Said l.0 l.1)))
    (λ l. said_last e l.0 l.1)
    (R.closes so_far.phase e.subject.number e.subject.header so_far.octets)
    (ending.ends so_far.phase e.subject.number e.subject.header so_far.octets))
event_lines_final R ending e so_far all (Cancelled j) h = search (arith, eq-eqb)
event_lines_final R ending e so_far all (Faults fault) h = search (arith, eq-eqb)
event_lines_final R ending e so_far all _ h = absurd cc

pub kept_final : (R : MessageReader) → ClosesWithLastLine R →
    (e : Event) (o : Option Kept) (kept : Kept) →
    o ≡ Some kept
    → gives_last_line e.what ≡ true → list_any (is_last_line_of e.subject.number) (lines_for R e o)
    ≡ true
unfolding lines_for
kept_final R ending e None kept k h = absurd cc
kept_final R ending e (Some held) kept k h = search (arith, event_lines_final)

EndsItsMessage : MessageReader → KeptByNumber → List Event → Event → Type 0
EndsItsMessage R K es e = gives_last_line e.what ≡ true → (kept : Kept) →
    K e.subject.number ≡ Some kept →
    list_any (is_last_line_of e.subject.number) (all_lines R K es) ≡ true

with_some : (K : KeptByNumber) (e : Event) (i : ℕ) (kept : Kept) → K i ≡ Some kept →
    kept_with K e i ≡ Some (if e.subject.number == i then kept_after_event e.what kept else kept)
unfolding kept_with
with_some K e i kept h = rw h (go (e.subject.number == i))
  where
    go : (b : Bool) → (if b then Some (kept_after_event e.what kept) else Some kept)
        ≡ Some (if b then kept_after_event e.what kept else kept)
    go true = refl
    go false = refl

ends_first : (R : MessageReader) → ClosesWithLastLine R →
    (K : KeptByNumber) (e : Event) (es : List Event) →
    EndsItsMessage R K (e ∷ es) e
unfolding EndsItsMessage all_lines
ends_first R ending K e es h kept k = search (arith, any_left, all_lines, kept_final)

ends_more : (R : MessageReader) (K : KeptByNumber) (e : Event) (es : List Event) (d : Event) →
    EndsItsMessage R (kept_with K e) es d → EndsItsMessage R K (e ∷ es) d
unfolding EndsItsMessage all_lines
ends_more R K e es d f h kept k =
    any_right (is_last_line_of d.subject.number) (lines_for R e (K e.subject.number))
    (all_lines R (kept_with K e) es)
    (f h (if e.subject.number == d.subject.number then kept_after_event e.what kept else kept)
    (with_some K e d.subject.number kept k))

all_end : (R : MessageReader) → ClosesWithLastLine R → (K : KeptByNumber) (es : List Event) →
    Each (EndsItsMessage R K es) es
all_end R ending K [] = tt
all_end R ending K (e ∷ es) = (
  ends_first R ending K e es,
  each_weaker (EndsItsMessage R (kept_with K e) es) (EndsItsMessage R K (e ∷ es))
      (λ d. ends_more R K e es d) es (all_end R ending (kept_with K e) es),
)

pub is_over_grows : (R : Rules) (p p' : List ℕ) (ls : List StreamLine) (i : ℕ) →
    lines_of_messages R p' ≡ lines_of_messages R p ++ ls
    → is_over R p' i ≡ (is_over R p i || list_any (is_last_line_of i) ls)
unfolding is_over
is_over_grows R p p' ls i sd = search (arith, any_append)

pub known_is : (R : Rules) (p : List ℕ) (i : ℕ) → is_over R p i ≡ false →
    known_of R p i ≡ Some (kept_of i (events R p))
unfolding known_of
known_is R p i h = rw h refl

unfoldable pub IsOverIfFinal : (over : ℕ → Bool) (event : Event) → Type 0
IsOverIfFinal over e = gives_last_line e.what ≡ true → over e.subject.number ≡ true

dead_by : (R : Rules) (p p' : List ℕ) (es : List Event) →
    lines_of_messages R p' ≡ lines_of_messages R p ++ sorted_lines R.reading (known_of R p) es
    → (e : Event) → EndsItsMessage R.reading (known_of R p) es e → IsOverIfFinal (is_over R p') e
unfolding EndsItsMessage IsOverIfFinal sorted_lines
dead_by R p p' es sd e ends h = go (is_over R p i) refl
  where
    i : ℕ
    i = e.subject.number

    go : (b : Bool) → is_over R p i ≡ b → is_over R p' i ≡ true
    go true k = is_over_grows R p p' _ i sd ∙ or_left (is_over R p i) _ k
    go false k =
        let uttered = ends h (kept_of i (events R p)) (known_is R p i k) in
        is_over_grows R p p' _ i sd ∙ or_right (is_over R p i) _
        (last_stands i (λ j. false) (by_class (all_lines R.reading (known_of R p) es)) refl
        (any_by_class (is_last_line_of i) (all_lines R.reading (known_of R p) es) uttered))

pub dead : (R : Rules) → ClosesWithLastLine R.reading → (p p' : List ℕ) (es : List Event)
    → lines_of_messages R p' ≡ lines_of_messages R p ++ sorted_lines R.reading (known_of R p) es →
    Each (IsOverIfFinal (is_over R p')) es
dead R ending p p' es sd = each_weaker (EndsItsMessage R.reading (known_of R p) es) (IsOverIfFinal
    (is_over R p'))
    (dead_by R p p' es sd) es (all_end R.reading ending (known_of R p) es)
