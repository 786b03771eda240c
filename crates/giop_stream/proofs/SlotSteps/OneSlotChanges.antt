-- An event changes at most one slot: the slot of its message.
use Rattle.std.proofs.Common.{◌≡◌, ℕ, zero, suc, ◌<◌, Bool, true, false, not, List, [], ◌∷◌, ◌++◌, refl, sym, ◌∙◌, Some, arith}
use Rattle.std.specs.Prelude.{◌==◌, ◌||◌, slice_get, slice_set}
use Rattle.std.specs.List.{filter, list_any, remove, AllByRecursion as Each}
use Rattle.std.proofs.lemmas.Bool.{eq-eqb, ne_eqb, and_right}
use Rattle.std.proofs.lemmas.List.{map-append}
use Rattle.giop_message.specs.MessageReader.{MessageReader}
use Rattle.giop_stream.specs.Kinds.{is_opener_1_1}
use Rattle.giop_stream.specs.declared.fault.FramingFault.{FramingFault}
use Rattle.giop_stream.specs.Events.{MessageKey, Faults, Event, Open, is_opening_fault, ends_joining}
use Rattle.giop_stream.specs.Lines.{StreamLine, is_last_line_of, up_to_last_line}
use Rattle.giop_stream.specs.OpenSlots.{KeptByNumber, slots_of, Tracked}
use Rattle.giop_stream.specs.Effects.{lines_at, tracked_after_event, lines_of, message_kept_after, lines_for, kept_with, kept_unless_ended, event}
use Rattle.giop_stream.proofs.Lists.{each_weaker, filter_keeps, map_agree}
use Rattle.giop_stream.proofs.StreamLines.LinesOfOctet.{event_lines_number, standing_each}
use Rattle.giop_stream.specs.Events.{NumbersRise}

-- ---- What is kept of messages.

other_last : (i n : ℕ) (ls : List StreamLine) → (i ≡ n → ⊥) → Each (λ l. l.number ≡ n) ls →
    list_any (is_last_line_of i) ls ≡ false
unfolding is_last_line_of
other_last i n [] h k = refl
other_last i n (l ∷ ls) h k = search (arith, ne_eqb, other_last i n ls h k.1)

pub own_then : (R : MessageReader) (c : Tracked) (e : Event) →
    (tracked_after_event R c e).known e.subject.number ≡ message_kept_after R e
    (c.known e.subject.number)
unfolding tracked_after_event kept_unless_ended kept_with message_kept_after lines_at lines_of
own_then R c e = rw (eq-eqb e.subject.number e.subject.number refl) refl

pub others_then : (R : MessageReader) (c : Tracked) (e : Event) (i : ℕ) →
    (i ≡ e.subject.number → ⊥) → (tracked_after_event R c e).known i ≡ c.known i
unfolding tracked_after_event kept_unless_ended kept_with lines_at
others_then R c e i h =
    let mine : Each (λ l. l.number ≡ e.subject.number)
    (up_to_last_line (λ i. false) (lines_for R e (c.known e.subject.number))) =
    standing_each (λ l. l.number ≡ e.subject.number) (λ i. false)
    (lines_for R e (c.known e.subject.number))
    (event_lines_number R (λ n. n ≡ e.subject.number) e (c.known e.subject.number) refl) in
    rw (other_last i e.subject.number _ h mine, ne_eqb e.subject.number i (λ same. h (sym same)))
    refl

-- ---- Whether Fragments of 1.1 are joined.

pub mixes_not : (e : Event) → is_opening_fault e.what ≡ false → ends_joining e ≡ false
unfolding ends_joining
mixes_not e calm = and_right _ _ calm

pub no_opener_mixes : (e : Event) → is_opener_1_1 e.subject.header ≡ false → ends_joining e ≡ false
unfolding ends_joining
no_opener_mixes e other = rw other refl

pub or_nothing : (a b : Bool) → b ≡ false → (a || b) ≡ a
or_nothing true b e = refl
or_nothing false b e = e

-- whether they are joined isn't changed by the event
pub calm_same : (c : Tracked) (e : Event) → ends_joining e ≡ false →
    (c.mixed || ends_joining e) ≡ c.mixed
calm_same c e calm = or_nothing c.mixed (ends_joining e) calm

pub mixed_by : (R : MessageReader) (c : Tracked) (e : Event) →
    (c.mixed || ends_joining e) ≡ c.mixed →
    (tracked_after_event R c e).mixed ≡ c.mixed
unfolding tracked_after_event
mixed_by R c e calm = calm

pub mixed_same : (R : MessageReader) (c : Tracked) (e : Event) → ends_joining e ≡ false →
    (tracked_after_event R c e).mixed ≡ c.mixed
mixed_same R c e calm = mixed_by R c e (calm_same c e calm)

-- a fault that refuses no message of 1.1
pub calm_fault : (c : Tracked) (at : ℕ) (w : MessageKey) (fault : FramingFault) →
    is_opening_fault (Faults fault) ≡ false →
    (c.mixed || ends_joining (event at w (Faults fault))) ≡ c.mixed
calm_fault c at w fault calm =
    calm_same c (event at w (Faults fault)) (mixes_not (event at w (Faults fault)) calm)

-- ---- The slots.

-- if something holds of each element, it holds of the element at an index
pub at_index : {A : Type 0} (P : A → Type 0) (xs : List A) (k : ℕ) (x : A) →
    slice_get xs k ≡ Some x → Each P xs → P x
at_index P [] k x e h = absurd cc
at_index {A} P (a ∷ xs) zero x e h = search (arith)
at_index P (a ∷ xs) (suc k) x e h = at_index P xs k x e h.1

slots_agree : (f g : KeptByNumber) (still_open : List Open) →
    Each (λ o. f o.opener.number ≡ g o.opener.number) still_open →
    slots_of f still_open ≡ slots_of g still_open
unfolding slots_of
slots_agree f g still_open h = search (arith, map_agree, each_weaker)

apart : (o : Open) (still_open : List Open) →
    Each (λ a. o.opener.number < a.opener.number) still_open →
    Each (λ a. a.opener.number ≡ o.opener.number → ⊥) still_open
apart o still_open h = search (arith, each_weaker)

-- If what is kept changes for one open message only, only its slot changes.
pub slot_at : (f g : KeptByNumber) (still_open : List Open) (k : ℕ) (o : Open) →
    NumbersRise still_open → slice_get still_open k ≡ Some o
    → ((i : ℕ) → (i ≡ o.opener.number → ⊥) → f i ≡ g i)
    → slots_of f still_open ≡ slice_set (slots_of g still_open) k
    (record { open_as = o; kept = f o.opener.number })
unfolding slots_of
slot_at f g [] k o r e h = absurd cc
slot_at f g (a ∷ still_open) zero o r e h = search (arith, slots_agree, each_weaker, apart)
slot_at f g (a ∷ still_open) (suc k) o r e h = search (
  arith,
  at_index,
  slot_at f g still_open k o
      r.1 e h,
)

-- if what is kept changes for no open message, no slot changes
pub no_slot : (f g : KeptByNumber) (still_open : List Open) (n : ℕ) →
    Each (λ o. o.opener.number ≡ n → ⊥) still_open
    → ((i : ℕ) → (i ≡ n → ⊥) → f i ≡ g i) → slots_of f still_open ≡ slots_of g still_open
no_slot f g still_open n h k = search (arith, slots_agree, each_weaker)

-- the open messages except one
pub others_open : (still_open : List Open) (k : ℕ) (o : Open) → NumbersRise still_open →
    slice_get still_open k ≡ Some o
    → filter (λ a. not (a.opener.number == o.opener.number)) still_open ≡ remove still_open k
others_open [] k o r e = absurd cc
others_open (a ∷ still_open) zero o r e = search (
  arith,
  not,
  filter_keeps,
  each_weaker,
  ne_eqb,
  apart,
  eq-eqb,
)
others_open (a ∷ still_open) (suc k) o r e = search (
  arith,
  at_index,
  ne_eqb,
  others_open
      still_open k o r.1 e,
)

slots_remove : (f : KeptByNumber) (still_open : List Open) (k : ℕ) →
    slots_of f (remove still_open k) ≡ remove (slots_of f still_open) k
unfolding slots_of
slots_remove f [] zero = refl
slots_remove f [] (suc k) = refl
slots_remove f (o ∷ still_open) zero = refl
slots_remove f (o ∷ still_open) (suc k) = search (arith, slots_remove f still_open k)

not_removed : (still_open : List Open) (k : ℕ) (o : Open) → NumbersRise still_open →
    slice_get still_open k ≡ Some o
    → Each (λ a. a.opener.number ≡ o.opener.number → ⊥) (remove still_open k)
not_removed [] k o r e = absurd cc
not_removed (a ∷ still_open) zero o r e = search (arith, each_weaker, apart)
not_removed (a ∷ still_open) (suc k) o r e = search (
  arith,
  at_index,
  not_removed still_open k o
      r.1 e,
)

-- if an open message closes, its slot is removed
pub slot_gone : (f g : KeptByNumber) (still_open : List Open) (k : ℕ) (o : Open) →
    NumbersRise still_open → slice_get still_open k ≡ Some o →
    ((i : ℕ) → (i ≡ o.opener.number → ⊥) → f i ≡ g i)
    → slots_of f (filter (λ a. not (a.opener.number == o.opener.number)) still_open)
    ≡ remove (slots_of g still_open) k
slot_gone f g still_open k o r e h = rw (others_open still_open k o r e)
    (no_slot f g (remove still_open k) o.opener.number (not_removed still_open k o r e) h
    ∙ slots_remove g still_open k)

-- if a message becomes open, a slot is added at the end
pub slot_comes : (f g : KeptByNumber) (still_open : List Open) (o : Open) →
    Each (λ a. f a.opener.number ≡ g a.opener.number) still_open
    → slots_of f (still_open ++ o ∷ []) ≡ slots_of g still_open
    ++ record { open_as = o; kept = f o.opener.number } ∷ []
unfolding slots_of
slot_comes f g still_open o h = search (arith, map-append, slots_agree)
