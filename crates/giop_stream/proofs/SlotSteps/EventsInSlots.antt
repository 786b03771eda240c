-- What each event does to the slots: which slot changes, is removed or is added.
use Rattle.std.proofs.Common.{arith, inl, inr, ◌≡◌, ℕ, true, false, not, List, [], ◌∷◌, ◌++◌, refl, sym, ap, ◌∙◌, Option, Some, None, append-nil}
use Rattle.std.specs.Prelude.{◌==◌, slice_get, slice_set}
use Rattle.std.specs.List.{filter, remove}
use Rattle.std.proofs.lemmas.Bool.{cases_eq, ne_eqb}
use Rattle.giop_message.specs.MessageReader.{MessageReader}
use Rattle.giop_stream.specs.Events.{EventKind, Begins, Opens, Continues, Cancelled, Closes, MessageKey, Event, Open, octets_of_event, is_opening_fault, open_after_event, NumbersRise}
use Rattle.giop_stream.specs.Lines.{Kept, line, lines_of_event, is_last_line_of, up_to_last_line}
use Rattle.giop_stream.specs.OpenSlots.{slots_of, Tracked, IsNotOpen, slots_at}
use Rattle.giop_stream.specs.Effects.{tracked_after_event, lines_of, message_kept_after, keeps_open_list, closes_message, lines_for}
use Rattle.giop_stream.proofs.Lists.{each_weaker, filter_keeps}
use Rattle.giop_stream.proofs.SlotSteps.OneSlotChanges.{own_then, others_then, mixes_not, mixed_same, slot_at, no_slot, slot_gone, slot_comes}

stays_still_open : (still_open : List Open) (subject : MessageKey) (what : EventKind) →
    keeps_open_list what ≡ true → open_after_event still_open subject what ≡ still_open
unfolding open_after_event
stays_still_open still_open subject (Opens i) h = absurd cc
stays_still_open still_open subject (Cancelled j) h = absurd cc
stays_still_open still_open subject Closes h = absurd cc
stays_still_open still_open subject _ h = refl

goes_still_open : (still_open : List Open) (subject : MessageKey) (what : EventKind) →
    closes_message what ≡ true
    → open_after_event still_open subject what ≡ filter (λ o. not
    (o.opener.number == subject.number))
    still_open
unfolding open_after_event
goes_still_open still_open subject (Cancelled j) h = refl
goes_still_open still_open subject Closes h = refl
goes_still_open still_open subject _ h = absurd cc

still_open_at : (R : MessageReader) (c : Tracked) (e : Event) →
    (tracked_after_event R c e).still_open ≡ open_after_event c.still_open e.subject e.what
unfolding tracked_after_event
still_open_at R c e = refl

-- if an event opens and closes nothing, it changes the slot of its message if that is open
pub slot_stays : (R : MessageReader) (c : Tracked) (e : Event) (k : ℕ) (o : Open) →
    keeps_open_list e.what ≡ true → NumbersRise c.still_open
    → slice_get c.still_open k ≡ Some o → e.subject ≡ o.opener
    → slots_at (tracked_after_event R c e) ≡ slice_set (slots_at c) k
    (record { open_as = o; kept = message_kept_after R e (c.known o.opener.number) })
slot_stays R c e k o h rising here w =
    let number : o.opener.number ≡ e.subject.number = ap (λ (t : MessageKey). t.number) (sym w) in
    let now : (tracked_after_event R c e).known o.opener.number ≡ message_kept_after R e
    (c.known o.opener.number) =
    ap (tracked_after_event R c e).known number ∙ (own_then R c e
    ∙ ap (λ (n : ℕ). message_kept_after R e (c.known n)) (sym number)) in
    rw (still_open_at R c e, stays_still_open c.still_open e.subject e.what h, ← now)
    (slot_at (tracked_after_event R c e).known c.known c.still_open k o rising here
    (λ i other. others_then R c e i (λ same. other (same ∙ sym number))))

-- if the message isn't open, the event changes no slot
pub slots_stay : (R : MessageReader) (c : Tracked) (e : Event) → keeps_open_list e.what ≡ true →
    IsNotOpen e.subject.number c.still_open → slots_at (tracked_after_event R c e) ≡ slots_at c
slots_stay R c e h apart = search (arith, still_open_at, stays_still_open, no_slot, others_then)

-- an event that closes a message removes its slot
pub slot_leaves : (R : MessageReader) (c : Tracked) (e : Event) (k : ℕ) (o : Open) →
    closes_message e.what ≡ true → NumbersRise c.still_open
    → slice_get c.still_open k ≡ Some o → e.subject ≡ o.opener →
    slots_at (tracked_after_event R c e) ≡ remove (slots_at c) k
slot_leaves R c e k o h rising here w =
    let number : o.opener.number ≡ e.subject.number = ap (λ (t : MessageKey). t.number) (sym w) in
    let still_open : (tracked_after_event R c e).still_open
    ≡ filter (λ a. not (a.opener.number == o.opener.number)) c.still_open =
    still_open_at R c e ∙ (goes_still_open c.still_open e.subject e.what h
    ∙ ap (λ (n : ℕ). filter (λ a. not (a.opener.number == n)) c.still_open) (sym number)) in
    ap (slots_of (tracked_after_event R c e).known) still_open
    ∙ slot_gone (tracked_after_event R c e).known c.known c.still_open k o rising here
    (λ i other. others_then R c e i (λ same. other (same ∙ sym number)))

none_there : (still_open : List Open) (n : ℕ) → IsNotOpen n still_open →
    filter (λ o. not (o.opener.number == n)) still_open ≡ still_open
none_there still_open n h = search (arith, filter_keeps, not, each_weaker, ne_eqb)

-- if the message isn't open, the event removes no slot
pub slots_left : (R : MessageReader) (c : Tracked) (e : Event) → closes_message e.what ≡ true →
    IsNotOpen e.subject.number c.still_open → slots_at (tracked_after_event R c e) ≡ slots_at c
slots_left R c e h apart = search (
  arith,
  still_open_at,
  goes_still_open,
  none_there,
  no_slot,
  others_then,
)

-- an event that opens a message changes nothing of what is kept of it
opens_then : (R : MessageReader) (e : Event) (i : Option ℕ) (o : Option Kept) →
    e.what ≡ Opens i →
    message_kept_after R e o ≡ o
unfolding message_kept_after lines_of lines_for lines_of_event up_to_last_line octets_of_event
opens_then R e i None h = refl
opens_then R e i (Some kept) h = search (arith, append-nil)

opens_still_open : (still_open : List Open) (subject : MessageKey) (what : EventKind)
    (i : Option ℕ) → what ≡ Opens i
    → open_after_event still_open subject what ≡ still_open ++ record {
      key = i;
      opener =
          subject;
    } ∷ []
unfolding open_after_event
opens_still_open still_open subject what i h = rw h refl

-- an event that opens a message adds a slot
pub slot_opens : (R : MessageReader) (c : Tracked) (e : Event) (i : Option ℕ) → e.what ≡ Opens i →
    IsNotOpen e.subject.number c.still_open
    → slots_at (tracked_after_event R c e)
    ≡ slots_at c ++ record {
      open_as = record { key = i; opener = e.subject };
      kept =
          c.known e.subject.number;
    } ∷ []
slot_opens R c e i h apart =
    let o : Open = record { key = i; opener = e.subject } in
    let now : (tracked_after_event R c e).known e.subject.number ≡ c.known e.subject.number =
    own_then R c e ∙ opens_then R e i (c.known e.subject.number) h in
    let others =
    each_weaker {A = Open} (λ a. a.opener.number ≡ e.subject.number → ⊥)
    (λ a. (tracked_after_event R c e).known a.opener.number ≡ c.known a.opener.number)
    (λ a j. others_then R c e a.opener.number j) c.still_open apart in
    ap (slots_of (tracked_after_event R c e).known)
    (still_open_at R c e ∙ opens_still_open c.still_open e.subject e.what i h)
    ∙ (slot_comes (tracked_after_event R c e).known c.known c.still_open o others
    ∙ ap (λ (xs : Option Kept). slots_at c ++ record { open_as = o; kept = xs } ∷ []) now)

quiet_then : (R : MessageReader) (e : Event) (n : ℕ) (o : Option Kept) → e.what ≡ Continues n →
    message_kept_after R e o ≡ o
unfolding message_kept_after lines_of lines_for lines_of_event line up_to_last_line octets_of_event
    is_last_line_of
quiet_then R e n None h = refl
quiet_then R e n (Some kept) h = search (arith, append-nil)

-- an event that opens and closes nothing, keeps what is kept, and refuses nothing, changes nothing
-- that is tracked
tracked_same : (R : MessageReader) (c : Tracked) (e : Event) →
    open_after_event c.still_open e.subject e.what ≡ c.still_open →
    is_opening_fault e.what ≡ false →
    ((o : Option Kept) → message_kept_after R e o ≡ o) → tracked_after_event R c e ≡ c
tracked_same R c e still calm same = λ j. record {
  still_open = still_open j;
  mixed = mixed j;
  known = λ i. known i j;
}
  where
    still_open : (tracked_after_event R c e).still_open ≡ c.still_open
    still_open = still_open_at R c e ∙ still

    mixed : (tracked_after_event R c e).mixed ≡ c.mixed
    mixed = mixed_same R c e (mixes_not e calm)

    known : (i : ℕ) → (tracked_after_event R c e).known i ≡ c.known i
    known i =
        elim (cases_eq i e.subject.number) [
          | inl is ↦ rw is (own_then R c e ∙ same (c.known e.subject.number))
          | inr other ↦ others_then R c e i other
        ]

-- a Fragment that continues a message changes nothing that is tracked
pub tracked_stays : (R : MessageReader) (c : Tracked) (e : Event) (n : ℕ) → e.what ≡ Continues n →
    tracked_after_event R c e ≡ c
unfolding open_after_event
tracked_stays R c e n h = tracked_same R c e (rw h refl) (rw h refl) (λ o. quiet_then R e n o h)

begins_then : (R : MessageReader) (e : Event) (o : Option Kept) → e.what ≡ Begins →
    message_kept_after R e o ≡ o
unfolding message_kept_after lines_of lines_for lines_of_event line up_to_last_line octets_of_event
    is_last_line_of
begins_then R e None h = refl
begins_then R e (Some kept) h = search (arith, append-nil)

-- a message that begins changes nothing that is tracked
pub tracked_begins : (R : MessageReader) (c : Tracked) (e : Event) → e.what ≡ Begins →
    tracked_after_event R c e ≡ c
unfolding open_after_event
tracked_begins R c e h = tracked_same R c e (rw h refl) (rw h refl) (λ o. begins_then R e o h)
