-- Through the events of an octet, the numbers of the open messages and of the current one stay,
-- except those of messages that are over after it.
use Rattle.std.proofs.Common.{inl, inr, ◌⊎◌, ◌≡◌, ℕ, ◌<◌, ◌≤◌, Bool, true, false, List, [], ◌∷◌, ◌++◌, length, map, refl, ap, Option, Some, None, arith}
use Rattle.std.specs.Prelude.{◌==◌, if◌then◌else◌}
use Rattle.std.specs.List.{AllByRecursion as Each}
use Rattle.std.proofs.lemmas.Bool.{cases_lt, eq-eqb, ne_eqb, eqb-true}
use Rattle.std.proofs.lemmas.List.{append-nil, map-append}
use Rattle.giop_stream.specs.declared.fault.FramingFault.{FramingFault}
use Rattle.giop_stream.specs.declared.fault.FramingFault.TheVariants.{Short}
use Rattle.giop_message.specs.Headers.{size}
use Rattle.giop_stream.specs.Kinds.{has_fragments, is_any_fragment, lookup_offset}
use Rattle.giop_stream.specs.Framing.{CutMessage}
use Rattle.giop_stream.specs.Events.{EventKind, Opens, Cancelled, Faults, Closes, MessageKey, Event, Open, OpenState, key, own_event, event_of_open, opener_of, events_at_header, events_at_octet, opening_fault, open_events_unless, opening_events, cancel_event, events_at_name, events_at_end, events_of_octet, open_after_event, open_after_events, last_octet_of, naming_events, message_end_events}
use Rattle.giop_stream.specs.OpenSlots.{is_open}
use Rattle.giop_stream.proofs.Events.EventsOfOctet.{opened_append, quiet_header, quiet_octet, quiet_continues, quiet_if, quiet_own, quiet_none, still_faulted}
use Rattle.giop_stream.proofs.Events.MessageKinds.{first_no_fragment, short_first, long_enough, other_long}
use Rattle.giop_stream.proofs.Events.EventsKeep.{NumbersAreBelow}
use Rattle.giop_stream.proofs.StreamLines.LastLines.{any_right, gives_last_line, IsOverIfFinal}
use Rattle.giop_stream.proofs.StreamLines.FirstMessages.{numbers_of, current_if_unopened, open_and_current, without_over, without_number, removed}

-- The numbers that are not over stay through these events.
unfoldable pub KeepsUnfinished : (over : ℕ → Bool) (message : CutMessage) (still_open : List Open)
    (es : List Event) → Type 0
KeepsUnfinished over m still_open es = without_over over (open_and_current
    (open_after_events still_open es) m)
    ≡ without_over over (open_and_current still_open m)

stays_quiet : (over : ℕ → Bool) (m : CutMessage) (still_open : List Open) (es : List Event) →
    open_after_events still_open es ≡ still_open → KeepsUnfinished over m still_open es
unfolding KeepsUnfinished
stays_quiet over m still_open es h = rw h refl

stays_if : (over : ℕ → Bool) (m : CutMessage) (still_open : List Open) (b : Bool)
    (es more : List Event)
    → (b ≡ true → Each (IsOverIfFinal over) es → KeepsUnfinished over m still_open es) →
    (b ≡ false → Each (IsOverIfFinal over) more → KeepsUnfinished over m still_open more)
    → Each (IsOverIfFinal over) (if b then es else more) →
    KeepsUnfinished over m still_open (if b then es else more)
stays_if over m still_open true es more h k d = h refl d
stays_if over m still_open false es more h k d = k refl d

stays_closes : (over : ℕ → Bool) (m : CutMessage) (still_open : List Open) →
    Each (IsOverIfFinal over) (own_event (last_octet_of m) Closes) →
    KeepsUnfinished over m still_open (own_event (last_octet_of m) Closes)
unfolding own_event IsOverIfFinal gives_last_line KeepsUnfinished open_after_events open_after_event
    without_number
stays_closes over m still_open d = removed over m.number still_open m (d.0 refl)

stays_about : (over : ℕ → Bool) (m : CutMessage) (still_open : List Open) (o : Option Open)
    (what : EventKind)
    → ((subject : MessageKey) → open_after_event still_open subject what
    ≡ without_number subject.number still_open) → gives_last_line what ≡ true
    → Each (IsOverIfFinal over) (event_of_open (last_octet_of m) o what) →
    KeepsUnfinished over m still_open (event_of_open (last_octet_of m) o what)
unfolding event_of_open IsOverIfFinal KeepsUnfinished open_after_events
stays_about over m still_open None what c f d = refl
stays_about over m still_open (Some o) what c f d = search (arith, removed)

close_removes : (still_open : List Open) (subject : MessageKey) →
    open_after_event still_open subject Closes ≡ without_number subject.number still_open
unfolding open_after_event without_number
close_removes still_open subject = refl

cancel_removes : (still_open : List Open) (j : ℕ) (subject : MessageKey) →
    open_after_event still_open subject (Cancelled j) ≡ without_number subject.number still_open
unfolding open_after_event without_number
cancel_removes still_open j subject = refl

final_closes : gives_last_line Closes ≡ true
unfolding gives_last_line
final_closes = refl

final_cancelled : (j : ℕ) → gives_last_line (Cancelled j) ≡ true
unfolding gives_last_line
final_cancelled j = refl

stays_end : (over : ℕ → Bool) (b : OpenState) (still_open : List Open) (m : CutMessage) →
    Each (IsOverIfFinal over) (events_at_end b m) → KeepsUnfinished over m still_open
    (events_at_end b m)
unfolding message_end_events
stays_end over b still_open m = search (
  arith,
  stays_if,
  stays_quiet,
  quiet_own,
  still_faulted,
  quiet_none,
  stays_about,
  close_removes,
  final_closes,
  stays_closes,
)

pub not_open : (still_open : List Open) (n : ℕ) → NumbersAreBelow n still_open →
    is_open still_open n ≡ false
unfolding is_open
not_open [] n h = refl
not_open (o ∷ still_open) n h = search (arith, ne_eqb, not_open still_open n h.1)

open_last : (still_open : List Open) (o : Open) →
    is_open (still_open ++ o ∷ []) o.opener.number ≡ true
unfolding is_open
open_last still_open o = search (arith, any_right, eq-eqb)

stays_opens : (over : ℕ → Bool) (m : CutMessage) (still_open : List Open) →
    is_any_fragment m.header ≡ false → NumbersAreBelow m.number still_open → (k : Option ℕ) →
    KeepsUnfinished over m still_open (own_event (last_octet_of m) (Opens k))
unfolding KeepsUnfinished own_event open_after_events open_after_event open_and_current
    current_if_unopened numbers_of
stays_opens over m still_open f low k =
    let o : Open = record { key = k; opener = record { number = m.number; header = m.header } } in
    let now : is_open (still_open ++ o ∷ []) m.number ≡ true = open_last still_open o in
    rw (
      f,
      now,
      not_open still_open m.number low,
      map-append (λ o. o.opener.number) still_open (o ∷ []),
    )
    (ap (without_over over) (append-nil (map (λ o. o.opener.number) still_open ++ m.number ∷ [])))

stays_opening : (over : ℕ → Bool) (m : CutMessage) (still_open : List Open) →
    NumbersAreBelow m.number still_open → is_any_fragment m.header ≡ false
    → (k : Option ℕ) (fault : Option FramingFault) → KeepsUnfinished over m still_open
    (open_events_unless (last_octet_of m) k fault)
stays_opening over m still_open low f k None = stays_opens over m still_open f low k
stays_opening over m still_open low f k (Some fault) = search (
  arith,
  stays_quiet,
  quiet_own,
  still_faulted,
)

stays_cancel : (over : ℕ → Bool) (m : CutMessage) (still_open : List Open) (o : Option Open)
    → Each (IsOverIfFinal over) (cancel_event (last_octet_of m) o) →
    KeepsUnfinished over m still_open (cancel_event (last_octet_of m) o)
stays_cancel over m still_open None d = search (arith, stays_quiet, quiet_none)
stays_cancel over m still_open (Some o) d = search (
  arith,
  stays_if,
  stays_about,
  cancel_removes,
  final_cancelled,
  stays_quiet,
  quiet_none,
)

stays_name : (most : ℕ) (over : ℕ → Bool) (b : OpenState) (m : CutMessage)
    (still_open : List Open) →
    NumbersAreBelow m.number still_open → Each (IsOverIfFinal over) (events_at_name most b m) →
    KeepsUnfinished over m still_open (events_at_name most b m)
unfolding naming_events
stays_name most over b m still_open low = search (
  arith,
  stays_if,
  stays_quiet,
  quiet_continues,
  stays_opening,
  stays_cancel,
  quiet_none,
)

each_left : {A : Type 0} (P : A → Type 0) (xs ys : List A) → Each P (xs ++ ys) → Each P xs
each_left P [] ys h = tt
each_left P (x ∷ xs) ys h = (h.0, each_left P xs ys h.1)

each_right : {A : Type 0} (P : A → Type 0) (xs ys : List A) → Each P (xs ++ ys) → Each P ys
each_right P [] ys h = h
each_right P (x ∷ xs) ys h = each_right P xs ys h.1

stays_both : (over : ℕ → Bool) (m : CutMessage) (still_open : List Open) (es more : List Event) →
    KeepsUnfinished over m still_open es
    → KeepsUnfinished over m (open_after_events still_open es) more →
    KeepsUnfinished over m still_open (es ++ more)
unfolding KeepsUnfinished
stays_both over m still_open es more h k = search (arith, opened_append)

pub stays_events : (most : ℕ) (over : ℕ → Bool) (m : CutMessage) (b : OpenState)
    (still_open : List Open) →
    (length m.payload ≡ lookup_offset m.header → NumbersAreBelow m.number still_open)
    → Each (IsOverIfFinal over) (events_of_octet most b m) →
    KeepsUnfinished over m still_open (events_of_octet most b m)
unfolding events_of_octet
stays_events most over m b still_open low d = search (
  arith,
  quiet_if,
  quiet_header,
  quiet_octet,
  each_right,
  stays_if,
  stays_name,
  eqb-true,
  stays_quiet,
  quiet_none,
  each_left,
  stays_end,
  stays_both,
)

-- When a first message (one that is no Fragment) has its last octet, it is open or over.
unfoldable pub IsOpenOrOver : (over : ℕ → Bool) (still_open : List Open) (message : CutMessage) →
    Type 0
IsOpenOrOver over still_open m = (is_open still_open m.number ≡ true) ⊎ (over m.number ≡ true)

dead_own : (over : ℕ → Bool) (m : CutMessage) (what : EventKind) → gives_last_line what ≡ true →
    Each (IsOverIfFinal over) (own_event (last_octet_of m) what) → over m.number ≡ true
unfolding own_event IsOverIfFinal
dead_own over m what f d = d.0 f

final_faulted : (fault : FramingFault) → gives_last_line (Faults fault) ≡ true
unfolding gives_last_line
final_faulted fault = refl

opens_known : (over : ℕ → Bool) (m : CutMessage) (still_open : List Open) (k : Option ℕ) →
    IsOpenOrOver over (open_after_events still_open (own_event (last_octet_of m) (Opens k))) m
unfolding IsOpenOrOver open_after_events own_event open_after_event
opens_known over m still_open k = inl (open_last still_open
    (record { key = k; opener = record { number = m.number; header = m.header } }))

known_opens : (over : ℕ → Bool) (m : CutMessage) (still_open : List Open) (k : Option ℕ)
    (fault : Option FramingFault) → Each (IsOverIfFinal over) (open_events_unless
    (last_octet_of m) k fault) →
    IsOpenOrOver over (open_after_events still_open (open_events_unless
    (last_octet_of m) k fault)) m
unfolding IsOpenOrOver
known_opens over m still_open k None d = opens_known over m still_open k
known_opens over m still_open k (Some fault) d =
    inr (dead_own over m (Faults fault) (final_faulted fault) d)

opener_end : (b : OpenState) (m : CutMessage) → has_fragments m.header ≡ true →
    lookup_offset m.header ≤ size m.header → events_at_end b m ≡ []
unfolding message_end_events
opener_end b m o h = search (arith, long_enough)

head_end : (b : OpenState) (m : CutMessage) → has_fragments m.header ≡ false →
    is_any_fragment m.header ≡ false → events_at_end b m ≡ own_event (last_octet_of m) Closes
unfolding message_end_events
head_end b m o f = search (arith, other_long)

short_end : (b : OpenState) (m : CutMessage) → has_fragments m.header ≡ true →
    size m.header < lookup_offset m.header →
    events_at_end b m ≡ own_event (last_octet_of m) (Faults Short)
unfolding message_end_events
short_end b m o h = search (arith, short_first)

opener_name : (most : ℕ) (b : OpenState) (m : CutMessage) → has_fragments m.header ≡ true →
    events_at_name most b m ≡ opening_events most b (last_octet_of m) (key m) (opener_of b m)
unfolding naming_events
opener_name most b m o = search (arith, first_no_fragment)

third_none : (b : OpenState) (m : CutMessage) → has_fragments m.header ≡ true →
    lookup_offset m.header ≤ size m.header
    → (if length m.payload == size m.header then events_at_end b m else []) ≡ []
third_none b m o h = search (arith, opener_end)

first_quiet : (b : OpenState) (still_open : List Open) (m : CutMessage) →
    open_after_events still_open (if length m.payload == 0 then events_at_header m else
    events_at_octet
    b m) ≡ still_open
first_quiet b still_open m = search (arith, quiet_if, quiet_header, quiet_octet)

-- the open messages after the three parts of an octet's events
after_parts : (most : ℕ) (b : OpenState) (still_open : List Open) (m : CutMessage)
    (second third : List Event)
    → (if length m.payload == lookup_offset m.header then events_at_name most b m else []) ≡
    second
    → (if length m.payload == size m.header then events_at_end b m else []) ≡ third
    → open_after_events still_open (events_of_octet most b m)
    ≡ open_after_events (open_after_events still_open second) third
unfolding events_of_octet
after_parts most b still_open m second third h k = search (arith, opened_append, first_quiet)

dead_parts : (most : ℕ) (over : ℕ → Bool) (b : OpenState) (m : CutMessage)
    (second third : List Event)
    → (if length m.payload == lookup_offset m.header then events_at_name most b m else []) ≡
    second
    → (if length m.payload == size m.header then events_at_end b m else []) ≡ third →
    Each (IsOverIfFinal over) (events_of_octet most b m)
    → Each (IsOverIfFinal over) (second ++ third)
unfolding events_of_octet
dead_parts most over b m second third h k d = search (arith, each_right)

second_none : (most : ℕ) (b : OpenState) (m : CutMessage) →
    lookup_offset m.header < length m.payload →
    (if length m.payload == lookup_offset m.header then events_at_name most b m else []) ≡ []
second_none most b m h = search (arith, ne_eqb)

pub opener_known : (most : ℕ) (over : ℕ → Bool) (m : CutMessage) (b : OpenState)
    (still_open : List Open) →
    has_fragments m.header ≡ true → lookup_offset m.header ≤ length m.payload
    → length m.payload ≤ size m.header → (lookup_offset m.header < length m.payload →
    IsOpenOrOver over still_open m)
    → Each (IsOverIfFinal over) (events_of_octet most b m) →
    IsOpenOrOver over (open_after_events still_open (events_of_octet most b m)) m
unfolding open_after_events
opener_known most over m b still_open o long fits before d =
    elim (cases_lt (lookup_offset m.header) (length m.payload)) [
      | inl past ↦
          let none : (if length m.payload == size m.header then events_at_end b m else [])
          ≡ [] = third_none b m o (omega arith) in
          rw (after_parts most b still_open m [] [] (second_none most b m past) none)
          (before past)
      | inr least ↦
          let now : length m.payload ≡ lookup_offset m.header = omega arith in
          let fault = opening_fault most b (key m) (opener_of b m) in
          let opening = open_events_unless (last_octet_of m) (key m) fault in
          let two : (if length m.payload == lookup_offset m.header then events_at_name most b m
          else []) ≡ opening =
          rw (eq-eqb (length m.payload) (lookup_offset m.header) now) (opener_name most b m o) in
          let none : (if length m.payload == size m.header then events_at_end b m else [])
          ≡ [] = third_none b m o (omega arith) in
          let dead_two = each_left (IsOverIfFinal over) opening []
          (dead_parts most over b m opening [] two none d) in
          rw (after_parts most b still_open m opening [] two none)
          (known_opens over m still_open (key m) fault dead_two)
    ]

end_dead : (most : ℕ) (over : ℕ → Bool) (b : OpenState) (m : CutMessage) →
    length m.payload ≡ size m.header → Each (IsOverIfFinal over) (events_of_octet most b m) →
    Each (IsOverIfFinal over) (events_at_end b m)
unfolding events_of_octet
end_dead most over b m full d =
    let later = each_right (IsOverIfFinal over)
    (if length m.payload == 0 then events_at_header m else events_at_octet b m) _ d in
    let last = each_right (IsOverIfFinal over)
    (if length m.payload == lookup_offset m.header then events_at_name most b m else []) _ later in
    rw (eq-eqb (length m.payload) (size m.header) full) at last

pub done_known : (most : ℕ) (over : ℕ → Bool) (m : CutMessage) (b : OpenState)
    (still_open : List Open) →
    is_any_fragment m.header ≡ false
    → length m.payload ≡ size m.header → (has_fragments m.header ≡ true →
    lookup_offset m.header < length m.payload →
    IsOpenOrOver over still_open m)
    → Each (IsOverIfFinal over) (events_of_octet most b m) →
    IsOpenOrOver over (open_after_events still_open (events_of_octet most b m)) m
done_known most over m b still_open f full before d = go (has_fragments m.header) refl
  where
    last : Each (IsOverIfFinal over) (events_at_end b m)
    last = end_dead most over b m full d

    go : (c : Bool) → has_fragments m.header ≡ c →
        IsOpenOrOver over (open_after_events still_open (events_of_octet most b m)) m
    go false g = unfold IsOpenOrOver in
        inr (dead_own over m Closes final_closes (rw (head_end b m g f) at last))
    go true g = elim (cases_lt (size m.header) (lookup_offset m.header)) [
      | inl short ↦ unfold IsOpenOrOver in inr (dead_own over m (Faults Short) (final_faulted Short)
          (rw (short_end b m g short) at last))
      | inr long ↦ opener_known most over m b still_open g (omega (arith, full, long))
          (omega (arith, full)) (before g) d
    ]
