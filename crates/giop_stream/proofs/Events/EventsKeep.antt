-- Properties of the open messages that the events of an octet keep.
use Rattle.std.proofs.Common.{◌≡◌, ℕ, ◌<◌, ◌≤◌, Bool, true, false, cond, not, List, [], ◌∷◌, ◌++◌, length, refl, Option, Some, None, arith}
use Rattle.std.specs.List.{filter, find, AllByRecursion as Each}
use Rattle.std.specs.Prelude.{if◌then◌else◌, ◌&&◌, is_none, nat_le}
use Rattle.std.proofs.lemmas.Bool.{leb-false, eqb-true, eq-eqb}
use Rattle.std.proofs.lemmas.List.{length_push}
use Rattle.giop_stream.specs.declared.fault.FramingFault.{FramingFault}
use Rattle.giop_stream.specs.declared.fault.FramingFault.TheVariants.{OldFragment, TooManyOpen}
use Rattle.giop_stream.specs.Kinds.{has_fragments, lookup_offset}
use Rattle.giop_stream.specs.Framing.{CutMessage}
use Rattle.giop_stream.specs.Events.{EventKind, Opens, Cancelled, Faults, Closes, MessageKey, Event, Open, OpenState, message_key, own_event, event_of_open, id, key, is_same_id, open_message_1_1, open_under, opener_of, already_open_fault, fault_if_full, open_events_unless, opening_events, cancel_event, events_at_name, events_at_end, events_of_octet, open_after_event, open_after_events, NumbersRise, last_octet_of, naming_events, message_end_events}
use Rattle.giop_stream.proofs.Lists.{each_append, each_filter}
use Rattle.giop_stream.proofs.Events.EventsOfOctet.{opened_append, quiet_if, quiet_header, quiet_octet, quiet_continues}

-- ---- A property is kept if it passes to fewer open messages, and to one more when an opener
-- becomes open.

unfoldable pub opened_by : (message : CutMessage) → Open
opened_by m = record { key = key m; opener = message_key m }

-- the case in which m becomes open
pub record CanOpen (most : ℕ) (b : OpenState) (m : CutMessage) : Type 0 where
  pub named : length m.payload ≡ lookup_offset m.header
  pub opener : has_fragments m.header ≡ true
  pub none : opener_of b m ≡ None
  pub clear : (is_none (key m) && b.mixed) ≡ false
  pub room : length b.still_open < most

pub record IsKeptByOpening (most : ℕ) (Q : List Open → Type 0) (before : OpenState)
    (message : CutMessage) : Type 0 where
  pub fewer : (test : Open → Bool) (still_open : List Open) → Q still_open →
      Q (filter test still_open)
  pub more : CanOpen most before message → Q before.still_open → Q
      (before.still_open ++ opened_by message ∷ [])

module _ (most : ℕ) (Q : List Open → Type 0) (b : OpenState) (m : CutMessage)
    (k : IsKeptByOpening most Q b m) where
  -- an event that opens no message keeps Q
  abbrev Plain : (what : EventKind) → Type 0
  Plain what = (still_open : List Open) (subject : MessageKey) → Q still_open →
      Q (open_after_event still_open subject what)

  plain_own : (still_open : List Open) (what : EventKind) → Plain what → Q still_open →
      Q (open_after_events still_open (own_event (last_octet_of m) what))
  unfolding open_after_events own_event
  plain_own still_open what h q = search (arith)

  plain_about : (still_open : List Open) (o : Option Open) (what : EventKind) → Plain what →
      Q still_open → Q (open_after_events still_open (event_of_open (last_octet_of m) o what))
  unfolding open_after_events event_of_open
  plain_about still_open None what h q = q
  plain_about still_open (Some o) what h q = h still_open o.opener q

  plain_closes : Plain Closes
  unfolding open_after_event
  plain_closes still_open subject q = search (arith, not)

  plain_cancelled : (j : ℕ) → Plain (Cancelled j)
  unfolding open_after_event
  plain_cancelled j still_open subject q = search (arith, not)

  plain_faulted : (fault : FramingFault) → Plain (Faults fault)
  unfolding open_after_event
  plain_faulted fault still_open subject q = q

  kept_if : (still_open : List Open) (c : Bool) (es more : List Event) →
      (c ≡ true → Q (open_after_events still_open es))
      → (c ≡ false → Q (open_after_events still_open more)) →
      Q (open_after_events still_open (if c then es else more))
  kept_if still_open true es more h j = h refl
  kept_if still_open false es more h j = j refl

  kept_none : (still_open : List Open) → Q still_open → Q (open_after_events still_open [])
  unfolding open_after_events
  kept_none still_open q = q

  kept_end : (still_open : List Open) → Q still_open →
      Q (open_after_events still_open (events_at_end b m))
  unfolding message_end_events
  kept_end still_open q = search (
    arith,
    kept_if,
    plain_own,
    plain_faulted,
    kept_none,
    plain_about,
    plain_closes,
  )

  now_open : CanOpen most b m → Q b.still_open →
      Q (open_after_events b.still_open (own_event (last_octet_of m) (Opens (key m))))
  unfolding own_event open_after_events open_after_event opened_by
  now_open can q = k.more can q

  kept_refused : (fault : FramingFault) → Q b.still_open →
      Q (open_after_events b.still_open (own_event (last_octet_of m) (Faults fault)))
  kept_refused fault q = plain_own b.still_open (Faults fault) (plain_faulted fault) q

  kept_room : (c d : Bool) → (is_none (key m) && b.mixed) ≡ c
      → nat_le most (length b.still_open) ≡ d
      → length m.payload ≡ lookup_offset m.header → has_fragments m.header ≡ true →
      opener_of b m ≡ None → Q b.still_open
      → Q (open_after_events b.still_open (open_events_unless (last_octet_of m) (key m)
      (if c then Some OldFragment else if d then Some TooManyOpen else None)))
  kept_room true d e full named o none q = kept_refused OldFragment q
  kept_room false true e full named o none q = kept_refused TooManyOpen q
  kept_room false false e full named o none q =
      now_open (record {
        named = named;
        opener = o;
        none = none;
        clear = e;
        room = leb-false most (length b.still_open) full;
      }) q

  kept_opens : length m.payload ≡ lookup_offset m.header → has_fragments m.header ≡ true →
      Q b.still_open → (w : Option Open) → opener_of b m ≡ w →
      Q (open_after_events b.still_open (opening_events most b (last_octet_of m) (key m) w))
  kept_opens named o q (Some other) e = kept_refused (already_open_fault (key m)) q
  kept_opens named o q None e = kept_room (is_none (key m) && b.mixed)
      (nat_le most (length b.still_open)) refl refl named o e q

  kept_cancel : Q b.still_open → (o : Option Open) →
      Q (open_after_events b.still_open (cancel_event (last_octet_of m) o))
  kept_cancel q None = kept_none b.still_open q
  kept_cancel q (Some o) = search (arith, kept_if, plain_about, plain_cancelled, kept_none)

  pub kept_name : length m.payload ≡ lookup_offset m.header → Q b.still_open →
      Q (open_after_events b.still_open (events_at_name most b m))
  unfolding naming_events
  kept_name named q = search (
    arith,
    kept_if,
    quiet_continues,
    kept_opens,
    kept_cancel,
    kept_none,
  )

  kept_parts : Q b.still_open → Q (open_after_events b.still_open (events_of_octet most b m))
  unfolding events_of_octet
  kept_parts q = search (
    arith,
    quiet_if,
    quiet_header,
    quiet_octet,
    kept_if,
    kept_name,
    eqb-true,
    kept_none,
    opened_append,
    kept_end,
  )

pub kept_events : (most : ℕ) (Q : List Open → Type 0) (b : OpenState) (m : CutMessage) →
    IsKeptByOpening most Q b m → Q b.still_open → Q (open_after_events b.still_open
    (events_of_octet most b m))
kept_events most Q b m k q = kept_parts most Q b m k q

-- ---- The numbers of the open messages rise.

abbrev pub NumbersAreBelow : (n : ℕ) (still_open : List Open) → Type 0
NumbersAreBelow n still_open = Each (λ o. o.opener.number < n) still_open

rising_by : (test : Open → Bool) (o : Open) (still_open : List Open) (b : Bool)
    → Each (λ a. o.opener.number < a.opener.number) still_open →
    NumbersRise (filter test still_open)
    → NumbersRise (cond b (o ∷ filter test still_open) (filter test still_open))
rising_by test o still_open true h k = search (arith, each_filter)
rising_by test o still_open false h k = k

pub rising_filter : (test : Open → Bool) (still_open : List Open) → NumbersRise still_open →
    NumbersRise (filter test still_open)
rising_filter test [] h = tt
rising_filter test (o ∷ still_open) h = search (arith, rising_by, rising_filter test still_open h.1)

pub rising_push : (still_open : List Open) (o : Open) → NumbersRise still_open →
    NumbersAreBelow o.opener.number still_open → NumbersRise (still_open ++ o ∷ [])
rising_push [] o h k = (tt, tt)
rising_push (a ∷ still_open) o h k = search (arith, each_append, rising_push still_open o h.1 k.1)

pub rising_events : (most : ℕ) (b : OpenState) (m : CutMessage) → NumbersRise b.still_open →
    (length m.payload ≡ lookup_offset m.header → NumbersAreBelow m.number b.still_open) →
    NumbersRise (open_after_events b.still_open (events_of_octet most b m))
rising_events most b m r h =
    kept_events most NumbersRise b m (record {
      fewer = rising_filter;
      more = λ can q. unfold opened_by in rising_push b.still_open
          (record { key = key m; opener = message_key m }) q (h can.named);
    }) r

-- ---- There are at most as many open messages as may be open.

unfoldable pub IsWithinLimit : (most : ℕ) (still_open : List Open) → Type 0
IsWithinLimit most still_open = length still_open ≤ most

filter_short : (test : Open → Bool) (still_open : List Open) →
    length (filter test still_open) ≤ length still_open
filter_short test [] = omega arith
filter_short test (o ∷ still_open) = search (arith, cond, filter_short test still_open)

few_filter : (most : ℕ) (test : Open → Bool) (still_open : List Open) →
    IsWithinLimit most still_open →
    IsWithinLimit most (filter test still_open)
unfolding IsWithinLimit
few_filter most test still_open h = search (arith, filter_short)

few_push : (most : ℕ) (still_open : List Open) (o : Open) → length still_open < most →
    IsWithinLimit most (still_open ++ o ∷ [])
unfolding IsWithinLimit
few_push most still_open o h = search (arith, length_push)

pub few_events : (most : ℕ) (b : OpenState) (m : CutMessage) → IsWithinLimit most b.still_open →
    IsWithinLimit most (open_after_events b.still_open (events_of_octet most b m))
few_events most b m h = kept_events most (IsWithinLimit most) b m
    (record {
      fewer = few_filter most;
      more =
          λ can q. few_push most b.still_open (opened_by m) can.room;
    }) h

-- ---- No two open messages have the same key.

abbrev pub KeysDiffer : (still_open : List Open) → Type 0
KeysDiffer [] = Unit {0}
KeysDiffer (o ∷ still_open) = Each (λ a. a.key ≡ o.key → ⊥) still_open × KeysDiffer still_open

differ_by : (test : Open → Bool) (o : Open) (still_open : List Open) (b : Bool) →
    Each (λ a. a.key ≡ o.key → ⊥) still_open
    → KeysDiffer (filter test still_open) → KeysDiffer
    (cond b (o ∷ filter test still_open) (filter test still_open))
differ_by test o still_open true h k = search (arith, each_filter)
differ_by test o still_open false h k = k

differ_filter : (test : Open → Bool) (still_open : List Open) → KeysDiffer still_open →
    KeysDiffer (filter test still_open)
differ_filter test [] h = tt
differ_filter test (o ∷ still_open) h = search (arith, differ_by, differ_filter test still_open h.1)

differ_push : (still_open : List Open) (o : Open) → KeysDiffer still_open →
    Each (λ a. a.key ≡ o.key → ⊥) still_open → KeysDiffer (still_open ++ o ∷ [])
differ_push [] o h k = (tt, tt)
differ_push (a ∷ still_open) o h k = search (arith, each_append, differ_push still_open o h.1 k.1)

-- no open message has the key of a message for which none is found
pub key_apart : (i : ℕ) (k : Option ℕ) → is_same_id k (Some i) ≡ false → (k ≡ Some i → ⊥)
key_apart i None e is = absurd cc
key_apart i (Some id) e is = search (arith, eq-eqb)

keyed : (k : Option ℕ) → is_none k ≡ false → (k ≡ None → ⊥)
keyed None e is = absurd cc
keyed (Some id) e is = absurd cc

none_by : (k : Option ℕ) (test : Open → Bool) → ((a : Open) → test a ≡ false → (a.key ≡ k → ⊥)) →
    (a : Open) (still_open : List Open) (b : Bool) → test a ≡ b
    → (find test still_open ≡ None → Each (λ a. a.key ≡ k → ⊥) still_open)
    → (if b then Some a else find test still_open) ≡ None
    → (a.key ≡ k → ⊥) × Each (λ a. a.key ≡ k → ⊥) still_open
none_by k test apart a still_open true e ih h = absurd cc
none_by k test apart a still_open false e ih h = (apart a e, ih h)

none_found : (k : Option ℕ) (test : Open → Bool) →
    ((a : Open) → test a ≡ false → (a.key ≡ k → ⊥)) → (still_open : List Open) →
    find test still_open ≡ None → Each (λ a. a.key ≡ k → ⊥) still_open
none_found k test apart [] h = tt
none_found k test apart (a ∷ still_open) h = none_by k test apart a still_open (test a) refl
    (none_found k test apart still_open) h

none_under : (b : OpenState) (k : Option ℕ) → open_under b k ≡ None →
    (is_none k && b.mixed) ≡ false →
    Each (λ a. a.key ≡ k → ⊥) b.still_open
unfolding open_message_1_1
none_under b None none clear = none_found None (λ o. is_none o.key) (λ a. keyed a.key) b.still_open
    (rw clear at none)
none_under b (Some i) none clear = none_found (Some i) (λ o. is_same_id o.key (Some i))
    (λ a. key_apart i a.key) b.still_open none

pub differ_events : (most : ℕ) (b : OpenState) (m : CutMessage) → KeysDiffer b.still_open →
    KeysDiffer (open_after_events b.still_open (events_of_octet most b m))
unfolding opener_of opened_by
differ_events most b m h =
    kept_events most KeysDiffer b m (record {
      fewer = differ_filter;
      more = λ can q. differ_push b.still_open (record { key = key m; opener = message_key m }) q
          (none_under b (key m) can.none can.clear);
    }) h

-- ---- Each open message is an opener.

unfoldable pub AreOpeners : (still_open : List Open) → Type 0
AreOpeners still_open = Each (λ o. has_fragments o.opener.header ≡ true) still_open

openers_filter : (test : Open → Bool) (still_open : List Open) → AreOpeners still_open →
    AreOpeners (filter test still_open)
unfolding AreOpeners
openers_filter test still_open h = search (arith, each_filter)

openers_push : (still_open : List Open) (o : Open) → AreOpeners still_open →
    has_fragments o.opener.header ≡ true → AreOpeners (still_open ++ o ∷ [])
unfolding AreOpeners
openers_push still_open o h k = search (arith, each_append)

pub openers_events : (most : ℕ) (b : OpenState) (m : CutMessage) → AreOpeners b.still_open →
    AreOpeners (open_after_events b.still_open (events_of_octet most b m))
openers_events most b m h =
    kept_events most AreOpeners b m (record {
      fewer = openers_filter;
      more = λ can q. unfold opened_by in openers_push b.still_open
          (record { key = key m; opener = message_key m }) q can.opener;
    }) h
