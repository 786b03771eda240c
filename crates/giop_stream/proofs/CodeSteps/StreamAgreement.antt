-- An event has the same lines, and the same is kept of its message, by two answers that agree for
-- the message, or if its header has not ended. And what holds of each message holds of each
-- event's.
use Rattle.std.proofs.Common.{arith, ◌≡◌, ℕ, Bool, true, false, List, [], ◌∷◌, ◌++◌, map, flat_map, ◌⊎◌, Option, Some, None, refl, subst}
use Rattle.std.specs.Prelude.{if◌then◌else◌, option_to_list}
use Rattle.std.specs.List.{AllByRecursion as Each}
use Rattle.giop_sig.specs.Table.{Table}
use Rattle.giop_message.specs.Signatures.{Answers}
use Rattle.giop_message.specs.ReaderOfTable.{message_reader}
use Rattle.giop_message.specs.HeaderEnds.{header_noted}
use Rattle.giop_message.proofs.MessageLaws.{header_noted_before, alike_remarks, alike_closes, follows_agree}
use Rattle.giop_message.specs.declared.message.Message.{Message as CodeMessage}
use Rattle.giop_stream.specs.EngineView.{FramingView}
use Rattle.giop_stream.specs.SlotsRepresent.{OpenEntry, RepresentsMessage, AreSlots}
use Rattle.giop_stream.specs.ViewOfState.{Shows}
use Rattle.giop_stream.specs.Rules.{Rules}
use Rattle.giop_stream.specs.Events.{Event, MessageKey, OpenState, Open, EventKind, Begins, Takes, Opens, Continues, Seams, Cancelled, Faults, Closes, message_key, key, opener_of, is_named_fragment, own_event, header_events, events_of_octet, events_of, events_from, events, open_after_events, before_by}
use Rattle.giop_stream.specs.HeaderOctets.{fronts}
use Rattle.giop_stream.specs.Framing.{CutMessage, with_payload, cut, messages}
use Rattle.giop_stream.specs.Lines.{Kept, lines_of_event}
use Rattle.giop_stream.specs.Effects.{kept_after_event}
use Rattle.giop_stream.specs.OpenSlots.{Slot, slots_at}
use Rattle.giop_stream.specs.EngineState.{State, opener_key, owner_of_next, owner_of_next_in}
use Rattle.giop_stream.proofs.Lists.{each_append, each_weaker}
use Rattle.giop_stream.proofs.Cuts.Numbers.{header_of_number, own_header}
use Rattle.giop_stream.proofs.Events.EventsOfOctet.{opened_append, events_of_octet_each, opened_each}
use Rattle.giop_stream.proofs.Events.EventsByEngine.{found_under}

-- one event, if the answers agree after it
pub tells_agree : (C : Table) (a b : Answers) (e : Event) (so_far : Kept) (what : EventKind)
    → (a e.subject.number ≡ b e.subject.number) ⊎
    (header_noted (kept_after_event what so_far).phase e.subject.header
    (kept_after_event what so_far).octets
    ≡ None)
    → lines_of_event (message_reader C a) e so_far (kept_after_event what so_far) what
    ≡ lines_of_event (message_reader C b) e so_far (kept_after_event what so_far) what
unfolding lines_of_event
tells_agree C a b e so_far Begins same = refl
tells_agree C a b e so_far (Takes x) same = search (arith, map, alike_remarks)
tells_agree C a b e so_far (Opens id) same = refl
tells_agree C a b e so_far (Continues i) same = refl
tells_agree C a b e so_far Seams same = refl
tells_agree C a b e so_far (Cancelled j) same = refl
tells_agree C a b e so_far (Faults fault) same = refl
tells_agree C a b e so_far Closes same = search (
  arith,
  map,
  alike_closes,
  header_noted_before,
)

-- ---- the fields of an engine

module _ (C : Table) (a b : Answers) where
  -- if octets are kept of a message, the answers agree for it, or its header has not ended
  abbrev pub AgreesIfKept : (key : MessageKey) (kept : Option Kept) → Type 0
  AgreesIfKept w None = Unit {0}
  AgreesIfKept w (Some kept) = (a w.number ≡ b w.number)
      ⊎ (header_noted kept.phase w.header kept.octets ≡ None)

  kept_agree : (m : Option CodeMessage) (w : MessageKey) (o : Option Kept) → AgreesIfKept w o →
      RepresentsMessage C a m w o → RepresentsMessage C b m w o
  kept_agree (Some m) w (Some kept) same k = search (arith, follows_agree)
  kept_agree None w None same k = tt
  kept_agree (Some m) w None same k = absurd k
  kept_agree None w (Some kept) same k = absurd k

  slots_agree : (ks : List OpenEntry) (slots : List Slot) →
      Each (λ slot. AgreesIfKept slot.open_as.opener slot.kept) slots
      → AreSlots C a ks slots → AreSlots C b ks slots
  slots_agree [] [] same k = tt
  slots_agree (x ∷ ks) (slot ∷ slots) same k = search (
    arith,
    kept_agree,
    slots_agree ks slots
        same.1 k.1,
  )
  slots_agree [] (slot ∷ slots) same k = absurd k
  slots_agree (x ∷ ks) [] same k = absurd k

  pub shows_agree : (f : FramingView) (s : State) →
      Each (λ slot. AgreesIfKept slot.open_as.opener slot.kept) (slots_at s.tracked)
      → ((w : MessageKey) → s.owner ≡ Some w → AgreesIfKept w (s.tracked.known w.number))
      → Shows C a f s → Shows C b f s
  shows_agree f s same each_is h = search (arith, slots_agree, kept_agree)

-- ---- the messages that an engine keeps

pub each_parts : {A : Type 0} (P : A → Type 0) (xs ys : List A) → Each P (xs ++ ys) → Each P xs
    × Each P ys
each_parts P [] ys h = (tt, h)
each_parts P (x ∷ xs) ys h = search (arith, each_parts P xs ys h.1)

module _ (P : MessageKey → Type 0) where
  -- the first event of a message is an event of the message itself
  first_own : (most : ℕ) (b : OpenState) (m : CutMessage) →
      Each (λ e. P e.subject) (events_of most b m) → P (message_key m)
  unfolding events_of events_of_octet header_events own_event with_payload fronts
  first_own most b m h = go m.payload h
    where
      go : (payload : List ℕ)
          → Each (λ e. P e.subject) (flat_map (λ front.
          events_of_octet most b (with_payload m front)) (fronts payload)) →
          P (message_key m)
      go [] k = k.0
      go (x ∷ xs) k = k.0

  pub each_own : (R : Rules) (past : List Event) (ms : List CutMessage) →
      Each (λ e. P e.subject) (events_from R past ms)
      → Each (λ m. P (message_key m)) ms
  unfolding events_from
  each_own R past [] h = tt
  each_own R past (m ∷ ms) h =
      let es = events_of R.most (before_by R past) m in
      let parts = each_parts (λ e. P e.subject) es (events_from R (past ++ es) ms) h in
      (first_own R.most (before_by R past) m parts.0, each_own R (past ++ es) ms parts.1)

-- the owner of the next octet is the current message or an open one
pub of_owner : (P : MessageKey → Type 0) (R : Rules) (p : List ℕ) (w : MessageKey) →
    owner_of_next_in (before_by R (events R p)) (cut p).current ≡ Some w
    → Each (λ e. P e.subject) (events R p) → P w
unfolding events messages before_by owner_of_next opener_of
of_owner P R p w owner h =
    let each_is =
    (each_parts (λ m. P (message_key m)) (cut p).whole (option_to_list (cut p).current)
    (each_own P R [] (messages (cut p)) h)).1 in
    go (cut p).current each_is owner
  where
    b : OpenState
    b = before_by R (events R p)

    other : (m : CutMessage) (o : Option Open) → opener_of b m ≡ o → opener_key o ≡ Some w → P w
    other m None e k = absurd cc
    other m (Some o) e k =
        let same : o.opener ≡ w = cc in
        subst P same (found_under (λ o. P o.opener) b (key m) o
        (opened_each P [] (events R p) tt h) e)

    by : (m : CutMessage) → P (message_key m) → (named : Bool)
        → (if named then opener_key (opener_of b m) else Some (message_key m))
        ≡ Some w → P w
    by m each_is true k = other m (opener_of b m) refl k
    by m each_is false k = search (arith)

    go : (current : Option CutMessage) → Each (λ m. P (message_key m)) (option_to_list current) →
        owner_of_next_in b current ≡ Some w → P w
    go None each_is k = absurd cc
    go (Some m) each_is k = by m each_is.0 (is_named_fragment m) k

-- ---- What holds of each message holds of the message of each event.

module _ (P : MessageKey → Type 0) where
  of_message : (most : ℕ) (b : OpenState) (m : CutMessage) → Each (λ o. P o.opener) b.still_open →
      P (message_key m)
      → Each (λ e. P e.subject) (events_of most b m)
  unfolding events_of
  of_message most b m openers each_is = go (fronts m.payload)
    where
      go : (fs : List (List ℕ)) → Each (λ e. P e.subject)
          (flat_map (λ front. events_of_octet most b (with_payload m front)) fs)
      go [] = tt
      go (f ∷ fs) = search (arith, each_append, events_of_octet_each, each_weaker, go fs)

  of_messages : (R : Rules) (past : List Event) (ms : List CutMessage) →
      Each (λ o. P o.opener) (open_after_events [] past) →
      Each (λ m. P (message_key m)) ms
      → Each (λ e. P e.subject) (events_from R past ms)
  unfolding events_from before_by
  of_messages R past [] openers each_is = tt
  of_messages R past (m ∷ ms) openers each_is =
      let es = events_of R.most (before_by R past) m in
      let first = of_message R.most (before_by R past) m openers each_is.0 in
      each_append (λ e. P e.subject) es _ first
      (of_messages R (past ++ es) ms
      (rw (opened_append [] past es) (opened_each P (open_after_events [] past) es openers first))
      each_is.1)

-- the events of one message number have one header
pub one_header : (R : Rules) (p : List ℕ) → Each
    (λ e. header_of_number (messages (cut p)) e.subject.number ≡ Some e.subject.header)
    (events R p)
unfolding events open_after_events
one_header R p =
    of_messages (λ w. header_of_number (messages (cut p)) w.number ≡ Some w.header) R []
    (messages (cut p)) tt (own_header p)
