-- At most one open message has no key, and only where Fragments of 1.1 are joined. They are joined
-- to no message that has a key or isn't open.
use Rattle.std.proofs.Common.{inl, inr, ◌≡◌, ℕ, ◌+◌, ◌≤◌, Bool, true, false, cond, not, List, [], ◌∷◌, ◌++◌, refl, sym, ap, ◌∙◌, Option, Some, None, is_none, arith}
use Rattle.std.specs.Prelude.{◌==◌, option_map, if◌then◌else◌}
use Rattle.std.specs.List.{filter, find, list_any, AllByRecursion as Each}
use Rattle.std.proofs.lemmas.Bool.{cases_eq, eqb-true}
use Rattle.giop_stream.specs.declared.fault.FramingFault.{FramingFault}
use Rattle.giop_stream.specs.declared.fault.FramingFault.TheVariants.{FragmentOrder}
use Rattle.giop_message.specs.MessageReader.{MessageReader, ClosesWithLastLine}
use Rattle.giop_message.specs.Phases.{unbroken}
use Rattle.giop_stream.specs.Kinds.{is_fragmented_1_1, may_be_cancelled}
use Rattle.giop_stream.specs.Framing.{CutMessage}
use Rattle.giop_stream.specs.Events.{EventKind, Begins, Takes, Opens, Continues, Seams, Cancelled, Faults, Closes, OpenState, Event, MessageKey, MessageOctet, Open, own_event, event_of_open, fault_events, header_events, payload_events, opening_events, open_events_unless, already_open_fault, fragment_events, seam_events, order_fault_events, cancel_event, open_message_1_1, open_under, opener_of, key, last_octet_of, naming_events, message_end_events, events_with_key, events_of_octet, open_after_event, open_after_events}
use Rattle.giop_stream.specs.Lines.{Kept, is_last_line_of}
use Rattle.giop_stream.specs.OpenSlots.{Tracked}
use Rattle.giop_stream.specs.Effects.{kept_after_event, message_kept_after, lines_of, lines_for, tracked_after_event, effects}
use Rattle.giop_stream.specs.Reloading.{lacks_key, without_key}
use Rattle.giop_stream.proofs.Lists.{each_append, each_filter}
use Rattle.giop_stream.proofs.Events.EventsOfOctet.{quiet_if, quiet_header, quiet_octet}
use Rattle.giop_stream.proofs.StreamLines.LastLines.{gives_last_line, kept_final, last_stands}
use Rattle.giop_stream.proofs.SlotSteps.OneSlotChanges.{own_then, others_then}

-- ---- Lists of open messages.

-- each of these open messages with this number has a key
abbrev pub IsKeyed : (i : ℕ) (still_open : List Open) → Type 0
IsKeyed i still_open = Each (λ o. o.opener.number ≡ i → o.key ≡ None → ⊥) still_open

abbrev pub keyless : (still_open : List Open) → ℕ
keyless still_open = without_key (λ o. o.key) still_open

keyless_push : (still_open : List Open) (o : Open) →
    keyless (still_open ++ o ∷ []) ≡ keyless still_open + lacks_key o.key
keyless_push [] o = omega arith
keyless_push (a ∷ still_open) o = omega (arith, keyless_push still_open o)

keyless_by : (b : Bool) (o : Open) (fewer still_open : List Open) →
    keyless fewer ≤ keyless still_open →
    keyless (cond b (o ∷ fewer) fewer) ≤ lacks_key o.key + keyless still_open
keyless_by true o fewer still_open h = omega (arith, h)
keyless_by false o fewer still_open h = omega (arith, h)

keyless_filter : (test : Open → Bool) (still_open : List Open) →
    keyless (filter test still_open) ≤ keyless still_open
keyless_filter test [] = omega arith
keyless_filter test (o ∷ still_open) =
    keyless_by (test o) o (filter test still_open) still_open (keyless_filter test still_open)

each_front : {A : Type 0} (P : A → Type 0) (xs ys : List A) → Each P (xs ++ ys) → Each P xs
each_front P [] ys h = tt
each_front P (x ∷ xs) ys h = (h.0, each_front P xs ys h.1)

unfiltered_by : (P : Open → Type 0) (b : Bool) (o : Open) (fewer still_open : List Open) →
    (b ≡ false → P o) → (Each P fewer → Each P still_open) → Each P (cond b (o ∷ fewer) fewer) →
    Each P (o ∷ still_open)
unfiltered_by P true o fewer still_open apart rest h = (h.0, rest h.1)
unfiltered_by P false o fewer still_open apart rest h = (apart refl, rest h)

each_unfiltered : (P : Open → Type 0) (test : Open → Bool) → ((o : Open) → test o ≡ false → P o) →
    (still_open : List Open) → Each P (filter test still_open) → Each P still_open
each_unfiltered P test apart [] h = tt
each_unfiltered P test apart (o ∷ still_open) h =
    unfiltered_by P (test o) o (filter test still_open) still_open (apart o)
    (each_unfiltered P test apart still_open) h

-- the first open message without a key
none_by : (key : Option ℕ) (o : Open) (found : Option Open) (n : ℕ) → (found ≡ None → n ≡ 0) →
    cond (is_none key) (Some o) found ≡ None → lacks_key key + n ≡ 0
none_by None o found n rest e = absurd cc
none_by (Some id) o found n rest e = omega (arith, rest e)

none_found : (still_open : List Open) → find (λ o. is_none o.key) still_open ≡ None →
    keyless still_open ≡ 0
none_found [] e = refl
none_found (o ∷ still_open) e =
    none_by o.key o _ (keyless still_open) (none_found still_open) e

found_by : (key : Option ℕ) (a o : Open) (found : Option Open) (rest : found ≡ Some o → ⊥) →
    (a.opener.number ≡ o.opener.number → key ≡ None → ⊥) →
    cond (is_none key) (Some a) found ≡ Some o → ⊥
found_by None a o found rest keyed e =
    let is : Some a ≡ Some o = e in
    let same : a ≡ o = cc in
    keyed (ap (λ (b : Open). b.opener.number) same) refl
found_by (Some id) a o found rest keyed e = rest e

found_keyless : (still_open : List Open) (o : Open) →
    find (λ o. is_none o.key) still_open ≡ Some o → IsKeyed o.opener.number still_open → ⊥
found_keyless [] o e keyed = absurd cc
found_keyless (a ∷ still_open) o e keyed =
    found_by a.key a o _ (λ rest. found_keyless still_open o rest keyed.1) keyed.0 e

-- ---- What an event may be, if these messages are open before it: it opens a message without a key
-- only if none is open, and where Fragments of 1.1 are joined; and their octets are joined to a
-- message without a key.

abbrev pub IsAllowedEvent : (joins : Bool) (still_open : List Open) (key : MessageKey)
    (what : EventKind) →
    Type 0
IsAllowedEvent joins still_open w (Opens None) = (keyless still_open ≡ 0) × (joins ≡ true)
IsAllowedEvent joins still_open w Seams = IsKeyed w.number still_open → ⊥
IsAllowedEvent joins still_open w what = Unit {0}

unfoldable pub AreAllowedEvents : (joins : Bool) (still_open : List Open) (events : List Event) →
    Type 0
AreAllowedEvents joins still_open [] = Unit {0}
AreAllowedEvents joins still_open (e ∷ es) =
    IsAllowedEvent joins still_open e.subject e.what × AreAllowedEvents joins
    (open_after_event still_open e.subject e.what) es

module _ (joins : Bool) where
  may_append : (still_open : List Open) (es more : List Event) →
      AreAllowedEvents joins still_open es →
      AreAllowedEvents joins (open_after_events still_open es) more →
      AreAllowedEvents joins still_open (es ++ more)
  unfolding open_after_events AreAllowedEvents
  may_append still_open [] more h k = k
  may_append still_open (e ∷ es) more h k =
      (h.0, may_append (open_after_event still_open e.subject e.what) es more h.1 k)

  may_none : (still_open : List Open) → AreAllowedEvents joins still_open []
  unfolding AreAllowedEvents
  may_none still_open = tt

  may_own : (still_open : List Open) (now : MessageOctet) (what : EventKind) →
      IsAllowedEvent joins still_open now.subject what →
      AreAllowedEvents joins still_open (own_event now what)
  unfolding own_event AreAllowedEvents
  may_own still_open now what h = (h, tt)

  may_about : (still_open : List Open) (now : MessageOctet) (other : Option Open)
      (what : EventKind) →
      ((o : Open) → other ≡ Some o → IsAllowedEvent joins still_open o.opener what) →
      AreAllowedEvents joins still_open (event_of_open now other what)
  unfolding event_of_open AreAllowedEvents
  may_about still_open now None what h = tt
  may_about still_open now (Some o) what h = (h o refl, tt)

  may_if : (still_open : List Open) (b : Bool) (es more : List Event) →
      (b ≡ true → AreAllowedEvents joins still_open es) → (b ≡ false →
      AreAllowedEvents joins still_open more) →
      AreAllowedEvents joins still_open (if b then es else more)
  may_if still_open true es more h k = h refl
  may_if still_open false es more h k = k refl

  may_fault : (still_open : List Open) (now : MessageOctet) (fault : Option FramingFault) →
      AreAllowedEvents joins still_open (fault_events now fault)
  may_fault still_open now None = may_none still_open
  may_fault still_open now (Some fault) = may_own still_open now (Faults fault) tt

  may_header : (still_open : List Open) (now : MessageOctet) →
      AreAllowedEvents joins still_open (header_events now)
  unfolding header_events
  may_header still_open now = search (arith, may_append, may_own, may_fault)

  may_payload : (still_open : List Open) (now : MessageOctet) (other : Option Open) →
      AreAllowedEvents joins still_open (payload_events now other)
  unfolding payload_events
  may_payload still_open now other = search (arith, may_if, may_about, may_own)

  may_end : (still_open : List Open) (now : MessageOctet) (other : Option Open) →
      AreAllowedEvents joins still_open (message_end_events now other)
  unfolding message_end_events
  may_end still_open now other = search (arith, may_if, may_about, may_own, may_none)

  module _ (most : ℕ) (b : OpenState) (joined : b.mixed ≡ false →
      joins ≡ true) (now : MessageOctet) where
    pending_found : (o : Open) → open_message_1_1 b ≡ Some o →
        IsKeyed o.opener.number b.still_open → ⊥
    unfolding open_message_1_1
    pending_found o e = go b.mixed e
      where
        go : (m : Bool) →
            (if m then None else find (λ o. is_none o.key) b.still_open) ≡ Some o →
            IsKeyed o.opener.number b.still_open → ⊥
        go true e = absurd cc
        go false e = found_keyless b.still_open o e

    pending_none : b.mixed ≡ false → open_message_1_1 b ≡ None → keyless b.still_open ≡ 0
    unfolding open_message_1_1
    pending_none free e = none_found b.still_open (rw free at e)

    may_unless : (key : Option ℕ) (fault : Option FramingFault) →
        (fault ≡ None → IsAllowedEvent joins b.still_open now.subject (Opens key)) →
        AreAllowedEvents joins b.still_open (open_events_unless now key fault)
    may_unless key None h = may_own b.still_open now (Opens key) (h refl)
    may_unless key (Some fault) h = may_own b.still_open now (Faults fault) tt

    unmixed : (m : Bool) (rest : Option FramingFault) (fault : FramingFault) →
        (if m then Some fault else rest) ≡ None → m ≡ false
    unmixed true rest fault e = absurd cc
    unmixed false rest fault e = refl

    may_open : (key : Option ℕ) (other : Option Open) → open_under b key ≡ other →
        AreAllowedEvents joins b.still_open (opening_events most b now key other)
    may_open key (Some o) e = may_own b.still_open now (Faults (already_open_fault key)) tt
    may_open (Some id) None e = may_unless (Some id) _ (λ free. tt)
    may_open None None e =
        may_unless None _ (λ free. let not_mixed = unmixed b.mixed _ _ free in
        (pending_none not_mixed e, joined not_mixed))

    may_seam : (o : Open) → (is_fragmented_1_1 now.subject.header ≡ true →
        open_message_1_1 b ≡ Some o) →
        AreAllowedEvents joins b.still_open (seam_events now o)
    may_seam o h =
        may_if b.still_open (is_fragmented_1_1 now.subject.header) _ []
        (λ old. may_about b.still_open now (Some o) Seams
        (λ a same. let is : Some o ≡ Some a = same in let e : o ≡ a = cc in
        pending_found a (h old ∙ same)))
        (λ no. may_none b.still_open)

    may_order : (still_open : List Open) (o : Open) →
        AreAllowedEvents joins still_open (order_fault_events now o)
    may_order still_open o =
        may_if still_open _ [] _ (λ same. may_none still_open)
        (λ other. may_about still_open now (Some o) (Faults FragmentOrder) (λ a e. tt))

    may_continue : (key : Option ℕ) (other : Option Open) →
        (is_fragmented_1_1 now.subject.header ≡ true → open_message_1_1 b ≡ other) →
        AreAllowedEvents joins b.still_open (fragment_events b now key other)
    unfolding own_event open_after_events open_after_event
    may_continue key None h = may_own b.still_open now _ tt
    may_continue key (Some o) h =
        may_append b.still_open (own_event now (Continues o.opener.number)) _
        (may_own b.still_open now (Continues o.opener.number) tt)
        (may_append b.still_open (seam_events now o) (order_fault_events now o) (may_seam o h)
        (may_order (open_after_events b.still_open (seam_events now o)) o))

    may_cancel : (o : Option Open) → AreAllowedEvents joins b.still_open (cancel_event now o)
    may_cancel None = may_none b.still_open
    may_cancel (Some o) =
        may_if b.still_open (may_be_cancelled o.opener.header)
        (event_of_open now (Some o) (Cancelled now.subject.number)) []
        (λ may. may_about b.still_open now (Some o) (Cancelled now.subject.number) (λ a e. tt))
        (λ no. may_none b.still_open)

    module _ (key : Option ℕ) (other : Option Open) (under : open_under b key ≡ other)
        (old : is_fragmented_1_1 now.subject.header ≡ true → key ≡ None) where
      may_go_on : AreAllowedEvents joins b.still_open (fragment_events b now key other)
      may_go_on = may_continue key other (λ is. ap (open_under b) (sym (old is)) ∙ under)

      may_name : AreAllowedEvents joins b.still_open (naming_events most b now key other)
      unfolding naming_events
      may_name = search (arith, may_if, may_go_on, may_open, may_cancel, may_none)

      first_quiet : open_after_events b.still_open
          (if now.payload_count == 0 then header_events now else payload_events now other)
          ≡ b.still_open
      first_quiet = search (arith, quiet_if, quiet_header, quiet_octet)

      may_events : AreAllowedEvents joins b.still_open (events_with_key most b now key other)
      unfolding events_with_key
      may_events = search (
        arith,
        may_append,
        may_if,
        may_header,
        may_payload,
        may_name,
        may_none,
        may_end,
        first_quiet,
      )

  no_key : (m : CutMessage) → is_fragmented_1_1 m.header ≡ true → key m ≡ None
  unfolding key
  no_key m e = rw e refl

  pub may_octet : (most : ℕ) (b : OpenState) (m : CutMessage) → (b.mixed ≡ false → joins ≡ true) →
      AreAllowedEvents joins b.still_open (events_of_octet most b m)
  unfolding events_of_octet opener_of
  may_octet most b m joined =
      may_events most b joined (last_octet_of m) (key m) (open_under b (key m)) refl (no_key m)

-- ---- What such events keep.

-- what is tracked has at most one open message without a key, which has none only where Fragments
-- of 1.1 are joined; and they are joined to no other message
pub record HasKeys (joins : Bool) (tracked : Tracked) : Type 0 where
  pub one : keyless tracked.still_open ≤ 1
  pub joined : Each (λ o. o.key ≡ None → joins ≡ true) tracked.still_open
  pub whole : (i : ℕ) (kept : Kept) → tracked.known i ≡ Some kept → IsKeyed i tracked.still_open →
      kept.phase ≡ unbroken

one_then : (joins : Bool) (still_open : List Open) (w : MessageKey) (what : EventKind) →
    IsAllowedEvent joins still_open w what → keyless still_open ≤ 1 →
    keyless (open_after_event still_open w what) ≤ 1
unfolding open_after_event
one_then joins still_open w (Opens None) may one =
    omega (arith, may.0, keyless_push still_open (record { key = None; opener = w }))
one_then joins still_open w (Opens (Some id)) may one =
    omega (arith, one, keyless_push still_open (record { key = Some id; opener = w }))
one_then joins still_open w Closes may one =
    omega (arith, one, keyless_filter (λ o. not (o.opener.number == w.number)) still_open)
one_then joins still_open w (Cancelled j) may one =
    omega (arith, one, keyless_filter (λ o. not (o.opener.number == w.number)) still_open)
one_then joins still_open w _ may one = one

joined_then : (joins : Bool) (still_open : List Open) (w : MessageKey) (what : EventKind) →
    IsAllowedEvent joins still_open w what → Each (λ o. o.key ≡ None → joins ≡ true) still_open →
    Each (λ o. o.key ≡ None → joins ≡ true) (open_after_event still_open w what)
unfolding open_after_event
joined_then joins still_open w (Opens None) may h =
    each_append (λ o. o.key ≡ None → joins ≡ true) still_open _ h ((λ e. may.1), tt)
joined_then joins still_open w (Opens (Some id)) may h =
    each_append (λ o. o.key ≡ None → joins ≡ true) still_open _ h
    ((λ e. absurd (let no : Some id ≡ None = e in cc)), tt)
joined_then joins still_open w Closes may h =
    each_filter (λ o. o.key ≡ None → joins ≡ true) _ still_open h
joined_then joins still_open w (Cancelled j) may h =
    each_filter (λ o. o.key ≡ None → joins ≡ true) _ still_open h
joined_then joins still_open w _ may h = h

-- a message that has a key, or isn't open, after an event of another message, was so before
keyed_left : (i : ℕ) (still_open : List Open) (w : MessageKey) → (i ≡ w.number → ⊥) →
    IsKeyed i (filter (λ o. not (o.opener.number == w.number)) still_open) →
    IsKeyed i still_open
keyed_left i still_open w apart h =
    each_unfiltered (λ o. o.opener.number ≡ i → o.key ≡ None → ⊥)
    (λ o. not (o.opener.number == w.number))
    (λ o no same none. apart (sym same ∙ is o no)) still_open h
  where
    by : (b : Bool) → not b ≡ false → b ≡ true
    by true e = refl
    by false e = absurd cc

    is : (o : Open) → not (o.opener.number == w.number) ≡ false → o.opener.number ≡ w.number
    is o e = eqb-true o.opener.number w.number (by _ e)

keyed_other : (i : ℕ) (still_open : List Open) (w : MessageKey) (what : EventKind) →
    (i ≡ w.number → ⊥) → IsKeyed i (open_after_event still_open w what) → IsKeyed i still_open
unfolding open_after_event
keyed_other i still_open w (Opens key) apart h = each_front _ still_open _ h
keyed_other i still_open w Closes apart h = keyed_left i still_open w apart h
keyed_other i still_open w (Cancelled j) apart h = keyed_left i still_open w apart h
keyed_other i still_open w _ apart h = h

-- what was known before an event of the message
was_known : (R : MessageReader) (e : Event) (o : Option Kept) (kept : Kept) →
    message_kept_after R e o ≡ Some kept →
    (before : Kept) × (o ≡ Some before) × (kept ≡ kept_after_event e.what before)
unfolding message_kept_after
was_known R e o kept h = go (list_any (is_last_line_of e.subject.number) (lines_of R e o)) o h
  where
    go : (b : Bool) (o : Option Kept) →
        (if b then None else option_map (kept_after_event e.what) o) ≡ Some kept →
        (before : Kept) × (o ≡ Some before) × (kept ≡ kept_after_event e.what before)
    go true o h = absurd cc
    go false None h = absurd cc
    go false (Some before) h =
        let is : Some (kept_after_event e.what before) ≡ Some kept = h in
        let same : kept ≡ kept_after_event e.what before = cc in (before, refl, same)

-- nothing is known of a message that is closed or cancelled
ended_none : (R : MessageReader) → ClosesWithLastLine R → (e : Event) (o : Option Kept) →
    gives_last_line e.what ≡ true → message_kept_after R e o ≡ None
unfolding message_kept_after lines_of
ended_none R ending e None final = go (list_any (is_last_line_of e.subject.number) _)
  where
    go : (b : Bool) → (if b then None else option_map (kept_after_event e.what) None) ≡ None
    go true = refl
    go false = refl
ended_none R ending e (Some kept) final =
    rw (last_stands e.subject.number (λ i. false) (lines_for R e (Some kept)) refl
    (kept_final R ending e (Some kept) kept refl final)) refl

-- an event that is no seam leaves what padding is counted by
IsPlain : EventKind → Type 0
IsPlain Seams = ⊥
IsPlain what = Unit {0}

plain_phase : (what : EventKind) → IsPlain what → (before : Kept) →
    (kept_after_event what before).phase ≡ before.phase
unfolding IsPlain
plain_phase Seams plain before = absurd plain
plain_phase _ plain before = refl

module _ (R : MessageReader) (ending : ClosesWithLastLine R) (joins : Bool) (c : Tracked)
    (e : Event)
    (may : IsAllowedEvent joins c.still_open e.subject e.what) (h : HasKeys joins c) where
  -- of the message of the event, if the event isn't a seam
  plain_whole : (what : EventKind) → e.what ≡ what → IsPlain what → (kept : Kept) →
      message_kept_after R e (c.known e.subject.number) ≡ Some kept →
      IsKeyed e.subject.number c.still_open → kept.phase ≡ unbroken
  plain_whole what is plain kept known keyed =
      let was = was_known R e (c.known e.subject.number) kept known in
      ap (λ (k : Kept). k.phase) was.2
      ∙ (ap (λ (w : EventKind). (kept_after_event w was.0).phase) is
      ∙ (plain_phase what plain was.0 ∙ h.whole e.subject.number was.0 was.1 keyed))

  ended_never : gives_last_line e.what ≡ true → (kept : Kept) →
      message_kept_after R e (c.known e.subject.number) ≡ Some kept → ⊥
  ended_never final kept known =
      let no : None ≡ Some kept =
      sym (ended_none R ending e (c.known e.subject.number) final) ∙ known in cc

  own_whole : (what : EventKind) → e.what ≡ what → IsAllowedEvent joins c.still_open e.subject what
      →
      (kept : Kept) → message_kept_after R e (c.known e.subject.number) ≡ Some kept →
      IsKeyed e.subject.number (open_after_event c.still_open e.subject what) →
      kept.phase ≡ unbroken
  unfolding open_after_event gives_last_line IsPlain
  own_whole Seams is may kept known keyed = absurd (may keyed)
  own_whole Closes is may kept known keyed = absurd (ended_never (rw is refl) kept known)
  own_whole (Cancelled j) is may kept known keyed = absurd (ended_never (rw is refl) kept known)
  own_whole (Opens k) is may kept known keyed =
      plain_whole (Opens k) is tt kept known (each_front _ c.still_open _ keyed)
  own_whole Begins is may kept known keyed = plain_whole Begins is tt kept known keyed
  own_whole (Takes x) is may kept known keyed = plain_whole (Takes x) is tt kept known keyed
  own_whole (Continues i) is may kept known keyed = plain_whole (Continues i) is tt kept known keyed
  own_whole (Faults fault) is may kept known keyed =
      plain_whole (Faults fault) is tt kept known keyed

  keys_then : HasKeys joins (tracked_after_event R c e)
  unfolding tracked_after_event
  keys_then = record {
    one = one_then joins c.still_open e.subject e.what may h.one;
    joined = joined_then joins c.still_open e.subject e.what may h.joined;
    whole = λ i kept known keyed. elim (cases_eq i e.subject.number) [
      | inl same ↦ own_whole e.what refl may kept
          (sym (own_then R c e) ∙ ap (tracked_after_event R c e).known (sym same) ∙ known)
          (rw same at keyed)
      | inr other ↦ h.whole i kept (sym (others_then R c e i other) ∙ known)
          (keyed_other i c.still_open e.subject e.what other keyed)
    ];
  }

pub keys_through : (R : MessageReader) → ClosesWithLastLine R → (joins : Bool) (c : Tracked)
    (es : List Event) → AreAllowedEvents joins c.still_open es → HasKeys joins c →
    HasKeys joins (effects R c es).tracked
unfolding effects AreAllowedEvents
keys_through R ending joins c [] may h = h
keys_through R ending joins c (e ∷ es) may h =
    keys_through R ending joins (tracked_after_event R c e) es (unfold tracked_after_event in may.1)
    (keys_then R ending joins c e may.0 h)
