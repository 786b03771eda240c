-- The events of a stream with one more octet, and the open messages after them.
use Rattle.std.proofs.Common.{inl, inr, ◌⊎◌, ◌≡◌, ℕ, ◌<◌, ◌≤◌, Bool, true, false, not, List, [], ◌∷◌, ◌++◌, length, refl, sym, ap, ◌∙◌, append_assoc, Option, Some, None, arith}
use Rattle.std.specs.List.{find, list_any, AllByRecursion as Each}
use Rattle.std.specs.Prelude.{◌==◌, ◌&&◌, if◌then◌else◌, is_none}
use Rattle.std.proofs.lemmas.Bool.{and_parts, lt-ltb, ltb-true, ltb-false, leb-false, lt-leb, le-ltb, cases_lt, ne_eqb, eqb-true}
use Rattle.std.proofs.lemmas.List.{append-nil, length_push}
use Rattle.std.proofs.lemmas.List.Concat.{flat_map-append}
use Rattle.giop_stream.specs.declared.fault.FramingFault.{FramingFault}
use Rattle.giop_stream.specs.HeaderOctets.{fronts}
use Rattle.giop_message.specs.Headers.{size}
use Rattle.giop_stream.specs.Kinds.{is_opener_1_1, is_any_fragment, lookup_offset, header_fault}
use Rattle.giop_stream.specs.Rules.{Rules}
use Rattle.giop_stream.specs.Framing.{CutMessage, with_payload}
use Rattle.giop_stream.specs.Events.{EventKind, Begins, Takes, Opens, Continues, Seams, Cancelled, Faults, Closes, MessageKey, Event, Open, OpenState, message_key, place, own_event, event_of_open, key, open_under, open_message_1_1, opener_of, is_named_fragment, has_joined_octets, order_fault_events, seam_events, no_open_fault, fragment_events, events_at_name, events_of_octet, events_of, open_after_event, open_after_events, is_opening_fault, ends_joining, before_by, events_from, last_octet_of, header_events, payload_events, naming_events, message_end_events, events_with_key, MessageOctet}
use Rattle.giop_stream.specs.declared.fault.FramingFault.TheVariants.{FragmentOrder}
use Rattle.giop_stream.proofs.Events.MessageKinds.{long_enough, fragment_no_old, old_opener_low}
use Rattle.giop_stream.proofs.Events.EventInduction.{IsJoined, either, of_header, of_later}
use Rattle.giop_stream.proofs.Events.KeptEvents.{OfOthers, mixed_same, before_same}
pub use Rattle.giop_stream.proofs.Events.KeptEvents.{opened_append}
use Rattle.giop_stream.proofs.Lists.{fronts_push, by_growth, each_append, each_filter, each_weaker, any_append}

pub events_from_push : (R : Rules) (past : List Event) (ms : List CutMessage) (m : CutMessage)
    → events_from R past (ms ++ m ∷ []) ≡ events_from R past ms
    ++ events_of R.most (before_by R (past ++ events_from R past ms)) m
unfolding events_from
events_from_push R past [] m = search (arith, append-nil)
events_from_push R past (first ∷ ms) m =
    let es = events_of R.most (before_by R past) first in
    let more = events_from R (past ++ es) ms in
    rw (events_from_push R (past ++ es) ms m, append_assoc past es more)
    (sym (append_assoc es more (events_of R.most (before_by R (past ++ (es ++ more))) m)))

pub events_of_push : (most : ℕ) (b : OpenState) (m : CutMessage) (xs : List ℕ) (x : ℕ)
    → events_of most b (with_payload m (xs ++ x ∷ []))
    ≡ events_of most b (with_payload m xs) ++ events_of_octet most b
    (with_payload m (xs ++ x ∷ []))
unfolding events_of
events_of_push most b m xs x = search (arith, fronts_push, flat_map-append, append-nil)

pub events_of_none : (most : ℕ) (b : OpenState) (m : CutMessage) →
    events_of most b (with_payload m []) ≡ events_of_octet most b (with_payload m [])
unfolding events_of fronts
events_of_none most b m = search (arith, append-nil)

-- Events that change no open message.
still_begins : (still_open : List Open) (subject : MessageKey) →
    open_after_event still_open subject Begins ≡ still_open
unfolding open_after_event
still_begins still_open subject = refl

still_takes : (x : ℕ) (still_open : List Open) (subject : MessageKey) →
    open_after_event still_open subject (Takes x) ≡ still_open
unfolding open_after_event
still_takes x still_open subject = refl

still_continues : (i : ℕ) (still_open : List Open) (subject : MessageKey) →
    open_after_event still_open subject (Continues i) ≡ still_open
unfolding open_after_event
still_continues i still_open subject = refl

still_seams : (still_open : List Open) (subject : MessageKey) →
    open_after_event still_open subject Seams ≡ still_open
unfolding open_after_event
still_seams still_open subject = refl

pub still_faulted : (fault : FramingFault) (still_open : List Open) (subject : MessageKey) →
    open_after_event still_open subject (Faults fault) ≡ still_open
unfolding open_after_event
still_faulted fault still_open subject = refl

quiet_about : (still_open : List Open) (now : MessageOctet) (o : Option Open) (what : EventKind)
    → ((subject : MessageKey) → open_after_event still_open subject what ≡ still_open) →
    open_after_events still_open (event_of_open now o what) ≡ still_open
unfolding event_of_open open_after_events
quiet_about still_open now None what h = refl
quiet_about still_open now (Some o) what h = h o.opener

pub quiet_own : (still_open : List Open) (now : MessageOctet) (what : EventKind)
    → ((subject : MessageKey) → open_after_event still_open subject what ≡ still_open) →
    open_after_events still_open (own_event now what) ≡ still_open
unfolding own_event open_after_events
quiet_own still_open now what h = h now.subject

pub quiet_both : (still_open : List Open) (es more : List Event) →
    open_after_events still_open es ≡ still_open → open_after_events still_open more ≡ still_open →
    open_after_events still_open (es ++ more) ≡ still_open
quiet_both still_open es more h k = search (arith, opened_append)

pub quiet_if : (still_open : List Open) (b : Bool) (es more : List Event) →
    (b ≡ true → open_after_events still_open es ≡ still_open)
    → (b ≡ false → open_after_events still_open more ≡ still_open) →
    open_after_events still_open (if b then es else more) ≡ still_open
quiet_if still_open true es more h k = h refl
quiet_if still_open false es more h k = k refl

pub quiet_none : (still_open : List Open) → open_after_events still_open [] ≡ still_open
unfolding open_after_events
quiet_none still_open = refl

pub quiet_header : (still_open : List Open) (now : MessageOctet) →
    open_after_events still_open (header_events now) ≡ still_open
quiet_header still_open now =
    of_header (λ es. open_after_events still_open es ≡ still_open)
    (record { none = quiet_none still_open; both = quiet_both still_open }) now
    (quiet_own still_open now Begins (still_begins still_open))
    (λ fault. quiet_own still_open now (Faults fault) (still_faulted fault still_open))

pub quiet_octet : (still_open : List Open) (now : MessageOctet) (o : Option Open) →
    open_after_events still_open (payload_events now o) ≡ still_open
unfolding payload_events
quiet_octet still_open now o = search (arith, quiet_if, quiet_about, still_takes, quiet_own)

pub quiet_continues : (still_open : List Open) (b : OpenState) (now : MessageOctet) (key : Option ℕ)
    (o : Option Open) → open_after_events still_open (fragment_events b now key o) ≡ still_open
quiet_continues still_open b now key None = search (arith, quiet_own, still_faulted)
quiet_continues still_open b now key (Some o) = search (
  arith,
  quiet_both,
  quiet_own,
  still_continues,
  quiet_if,
  quiet_none,
  quiet_about,
  still_seams,
  still_faulted,
)

-- Before the last octet of a message, no message opens or closes, if the message has no place among
-- the open ones yet, or is a Fragment.
abbrev pub NeitherOpensNorCloses : (message : CutMessage) → Type 0
NeitherOpensNorCloses m = (length m.payload < lookup_offset m.header) ⊎
    (is_any_fragment m.header ≡ true)

pub quiet_name : (most : ℕ) (still_open : List Open) (b : OpenState) (m : CutMessage) →
    (length m.payload == lookup_offset m.header) ≡ true → NeitherOpensNorCloses m →
    open_after_events still_open (events_at_name most b m) ≡ still_open
unfolding naming_events
quiet_name most still_open b m e (inl k) = search (arith, eqb-true)
quiet_name most still_open b m e (inr k) = search (arith, quiet_continues)

pub quiet_one : (most : ℕ) (still_open : List Open) (b : OpenState) (m : CutMessage) →
    length m.payload < size m.header
    → NeitherOpensNorCloses m → open_after_events still_open (events_of_octet most b m) ≡ still_open
unfolding events_of_octet
quiet_one most still_open b m h k = search (
  arith,
  ne_eqb,
  quiet_both,
  quiet_if,
  quiet_header,
  quiet_octet,
  quiet_name,
  quiet_none,
)

-- If something holds of the events of each such octet, it holds of those of all these octets.
early_run : (Q : List Event → Type 0) → IsJoined Q → (most : ℕ) (b : OpenState) (m : CutMessage) →
    ((xs : List ℕ) → length xs < size m.header → NeitherOpensNorCloses (with_payload m xs) →
    Q (events_of_octet most b (with_payload m xs))) → (xs : List ℕ) → length xs < size m.header →
    NeitherOpensNorCloses (with_payload m xs) → Q (events_of most b (with_payload m xs))
early_run Q j most b m each =
    by_growth (λ xs. length xs < size m.header → NeitherOpensNorCloses (with_payload m xs) →
    Q (events_of most b (with_payload m xs)))
    (λ h k. rw (events_of_none most b m) (each [] h k))
    (λ xs x ih h k.
    let len = length_push xs x in
    rw (events_of_push most b m xs x)
    (j.both _ _ (ih (omega arith) (elim k [ inl s ↦ inl (omega arith) | inr f ↦ inr f ]))
    (each (xs ++ x ∷ []) h k)))

pub payload_run : (most : ℕ) (still_open : List Open) (b : OpenState) (m : CutMessage)
    (xs : List ℕ) →
    length xs < size m.header → NeitherOpensNorCloses (with_payload m xs) →
    open_after_events still_open (events_of most b (with_payload m xs)) ≡ still_open
payload_run most still_open b m xs h k =
    early_run (λ es. open_after_events still_open es ≡ still_open)
    (record { none = quiet_none still_open; both = quiet_both still_open }) most b m
    (λ xs. quiet_one most still_open b (with_payload m xs)) xs h k

-- ---- Nor is a message of 1.1 refused.

-- these events refuse no message of 1.1 that Fragments may follow
EndsNoJoining : List Event → Type 0
EndsNoJoining es = list_any ends_joining es ≡ false

unmixed_both : IsJoined EndsNoJoining
unfolding EndsNoJoining
unmixed_both = record {
  none = refl;
  both = λ es more h k. any_append ends_joining es more ∙ rw (h, k) refl;
}

unmixed_own : (now : MessageOctet) (what : EventKind) →
    (is_opener_1_1 now.subject.header && is_opening_fault what) ≡ false →
    EndsNoJoining (own_event now what)
unfolding EndsNoJoining own_event ends_joining
unmixed_own now what h = rw h refl

and_false : (b : Bool) → (b && false) ≡ false
and_false true = refl
and_false false = refl

unmixed_about : (now : MessageOctet) (o : Option Open) (what : EventKind) →
    is_opening_fault what ≡ false →
    EndsNoJoining (event_of_open now o what)
unfolding EndsNoJoining event_of_open ends_joining
unmixed_about now None what h = refl
unmixed_about now (Some o) what h = rw (h, and_false (is_opener_1_1 o.opener.header)) refl

-- a message of 1.1 that Fragments may follow isn't faulted by its header alone
old_opener_fits : (h : List ℕ) → is_opener_1_1 h ≡ true → header_fault h ≡ None
unfolding header_fault
old_opener_fits h o =
    let low = old_opener_low h o in
    grind arith

unmixed_begins : (now : MessageOctet) → EndsNoJoining (own_event now Begins)
unmixed_begins now = unmixed_own now Begins (and_false (is_opener_1_1 now.subject.header))

unmixed_by : (now : MessageOctet) (b : Bool) → is_opener_1_1 now.subject.header ≡ b →
    EndsNoJoining (header_events now)
unfolding header_events
unmixed_by now true o = rw (old_opener_fits now.subject.header o)
    (unmixed_both.both (own_event now Begins) [] (unmixed_begins now) unmixed_both.none)
unmixed_by now false o = of_header EndsNoJoining unmixed_both now (unmixed_begins now)
    (λ fault. unmixed_own now (Faults fault) (rw o refl))

unmixed_header : (now : MessageOctet) → EndsNoJoining (header_events now)
unmixed_header now = unmixed_by now (is_opener_1_1 now.subject.header) refl

unmixed_octet : (now : MessageOctet) (o : Option Open) → EndsNoJoining (payload_events now o)
unfolding payload_events
unmixed_octet now o = either EndsNoJoining _ _ _ (unmixed_about now o (Takes now.octet) refl)
    (unmixed_own now (Takes now.octet) (and_false (is_opener_1_1 now.subject.header)))

unmixed_continues : (b : OpenState) (now : MessageOctet) (key : Option ℕ) (o : Option Open) →
    is_any_fragment now.subject.header ≡ true → EndsNoJoining (fragment_events b now key o)
unmixed_continues b now key None f =
    unmixed_own now (Faults (no_open_fault b key)) (rw (fragment_no_old now.subject.header f) refl)
unmixed_continues b now key (Some o) f =
    unmixed_both.both (own_event now (Continues o.opener.number)) (seam_events now o
    ++ order_fault_events now o)
    (unmixed_own now (Continues o.opener.number) (and_false (is_opener_1_1 now.subject.header)))
    (unmixed_both.both (seam_events now o) (order_fault_events now o)
    (either EndsNoJoining _ _ _ (unmixed_about now (Some o) Seams refl) unmixed_both.none)
    (either EndsNoJoining _ _ _ unmixed_both.none
    (unmixed_about now (Some o) (Faults FragmentOrder) refl)))

unmixed_name : (most : ℕ) (b : OpenState) (m : CutMessage) → NeitherOpensNorCloses m → (c : Bool) →
    (length m.payload == lookup_offset m.header) ≡ c →
    EndsNoJoining (if c then events_at_name most b m else [])
unfolding naming_events
unmixed_name most b m k false e = unmixed_both.none
unmixed_name most b m (inl s) true e = absurd (omega (arith, s, eqb-true _ _ e))
unmixed_name most b m (inr f) true e =
    rw f (unmixed_continues b (last_octet_of m) (key m) (opener_of b m) f)

unmixed_end : (now : MessageOctet) (o : Option Open) → EndsNoJoining (message_end_events now o)
unfolding message_end_events
unmixed_end now o = search (
  arith,
  either,
  unmixed_own,
  unmixed_about,
  unmixed_both,
  and_false,
)

unmixed_one : (most : ℕ) (b : OpenState) (m : CutMessage) → NeitherOpensNorCloses m →
    EndsNoJoining (events_of_octet most b m)
unfolding events_of_octet
unmixed_one most b m k =
    unmixed_both.both _ _
    (either EndsNoJoining (length m.payload == 0) _ _ (unmixed_header (last_octet_of m))
    (unmixed_octet (last_octet_of m) (opener_of b m)))
    (unmixed_both.both _ _ (unmixed_name most b m k (length m.payload == lookup_offset m.header)
    refl)
    (either EndsNoJoining (length m.payload == size m.header) _ _
    (unmixed_end (last_octet_of m) (opener_of b m)) unmixed_both.none))

-- no Fragment is a message of 1.1 that Fragments may follow
pub fragment_mixes : (most : ℕ) (b : OpenState) (m : CutMessage) → is_any_fragment m.header ≡ true →
    list_any ends_joining (events_of_octet most b m) ≡ false
unfolding EndsNoJoining
fragment_mixes most b m f = unmixed_one most b m (inr f)

-- ---- The events of an octet are the same, whether they are computed from what stands before its
-- message or from what stands before the octet.

-- those of a Fragment need only the open messages
pub opener_by : (b c : OpenState) (m : CutMessage) → c.still_open ≡ b.still_open →
    c.mixed ≡ b.mixed →
    opener_of c m ≡ opener_of b m
unfolding opener_of open_message_1_1
opener_by b c m same mixed = go (key m)
  where
    go : (k : Option ℕ) → open_under c k ≡ open_under b k
    go None = rw (same, mixed) refl
    go (Some id) = rw same refl

continues_by : (b c : OpenState) (now : MessageOctet) (key : Option ℕ) (o : Option Open) →
    c.mixed ≡ b.mixed → fragment_events b now key o ≡ fragment_events c now key o
continues_by b c now key None mixed = rw mixed refl
continues_by b c now key (Some o) mixed = refl

fragment_same : (most : ℕ) (b c : OpenState) (m : CutMessage) → is_any_fragment m.header ≡ true →
    c.still_open ≡ b.still_open → c.mixed ≡ b.mixed →
    events_of_octet most b m ≡ events_of_octet most c m
unfolding events_of_octet naming_events
fragment_same most b c m f same mixed =
    rw (
      f,
      opener_by b c m same mixed,
      continues_by b c (last_octet_of m) (key m) (opener_of b m) mixed,
    ) refl

-- those of another message need nothing after it has its place
free : (most : ℕ) (b c : OpenState) (m : CutMessage) →
    lookup_offset m.header < length m.payload → is_any_fragment m.header ≡ false →
    events_of_octet most b m ≡ events_of_octet most c m
unfolding events_of_octet payload_events message_end_events has_joined_octets
free most b c m h k = search (arith, ne_eqb)

-- before it has its place, each of its events is one of the message itself
AreOfMessage : CutMessage → List Event → Type 0
AreOfMessage m es = Each (λ e. e.subject.number ≡ m.number) es

mine_both : (m : CutMessage) → IsJoined (AreOfMessage m)
unfolding AreOfMessage
mine_both m = record { none = tt; both = each_append (λ e. e.subject.number ≡ m.number) }

mine_own : (m : CutMessage) (what : EventKind) → AreOfMessage m (own_event (last_octet_of m) what)
unfolding AreOfMessage own_event
mine_own m what = (refl, tt)

mine_one : (most : ℕ) (b : OpenState) (m : CutMessage) → length m.payload < size m.header →
    length m.payload < lookup_offset m.header → is_any_fragment m.header ≡ false →
    AreOfMessage m (events_of_octet most b m)
unfolding events_of_octet payload_events
mine_one most b m h k f =
    rw (
      ne_eqb (length m.payload) (size m.header) (λ e. omega (arith, h, e)),
      ne_eqb (length m.payload) (lookup_offset m.header) (λ e. omega (arith, k, e)),
      f,
    )
    ((mine_both m).both _ []
    (either (AreOfMessage m) (length m.payload == 0) _ _
    (of_header (AreOfMessage m) (mine_both m) (last_octet_of m) (mine_own m Begins)
    (λ fault. mine_own m (Faults fault))) (mine_own m (Takes (last_octet_of m).octet)))
    (mine_both m).none)

-- no open message is the message m, whose events these are
of_others : (m : CutMessage) (still_open : List Open) (es : List Event) →
    Each (λ o. o.opener.number < m.number) still_open → AreOfMessage m es →
    Each (λ o. OfOthers o.opener.number es) still_open
unfolding AreOfMessage
of_others m still_open es low mine = each_weaker (λ o. o.opener.number < m.number)
    (λ o. OfOthers o.opener.number es)
    (λ o less. each_weaker (λ e. e.subject.number ≡ m.number)
    (λ e. e.subject.number ≡ o.opener.number → ⊥) (λ e is same. omega (arith, less, is, same)) es
    mine) still_open low

module _ (R : Rules) (past : List Event) (m : CutMessage) (xs : List ℕ)
    (few : length xs < size m.header) where
  so_far : List Event
  so_far = events_of R.most (before_by R past) (with_payload m xs)

  at_octet : OpenState
  at_octet = before_by R (past ++ so_far)

  same_open : NeitherOpensNorCloses (with_payload m xs) →
      at_octet.still_open ≡ (before_by R past).still_open
  unfolding at_octet so_far before_by
  same_open k = opened_append [] past so_far
      ∙ payload_run R.most (open_after_events [] past) (before_by R past) m xs few k

  same_mixed : NeitherOpensNorCloses (with_payload m xs) → at_octet.mixed ≡ (before_by R past).mixed
  unfolding at_octet so_far EndsNoJoining
  same_mixed k = mixed_same R past so_far
      (early_run EndsNoJoining unmixed_both R.most (before_by R past) m
      (λ ys h. unmixed_one R.most (before_by R past) (with_payload m ys)) xs few k)

  same_early : length xs < lookup_offset m.header → is_any_fragment m.header ≡ false →
      Each (λ o. o.opener.number < m.number) (open_after_events [] past) →
      at_octet ≡ before_by R past
  unfolding at_octet so_far EndsNoJoining AreOfMessage
  same_early short f low =
      before_same R past so_far
      (payload_run R.most (open_after_events [] past) (before_by R past) m xs few (inl short))
      (early_run EndsNoJoining unmixed_both R.most (before_by R past) m
      (λ ys h. unmixed_one R.most (before_by R past) (with_payload m ys)) xs few (inl short))
      (of_others m (open_after_events [] past) so_far low
      (early_run (AreOfMessage m) (mine_both m) R.most (before_by R past) m
      (λ ys h k. elim k [
        | inl s ↦ mine_one R.most (before_by R past) (with_payload m ys) h s f
        | inr g ↦ absurd (let both : true ≡ false = sym g ∙ f in cc)
      ]) xs few (inl short)))

  pub events_of_octet_same : (x : ℕ) →
      (length xs < lookup_offset m.header → Each (λ o. o.opener.number < m.number)
      (open_after_events [] past)) →
      events_of_octet R.most (before_by R past) (with_payload m (xs ++ x ∷ []))
      ≡ events_of_octet R.most
      (before_by R (past ++ events_of R.most (before_by R past) (with_payload m xs)))
      (with_payload m (xs ++ x ∷ []))
  unfolding at_octet so_far
  events_of_octet_same x low = go (is_any_fragment m.header) refl
    where
      next : CutMessage
      next = with_payload m (xs ++ x ∷ [])

      go : (b : Bool) → is_any_fragment m.header ≡ b →
          events_of_octet R.most (before_by R past) next ≡ events_of_octet R.most at_octet next
      go true f = fragment_same R.most (before_by R past) at_octet next f (same_open (inr f))
          (same_mixed (inr f))
      go false f = elim (cases_lt (length xs) (lookup_offset m.header)) [
        | inl short ↦ ap (λ (b : OpenState). events_of_octet R.most b next)
            (sym (same_early short f (low short)))
        | inr long ↦ free R.most (before_by R past) at_octet next
            (omega (arith, long, length_push xs x)) f
      ]

-- If something holds of the events of the message itself and of each open message, it holds of all
-- events of an octet.
own_each : (P : Event → Type 0) (now : MessageOctet) (what : EventKind)
    → ((what : EventKind) → P (record { place = now.place; subject = now.subject; what = what })) →
    Each P (own_event now what)
unfolding own_event
own_each P now what h = (h what, tt)

HoldsIfSome : (Open → Type 0) → Option Open → Type 0
HoldsIfSome Q None = Unit {0}
HoldsIfSome Q (Some o) = Q o

HoldsOfEventsOf : (Event → Type 0) → MessageOctet → Open → Type 0
HoldsOfEventsOf P now o = (what : EventKind) → P (record {
  place = now.place;
  subject = o.opener;
  what =
      what;
})

about_each : (P : Event → Type 0) (now : MessageOctet) (o : Option Open) (what : EventKind) →
    HoldsIfSome (HoldsOfEventsOf P now) o → Each P (event_of_open now o what)
unfolding event_of_open HoldsIfSome HoldsOfEventsOf
about_each P now None what h = tt
about_each P now (Some o) what h = (h what, tt)

found_by : (Q : Open → Type 0) (b : Bool) (o : Open) (rest : Option Open) → Q o →
    HoldsIfSome Q rest →
    HoldsIfSome Q (if b then Some o else rest)
unfolding HoldsIfSome
found_by Q true o rest h k = h
found_by Q false o rest h k = k

found : (Q : Open → Type 0) (test : Open → Bool) (still_open : List Open) → Each Q still_open →
    HoldsIfSome Q (find test still_open)
unfolding HoldsIfSome
found Q test [] h = tt
found Q test (o ∷ still_open) h = search (arith, found_by, found Q test still_open h.1)

found_pending : (Q : Open → Type 0) (b : OpenState) → Each Q b.still_open →
    HoldsIfSome Q (open_message_1_1 b)
unfolding HoldsIfSome open_message_1_1
found_pending Q b h = go b.mixed
  where
    go : (c : Bool) → HoldsIfSome Q (if c then None else find (λ o. is_none o.key) b.still_open)
    go true = tt
    go false = found Q (λ o. is_none o.key) b.still_open h

found_under : (Q : Open → Type 0) (b : OpenState) (key : Option ℕ) → Each Q b.still_open →
    HoldsIfSome Q (open_under b key)
found_under Q b None h = found_pending Q b h
found_under Q b (Some id) h = search (arith, found)

module _ (most : ℕ) (P : Event → Type 0) (b : OpenState) (now : MessageOctet) (key : Option ℕ)
    (other : Option Open)
    (h : (what : EventKind) → P (record { place = now.place; subject = now.subject; what = what }))
    (k : HoldsIfSome (HoldsOfEventsOf P now) other) (w : HoldsIfSome (HoldsOfEventsOf P now)
    (open_message_1_1 b)) where
  mine : (what : EventKind) → Each P (own_event now what)
  mine what = own_each P now what h

  joined : IsJoined (Each P)
  joined = search (arith, each_append)

  octet_each : Each P (payload_events now other)
  unfolding payload_events
  octet_each = search (arith, either, about_each, mine)

  parts_each : Each P (events_with_key most b now key other)
  unfolding events_with_key
  parts_each =
      each_append P (if now.payload_count == 0 then header_events now else payload_events now other)
      _
      (either (Each P) (now.payload_count == 0) _ _
      (of_header (Each P) joined now (mine Begins) (λ fault. mine (Faults fault))) octet_each)
      (of_later most (Each P) joined b now key other
      (record {
        mine = λ what later. mine what;
        theirs = λ what later. about_each P now other what k;
        waiting = λ what later. about_each P now (open_message_1_1 b) what w;
      }))

pub events_of_octet_each : (most : ℕ) (P : Event → Type 0) (b : OpenState) (m : CutMessage) →
    ((what : EventKind) → P (record { place = place m; subject = message_key m; what = what }))
    → Each (λ o. (what : EventKind) → P (record {
      place = place m;
      subject = o.opener;
      what =
          what;
    })) b.still_open → Each P (events_of_octet most b m)
unfolding events_of_octet opener_of HoldsOfEventsOf
events_of_octet_each most P b m h k =
    parts_each most P b (last_octet_of m) (key m) (opener_of b m) h
    (found_under (HoldsOfEventsOf P (last_octet_of m)) b (key m) k)
    (found_pending (HoldsOfEventsOf P (last_octet_of m)) b k)

-- After a Fragment has its place among the open messages, no event is one of the Fragment itself.
module _ (most : ℕ) (P : Event → Type 0) (b : OpenState) (now : MessageOctet) (key : Option ℕ)
    (other : Option Open)
    (f : is_any_fragment now.subject.header ≡ true)
    (past : lookup_offset now.subject.header < now.payload_count)
    (long : now.payload_count ≤ size now.subject.header)
    (k : HoldsIfSome (HoldsOfEventsOf P now) other) where
  past_end : Each P (message_end_events now other)
  unfolding message_end_events
  past_end = search (arith, long_enough, either, about_each)

  past_octet : Each P (payload_events now other)
  unfolding payload_events
  past_octet = search (arith, lt-ltb, about_each)

  past_each : Each P (events_with_key most b now key other)
  unfolding events_with_key
  past_each = search (arith, ne_eqb, each_append, past_octet, either, past_end)

pub events_of_octet_agree : (most : ℕ) (P : Event → Type 0) (b : OpenState) (m : CutMessage) →
    length m.payload ≤ size m.header
    → (has_joined_octets m ≡ false → (what : EventKind) →
    P (record { place = place m; subject = message_key m; what = what }))
    → Each (λ o. (what : EventKind) → P (record {
      place = place m;
      subject = o.opener;
      what =
          what;
    })) b.still_open → Each P (events_of_octet most b m)
unfolding events_of_octet opener_of HoldsOfEventsOf has_joined_octets
events_of_octet_agree most P b m long h k = go (has_joined_octets m) refl
  where
    one : HoldsIfSome (HoldsOfEventsOf P (last_octet_of m)) (opener_of b m)
    one = search (arith, found_under)

    other : HoldsIfSome (HoldsOfEventsOf P (last_octet_of m)) (open_message_1_1 b)
    other = found_pending (HoldsOfEventsOf P (last_octet_of m)) b k

    go : (c : Bool) → has_joined_octets m ≡ c → Each P (events_of_octet most b m)
    go false e = search (arith, parts_each, one, other)
    go true e = search (arith, and_parts, past_each, ltb-true, one)

-- a message before it has its place among the open ones
pub not_past : (m : CutMessage) → is_named_fragment m ≡ false → has_joined_octets m ≡ false
unfolding is_named_fragment has_joined_octets
not_past m h = search (arith, leb-false, le-ltb)

pub not_named : (m : CutMessage) (x : ℕ) → has_joined_octets (with_payload m (m.payload ++ x ∷ []))
    ≡
    false →
    is_named_fragment m ≡ false
unfolding is_named_fragment has_joined_octets
not_named m x h = search (arith, ltb-false, lt-leb, length_push)

-- If something holds of the open messages and of the subjects of these events, it holds of the open
-- messages after them.
changed_each : (P : MessageKey → Type 0) (still_open : List Open) (subject : MessageKey)
    (what : EventKind) → Each (λ o. P o.opener) still_open
    → P subject → Each (λ o. P o.opener) (open_after_event still_open subject what)
unfolding open_after_event
changed_each P still_open subject (Opens key) h w = search (arith, each_append)
changed_each P still_open subject Closes h w = search (arith, each_filter, not)
changed_each P still_open subject (Cancelled j) h w = search (arith, each_filter, not)
changed_each P still_open subject _ h w = h

pub opened_each : (P : MessageKey → Type 0) (still_open : List Open) (es : List Event) →
    Each (λ o. P o.opener) still_open
    → Each (λ e. P e.subject) es → Each (λ o. P o.opener) (open_after_events still_open es)
unfolding open_after_events
opened_each P still_open [] h k = h
opened_each P still_open (e ∷ es) h k = opened_each P (open_after_event still_open e.subject e.what)
    es
    (changed_each P still_open e.subject e.what h k.0) k.1
