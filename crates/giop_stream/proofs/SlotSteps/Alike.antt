-- Events that open and close nothing, and after which Fragments of 1.1 are joined as before: they
-- make no difference to the owners of octets.
use Rattle.std.proofs.Common.{◌≡◌, ℕ, Bool, true, false, List, [], ◌∷◌, ◌++◌, length, refl, ◌∙◌, Option, Some, None}
use Rattle.std.specs.Prelude.{◌==◌, if◌then◌else◌}
use Rattle.std.specs.List.{AllByRecursion as Each}
use Rattle.std.proofs.lemmas.Bool.{or_right}
use Rattle.giop_message.specs.Headers.{order}
use Rattle.giop_message.specs.MessageReader.{MessageReader}
use Rattle.giop_stream.specs.declared.fault.FramingFault.{FramingFault}
use Rattle.giop_stream.specs.declared.fault.FramingFault.TheVariants.{FragmentOrder}
use Rattle.giop_stream.specs.Kinds.{is_opener_1_1, is_fragmented_1_1, has_fragments, is_any_fragment, lookup_offset, header_fault}
use Rattle.giop_stream.specs.Rules.{Rules}
use Rattle.giop_stream.specs.Framing.{CutMessage}
use Rattle.giop_stream.specs.Events.{EventKind, Begins, Takes, Continues, Seams, Faults, OpenState, Event, Open, MessageOctet, own_event, event_of_open, last_octet_of, key, open_under, open_message_1_1, opener_of, no_open_fault, same_order, seam_events, order_fault_events, fragment_events, fault_events, events_at_header, events_at_octet, is_opening_fault, ends_joining, open_after_events, header_events, payload_events, naming_events, message_end_events}
use Rattle.giop_stream.specs.Effects.{effects, tracked_after_event}
use Rattle.giop_stream.specs.OpenSlots.{Tracked, before_in}
use Rattle.giop_stream.specs.PayloadOwner.{owner_of_octet, events_if_at_name, events_if_at_end}
use Rattle.giop_stream.specs.EngineState.{owner_of_next}
use Rattle.giop_stream.proofs.Lists.{each_append}
use Rattle.giop_stream.proofs.Events.MessageKinds.{first_no_fragment, old_opener_old}
use Rattle.giop_stream.proofs.StreamLines.Accepted.{old_accepted}
use Rattle.giop_stream.proofs.SlotSteps.OneSlotChanges.{mixes_not, no_opener_mixes, mixed_same}

-- ---- The owners of octets depend on the open messages, and on whether Fragments of 1.1 are
-- joined.

pub record IsSameOpenState (b b' : OpenState) : Type 0 where
  pub still_open : b'.still_open ≡ b.still_open
  pub mixed : b'.mixed ≡ b.mixed

module _ (b b' : OpenState) (m : CutMessage) (same : IsSameOpenState b b') where
  under_alike : (k : Option ℕ) → open_under b' k ≡ open_under b k
  unfolding open_message_1_1
  under_alike (Some id) = rw same.still_open refl
  under_alike None = rw (same.mixed, same.still_open) refl

  pub opener_alike : opener_of b' m ≡ opener_of b m
  unfolding opener_of
  opener_alike = under_alike (key m)

  pub next_alike : owner_of_next b' m ≡ owner_of_next b m
  unfolding owner_of_next
  next_alike = rw opener_alike refl

  pub octet_alike : owner_of_octet b' m ≡ owner_of_octet b m
  unfolding owner_of_octet
  octet_alike = rw opener_alike refl

  pub end_alike : events_if_at_end b' m ≡ events_if_at_end b m
  unfolding events_if_at_end message_end_events
  end_alike = rw opener_alike refl

-- ---- Events after which Fragments of 1.1 are joined as before.

abbrev pub EndNoJoining : (es : List Event) → Type 0
EndNoJoining es = Each (λ e. ends_joining e ≡ false) es

pub effects_still_open : (R : MessageReader) (c : Tracked) (es : List Event) →
    (effects R c es).tracked.still_open ≡ open_after_events c.still_open es
unfolding effects open_after_events tracked_after_event
effects_still_open R c [] = refl
effects_still_open R c (e ∷ es) = effects_still_open R (tracked_after_event R c e) es

effects_mixed : (R : MessageReader) (c : Tracked) (es : List Event) → EndNoJoining es →
    (effects R c es).tracked.mixed ≡ c.mixed
unfolding effects
effects_mixed R c [] h = refl
effects_mixed R c (e ∷ es) h =
    effects_mixed R (tracked_after_event R c e) es h.1 ∙ mixed_same R c e h.0

pub effects_alike : (R : Rules) (c : Tracked) (es : List Event) → EndNoJoining es →
    open_after_events c.still_open es ≡ c.still_open →
    IsSameOpenState (before_in R.asks c) (before_in R.asks (effects R.reading c es).tracked)
unfolding before_in
effects_alike R c es calm quiet = record {
  still_open = effects_still_open R.reading c es ∙ quiet;
  mixed = effects_mixed R.reading c es calm;
}

calm_own : (now : MessageOctet) (what : EventKind) → is_opening_fault what ≡ false →
    EndNoJoining (own_event now what)
unfolding own_event
calm_own now what h = (mixes_not _ h, tt)

calm_other : (now : MessageOctet) (what : EventKind) → is_opener_1_1 now.subject.header ≡ false →
    EndNoJoining (own_event now what)
unfolding own_event
calm_other now what h = (no_opener_mixes _ h, tt)

calm_about : (now : MessageOctet) (o : Option Open) (what : EventKind) →
    is_opening_fault what ≡ false →
    EndNoJoining (event_of_open now o what)
unfolding event_of_open
calm_about now None what h = tt
calm_about now (Some o) what h = (mixes_not _ h, tt)

calm_if : (b : Bool) (es fs : List Event) → EndNoJoining es → EndNoJoining fs →
    EndNoJoining (if b then es else fs)
calm_if true es fs h k = h
calm_if false es fs h k = k

pub calm_octet : (b : OpenState) (m : CutMessage) → EndNoJoining (events_at_octet b m)
unfolding payload_events
calm_octet b m = calm_if _ _ _ (calm_about (last_octet_of m) (opener_of b m) (Takes _) refl)
    (calm_own (last_octet_of m) (Takes _) refl)

pub fragment_no_opener : (h : List ℕ) → is_any_fragment h ≡ true → is_opener_1_1 h ≡ false
unfolding has_fragments
fragment_no_opener h f = go (is_opener_1_1 h) refl
  where
    go : (b : Bool) → is_opener_1_1 h ≡ b → is_opener_1_1 h ≡ false
    go true o = absurd (let none = first_no_fragment h (or_right _ _ o) in cc)
    go false o = o

calm_none : EndNoJoining []
calm_none = tt

calm_seams : (now : MessageOctet) (o : Open) → EndNoJoining (seam_events now o)
calm_seams now o = calm_if (is_fragmented_1_1 now.subject.header) (event_of_open now
    (Some o) Seams) []
    (calm_about now (Some o) Seams refl) calm_none

calm_order : (now : MessageOctet) (o : Open) → EndNoJoining (order_fault_events now o)
calm_order now o =
    calm_if (same_order (order now.subject.header) (order o.opener.header)) []
    (event_of_open now (Some o) (Faults FragmentOrder)) calm_none
    (calm_about now (Some o) (Faults FragmentOrder) refl)

calm_continues : (b : OpenState) (now : MessageOctet) (k : Option ℕ) (r : Option Open) →
    is_any_fragment now.subject.header ≡ true → EndNoJoining (fragment_events b now k r)
calm_continues b now k None f =
    calm_other now (Faults (no_open_fault b k)) (fragment_no_opener now.subject.header f)
calm_continues b now k (Some o) f =
    each_append (λ e. ends_joining e ≡ false) (own_event now (Continues o.opener.number))
    (seam_events now o ++ order_fault_events now o) (calm_own now (Continues o.opener.number) refl)
    (each_append (λ e. ends_joining e ≡ false) (seam_events now o) (order_fault_events now o)
    (calm_seams now o)
    (calm_order now o))

-- a Fragment refuses nothing as it has its place
pub calm_name : (most : ℕ) (b : OpenState) (m : CutMessage) → is_any_fragment m.header ≡ true →
    EndNoJoining (events_if_at_name most b m)
unfolding events_if_at_name naming_events
calm_name most b m f = rw f (calm_if (length m.payload == lookup_offset m.header)
    (fragment_events b (last_octet_of m) (key m) (opener_of b m)) []
    (calm_continues b (last_octet_of m) (key m) (opener_of b m) f) calm_none)

-- ---- The header's last octet.

pub refused_new : (h : List ℕ) (fault : FramingFault) → header_fault h ≡ Some fault →
    is_fragmented_1_1 h ≡ false
refused_new h fault e = go (is_fragmented_1_1 h) refl
  where
    go : (b : Bool) → is_fragmented_1_1 h ≡ b → is_fragmented_1_1 h ≡ false
    go true old = absurd (let none = old_accepted h old in cc)
    go false new = new

pub new_no_opener : (h : List ℕ) → is_fragmented_1_1 h ≡ false → is_opener_1_1 h ≡ false
new_no_opener h new = go (is_opener_1_1 h) refl
  where
    go : (b : Bool) → is_opener_1_1 h ≡ b → is_opener_1_1 h ≡ false
    go true o = absurd (let old = old_opener_old h o in cc)
    go false o = o

-- a message that is refused by its header alone isn't one of 1.1 that Fragments follow
pub refused_no_opener : (h : List ℕ) (fault : FramingFault) → header_fault h ≡ Some fault →
    is_opener_1_1 h ≡ false
refused_no_opener h fault e = new_no_opener h (refused_new h fault e)

calm_faults : (now : MessageOctet) (r : Option FramingFault) → header_fault now.subject.header ≡ r →
    EndNoJoining (fault_events now r)
calm_faults now None e = tt
calm_faults now (Some fault) e =
    calm_other now (Faults fault) (refused_no_opener now.subject.header fault e)

pub calm_header : (m : CutMessage) → EndNoJoining (events_at_header m)
unfolding header_events
calm_header m = each_append (λ e. ends_joining e ≡ false) (own_event (last_octet_of m) Begins) _
    (calm_own (last_octet_of m) Begins refl) (calm_faults (last_octet_of m)
    (header_fault m.header) refl)
