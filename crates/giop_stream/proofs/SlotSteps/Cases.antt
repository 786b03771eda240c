-- The effect of an octet of a message in each case that the code distinguishes.
use Rattle.std.proofs.Common.{arith, ◌≡◌, ℕ, ◌-◌, Bool, true, false, List, [], ◌∷◌, ◌++◌, length, get_or, refl, sym, ap, ◌∙◌, Option, Some, None, append-nil, append_assoc}
use Rattle.giop_stream.specs.declared.fault.FramingFault.{FramingFault}
use Rattle.giop_stream.specs.declared.fault.FramingFault.TheVariants.{FragmentOrder}
use Rattle.giop_message.specs.Headers.{order, is_cancel_request}
use Rattle.giop_stream.specs.Rules.{Rules}
use Rattle.giop_stream.specs.Framing.{CutMessage}
use Rattle.giop_message.specs.MessageReader.{MessageReader}
use Rattle.giop_stream.specs.Kinds.{is_fragmented_1_1, has_fragments, is_any_fragment, may_be_cancelled, header_fault}
use Rattle.giop_stream.specs.Events.{EventKind, Begins, Takes, Opens, Continues, Seams, Cancelled, Faults, MessageKey, OpenState, Event, Open, message_key, place, key, own_event, event_of_open, opener_of, has_joined_octets, events_at_header, events_at_octet, same_order, seam_events, order_fault_events, no_open_fault, opening_fault, open_to_cancel, cancel_event, open_after_event, events_at_name, last_octet_of, header_events, payload_events, naming_events}
use Rattle.giop_stream.specs.Lines.{StreamLine, Kept, line, lines_of_event, up_to_last_line}
use Rattle.giop_stream.specs.Effects.{Effect, lines_at, tracked_after_event, lines_of, effects, one_effect, no_effect, line_effect, start_line_of, continues_line_of, lines_for}
use Rattle.giop_stream.specs.OpenSlots.{Tracked}
use Rattle.giop_stream.proofs.Events.MessageKinds.{first_no_fragment}
use Rattle.giop_stream.proofs.SlotSteps.EventsInSlots.{tracked_stays, tracked_begins}
use Rattle.giop_stream.proofs.SlotSteps.ReadingEffects.{seam_lines}

-- ---- The effects of few events.

pub effects_none : (R : MessageReader) (c : Tracked) → effects R c [] ≡ no_effect c
unfolding effects
effects_none R c = refl

effects_one : (R : MessageReader) (c : Tracked) (at : ℕ) (subject : MessageKey) (what : EventKind)
    → effects R c (record { place = at; subject = subject; what = what } ∷ [])
    ≡ one_effect R c at subject what
unfolding effects lines_at lines_of
effects_one R c at subject what = search (arith, append-nil)

pub effects_append : (R : MessageReader) (c : Tracked) (es fs : List Event)
    → effects R c (es ++ fs) ≡ record {
      tracked = (effects R (effects R c es).tracked fs).tracked;
      lines = (effects R c es).lines ++ (effects R
          (effects R c es).tracked fs).lines;
    }
unfolding effects
effects_append R c [] fs = refl
effects_append R c (e ∷ es) fs =
    rw (effects_append R (tracked_after_event R c e) es fs)
    (λ j. record {
      tracked = (effects R (effects R (tracked_after_event R c e) es).tracked fs).tracked;
      lines = back (lines_at R c.known e)
          (effects R (tracked_after_event R c e) es).lines
          (effects R (effects R (tracked_after_event R c e) es).tracked fs).lines j;
    })
  where
    back : (xs ys zs : List StreamLine) → xs ++ (ys ++ zs) ≡ (xs ++ ys) ++ zs
    back xs ys zs = sym (append_assoc xs ys zs)

pub effects_own : (R : MessageReader) (c : Tracked) (m : CutMessage) (what : EventKind) →
    effects R c (own_event (last_octet_of m) what) ≡ one_effect R c (place m) (message_key m) what
unfolding own_event
effects_own R c m what = search (arith, effects_one)

pub effects_about : (R : MessageReader) (c : Tracked) (m : CutMessage) (o : Open) (what : EventKind)
    → effects R c (event_of_open (last_octet_of m) (Some o) what) ≡ one_effect R c
    (place m) o.opener what
unfolding event_of_open
effects_about R c m o what = search (arith, effects_one)

pub effects_nobody : (R : MessageReader) (c : Tracked) (m : CutMessage) (what : EventKind) →
    effects R c (event_of_open (last_octet_of m) None what) ≡ no_effect c
unfolding event_of_open
effects_nobody R c m what = effects_none R c

-- ---- A header's last octet.

began : (R : MessageReader) (m : CutMessage) (kept : Kept) →
    lines_of R (record { place = place m; subject = message_key m; what = Begins }) (Some kept)
    ≡ start_line_of m ∷ []
unfolding lines_of lines_for lines_of_event line up_to_last_line
began R m kept = refl

begins_first : (R : MessageReader) (c : Tracked) (m : CutMessage) (kept : Kept) (es : List Event)
    → c.known m.number ≡ Some kept
    → effects R c (own_event (last_octet_of m) Begins ++ es) ≡
    record { tracked = (effects R c es).tracked; lines = start_line_of m ∷ (effects R c es).lines }
begins_first R c m kept es k = search (arith, effects_append, effects_own, tracked_begins, began)

pub header_begins : (R : MessageReader) (c : Tracked) (m : CutMessage) (kept : Kept) →
    c.known m.number ≡ Some kept
    → header_fault m.header ≡ None → effects R c (events_at_header m) ≡
    record { tracked = c; lines = start_line_of m ∷ [] }
unfolding header_events
header_begins R c m kept k e = search (arith, begins_first, effects_none)

pub header_refused : (R : MessageReader) (c : Tracked) (m : CutMessage) (kept : Kept)
    (fault : FramingFault) → c.known m.number ≡ Some kept → header_fault m.header ≡ Some fault
    → (let fault_events = one_effect R c (place m) (message_key m) (Faults fault) in
    effects R c (events_at_header m)
    ≡ record { tracked = fault_events.tracked; lines = start_line_of m ∷ fault_events.lines })
unfolding header_events
header_refused R c m kept fault k e = search (arith, begins_first, effects_own)

-- ---- An octet of a payload.

pub octet_own : (R : MessageReader) (c : Tracked) (b : OpenState) (m : CutMessage) →
    has_joined_octets m ≡ false
    → effects R c (events_at_octet b m)
    ≡ one_effect R c (place m) (message_key m)
    (Takes (get_or m.payload (length m.payload - 1) 0))
unfolding payload_events has_joined_octets
octet_own R c b m h = search (arith, effects_own, get_or)

pub octet_passed : (R : MessageReader) (c : Tracked) (b : OpenState) (m : CutMessage) (o : Open) →
    has_joined_octets m ≡ true
    → opener_of b m ≡ Some o → effects R c (events_at_octet b m)
    ≡ one_effect R c (place m) o.opener
    (Takes (get_or m.payload (length m.payload - 1) 0))
unfolding payload_events has_joined_octets
octet_passed R c b m o h e = search (arith, effects_about, get_or)

pub octet_lost : (R : MessageReader) (c : Tracked) (b : OpenState) (m : CutMessage) →
    has_joined_octets m ≡ true → opener_of b m ≡ None
    → effects R c (events_at_octet b m) ≡ no_effect c
unfolding payload_events has_joined_octets
octet_lost R c b m h e = search (arith, effects_nobody, get_or)

-- ---- A Fragment, as it has its place among the open messages.

pub fragment_unknown : (R : Rules) (c : Tracked) (b : OpenState) (m : CutMessage) →
    is_any_fragment m.header ≡ true → opener_of b m ≡ None
    → effects R.reading c (events_at_name R.most b m)
    ≡ one_effect R.reading c (place m) (message_key m) (Faults (no_open_fault b (key m)))
unfolding naming_events
fragment_unknown R c b m f e = rw (f, e) (effects_own R.reading c m (Faults (no_open_fault b
    (key m))))

went_on : (R : MessageReader) (m : CutMessage) (o : Open) (kept : Kept)
    → lines_of R (record {
      place = place m;
      subject = message_key m;
      what =
          Continues o.opener.number;
    }) (Some kept) ≡ continues_line_of m o ∷ []
unfolding lines_of lines_for lines_of_event line up_to_last_line
went_on R m o kept = refl

goes_first : (R : MessageReader) (c : Tracked) (m : CutMessage) (o : Open) (kept : Kept)
    (es : List Event) → c.known m.number ≡ Some kept
    → effects R c (own_event (last_octet_of m) (Continues o.opener.number) ++ es)
    ≡ record {
      tracked = (effects R c es).tracked;
      lines =
          continues_line_of m o ∷ (effects R c es).lines;
    }
goes_first R c m o kept es k = search (arith, effects_append, effects_own, tracked_stays, went_on)

-- what the seam of a Fragment of 1.1 does
abbrev pub seam_effect : (R : MessageReader) (tracked : Tracked) (message : CutMessage)
    (opener : Open) → Effect
seam_effect R c m o = effects R c (seam_events (last_octet_of m) o)

pub seam_is : (R : MessageReader) (c : Tracked) (m : CutMessage) (o : Open) →
    is_fragmented_1_1 m.header ≡ true → seam_effect R c m o ≡ one_effect R c
    (place m) o.opener Seams
seam_is R c m o old = rw old (effects_about R c m o Seams)

pub seam_none : (R : MessageReader) (c : Tracked) (m : CutMessage) (o : Open) →
    is_fragmented_1_1 m.header ≡ false → seam_effect R c m o ≡ no_effect c
seam_none R c m o new = rw new (effects_none R c)

pub seam_says : (R : MessageReader) (c : Tracked) (m : CutMessage) (o : Open) →
    (seam_effect R c m o).lines ≡ []
seam_says R c m o = go (is_fragmented_1_1 m.header) refl
  where
    go : (b : Bool) → is_fragmented_1_1 m.header ≡ b → (seam_effect R c m o).lines ≡ []
    go true old = ap (λ (p : Effect). p.lines) (seam_is R c m o old)
        ∙ seam_lines R (place m) o.opener (c.known o.opener.number)
    go false new = ap (λ (p : Effect). p.lines) (seam_none R c m o new)

seam_opens_none : (R : MessageReader) (c : Tracked) (at : ℕ) (w : MessageKey) →
    (one_effect R c at w Seams).tracked.still_open ≡ c.still_open
unfolding tracked_after_event open_after_event
seam_opens_none R c at w = refl

pub seam_still_open : (R : MessageReader) (c : Tracked) (m : CutMessage) (o : Open) →
    (seam_effect R c m o).tracked.still_open ≡ c.still_open
seam_still_open R c m o = go (is_fragmented_1_1 m.header) refl
  where
    go : (b : Bool) → is_fragmented_1_1 m.header ≡ b →
        (seam_effect R c m o).tracked.still_open ≡ c.still_open
    go true old = ap (λ (p : Effect). p.tracked.still_open) (seam_is R c m o old)
        ∙ seam_opens_none R c (place m) o.opener
    go false new = ap (λ (p : Effect). p.tracked.still_open) (seam_none R c m o new)

continues_first : (R : Rules) (c : Tracked) (b : OpenState) (m : CutMessage) (o : Open)
    (kept : Kept)
    → is_any_fragment m.header ≡ true → opener_of b m ≡ Some o → c.known m.number ≡ Some kept
    → (let more = seam_events (last_octet_of m) o ++ order_fault_events (last_octet_of m) o in
    effects R.reading c (events_at_name R.most b m)
    ≡ line_effect (continues_line_of m o) (effects R.reading c more))
unfolding naming_events
continues_first R c b m o kept f e k = rw (f, e) (goes_first R.reading c m o kept
    (seam_events (last_octet_of m) o ++ order_fault_events (last_octet_of m) o) k)

pub fragment_in_order : (R : Rules) (c : Tracked) (b : OpenState) (m : CutMessage) (o : Open)
    (kept : Kept)
    → is_any_fragment m.header ≡ true → opener_of b m ≡ Some o → c.known m.number ≡ Some kept
    → same_order (order m.header) (order o.opener.header) ≡ true
    → effects R.reading c (events_at_name R.most b m)
    ≡ line_effect (continues_line_of m o) (no_effect (seam_effect R.reading c m o).tracked)
fragment_in_order R c b m o kept f e k s = continues_first R c b m o kept f e k ∙ rw (
  s,
  append-nil (seam_events (last_octet_of m) o),
) (λ j. record {
  tracked = (seam_effect R.reading c m o).tracked;
  lines = continues_line_of m o ∷ seam_says R.reading c m o j;
})

pub fragment_out_of_order : (R : Rules) (c : Tracked) (b : OpenState) (m : CutMessage) (o : Open)
    (kept : Kept)
    → is_any_fragment m.header ≡ true → opener_of b m ≡ Some o → c.known m.number ≡ Some kept
    → same_order (order m.header) (order o.opener.header) ≡ false
    → effects R.reading c (events_at_name R.most b m)
    ≡ line_effect (continues_line_of m o) (one_effect R.reading
    (seam_effect R.reading c m o).tracked
    (place m) o.opener (Faults FragmentOrder))
fragment_out_of_order R c b m o kept f e k s = continues_first R c b m o kept f e k ∙ rw (
  s,
  effects_append R.reading c (seam_events (last_octet_of m) o)
      (event_of_open (last_octet_of m) (Some o) (Faults FragmentOrder)),
  seam_says R.reading c m o,
  effects_about R.reading (seam_effect R.reading c m o).tracked m o (Faults FragmentOrder),
) refl

-- ---- A message that Fragments continue, as it has its place.

-- why it can't be opened
abbrev pub refusal_of : (most : ℕ) (before : OpenState) (message : CutMessage) → Option FramingFault
refusal_of most b m = opening_fault most b (key m) (opener_of b m)

pub opener_refused : (R : Rules) (c : Tracked) (b : OpenState) (m : CutMessage)
    (fault : FramingFault)
    → has_fragments m.header ≡ true → refusal_of R.most b m ≡ Some fault
    → effects R.reading c (events_at_name R.most b m)
    ≡ one_effect R.reading c (place m) (message_key m) (Faults fault)
unfolding naming_events
opener_refused R c b m fault h e =
    rw (first_no_fragment m.header h, h, e) (effects_own R.reading c m (Faults fault))

pub opener_opens : (R : Rules) (c : Tracked) (b : OpenState) (m : CutMessage) →
    has_fragments m.header ≡ true → refusal_of R.most b m ≡ None
    → effects R.reading c (events_at_name R.most b m)
    ≡ one_effect R.reading c (place m) (message_key m) (Opens (key m))
unfolding naming_events
opener_opens R c b m h e =
    rw (first_no_fragment m.header h, h, e) (effects_own R.reading c m (Opens (key m)))

-- ---- The request id of a CancelRequest.

-- the open message that it would cancel
abbrev pub cancelled_by : (before : OpenState) (message : CutMessage) → Option Open
cancelled_by b m = open_to_cancel b (key m) (opener_of b m)

pub cancels_so : (most : ℕ) (b : OpenState) (m : CutMessage) → is_any_fragment m.header ≡ false →
    has_fragments m.header ≡ false → is_cancel_request m.header ≡ true →
    events_at_name most b m ≡ cancel_event (last_octet_of m) (cancelled_by b m)
unfolding naming_events
cancels_so most b m f g h = rw (f, g, h) refl

pub cancel_closes : (R : MessageReader) (c : Tracked) (m : CutMessage) (o : Open) →
    may_be_cancelled o.opener.header ≡ true → effects R c (cancel_event (last_octet_of m) (Some o))
    ≡ one_effect R c (place m) o.opener (Cancelled m.number)
cancel_closes R c m o may = rw may (effects_about R c m o (Cancelled m.number))

pub cancel_spares : (R : MessageReader) (c : Tracked) (m : CutMessage) (o : Open) →
    may_be_cancelled o.opener.header ≡ false →
    effects R c (cancel_event (last_octet_of m) (Some o)) ≡ no_effect c
cancel_spares R c m o may = rw may (effects_none R c)

-- ---- The request id of any other message.

pub other_id : (R : Rules) (c : Tracked) (b : OpenState) (m : CutMessage) →
    is_any_fragment m.header ≡ false → has_fragments m.header ≡ false →
    is_cancel_request m.header ≡ false → effects R.reading c (events_at_name R.most b m)
    ≡ no_effect c
unfolding naming_events
other_id R c b m f g h = rw (f, g, h) (effects_none R.reading c)
