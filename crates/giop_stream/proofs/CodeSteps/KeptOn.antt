-- What is kept of a message after more events, and whether its header has ended by then.
use Rattle.std.proofs.Common.{◌≡◌, ℕ, ◌+◌, Bool, true, false, List, [], ◌∷◌, ◌++◌, length, Option, Some, None, refl, sym, ap, ◌∙◌, append-nil, append_assoc}
use Rattle.std.specs.Prelude.{◌==◌, option_map, if◌then◌else◌}
use Rattle.std.specs.List.{list_any}
use Rattle.std.proofs.lemmas.Bool.{lt-ltb}
use Rattle.giop_sig.specs.Builtin.{builtin_table}
use Rattle.giop_decode.specs.Noted.{Noted}
use Rattle.giop_message.specs.Phases.{Phase, AgreeBefore, seamed}
use Rattle.giop_message.specs.MessageReader.{MessageReader}
use Rattle.giop_message.specs.HeaderEnds.{marks, header_noted}
use Rattle.giop_message.proofs.MessageLaws.{message_phased, header_noted_before}
use Rattle.giop_stream.specs.Events.{EventKind, Takes, Seams, Event, octets_of_event, joined_octets}
use Rattle.giop_stream.specs.Lines.{StreamLine, Kept, kept_of, is_last_line_of}
use Rattle.giop_stream.specs.OpenSlots.{KeptByNumber, Tracked}
use Rattle.giop_stream.specs.Effects.{kept_after_event, kept_with, kept_unless_ended, lines_at, tracked_after_event, effects}
use Rattle.giop_stream.proofs.StreamLines.LinesOfOctet.{kept_push}

-- ---- What is kept.

-- what is kept of the message of this number after these events
unfoldable pub kept_after_events : (i : ℕ) (kept : Kept) (events : List Event) → Kept
kept_after_events i kept [] = kept
kept_after_events i kept (e ∷ es) =
    kept_after_events i (if e.subject.number == i then kept_after_event e.what kept else kept) es

pub kept_on_append : (i : ℕ) (es fs : List Event) (kept : Kept) →
    kept_after_events i kept (es ++ fs) ≡ kept_after_events i (kept_after_events i kept es) fs
unfolding kept_after_events
kept_on_append i [] fs kept = refl
kept_on_append i (e ∷ es) fs kept =
    kept_on_append i es fs (if e.subject.number == i then kept_after_event e.what kept else kept)

pub kept_of_on : (i : ℕ) (es past : List Event) →
    kept_of i (past ++ es) ≡ kept_after_events i (kept_of i past) es
unfolding kept_after_events
kept_of_on i [] past = ap (kept_of i) (append-nil past)
kept_of_on i (e ∷ es) past =
    ap (kept_of i) (sym (append_assoc past (e ∷ []) es))
    ∙ (kept_of_on i es (past ++ e ∷ []) ∙ ap (λ (k : Kept). kept_after_events i k es)
    (kept_push i past e))

-- ---- What was kept before events, if it is known what is kept after them.

-- this was kept, and the events make of it what is kept now
pub record IsMadeOfKept (o : Option Kept) (now : Kept) (then_on : Kept → Kept) : Type 0 where
  pub kept : Kept
  pub known : o ≡ Some kept
  pub is : now ≡ then_on kept

pub kept_was : (known : KeptByNumber) (e : Event) (ls : List StreamLine) (i : ℕ) (now : Kept) →
    kept_unless_ended (kept_with known e) ls i ≡ Some now →
    IsMadeOfKept (known i) now (λ kept. if e.subject.number == i then kept_after_event e.what kept
    else kept)
unfolding kept_unless_ended kept_with
kept_was known e ls i now is = go (list_any (is_last_line_of i) ls) (e.subject.number == i)
    (known i) is
  where
    go : (over mine : Bool) (o : Option Kept) →
        (if over then None else if mine then option_map (kept_after_event e.what) o else o)
        ≡ Some now →
        IsMadeOfKept o now (λ kept. if mine then kept_after_event e.what kept else kept)
    go true mine o k = absurd cc
    go false true None k = absurd cc
    go false false None k = absurd cc
    go false true (Some kept) k =
        let same : kept_after_event e.what kept ≡ now = cc in
        record { kept = kept; known = refl; is = sym same }
    go false false (Some kept) k =
        let same : kept ≡ now = cc in
        record { kept = kept; known = refl; is = sym same }

pub effects_was : (R : MessageReader) (es : List Event) (c : Tracked) (i : ℕ) (now : Kept) →
    (effects R c es).tracked.known i ≡ Some now → IsMadeOfKept (c.known i) now
    (λ kept. kept_after_events i kept es)
unfolding effects tracked_after_event kept_after_events
effects_was R [] c i now e = record { kept = now; known = e; is = refl }
effects_was R (e ∷ es) c i now k =
    let more = effects_was R es (tracked_after_event R c e) i now k in
    let one = kept_was c.known e (lines_at R c.known e) i more.kept more.known in
    record {
      kept = one.kept;
      known = one.known;
      is = more.is ∙ ap (λ (z : Kept). kept_after_events i z es) one.is;
    }

-- ---- Whether the header has ended.

-- what is noted of the header, if it has ended in what is kept
abbrev pub noted_in_kept : (header : List ℕ) (kept : Kept) → Option Noted
noted_in_kept header kept = header_noted kept.phase header kept.octets

noted_phased : (phase other : Phase) (header xs : List ℕ) →
    AgreeBefore (12 + length xs) phase other →
    header_noted phase header xs ≡ header_noted other header xs
unfolding header_noted marks
noted_phased phase other header xs agree =
    rw (message_phased builtin_table (λ id. None) phase other header xs agree) refl

seam_agrees : (phase : Phase) (here : ℕ) → AgreeBefore here phase (seamed phase here)
seam_agrees phase here at before = rw (lt-ltb at here before) refl

-- an event without an octet ends no header
quiet_then : (header : List ℕ) (kept : Kept) (what : EventKind) → octets_of_event what ≡ [] →
    noted_in_kept header (kept_after_event what kept) ≡ noted_in_kept header kept
unfolding octets_of_event
quiet_then header kept (Takes x) none = absurd cc
quiet_then header kept Seams none =
    let here = 12 + length kept.octets in
    ap (header_noted (seamed kept.phase here) header) (append-nil kept.octets)
    ∙ sym (noted_phased kept.phase (seamed kept.phase here) header kept.octets
    (seam_agrees kept.phase here))
quiet_then header kept _ none = ap (header_noted kept.phase header) (append-nil kept.octets)

-- if the header has not ended after an event, it had not ended before the event
then_before : (header : List ℕ) (kept : Kept) (what : EventKind) →
    noted_in_kept header (kept_after_event what kept) ≡ None → noted_in_kept header kept ≡ None
unfolding octets_of_event
then_before header kept (Takes x) e =
    header_noted_before kept.phase header kept.octets (x ∷ []) e
then_before header kept what e = sym (quiet_then header kept what refl) ∙ e

pub on_before : (i : ℕ) (header : List ℕ) (es : List Event) (kept : Kept) →
    noted_in_kept header (kept_after_events i kept es) ≡ None → noted_in_kept header kept ≡ None
unfolding kept_after_events
on_before i header [] kept e = e
on_before i header (d ∷ es) kept e =
    go (d.subject.number == i) (on_before i header es _ e)
  where
    go : (mine : Bool) → noted_in_kept header (if mine then kept_after_event d.what kept else kept)
        ≡ None →
        noted_in_kept header kept ≡ None
    go true k = then_before header kept d.what k
    go false k = k

none_both : (xs ys : List ℕ) → xs ++ ys ≡ [] → (xs ≡ []) × (ys ≡ [])
none_both [] ys e = (refl, e)
none_both (x ∷ xs) ys e = absurd cc

-- events that add no octet end no header
pub quiet_on : (i : ℕ) (header : List ℕ) (es : List Event) (kept : Kept) → joined_octets i es ≡ [] →
    noted_in_kept header (kept_after_events i kept es) ≡ noted_in_kept header kept
unfolding kept_after_events joined_octets
quiet_on i header [] kept none = refl
quiet_on i header (d ∷ es) kept none =
    let parts = none_both (if d.subject.number == i then octets_of_event d.what else [])
    (joined_octets i es) none in
    quiet_on i header es (if d.subject.number == i then kept_after_event d.what kept else kept)
    parts.1
    ∙ go (d.subject.number == i) parts.0
  where
    go : (mine : Bool) → (if mine then octets_of_event d.what else []) ≡ [] →
        noted_in_kept header (if mine then kept_after_event d.what kept else kept)
        ≡ noted_in_kept header kept
    go true k = quiet_then header kept d.what k
    go false k = refl
