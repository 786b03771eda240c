-- A stream has the same lines and the same state by two `Answers`, if they agree at each header
-- that ends in it before the message of that header is over.
use Rattle.std.proofs.Common.{inl, inr, ◌⊎◌, ◌≡◌, ℕ, zero, suc, ◌-◌, ◌<◌, Bool, true, false, List, [], ◌∷◌, ◌++◌, length, get_or, Option, Some, None, refl, sym, ap, subst, ◌∙◌, append-nil, append_assoc, arith}
use Rattle.std.specs.Prelude.{◌==◌, ◌&&◌, ◌||◌, not, is_none, nat_lt, option_to_list, if◌then◌else◌}
use Rattle.std.specs.List.{find, list_any, AllByRecursion as Each}
use Rattle.std.proofs.lemmas.Bool.{eq-eqb, eqb-true, ne_eqb, ltb-false}
use Rattle.std.proofs.lemmas.List.{append_cancel_left, get_or_push, length_push}
use Rattle.giop_checkpoint.specs.declared.fault.StreamFault.{StreamFault}
use Rattle.giop_checkpoint.specs.declared.fault.StreamFault.TheVariants.{StreamLimit}
use Rattle.giop_sig.specs.Types.{Ty}
use Rattle.giop_sig.specs.Table.{Table}
use Rattle.giop_sig.specs.Trees.{tree_at}
use Rattle.giop_sig.specs.Builtin.{builtin_types, builtin_table}
use Rattle.giop_sig.specs.HeaderTypes.{header_type}
use Rattle.giop_decode.specs.Pieces.{number, block}
use Rattle.giop_cdr.specs.Alignment.{padding}
use Rattle.giop_message.specs.Phases.{unbroken}
use Rattle.giop_message.specs.Headers.{minor, kind, size}
use Rattle.giop_message.specs.Signatures.{Answer, Answers, signatures_of}
use Rattle.giop_message.specs.Messages.{MessageReading, section_then, read_rest_in_parts, read_rest, read_header_and_rest, read_message, message_lines, message_marks}
use Rattle.giop_message.specs.MessageReader.{MessageReader}
use Rattle.giop_message.specs.ReaderOfTable.{first_request_id, message_reader}
use Rattle.giop_message.specs.HeaderEnds.{HeaderEnd, CallEvent, Header_end, Exception_end, noted_in, marks, header_noted, header_ends, call_event, after_event, after_ends, AgreesAtEnds}
use Rattle.giop_message.proofs.MessageLaws.{is_causal, is_ending, header_ended, unended_agree, answers_first, answers_then}
use Rattle.giop_stream.specs.Rules.{Rules, asks_by, joins_by, rules_by}
use Rattle.giop_stream.specs.Framing.{CutMessage, Cut, limit, cut, messages, fault_of}
use Rattle.giop_stream.specs.Kinds.{is_any_fragment, lookup_offset}
use Rattle.giop_stream.specs.Events.{EventKind, Takes, MessageKey, Event, OpenState, Open, message_key, place, key, opener_of, has_joined_octets, own_event, event_of_open, payload_events, naming_events, message_end_events, events_of_octet, events_from, events, open_after, octets_of_event, joined_octets, ends_joining, before_by, MessageOctet, last_octet_of}
use Rattle.giop_stream.specs.Lines.{StreamLine, Kept, nothing_kept, stop_line, lines}
use Rattle.giop_stream.specs.Stream.{text, totals_so_far, final, closing}
use Rattle.giop_stream.specs.OpenSlots.{KeptByNumber, slots_of, known_of, Tracked, tracked_after, given_id, given_id_of_open, before_in}
use Rattle.giop_stream.specs.Effects.{Effect, kept_after_event, lines_for, lines_at, tracked_after_event, effects, with_octet, event}
use Rattle.giop_stream.specs.Octet.{OctetKind, AfterStop, Ends, Held, Of, octet_in, octet_of, header_of, payload_count_of}
use Rattle.giop_stream.specs.PayloadOwner.{owner_of_octet}
use Rattle.giop_stream.specs.EngineState.{opener_key, owner_of_next, state_of}
use Rattle.giop_stream.specs.EngineStep.{text_at_finish, final_totals}
use Rattle.giop_stream.specs.EngineHolds.{HoldsBy, added}
use Rattle.giop_stream.specs.EngineView.{EngineView, FramingView}
use Rattle.giop_stream.specs.ViewOfState.{Shows}
use Rattle.giop_stream.specs.Shares.{octets_if_joined_to}
use Rattle.giop_stream.specs.HeaderEndsOfStream.{owner_header_ends, current_header_ends, header_ends_at, header_ends_from}
use Rattle.giop_stream.specs.AnswersAgree.{AnswersAlike, AgreeAtHeaders}
use Rattle.giop_stream.proofs.Lists.{each_append, each_weaker, all_by}
use Rattle.giop_stream.proofs.Cuts.Cutting.{cut_of_parts, cut_stopped_at}
use Rattle.giop_stream.proofs.Cuts.CutFrom.{cut_with_last_message}
use Rattle.giop_stream.proofs.Cuts.Numbers.{header_of_number}
use Rattle.giop_stream.proofs.Cuts.Start.{events_nothing, lines_nothing, known_nothing, open_nothing}
use Rattle.giop_stream.proofs.Events.EventsOfOctet.{events_of_octet_each, opened_each}
use Rattle.giop_stream.proofs.Events.EventsByEngine.{found_in}
use Rattle.giop_stream.proofs.Events.Soundness.{IsSound}
use Rattle.giop_stream.proofs.Events.Sharing.{share_of_octet, header_joined, octet_joined}
use Rattle.giop_stream.proofs.StreamLines.LinesOfOctet.{joined_append}
use Rattle.giop_stream.proofs.SlotSteps.Parts.{in_turn, owner_next}
use Rattle.giop_stream.proofs.CodeSteps.OneOctet.{AddsLinesAndState, IsOctetOfMessage, IsStateThen, octet_limit, then_is}
use Rattle.giop_stream.proofs.CodeSteps.EngineAlive.{sound}
use Rattle.giop_stream.proofs.CodeSteps.WhatStands.{before_is}
use Rattle.giop_stream.proofs.CodeSteps.KeptOn.{kept_after_events, kept_on_append, kept_was, effects_was, noted_in_kept, on_before, quiet_on}
use Rattle.giop_stream.proofs.CodeSteps.EngineLaws.{finish_is, final_is}
use Rattle.giop_stream.proofs.CodeSteps.StreamAgreement.{tells_agree, AgreesIfKept, shows_agree, each_parts, each_own, of_owner, one_header}
use Rattle.giop_stream.proofs.CodeSteps.HeaderEndSteps.{at_free, from_append}

-- ---- before the first octet no header has ended

abbrev IsHeaderUnended : (header : List ℕ) (found : Option Ty) → Type 0
IsHeaderUnended header found = noted_in (message_marks (read_header_and_rest
    (signatures_of builtin_table (λ id. None) unbroken) header found 12 [])) ≡ None

in_1_0 : (k : ℕ) (header : List ℕ) → IsHeaderUnended header (header_type 1 0 k)
unfolding tree_at builtin_types number padding block read_header_and_rest section_then read_rest
    read_rest_in_parts
    message_marks
in_1_0 (suc (suc (suc (suc (suc (suc (suc (suc k)))))))) header = refl
in_1_0 _ header = refl

in_1_1 : (k : ℕ) (header : List ℕ) → IsHeaderUnended header (header_type 1 1 k)
unfolding tree_at builtin_types number padding block read_header_and_rest section_then read_rest
    read_rest_in_parts
    message_marks
in_1_1 (suc (suc (suc (suc (suc (suc (suc (suc k)))))))) header = refl
in_1_1 _ header = refl

in_1_2 : (k : ℕ) (header : List ℕ) → IsHeaderUnended header (header_type 1 2 k)
unfolding tree_at builtin_types number padding block read_header_and_rest section_then read_rest
    read_rest_in_parts
    message_marks
in_1_2 (suc (suc (suc (suc (suc (suc (suc (suc k)))))))) header = refl
in_1_2 _ header = refl

in_others : (m k : ℕ) (header : List ℕ) → IsHeaderUnended header (header_type 1 (suc (suc
    (suc m))) k)
unfolding read_header_and_rest read_rest read_rest_in_parts message_marks
in_others m (suc (suc (suc (suc (suc (suc (suc (suc k)))))))) header = refl
in_others m _ header = refl

none_at_first : (m k : ℕ) (header : List ℕ) → IsHeaderUnended header (header_type 1 m k)
none_at_first zero k header = in_1_0 k header
none_at_first (suc zero) k header = in_1_1 k header
none_at_first (suc (suc zero)) k header = in_1_2 k header
none_at_first (suc (suc (suc m))) k header = in_others m k header

not_noted : (header : List ℕ) → header_noted unbroken header [] ≡ None
unfolding header_noted marks read_message signatures_of
not_noted header = none_at_first (minor header) (kind header) header

-- ---- what an octet gives to its owner

-- the octet's event
unfoldable pub takes_of : (place : ℕ) (owner : Option MessageKey) (octet : ℕ) → List Event
takes_of at None x = []
takes_of at (Some w) x = event at w (Takes x) ∷ []

-- what the octet x gives to message i: itself, if its owner has that number; else nothing
given : ℕ → ℕ → Option MessageKey → List ℕ
given i x None = []
given i x (Some w) = if w.number == i then x ∷ [] else []

owner_gives : (i : ℕ) (b : OpenState) (m : CutMessage) (x : ℕ) →
    share_of_octet i b m x ≡ given i x (owner_of_octet b m)
unfolding share_of_octet owner_of_octet octets_if_joined_to given
owner_gives i b m x = go (has_joined_octets m) (opener_of b m)
  where
    go : (past : Bool) (o : Option Open) →
        (if past then octets_if_joined_to i o (x ∷ []) else (if m.number == i then x ∷ [] else []))
        ≡ given i x (if past then opener_key o else Some (message_key m))
    go true None = refl
    go true (Some o) = refl
    go false o = refl

takes_give : (i at x : ℕ) (w : Option MessageKey) → joined_octets i (takes_of at w x) ≡ given i x w
unfolding takes_of given joined_octets octets_of_event
takes_give i at x None = refl
takes_give i at x (Some w) = append-nil (if w.number == i then x ∷ [] else [])

-- the events of an octet of the payload are the one by which its owner takes it, and others, which
-- add no octet
pub record SplitsAtTake (most : ℕ) (before : OpenState) (message : CutMessage)
    (x : ℕ) : Type 0 where
  pub at : ℕ
  pub rest : List Event
  pub is : events_of_octet most before (with_octet message x)
      ≡ takes_of at (owner_of_octet before (with_octet message x)) x ++ rest
  pub quiet : (i : ℕ) → joined_octets i rest ≡ []

nothing_more : (xs ys : List ℕ) → xs ≡ xs ++ ys → ys ≡ []
nothing_more xs ys e = sym (append_cancel_left xs [] ys (append-nil xs ∙ e))

pub split : (most : ℕ) (b : OpenState) (m : CutMessage) (x : ℕ) → SplitsAtTake most b m x
unfolding events_of_octet payload_events
split most b m x = record { at = place m'; rest = later; is = is; quiet = quiet }
  where
    m' : CutMessage
    m' = with_octet m x

    later : List Event
    later = (if length m'.payload == lookup_offset m'.header
        then naming_events most b (last_octet_of m') (key m') (opener_of b m') else [])
        ++ (if length m'.payload == size m'.header then
        message_end_events (last_octet_of m') (opener_of b m') else [])

    last : get_or m'.payload (length m'.payload - 1) 0 ≡ x
    last = get_or_push m.payload x 0 (length m'.payload - 1)
        (omega (arith, length_push m.payload x))

    taken : payload_events (last_octet_of m') (opener_of b m')
        ≡ takes_of (place m') (owner_of_octet b m') x
    taken = unfold has_joined_octets owner_of_octet takes_of own_event event_of_open in
        rw last (go (is_any_fragment m'.header && nat_lt (lookup_offset m'.header)
        (length m'.payload))
        (opener_of b m'))
      where
        go : (past : Bool) (o : Option Open) →
            (if past then event_of_open (last_octet_of m') o (Takes x)
            else own_event (last_octet_of m') (Takes x))
            ≡ takes_of (place m') (if past then opener_key o else Some (message_key m')) x
        go true None = unfold event_of_open takes_of in refl
        go true (Some o) = unfold event_of_open takes_of in refl
        go false o = unfold own_event takes_of in refl

    is : events_of_octet most b m' ≡ takes_of (place m') (owner_of_octet b m') x ++ later
    is = rw (ne_eqb (length m'.payload) 0 (λ none. omega (arith, none, length_push m.payload x)))
        (ap (λ (es : List Event). es ++ later) taken)

    quiet : (i : ℕ) → joined_octets i later ≡ []
    quiet i =
        let takes = takes_of (place m') (owner_of_octet b m') x in
        nothing_more (joined_octets i takes) (joined_octets i later)
        (takes_give i (place m') x (owner_of_octet b m')
        ∙ (sym (owner_gives i b m' x) ∙ (sym (octet_joined most i b m m.payload x)
        ∙ (ap (joined_octets i) is ∙ joined_append i takes later))))

-- if an octet is one of a message, it is within the limit
room_of : (o : Option StreamFault) (held : List ℕ) (number read count x : ℕ) (now : MessageOctet) →
    octet_in o held number read count x ≡ Of now → read < limit
unfolding octet_in
room_of (Some fault) held number read count x now e = absurd cc
room_of None held number read count x now e = go (nat_lt limit (suc read)) refl
  where
    go : (b : Bool) → nat_lt limit (suc read) ≡ b → read < limit
    go true k =
        let no : Ends StreamLimit ≡ Of now = sym (octet_limit held number read count x k) ∙ e in
        absurd cc
    go false k = ltb-false limit (suc read) k

module _ (C : Table) (a b : Answers) (most : ℕ) where
  abbrev A : Rules
  A = rules_by C a most

  abbrev B : Rules
  B = rules_by C b most

  -- for a message of which this is kept, the two answers agree, or its header has not ended
  abbrev AgreesForKept : (key : MessageKey) (kept : Kept) → Type 0
  AgreesForKept w kept = (a w.number ≡ b w.number) ⊎ (noted_in_kept w.header kept ≡ None)

  agree_before : (w : MessageKey) (es : List Event) (kept : Kept) →
      AgreesForKept w (kept_after_events w.number kept es) → AgreesForKept w kept
  agree_before w es kept (inl k) = inl k
  agree_before w es kept (inr k) = inr (on_before w.number w.header es kept k)

  agree_quiet : (w : MessageKey) (es : List Event) (kept : Kept) → joined_octets w.number es ≡ [] →
      AgreesForKept w kept → AgreesForKept w (kept_after_events w.number kept es)
  agree_quiet w es kept none (inl k) = inl k
  agree_quiet w es kept none (inr k) = inr (quiet_on w.number w.header es kept none ∙ k)

  -- the same for each message of which something is kept, after these events
  abbrev AgreesAfterEvents : (known : KeptByNumber) (es : List Event) (key : MessageKey) → Type 0
  AgreesAfterEvents known es w = (kept : Kept) → known w.number ≡ Some kept →
      AgreesForKept w (kept_after_events w.number kept es)

  -- ---- the effects of events

  says_agree : (e : Event) (o : Option Kept) →
      ((kept : Kept) → o ≡ Some kept → AgreesForKept e.subject (kept_after_event e.what kept))
      → lines_for (message_reader C a) e o ≡ lines_for (message_reader C b) e o
  unfolding lines_for
  says_agree e None h = refl
  says_agree e (Some kept) h = tells_agree C a b e kept e.what (h kept refl)

  own_on : (e : Event) (es : List Event) (kept : Kept) →
      kept_after_events e.subject.number kept (e ∷ es)
      ≡ kept_after_events e.subject.number (kept_after_event e.what kept) es
  unfolding kept_after_events
  own_on e es kept =
      ap (λ (mine : Bool). kept_after_events e.subject.number
      (if mine then kept_after_event e.what kept else kept) es)
      (eq-eqb e.subject.number e.subject.number refl)

  first_agree : (c : Tracked) (e : Event) (es : List Event) →
      AgreesAfterEvents c.known (e ∷ es) e.subject →
      lines_at (message_reader C a) c.known e ≡ lines_at (message_reader C b) c.known e
  unfolding lines_at
  first_agree c e es h =
      rw (says_agree e (c.known e.subject.number) (λ kept k.
      agree_before e.subject es (kept_after_event e.what kept)
      (subst (AgreesForKept e.subject) (own_on e es kept) (h kept k)))) refl

  fine_later : (c : Tracked) (e : Event) (es : List Event) (R : MessageReader) (w : MessageKey) →
      AgreesAfterEvents c.known (e ∷ es) w → AgreesAfterEvents
      (tracked_after_event R c e).known es w
  unfolding tracked_after_event kept_after_events
  fine_later c e es R w h now k =
      let was = kept_was c.known e (lines_at R c.known e) w.number now k in
      subst (λ (z : Kept). AgreesForKept w (kept_after_events w.number z es)) (sym was.is)
      (h was.kept was.known)

  tracked_agree : (c : Tracked) (e : Event) →
      lines_at (message_reader C a) c.known e ≡ lines_at (message_reader C b) c.known e →
      tracked_after_event (message_reader C a) c e ≡ tracked_after_event (message_reader C b) c e
  unfolding tracked_after_event
  tracked_agree c e one = rw one refl

  effects_agree : (es : List Event) (c : Tracked) →
      Each (λ e. AgreesAfterEvents c.known es e.subject) es →
      effects (message_reader C a) c es ≡ effects (message_reader C b) c es
  unfolding effects
  effects_agree [] c h = refl
  effects_agree (e ∷ es) c h =
      let one = first_agree c e es h.0 in
      let next = tracked_agree c e one in
      let more = effects_agree es (tracked_after_event (message_reader C a) c e)
      (each_weaker (λ e'. AgreesAfterEvents c.known (e ∷ es) e'.subject)
      (λ e'. AgreesAfterEvents (tracked_after_event (message_reader C a) c e).known es e'.subject)
      (λ e' k. fine_later c e es (message_reader C a) e'.subject k) es h.1)
      ∙ ap (λ (c' : Tracked). effects (message_reader C b) c' es) next in
      λ j. record { tracked = (more j).tracked; lines = one j ++ (more j).lines }

  -- ---- a stream that both answers read alike

  abbrev KeptAlike : (stream : List ℕ) (key : MessageKey) → Type 0
  KeptAlike p w = (kept : Kept) → known_of A p w.number ≡ Some kept → AgreesForKept w kept

  pub record AreAlikeOver (p : List ℕ) : Type 0 where
    pub lines_same : lines A p ≡ lines B p
    pub tracked_same : tracked_after A p ≡ tracked_after B p
    pub events_same : events A p ≡ events B p
    pub kept_alike : Each (λ e. KeptAlike p e.subject) (events A p)

  pub start : AreAlikeOver []
  unfolding tracked_after before_by
  start =
      let both = events_nothing A ∙ sym (events_nothing B) in
      record {
        lines_same = lines_nothing A ∙ sym (lines_nothing B);
        tracked_same = λ j. record {
          still_open = (open_nothing A ∙ sym (open_nothing B)) j;
          mixed = not (joins_by C) || list_any ends_joining (both j);
          known = λ i. (known_nothing A i ∙ sym (known_nothing B i)) j;
        };
        events_same = both;
        kept_alike = rw (events_nothing A) tt;
      }

  sound_a : (p : List ℕ) → IsSound A p
  sound_a = sound A (is_causal (λ phase number. signatures_of C (a number) phase)) (in_turn C a)

  sound_b : (p : List ℕ) → IsSound B p
  sound_b = sound B (is_causal (λ phase number. signatures_of C (b number) phase)) (in_turn C b)

  -- the request id that a message has given
  asks_agree : (w : MessageKey) (kept : Kept) → AgreesForKept w kept →
      asks_by C a kept.phase w.number w.header kept.octets
      ≡ asks_by C b kept.phase w.number w.header kept.octets
  unfolding asks_by
  asks_agree w kept (inl k) = ap (λ (answer : Answer). first_request_id (message_lines
      (read_message (signatures_of C answer kept.phase) w.header kept.octets))) k
  asks_agree w kept (inr k) = ap (λ (m : MessageReading). first_request_id (message_lines m))
      (unended_agree C (a w.number) (b w.number) kept.phase w.header kept.octets k)

  -- what stands before the next octet is the same by both answers
  pub before_same : (p : List ℕ) → AreAlikeOver p → before_by A (events A p) ≡ before_by B
      (events B p)
  unfolding before_in tracked_after
  before_same p h =
      sym (before_is A p (sound_a p))
      ∙ ((λ j. record {
        still_open = open_after A p;
        mixed = (before_by A (events A p)).mixed;
        asked = asked j;
      })
      ∙ (ap (before_in (asks_by C b)) h.tracked_same ∙ before_is B p (sound_b p)))
    where
      each : Each (λ o. KeptAlike p o.opener) (open_after A p)
      each = unfold open_after in opened_each (KeptAlike p) [] (events A p) tt h.kept_alike

      by : (o : Open) → KeptAlike p o.opener →
          given_id_of_open (asks_by C a) (known_of A p) (Some o)
          ≡ given_id_of_open (asks_by C b) (known_of A p) (Some o)
      by o alike = go (known_of A p o.opener.number) refl
        where
          go : (k : Option Kept) → known_of A p o.opener.number ≡ k →
              given_id (asks_by C a) o.opener k ≡ given_id (asks_by C b) o.opener k
          go None e = refl
          go (Some kept) e = asks_agree o.opener kept (alike kept e)

      asked : given_id_of_open (asks_by C a) (known_of A p) (find (λ o. is_none o.key)
          (open_after A p))
          ≡ given_id_of_open (asks_by C b) (known_of A p) (find (λ o. is_none o.key)
          (open_after A p))
      asked = go (find (λ o. is_none o.key) (open_after A p)) refl
        where
          go : (o : Option Open) → find (λ o. is_none o.key) (open_after A p) ≡ o →
              given_id_of_open (asks_by C a) (known_of A p) o ≡ given_id_of_open (asks_by C b)
              (known_of A p) o
          go None e = refl
          go (Some o) e = by o (found_in (λ o. KeptAlike p o.opener) (λ o. is_none o.key)
              (open_after A p) o each e)

  known_same : (p : List ℕ) (c : Tracked) (i : ℕ) → tracked_after A p ≡ c →
      known_of A p i ≡ c.known i
  unfolding tracked_after
  known_same p c i e = ap (λ (t : Tracked). t.known i) e

  -- the next octet is one of no message
  idle : (p : List ℕ) (x : ℕ) (c : Cut) (ls : List StreamLine) → AreAlikeOver p →
      AddsLinesAndState A p (p ++ x ∷ []) c ls (tracked_after A p) →
      AddsLinesAndState B p (p ++ x ∷ []) c ls (tracked_after B p) → messages c ≡ messages (cut p) →
      AreAlikeOver (p ++ x ∷ [])
  unfolding events tracked_after
  idle p x c ls h f g same =
      let still : events A (p ++ x ∷ []) ≡ events A p =
      ap (events_from A []) (ap messages f.cut_is ∙ same) in
      let still_b : events B (p ++ x ∷ []) ≡ events B p =
      ap (events_from B []) (ap messages g.cut_is ∙ same) in
      record {
        lines_same = f.lines ∙ (ap (λ (z : List StreamLine). z ++ ls) h.lines_same ∙ sym g.lines);
        tracked_same = f.tracked_after ∙ (h.tracked_same ∙ sym g.tracked_after);
        events_same = still ∙ (h.events_same ∙ sym still_b);
        kept_alike = subst (Each (λ e. KeptAlike (p ++ x ∷ []) e.subject)) (sym still)
            (each_weaker (λ e. KeptAlike p e.subject)
            (λ e. KeptAlike (p ++ x ∷ []) e.subject)
            (λ e k kept known. k kept (sym (known_same (p ++ x ∷ []) (tracked_after A p)
            e.subject.number f.tracked_after) ∙ known)) (events A p) h.kept_alike);
      }

  -- the same for a message after an octet with these events
  abbrev NowAlike : (stream : List ℕ) (es : List Event) (key : MessageKey) → Type 0
  NowAlike p es w = AgreesAfterEvents (known_of A p) es w

  then_alike : (p p' : List ℕ) (es : List Event) (w : MessageKey) →
      tracked_after A p' ≡ (effects (message_reader C a) (tracked_after A p) es).tracked →
      NowAlike p es w → KeptAlike p' w
  unfolding tracked_after
  then_alike p p' es w e h now known =
      let was = effects_was (message_reader C a) es (tracked_after A p) w.number now
      (sym (known_same p' (effects (message_reader C a) (tracked_after A p) es).tracked w.number e)
      ∙ known) in
      subst (AgreesForKept w) (sym was.is) (h was.kept was.known)

  now_agree : (p : List ℕ) (es : List Event) → Each (λ e. NowAlike p es e.subject) es →
      effects (message_reader C a) (tracked_after A p) es
      ≡ effects (message_reader C b) (tracked_after A p) es
  unfolding tracked_after
  now_agree p es new = effects_agree es (tracked_after A p) new

  dealt : (p : List ℕ) (x : ℕ) (c c' : Cut) (es : List Event) → AreAlikeOver p →
      events A (p ++ x ∷ []) ≡ events A p ++ es → events B (p ++ x ∷ []) ≡ events B p ++ es →
      AddsLinesAndState A p (p ++ x ∷ []) c (effects (message_reader C a)
      (tracked_after A p) es).lines
      (effects (message_reader C a) (tracked_after A p) es).tracked →
      AddsLinesAndState B p (p ++ x ∷ []) c' (effects (message_reader C b)
      (tracked_after B p) es).lines
      (effects (message_reader C b) (tracked_after B p) es).tracked →
      Each (λ e. NowAlike p es e.subject) (events A p) → Each (λ e. NowAlike p es e.subject) es →
      AreAlikeOver (p ++ x ∷ [])
  dealt p x c c' es h grows grows_b f g old new =
      let same : effects (message_reader C a) (tracked_after A p) es
      ≡ effects (message_reader C b) (tracked_after B p) es =
      now_agree p es new
      ∙ ap (λ (t : Tracked). effects (message_reader C b) t es) h.tracked_same in
      record {
        lines_same = f.lines ∙ ((λ j. h.lines_same j ++ (same j).lines) ∙ sym g.lines);
        tracked_same = f.tracked_after
            ∙ (ap (λ (q : Effect). q.tracked) same ∙ sym g.tracked_after);
        events_same = grows
            ∙ (ap (λ (z : List Event). z ++ es) h.events_same ∙ sym grows_b);
        kept_alike = subst (Each (λ e. KeptAlike (p ++ x ∷ []) e.subject)) (sym grows)
            (each_weaker (λ e. NowAlike p es e.subject) (λ e. KeptAlike (p ++ x ∷ []) e.subject)
            (λ e k. then_alike p (p ++ x ∷ []) es e.subject f.tracked_after k)
            (events A p ++ es)
            (each_append (λ e. NowAlike p es e.subject) (events A p) es old new));
      }

  -- ---- the message to which the octet belongs

  one_message : (p : List ℕ) (x : ℕ) (now : MessageOctet) (h : IsOctetOfMessage A p x now)
      (k : IsOctetOfMessage B p x now) →
      h.m ≡ k.m
  unfolding place
  one_message p x now h k = go h.from k.from
    where
      IsNewOrContinued : CutMessage → Type 0
      IsNewOrContinued m = (((cut p).current ≡ None) × (m.payload ≡ []))
          ⊎ ((was : CutMessage) × ((cut p).current ≡ Some was) × (m ≡ with_octet was x))

      number : h.m.number ≡ k.m.number
      number = h.number_is ∙ sym k.number_is

      header : h.m.header ≡ k.m.header
      header = ap (λ (n : MessageOctet). n.subject.header) (h.is_now ∙ sym k.is_now)

      before : h.m.payload ≡ k.m.payload → h.m.before ≡ k.m.before
      before e = omega (arith, h.place_is, k.place_is, ap length e)

      go : IsNewOrContinued h.m → IsNewOrContinued k.m → h.m ≡ k.m
      go (inl f) (inl g) =
          let payload = f.1 ∙ sym g.1 in
          λ j. record {
            number = number j;
            before = before payload j;
            header = header j;
            payload = payload j;
          }
      go (inl f) (inr g) = absurd (let no : None ≡ Some g.0 = sym f.0 ∙ g.1 in cc)
      go (inr f) (inl g) = absurd (let no : None ≡ Some f.0 = sym g.0 ∙ f.1 in cc)
      go (inr f) (inr g) =
          let both : Some f.0 ≡ Some g.0 = sym f.1 ∙ g.1 in
          let was : f.0 ≡ g.0 = cc in
          f.2 ∙ (ap (λ (w : CutMessage). with_octet w x) was ∙ sym g.2)

  -- ---- an octet of a payload

  -- what stands before the next octet, by the first answers
  abbrev open_state_of : (stream : List ℕ) → OpenState
  open_state_of p = before_by A (events A p)

  module _ (p : List ℕ) (x : ℕ) (was : CutMessage) (free : (cut p).stop ≡ None)
      (current : (cut p).current ≡ Some was) (room : length p < limit)
      (ends : Each (AnswersAlike a b) (header_ends_at A p x)) where
    abbrev Es : List Event
    Es = events_of_octet most (open_state_of p) (with_octet was x)

    abbrev Owner : Option MessageKey
    Owner = owner_of_next (open_state_of p) was

    parts : SplitsAtTake most (open_state_of p) was x
    parts = split most (open_state_of p) was x

    here : (w : MessageKey) (kept : Kept) → Owner ≡ Some w → known_of A p w.number ≡ Some kept →
        header_ends_at A p x ≡ header_ends kept.phase w.number w.header kept.octets (x ∷ [])
    unfolding tracked_after
    here w kept owner known = at_free A p x free room ∙ rw (current, owner, known) refl

    own_alike : (w : MessageKey) (kept : Kept) → Owner ≡ Some w →
        known_of A p w.number ≡ Some kept → AgreesForKept w kept →
        AgreesForKept w (kept_after_event (Takes x) kept)
    unfolding octets_of_event
    own_alike w kept owner known (inl k) = inl k
    own_alike w kept owner known (inr k) =
        elim (header_ended (AnswersAlike a b) kept.phase w.number w.header kept.octets (x ∷ []) k
        (subst (Each (AnswersAlike a b)) (here w kept owner known) ends)) [
          | inl none ↦ inr none
          | inr same ↦ inl same.1
        ]

    -- the octet's owner takes it
    taken_alike : (v : MessageKey) → header_of_number (messages (cut p)) v.number ≡ Some v.header →
        KeptAlike p v → (o : Option MessageKey) → Owner ≡ o → (kept : Kept) →
        known_of A p v.number ≡ Some kept →
        AgreesForKept v (kept_after_events v.number kept (takes_of parts.at o x))
    unfolding kept_after_events takes_of
    taken_alike v each_alike h None owner kept known = h kept known
    taken_alike v each_alike h (Some w) owner kept known = by (w.number == v.number) refl
      where
        key_is : (w v : MessageKey) → w.number ≡ v.number → w.header ≡ v.header → w ≡ v
        key_is w v e f = λ j. record { number = e j; header = f j }

        by : (mine : Bool) → (w.number == v.number) ≡ mine →
            AgreesForKept v (if mine then kept_after_event (Takes x) kept else kept)
        by false e = h kept known
        by true e =
            let number : w.number ≡ v.number = eqb-true w.number v.number e in
            let found : header_of_number (messages (cut p)) w.number ≡ Some w.header =
            of_owner (λ u. header_of_number (messages (cut p)) u.number ≡ Some u.header) A p w
            (rw current owner) (one_header A p) in
            let header : Some w.header ≡ Some v.header =
            sym found ∙ (ap (header_of_number (messages (cut p))) number ∙ each_alike) in
            let is : w ≡ v = key_is w v number cc in
            own_alike v kept (owner ∙ ap Some is) known (h kept known)

    paid_alike : (v : MessageKey) → header_of_number (messages (cut p)) v.number ≡ Some v.header →
        KeptAlike p v → NowAlike p Es v
    paid_alike v each_alike h kept known =
        let owner = owner_next (open_state_of p) was x in
        let takes = takes_of parts.at (owner_of_octet (open_state_of p) (with_octet was x)) x in
        let one : AgreesForKept v (kept_after_events v.number kept takes) =
        subst (λ (o : Option MessageKey). AgreesForKept v (kept_after_events v.number kept
        (takes_of parts.at o x)))
        (sym owner) (taken_alike v each_alike h Owner refl kept known) in
        subst (λ (es : List Event). AgreesForKept v (kept_after_events v.number kept es))
        (sym parts.is)
        (subst (AgreesForKept v) (sym (kept_on_append v.number takes parts.rest kept))
        (agree_quiet v parts.rest (kept_after_events v.number kept takes)
        (parts.quiet v.number) one))

  -- ---- one octet

  -- an octet of a message: if the events before the octet have this, so have the events of the
  -- octet
  of_events : (p : List ℕ) (m : CutMessage) →
      (let es = events_of_octet most (open_state_of p) m in
      Each (λ e. NowAlike p es e.subject) (events A p) → NowAlike p es (message_key m) →
      Each (λ e. NowAlike p es e.subject) es)
  unfolding before_by
  of_events p m old each_alike =
      let es = events_of_octet most (open_state_of p) m in
      events_of_octet_each most (λ e. NowAlike p es e.subject) (open_state_of p) m
      (λ what. each_alike)
      (each_weaker (λ (o : Open). NowAlike p es o.opener)
      (λ (o : Open). (what : EventKind) → NowAlike p es o.opener) (λ o k what. k)
      (open_state_of p).still_open
      (opened_each (NowAlike p es) [] (events A p) tt old))

  -- the last octet of a message's header
  begun_alike : (p : List ℕ) (m : CutMessage) → AreAlikeOver p → m.payload ≡ [] →
      known_of A p m.number ≡ Some nothing_kept →
      (let es = events_of_octet most (open_state_of p) m in
      Each (λ e. NowAlike p es e.subject) (events A p)
      × NowAlike p es (message_key m))
  begun_alike p m h none unknown =
      let es = events_of_octet most (open_state_of p) m in (
        each_weaker (λ e. KeptAlike p e.subject) (λ e. NowAlike p es e.subject)
            (λ e k kept known. agree_quiet e.subject es kept
            (header_joined most e.subject.number (open_state_of p) m none) (k kept known))
            (events A p) h.kept_alike,
        λ kept known. agree_quiet (message_key m) es kept
            (header_joined most m.number (open_state_of p) m none)
            (inr (let both : Some nothing_kept ≡ Some kept = sym unknown ∙ known in
            let empty : nothing_kept ≡ kept = cc in
            subst (λ (z : Kept). noted_in_kept m.header z ≡ None) empty (not_noted m.header))),
      )

  -- an octet of the message's payload
  paid_old : (p : List ℕ) (x : ℕ) (was : CutMessage) → AreAlikeOver p → (cut p).stop ≡ None →
      (cut p).current ≡ Some was → length p < limit →
      Each (AnswersAlike a b) (header_ends_at A p x) →
      (let es = events_of_octet most (open_state_of p) (with_octet was x) in
      Each (λ e. NowAlike p es e.subject) (events A p)
      × NowAlike p es (message_key was))
  unfolding events messages
  paid_old p x was h free current room ends =
      let es = events_of_octet most (open_state_of p) (with_octet was x) in
      let old = go (events A p) h.kept_alike (one_header A p) in
      let each_alike = each_parts (λ m. NowAlike p es (message_key m)) (cut p).whole
      (option_to_list (cut p).current)
      (each_own (NowAlike p es) A [] (messages (cut p)) old) in (
        old,
        (subst (λ (o : Option CutMessage). Each (λ m. NowAlike p es (message_key m))
            (option_to_list o)) current each_alike.1).0,
      )
    where
      go : (some : List Event) → Each (λ e. KeptAlike p e.subject) some →
          Each (λ e. header_of_number (messages (cut p)) e.subject.number
          ≡ Some e.subject.header) some →
          Each (λ e. NowAlike p (events_of_octet most (open_state_of p) (with_octet was x))
          e.subject) some
      go [] k l = tt
      go (e ∷ some) k l = (
        paid_alike p x was free current room ends e.subject l.0 k.0,
        go some k.1 l.1,
      )

  of_message : (p : List ℕ) (x : ℕ) (now : MessageOctet) → AreAlikeOver p → (cut p).stop ≡ None →
      length p < limit → Each (AnswersAlike a b) (header_ends_at A p x) →
      IsOctetOfMessage A p x now →
      IsOctetOfMessage B p x now → AreAlikeOver (p ++ x ∷ [])
  unfolding messages
  of_message p x now h free room ends f g = go f.from
    where
      es : List Event
      es = events_of_octet most (open_state_of p) f.m

      same : events_of_octet most (before_by B (events B p)) g.m ≡ es
      same = λ j. events_of_octet most (sym (before_same p h) j) (sym (one_message p x now f g) j)

      by : Each (λ e. NowAlike p es e.subject) (events A p) →
          NowAlike p es (message_key f.m) → AreAlikeOver (p ++ x ∷ [])
      by old each_alike =
          dealt p x _ _ es h f.grows (g.grows ∙ ap (λ (z : List Event). events B p ++ z) same)
          f.adds
          (subst (λ (z : List Event). AddsLinesAndState B p (p ++ x ∷ []) (cut_with_last_message
          (cut p).whole g.m)
          (effects (message_reader C b) (tracked_after B p) z).lines
          (effects (message_reader C b) (tracked_after B p) z).tracked) same g.adds)
          old (of_events p f.m old each_alike)

      go : (((cut p).current ≡ None) × (f.m.payload ≡ []))
          ⊎ ((was : CutMessage) × ((cut p).current ≡ Some was) × (f.m ≡ with_octet was x)) →
          AreAlikeOver (p ++ x ∷ [])
      go (inl k) =
          let count : length (messages (cut p)) ≡ length (cut p).whole =
          rw k.0 (ap length (append-nil (cut p).whole)) in
          let number = f.number_is in
          let both = begun_alike p f.m h k.1
          ((sound_a p).unknown f.m.number (omega (arith, count, number))) in
          by both.0 both.1
      go (inr k) =
          let both = paid_old p x k.0 h free k.1 room ends in
          by
          (subst (λ (m : CutMessage). Each (λ e. NowAlike p
          (events_of_octet most (open_state_of p) m) e.subject) (events A p)) (sym k.2) both.0)
          (subst (λ (m : CutMessage). NowAlike p (events_of_octet most (open_state_of p) m)
          (message_key m)) (sym k.2) both.1)

  -- ---- the events after the next octet

  -- the next octet has the same events by both answers, since they rest on what came before it
  pub next_same : (p : List ℕ) (x : ℕ) → AreAlikeOver p →
      events A (p ++ x ∷ []) ≡ events B (p ++ x ∷ [])
  unfolding events messages cut_stopped_at cut_of_parts
  next_same p x h =
      go (octet_of (cut p) (length p) x)
      (then_is A (is_causal (λ phase number. signatures_of C (a number) phase)) (in_turn C a) p x
      (sound_a p))
      (then_is B (is_causal (λ phase number. signatures_of C (b number) phase)) (in_turn C b) p x
      (sound_b p))
    where
      none : messages (cut (p ++ x ∷ [])) ≡ messages (cut p) →
          events A (p ++ x ∷ []) ≡ events B (p ++ x ∷ [])
      none e = ap (events_from A []) e ∙ (h.events_same ∙ ap (events_from B []) (sym e))

      go : (o : OctetKind) → IsStateThen A p x o → IsStateThen B p x o →
          events A (p ++ x ∷ []) ≡ events B (p ++ x ∷ [])
      go AfterStop f g = none (ap messages f.2.cut_is)
      go (Ends fault) f g = none (ap messages f.1.cut_is)
      go (Held front) f g = none (ap messages f.2.cut_is ∙ rw f.1 refl)
      go (Of now) f g = f.1.grows
          ∙ ((λ j. h.events_same j
          ++ events_of_octet most (before_same p h j) (one_message p x now f.1 g.1 j))
          ∙ sym g.1.grows)

  pub step : (p : List ℕ) (x : ℕ) → AreAlikeOver p → Each (AnswersAlike a b)
      (header_ends_at A p x) →
      AreAlikeOver (p ++ x ∷ [])
  unfolding messages cut_stopped_at cut_of_parts octet_of
  step p x h ends =
      let ca = is_causal (λ phase number. signatures_of C (a number) phase) in
      let cb = is_causal (λ phase number. signatures_of C (b number) phase) in
      go (octet_of (cut p) (length p) x) refl
      (then_is A ca (in_turn C a) p x (sound A ca (in_turn C a) p))
      (then_is B cb (in_turn C b) p x (sound B cb (in_turn C b) p))
    where
      go : (o : OctetKind) → octet_of (cut p) (length p) x ≡ o → IsStateThen A p x o →
          IsStateThen B p x o →
          AreAlikeOver (p ++ x ∷ [])
      go AfterStop is f g = idle p x (cut p) [] h f.2 g.2 refl
      go (Ends fault) is f g =
          idle p x (cut_stopped_at (suc (length p)) fault (cut p))
          (stop_line (Some (suc (length p), fault))) h f.1 g.1 refl
      go (Held front) is f g =
          idle p x (cut_of_parts (cut p).whole None front None) [] h f.2 g.2
          (rw f.1 refl)
      go (Of now) is f g =
          of_message p x now h f.0
          (room_of (fault_of (cut p).stop) (header_of (cut p).current (cut p).held)
          (length (messages (cut p))) (length p) (payload_count_of (cut p).current) x now is)
          ends f.1 g.1

  -- ---- a whole stream

  alike_from : (q p : List ℕ) → AreAlikeOver p → Each (AnswersAlike a b) (header_ends_from A p q) →
      AreAlikeOver (p ++ q)
  unfolding header_ends_from
  alike_from [] p h ends = rw (append-nil p) h
  alike_from (x ∷ q) p h ends =
      let parts = each_parts (AnswersAlike a b) (header_ends_at A p x)
      (header_ends_from A (p ++ x ∷ []) q) ends in
      subst AreAlikeOver (append_assoc p (x ∷ []) q)
      (alike_from q (p ++ x ∷ []) (step p x h parts.0) parts.1)

  pub alike : (p : List ℕ) → AgreeAtHeaders C most p a b → AreAlikeOver p
  alike p h = alike_from p [] start h

  -- a stream has the same text by both answers
  pub text_alike : (p : List ℕ) → AgreeAtHeaders C most p a b → text A p ≡ text B p
  unfolding text
  text_alike p h = rw (alike p h).lines_same refl

  -- a stream has the same state by both answers
  pub state_alike : (p : List ℕ) → AgreeAtHeaders C most p a b → state_of A p ≡ state_of B p
  unfolding state_of totals_so_far
  state_alike p h =
      let all = alike p h in
      let owner = before_same p all in
      rw (all.lines_same, all.tracked_same, owner) refl

  -- an engine keeps the same of a message by both answers
  same_for : (p : List ℕ) (w : MessageKey) → KeptAlike p w →
      AgreesIfKept C a b w (known_of A p w.number)
  same_for p w h = go (known_of A p w.number) refl
    where
      go : (o : Option Kept) → known_of A p w.number ≡ o → AgreesIfKept C a b w o
      go None e = tt
      go (Some kept) e = h kept e

  slots_same : (p : List ℕ) (os : List Open) → Each (λ o. KeptAlike p o.opener) os
      → Each (λ slot. AgreesIfKept C a b slot.open_as.opener slot.kept) (slots_of (known_of A p) os)
  unfolding slots_of
  slots_same p [] k = tt
  slots_same p (o ∷ os) k = (same_for p o.opener k.0, slots_same p os k.1)

  pub fields_alike : (p : List ℕ) (f : FramingView) → AgreeAtHeaders C most p a b →
      Shows C a f (state_of A p) → Shows C b f (state_of B p)
  unfolding state_of open_after events tracked_after
  fields_alike p f h shows =
      let kept = (alike p h).kept_alike in
      subst (Shows C b f) (state_alike p h)
      (shows_agree C a b f (state_of A p) (slots_same p (open_after A p)
      (opened_each (KeptAlike p) [] (events A p) tt kept))
      (λ w owner. same_for p w (of_owner (KeptAlike p) A p w owner kept)) shows)

  -- a stream has the same closing and totals by both answers
  pub closing_alike : (p : List ℕ) → AgreeAtHeaders C most p a b → closing A p ≡ closing B p
  closing_alike p h =
      finish_is A (is_causal (λ phase number. signatures_of C (a number) phase)) (in_turn C a)
      (is_ending (λ phase number. signatures_of C (a number) phase)) p
      ∙ (ap text_at_finish (state_alike p h)
      ∙ sym (finish_is B (is_causal (λ phase number. signatures_of C (b number) phase))
      (in_turn C b)
      (is_ending (λ phase number. signatures_of C (b number) phase)) p))

  pub final_alike : (p : List ℕ) → AgreeAtHeaders C most p a b → final A p ≡ final B p
  final_alike p h =
      final_is A (is_causal (λ phase number. signatures_of C (a number) phase)) (in_turn C a) p
      ∙ (ap final_totals (state_alike p h)
      ∙ sym (final_is B (is_causal (λ phase number. signatures_of C (b number) phase)) (in_turn C b)
      p))

  -- the same headers end in the next octets by both answers
  current_alike : (p octets : List ℕ) (current : Option CutMessage) → AreAlikeOver p →
      current_header_ends A p current octets ≡ current_header_ends B p current octets
  current_alike p octets None h = refl
  current_alike p octets (Some m) h =
      λ j. owner_header_ends (h.tracked_same j) (owner_of_next (before_same p h j) m) octets

  pub ends_at_alike : (p : List ℕ) (x : ℕ) → AreAlikeOver p →
      header_ends_at A p x ≡ header_ends_at B p x
  unfolding header_ends_at
  ends_at_alike p x h =
      ap (λ (es : List HeaderEnd). if is_none (cut p).stop && nat_lt (length p) limit then es
      else []) (current_alike p (x ∷ []) (cut p).current h)

  ends_from_alike : (q p : List ℕ) → AreAlikeOver p → Each (AnswersAlike a b)
      (header_ends_from A p q) →
      header_ends_from A p q ≡ header_ends_from B p q
  unfolding header_ends_from
  ends_from_alike [] p h ends = refl
  ends_from_alike (x ∷ q) p h ends =
      let parts = each_parts (AnswersAlike a b) (header_ends_at A p x)
      (header_ends_from A (p ++ x ∷ []) q) ends in
      let one = ends_at_alike p x h in
      let more = ends_from_alike q (p ++ x ∷ []) (step p x h parts.0) parts.1 in
      λ j. one j ++ more j

  -- if the answers agree at the headers of a stream and of more octets after it, the same headers
  -- end in those octets
  pub ends_alike : (p q : List ℕ) → AgreeAtHeaders C most (p ++ q) a b →
      header_ends_from A p q ≡ header_ends_from B p q
  ends_alike p q h =
      let parts = each_parts (AnswersAlike a b) (header_ends_from A [] p) (header_ends_from A p q)
      (subst (Each (AnswersAlike a b)) (from_append A p [] q) h) in
      ends_from_alike q p (alike p parts.0) parts.1

  pub alike_front : (p q : List ℕ) → AgreeAtHeaders C most (p ++ q) a b →
      AgreeAtHeaders C most p a b
  alike_front p q h =
      (each_parts (AnswersAlike a b) (header_ends_from A [] p) (header_ends_from A p q)
      (subst (Each (AnswersAlike a b)) (from_append A p [] q) h)).0

  -- the same text is added by more octets
  pub added_alike : (p q : List ℕ) → AgreeAtHeaders C most (p ++ q) a b → added A p q ≡ added B p q
  unfolding added
  added_alike p q h = rw (text_alike p (alike_front p q h), text_alike (p ++ q) h) refl

  -- ---- a correspondent with which both answers agree

  module _ {St : Type 0} (answer : St → Answer) (notified : St → CallEvent → St) where
    both_answer : (es : List HeaderEnd) (st : St) → AgreesAtEnds answer notified C st a es →
        AgreesAtEnds answer notified C st b es → Each (AnswersAlike a b) es
    both_answer [] st f g = tt
    both_answer (Header_end number header n ∷ es) st f g = (
      f.0 ∙ sym g.0,
      both_answer es
          (after_event notified st (call_event C (Header_end number header n))) f.1 g.1,
    )
    both_answer (Exception_end number name ∷ es) st f g = (
      tt,
      both_answer es
          (after_event notified st (call_event C (Exception_end number name))) f.1 g.1,
    )

    leads : (q p : List ℕ) (st : St) → AreAlikeOver p →
        AgreesAtEnds answer notified C st a (header_ends_from A p q) →
        AgreesAtEnds answer notified C st b (header_ends_from B p q) →
        Each (AnswersAlike a b) (header_ends_from A p q)
    unfolding header_ends_from
    leads [] p st h f g = tt
    leads (x ∷ q) p st h f g =
        let p' = p ++ x ∷ [] in
        let es = header_ends_at A p x in
        let more = header_ends_from A p' q in
        let others = header_ends_from B p' q in
        let g' : AgreesAtEnds answer notified C st b (es ++ others) =
        subst (λ (z : List HeaderEnd). AgreesAtEnds answer notified C st b (z ++ others))
        (sym (ends_at_alike p x h)) g in
        let one = both_answer es st (answers_first answer notified C st a es more f)
        (answers_first answer notified C st b es others g') in
        each_append (AnswersAlike a b) es more one
        (leads q p' (after_ends notified C st es) (step p x h one)
        (answers_then answer notified C st a es more f)
        (answers_then answer notified C st b es others g'))

    pub leads_on : (p q : List ℕ) (st : St) → AgreeAtHeaders C most p a b →
        AgreesAtEnds answer notified C st a (header_ends_from A p q) →
        AgreesAtEnds answer notified C st b (header_ends_from B p q) →
        AgreeAtHeaders C most (p ++ q) a b
    leads_on p q st h f g =
        subst (Each (AnswersAlike a b)) (sym (from_append A p [] q))
        (each_append (AnswersAlike a b) (header_ends_from A [] p) (header_ends_from A p q) h
        (leads q p st (alike p h) f g))

pub held_alike : (e : EngineView) (a b : Answers) (p : List ℕ) →
    AgreeAtHeaders e.table e.most p a b → HoldsBy e a p → HoldsBy e b p
held_alike e a b p h k = record {
  sound = k.sound;
  octets = k.octets;
  shows = fields_alike e.table a b e.most p e.stream h k.shows;
}

-- ---- agreement of answers at headers is symmetric and transitive

pub back : (C : Table) (most : ℕ) (p : List ℕ) (a b : Answers) → AgreeAtHeaders C most p a b →
    AgreeAtHeaders C most p b a
back C most p a b h =
    go (header_ends_from (rules_by C b most) [] p)
    (subst (Each (AnswersAlike a b)) (ends_alike C a b most [] p h) h)
  where
    go : (es : List HeaderEnd) → Each (AnswersAlike a b) es → Each (AnswersAlike b a) es
    go [] k = tt
    go (Header_end number header n ∷ es) k = (sym k.0, go es k.1)
    go (Exception_end number name ∷ es) k = (tt, go es k.1)

pub both : (C : Table) (most : ℕ) (p : List ℕ) (a b c : Answers) → AgreeAtHeaders C most p a b →
    AgreeAtHeaders C most p b c → AgreeAtHeaders C most p a c
both C most p a b c h k =
    go (header_ends_from (rules_by C a most) [] p) h
    (subst (Each (AnswersAlike b c)) (sym (ends_alike C a b most [] p h)) k)
  where
    go : (es : List HeaderEnd) → Each (AnswersAlike a b) es → Each (AnswersAlike b c) es →
        Each (AnswersAlike a c) es
    go [] f g = tt
    go (Header_end number header n ∷ es) f g = (f.0 ∙ g.0, go es f.1 g.1)
    go (Exception_end number name ∷ es) f g = (tt, go es f.1 g.1)

pub itself : (C : Table) (most : ℕ) (p : List ℕ) (a : Answers) → AgreeAtHeaders C most p a a
itself C most p a = all_by (AnswersAlike a a) one (header_ends_from (rules_by C a most) [] p)
  where
    one : (e : HeaderEnd) → AnswersAlike a a e
    one (Header_end number header n) = refl
    one (Exception_end number name) = tt
