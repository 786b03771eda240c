-- The invariants of a stream, which each octet keeps: where its events are, how its messages are
-- numbered, which messages may be open, and how many octets of the current message have come.
use Rattle.std.proofs.Common.{inl, ◌≡◌, ℕ, suc, ◌+◌, ◌<◌, ◌≤◌, false, List, [], ◌∷◌, ◌++◌, length, refl, sym, ap, subst, ◌∙◌, append_assoc, Some, None, arith}
use Rattle.std.specs.Prelude.{IfSome}
use Rattle.std.specs.List.{list_any, AllByRecursion as Each}
use Rattle.std.proofs.lemmas.Bool.{ltb-true, ne_eqb}
use Rattle.giop_message.specs.Headers.{size}
use Rattle.giop_stream.specs.Kinds.{lookup_offset}
use Rattle.std.proofs.lemmas.List.{length_push}
use Rattle.giop_stream.specs.Rules.{Rules}
use Rattle.giop_stream.specs.Framing.{CutMessage, with_payload, Cut, cut, messages}
use Rattle.giop_message.specs.MessageReader.{MessageReader, KeepsEarlierLines, IsStreamable}
use Rattle.giop_stream.specs.Events.{EventKind, Event, Open, OpenState, place, events_of_octet, events_of, open_after_events, has_ended, before_by, events_from, events, open_after, joined_octets, NumbersRise}
use Rattle.giop_stream.specs.Lines.{StreamLine, nothing_kept, is_last_line_of, lines}
use Rattle.giop_stream.specs.Stream.{start_count, is_over}
use Rattle.giop_stream.specs.OpenSlots.{KeptByNumber, known_of}
use Rattle.giop_stream.specs.Effects.{kept_with, kept_unless_ended}
use Rattle.giop_stream.proofs.StreamLines.EventsTogether.{kept_through, sorted_lines}
use Rattle.giop_stream.proofs.Lists.{each_append, each_weaker, all_by}
use Rattle.giop_stream.proofs.Cuts.Cutting.{settle_stop, settled_messages}
use Rattle.giop_stream.proofs.Cuts.CutFrom.{cut_with_last_message}
use Rattle.giop_stream.proofs.Events.KeptEvents.{OfOthers}
use Rattle.giop_stream.proofs.StreamLines.Ended.{over_grows}
use Rattle.giop_stream.proofs.Events.EventsOfOctet.{opened_append, payload_run, events_from_push, events_of_push, events_of_none, events_of_octet_same, events_of_octet_each, opened_each, quiet_one}
use Rattle.giop_stream.proofs.Events.EventsKeep.{NumbersAreBelow, rising_events, IsWithinLimit, few_events, KeysDiffer, differ_events, AreOpeners, openers_events}
use Rattle.giop_stream.proofs.StreamLines.LinesOfOctet.{joined_append, written_each, none_last}
use Rattle.giop_stream.proofs.StreamLines.StartLines.{start_append}
use Rattle.giop_stream.proofs.Events.AfterMoreEvents.{message_lines_grow, known_grow, open_grows, lines_free}

-- ---- The invariants.
pub record CurrentFitsStream (n : ℕ) (cut_stream : Cut) (m : CutMessage) : Type 0 where
  pub place_is : place m ≡ n
  pub lacks : length m.payload < size m.header
  pub number_is : m.number ≡ suc (length cut_stream.whole)
  pub none_held : cut_stream.held ≡ []
  pub twelve : length m.header ≡ 12

pub record CutFitsStream (n : ℕ) (cut_stream : Cut) : Type 0 where
  pub current : IfSome cut_stream.current (CurrentFitsStream n cut_stream)
  pub held : length cut_stream.held ≤ n
  pub short : length cut_stream.held < 12

-- the open messages: there are at most `most`, no two have the same key, and each is one
-- that Fragments continue
pub record AreSound (most : ℕ) (still_open : List Open) : Type 0 where
  pub few : IsWithinLimit most still_open
  pub differ : KeysDiffer still_open
  pub openers : AreOpeners still_open

pub record IsSound (R : Rules) (p : List ℕ) : Type 0 where
  pub places : Each (λ e. e.place ≤ length p) (events R p)
  pub numbers : Each (λ o. o.opener.number ≤ length (messages (cut p))) (open_after R p)
  pub unknown : (i : ℕ) → length (messages (cut p)) < i → known_of R p i ≡ Some nothing_kept
  pub starts : start_count (lines R p) ≡ length (messages (cut p))
  pub fits : (cut p).stop ≡ None → CutFitsStream (length p) (cut p)
  pub rising : NumbersRise (open_after R p)
  pub early : (cut p).stop ≡ None → IfSome (cut p).current
      (λ m. length m.payload < lookup_offset m.header → NumbersAreBelow m.number (open_after R p))
  pub still_open : AreSound R.most (open_after R p)
  pub begun : (cut p).stop ≡ None → IfSome (cut p).current
      (λ m. length m.payload ≤ lookup_offset m.header →
      joined_octets m.number (events R p) ≡ m.payload)
  pub over : (i : ℕ) → is_over R p i ≡ has_ended R i [] (events R p)

pub settled_fits : (n : ℕ) (whole : List CutMessage) (m : CutMessage) → place m ≡ n →
    m.number ≡ suc (length whole) → length m.header ≡ 12 →
    CutFitsStream n (cut_with_last_message whole m)
unfolding cut_with_last_message
settled_fits n whole m h k t = search (arith, ltb-true)

pub settled_length : (whole : List CutMessage) (m : CutMessage) →
    length (messages (cut_with_last_message whole m)) ≡ suc (length whole)
settled_length whole m = search (arith, settled_messages, length_push)

pub settled_early : (most : ℕ) (whole : List CutMessage) (m : CutMessage) (b : OpenState) →
    (length m.payload ≤ lookup_offset m.header → NumbersAreBelow m.number b.still_open)
    → IfSome (cut_with_last_message whole m).current
    (λ m. length m.payload < lookup_offset m.header → NumbersAreBelow m.number
    (open_after_events b.still_open (events_of_octet most b m)))
unfolding cut_with_last_message
settled_early most whole m b h = search (arith, quiet_one, ltb-true)

pub settled_current : (whole : List CutMessage) (m : CutMessage) (P Q : CutMessage → Type 0) →
    (P m → Q m)
    → IfSome (cut_with_last_message whole m).current P →
    IfSome (cut_with_last_message whole m).current Q
unfolding cut_with_last_message
settled_current whole m P Q h = search (arith)

pub settled_if : (whole : List CutMessage) (m : CutMessage) (Q : CutMessage → Type 0) → Q m →
    IfSome (cut_with_last_message whole m).current Q
unfolding cut_with_last_message
settled_if whole m Q h = search (arith)

through_others : (known : KeptByNumber) (es : List Event) (i : ℕ) → OfOthers i es →
    kept_through known es i ≡ known i
unfolding kept_through kept_with
through_others known [] i h = refl
through_others known (e ∷ es) i h =
    through_others (kept_with known e) es i h.1 ∙ rw (ne_eqb e.subject.number i h.0) refl

still_unknown : (known : KeptByNumber) (es : List Event) (ls : List StreamLine) (i : ℕ) →
    known i ≡ Some nothing_kept → OfOthers i es
    → list_any (is_last_line_of i) ls ≡ false →
    kept_unless_ended (kept_through known es) ls i ≡ Some nothing_kept
unfolding kept_unless_ended
still_unknown known es ls i h k j = rw (through_others known es i k, h, j) refl

pub dealt_sound : (R : Rules) → KeepsEarlierLines R.reading → IsStreamable R.reading →
    (p p' : List ℕ) (whole : List CutMessage) (m : CutMessage)
    → length p' ≡ suc (length p) → cut p' ≡ cut_with_last_message whole m → events R p' ≡ events R p
    ++ events_of_octet R.most (before_by R (events R p)) m
    → place m ≡ suc (length p) → m.number ≡ suc (length whole) → length m.header ≡ 12 →
    (cut p).stop ≡ None
    → length (messages (cut p)) ≤ suc (length whole) →
    (length m.payload ≤ lookup_offset m.header → NumbersAreBelow m.number (open_after R p))
    → length (messages (cut p)) + start_count
    (sorted_lines R.reading (known_of R p) (events_of_octet R.most (before_by R (events R p)) m))
    ≡ suc (length whole)
    → (length m.payload ≤ lookup_offset m.header → joined_octets m.number (events R p)
    ++ joined_octets m.number (events_of_octet R.most (before_by R (events R p)) m) ≡ m.payload)
    → IsSound R p → IsSound R p'
unfolding before_by open_after
dealt_sound R causal laws p p' whole m len ec ev pl nm twelve st more low starts grows sound =
    let b = before_by R (events R p) in
    let still_open = open_after_events [] (events R p) in
    let K = known_of R p in
    let es = events_of_octet R.most b m in
    let ls = sorted_lines R.reading K es in
    let all = suc (length whole) in
    let count : length (messages (cut p')) ≡ all = rw ec (settled_length whole m) in
    let here : Each (λ e. e.place ≡ suc (length p)) es =
    events_of_octet_each R.most (λ e. e.place ≡ suc (length p)) b m (λ what. pl)
    (all_by (λ (o : Open). (what : EventKind) → place m ≡ suc (length p)) (λ o what. pl) still_open)
    in
    let old : Each (λ o. o.opener.number ≤ all) still_open =
    each_weaker (λ o. o.opener.number ≤ length (messages (cut p))) (λ o. o.opener.number ≤ all)
    (λ o h. omega arith) still_open sound.numbers in
    let mine : m.number ≤ all = omega arith in
    let owner_of_next : Each (λ e. e.subject.number ≤ all) es =
    events_of_octet_each R.most (λ e. e.subject.number ≤ all) b m (λ what. mine)
    (each_weaker (λ o. o.opener.number ≤ all) _ (λ o h what. h) still_open old) in
    let sd = message_lines_grow R causal laws.phased p p' es len ev sound.places here in
    let now_free : (cut p').stop ≡ None = rw ec (settle_stop whole m) in
    let ln : lines R p' ≡ lines R p ++ ls =
    lines_free R p' now_free ∙ (sd ∙ rw (lines_free R p st) refl) in
    let sc : start_count (lines R p') ≡ start_count (lines R p) + start_count ls =
    ap start_count ln ∙ start_append (lines R p) ls in
    let opens = open_grows R p p' es ev in
    record {
      places = rw (ev, len) (each_append (λ e. e.place ≤ suc (length p)) (events R p) es
          (each_weaker (λ e. e.place ≤ length p) (λ e. e.place ≤ suc (length p))
          (λ e h. omega arith) (events R p) sound.places)
          (each_weaker (λ e. e.place ≡ suc (length p)) (λ e. e.place ≤ suc (length p))
          (λ e h. omega arith) es here));
      numbers = rw (count, open_grows R p p' es ev)
          (opened_each (λ subject. subject.number ≤ all) still_open es old owner_of_next);
      unknown = λ i h.
          let below : Each (λ e. e.subject.number < i) es =
          each_weaker (λ e. e.subject.number ≤ all) (λ e. e.subject.number < i)
          (λ e k. omega arith) es owner_of_next in
          let others : OfOthers i es =
          each_weaker (λ e. e.subject.number < i) (λ e. e.subject.number ≡ i → ⊥)
          (λ e k same. omega (arith, k, same)) es below in
          known_grow R p p' es ls ev sd i
          ∙ still_unknown K es ls i (sound.unknown i (omega arith)) others
          (none_last i ls (now_each R.reading (λ k. k < i) K es below));
      starts = sc ∙ (rw (sound.starts) starts ∙ sym count);
      fits = λ st. rw (ec, len) (settled_fits (suc (length p)) whole m pl nm twelve);
      rising = rw (open_grows R p p' es ev)
          (rising_events R.most b m sound.rising (λ named. low (omega arith)));
      early = λ st.
          let grows = open_grows R p p' es ev in
          rw ec (settled_current whole m (λ m. length m.payload < lookup_offset m.header →
          NumbersAreBelow m.number (open_after_events still_open (events_of_octet R.most b m)))
          (λ m. length m.payload < lookup_offset m.header →
          NumbersAreBelow m.number (open_after R p'))
          (λ k short. subst (NumbersAreBelow m.number) (sym grows) (k short))
          (settled_early R.most whole m b low));
      still_open = rw opens (record {
        few = few_events R.most b m sound.still_open.few;
        differ = differ_events R.most b m sound.still_open.differ;
        openers = openers_events R.most b m sound.still_open.openers;
      });
      begun = λ st. rw (ec, ev) (settled_if whole m
          (λ m. length m.payload ≤ lookup_offset m.header →
          joined_octets m.number (events R p ++ es) ≡ m.payload)
          (λ short. joined_append m.number (events R p) es ∙ grows short));
      over = λ i. over_grows R laws p p' es i ev sd (sound.over i);
    }
  where
    now_each : (R : MessageReader) (P : ℕ → Type 0) (known : KeptByNumber) (es : List Event) →
        Each (λ e. P e.subject.number) es
        → Each (λ l. P l.number) (sorted_lines R known es)
    now_each R P known es h = unfold sorted_lines in written_each R P known es h

-- The events and the open messages after a message has one more octet.
pub events_on : (R : Rules) (whole : List CutMessage) (m : CutMessage) (x : ℕ) →
    length m.payload < size m.header →
    (length m.payload < lookup_offset m.header →
    NumbersAreBelow m.number (open_after_events [] (events_from R [] (whole ++ m ∷ []))))
    → (let es = events_from R [] (whole ++ m ∷ []) in let m' =
    with_payload m (m.payload ++ x ∷ []) in events_from R []
    (whole ++ m' ∷ []) ≡ es ++ events_of_octet R.most (before_by R es) m')
events_on R whole m x few low =
    let past = events_from R [] whole in
    let b = before_by R past in
    let one = events_of R.most b m in
    let next = with_payload m (m.payload ++ x ∷ []) in
    let so_far : events_from R [] (whole ++ m ∷ []) ≡ past ++ one =
    events_from_push R [] whole m in
    let first : length m.payload < lookup_offset m.header →
    NumbersAreBelow m.number (open_after_events [] past) =
    λ short. subst (NumbersAreBelow m.number) (opened_append [] past one
    ∙ payload_run R.most (open_after_events [] past) b m m.payload few (inl short))
    (rw so_far at (low short)) in
    events_from_push R [] whole next
    ∙ rw (
      so_far,
      events_of_push R.most b m m.payload x,
      events_of_octet_same R past m m.payload few x first,
    )
    (sym (append_assoc past one (events_of_octet R.most (before_by R (past ++ one)) next)))

pub events_begin : (R : Rules) (whole : List CutMessage) (m : CutMessage) → m.payload ≡ []
    → events_from R [] (whole ++ m ∷ []) ≡ events_from R [] whole
    ++ events_of_octet R.most (before_by R (events_from R [] whole)) m
events_begin R whole m h = search (arith, events_of_none, events_from_push)
