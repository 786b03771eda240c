-- The first messages (all except Fragments) that are not over are the open ones and the current
-- one, as far as these are not over.
use Rattle.std.proofs.Common.{inl, inr, ◌⊎◌, ◌≡◌, ℕ, suc, ◌<◌, ◌≤◌, Bool, true, false, cond, not, List, [], ◌∷◌, ◌++◌, length, map, refl, sym, subst, ◌∙◌, Option, Some, None, arith}
use Rattle.std.specs.Prelude.{if◌then◌else◌, ◌||◌, IfSome}
use Rattle.std.specs.List.{filter, list_any, AllByRecursion as Each}
use Rattle.std.proofs.lemmas.Bool.{or_left, ltb-false}
use Rattle.std.proofs.lemmas.List.{append-nil, map-append, length_push}
use Rattle.std.proofs.lemmas.List.Elements.{filter-append}
use Rattle.giop_message.specs.Headers.{size}
use Rattle.giop_stream.specs.Kinds.{has_fragments, is_any_fragment, lookup_offset}
use Rattle.giop_stream.specs.Rules.{Rules}
use Rattle.giop_stream.specs.Framing.{CutMessage, with_payload, Cut, cut, messages}
use Rattle.giop_message.specs.MessageReader.{KeepsEarlierLines, ClosesWithLastLine, IsStreamable}
use Rattle.giop_stream.specs.Events.{EventKind, Event, Open, place, events_of_octet, open_after_events, before_by, events, open_after}
use Rattle.giop_stream.specs.Lines.{is_last_line_of, lines_of_messages}
use Rattle.giop_stream.specs.Stream.{is_over, first_messages}
use Rattle.giop_stream.specs.Effects.{with_octet}
use Rattle.giop_stream.specs.Octet.{OctetKind, AfterStop, Ends, Held, Of}
use Rattle.giop_stream.specs.OpenSlots.{known_of}
use Rattle.giop_stream.proofs.StreamLines.EventsTogether.{sorted_lines}
use Rattle.giop_stream.proofs.Lists.{by_growth, each_weaker, all_by}
use Rattle.giop_stream.proofs.Cuts.Cutting.{cut_stopped_at, cut_of_parts, settled_messages}
use Rattle.giop_stream.proofs.Cuts.CutFrom.{cut_with_last_message}
use Rattle.giop_stream.proofs.Events.EventsOfOctet.{events_of_octet_each}
use Rattle.giop_stream.proofs.Events.EventsKeep.{NumbersAreBelow}
use Rattle.giop_stream.proofs.Events.AfterMoreEvents.{message_lines_grow, message_lines_same, open_grows, open_idle}
use Rattle.giop_stream.proofs.Events.Soundness.{settled_if, IsSound}
use Rattle.giop_stream.proofs.Events.StepCases.{if_some}
use Rattle.giop_stream.proofs.Cuts.Start.{cut_nothing, open_nothing}
use Rattle.giop_stream.proofs.CodeSteps.OneOctet.{IsStateThen, then_is}
use Rattle.giop_stream.proofs.CodeSteps.EngineAlive.{sound}
use Rattle.giop_stream.proofs.StreamLines.LastLines.{is_over_grows, IsOverIfFinal, dead}
use Rattle.giop_stream.proofs.StreamLines.FirstMessages.{numbers_of, current_if_unopened, open_and_current, without_over, dead_tail}
use Rattle.giop_stream.proofs.Events.UnfinishedKept.{KeepsUnfinished, not_open, stays_events, IsOpenOrOver, opener_known, done_known}

-- What is left at the finish.
unfoldable pub tail_now : (still_open : List Open) (current : Option CutMessage) → List ℕ
tail_now still_open None = []
tail_now still_open (Some m) = current_if_unopened still_open m

pub record IsComplete (R : Rules) (stream : List ℕ) : Type 0 where
  pub kept : without_over (is_over R stream) (first_messages (messages (cut stream)))
      ≡ without_over (is_over R stream) (numbers_of (open_after R stream)
      ++ tail_now (open_after R stream) (cut stream).current)
  pub named : IfSome (cut stream).current (λ m. has_fragments m.header ≡ true →
      lookup_offset m.header ≤ length m.payload →
      IsOpenOrOver (is_over R stream) (open_after R stream) m)

over_same : (R : Rules) (p p' : List ℕ) → lines_of_messages R p' ≡ lines_of_messages R p →
    is_over R p' ≡ is_over R p
unfolding is_over
over_same R p p' sd = search (arith)

complete_quiet : (R : Rules) (p p' : List ℕ) → messages (cut p') ≡ messages (cut p) →
    (cut p').current ≡ (cut p).current
    → events R p' ≡ events R p → lines_of_messages R p' ≡ lines_of_messages R p →
    IsComplete R p → IsComplete R p'
complete_quiet R p p' ms cur ev sd complete = search (arith, open_idle, over_same)

less_by : (a b : Bool) (i : ℕ) (xs ys : List ℕ) (test : ℕ → Bool) → test i ≡ (not b) →
    xs ≡ filter test ys
    → cond (not (a || b)) (i ∷ xs) xs ≡ filter test (cond (not a) (i ∷ ys) ys)
less_by true b i xs ys test h k = k
less_by false true i xs ys test h k = rw h k
less_by false false i xs ys test h k = search (arith)

alive_less : (over more : ℕ → Bool) (xs : List ℕ) →
    without_over (λ i. over i || more i) xs ≡ filter (λ i. not (more i)) (without_over over xs)
unfolding without_over
alive_less over more [] = refl
alive_less over more (i ∷ xs) = search (arith, less_by, without_over, not, alive_less over more xs)

head_of : CutMessage → List ℕ
head_of m = if is_any_fragment m.header then [] else m.number ∷ []

heads_push : (ms : List CutMessage) (m : CutMessage) → first_messages (ms ++ m ∷ []) ≡
    first_messages ms
    ++ head_of m
unfolding first_messages head_of
heads_push ms m = search (arith, filter-append, not, map-append, cond, map)

known_tail : (over : ℕ → Bool) (still_open : List Open) (m : CutMessage) →
    (is_any_fragment m.header ≡ false → IsOpenOrOver over still_open m) →
    without_over over (current_if_unopened still_open m) ≡ []
unfolding current_if_unopened IsOpenOrOver without_over
known_tail over still_open m h = search (arith, without_over, current_if_unopened, dead_tail)

pub alive_append : (over : ℕ → Bool) (xs ys : List ℕ) → without_over over (xs ++ ys)
    ≡ without_over over xs
    ++ without_over over ys
unfolding without_over
alive_append over xs ys = search (arith, filter-append, not)

pub alive_none : (over : ℕ → Bool) → without_over over [] ≡ []
unfolding without_over
alive_none over = refl

alive_same : (over over' more : ℕ → Bool) (xs ys : List ℕ) →
    ((i : ℕ) → over' i ≡ (over i || more i))
    → without_over over xs ≡ without_over over ys → without_over over' xs ≡ without_over over' ys
alive_same over over' more xs ys h k =
    let mix : over' ≡ (λ i. over i || more i) = λ j i. h i j in
    rw (mix, alive_less over more xs, alive_less over more ys, k) refl

settled_kept : (over : ℕ → Bool) (whole : List CutMessage) (m : CutMessage) (still_open : List Open)
    → (size m.header ≤ length m.payload → is_any_fragment m.header ≡ false →
    IsOpenOrOver over still_open m)
    → without_over over (open_and_current still_open m) ≡ without_over over
    (numbers_of still_open ++ tail_now still_open (cut_with_last_message whole m).current)
unfolding cut_with_last_message open_and_current tail_now
settled_kept over whole m still_open h = search (
  arith,
  without_over,
  numbers_of,
  current_if_unopened,
  known_tail,
  ltb-false,
  alive_append,
  alive_none,
)

known_later : (over over' more : ℕ → Bool) (still_open : List Open) (m : CutMessage) →
    ((i : ℕ) → over' i ≡ (over i || more i)) → IsOpenOrOver over still_open m →
    IsOpenOrOver over' still_open m
unfolding IsOpenOrOver
known_later over over' more still_open m h (inl o) = inl o
known_later over over' more still_open m h (inr d) = search (arith, or_left)

stays_is : (over : ℕ → Bool) (m : CutMessage) (still_open : List Open) (es : List Event) →
    KeepsUnfinished over m still_open es
    → without_over over (open_and_current (open_after_events still_open es) m) ≡ without_over over
    (open_and_current still_open m)
unfolding KeepsUnfinished
stays_is over m still_open es h = h

complete_deal : (R : Rules) → KeepsEarlierLines R.reading → IsStreamable R.reading →
    ClosesWithLastLine R.reading →
    (p p' : List ℕ) (whole : List CutMessage) (m : CutMessage)
    → length p' ≡ suc (length p) → cut p' ≡ cut_with_last_message whole m → events R p' ≡ events R p
    ++ events_of_octet R.most (before_by R (events R p)) m
    → Each (λ e. e.place ≤ length p) (events R p) → place m ≡ suc (length p)
    → length m.payload ≤ size m.header → (length m.payload ≡ lookup_offset m.header →
    NumbersAreBelow m.number (open_after R p))
    → without_over (is_over R p) (first_messages whole ++ head_of m)
    ≡ without_over (is_over R p) (open_and_current (open_after R p) m)
    → (has_fragments m.header ≡ true → lookup_offset m.header < length m.payload →
    IsOpenOrOver (is_over R p) (open_after R p) m)
    → IsComplete R p'
unfolding before_by open_after
complete_deal R causal laws ending p p' whole m len ec ev old pl fits low start known =
    let b = before_by R (events R p) in
    let still_open = open_after_events [] (events R p) in
    let es = events_of_octet R.most b m in
    let ls = sorted_lines R.reading (known_of R p) es in
    let here : Each (λ e. e.place ≡ suc (length p)) es =
    events_of_octet_each R.most (λ e. e.place ≡ suc (length p)) b m (λ what. pl)
    (all_by (λ (o : Open). (what : EventKind) → place m ≡ suc (length p)) (λ o what. pl) still_open)
    in
    let sd = message_lines_grow R causal laws.phased p p' es len ev old here in
    let over = is_over R p' in
    let d : Each (IsOverIfFinal over) es = dead R ending p p' es sd in
    let mix : (i : ℕ) → over i ≡ (is_over R p i || list_any (is_last_line_of i) ls) =
    λ i. is_over_grows R p p' ls i sd in
    let after : has_fragments m.header ≡ true → lookup_offset m.header < length m.payload →
    IsOpenOrOver over still_open m =
    λ o long. known_later (is_over R p) over (λ i. list_any (is_last_line_of i) ls) still_open m mix
    (known o long) in
    let ms : first_messages (messages (cut p')) ≡ first_messages whole ++ head_of m =
    rw (ec, settled_messages whole m) (heads_push whole m) in
    let one : without_over over (first_messages whole ++ head_of m) ≡ without_over over
    (open_and_current still_open m) =
    alive_same (is_over R p) over (λ i. list_any (is_last_line_of i) ls)
    (first_messages whole ++ head_of m) (open_and_current still_open m) mix start in
    let two = stays_events R.most over m b still_open low d in
    let three = settled_kept over whole m (open_after_events still_open es)
    (λ full f. done_known R.most over m b still_open f (omega arith) after d) in
    let named' : IfSome (cut_with_last_message whole m).current
    (λ m. has_fragments m.header ≡ true → lookup_offset m.header ≤ length m.payload →
    IsOpenOrOver over (open_after_events still_open es) m) =
    settled_if whole m (λ m. has_fragments m.header ≡ true →
    lookup_offset m.header ≤ length m.payload →
    IsOpenOrOver over (open_after_events still_open es) m)
    (λ o long. opener_known R.most over m b still_open o long fits (after o) d) in
    record {
      kept = rw (ms, ec, open_grows R p p' es ev)
          (one ∙ (sym (stays_is over m still_open es two) ∙ three));
      named = rw (ec, open_grows R p p' es ev) named';
    }

known_same : (over : ℕ → Bool) (still_open : List Open) (m : CutMessage) (xs : List ℕ) →
    IsOpenOrOver over still_open m → IsOpenOrOver over still_open (with_payload m xs)
unfolding IsOpenOrOver
known_same over still_open m xs h = h

first_base : (over : ℕ → Bool) (still_open : List Open) (hs : List ℕ) (m : CutMessage) →
    NumbersAreBelow m.number still_open
    → without_over over hs ≡ without_over over (numbers_of still_open) →
    without_over over (hs ++ head_of m) ≡ without_over over (open_and_current still_open m)
unfolding open_and_current current_if_unopened head_of
first_base over still_open hs m low h = search (
  arith,
  not_open,
  without_over,
  numbers_of,
  alive_append,
)

-- what must hold of the message m to which the octet belongs
record Ready (R : Rules) (stream : List ℕ) (message : CutMessage) : Type 0 where
  start : without_over (is_over R stream) (first_messages (cut stream).whole ++ head_of message)
      ≡ without_over (is_over R stream) (open_and_current (open_after R stream) message)
  low : length message.payload ≡ lookup_offset message.header → NumbersAreBelow message.number
      (open_after R stream)
  known : has_fragments message.header ≡ true →
      lookup_offset message.header < length message.payload →
      IsOpenOrOver (is_over R stream) (open_after R stream) message

module _ (R : Rules) (causal : KeepsEarlierLines R.reading) (laws : IsStreamable R.reading)
    (ending : ClosesWithLastLine R.reading) (p : List ℕ) (x : ℕ) (sound : IsSound R p)
    (complete : IsComplete R p) where
  ready_first : (m : CutMessage) → (cut p).current ≡ None → m.payload ≡ [] →
      m.number ≡ suc (length (cut p).whole) → Ready R p m
  unfolding messages tail_now
  ready_first m cur none number = search (
    arith,
    append-nil,
    each_weaker,
    sound,
    without_over,
    numbers_of,
    first_base,
  )

  ready_next : (was : CutMessage) → (cut p).stop ≡ None → (cut p).current ≡ Some was →
      Ready R p (with_octet was x)
  unfolding messages head_of open_and_current current_if_unopened tail_now
  ready_next was st cur = search (
    arith,
    without_over,
    numbers_of,
    current_if_unopened,
    if_some,
    sound,
    length_push,
    heads_push,
    known_same,
  )

  ready : (m : CutMessage) → (cut p).stop ≡ None → m.number ≡ suc (length (cut p).whole)
      → (((cut p).current ≡ None) × (m.payload ≡ []))
      ⊎ ((was : CutMessage) × ((cut p).current ≡ Some was) × (m
      ≡ with_octet was x)) → Ready R p m
  ready m st number (inl (cur, none)) = ready_first m cur none number
  ready m st number (inr (was, cur, is)) = subst (Ready R p) (sym is) (ready_next was st cur)

  len : length (p ++ x ∷ []) ≡ suc (length p)
  len = search (arith, length_push)

  idle : (c : Cut) → cut (p ++ x ∷ []) ≡ c → messages c ≡ messages (cut p) →
      c.current ≡ (cut p).current → IsComplete R (p ++ x ∷ [])
  unfolding events
  idle c e ms cur = search (arith, complete_quiet, message_lines_same, len, sound)

  complete_then : (o : OctetKind) → IsStateThen R p x o → IsComplete R (p ++ x ∷ [])
  unfolding cut_of_parts cut_stopped_at messages
  complete_then AfterStop h = search (arith, idle)
  complete_then (Ends fault) h = idle _ h.1.cut_is refl refl
  complete_then (Held front) h = search (arith, idle)
  complete_then (Of now) h =
      let one = h.1 in
      let r = ready one.m h.0 one.number_is one.from in
      complete_deal R causal laws ending p (p ++ x ∷ []) (cut p).whole one.m len one.adds.cut_is
      one.grows sound.places one.place_is one.fits r.low r.start r.known

complete_start : (R : Rules) → IsComplete R []
unfolding cut_of_parts messages first_messages tail_now numbers_of
complete_start R = search (arith, cut_nothing, open_nothing)

pub complete : (R : Rules) → KeepsEarlierLines R.reading → IsStreamable R.reading →
    ClosesWithLastLine R.reading →
    (p : List ℕ) → IsComplete R p
complete R causal laws ending = by_growth (IsComplete R) (complete_start R)
    (λ p x h. let so = sound R causal laws p in
    complete_then R causal laws ending p x so h _ (then_is R causal laws p x so))
