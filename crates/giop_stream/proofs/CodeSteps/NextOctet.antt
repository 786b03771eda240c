-- The state of a stream, part by part. It says what the next octet is, and which events that octet
-- has.
use Rattle.std.proofs.Common.{inl, inr, ◌⊎◌, ◌≡◌, ℕ, suc, ◌-◌, ◌<◌, ◌≤◌, true, List, [], ◌∷◌, ◌++◌, length, get_or, refl, sym, ap, ◌∙◌, Option, Some, None, arith}
use Rattle.std.specs.Prelude.{IfSome}
use Rattle.std.proofs.lemmas.Bool.{lt-ltb, ne_eqb, le-leb}
use Rattle.std.proofs.lemmas.List.{append-nil, length_push, get_or_push, take_all}
use Rattle.giop_message.specs.Headers.{size, begins_with_request_id}
use Rattle.giop_stream.specs.Kinds.{is_fragmented_1_1, is_any_fragment, lookup_offset}
use Rattle.giop_stream.specs.PayloadOwner.{acts_on_open, own_kept}
use Rattle.giop_checkpoint.specs.declared.fault.StreamFault.{StreamFault}
use Rattle.giop_stream.specs.declared.status.Totals.{Totals}
use Rattle.giop_stream.specs.Rules.{RequestIds, Rules}
use Rattle.giop_stream.specs.Framing.{CutMessage, Cut, cut, messages, octets_read, fault_of}
use Rattle.giop_stream.specs.Events.{id, key, opener_of, is_named_fragment, events, open_after, before_by, last_octet_of}
use Rattle.giop_stream.specs.Lines.{stop_line, lines}
use Rattle.giop_stream.specs.Stream.{start_count, fault_count, totals_so_far}
use Rattle.giop_stream.specs.OpenSlots.{known_of, Tracked, tracked_after, before_in}
use Rattle.giop_stream.specs.Effects.{with_octet}
use Rattle.giop_stream.specs.Octet.{octet_in, octet_of, header_of, payload_count_of}
use Rattle.giop_stream.specs.EngineState.{State, owner_of_next, owner_of_next_in, none_if_stopped, payload_octets_left, state_of}
use Rattle.giop_stream.specs.EngineStep.{Step, kind_of_octet, request_id_at, key_of, open_message_for, stream_fault_step, header_octet_step}
use Rattle.giop_stream.proofs.Cuts.Cutting.{cut_stopped_at, cut_of_parts}
use Rattle.giop_stream.proofs.StreamLines.StartLines.{start_append}
use Rattle.giop_stream.proofs.Events.AfterMoreEvents.{count_append}
use Rattle.giop_stream.proofs.Events.Soundness.{CurrentFitsStream, IsSound}
use Rattle.giop_stream.proofs.Events.StepCases.{stop_starts}
use Rattle.giop_stream.proofs.StreamLines.IdBeforeEnd.{KeepsCurrentOctets}
use Rattle.giop_stream.proofs.Events.EventsByEngine.{found_under_again}
use Rattle.giop_stream.proofs.Events.MessageKinds.{placed_named, named_four, later_new, none_old}
use Rattle.giop_stream.proofs.SlotSteps.Parts.{same_key}
use Rattle.giop_stream.proofs.CodeSteps.OneOctet.{AddsLinesAndState}
use Rattle.giop_stream.proofs.CodeSteps.WhatStands.{before_is}

-- ---- The state, from its parts.

unfoldable pub state_from_cut : RequestIds → Totals → Cut → Tracked → State
state_from_cut asks t c tracked = record {
  totals = t;
  stop = fault_of c.stop;
  held = none_if_stopped c.stop [] (header_of c.current c.held);
  left = none_if_stopped c.stop 0 (payload_octets_left c.current);
  tracked = tracked;
  owner = owner_of_next_in (before_in asks tracked) c.current;
}

pub state_is : (R : Rules) (p : List ℕ) → IsSound R p → (t : Totals) (c : Cut) (tracked : Tracked) →
    totals_so_far R p ≡ t → cut p ≡ c → tracked_after R p ≡ tracked →
    state_of R p ≡ state_from_cut R.asks t c tracked
unfolding state_of state_from_cut
state_is R p sound t c tracked et ec es =
    let stands : before_by R (events R p) ≡ before_in R.asks tracked =
    sym (before_is R p sound) ∙ ap (before_in R.asks) es in
    λ j. record {
      totals = et j;
      stop = fault_of (ec j).stop;
      held = none_if_stopped (ec j).stop [] (header_of (ec j).current (ec j).held);
      left = none_if_stopped (ec j).stop 0 (payload_octets_left (ec j).current);
      tracked = es j;
      owner = owner_of_next_in (stands j) (ec j).current;
    }

pub tally_by : (R : Rules) (p : List ℕ) (c : Cut) (a b n : ℕ) → cut p ≡ c →
    start_count (lines R p) ≡ a
    → fault_count (lines R p) ≡ b → octets_read p c.stop ≡ n →
    totals_so_far R p ≡ record { messages = a; faults = b; octets = n }
unfolding totals_so_far
tally_by R p c a b n ec e f o = search (arith)

pub read_all : (p : List ℕ) → (cut p).stop ≡ None → octets_read p (cut p).stop ≡ length p
unfolding octets_read
read_all p st = rw st refl

read_found : (p : List ℕ) (stop : Option (ℕ × StreamFault)) (found : ℕ × StreamFault) →
    stop ≡ Some found → octets_read p stop ≡ found.0
unfolding octets_read
read_found p stop found e = rw e refl

stop_faults : (found : ℕ × StreamFault) → fault_count (stop_line (Some found)) ≡ 1
unfolding fault_count stop_line
stop_faults found = refl

-- ---- What the next octet is, from the state.

octet_short : (held : List ℕ) (number read a b x : ℕ) → length held < 12 →
    octet_in None held number read a x ≡ octet_in None held number read b x
unfolding octet_in
octet_short held number read a b x short = search (arith, lt-ltb)

seen : (stop : Option (ℕ × StreamFault)) (current : Option CutMessage) (held : List ℕ)
    (number number' read n x : ℕ)
    → number ≡ number' → (stop ≡ None → read ≡ n) →
    (stop ≡ None → IfSome current (λ m. length m.payload < size m.header))
    → (stop ≡ None → length held < 12)
    → octet_in (fault_of stop) (none_if_stopped stop [] (header_of current held)) number read
    (size (none_if_stopped stop [] (header_of current held)) - none_if_stopped stop 0
    (payload_octets_left current)) x
    ≡ octet_in (fault_of stop)
    (header_of current held) number' n (payload_count_of current) x
unfolding octet_in
seen (Some found) current held number number' read n x e r lacks short = refl
seen None (Some m) held number number' read n x e r lacks short = search (arith)
seen None None held number number' read n x e r lacks short = search (arith, octet_short)

weaker : (P Q : CutMessage → Type 0) → ((m : CutMessage) → P m → Q m) → (o : Option CutMessage) →
    IfSome o P → IfSome o Q
weaker P Q h None k = tt
weaker P Q h (Some m) k = h m k

pub octet_is : (R : Rules) (p : List ℕ) (x : ℕ) → IsSound R p →
    kind_of_octet (state_of R p) x ≡ octet_of (cut p) (length p) x
unfolding kind_of_octet octet_of state_of totals_so_far
octet_is R p x sound =
    seen (cut p).stop (cut p).current (cut p).held (start_count (lines R p))
    (length (messages (cut p)))
    (octets_read p (cut p).stop) (length p) x sound.starts
    (λ free. unfold octets_read in rw free refl)
    (λ free. weaker (CurrentFitsStream (length p) (cut p)) (λ m. length m.payload < size m.header)
    (λ m k. k.lacks)
    (cut p).current (sound.fits free).current) (λ free. (sound.fits free).short)

-- ---- The steps outside of messages.

pub record IsStepOf (R : Rules) (stream next_stream : List ℕ) (one : Step) : Type 0 where
  pub state : state_of R next_stream ≡ one.state
  pub lines : lines R next_stream ≡ lines R stream ++ one.lines

module _ (R : Rules) (p : List ℕ) (x : ℕ) (sound : IsSound R p) where
  pub stopped_steps : (found : ℕ × StreamFault) → (cut p).stop ≡ Some found →
      AddsLinesAndState R p (p ++ x ∷ []) (cut p) [] (tracked_after R p)
      → IsStepOf R p (p ++ x ∷ []) (record { state = state_of R p; lines = [] })
  unfolding totals_so_far
  stopped_steps found st adds =
      let p' = p ++ x ∷ [] in
      let same : lines R p' ≡ lines R p = adds.lines ∙ append-nil (lines R p) in
      let counts : totals_so_far R p' ≡ totals_so_far R p =
      tally_by R p' (cut p) (start_count (lines R p)) (fault_count (lines R p))
      (octets_read p (cut p).stop) adds.cut_is (ap start_count same) (ap fault_count same)
      (read_found p' (cut p).stop found st ∙ sym (read_found p (cut p).stop found st)) in
      record {
        state = state_is R p' adds.sound (totals_so_far R p) (cut p)
            (tracked_after R p) counts adds.cut_is
            adds.tracked_after
            ∙ sym (state_is R p sound (totals_so_far R p) (cut p)
            (tracked_after R p) refl refl refl);
        lines = adds.lines;
      }

  pub ends_steps : (fault : StreamFault) → (cut p).stop ≡ None
      → AddsLinesAndState R p (p ++ x ∷ []) (cut_stopped_at (suc (length p)) fault (cut p))
      (stop_line (Some (suc (length p), fault)))
      (tracked_after R p) → IsStepOf R p (p ++ x ∷ []) (stream_fault_step (state_of R p) fault)
  unfolding stream_fault_step state_from_cut state_of cut_stopped_at tracked_after totals_so_far
  ends_steps fault st adds = search (
    arith,
    read_all,
    start_append,
    stop_starts,
    count_append,
    stop_faults,
    tally_by,
    cut_stopped_at,
    read_found,
    state_is,
  )

  pub held_steps : (front : List ℕ) → (cut p).stop ≡ None → (cut p).current ≡ None
      → AddsLinesAndState R p (p ++ x ∷ []) (cut_of_parts (cut p).whole None front None) []
      (tracked_after R p)
      → IsStepOf R p (p ++ x ∷ []) (header_octet_step (state_of R p) front)
  unfolding header_octet_step state_from_cut state_of cut_of_parts tracked_after totals_so_far
      octets_read
  held_steps front st cur adds = search (
    arith,
    append-nil,
    length_push,
    read_all,
    tally_by,
    cut_of_parts,
    state_is,
  )

-- ---- An octet of a message: its events, from the state.

-- what the state shows of the message m at its octet
pub record ShowsMessage (R : Rules) (stream : List ℕ) (message : CutMessage) : Type 0 where
  pub name_is : length message.payload ≡ lookup_offset message.header → acts_on_open message.header
      ≡ true →
      key_of (state_of R stream) (last_octet_of message) ≡ key message
  pub past_is : lookup_offset message.header < length message.payload →
      is_any_fragment message.header ≡ true →
      open_message_for R.asks (state_of R stream) (last_octet_of message) ≡ opener_of (before_by R
      (events R stream)) message

module _ (R : Rules) (p : List ℕ) (x : ℕ) (sound : IsSound R p)
    (alive : KeepsCurrentOctets R p) where
  -- a message of 1.1 has no key
  old_name : (m : CutMessage) → is_fragmented_1_1 m.header ≡ true →
      key_of (state_of R p) (last_octet_of m) ≡ key m
  unfolding key_of key
  old_name m old = rw old refl

  shows_first : (m : CutMessage) → m.payload ≡ [] → ShowsMessage R p m
  shows_first m none = record {
    name_is = λ named place. old_name m
        (none_old m.header (omega (arith, named, ap (λ (xs : List ℕ). length xs) none)));
    past_is = λ past f. absurd (omega (arith, past, ap (λ (xs : List ℕ). length xs) none));
  }

  id_held : (was : CutMessage) → (cut p).stop ≡ None → (cut p).current ≡ Some was →
      length (was.payload ++ x ∷ []) ≡ 4
      → begins_with_request_id was.header ≡ true → request_id_at (last_octet_of (with_octet was x))
      ((state_of R p).tracked.known was.number) ≡ id (with_octet was x)
  unfolding id state_of tracked_after
  id_held was st cur four name =
      let long = length_push was.payload x in
      let kept_is : known_of R p was.number ≡ Some (own_kept was) =
      alive st was cur name (omega (arith, long, four)) in
      let last : get_or (was.payload ++ x ∷ []) (length (was.payload ++ x ∷ []) - 1) 0 ≡ x =
      get_or_push was.payload x 0 _ (omega (arith, long)) in
      ap (request_id_at (last_octet_of (with_octet was x))) kept_is ∙ rw (
        last,
        take_all 4 (was.payload ++ x ∷ []) (omega (arith, four)),
      ) refl

  name_held : (was : CutMessage) → (cut p).stop ≡ None → (cut p).current ≡ Some was →
      length (was.payload ++ x ∷ []) ≡ lookup_offset was.header
      → acts_on_open was.header ≡ true → key_of (state_of R p) (last_octet_of (with_octet was x))
      ≡ key (with_octet was x)
  unfolding key_of key
  name_held was st cur named place =
      let new = later_new was.header (omega (arith, named, length_push was.payload x)) in
      let four : length (was.payload ++ x ∷ []) ≡ 4 =
      omega (arith, named, named_four was.header new) in
      rw new (ap Some (id_held was st cur four (placed_named was.header place new)))

  past_held : (was : CutMessage) → (cut p).current ≡ Some was →
      lookup_offset was.header < length (was.payload ++ x ∷ [])
      → is_any_fragment was.header ≡ true
      → open_message_for R.asks (state_of R p) (last_octet_of (with_octet was x))
      ≡ opener_of (before_by R (events R p)) (with_octet was x)
  unfolding open_message_for state_of tracked_after before_by open_after owner_of_next
      is_named_fragment opener_of
  past_held was cur long f =
      let more : lookup_offset was.header ≤ length was.payload =
      omega (arith, long, length_push was.payload x) in
      rw (
        ne_eqb (length (was.payload ++ x ∷ [])) (lookup_offset was.header) (λ e. omega (
          arith,
          long,
          e,
        )),
        cur,
        f,
        le-leb (lookup_offset was.header) (length was.payload) more,
        same_key was x more (is_fragmented_1_1 was.header) refl,
      )
      (found_under_again (before_by R (events R p)) (key was) sound.rising)

  shows_next : (was : CutMessage) → (cut p).stop ≡ None → (cut p).current ≡ Some was →
      ShowsMessage R p (with_octet was x)
  shows_next was st cur = search (arith, name_held, past_held)

  pub shows : (m : CutMessage) → (cut p).stop ≡ None → (((cut p).current ≡ None) × (m.payload ≡ []))
      ⊎ ((was : CutMessage) × ((cut p).current ≡ Some was) × (m ≡ with_octet was x)) →
      ShowsMessage R p m
  shows m st (inl (cur, none)) = shows_first m none
  shows m st (inr (was, cur, is)) = search (arith, shows_next)
