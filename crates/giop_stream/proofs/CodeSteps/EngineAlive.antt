-- The invariants of every stream, by induction on its octets: those of `Soundness`; and a message
-- that begins with its request id is not over before the id is complete.
use Rattle.std.proofs.Common.{inl, inr, ◌⊎◌, ◌≡◌, ℕ, suc, ◌-◌, ◌<◌, ◌≤◌, true, List, [], ◌∷◌, ◌++◌, length, get_or, refl, sym, ap, ◌∙◌, Some, None, arith, append-nil}
use Rattle.std.proofs.lemmas.List.{length_push, get_or_push}
use Rattle.giop_message.specs.Headers.{size, begins_with_request_id}
use Rattle.giop_message.specs.MessageReader.{KeepsEarlierLines, IsStreamable}
use Rattle.giop_stream.specs.Rules.{Rules}
use Rattle.giop_stream.specs.Framing.{CutMessage, Cut, cut, messages}
use Rattle.giop_message.specs.Phases.{unbroken}
use Rattle.giop_stream.specs.Events.{Takes, Event, octets_of_event, message_key, place, events_of_octet, events, before_by}
use Rattle.giop_stream.specs.Lines.{Kept, nothing_kept}
use Rattle.giop_stream.specs.PayloadOwner.{own_kept}
use Rattle.giop_stream.specs.OpenSlots.{known_of, Tracked, tracked_after}
use Rattle.giop_stream.specs.Effects.{Effect, message_kept_after, effects, one_effect, start_line_of, with_octet}
use Rattle.giop_stream.specs.Octet.{OctetKind, AfterStop, Ends, Held, Of, octet_of}
use Rattle.giop_stream.proofs.Lists.{by_growth}
use Rattle.giop_stream.proofs.Cuts.Cutting.{cut_stopped_at, cut_of_parts}
use Rattle.giop_stream.proofs.Events.MessageKinds.{named_by_four}
use Rattle.giop_stream.proofs.Cuts.Start.{sound_start}
use Rattle.giop_stream.proofs.SlotSteps.OneSlotChanges.{own_then}
use Rattle.giop_stream.proofs.SlotSteps.Cases.{octet_own, header_begins}
use Rattle.giop_stream.proofs.StreamLines.Accepted.{named_accepted}
use Rattle.giop_stream.proofs.StreamLines.IdBeforeEnd.{KeepsCurrentOctets, alive_start, named_then, early_octet, first_octet, settled_is, not_past}
use Rattle.giop_stream.proofs.Events.Soundness.{IsSound}
use Rattle.giop_stream.proofs.CodeSteps.OneOctet.{IsStateThen, then_is}

-- these octets of a message in one piece
abbrev kept_at : (octets : List ℕ) → Kept
kept_at xs = record { octets = xs; phase = unbroken }

known_is : (R : Rules) (p : List ℕ) (i : ℕ) → (tracked_after R p).known i ≡ known_of R p i
unfolding tracked_after
known_is R p i = refl

module _ (R : Rules) (laws : IsStreamable R.reading) (p : List ℕ) (x : ℕ) (sound : IsSound R p)
    (alive : KeepsCurrentOctets R p) where
  -- what is kept of m after the octet
  kept_now : (m : CutMessage) → (cut p).stop ≡ None → length m.payload ≤ size m.header →
      length m.payload < size m.header → m.number ≡ suc (length (cut p).whole) →
      begins_with_request_id m.header ≡ true → length m.payload < 4
      → (((cut p).current ≡ None) × (m.payload ≡ []))
      ⊎ ((was : CutMessage) × ((cut p).current ≡ Some was) × (m ≡ with_octet was x)) →
      (effects R.reading (tracked_after R p)
      (events_of_octet R.most (before_by R (events R p)) m)).tracked.known m.number ≡
      Some (own_kept m)
  unfolding messages octets_of_event
  kept_now m st fits lacks number name few (inl (cur, none)) =
      let free : length m.payload ≡ 0 = ap length none in
      let count : length (messages (cut p)) ≡ length (cut p).whole =
      rw cur (ap length (append-nil (cut p).whole)) in
      let known : known_of R p m.number ≡ Some nothing_kept =
      sound.unknown m.number (omega (arith, count, number)) in
      let some : 0 < size m.header = omega (arith, lacks, free) in
      let stepped : effects R.reading (tracked_after R p)
      (events_of_octet R.most (before_by R (events R p)) m) ≡
      record { tracked = tracked_after R p; lines = start_line_of m ∷ [] } =
      rw (first_octet R.most (before_by R (events R p)) m free
      (omega (arith, named_by_four m.header name)) some)
      (header_begins R.reading (tracked_after R p) m nothing_kept (known_is R p m.number ∙ known)
      (named_accepted m.header name)) in
      ap (λ (q : Effect). q.tracked.known m.number) stepped
      ∙ (known_is R p m.number ∙ (known
      ∙ ap (λ (xs : List ℕ). Some (kept_at xs)) (sym none)))
  kept_now m st fits lacks number name few (inr (was, cur, is)) =
      rw is (next was cur (rw is at name) (rw is at few) (rw is at lacks))
    where
      next : (was : CutMessage) → (cut p).current ≡ Some was →
          begins_with_request_id was.header ≡ true →
          length (was.payload ++ x ∷ []) < 4 → length (was.payload ++ x ∷ []) < size was.header →
          (effects R.reading (tracked_after R p)
          (events_of_octet R.most (before_by R (events R p)) (with_octet was x))).tracked.known
          was.number ≡ Some (own_kept (with_octet was x))
      next was cur name few lacks =
          let m = with_octet was x in
          let long = length_push was.payload x in
          let four = named_by_four was.header name in
          let known : known_of R p was.number ≡ Some (own_kept was) =
          alive st was cur name (omega (arith, few, long)) in
          let last : get_or m.payload (length m.payload - 1) 0 ≡ x =
          get_or_push was.payload x 0 (length m.payload - 1) (omega (arith, long)) in
          let e : Event = record { place = place m; subject = message_key was; what = Takes x } in
          let stepped : effects R.reading (tracked_after R p)
          (events_of_octet R.most (before_by R (events R p)) m)
          ≡ one_effect R.reading (tracked_after R p) (place m) (message_key was) (Takes x) =
          rw (
            early_octet R.most (before_by R (events R p)) m (omega (arith, long)) (omega (
              arith,
              few,
              four,
            ))
                lacks,
            octet_own R.reading (tracked_after R p) (before_by R (events R p)) m
                (not_past m (omega (arith, few, four))),
            last,
          ) refl in
          ap (λ (q : Effect). q.tracked.known was.number) stepped
          ∙ (own_then R.reading (tracked_after R p) e
          ∙ (ap (message_kept_after R.reading e) (known_is R p was.number ∙ known)
          ∙ named_then R.reading laws (place m) (message_key was) (own_kept was) x name
          (omega (arith, few, long)) refl))

  pub alive_then : (o : OctetKind) → IsStateThen R p x o → KeepsCurrentOctets R (p ++ x ∷ [])
  unfolding cut_stopped_at cut_of_parts
  alive_then AfterStop h st m cur name few = search (arith)
  alive_then (Ends fault) h st m cur name few = search (arith)
  alive_then (Held front) h st m cur name few = search (arith)
  alive_then (Of now) h st m cur name few =
      let one = h.1 in
      let adds = one.adds in
      let s = settled_is (cut p).whole one.m m (ap (λ (c : Cut). c.current) (sym adds.cut_is) ∙ cur)
      in
      let same = s.same in
      let name' : begins_with_request_id one.m.header ≡ true =
      ap (λ (n : CutMessage). begins_with_request_id n.header) (sym same) ∙ name in
      let few' : length one.m.payload < 4 =
      omega (arith, few, ap (λ (n : CutMessage). length n.payload) same) in
      sym (known_is R (p ++ x ∷ []) m.number)
      ∙ (ap (λ (c : Tracked). c.known m.number) adds.tracked_after
      ∙ (ap (λ (n : CutMessage). (effects R.reading (tracked_after R p)
      (events_of_octet R.most (before_by R (events R p)) one.m)).tracked.known n.number) same
      ∙ (kept_now one.m h.0 one.fits s.lacks one.number_is name' few' one.from
      ∙ ap (λ (n : CutMessage). Some (own_kept n)) (sym same))))

-- ---- The invariants, for every stream.

sound_by : (R : Rules) (p : List ℕ) (x : ℕ) (o : OctetKind) → IsStateThen R p x o →
    IsSound R (p ++ x ∷ [])
sound_by R p x (Ends fault) h = h.1.sound
sound_by R p x (Of now) h = h.1.adds.sound
sound_by R p x _ h = h.2.sound

record IsKept (R : Rules) (stream : List ℕ) : Type 0 where
  sound : IsSound R stream
  alive : KeepsCurrentOctets R stream

kept : (R : Rules) → KeepsEarlierLines R.reading → IsStreamable R.reading → (p : List ℕ) →
    IsKept R p
kept R causal laws = by_growth (IsKept R) (record { sound = sound_start R; alive = alive_start R })
    (λ p x h.
    let octet = then_is R causal laws p x h.sound in
    record {
      sound = sound_by R p x (octet_of (cut p) (length p) x) octet;
      alive =
          alive_then R laws p x h.sound h.alive (octet_of (cut p) (length p) x) octet;
    })

pub sound : (R : Rules) → KeepsEarlierLines R.reading → IsStreamable R.reading → (p : List ℕ) →
    IsSound R p
sound R causal laws p = (kept R causal laws p).sound

pub alive : (R : Rules) → KeepsEarlierLines R.reading → IsStreamable R.reading → (p : List ℕ) →
    KeepsCurrentOctets R p
alive R causal laws p = (kept R causal laws p).alive
