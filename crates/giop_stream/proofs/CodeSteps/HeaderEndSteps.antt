-- The headers that end in octets of a stream, and the state of a correspondent after them.
use Rattle.std.proofs.Common.{◌≡◌, ℕ, zero, suc, ◌+◌, ◌^◌, ◌<◌, ◌≤◌, Bool, true, false, List, [], ◌∷◌, ◌++◌, length, Option, Some, None, Result, Ok, Err, refl, sym, ap, subst, ◌∙◌, append_assoc, append-nil, arith}
use Rattle.std.specs.Prelude.{is_some, ◌==◌, nat_lt, slice_get, option_map, IfOk, if◌then◌else◌}
use Rattle.std.specs.List.{AllByRecursion as Each}
use Rattle.std.proofs.lemmas.Bool.{lt-ltb, ne_eqb, false≢true}
use Rattle.std.proofs.lemmas.List.{length_push}
use Rattle.giop_checkpoint.specs.declared.fault.StreamFault.{StreamFault}
use Rattle.giop_sig.specs.Table.{Table}
use Rattle.giop_sig.specs.RequestList.{kept_operation}
use Rattle.giop_message.specs.declared.message.Message.{Message as CodeMessage}
use Rattle.giop_message.specs.Signatures.{RequestTable, Answer, Answers, by_list, signatures_of}
use Rattle.giop_message.specs.Messages.{read_message, stage_of}
use Rattle.giop_message.specs.ReaderOfTable.{message_reader, is_over}
use Rattle.giop_message.specs.MessageState.{Follows}
use Rattle.giop_message.specs.HeaderEnds.{HeaderEnd, CallEvent, header_ends, after_ends, AgreesAtEnds, call_event, after_event}
use Rattle.giop_message.proofs.MessageLaws.{is_causal, header_ends_both, over_none, octet_over, told_both, answers_first, answers_then}
use Rattle.giop_stream.specs.declared.slots.Slot.{Slot as Contents}
use Rattle.giop_stream.specs.declared.slots.Slots.{Slots}
use Rattle.giop_stream.specs.HeaderOctets.{last_octet_fault}
use Rattle.giop_stream.specs.Rules.{Rules, rules_by}
use Rattle.giop_message.specs.Headers.{size}
use Rattle.giop_stream.specs.EngineView.{FramingView}
use Rattle.giop_stream.specs.Octet.{header_of}
use Rattle.giop_stream.specs.EngineState.{State, state_of, owner_of_next}
use Rattle.giop_stream.specs.ViewOfState.{IsReached, Shows}
use Rattle.giop_stream.specs.Framing.{CutMessage, Cut, limit, cut}
use Rattle.giop_stream.specs.Events.{MessageKey, Takes, OpenState, octets_of_event, events, before_by}
use Rattle.giop_stream.specs.Lines.{Kept}
use Rattle.giop_stream.specs.Effects.{kept_after_event, message_kept_after, with_octet, event, effect_to}
use Rattle.giop_stream.specs.OpenSlots.{Tracked, tracked_after}
use Rattle.giop_stream.specs.SlotsRepresent.{RepresentsMessage, SlotsRepresent, index_of}
use Rattle.giop_stream.specs.PayloadOwner.{before_with}
use Rattle.giop_stream.specs.HeaderEndsOfStream.{run_header_ends, owner_header_ends, current_header_ends, header_ends_at, header_ends_from}
use Rattle.giop_stream.proofs.Cuts.Cutting.{cut_of_parts, next_cut, parts_by, cut_grows, next_limit, next_front, next_stopped}
use Rattle.giop_stream.proofs.Cuts.CutFrom.{header_case}
use Rattle.giop_stream.proofs.SlotSteps.OneSlotChanges.{own_then}
use Rattle.giop_stream.proofs.SlotSteps.Parts.{in_turn}
use Rattle.giop_stream.proofs.CodeSteps.EngineAlive.{sound}
use Rattle.giop_stream.proofs.CodeSteps.WhatStands.{before_is}
use Rattle.giop_stream.proofs.SlotSteps.ReadingEffects.{is_faulted_by, over_then, then_by}
use Rattle.giop_stream.proofs.SlotSteps.EventsOnSlots.{IsCurrentMessage, no_key, own_has, slot_has, own_kept, slot_kept}
use Rattle.giop_stream.proofs.CodeSteps.Runs.{over_stays}
use Rattle.giop_stream.proofs.CodeSteps.PayloadRunSteps.{IsWithinPayload, within_on, octet_adds, octet_owner, before_of, begins, octets_are}
use Rattle.giop_stream.proofs.CodeSteps.MessageOctets.{runs_on, all_read, header_at, no_current, has_current}

-- ---- a result

pub if_ok_weaker : {A E : Type 0} {P Q : A → Type 0} (r : Result A E) → ((x : A) → P x → Q x) →
    IfOk r P → IfOk r Q
if_ok_weaker (Ok x) f h = f x h
if_ok_weaker (Err e) f h = h

pub if_ok_both : {A E : Type 0} (P Q : A → Type 0) (r : Result A E) → IfOk r P → IfOk r Q →
    IfOk r (λ x. P x × Q x)
if_ok_both P Q (Ok x) p q = (p, q)
if_ok_both P Q (Err e) p q = tt

pub positive : (n : ℕ) → (n ≡ 0 → ⊥) → 0 < n
positive zero f = absurd (f refl)
positive (suc n) f = omega arith

-- ---- header ends, if the correspondent is told nothing of them

abbrev pub AreWithoutEvents : (C : Table) (ends : List HeaderEnd) → Type 0
AreWithoutEvents C = Each (λ e. call_event C e ≡ None)

pub untold_front : (C : Table) (es fs : List HeaderEnd) → AreWithoutEvents C (es ++ fs) →
    AreWithoutEvents C es
untold_front C [] fs h = tt
untold_front C (e ∷ es) fs h = (h.0, untold_front C es fs h.1)

pub untold_ends : {St : Type 0} (notified : St → CallEvent → St) (C : Table) (st : St)
    (es : List HeaderEnd) → AreWithoutEvents C es → after_ends notified C st es ≡ st
untold_ends notified C st [] h = refl
untold_ends notified C st (e ∷ es) h =
    ap (λ o. after_ends notified C (after_event notified st o) es) h.0
    ∙ untold_ends notified C st es h.1

-- ---- one message

-- if a message is over, none of its headers ends; so what holds of no header ends holds of its
-- header ends
pub none_ends : (P : (List ℕ → List HeaderEnd) → Type 0) (C : Table) (a : Answers) (w : MessageKey)
    (o : Option Kept) → RepresentsMessage C a None w o → P (λ octets. []) →
    P (run_header_ends w o)
none_ends P C a w None k f = f
none_ends P C a w (Some kept) k f = absurd k

-- if a message follows octets, what holds of the header ends after those octets holds of its header
-- ends
pub given_ends : (P : (List ℕ → List HeaderEnd) → Type 0) (C : Table) (a : Answers)
    (m : CodeMessage) (w : MessageKey) (o : Option Kept) → RepresentsMessage C a (Some m) w o →
    ((kept : Kept) → o ≡ Some kept →
    Follows C a kept.phase w.number w.header m kept.octets →
    P (header_ends kept.phase w.number w.header kept.octets)) → P (run_header_ends w o)
given_ends P C a m w (Some kept) k f = f kept refl k
given_ends P C a m w None k f = absurd k

-- ---- the owner of the octets

-- what holds of the header ends of the owner of the octets holds of the octets' header ends
module _ (P : (List ℕ → List HeaderEnd) → Type 0) (C : Table) (a : Answers) (s : Slots)
    (c : Tracked) (who : Option MessageKey) (h : SlotsRepresent C a s c who) where
  pub own_ends : (m : Option CodeMessage) → IsCurrentMessage s.owner m →
      ((w : MessageKey) (o : Option Kept) → RepresentsMessage C a m w o →
      P (run_header_ends w o)) → P (owner_header_ends c who)
  own_ends m e f =
      own_has C a (λ v. P (owner_header_ends c v)) s c who m e h
      (λ none. f no_key None (rw none tt))
      (λ w k. f w (c.known w.number) (own_kept C a s c w m e k))

  pub slot_ends : (v : Contents) (k : ℕ) → index_of s.owner ≡ Some k →
      option_map (λ e. e.value) (slice_get s.slots.entries k) ≡ Some v →
      ((w : MessageKey) → RepresentsMessage C a v.message w (c.known w.number) →
      P (run_header_ends w (c.known w.number))) → P (owner_header_ends c who)
  slot_ends v k e get f =
      slot_has C a (λ v. P (owner_header_ends c v)) s c who k e h
      (λ w kept. f w (slot_kept C a s v c w k e get kept))

-- ---- one octet, and others after it

pub at_free : (R : Rules) (p : List ℕ) (x : ℕ) → (cut p).stop ≡ None → length p < limit
    → header_ends_at R p x ≡ current_header_ends R p (cut p).current (x ∷ [])
unfolding header_ends_at
at_free R p x free room = search (arith, lt-ltb)

module _ (C : Table) (a : Answers) where
  -- if an octet faults the message, the message is over
  faulted_over : (w : MessageKey) (kept : Kept) (x : ℕ) → is_faulted_by C a w kept x ≡ true
      → is_over (stage_of (read_message (signatures_of C (a w.number) kept.phase) w.header
      (kept.octets ++ x ∷ []))) ≡ true
  faulted_over w kept x e = search (arith, over_stays, octet_over)

  ends_on : (w : MessageKey) (kept : Kept) (x : ℕ) (q : List ℕ) (at : ℕ) →
      run_header_ends w (Some kept) (x ∷ q)
      ≡ run_header_ends w (Some kept) (x ∷ [])
      ++ run_header_ends w (message_kept_after (message_reader C a) (event at w (Takes x))
      (Some kept)) q
  unfolding octets_of_event
  ends_on w kept x q at =
      header_ends_both kept.phase w.number w.header kept.octets (x ∷ []) q
      ∙ ap (λ (z : List HeaderEnd). run_header_ends w (Some kept) (x ∷ []) ++ z)
      (go (is_faulted_by C a w kept x) refl)
    where
      go : (b : Bool) → is_faulted_by C a w kept x ≡ b →
          header_ends kept.phase w.number w.header (kept.octets ++ x ∷ []) q
          ≡ run_header_ends w (message_kept_after (message_reader C a) (event at w (Takes x))
          (Some kept)) q
      go true e =
          over_none C (a w.number) kept.phase w.number w.header (kept.octets ++ x ∷ []) q
          (faulted_over w kept x e)
          ∙ sym (ap (λ o. run_header_ends w o q)
          (then_by C a at w kept x
          ∙ ap (λ (b : Bool). if b then None else Some (kept_after_event (Takes x) kept)) e))
      go false e = search (arith, then_by)

  known_on : (w : MessageKey) (o : Option Kept) (x : ℕ) (q : List ℕ) (at : ℕ) →
      run_header_ends w o (x ∷ q)
      ≡ run_header_ends w o (x ∷ []) ++ run_header_ends w
      (message_kept_after (message_reader C a) (event at w (Takes x)) o) q
  known_on w None x q at = search (arith, over_then)
  known_on w (Some kept) x q at = ends_on w kept x q at

  owner_on : (c : Tracked) (who : Option MessageKey) (x : ℕ) (q : List ℕ) (at : ℕ) →
      owner_header_ends c who (x ∷ q)
      ≡ owner_header_ends c who (x ∷ []) ++ owner_header_ends
      (effect_to C a at c who (Takes x)).tracked who q
  owner_on c None x q at = refl
  owner_on c (Some w) x q at =
      known_on w (c.known w.number) x q at
      ∙ ap (λ (z : List HeaderEnd). run_header_ends w (c.known w.number) (x ∷ []) ++ z)
      (ap (λ o. run_header_ends w o q) (sym (own_then (message_reader C a) c
      (event at w (Takes x)))))

  -- which headers end in an octet of this message
  ends_here : (R : Rules) (p : List ℕ) (m : CutMessage) (x : ℕ) → (cut p).stop ≡ None →
      (cut p).current ≡ Some m → length p < limit
      → header_ends_at R p x ≡ owner_header_ends (tracked_after R p)
      (owner_of_next (before_by R (events R p)) m) (x ∷ [])
  ends_here R p m x free current room = search (arith, at_free)

  -- which headers end in octets that only add to contents, and in one more octet
  pub run_from : (most : ℕ) (q p : List ℕ) (m : CutMessage) (x : ℕ) →
      IsWithinPayload p m (length q) →
      length p + length q < limit
      → owner_header_ends (tracked_after (rules_by C a most) p)
      (owner_of_next (before_of C a most p) m) (q ++ x ∷ [])
      ≡ header_ends_from (rules_by C a most) p (q ++ x ∷ [])
  unfolding header_ends_from
  run_from most [] p m x h room =
      let R = rules_by C a most in
      sym (append-nil (header_ends_at R p x)
      ∙ ends_here R p m x h.free h.current (omega (arith, room)))
  run_from most (y ∷ q) p m x h room =
      let R = rules_by C a most in
      let W = owner_of_next (before_of C a most p) m in
      let p' = p ++ y ∷ [] in
      let one = octet_adds C a most p m y (length q) h in
      let who = octet_owner C a most p m y (length q) h in
      let here = ends_here R p m y h.free h.current (omega (arith, h.room)) in
      let more = run_from most q p' (with_octet m y) x (within_on p m y (length q) h)
      (omega (arith, room, length_push p y)) in
      let after = (effect_to C a (suc (length p)) (tracked_after R p) W (Takes y)).tracked in
      let rest : owner_header_ends after W (q ++ x ∷ []) ≡ header_ends_from R p' (q ++ x ∷ []) =
      (λ j. owner_header_ends (sym one.tracked_after j) (sym who j) (q ++ x ∷ [])) ∙ more in
      owner_on (tracked_after R p) W y (q ++ x ∷ []) (suc (length p))
      ∙ (ap (λ (z : List HeaderEnd). z ++ owner_header_ends after W (q ++ x ∷ [])) (sym here)
      ∙ ap (λ (z : List HeaderEnd). header_ends_at R p y ++ z) rest)

-- ---- any octets

pub at_none : (R : Rules) (p : List ℕ) (x : ℕ) → (cut p).current ≡ None → header_ends_at R p x ≡ []
unfolding header_ends_at
at_none R p x e = search (arith)

pub at_stop : (R : Rules) (p : List ℕ) (x : ℕ) (found : ℕ × StreamFault) →
    (cut p).stop ≡ Some found → header_ends_at R p x ≡ []
unfolding header_ends_at
at_stop R p x found e = rw e refl

pub at_limit : (R : Rules) (p : List ℕ) (x : ℕ) → limit ≤ length p → header_ends_at R p x ≡ []
unfolding header_ends_at
at_limit R p x full = search (arith)

pub from_append : (R : Rules) (xs p ys : List ℕ) →
    header_ends_from R p (xs ++ ys) ≡ header_ends_from R p xs ++ header_ends_from R (p ++ xs) ys
unfolding header_ends_from
from_append R [] p ys = search (arith, append-nil)
from_append R (x ∷ xs) p ys = search (arith, append_assoc, from_append R xs (p ++ x ∷ []) ys)

pub from_one : (R : Rules) (p : List ℕ) (x : ℕ) →
    header_ends_from R p (x ∷ []) ≡ header_ends_at R p x
unfolding header_ends_from
from_one R p x = search (arith, append-nil)

-- ---- octets of a header that they don't complete

pub record IsWithinHeader (stream : List ℕ) (n : ℕ) : Type 0 where
  pub no_current : (cut stream).current ≡ None
  pub few : length (cut stream).held + n < 12

abbrev Right : (k : ℕ) (cut_stream : Cut) → Type 0
Right k c = (c.current ≡ None) × (length c.held + k < 12)

head_case : (first n : ℕ) (whole : List CutMessage) (front : List ℕ) (o : Option StreamFault) (k :
    ℕ) →
    length front + k < 12
    → Right k (header_case first n whole front o (length front == 12))
unfolding header_case
head_case first n whole front (Some word) k h = (refl, omega (arith, h))
head_case first n whole front None k h = search (arith, ne_eqb)

pub heads_on : (p : List ℕ) (x k : ℕ) → IsWithinHeader p (suc k) → IsWithinHeader (p ++ x ∷ []) k
unfolding cut_of_parts
heads_on p x k h = let both = go (cut p).stop refl in record { no_current = both.0; few = both.1 }
  where
    grown : (o : Option (ℕ × StreamFault)) → (cut p).stop ≡ o
        → cut (p ++ x ∷ []) ≡ next_cut (length p) x (cut_of_parts (cut p).whole None (cut p).held o)
    grown o e = cut_grows p x ∙ ap (next_cut (length p) x) (parts_by (cut p) None o h.no_current e)

    room : (b : Bool) → nat_lt limit (suc (length p)) ≡ b →
        Right k (next_cut (length p) x (cut_of_parts (cut p).whole None (cut p).held None))
    room true e = search (arith, next_limit)
    room false e =
        subst (Right k) (sym (next_front (cut p).whole (cut p).held (length p) x e))
        (head_case 1 (suc (length p)) (cut p).whole ((cut p).held ++ x ∷ [])
        (last_octet_fault ((cut p).held ++ x ∷ [])) k
        (omega (arith, h.few, length_push (cut p).held x)))

    go : (o : Option (ℕ × StreamFault)) → (cut p).stop ≡ o → Right k (cut (p ++ x ∷ []))
    go (Some found) e =
        subst (Right k) (sym (grown (Some found) e
        ∙ next_stopped (cut p).whole None (cut p).held found (length p) x))
        (refl, omega (arith, h.few))
    go None e = subst (Right k) (sym (grown None e)) (room (nat_lt limit (suc (length p))) refl)

pub heads_none : (R : Rules) (xs p : List ℕ) → (cut p).current ≡ None →
    length (cut p).held + length xs < 12 → header_ends_from R p xs ≡ []
unfolding header_ends_from
heads_none R xs p none few = all xs p (record { no_current = none; few = few })
  where
    all : (ys q : List ℕ) → IsWithinHeader q (length ys) → header_ends_from R q ys ≡ []
    all [] q h = refl
    all (y ∷ ys) q h = rw (at_none R q y h.no_current)
        (all ys (q ++ y ∷ []) (heads_on q y (length ys) h))

-- ---- the events of one part, and of another part after it

module _ {St : Type 0} (answer : St → Answer) (notified : St → CallEvent → St) (C : Table)
    (a : Answers) (st : St) where
  pub agrees_front : (all es fs : List HeaderEnd) → all ≡ es ++ fs →
      AgreesAtEnds answer notified C st a all → AgreesAtEnds answer notified C st a es
  agrees_front all es fs e h = search (arith, answers_first)

  pub agrees_after : (now : St) (all es fs : List HeaderEnd) → all ≡ es ++ fs →
      now ≡ after_ends notified C st es
      → AgreesAtEnds answer notified C st a all → AgreesAtEnds answer notified C now a fs
  agrees_after now all es fs e told h = search (arith, answers_then)

  pub told_after : (now later : St) (es fs : List HeaderEnd) → now ≡ after_ends notified C st es →
      later ≡ after_ends notified C now fs
      → later ≡ after_ends notified C st (es ++ fs)
  told_after now later es fs told more = search (arith, told_both)

-- a request list gives the operations of each message, and no event changes it
pub list_answers : (C : Table) (l : RequestTable) (es : List HeaderEnd)
    → AgreesAtEnds (λ (k : RequestTable) id. kept_operation k id) (λ k t. k) C l (by_list l) es
list_answers C l [] = tt
list_answers C l (e ∷ es) = search (arith, list_answers C l es)

-- ---- from the fields

pub any_ok : {A E : Type 0} {P : A → Type 0} (r : Result A E) → ((x : A) → P x) → IfOk r P
any_ok (Ok x) f = f x
any_ok (Err e) f = tt

module _ {St : Type 0} (notified : St → CallEvent → St) (C : Table) (a : Answers) (most : ℕ)
    (s : State) (r : IsReached C a most s)
    (m : FramingView) (h : Shows C a m s) (st : St) (x : ℕ) where
  abbrev R : Rules
  R = rules_by C a most

  abbrev Same : Type 0
  Same = st ≡ after_ends notified C st (header_ends_at R r.stream x)

  same_by : header_ends_at R r.stream x ≡ [] → Same
  same_by e = search (arith)

  pub told_stopped : is_some m.stopped ≡ true → Same
  unfolding state_of
  told_stopped over = search (arith, same_by, at_stop, false≢true)

  module _ (free : m.stopped ≡ None) where
    pub told_limit : 2 ^ 48 ≤ m.totals.octets → Same
    unfolding limit
    told_limit full = same_by (at_limit R r.stream x
        (omega (arith, full, all_read C a most s r m h free)))

    -- an octet of an incomplete header: the correspondent's state stays
    pub told_heads : length m.header < 12 → Same
    told_heads few = search (arith, same_by, at_none, no_current)

    -- an octet of a payload: the headers that end in it are those of the current message's octet
    pub at_payload : m.totals.octets < 2 ^ 48 →
        header_ends_at R r.stream x ≡ current_header_ends R r.stream (cut r.stream).current (x ∷ [])
    unfolding limit
    at_payload room =
        at_free R r.stream x (runs_on C a most s r m h free)
        (omega (arith, room, all_read C a most s r m h free))

-- no header ends in octets of a header that they don't complete
pub told_ahead : (C : Table) (a : Answers) (most : ℕ) (s : State) (r : IsReached C a most s)
    (m : FramingView) (h : Shows C a m s) (xs : List ℕ)
    → m.stopped ≡ None → length m.header + length xs < 12 →
    header_ends_from (rules_by C a most) r.stream xs ≡ []
told_ahead C a most s r m h xs free few =
    let none = no_current C a most s r m h free (omega (arith, few)) in
    let held = header_at C a most s r m h free
    ∙ ap (λ (o : Option CutMessage). header_of o (cut r.stream).held) none in
    heads_none (rules_by C a most) xs r.stream none (omega (arith, few, ap length held))

-- the headers that end in octets of a payload are those of the current message's octets
pub told_run : (C : Table) (a : Answers) (most : ℕ) (s : State) (r : IsReached C a most s)
    (m : FramingView) (h : Shows C a m s)
    (free : m.stopped ≡ None) (full : length m.header ≡ 12) (octets : List ℕ)
    (some : 0 < length octets)
    (apart : m.payload_count < 4 → m.payload_count + length octets ≤ 4)
    (few : 1 < length octets → m.payload_count + length octets ≤ size m.header)
    (room : m.totals.octets + length octets ≤ 2 ^ 48)
    → current_header_ends (rules_by C a most) r.stream (cut r.stream).current octets
    ≡ header_ends_from (rules_by C a most) r.stream octets
unfolding limit
told_run C a most s r m h free full octets some apart few room =
    let here = has_current C a most s r m h free full in
    let (q, (x, e)) = octets_are octets some in
    let all = all_read C a most s r m h free in
    rw here.1 (subst (λ (z : List ℕ). owner_header_ends (tracked_after (rules_by C a most) r.stream)
    (owner_of_next (before_of C a most r.stream) here.0) z
    ≡ header_ends_from (rules_by C a most) r.stream z) (sym e)
    (run_from C a most q r.stream here.0 x
    (begins C a most s r m h free here.0 here.1 octets q x e apart few room)
    (omega (arith, room, all, ap length e, length_push q x))))

-- the headers that end in octets of a payload, by what is tracked
pub run_ends : (C : Table) (a : Answers) (most : ℕ) (s : State) (r : IsReached C a most s)
    (m : FramingView) (h : Shows C a m s)
    (free : m.stopped ≡ None) (c : CutMessage) → (cut r.stream).current ≡ Some c →
    (octets : List ℕ)
    → current_header_ends (rules_by C a most) r.stream (cut r.stream).current octets
    ≡ (let t = tracked_after (rules_by C a most) r.stream in
    owner_header_ends t (owner_of_next (before_with C a t) c) octets)
run_ends C a most s r m h free c current octets =
    let R = rules_by C a most in
    rw current (ap (λ (b : OpenState). owner_header_ends (tracked_after R r.stream)
    (owner_of_next b c) octets) (sym (before_is R r.stream
    (sound R (is_causal (λ phase number. signatures_of C (a number) phase)) (in_turn C a)
    r.stream))))

-- ---- octets after those that were taken

module _ {St : Type 0} (answer : St → Answer) (notified : St → CallEvent → St) (C : Table)
    (a : Answers) (st now : St)
    (R : Rules) (p past : List ℕ) (told : now
    ≡ after_ends notified C st (header_ends_from R p past)) where
  pub run_agrees : (rest piece q left : List ℕ) → piece ≡ past ++ rest → rest ≡ q ++ left
      → AgreesAtEnds answer notified C st a (header_ends_from R p piece) →
      AgreesAtEnds answer notified C now a (header_ends_from R (p ++ past) q)
  run_agrees rest piece q left split parts agrees =
      let all : header_ends_from R p piece ≡ header_ends_from R p past
      ++ header_ends_from R (p ++ past) rest =
      ap (header_ends_from R p) split ∙ from_append R past p rest in
      let agreed_after = agrees_after answer notified C a st now (header_ends_from R p piece)
      (header_ends_from R p past) (header_ends_from R (p ++ past) rest) all told agrees in
      agrees_front answer notified C a now (header_ends_from R (p ++ past) rest)
      (header_ends_from R (p ++ past) q) (header_ends_from R ((p ++ past) ++ q) left)
      (ap (header_ends_from R (p ++ past)) parts ∙ from_append R q (p ++ past) left) agreed_after

  pub told_on : (q : List ℕ) (later : St) →
      later ≡ after_ends notified C now (header_ends_from R (p ++ past) q)
      → later ≡ after_ends notified C st (header_ends_from R p (past ++ q))
  told_on q later more = search (arith, told_after, from_append)

pub list_notified : (C : Table) (k l : RequestTable) (es : List HeaderEnd) → k ≡ l
    → AgreesAtEnds (λ (k : RequestTable) id. kept_operation k id) (λ k t. k) C k (by_list l) es
list_notified C k l es same = search (arith, list_answers)
