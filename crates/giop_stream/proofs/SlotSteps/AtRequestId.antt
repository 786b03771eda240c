-- The octet with which a message has its place among the open ones, as the code does it, for the
-- slot that it finds.
use Rattle.std.proofs.Common.{Result, ◌≡◌, ℕ, Bool, true, false, List, [], length, refl, sym, ap, subst, ◌∙◌, Option, Some, None, inl, inr, arith}
use Rattle.std.specs.Prelude.{◌&&◌, ◌||◌, is_none, is_some, nat_le, slice_get, option_map, if◌then◌else◌}
use Rattle.std.specs.List.{find}
use Rattle.std.proofs.lemmas.Bool.{or_cases, or_right}
use Rattle.giop_sig.specs.Table.{Table}
use Rattle.giop_message.specs.Signatures.{Answers}
use Rattle.giop_message.specs.ReaderOfTable.{message_reader}
use Rattle.giop_message.specs.Headers.{is_fragment_1_2, is_opener_1_2, is_cancel_request, begins_with_request_id}
use Rattle.giop_stream.specs.declared.fault.FramingFault.{FramingFault}
use Rattle.giop_stream.specs.declared.fault.FramingFault.TheVariants.{OldFragment, NoOpen, TooManyOpen}
use Rattle.giop_stream.specs.declared.slots.Slots.{Slots}
use Rattle.giop_stream.specs.declared.current.Current.{Current}
use Rattle.giop_stream.specs.Rules.{rules_by, asks_by}
use Rattle.giop_stream.specs.Framing.{CutMessage}
use Rattle.giop_stream.specs.Events.{MessageKey, OpenState, Open, Opens, Faults, Cancelled, message_key, id, key, is_same_id, open_under, open_message_1_1, opener_of, no_open_fault, last_octet_of, already_open_fault, fault_if_full, opening_fault, open_to_cancel, cancel_event, is_opening_fault, ends_joining, events_at_name}
use Rattle.giop_stream.specs.OpenSlots.{Tracked, given_id, given_id_of_open, before_in}
use Rattle.giop_stream.specs.Effects.{Effect, effects, one_effect, no_effect, tracked_after_event, lines_of, lines_for, event, effect_to}
use Rattle.giop_print.specs.Output.{OutLog}
use Rattle.giop_stream.specs.DoesEffect.{DoesEffect}
use Rattle.giop_stream.specs.Lines.{lines_of_event, up_to_last_line}
use Rattle.giop_stream.specs.Kinds.{is_fragmented_1_1, is_opener_1_1, is_fragment_1_1, is_any_fragment, has_fragments, may_be_cancelled}
use Rattle.giop_stream.specs.declared.slots.Slot.{Slot as Contents}
use Rattle.giop_stream.specs.SlotsRepresent.{SlotsRepresent, index_under}
use Rattle.giop_stream.specs.PayloadOwner.{IsAtName, acts_on_open, before_with, owner_after_name}
use Rattle.giop_stream.specs.EngineState.{opener_key}
use Rattle.giop_stream.proofs.Events.MessageKinds.{any_is, first_is, first_no_fragment, old_opener_old, old_fragment_any, old_fragment_old}
use Rattle.giop_stream.proofs.SlotSteps.OneSlotChanges.{no_opener_mixes, calm_same}
use Rattle.giop_stream.proofs.SlotSteps.EventsOnSlots.{open_slot}
use Rattle.giop_stream.proofs.SlotSteps.SlotLists.{are_as_many, entry_there, slots_many}
use Rattle.giop_stream.proofs.SlotSteps.FindingOpen.{none_open, one_open}
use Rattle.giop_stream.proofs.SlotSteps.Alike.{fragment_no_opener, new_no_opener}
use Rattle.giop_stream.proofs.SlotSteps.Cases.{effects_none, refusal_of, opener_refused, opener_opens, fragment_unknown, cancels_so, cancel_closes, other_id}

-- the open message under the key of a message, and its index
pub record IsFound (before : OpenState) (still_open : List Open) (message : CutMessage)
    (k : ℕ) : Type 0 where
  pub o : Open
  pub here : slice_get still_open k ≡ Some o
  pub is : opener_of before message ≡ Some o

-- ---- The kinds of headers.

pub fragment_named : (header : List ℕ) → is_fragment_1_2 header ≡ true →
    begins_with_request_id header ≡ true
fragment_named header f = search (arith)

pub opener_named : (header : List ℕ) → is_opener_1_2 header ≡ true →
    begins_with_request_id header ≡ true
opener_named header f = rw f refl

pub cancel_named : (header : List ℕ) → is_cancel_request header ≡ true →
    begins_with_request_id header ≡ true
cancel_named header f = search (arith)

named_placed : (header : List ℕ) → begins_with_request_id header ≡ true → acts_on_open header ≡ true
named_placed header name = rw name refl

old_placed : (header : List ℕ) → is_fragmented_1_1 header ≡ true → acts_on_open header ≡ true
old_placed header old = or_right (begins_with_request_id header) (is_fragmented_1_1 header) old

pub cancel_placed : (header : List ℕ) → is_cancel_request header ≡ true → acts_on_open header ≡ true
cancel_placed header c = named_placed header (cancel_named header c)

pub fragment_placed : (header : List ℕ) → is_any_fragment header ≡ true → acts_on_open header ≡ true
unfolding is_any_fragment
fragment_placed header f = elim (or_cases (is_fragment_1_2 header) (is_fragment_1_1 header) f) [
  | inl n ↦ named_placed header (fragment_named header n)
  | inr o ↦ old_placed header (old_fragment_old header o)
]

pub opener_placed : (header : List ℕ) → has_fragments header ≡ true → acts_on_open header ≡ true
unfolding has_fragments
opener_placed header g = elim (or_cases (is_opener_1_2 header) (is_opener_1_1 header) g) [
  | inl n ↦ named_placed header (opener_named header n)
  | inr o ↦ old_placed header (old_opener_old header o)
]

-- ---- A message that becomes open adds no line.

module _ (C : Table) (l : Answers) where
  pub opens_lines : (c : Tracked) (m : CutMessage) (at : ℕ) (i : Option ℕ) →
      (one_effect (message_reader C l) c at (message_key m) (Opens i)).lines ≡ []
  unfolding lines_of lines_for lines_of_event up_to_last_line
  opens_lines c m at i = search (arith)

-- ---- The owner of the octets after the place.

pub owner_fragment : (b : OpenState) (m : CutMessage) → is_any_fragment m.header ≡ true →
    owner_after_name b m ≡ opener_key (opener_of b m)
unfolding owner_after_name
owner_fragment b m f = rw f refl

pub owner_other : (b : OpenState) (m : CutMessage) → is_any_fragment m.header ≡ false →
    owner_after_name b m ≡ Some (message_key m)
unfolding owner_after_name
owner_other b m f = rw f refl

-- ---- The slot of an open message.

pub opener_slot : (C : Table) (l : Answers) (s : Slots) (c : Tracked) (owner : Option MessageKey) →
    SlotsRepresent C l s c owner
    → (k : ℕ) (o : Open) (v : Contents) → slice_get c.still_open k ≡ Some o
    → option_map (λ e. e.value) (slice_get s.slots.entries k) ≡ Some v
    → (v.number ≡ o.opener.number) × (v.header ≡ o.opener.header)
opener_slot C l s c owner keeps k o v here e =
    let there = entry_there s.slots.entries k v e in
    let is = open_slot C l s there.0 c owner k o keeps here there.1 in
    (rw there.2 at is.number, rw there.2 at is.header)

-- ---- A message of 1.1 that is refused.

old_opener_here : (header : List ℕ) → has_fragments header ≡ true →
    is_fragmented_1_1 header ≡ true →
    is_opener_1_1 header ≡ true
unfolding is_fragmented_1_1
old_opener_here header g old = elim (or_cases (is_opener_1_1 header) (is_fragment_1_1 header) old) [
  | inl o ↦ o
  | inr f ↦ absurd (let any = old_fragment_any header f in
      let none = first_no_fragment header g in cc)
]

full_mixes : (most : ℕ) (still_open : List Open) (fault : FramingFault) →
    Some fault ≡ fault_if_full most still_open → is_opening_fault (Faults fault) ≡ true
full_mixes most still_open fault e = go (nat_le most (length still_open)) e
  where
    go : (b : Bool) → Some fault ≡ (if b then Some TooManyOpen else None) →
        is_opening_fault (Faults fault) ≡ true
    go true e = let same : fault ≡ TooManyOpen = cc in rw same refl
    go false e = absurd cc

refuses_mixing : (most : ℕ) (b : OpenState) (r : Option Open) (fault : FramingFault) →
    Some fault ≡ opening_fault most b None r → is_opening_fault (Faults fault) ≡ true
refuses_mixing most b (Some o) fault e = let same : fault ≡ OldFragment = cc in rw same refl
refuses_mixing most b None fault e = go b.mixed e
  where
    go : (mixed : Bool) →
        Some fault ≡ (if mixed then Some OldFragment else fault_if_full most b.still_open) →
        is_opening_fault (Faults fault) ≡ true
    go true e = let same : fault ≡ OldFragment = cc in rw same refl
    go false e = full_mixes most b.still_open fault e

module _ (C : Table) (l : Answers) where
  or_true : (b : Bool) → true ≡ (b || true)
  or_true true = refl
  or_true false = refl

  -- the code notes first that Fragments of 1.1 aren't joined any more
  mixing_same : (c : Tracked) (at : ℕ) (w : MessageKey) (fault : FramingFault) →
      ends_joining (event at w (Faults fault)) ≡ true →
      effect_to C l at (record c { mixed = true }) (Some w) (Faults fault)
      ≡ effect_to C l at c (Some w) (Faults fault)
  unfolding tracked_after_event
  mixing_same c at w fault mixed =
      rw mixed (λ j. record {
        tracked = record {
          still_open = (tracked_after_event (message_reader C l) c (event at w
              (Faults fault))).still_open;
          mixed = or_true c.mixed j;
          known = (tracked_after_event (message_reader C l) c (event at w (Faults fault))).known;
        };
        lines = lines_of (message_reader C l) (event at w (Faults fault)) (c.known w.number);
      })

  pub mixing_does : {A E : Type 0} {n : A → ℕ} (r : Result A E) (before after : OutLog)
      (s' : Slots) (c : Tracked) (at : ℕ) (w : MessageKey) (fault : FramingFault)
      (who : Option MessageKey) → ends_joining (event at w (Faults fault)) ≡ true →
      DoesEffect C l n r before after s'
      (effect_to C l at (record c { mixed = true }) (Some w) (Faults fault)) who →
      DoesEffect C l n r before after s' (one_effect (message_reader C l) c at w (Faults fault)) who
  mixing_does {n} r before after s' c at w fault who mixed h =
      subst (λ (p : Effect). DoesEffect C l n r before after s' p who)
      (mixing_same c at w fault mixed) h

-- ---- What is known of the slots.

module _ (C : Table) (l : Answers) (s : Slots) (c : Tracked) (who : Option MessageKey)
    (h : SlotsRepresent C l s c who) where
  pub as_many : length s.slots.entries ≡ length c.still_open
  as_many = search (arith, are_as_many, slots_many)

  -- why no message can be opened under a key
  full_is : fault_if_full s.slots.most c.still_open
      ≡ (if nat_le s.slots.most (length s.slots.entries) then Some TooManyOpen else None)
  full_is = rw as_many refl

  refuses_open : (i : Option ℕ) (k : ℕ) → index_under s i ≡ Some k →
      Some (already_open_fault i) ≡ opening_fault s.slots.most (before_with C l c) i
      (open_under (before_with C l c) i)
  refuses_open i k e = rw (one_open C l s c who h i k e).is refl

  refuses_mixed : s.is_mixed ≡ true → Some OldFragment
      ≡ opening_fault s.slots.most (before_with C l c) None (open_under (before_with C l c) None)
  unfolding open_message_1_1 before_in
  refuses_mixed mixed = rw (sym h.mixed ∙ mixed) refl

  refuses_rest : (i : Option ℕ) → (is_none i && c.mixed) ≡ false →
      (if nat_le s.slots.most (length s.slots.entries) then Some TooManyOpen else None)
      ≡ opening_fault s.slots.most (before_with C l c) i None
  unfolding before_in
  refuses_rest i e = rw (e, full_is) refl

  refuses_full : (i : Option ℕ) → index_under s i ≡ None → (is_none i && s.is_mixed) ≡ false →
      (if nat_le s.slots.most (length s.slots.entries) then Some TooManyOpen else None)
      ≡ opening_fault s.slots.most (before_with C l c) i (open_under (before_with C l c) i)
  refuses_full i e calm =
      rw (none_open C l s c who h i e) (refuses_rest i (rw h.mixed at calm))

  pub refuses_taken : (i r : Option ℕ) → r ≡ index_under s i → is_some r ≡ true →
      Some (already_open_fault i) ≡ opening_fault s.slots.most (before_with C l c) i
      (open_under (before_with C l c) i)
  refuses_taken i None e n = absurd cc
  refuses_taken i (Some k) e n = refuses_open i k (sym e)

  pub refuses_doubtful : (i : Option ℕ) → (is_none i && s.is_mixed) ≡ true → Some OldFragment
      ≡ opening_fault s.slots.most (before_with C l c) i (open_under (before_with C l c) i)
  refuses_doubtful None mixed = refuses_mixed mixed
  refuses_doubtful (Some i) mixed = absurd cc

  pub full_if : (i r : Option ℕ) → r ≡ index_under s i → is_some r ≡ false →
      (is_none i && s.is_mixed) ≡ false → (fits : Bool) →
      fits ≡ nat_le s.slots.most (length s.slots.entries) →
      (if fits then Some TooManyOpen else None)
      ≡ opening_fault s.slots.most (before_with C l c) i (open_under (before_with C l c) i)
  full_if i (Some k) e n calm fits many = absurd cc
  full_if i None e n calm fits many = rw many (refuses_full i (sym e) calm)

  -- whether the message without a key has given a request id
  asked_is : (o : Open) → open_message_1_1 (before_with C l c) ≡ Some o → (before_with C l c).asked
      ≡ given_id (asks_by C l) o.opener (c.known o.opener.number)
  unfolding open_message_1_1 before_in
  asked_is o e = go c.mixed refl
    where
      go : (b : Bool) → c.mixed ≡ b → given_id_of_open (asks_by C l) c.known
          (find (λ o. is_none o.key) c.still_open)
          ≡ given_id (asks_by C l) o.opener (c.known o.opener.number)
      go true mixed = absurd (let none = rw mixed at e in cc)
      go false mixed = ap (given_id_of_open (asks_by C l) c.known) (rw mixed at e)

-- ---- A message as it has its place.

module _ (C : Table) (l : Answers) (s : Slots) (c : Tracked) (m : CutMessage) (now : Current)
    (i : Option ℕ) (h : IsAtName C l s c m now i) where
  abbrev b : OpenState
  b = before_with C l c

  -- ---- The search.

  opener_is : acts_on_open m.header ≡ true → opener_of b m ≡ open_under b i
  unfolding opener_of
  opener_is place = ap (open_under b) (h.key_is place)

  pub misses : acts_on_open m.header ≡ true → index_under s i ≡ None → opener_of b m ≡ None
  misses place e = opener_is place ∙ none_open C l s c (Some (message_key m)) h.keeps i e

  pub finds : acts_on_open m.header ≡ true → (k : ℕ) → index_under s i ≡ Some k →
      IsFound b c.still_open m k
  finds place k e =
      let f = one_open C l s c (Some (message_key m)) h.keeps i k e in
      record { o = f.o; here = f.here; is = opener_is place ∙ f.is }

  -- a message with a request id isn't one of 1.1 with a place
  new_by : acts_on_open m.header ≡ true → (id' : ℕ) → i ≡ Some id' →
      is_fragmented_1_1 m.header ≡ false
  unfolding key
  new_by place id' some = go (is_fragmented_1_1 m.header) refl
    where
      go : (old : Bool) → is_fragmented_1_1 m.header ≡ old → is_fragmented_1_1 m.header ≡ false
      go true old = absurd (let e = rw old at (h.key_is place ∙ some) in cc)
      go false new = new

  -- a fault of such a message makes no difference to Fragments of 1.1
  pub named_calm : acts_on_open m.header ≡ true → (id' : ℕ) → i ≡ Some id' →
      (fault : FramingFault) →
      (c.mixed || ends_joining (event now.place (message_key m) (Faults fault))) ≡ c.mixed
  named_calm place id' some fault = calm_same c (event now.place (message_key m) (Faults fault))
      (no_opener_mixes (event now.place (message_key m) (Faults fault))
      (new_no_opener m.header (new_by place id' some)))

  -- ---- A message that opens.

  refusal_is : has_fragments m.header ≡ true → (r : Option FramingFault) →
      r ≡ opening_fault s.slots.most b i (open_under b i) → refusal_of s.slots.most b m ≡ r
  refusal_is g r e =
      let place = opener_placed m.header g in
      (λ j. opening_fault s.slots.most b (h.key_is place j) (opener_is place j)) ∙ sym e

  pub refused_one : has_fragments m.header ≡ true → (fault : FramingFault) →
      Some fault ≡ opening_fault s.slots.most b i (open_under b i)
      → effects (message_reader C l) c (events_at_name s.slots.most b m)
      ≡ one_effect (message_reader C l) c now.place (message_key m) (Faults fault)
  refused_one g fault e =
      opener_refused (rules_by C l s.slots.most) c b m fault g (refusal_is g (Some fault) e)
      ∙ rw h.current.place refl

  pub opens_one : has_fragments m.header ≡ true →
      None ≡ opening_fault s.slots.most b i (open_under b i)
      → effects (message_reader C l) c (events_at_name s.slots.most b m)
      ≡ one_effect (message_reader C l) c now.place (message_key m) (Opens i)
  opens_one g e =
      opener_opens (rules_by C l s.slots.most) c b m g (refusal_is g None e)
      ∙ rw (h.current.place, h.key_is (opener_placed m.header g)) refl

  -- a message of 1.1 that is refused keeps Fragments from being joined from then on
  old_here : has_fragments m.header ≡ true → i ≡ None → is_fragmented_1_1 m.header ≡ true
  unfolding key
  old_here g none = go (is_fragmented_1_1 m.header) refl
    where
      go : (old : Bool) → is_fragmented_1_1 m.header ≡ old → is_fragmented_1_1 m.header ≡ true
      go true old = old
      go false new =
          absurd (let e = rw new at (h.key_is (opener_placed m.header g) ∙ none) in cc)

  pub refused_mixes : has_fragments m.header ≡ true → i ≡ None → (fault : FramingFault) →
      Some fault ≡ opening_fault s.slots.most b i (open_under b i) →
      ends_joining (event now.place (message_key m) (Faults fault)) ≡ true
  unfolding ends_joining
  refused_mixes g none fault e =
      rw (old_opener_here m.header g (old_here g none))
      (refuses_mixing s.slots.most b (open_under b None) fault (subst
      (λ (k : Option ℕ). Some fault ≡ opening_fault s.slots.most b k (open_under b k)) none e))

  -- ---- A Fragment.

  old_is : is_any_fragment m.header ≡ true → is_fragmented_1_1 m.header ≡ is_fragment_1_1 m.header
  unfolding is_fragmented_1_1
  old_is f = rw (fragment_no_opener m.header f) refl

  pub unopened_is : is_any_fragment m.header ≡ true → no_open_fault b (key m)
      ≡ (if is_fragment_1_1 now.header && s.is_mixed then OldFragment else NoOpen)
  unfolding key before_in
  unopened_is f = rw (← h.current.header, ← old_is f, h.keeps.mixed) (go
      (is_fragmented_1_1 m.header))
    where
      go : (old : Bool) →
          (if is_none (if old then None else Some (id m)) && c.mixed then OldFragment else NoOpen)
          ≡ (if old && c.mixed then OldFragment else NoOpen)
      go true = refl
      go false = refl

  pub unknown : is_any_fragment m.header ≡ true → opener_of b m ≡ None → (fault : FramingFault) →
      fault ≡ (if is_fragment_1_1 now.header && s.is_mixed then OldFragment else NoOpen)
      → effects (message_reader C l) c (events_at_name s.slots.most b m)
      ≡ one_effect (message_reader C l) c now.place (message_key m) (Faults fault)
  unknown f e fault is = fragment_unknown (rules_by C l s.slots.most) c b m f e
      ∙ rw (h.current.place, unopened_is f, is) refl

  pub unknown_calm : is_any_fragment m.header ≡ true → (fault : FramingFault) →
      (c.mixed || ends_joining (event now.place (message_key m) (Faults fault))) ≡ c.mixed
  unknown_calm f fault = calm_same c (event now.place (message_key m) (Faults fault))
      (no_opener_mixes (event now.place (message_key m) (Faults fault))
      (fragment_no_opener m.header f))

  -- ---- A CancelRequest.

  module _ (f : is_any_fragment m.header ≡ false) (g : has_fragments m.header ≡ false)
      (e : is_cancel_request m.header ≡ true) where
    -- the open message with the same request id
    pub cancels_open : (o : Open) → opener_of b m ≡ Some o →
        events_at_name s.slots.most b m ≡ cancel_event (last_octet_of m) (Some o)
    cancels_open o is = cancels_so s.slots.most b m f g e ∙ rw is refl

    pending_none : (asks : Bool) → open_message_1_1 b ≡ None →
        (if asks then open_message_1_1 b else None) ≡ None
    pending_none true p = p
    pending_none false p = refl

    pub cancels_none : opener_of b m ≡ None → index_under s None ≡ None →
        effects (message_reader C l) c (events_at_name s.slots.most b m) ≡ no_effect c
    cancels_none none missing =
        let p = none_open C l s c (Some (message_key m)) h.keeps None missing in
        rw (cancels_so s.slots.most b m f g e, none, pending_none (is_same_id (key m) b.asked) p)
        (effects_none (message_reader C l) c)

    -- the message without a key, if its request id is the same
    pub pending_at : (k : ℕ) → index_under s None ≡ Some k → opener_of b m ≡ None →
        (o : Open) × (slice_get c.still_open k ≡ Some o)
        × (events_at_name s.slots.most b m ≡ cancel_event (last_octet_of m)
        (if is_same_id i (given_id (asks_by C l) o.opener (c.known o.opener.number))
        then Some o else None))
    pending_at k at none =
        let p = one_open C l s c (Some (message_key m)) h.keeps None k at in
        let place = cancel_placed m.header e in
        let asked = asked_is C l s c (Some (message_key m)) h.keeps p.o p.is in (
          p.o,
          p.here,
          cancels_so s.slots.most b m f g e ∙ ap (cancel_event (last_octet_of m))
              ((λ j. open_to_cancel b (h.key_is place j) (none j))
              ∙ (λ j. if is_same_id i (asked j) then p.is j else None)),
        )

  pub closes_one : (o : Open) → may_be_cancelled o.opener.header ≡ true
      → effects (message_reader C l) c (cancel_event (last_octet_of m) (Some o))
      ≡ one_effect (message_reader C l) c now.place o.opener (Cancelled now.number)
  closes_one o may = cancel_closes (message_reader C l) c m o may
      ∙ rw (h.current.place, h.current.number) refl

  -- whether the open message that was found may be cancelled
  pub header_may : (o : Open) (v : Contents) (k : ℕ) (r : Bool) → slice_get c.still_open k ≡ Some o
      → option_map (λ e. e.value) (slice_get s.slots.entries k) ≡ Some v →
      may_be_cancelled v.header ≡ r
      → may_be_cancelled o.opener.header ≡ r
  header_may o v k r here e may = search (arith, opener_slot)

  -- ---- Any message.

  pub header_is : (says : List ℕ → Bool) (r : Bool) → says now.header ≡ r → says m.header ≡ r
  header_is says r e = ap says h.current.header ∙ e

-- ---- At a request id.

module _ (C : Table) (l : Answers) (s : Slots) (c : Tracked) (m : CutMessage) (now : Current)
    (id' : ℕ) (h : IsAtName C l s c m now (Some id')) where
  pub new_here : is_fragmented_1_1 m.header ≡ false
  new_here = go (is_fragmented_1_1 m.header) refl
    where
      go : (old : Bool) → is_fragmented_1_1 m.header ≡ old → is_fragmented_1_1 m.header ≡ false
      go true old = new_by C l s c m now (Some id') h (old_placed m.header old) id' refl
      go false new = new

  pub fragment_here : (r : Bool) → is_fragment_1_2 now.header ≡ r → is_any_fragment m.header ≡ r
  fragment_here r e =
      any_is m.header new_here ∙ header_is C l s c m now (Some id') h is_fragment_1_2 r e

  pub opener_here : (r : Bool) → is_opener_1_2 now.header ≡ r → has_fragments m.header ≡ r
  opener_here r e =
      first_is m.header new_here ∙ header_is C l s c m now (Some id') h is_opener_1_2 r e

  pub no_name : is_fragment_1_2 now.header ≡ false → is_opener_1_2 now.header ≡ false →
      is_cancel_request now.header ≡ false
      → effects (message_reader C l) c (events_at_name s.slots.most (before_with C l c) m)
      ≡ no_effect c
  no_name f g b = other_id (rules_by C l s.slots.most) c (before_with C l c) m
      (fragment_here false f) (opener_here false g)
      (header_is C l s c m now (Some id') h is_cancel_request false b)
