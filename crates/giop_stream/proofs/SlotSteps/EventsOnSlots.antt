-- Calls of the code that do an event or a run: what the slots represent after them.
use Rattle.std.proofs.Common.{arith, ◌≡◌, ℕ, ◌<◌, Bool, false, not, List, [], ◌∷◌, ◌++◌, length, refl, sym, ap, subst, ◌∙◌, Option, Some, None, Result, append-nil}
use Rattle.std.specs.Prelude.{◌==◌, ◌||◌, slice_get, slice_set, option_map}
use Rattle.std.specs.List.{filter, remove, AllByRecursion as Each}
use Rattle.std.proofs.lemmas.Bool.{ne_eqb}
use Rattle.giop_entry_table.specs.OptionalIds.{OptionalIdEntries, with_value}
use Rattle.giop_stream.specs.declared.slots.Slot.{Slot as Contents}
use Rattle.giop_stream.specs.declared.fault.FramingFault.{FramingFault}
use Rattle.giop_message.specs.declared.message.Message.{Message}
use Rattle.giop_stream.specs.SlotsRepresent.{OpenEntry, open_entry, with_message}
use Rattle.giop_stream.specs.declared.slots.Slots.{Slots}
use Rattle.giop_stream.specs.declared.slots.PayloadOwner.{PayloadOwner}
use Rattle.giop_stream.specs.declared.slots.PayloadOwner.TheVariants as owners
use Rattle.giop_sig.specs.Table.{Table}
use Rattle.giop_message.specs.Signatures.{Answers}
use Rattle.giop_message.specs.ReaderOfTable.{message_reader}
use Rattle.giop_print.specs.Output.{OutLog}
use Rattle.giop_stream.specs.Events.{MessageKey, Open, EventKind, Takes, Opens, Seams, Faults, Cancelled, Closes, is_same_id, octets_of_event, is_opening_fault, ends_joining, open_after_event, NumbersRise}
use Rattle.giop_stream.specs.Lines.{Kept, lines_of_event, up_to_last_line}
use Rattle.giop_stream.specs.OpenSlots.{Slot, slots_of, Tracked, IsNotOpen, given_id}
use Rattle.giop_stream.specs.Rules.{asks_by}
use Rattle.giop_stream.specs.Effects.{Effect, MessageEffect, message_effect, tracked_after_event, lines_of, message_kept_after, one_effect, lines_for, event, effect_to}
use Rattle.giop_stream.specs.SlotsRepresent.{RepresentsMessage, IsSlot, AreSlots, PayloadBelongs, SlotsRepresent, index_of, current_of}
use Rattle.giop_stream.specs.DoesEffect.{DoesEffect, DoesMessageEffect, WritesLines}
use Rattle.giop_stream.proofs.Lists.{each_weaker, each_filter, filter_keeps}
use Rattle.giop_stream.proofs.SlotSteps.Performing.{performs_on}
use Rattle.giop_stream.proofs.SlotSteps.ReadingEffects.{over_lines}
use Rattle.giop_stream.proofs.SlotSteps.OneSlotChanges.{at_index, own_then, others_then, mixes_not, mixed_by, mixed_same, slot_at, no_slot, slot_gone, slot_comes}
use Rattle.giop_stream.proofs.SlotSteps.SlotLists.{slots_get, get_last, slots_many, slot_of, entry_there, revalued_set, set_slot, no_more_slots, are_as_many, push_slot, remove_slot}

-- a key that stands for no message
pub no_key : MessageKey
no_key = record { number = 0; header = [] }

-- ---- An event that opens and closes nothing.

abbrev pub LeavesOpenList : (what : EventKind) → Type 0
LeavesOpenList what = (still_open : List Open) (subject : MessageKey) →
    open_after_event still_open subject what ≡ still_open

pub still_takes : (x : ℕ) → LeavesOpenList (Takes x)
unfolding open_after_event
still_takes x still_open subject = refl

pub still_faulted : (fault : FramingFault) → LeavesOpenList (Faults fault)
unfolding open_after_event
still_faulted fault still_open subject = refl

pub still_seams : LeavesOpenList Seams
unfolding open_after_event
still_seams still_open subject = refl

-- the message w is open, at index k of the slots
record IsOpenAtIndex (tracked : Tracked) (key : MessageKey) (k : ℕ) : Type 0 where
  slot : Open
  here : slice_get tracked.still_open k ≡ Some slot
  is : slot.opener ≡ key

-- The owner isn't an open message, and this is what the code keeps of it.
abbrev pub IsCurrentMessage : (payload_owner : PayloadOwner) (message : Option Message) → Type 0
IsCurrentMessage of message = (index_of of ≡ None) × (current_of of ≡ message)

-- The effect changes one message, as this part says, and no other message.
pub record ChangesOneMessage (c : Tracked) (key : MessageKey) (effect : Effect)
    (part : MessageEffect) : Type 0 where
  pub lines : effect.lines ≡ part.lines
  pub still_open : effect.tracked.still_open ≡ c.still_open
  pub mixed : effect.tracked.mixed ≡ c.mixed
  pub own : effect.tracked.known key.number ≡ part.kept
  pub others : (i : ℕ) → (i ≡ key.number → ⊥) → effect.tracked.known i ≡ c.known i

-- ---- An open message is removed.

abbrev pub RemovesFromOpen : (what : EventKind) → Type 0
RemovesFromOpen what = (still_open : List Open) (subject : MessageKey) →
    open_after_event still_open subject what ≡ filter (λ o. not (o.opener.number == subject.number))
    still_open

pub gone_closes : RemovesFromOpen Closes
unfolding open_after_event
gone_closes still_open subject = refl

pub gone_cancelled : (j : ℕ) → RemovesFromOpen (Cancelled j)
unfolding open_after_event
gone_cancelled j still_open subject = refl

none_there : (still_open : List Open) (n : ℕ) → Each (λ o. o.opener.number ≡ n → ⊥) still_open →
    filter (λ o. not (o.opener.number == n)) still_open ≡ still_open
none_there still_open n h = search (arith, filter_keeps, not, each_weaker, ne_eqb)

-- ---- An open message is cancelled by the current one.

module _ (C : Table) (l : Answers) where
  still_open_is : (at : ℕ) (c : Tracked) (w : MessageKey) (what : EventKind) → LeavesOpenList what →
      (tracked_after_event (message_reader C l) c (event at w what)).still_open ≡ c.still_open
  unfolding tracked_after_event
  still_open_is at c w what still = still c.still_open w

  pub still_alters : (at : ℕ) (c : Tracked) (w : MessageKey) (what : EventKind) →
      LeavesOpenList what →
      (c.mixed || ends_joining (event at w what)) ≡ c.mixed
      → ChangesOneMessage c w (one_effect (message_reader C l) c at w what)
      (message_effect (message_reader C l) (event at w what) (c.known w.number))
  unfolding message_effect
  still_alters at c w what still calm =
      let R = message_reader C l in
      record {
        lines = refl;
        still_open = still_open_is at c w what still;
        mixed = mixed_by R c (event at w what) calm;
        own = own_then R c (event at w what);
        others = λ i other. others_then R c (event at w what) i other;
      }

  -- the current message isn't open, and this is what the code keeps of it
  own_parts : (s : Slots) (c : Tracked) (w : MessageKey) (message : Option Message) →
      IsCurrentMessage s.owner message → SlotsRepresent C l s c (Some w)
      → IsNotOpen w.number c.still_open × RepresentsMessage C l message w (c.known w.number)
  own_parts s c w message e h = rw (e.0, e.1) at h.owner

  -- an owner that isn't open has no index among the slots
  no_index : (Q : Option ℕ → Type 0) (i : Option ℕ) (message : Option Message) (c : Tracked)
      (w : MessageKey) → IsNotOpen w.number c.still_open
      → PayloadBelongs C l i message c (Some w) →
      (RepresentsMessage C l message w (c.known w.number) → Q None) → Q i
  no_index Q None message c w apart h f = f h.1
  no_index Q (Some k) message c w apart h f = search (arith, at_index)

  pub current_kept : (s : Slots) (c : Tracked) (w : MessageKey) → IsNotOpen w.number c.still_open →
      SlotsRepresent C l s c (Some w)
      → RepresentsMessage C l (current_of s.owner) w (c.known w.number)
  current_kept s c w apart h =
      no_index (λ i. RepresentsMessage C l (current_of s.owner) w (c.known w.number))
      (index_of s.owner) (current_of s.owner) c w apart h.owner (λ k. k)

  own_now : (s : Slots) (of : PayloadOwner) (own' : Option Message) (c : Tracked) (w : MessageKey)
      (effect : Effect) (part : MessageEffect) → IsCurrentMessage of own' →
      ChangesOneMessage c w effect part
      → AreSlots C l s.slots.entries (slots_of c.known c.still_open) →
      IsNotOpen w.number c.still_open
      → RepresentsMessage C l own' w part.kept →
      s.is_mixed ≡ c.mixed →
      SlotsRepresent C l (record { slots = s.slots; owner = of; is_mixed = s.is_mixed })
      effect.tracked (Some w)
  own_now s of own' c w effect part is alters slots apart kept mixed = search (arith, no_slot)

  place_of : (s : Slots) (c : Tracked) (w : MessageKey) (k : ℕ) → index_of s.owner ≡ Some k →
      SlotsRepresent C l s c (Some w) → IsOpenAtIndex c w k
  place_of s c w k e h = search (arith)

  slot_here : (s : Slots) (c : Tracked) (w : MessageKey) (k : ℕ) (x : OpenEntry) →
      SlotsRepresent C l s c (Some w) → (p : IsOpenAtIndex c w k)
      → slice_get s.slots.entries k ≡ Some x →
      IsSlot C l x (record { open_as = p.slot; kept = c.known w.number })
  slot_here s c w k x h p e =
      let number : p.slot.opener.number ≡ w.number = ap (λ (t : MessageKey). t.number) p.is in
      let one =
      slot_of C l s.slots.entries (slots_of c.known c.still_open) k x
      (record { open_as = p.slot; kept = c.known p.slot.opener.number }) h.slots e
      (slots_get c k p.slot p.here) in
      subst (λ (n : ℕ). IsSlot C l x (record { open_as = p.slot; kept = c.known n })) number one

  pub slot_now : (s : Slots) (of : PayloadOwner) (x : OpenEntry) (message : Option Message)
      (c : Tracked) (w : MessageKey) (effect : Effect) (part : MessageEffect)
      (k : ℕ) → index_of of ≡ Some k → ChangesOneMessage c w effect part →
      NumbersRise c.still_open →
      SlotsRepresent C l s c (Some w)
      → index_of s.owner ≡ Some k → slice_get s.slots.entries k ≡ Some x →
      RepresentsMessage C l message w part.kept
      → SlotsRepresent C l (record {
        slots = record {
          most = s.slots.most;
          entries =
              slice_set s.slots.entries k (with_message x message);
        };
        owner = of;
        is_mixed = s.is_mixed;
      }) effect.tracked (Some w)
  slot_now s of x message c w effect part k is alters rising h e get kept =
      let p = place_of s c w k e h in
      let number : p.slot.opener.number ≡ w.number = ap (λ (t : MessageKey). t.number) p.is in
      let was = slot_here s c w k x h p get in
      let slot : Slot = record { open_as = p.slot; kept = part.kept } in
      let new : IsSlot C l (with_message x message) slot =
      record { number = was.number; header = was.header; key = was.key; message = rw p.is kept }
      in
      let slots' = slot_at effect.tracked.known c.known c.still_open k p.slot rising p.here
      (λ i other. alters.others i (λ same. other (same ∙ sym number))) in
      let later : effect.tracked.known p.slot.opener.number ≡ part.kept =
      ap effect.tracked.known number ∙ alters.own in
      record {
        slots = rw (alters.still_open, slots', later)
            (set_slot C l s.slots.entries (slots_of c.known c.still_open) k (with_message x message)
            slot h.slots new);
        mixed = h.mixed ∙ sym alters.mixed;
        owner = rw is (p.slot, rw alters.still_open p.here, p.is);
      }

  -- ---- A call that does a part of an effect to the owner of the octets.

  -- the owner is the current message, or there is none
  pub own_has : (Q : Option MessageKey → Type 0) (s : Slots) (c : Tracked)
      (owner_of_next : Option MessageKey) (message : Option Message)
      → IsCurrentMessage s.owner message → SlotsRepresent C l s c owner_of_next → (message ≡ None →
      Q None)
      → ((w : MessageKey) → SlotsRepresent C l s c (Some w) → Q (Some w)) → Q owner_of_next
  own_has Q s c None message e h none f = search (arith)
  own_has Q s c (Some w) message e h none f = f w h

  pub slot_has : (Q : Option MessageKey → Type 0) (s : Slots) (c : Tracked)
      (owner_of_next : Option MessageKey) (k : ℕ)
      → index_of s.owner ≡ Some k → SlotsRepresent C l s c owner_of_next →
      ((w : MessageKey) → SlotsRepresent C l s c (Some w) → Q (Some w)) → Q owner_of_next
  slot_has Q s c None k e h f = absurd (rw e at h.owner)
  slot_has Q s c (Some w) k e h f = f w h

  -- the owner is the open message of this slot
  in_slot : (s : Slots) (x : OpenEntry) (c : Tracked) (w : MessageKey) (k : ℕ) →
      index_of s.owner ≡ Some k
      → slice_get s.slots.entries k ≡ Some x → SlotsRepresent C l s c (Some w)
      → (w.number ≡ x.value.number) × RepresentsMessage C l x.value.message w (c.known w.number)
  in_slot s x c w k e get h =
      let p = place_of s c w k e h in
      let was = slot_here s c w k x h p get in
      let number : p.slot.opener.number ≡ w.number = ap (λ (t : MessageKey). t.number) p.is in
      (sym number ∙ sym was.number, rw p.is at was.message)

  module _ {A E : Type 0} {n : A → ℕ} (r : Result A E) (a b : OutLog) where
    pub own_effects : (s : Slots) (of : PayloadOwner) (message own' : Option Message) (c : Tracked)
        (w : MessageKey) (effect : Effect) (part : MessageEffect)
        → IsCurrentMessage of own'
        → IsCurrentMessage s.owner message → SlotsRepresent C l s c (Some w) →
        ChangesOneMessage c w effect part
        → (RepresentsMessage C l message w (c.known w.number) →
        DoesMessageEffect C l n r a b own' w part)
        → DoesEffect C l n r a b (record {
          slots = s.slots;
          owner = of;
          is_mixed = s.is_mixed;
        }) effect (Some w)
    own_effects s of message own' c w effect part is e h alters f = search (
      arith,
      own_parts,
      performs_on,
      own_now,
    )

    -- the owner is an open message
    pub slot_effects : (s : Slots) (of : PayloadOwner) (v : Contents) (message : Option Message)
        (c : Tracked) (w : MessageKey) (effect : Effect)
        (part : MessageEffect) (k : ℕ) → index_of of ≡ Some k → index_of s.owner ≡ Some k →
        option_map (λ e. e.value) (slice_get s.slots.entries k) ≡ Some v
        → NumbersRise c.still_open → SlotsRepresent C l s c (Some w) →
        ChangesOneMessage c w effect part
        → (w.number ≡ v.number → RepresentsMessage C l v.message w (c.known w.number) →
        DoesMessageEffect C l n r a b message w part)
        → DoesEffect C l n r a b (record {
          slots = with_value s.slots k (record v { message = message });
          owner = of;
          is_mixed = s.is_mixed;
        }) effect (Some w)
    slot_effects s of v message c w effect part k is e get rising h alters f = search (
      arith,
      entry_there,
      in_slot,
      performs_on,
      revalued_set,
      slot_now,
    )

  -- the message that represents the owner of the octets
  pub own_kept : (s : Slots) (c : Tracked) (w : MessageKey) (message : Option Message) →
      IsCurrentMessage s.owner message → SlotsRepresent C l s c (Some w)
      → RepresentsMessage C l message w (c.known w.number)
  own_kept s c w message e h = search (arith, own_parts)

  pub slot_kept : (s : Slots) (v : Contents) (c : Tracked) (w : MessageKey) (k : ℕ) →
      index_of s.owner ≡ Some k
      → option_map (λ e. e.value) (slice_get s.slots.entries k) ≡ Some v →
      SlotsRepresent C l s c (Some w)
      → RepresentsMessage C l v.message w (c.known w.number)
  slot_kept s v c w k e get h = search (arith, entry_there, in_slot)

  -- an event changes what is kept of the open message that owns the octets
  pub slot_keeps : (s : Slots) (of : PayloadOwner) (v : Contents) (message : Option Message)
      (c : Tracked) (w : MessageKey) (effect : Effect) (part : MessageEffect) (k : ℕ) →
      index_of of ≡ Some k → index_of s.owner ≡ Some k →
      option_map (λ e. e.value) (slice_get s.slots.entries k) ≡ Some v
      → NumbersRise c.still_open → SlotsRepresent C l s c (Some w) →
      ChangesOneMessage c w effect part
      → RepresentsMessage C l message w part.kept
      → SlotsRepresent C l (record {
        slots = with_value s.slots k (record v { message = message });
        owner = of;
        is_mixed = s.is_mixed;
      }) effect.tracked (Some w)
  slot_keeps s of v message c w effect part k is e get rising h alters kept =
      let there = entry_there s.slots.entries k v get in
      subst (λ (v : Contents). SlotsRepresent C l (record {
        slots = with_value s.slots k (record v { message = message });
        owner = of;
        is_mixed = s.is_mixed;
      }) effect.tracked (Some w)) there.2
      (rw (revalued_set s.slots.entries k there.0 message there.1)
      (slot_now s of there.0 message c w effect part k is alters rising h e there.1 kept))

  -- an open message that owns the octets is owned by its index
  pub open_owner_says : {A : Type 0} (s : Slots) (c : Tracked) (k : ℕ) (o : Open) →
      index_of s.owner ≡ None → SlotsRepresent C l s c (Some o.opener) →
      slice_get c.still_open k ≡ Some o → A
  open_owner_says s c k o e h here =
      let own = rw e at h.owner in
      absurd (at_index (λ a. a.opener.number ≡ o.opener.number → ⊥) c.still_open k o here own.0
      refl)

  -- an open owner has a slot
  pub no_slot_says : {A : Type 0} (s : Slots) (c : Tracked) (owner_of_next : Option MessageKey)
      (k : ℕ) → index_of s.owner ≡ Some k
      → (k < length s.slots.entries → ⊥) → SlotsRepresent C l s c owner_of_next → A
  no_slot_says s c None k e n h = absurd (rw e at h.owner)
  no_slot_says s c (Some w) k e n h =
      let p = place_of s c w k e h in
      absurd (n (no_more_slots C l s.slots.entries (slots_of c.known c.still_open) k
      (record { open_as = p.slot; kept = c.known p.slot.opener.number }) h.slots
      (slots_get c k p.slot p.here)))

  -- an event that opens a message changes nothing of what is kept of it
  opens_then : (at : ℕ) (w : MessageKey) (i : Option ℕ) (o : Option Kept) →
      message_kept_after (message_reader C l) (event at w (Opens i)) o ≡ o
  unfolding message_kept_after lines_of lines_for lines_of_event up_to_last_line octets_of_event
  opens_then at w i None = refl
  opens_then at w i (Some kept) =
      ap (λ (xs : List ℕ). let k : Kept = record { octets = xs; phase = kept.phase } in Some k)
      (append-nil kept.octets)

  opened_still_open : (at : ℕ) (c : Tracked) (w : MessageKey) (i : Option ℕ)
      → (tracked_after_event (message_reader C l) c (event at w (Opens i))).still_open
      ≡ c.still_open
      ++ record { key = i; opener = w } ∷ []
  unfolding tracked_after_event open_after_event
  opened_still_open at c w i = refl

  -- a message becomes open, as the code does it
  pub open_keeps : (s : Slots) (slots' : OptionalIdEntries Contents) (c : Tracked) (w : MessageKey)
      (at number : ℕ) (header : List ℕ) (i : Option ℕ) (message : Option Message) (k : ℕ)
      → slots'.entries ≡ s.slots.entries ++ open_entry i number header message ∷ [] →
      message ≡ current_of s.owner → k ≡ length s.slots.entries
      → SlotsRepresent C l s c (Some w) → IsNotOpen w.number c.still_open → w.number ≡ number →
      w.header ≡ header
      → SlotsRepresent C l (record {
        slots = slots';
        owner = owners.Open (Some k);
        is_mixed = s.is_mixed;
      }) (tracked_after_event (message_reader C l) c (event at w (Opens i))) (Some w)
  open_keeps s slots' c w at number header i message k items is long h apart n f =
      let ev = event at w (Opens i) in
      let o : Open = record { key = i; opener = w } in
      let known : (tracked_after_event (message_reader C l) c ev).known w.number
      ≡ c.known w.number =
      own_then (message_reader C l) c ev ∙ opens_then at w i (c.known w.number) in
      let same : Each (λ a. (tracked_after_event (message_reader C l) c ev).known a.opener.number
      ≡ c.known a.opener.number) c.still_open =
      each_weaker (λ a. a.opener.number ≡ w.number → ⊥)
      (λ a. (tracked_after_event (message_reader C l) c ev).known a.opener.number
      ≡ c.known a.opener.number)
      (λ a j. others_then (message_reader C l) c ev a.opener.number j) c.still_open apart in
      let many : length s.slots.entries ≡ length c.still_open =
      are_as_many C l s.slots.entries (slots_of c.known c.still_open) h.slots
      ∙ slots_many c.known c.still_open in
      record {
        slots = rw (
          items,
          opened_still_open at c w i,
          slot_comes (tracked_after_event (message_reader C l) c ev).known c.known c.still_open o
              same,
          known,
        )
            (push_slot C l s.slots.entries (slots_of c.known c.still_open)
            (open_entry i number header message)
            (record { open_as = o; kept = c.known w.number }) h.slots
            (record {
              number = sym n;
              header = sym f;
              key = refl;
              message =
                  rw is (current_kept s c w apart h);
            }));
        mixed = h.mixed ∙ sym (mixed_same (message_reader C l) c ev (mixes_not ev refl));
        owner = (
          o,
          rw (opened_still_open at c w i, long, many) (get_last c.still_open o),
          refl,
        );
      }

  gone_still_open : (at : ℕ) (c : Tracked) (w : MessageKey) (what : EventKind) →
      RemovesFromOpen what
      → (tracked_after_event (message_reader C l) c (event at w what)).still_open
      ≡ filter (λ o. not (o.opener.number == w.number)) c.still_open
  unfolding tracked_after_event
  gone_still_open at c w what h = h c.still_open w

  -- an event that refuses nothing makes no difference to whether Fragments of 1.1 are joined
  mixed_goes : {is_mixed : Bool} (c : Tracked) (w : MessageKey) (at : ℕ) (what : EventKind) →
      is_mixed ≡ c.mixed → is_opening_fault what ≡ false →
      is_mixed ≡ (tracked_after_event (message_reader C l) c (event at w what)).mixed
  mixed_goes c w at what same calm =
      let e = event at w what in
      same ∙ sym (mixed_same (message_reader C l) c e (mixes_not e calm))

  -- if a message that isn't open closes, the slots stay
  own_gone : (c : Tracked) (w : MessageKey) (at : ℕ) (what : EventKind) (ks : List OpenEntry) →
      RemovesFromOpen what
      → Each (λ o. o.opener.number ≡ w.number → ⊥) c.still_open →
      AreSlots C l ks (slots_of c.known c.still_open)
      → AreSlots C l ks (slots_of (tracked_after_event (message_reader C l) c
      (event at w what)).known
      (tracked_after_event (message_reader C l) c (event at w what)).still_open)
  own_gone c w at what ks gone apart h =
      let e = event at w what in
      rw (
        gone_still_open at c w what gone,
        none_there c.still_open w.number apart,
        no_slot
            (tracked_after_event (message_reader C l) c e).known c.known c.still_open w.number apart
            (λ i j. others_then (message_reader C l) c e i j),
      ) h

  -- if an open message closes, its slot is removed
  pub slot_goes : (c : Tracked) (k : ℕ) (o : Open) (at : ℕ) (what : EventKind)
      (ks : List OpenEntry) → RemovesFromOpen what
      → NumbersRise c.still_open → slice_get c.still_open k ≡ Some o →
      AreSlots C l ks (slots_of c.known c.still_open)
      → AreSlots C l (remove ks k) (slots_of
      (tracked_after_event (message_reader C l) c (event at o.opener what)).known
      (tracked_after_event (message_reader C l) c (event at o.opener what)).still_open)
  slot_goes c k o at what ks gone rising here h =
      let e = event at o.opener what in
      rw (
        gone_still_open at c o.opener what gone,
        slot_gone
            (tracked_after_event (message_reader C l) c e).known c.known c.still_open k o rising
            here
            (λ i j. others_then (message_reader C l) c e i j),
      ) (remove_slot C l ks (slots_of c.known c.still_open) k h)

  -- a call that closes a message
  module _ {A E : Type 0} {n : A → ℕ} (r : Result A E) (a b : OutLog) (at : ℕ) where
    pub own_closes : (s : Slots) (of : PayloadOwner) (message : Option Message) (c : Tracked)
        (owner_of_next : Option MessageKey) → IsCurrentMessage of None
        → IsCurrentMessage s.owner message → SlotsRepresent C l s c owner_of_next
        → ((w : MessageKey) (o : Option Kept) → RepresentsMessage C l message w o →
        WritesLines n r a b (lines_of (message_reader C l) (event at w Closes) o))
        → DoesEffect C l n r a b (record { slots = s.slots; owner = of; is_mixed = s.is_mixed })
        (effect_to C l at c owner_of_next Closes) None
    own_closes s of message c None is e h f =
        performs_on r a b (sym (over_lines (message_reader C l) (event at no_key Closes)))
        (λ k. record { slots = h.slots; mixed = h.mixed; owner = rw (is.0, is.1) refl })
        (f no_key None (rw (rw (e.0, e.1) at h.owner) tt))
    own_closes s of message c (Some w) is e h f =
        let parts = own_parts s c w message e h in
        performs_on r a b refl (λ k. record {
          slots = own_gone c w at Closes s.slots.entries gone_closes parts.0 h.slots;
          mixed = mixed_goes c w at Closes h.mixed refl;
          owner = rw (is.0, is.1) refl;
        }) (f w (c.known w.number) parts.1)

    pub slot_closes : (s : Slots) (of : PayloadOwner) (x : OpenEntry)
        (slots' : OptionalIdEntries Contents)
        (c : Tracked) (owner_of_next : Option MessageKey) (k : ℕ)
        → IsCurrentMessage of None → index_of s.owner ≡ Some k →
        slice_get s.slots.entries k ≡ Some x →
        slots'.entries ≡ remove s.slots.entries k
        → NumbersRise c.still_open → SlotsRepresent C l s c owner_of_next
        → ((w : MessageKey) → RepresentsMessage C l x.value.message w (c.known w.number) →
        WritesLines n r a b (lines_of (message_reader C l) (event at w Closes)
        (c.known w.number)))
        → DoesEffect C l n r a b (record { slots = slots'; owner = of; is_mixed = s.is_mixed })
        (effect_to C l at c owner_of_next Closes) None
    slot_closes s of x slots' c None k is e get items rising h f = absurd (rw e at h.owner)
    slot_closes s of x slots' c (Some w) k is e get items rising h f =
        let p = place_of s c w k e h in
        performs_on r a b refl (λ k'. record {
          slots = rw (items, ← p.is) (slot_goes c k p.slot at Closes s.slots.entries gone_closes
              rising p.here h.slots);
          mixed = mixed_goes c w at Closes h.mixed refl;
          owner = rw (is.0, is.1) refl;
        }) (f w (in_slot s x c w k e get h).1)

  pub open_slot : (s : Slots) (x : OpenEntry) (c : Tracked) (owner_of_next : Option MessageKey)
      (k : ℕ) (o : Open) → SlotsRepresent C l s c owner_of_next
      → slice_get c.still_open k ≡ Some o → slice_get s.slots.entries k ≡ Some x
      → IsSlot C l x (record { open_as = o; kept = c.known o.opener.number })
  open_slot s x c owner_of_next k o h here e = search (arith, slot_of, slots_get)

  pub open_there : {A : Type 0} (s : Slots) (c : Tracked) (owner_of_next : Option MessageKey)
      (k : ℕ) (o : Open)
      → (k < length s.slots.entries → ⊥) → SlotsRepresent C l s c owner_of_next →
      slice_get c.still_open k ≡ Some o → A
  open_there s c owner_of_next k o n h here = search (arith, no_more_slots, slots_get)

  -- what is kept of an open message, and its request id by that
  pub open_kept : (s : Slots) (v : Contents) (c : Tracked) (owner_of_next : Option MessageKey)
      (k : ℕ) (o : Open) → SlotsRepresent C l s c owner_of_next →
      slice_get c.still_open k ≡ Some o →
      option_map (λ e. e.value) (slice_get s.slots.entries k) ≡ Some v →
      RepresentsMessage C l v.message o.opener (c.known o.opener.number)
  open_kept s v c owner_of_next k o h here e =
      let there = entry_there s.slots.entries k v e in
      let is = open_slot s there.0 c owner_of_next k o h here there.1 in
      rw there.2 at is.message

  pub asked_by_one : (m : Message) (w : MessageKey) (o : Option Kept) (id : ℕ) (r : Bool) →
      RepresentsMessage C l (Some m) w o → ((kept : Kept) →
      RepresentsMessage C l (Some m) w (Some kept) →
      r ≡ is_same_id (Some id) (given_id (asks_by C l) w (Some kept)))
      → r ≡ is_same_id (Some id) (given_id (asks_by C l) w o)
  asked_by_one m w (Some kept) id r k f = f kept k
  asked_by_one m w None id r k f = absurd k

  pub asked_by_none : (w : MessageKey) (o : Option Kept) (id : ℕ) →
      RepresentsMessage C l None w o → false ≡ is_same_id (Some id) (given_id (asks_by C l) w o)
  asked_by_none w (Some kept) id k = absurd k
  asked_by_none w None id k = refl

  pub cancel_keeps : (s : Slots) (slots' : OptionalIdEntries Contents) (c : Tracked)
      (w : MessageKey) (k : ℕ) (o : Open) (at j : ℕ)
      → SlotsRepresent C l s c (Some w) → IsNotOpen w.number c.still_open →
      slice_get c.still_open k ≡ Some o → NumbersRise c.still_open
      → slots'.entries ≡ remove s.slots.entries k
      → SlotsRepresent C l (record { slots = slots'; owner = s.owner; is_mixed = s.is_mixed })
      (tracked_after_event (message_reader C l) c (event at o.opener (Cancelled j))) (Some w)
  cancel_keeps s slots' c w k o at j h free here rising items = search (
    arith,
    at_index,
    gone_still_open,
    gone_cancelled,
    mixed_goes,
    each_filter,
    not,
    slot_goes,
    no_index,
    others_then,
  )
