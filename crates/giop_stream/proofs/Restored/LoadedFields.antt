-- The fields of an engine that are read from a checkpoint's fixed part show the same state as the
-- fields that were written.
use Rattle.std.proofs.Common.{◌≡◌, ℕ, ◌+◌, ◌-◌, ◌*◌, ◌^◌, ◌<◌, ◌≤◌, Bool, true, false, not, ◌&&◌, ◌||◌, List, [], ◌∷◌, ◌++◌, length, flat_map, arith, Option, Some, None, refl, sym, ap, ◌∙◌, append_assoc}
use Rattle.std.specs.Prelude.{nat_lt, if◌then◌else◌}
use Rattle.std.specs.List.{AllByRecursion as Each}
use Rattle.std.proofs.lemmas.Bool.{lt-ltb, le-ltb}
use Rattle.std.proofs.lemmas.Option.{slice_get_within}
use Rattle.giop_sig.specs.Table.{Table}
use Rattle.giop_message.specs.Phases.{unbroken}
use Rattle.giop_message.specs.declared.message.Message.{Message}
use Rattle.giop_message.specs.Headers.{size}
use Rattle.giop_message.specs.Signatures.{RequestTable, Answers, by_list}
use Rattle.giop_checkpoint.specs.declared.fault.StreamFault.{StreamFault}
use Rattle.giop_checkpoint.specs.declared.fixed.Fixed.{Fixed}
use Rattle.giop_checkpoint.specs.declared.fixed.NextOctet.{NextOctet}
use Rattle.giop_checkpoint.specs.declared.fixed.NextOctet.TheVariants.{Header, Payload}
use Rattle.giop_checkpoint.specs.Records.{stored_record_octets}
use Rattle.giop_stream.specs.declared.slots.Slots.{Slots}
use Rattle.giop_stream.specs.declared.slots.PayloadOwner.{PayloadOwner}
use Rattle.giop_stream.specs.declared.slots.PayloadOwner.TheVariants as owners
use Rattle.giop_stream.specs.Rules.{Rules, joins_by, rules}
use Rattle.giop_stream.specs.Framing.{fault_of}
use Rattle.giop_stream.specs.Events.{MessageKey, Open, NumbersRise, before_by}
use Rattle.giop_stream.specs.Lines.{Kept}
use Rattle.giop_stream.specs.OpenSlots.{Slot as Held, KeptByNumber, Tracked, IsNotOpen, tracked_after, slots_of, slots_at}
use Rattle.giop_stream.specs.EngineState.{State, none_if_stopped, state_of}
use Rattle.giop_stream.specs.SlotsRepresent.{RepresentsMessage, AreSlots, PayloadBelongs, index_of, current_of}
use Rattle.giop_stream.specs.ViewOfState.{Shows, payload_count_in}
use Rattle.giop_stream.specs.EngineView.{FramingView}
use Rattle.giop_stream.specs.Checkpoint.{place_of, owner_record_index, fixed_of, Spells}
use Rattle.giop_stream.specs.Reloading as fields
use Rattle.giop_stream.specs.Reloading.{IsUnbroken, MayBeOpen, HasRoomFor, without_key, AreRecordsLeft, HasAdded, IsCurrentOwner}
use Rattle.giop_stream.proofs.Lists.{each_append, each_weaker}
use Rattle.giop_stream.proofs.SlotSteps.SlotLists.{slots_many, are_as_many}
use Rattle.giop_stream.proofs.SlotSteps.EventsOnSlots.{no_key}
use Rattle.giop_stream.proofs.Restored.WithoutKey.{IsKeyed, HasKeys}
use Rattle.giop_stream.proofs.Restored.KeysOfStream.{keys_of, rising_of}
use Rattle.giop_stream.proofs.Restored.LoadRanges.{AreTotals, few_slots, may_be_again}
use Rattle.giop_stream.proofs.Restored.SavedSizes.{entries_count}

-- ---- what the messages may be that are read again

unbroken_by : (known : Option Kept) →
    ((kept : Kept) → known ≡ Some kept → kept.phase ≡ unbroken) → IsUnbroken known
unbroken_by None h = tt
unbroken_by (Some kept) h = h kept refl

module _ (C : Table) (c : Tracked) (keys : HasKeys (joins_by C) c) where
  closed_unbroken : (i : ℕ) → IsNotOpen i c.still_open → IsUnbroken (c.known i)
  closed_unbroken i closed = unbroken_by (c.known i) (λ kept known. keys.whole i kept known
      (each_weaker {A = Open} (λ o. o.opener.number ≡ i → ⊥) _ (λ o apart same none. apart same)
      c.still_open closed))

  -- an open message is the only one with its number
  only_one : (o : Open) (id : ℕ) → o.key ≡ Some id → (before after : List Open) →
      Each (λ a. a.opener.number < o.opener.number) before →
      Each (λ a. o.opener.number < a.opener.number) after →
      IsKeyed o.opener.number (before ++ o ∷ after)
  only_one o id is [] after low high = (
    λ same none. absurd (let no : Some id ≡ None = sym is ∙ none in cc),
    each_weaker {A = Open} (λ a. o.opener.number < a.opener.number) _
        (λ a more same none. omega (arith, more, same)) after high,
  )
  only_one o id is (b ∷ before) after low high = (
    λ same none. omega (arith, low.0, same),
    only_one o id is before after low.1 high,
  )

  may_one : (o : Open) (before after : List Open) → c.still_open ≡ before ++ o ∷ after →
      Each (λ a. a.opener.number < o.opener.number) before →
      Each (λ a. o.opener.number < a.opener.number) after →
      (o.key ≡ None → joins_by C ≡ true) → MayBeOpen C o.key (c.known o.opener.number)
  may_one o before after all low high joined = go o.key refl
    where
      go : (key : Option ℕ) → o.key ≡ key → MayBeOpen C key (c.known o.opener.number)
      go None e = joined e
      go (Some id) e = unbroken_by (c.known o.opener.number)
          (λ kept known. keys.whole o.opener.number kept known
          (rw all (only_one o id e before after low high)))

  may_all : (before after : List Open) → c.still_open ≡ before ++ after →
      Each (λ a. Each (λ b. a.opener.number < b.opener.number) after) before → NumbersRise after →
      Each (λ o. o.key ≡ None → joins_by C ≡ true) after →
      Each (λ slot. MayBeOpen C slot.open_as.key slot.kept) (slots_of c.known after)
  unfolding slots_of
  may_all before [] all low rising joined = tt
  may_all before (o ∷ after) all low rising joined = (
    may_one o before after all (each_weaker {A = Open} _ _ (λ a h. h.0) before low) rising.0
        joined.0,
    may_all (before ++ o ∷ []) after (all ∙ sym (append_assoc before (o ∷ []) after))
        (each_append _ before (o ∷ []) (each_weaker {A = Open} _ _ (λ a h. h.1) before low)
        (rising.0, tt))
        rising.1 joined.1,
  )

  all_may : NumbersRise c.still_open →
      Each (λ slot. MayBeOpen C slot.open_as.key slot.kept) (slots_at c)
  all_may rising = may_all [] c.still_open refl tt rising keys.joined

keys_of_slots : (known : KeptByNumber) (still_open : List Open) →
    without_key (λ slot. slot.open_as.key) (slots_of known still_open)
    ≡ without_key (λ o. o.key) still_open
unfolding slots_of
keys_of_slots known [] = refl
keys_of_slots known (o ∷ still_open) = omega (arith, keys_of_slots known still_open)

-- ---- a message that can stand in the place of the current one, since both have read the same
-- octets

pub record CanStand (C : Table) (l : Answers) (i : Option ℕ) (message : Option Message)
    (tracked : Tracked) (owner : Option MessageKey) : Type 0 where
  pub w : MessageKey
  pub known : Option Kept
  pub is : RepresentsMessage C l message w known
  pub whole : IsUnbroken known
  pub again : (m : Option Message) → i ≡ None → RepresentsMessage C l m w known →
      PayloadBelongs C l None m tracked owner

module _ (C : Table) (l : Answers) (c : Tracked) (keys : HasKeys (joins_by C) c) where
  over : (m : Option Message) → RepresentsMessage C l m no_key None → m ≡ None
  over None k = refl
  over (Some m) k = absurd k

  stands : (i : Option ℕ) (message : Option Message) (owner : Option MessageKey)
      → ((k : ℕ) → i ≡ Some k → message ≡ None) → PayloadBelongs C l i message c owner →
      CanStand C l i message c owner
  stands None message None alone h = record {
    w = no_key;
    known = None;
    is = rw h tt;
    whole = tt;
    again = λ m e k. over m k;
  }
  stands None message (Some w) alone h = record {
    w = w;
    known = c.known w.number;
    is = h.1;
    whole = closed_unbroken C c keys w.number h.0;
    again = λ m e k. (h.0, k);
  }
  stands (Some k) message owner alone h = record {
    w = no_key;
    known = None;
    is = rw (alone k refl) tt;
    whole = tt;
    again = λ m e k. absurd cc;
  }

-- if the owner is an open message, there is no current message
alone : (of : PayloadOwner) (k : ℕ) → index_of of ≡ Some k → current_of of ≡ None
alone (owners.Current message is_over) k e = absurd cc
alone (owners.Open i) k e = refl

-- ---- after the fixed part, the records are left to be read, and there is room for them

module _ (octets p : List ℕ) (C : Table) (l : RequestTable) (most : ℕ)
    (s : Spells octets C l most p) where
  keys : HasKeys (joins_by C) (state_of (rules C l most) p).tracked
  unfolding state_of
  keys = keys_of p C l most

  pub stand : CanStand C (by_list l) (index_of s.memory.slots.owner)
      (current_of s.memory.slots.owner) (state_of (rules C l most) p).tracked
      (state_of (rules C l most) p).owner
  stand = stands C (by_list l) _ keys (index_of s.memory.slots.owner)
      (current_of s.memory.slots.owner) _ (alone s.memory.slots.owner) s.shows.slots.owner

  each_may : Each (λ slot. MayBeOpen C slot.open_as.key slot.kept)
      (slots_at (state_of (rules C l most) p).tracked)
  unfolding state_of tracked_after
  each_may = all_may C _ keys (rising_of p C l most)

  pub spells_left : (fixed : Fixed) (records : List ℕ) → fixed ≡ fixed_of C l s.memory →
      records ≡ flat_map stored_record_octets s.entries →
      AreRecordsLeft C (by_list l) (fixed.octets + 1) fixed.records records
      (slots_at (state_of (rules C l most) p).tracked) stand.w stand.known
  unfolding fixed_of
  spells_left fixed records is are = search (arith, entries_count, stand, each_may)

  -- there is room for the open messages
  pub room_for : (bare : Slots) → bare.slots.entries ≡ [] → bare.slots.most ≡ most →
      HasRoomFor bare (slots_at (state_of (rules C l most) p).tracked)
  unfolding state_of tracked_after
  room_for bare none limit =
      let few = few_slots octets p C l most s in
      let many = are_as_many C (by_list l) _ _ s.shows.slots.slots in
      let tracked = tracked_after (rules C l most) p in
      let same = keys_of_slots tracked.known tracked.still_open in
      let one = keys.one in
      record {
        room = rw none (omega (arith, few, many, limit));
        one = rw none (omega (arith, one, same));
      }

-- the fixed part has the limit of open messages with which the stream was read
pub limit_is : (octets p : List ℕ) (C : Table) (l : RequestTable) (most : ℕ)
    (s : Spells octets C l most p) (fixed : Fixed) →
    fixed ≡ fixed_of C l s.memory → fixed.most_open ≡ most
unfolding fixed_of
limit_is octets p C l most s fixed is = search (arith)

-- ---- where the stream stands: in a header, in a payload, or stopped

empty_by_stop : (found : Option (ℕ × StreamFault)) (held : List ℕ) (fault : StreamFault) →
    fault_of found ≡ Some fault →
    none_if_stopped found [] held ≡ []
empty_by_stop None held fault e = absurd cc
empty_by_stop (Some found) held fault e = refl

empty_after_stop : (R : Rules) (p : List ℕ) (fault : StreamFault) →
    (state_of R p).stop ≡ Some fault →
    (state_of R p).held ≡ []
unfolding state_of
empty_after_stop R p fault e = search (arith, empty_by_stop)

-- the place, if the header is incomplete, or if the stream is in a payload
abbrev running_place : (b : Bool) (header : List ℕ) (payload_count : ℕ) → NextOctet
running_place b header payload_count = if b then Header (record { items = header }) else Payload
    header (size header - payload_count)

stop_by : (b : Bool) (header : List ℕ) (payload_count : ℕ) →
    fields.stop_in (running_place b header payload_count) ≡ None
stop_by true header payload_count = refl
stop_by false header payload_count = refl

stop_again : (stopped : Option StreamFault) (header : List ℕ) (payload_count : ℕ) →
    fields.stop_in (place_of stopped header payload_count) ≡ stopped
stop_again (Some fault) header payload_count = refl
stop_again None header payload_count = search (arith, stop_by)

header_by : (b : Bool) (header : List ℕ) (payload_count : ℕ) →
    fields.header_in (running_place b header payload_count) ≡ header
header_by true header payload_count = refl
header_by false header payload_count = refl

-- after a stream fault, no header octet is held
abbrev IsEmptyAfterStop : (stopped : Option StreamFault) (header : List ℕ) → Type 0
IsEmptyAfterStop stopped header = (fault : StreamFault) → stopped ≡ Some fault → header ≡ []

header_again : (stopped : Option StreamFault) (header : List ℕ) (payload_count : ℕ) →
    IsEmptyAfterStop stopped header →
    fields.header_in (place_of stopped header payload_count) ≡ header
header_again (Some fault) header payload_count empty = sym (empty fault refl)
header_again None header payload_count empty = search (arith, header_by)

-- how many payload octets have come, if it is known how many are still to come
abbrev payload_count_of : (b : Bool) (header : List ℕ) (left : ℕ) → ℕ
payload_count_of b header left = if b then 0 else size header - left

twice : (n k : ℕ) → n - (n - (n - k)) ≡ n - k
twice n k = omega arith

come_by : (b : Bool) (header : List ℕ) (left payload_count : ℕ) →
    payload_count ≡ payload_count_of b header left →
    fields.payload_count_in (running_place b header payload_count) ≡ payload_count
come_by true header left payload_count e = sym e
come_by false header left payload_count e = search (arith, twice)

come_again : (stopped : Option StreamFault) (header : List ℕ) (left payload_count : ℕ) →
    IsEmptyAfterStop stopped header →
    payload_count ≡ payload_count_of (nat_lt (length header) 12) header left →
    fields.payload_count_in (place_of stopped header payload_count) ≡ payload_count
come_again (Some fault) header left payload_count empty e =
    sym (e ∙ ap (λ (xs : List ℕ). payload_count_of (nat_lt (length xs) 12) xs left)
    (empty fault refl))
come_again None header left payload_count empty e =
    come_by (nat_lt (length header) 12) header left payload_count e

-- ---- the owner of the payload

-- If such a message was loaded, the owner that is loaded is the owner of the stream's octets too.
owner_again : (C : Table) (l : Answers) (i : Option ℕ) (message : Option Message)
    (made : PayloadOwner) (many : ℕ) (c : Tracked) (owner : Option MessageKey)
    (s : CanStand C l i message c owner) →
    many ≡ length (slots_at c) →
    PayloadBelongs C l i message c owner → IsCurrentOwner C l made s.w s.known →
    (let of = fields.owner_by (owner_record_index i message many) many made in
    PayloadBelongs C l (index_of of) (current_of of) c owner)
owner_again C l None None made many c owner s long is current = search (arith)
owner_again C l None (Some m) made many c owner s long is current = search (arith, le-ltb)
owner_again C l (Some k) message made many c None s long is current = absurd is
owner_again C l (Some k) message made many c (Some w) s long is current = search (
  arith,
  slots_many,
  slice_get_within,
  lt-ltb,
)

-- ---- the fields

-- the fields as they are read from the fixed part
pub record IsReadAs (m : FramingView) (fixed : Fixed) (made : Slots) (joins : Bool) : Type 0 where
  pub totals : m.totals ≡ record {
    messages = fixed.messages;
    faults = fixed.faults;
    octets =
        fixed.octets;
  }
  pub stopped : m.stopped ≡ fields.stop_in fixed.place
  pub header : m.header ≡ fields.header_in fixed.place
  pub payload_count : m.payload_count ≡ fields.payload_count_in fixed.place
  pub owner : m.slots.owner ≡ fields.owner_by fixed.owner (length made.slots.entries) made.owner
  pub slots : m.slots.slots ≡ made.slots
  pub mixed : m.slots.is_mixed ≡ (fixed.is_mixed || not joins)

-- bounds for the totals of a stream with this stream fault, if it has one, and this many held
-- header octets
pub record MayBe (fixed : Fixed) (stop : Option StreamFault) (long : ℕ) : Type 0 where
  pub running : stop ≡ None → fixed.octets ≤ 2 ^ 48
  pub messages : fixed.messages ≤ fixed.octets
  pub faults : fixed.faults ≤ 3 * fixed.octets
  pub held : long ≤ fixed.octets

-- Messages of 1.1 are mixed from the start where their Fragments are joined to none, and a
-- checkpoint stores only whether they are mixed otherwise.
mixed_by : (joins now refused : Bool) → now ≡ (not joins || refused) →
    ((now && joins) || not joins) ≡ now
mixed_by true true refused e = refl
mixed_by true false refused e = refl
mixed_by false true refused e = refl
mixed_by false false refused e = sym e

added_all : (C : Table) (l : Answers) (bare slots : Slots) (held : List Held) →
    bare.slots.entries ≡ [] →
    HasAdded C l bare slots held → AreSlots C l slots.slots.entries held
added_all C l bare slots held none added = search (arith)

module _ (octets p : List ℕ) (C : Table) (l : RequestTable) (most : ℕ)
    (s : Spells octets C l most p) where
  state : State
  state = state_of (rules C l most) p

  empty : IsEmptyAfterStop s.memory.stopped s.memory.header
  unfolding state
  empty fault e = search (arith, empty_after_stop)

  come_is : s.memory.payload_count ≡ payload_count_of (nat_lt (length s.memory.header) 12)
      s.memory.header state.left
  unfolding state payload_count_in
  come_is = search (arith)

  owner_is : (many : ℕ) (made : PayloadOwner) → many ≡ length (slots_at state.tracked) →
      IsCurrentOwner C (by_list l) made (stand octets p C l most s).w
      (stand octets p C l most s).known →
      (let of = fields.owner_by (owner_record_index (index_of s.memory.slots.owner)
      (current_of s.memory.slots.owner) (length s.memory.slots.slots.entries)) many made in
      PayloadBelongs C (by_list l) (index_of of) (current_of of) state.tracked state.owner)
  unfolding state
  owner_is many made long current = search (arith, are_as_many, owner_again, stand)

  mixed_again : ((s.memory.slots.is_mixed && joins_by C) || not (joins_by C)) ≡ state.tracked.mixed
  unfolding state state_of tracked_after before_by
  mixed_again = mixed_by (joins_by C) s.memory.slots.is_mixed _ s.shows.slots.mixed
      ∙ s.shows.slots.mixed

  module _ (m : FramingView) (bare slots : Slots) (none : bare.slots.entries ≡ []) where
    shows_fixed : IsReadAs m (fixed_of C l s.memory) slots (joins_by C) →
        HasAdded C (by_list l) bare slots (slots_at state.tracked) →
        IsCurrentOwner C (by_list l) slots.owner (stand octets p C l most s).w
        (stand octets p C l most s).known → Shows C (by_list l) m state
    unfolding state fixed_of
    shows_fixed is added current = search (
      arith,
      added_all,
      stop_again,
      header_again,
      empty,
      come_again,
      come_is,
      owner_is,
      are_as_many,
      mixed_again,
    )

    pub shows_again : (fixed : Fixed) → fixed ≡ fixed_of C l s.memory →
        IsReadAs m fixed slots (joins_by C) →
        HasAdded C (by_list l) bare slots (slots_at (state_of (rules C l most) p).tracked) →
        IsCurrentOwner C (by_list l) slots.owner (stand octets p C l most s).w
        (stand octets p C l most s).known →
        Shows C (by_list l) m (state_of (rules C l most) p)
    unfolding state
    shows_again fixed e is added current = search (arith, shows_fixed)

  module _ (stop : Option StreamFault) (long : ℕ) where
    totals_fixed : stop ≡ fields.stop_in (fixed_of C l s.memory).place →
        long ≡ length (fields.header_in (fixed_of C l s.memory).place) →
        MayBe (fixed_of C l s.memory) stop long
    unfolding fixed_of
    totals_fixed stopped same =
        let may : AreTotals s.memory = may_be_again octets p C l most s in
        let held = header_again s.memory.stopped s.memory.header s.memory.payload_count empty in
        record {
          running = λ e. may.running (sym (stop_again s.memory.stopped s.memory.header
              s.memory.payload_count) ∙ sym stopped ∙ e);
          messages = may.messages;
          faults = may.faults;
          held = omega (arith, may.held, same, ap length held);
        }

    pub totals_again : (fixed : Fixed) → fixed ≡ fixed_of C l s.memory →
        stop ≡ fields.stop_in fixed.place →
        long ≡ length (fields.header_in fixed.place) → MayBe fixed stop long
    totals_again fixed e = search (arith, totals_fixed)
