-- The slots that are read from a checkpoint's records are those that were written.
use Rattle.std.proofs.Common.{◌≡◌, ℕ, suc, ◌+◌, ◌-◌, ◌≤◌, zero, Bool, true, false, cond, List, [], ◌∷◌, ◌++◌, length, drop, flat_map, replicate, arith, Option, Some, None, inl, inr, ◌⊎◌, refl, sym, ap, ◌∙◌, subst, append_assoc, append-nil}
use Rattle.std.specs.Prelude.{is_none, is_some, IsSomeAnd}
use Rattle.std.specs.List.{position_from, AllByRecursion as Each}
use Rattle.std.proofs.lemmas.List.{length-append}
use Rattle.giop_sig.specs.Table.{Table}
use Rattle.giop_message.specs.Phases.{Phase}
use Rattle.giop_message.specs.declared.message.Message.{Message}
use Rattle.giop_message.specs.MessageState.{Follows}
use Rattle.giop_message.specs.Signatures.{Answers}
use Rattle.giop_message.specs.Stored.{Stored}
use Rattle.giop_checkpoint.specs.declared.record.FirstRecord.{FirstRecord}
use Rattle.giop_checkpoint.specs.declared.record.RecordKind.TheVariants as record_kinds
use Rattle.giop_checkpoint.specs.Records.{StoredRecord, StoredRecordHasRange, AreRecords, stored_record_octets, first_record_length}
use Rattle.giop_stream.specs.SlotsRepresent.{OpenEntry}
use Rattle.giop_stream.specs.declared.slots.Slots.{Slots}
use Rattle.giop_stream.specs.declared.slots.PayloadOwner.TheVariants as owners
use Rattle.giop_stream.specs.Events.{MessageKey}
use Rattle.giop_stream.specs.Lines.{Kept}
use Rattle.giop_stream.specs.OpenSlots.{Slot as Held}
use Rattle.giop_stream.specs.SlotsRepresent.{IsReady, RepresentsMessage, IsSlot, AreSlots}
use Rattle.giop_stream.specs.Checkpoint.{StoresOrZeros, StoresMessage, open_kind, over_kind, open_record_kind}
use Rattle.giop_stream.specs.Reloading.{IsEntry, IsUnbroken, MayBeOpen, HasRoomFor, lacks_key, without_key, MayHaveSeams, open_entry_of_record, IsOpenEntry, IsCurrentEntry, IsCurrentOwner, AreEntriesOf, AreRecordsLeft, HasAdded, HasAddedFirst}
use Rattle.giop_stream.proofs.SlotSteps.SlotLists.{are_as_many}
use Rattle.giop_stream.proofs.Restored.SavedSizes.{entries_range}

-- ---- the fields of a record

number_in : (first : FirstRecord) (e : StoredRecord) → IsEntry first e →
    first.«record».number ≡ e.record_is.number
number_in first e entry = search (arith)

header_in : (first : FirstRecord) (e : StoredRecord) → IsEntry first e →
    first.«record».header ≡ e.record_is.header
header_in first e entry = search (arith)

standing_in : (first : FirstRecord) (e : StoredRecord) → IsEntry first e →
    first.«record».record_kind ≡ e.record_is.record_kind
standing_in first e entry = search (arith)

stored_in : (m : Message) (e : StoredRecord) (first : FirstRecord) → StoresMessage m e
    → IsEntry first e →
    Stored m first.message first.frames.now
stored_in m e first is entry = search (arith)

open_id : (a b : Option ℕ) → open_kind a ≡ open_kind b → a ≡ b
open_id None None e = refl
open_id None (Some b) e = absurd cc
open_id (Some a) None e = absurd cc
open_id (Some a) (Some b) e = cc

over_id : (a b : Option ℕ) → over_kind a ≡ over_kind b → a ≡ b
over_id None None e = refl
over_id None (Some b) e = absurd cc
over_id (Some a) None e = absurd cc
over_id (Some a) (Some b) e = cc

over_not_open : (a b : Option ℕ) → over_kind a ≡ open_kind b → ⊥
over_not_open None None e = cc
over_not_open None (Some b) e = cc
over_not_open (Some a) None e = cc
over_not_open (Some a) (Some b) e = cc

open_not_over : (a b : Option ℕ) → open_kind a ≡ over_kind b → ⊥
open_not_over a b e = over_not_open b a (sym e)

current_none : (m : Option Message) (key : Option ℕ) → open_record_kind m key
    ≡ record_kinds.Current → ⊥
current_none None None e = cc
current_none None (Some id) e = cc
current_none (Some m) None e = cc
current_none (Some m) (Some id) e = cc

-- ---- a message

-- a message is restored from this record's octets, and follows every stream that the stored one
-- follows
abbrev pub Restores : (C : Table) (octets : ℕ) (first : FirstRecord) (found : Option Message) →
    Type 0
Restores C octets first found =
    (m : Message) (l : Answers) (phase : Phase) (n : ℕ) (h xs : List ℕ) →
    IsReady C (octets + 1) (Some m) →
    m.number ≡ first.«record».number → m.header ≡ first.«record».header →
    Stored m first.message first.frames.now → MayHaveSeams first phase →
    Follows C l phase n h m xs → IsSomeAnd found (λ e. Follows C l phase n h e xs)

-- the same of what is kept
FitsRecord : FirstRecord → Option Kept → Type 0
FitsRecord first None = Unit {0}
FitsRecord first (Some kept) = MayHaveSeams first kept.phase

fits_current : (first : FirstRecord) (known : Option Kept) → IsUnbroken known →
    FitsRecord first known
unfolding FitsRecord
fits_current first None h = tt
fits_current first (Some kept) h = inr h

module _ (C : Table) (l : Answers) where
  fits_open : (first : FirstRecord) (message : Option Message) (w : MessageKey) (key : Option ℕ)
      (known : Option Kept) → first.«record».record_kind ≡ open_record_kind message key →
      RepresentsMessage C l message w known → MayBeOpen C key known → FitsRecord first known
  unfolding FitsRecord
  fits_open first message w key None is represents may = tt
  fits_open first (Some m) w None (Some kept) is represents may = inl is
  fits_open first None w None (Some kept) is represents may = absurd represents
  fits_open first message w (Some id) (Some kept) is represents may = inr may

module _ (C : Table) (l : Answers) (first : FirstRecord) where
  -- the record is this entry of an open message, and the message represents these octets
  record IsOf (e : StoredRecord) (w : MessageKey) (message : Option Message)
      (known : Option Kept) (key : Option ℕ) : Type 0 where
    entry : IsEntry first e
    record_kind : first.«record».record_kind ≡ open_record_kind message key
    stored : StoresOrZeros message e
    kept : RepresentsMessage C l message w known
    fits : FitsRecord first known
    number : w.number ≡ first.«record».number
    header : w.header ≡ first.«record».header

  -- such a message is restored
  abbrev IsRestored : (key : MessageKey) (found : Option Message) (known : Option Kept) → Type 0
  IsRestored w found known = (is_some found ≡ true) × RepresentsMessage C l found w known

  is_again : (w : MessageKey) (kept : Kept) (found : Option Message) →
      IsSomeAnd found (λ m. Follows C l kept.phase w.number w.header m kept.octets) →
      IsRestored w found (Some kept)
  is_again w kept None h = absurd h
  is_again w kept (Some m) h = (refl, h)

  -- a message that is over has no frames, and zeros for its octets
  abbrev IsStoredAsNothing : (key : MessageKey) (known : Option Kept) → Type 0
  IsStoredAsNothing w known = (first.frames.now ≡ []) × (first.message ≡ replicate 224 0)
      × RepresentsMessage C l None w known

  over_by : (e : StoredRecord) (w : MessageKey) (message : Option Message)
      (known : Option Kept) (kid id : Option ℕ) →
      IsOf e w message known kid → first.«record».record_kind ≡ over_kind id →
      (kid ≡ id) × IsStoredAsNothing w known
  over_by e w None None kid id is over = search (arith, over_id)
  over_by e w None (Some kept) kid id is over = absurd is.kept
  over_by e w (Some m) known kid id is over = search (arith, open_not_over)

module _ (C : Table) (l : Answers) (octets : ℕ) (first : FirstRecord) where
  pub current_again : (w : MessageKey) (known : Option Kept) (found : Option Message) →
      IsCurrentEntry C l (octets + 1) first w known → Restores C octets first found →
      (is_some found ≡ true) × RepresentsMessage C l found w known
  current_again w None found is again = absurd is.represents
  current_again w (Some kept) found is again =
      let m = is.message in
      let e = is.entry in
      is_again C l first w kept found
      (again m l kept.phase w.number w.header kept.octets is.ready
      (sym (number_in first e is.read ∙ is.entry_is.number_is))
      (sym (header_in first e is.read ∙ is.entry_is.header_is))
      (stored_in m e first is.entry_is.message is.read) (inr is.whole) is.represents)

  open_by : (e : StoredRecord) (w : MessageKey) (found message : Option Message)
      (known : Option Kept) (kid id : Option ℕ) →
      IsOf C l first e w message known kid →
      first.«record».record_kind ≡ open_kind id →
      IsReady C (octets + 1) message → Restores C octets first found → (kid ≡ id)
      × IsRestored C l first w found known
  unfolding FitsRecord
  open_by e w found None known kid id is opened ready again = search (arith, over_not_open)
  open_by e w found (Some m) None kid id is opened ready again = absurd is.kept
  open_by e w found (Some m) (Some kept) kid id is opened ready again = (
    open_id kid id (sym is.record_kind ∙ opened),
    is_again C l first w kept found
        (again m l kept.phase w.number w.header kept.octets ready
        (is.kept.same_number ∙ is.number) (is.kept.same_header ∙ is.header)
        (stored_in m e first is.stored is.entry) is.fits is.kept),
  )

module _ (C : Table) (l : Answers) (at : ℕ) (first : FirstRecord) (held : Held) where
  kind_of : (is : IsOpenEntry C l at first held) →
      first.«record».record_kind ≡ open_record_kind is.kept.value.message held.open_as.key
  kind_of is = standing_in first is.entry is.read ∙ is.entry_is.record_kind
      ∙ ap (open_record_kind is.kept.value.message) is.slot_is.key

  fits_of : IsOpenEntry C l at first held → FitsRecord first held.kept
  fits_of is = fits_open C l first is.kept.value.message held.open_as.opener held.open_as.key
      held.kept (kind_of is) is.slot_is.message is.may

  of_slot : (is : IsOpenEntry C l at first held) →
      IsOf C l first is.entry held.open_as.opener is.kept.value.message held.kept is.kept.key
  of_slot is = search (arith, standing_in, number_in, header_in, fits_of)

  -- the slot made from a record, if its message represents the same octets
  slot_again : (id : Option ℕ) (found : Option Message) (is : IsOpenEntry C l at first held) →
      is.kept.key ≡ id →
      RepresentsMessage C l found held.open_as.opener held.kept →
      IsSlot C l (open_entry_of_record first id found) held
  slot_again id found is same kept = search (arith, number_in, header_in)

  pub over_again : (id : Option ℕ) → IsOpenEntry C l at first held →
      first.«record».record_kind ≡ over_kind id →
      (first.frames.now ≡ []) × (first.message ≡ replicate 224 0)
      × IsSlot C l (open_entry_of_record first id None) held
  over_again id is over = search (arith, over_by, of_slot, slot_again)

  -- ---- the message of a record: an open one or the current one

  pub open_not_current : IsOpenEntry C l at first held →
      first.«record».record_kind ≡ record_kinds.Current → ⊥
  open_not_current is e = search (arith, current_none, standing_in)

pub open_again : (C : Table) (l : Answers) (octets : ℕ) (first : FirstRecord) (held : Held)
    (id : Option ℕ) (found : Option Message) →
    IsOpenEntry C l (octets + 1) first held → first.«record».record_kind ≡ open_kind id →
    Restores C octets first found → (is_some found ≡ true) ×
    IsSlot C l (open_entry_of_record first id found) held
open_again C l octets first held id found is opened again =
    let of = of_slot C l (octets + 1) first held is in
    let made = open_by C l octets first is.entry held.open_as.opener found is.kept.value.message
    held.kept is.kept.key id of opened is.ready again in
    (made.1.0, slot_again C l (octets + 1) first held id found is made.0 made.1.1)

module _ (C : Table) (l : Answers) (at : ℕ) (first : FirstRecord) (w : MessageKey)
    (xs : Option Kept) (id : Option ℕ) where
  standing_now : IsCurrentEntry C l at first w xs →
      record_kinds.Current ≡ first.«record».record_kind
  standing_now is = search (arith, standing_in)

  pub current_not_open : IsCurrentEntry C l at first w xs →
      first.«record».record_kind ≡ open_kind id → ⊥
  current_not_open is e = current_none (Some is.message) id (sym e ∙ sym (standing_now is))

  pub current_not_over : IsCurrentEntry C l at first w xs →
      first.«record».record_kind ≡ over_kind id → ⊥
  current_not_over is e = current_none None id (sym e ∙ sym (standing_now is))

-- ---- the open messages that were added

module _ (C : Table) (l : Answers) where
  pub added_one : (before after : Slots) (kept : OpenEntry) (held : Held) →
      after.slots.entries ≡ before.slots.entries ++ kept ∷ [] → IsSlot C l kept held →
      HasAdded C l before after (held ∷ [])
  added_one before after kept held put is = search (arith)

  added_none : (before after : Slots) → after.slots.entries ≡ before.slots.entries →
      HasAdded C l before after []
  added_none before after same = search (arith, append-nil)

  slots_join : (ks more : List OpenEntry) (hs others : List Held) → AreSlots C l ks hs →
      AreSlots C l more others →
      AreSlots C l (ks ++ more) (hs ++ others)
  slots_join [] more [] others are also = also
  slots_join [] more (h ∷ hs) others are also = absurd are
  slots_join (k ∷ ks) more [] others are also = absurd are
  slots_join (k ∷ ks) more (h ∷ hs) others are also =
      (are.0, slots_join ks more hs others are.1 also)

  added_more : (before mid after : Slots) (h : Held) (hs : List Held) →
      HasAdded C l before mid (h ∷ []) →
      HasAdded C l mid after hs → HasAdded C l before after (h ∷ hs)
  added_more before mid after h hs one more = search (arith, slots_join, append_assoc)

  added_long : (before mid : Slots) (h : Held) → HasAdded C l before mid (h ∷ []) →
      length mid.slots.entries ≡ length before.slots.entries + 1
  added_long before mid h one = search (arith, length-append, are_as_many)

-- ---- the first of the records that are left

-- the record that was read first is the record of this entry, and these are the octets after it
abbrev pub IsRead : (first : FirstRecord) (stored : StoredRecord) (rest : List ℕ) → Type 0
IsRead first e rest =
    (first.«record» ≡ e.record_is) × (first.message ≡ e.message) × (first.frames.now ≡ e.frames)
    × (first.rest.now ≡ rest)

-- the first record is the entry of an open message
pub record FrontOpen (C : Table) (l : Answers) (at count : ℕ) (first : FirstRecord)
    (held : List Held) (key : MessageKey) (xs : Option Kept)
    : Type 0 where
  pub here : Held
  pub others : List Held
  pub held_are : held ≡ here ∷ others
  pub is : IsOpenEntry C l at first here
  pub left : AreRecordsLeft C l at (count - 1) first.rest.now others key xs

-- the first record is the entry of the current message
pub record FrontOwn (C : Table) (l : Answers) (at count : ℕ) (first : FirstRecord)
    (held : List Held) (w : MessageKey) (xs : Option Kept)
    : Type 0 where
  pub no_held : held ≡ []
  pub is : IsCurrentEntry C l at first w xs
  pub last : count - 1 ≡ 0

module _ (C : Table) (l : Answers) (at count : ℕ) (octets : List ℕ) (w : MessageKey)
    (xs : Option Kept) where
  pub front_found : (held : List Held) → AreRecordsLeft C l at count octets held w xs →
      (count ≡ 0 → ⊥) →
      ((e : StoredRecord) (rest : List ℕ) → StoredRecordHasRange e → octets ≡ stored_record_octets e
      ++ rest → ⊥) → ⊥
  front_found held left some read =
      go left.entries left.are.count_is left.are.octets_are
      (entries_range left.kept left.current left.entries left.are.entries_are)
    where
      go : (es : List StoredRecord) → count ≡ length es → octets ≡ flat_map stored_record_octets es
          →
          Each StoredRecordHasRange es → ⊥
      go [] many spelled range = some many
      go (e ∷ es) many spelled range = search (arith, flat_map)

  none_by : (slots : Slots) → slots.owner ≡ owners.Open None → count ≡ 0 →
      (kept : List OpenEntry) (held : List Held)
      (current : Option Message) (entries : List StoredRecord) →
      AreEntriesOf C l at count octets kept held current w xs entries →
      HasAdded C l slots slots held × IsCurrentOwner C l slots.owner w xs
  none_by slots bare none [] [] None [] is = search (arith, added_none)
  none_by slots bare none [] [] None (e ∷ es) is = absurd is.entries_are
  none_by slots bare none [] [] (Some m) [] is = absurd is.entries_are
  none_by slots bare none [] [] (Some m) (e ∷ es) is = search (arith)
  none_by slots bare none [] (h ∷ hs) current es is = absurd is.slots_are
  none_by slots bare none (k ∷ ks) [] current es is = absurd is.slots_are
  none_by slots bare none (k ∷ ks) (h ∷ hs) current [] is = absurd is.entries_are
  none_by slots bare none (k ∷ ks) (h ∷ hs) current (e ∷ es) is = search (arith)

  pub all_none : (slots : Slots) (held : List Held) →
      AreRecordsLeft C l at count octets held w xs →
      count ≡ 0 → slots.owner ≡ owners.Open None → HasAdded C l slots slots held
      × IsCurrentOwner C l slots.owner w xs
  all_none slots held left none bare =
      none_by slots bare none left.kept held left.current left.entries left.are

  module _ (first : FirstRecord) (some : count ≡ 0 → ⊥)
      (read : (e : StoredRecord) (rest : List ℕ) → StoredRecordHasRange e → octets
      ≡ stored_record_octets e ++ rest →
      IsRead first e rest) where
    entry_read : (e : StoredRecord) (es : List StoredRecord) → StoredRecordHasRange e →
        octets ≡ flat_map stored_record_octets (e ∷ es) → IsEntry first e
    entry_read e es range spelled = search (arith, flat_map)

    front_own : (m : Message) (e : StoredRecord)
        (es : List StoredRecord) → AreEntriesOf C l at count octets [] [] (Some m) w xs (e ∷ es) →
        FrontOwn C l at count first [] w xs
    front_own m e es is = search (arith, entry_read)

    front_open : (k : OpenEntry) (ks : List OpenEntry) (h : Held) (hs : List Held)
        (current : Option Message) (e : StoredRecord) (es : List StoredRecord) →
        AreEntriesOf C l at count octets (k ∷ ks) (h ∷ hs) current w xs (e ∷ es) →
        FrontOpen C l at count first (h ∷ hs) w xs
    front_open k ks h hs current e es is = search (arith, entry_read, flat_map)

    front_by : (kept : List OpenEntry) (held : List Held) (current : Option Message)
        (entries : List StoredRecord) →
        AreEntriesOf C l at count octets kept held current w xs entries →
        FrontOpen C l at count first held w xs ⊎ FrontOwn C l at count first held w xs
    front_by [] [] None [] is = absurd (some is.count_is)
    front_by [] [] None (e ∷ es) is = absurd is.entries_are
    front_by [] [] (Some m) [] is = absurd is.entries_are
    front_by [] [] (Some m) (e ∷ es) is = inr (front_own m e es is)
    front_by [] (h ∷ hs) current es is = absurd is.slots_are
    front_by (k ∷ ks) [] current es is = absurd is.slots_are
    front_by (k ∷ ks) (h ∷ hs) current [] is = absurd is.entries_are
    front_by (k ∷ ks) (h ∷ hs) current (e ∷ es) is = search (arith, front_open)

    pub front_is : (held : List Held) → AreRecordsLeft C l at count octets held w xs →
        FrontOpen C l at count first held w xs ⊎ FrontOwn C l at count first held w xs
    front_is held left = search (arith, front_by)

-- ---- all records

false_not_true : false ≡ true → ⊥
false_not_true e = cc

-- all messages whose records were left are added
abbrev pub HasAddedAll : (C : Table) (answers : Answers) (result : Bool) (before after : Slots)
    (held : List Held) (key : MessageKey) (xs : Option Kept) → Type 0
HasAddedAll C l result before after held w xs =
    (result ≡ true) × HasAdded C l before after held × IsCurrentOwner C l after.owner w xs

-- the keys of messages that represent others are theirs
keys_same : (C : Table) (l : Answers) (ks : List OpenEntry) (hs : List Held) → AreSlots C l ks hs →
    without_key (λ slot. slot.key) ks ≡ without_key (λ slot. slot.open_as.key) hs
keys_same C l [] [] are = refl
keys_same C l [] (h ∷ hs) are = absurd are
keys_same C l (k ∷ ks) [] are = absurd are
keys_same C l (k ∷ ks) (h ∷ hs) are =
    omega (arith, ap lacks_key are.0.key, keys_same C l ks hs are.1)

-- if each message has a key, none without a key is found
position_by : (key : Option ℕ) (n more : ℕ) (rest : Option ℕ) → (more ≡ 0 → rest ≡ None) →
    lacks_key key + more ≡ 0 → cond (is_none key) (Some n) rest ≡ None
position_by None n more rest h e = absurd (omega (arith, e))
position_by (Some id) n more rest h e = h (omega (arith, e))

pub no_position : (slots : List OpenEntry) (n : ℕ) →
    without_key (λ slot. slot.key) slots ≡ 0 →
    position_from (λ slot. is_none slot.key) n slots ≡ None
no_position [] n e = refl
no_position (slot ∷ slots) n e =
    position_by slot.key n (without_key (λ slot. slot.key) slots) _ (no_position slots (n + 1)) e

pub keys_append : {A : Type 0} (key : A → Option ℕ) (xs ys : List A) →
    without_key key (xs ++ ys) ≡ without_key key xs + without_key key ys
keys_append key [] ys = omega arith
keys_append key (x ∷ xs) ys = omega (arith, keys_append key xs ys)

room_first : (s : Slots) (held : List Held) (h : Held) (hs : List Held) → HasRoomFor s held →
    held ≡ h ∷ hs → HasRoomFor s (h ∷ [])
room_first s held h hs room e =
    let here = subst (HasRoomFor s) e room in
    record { room = omega (arith, here.room); one = omega (arith, here.one) }

room_left : (C : Table) (l : Answers) (before mid : Slots) (held : List Held) (h : Held)
    (hs : List Held) → HasRoomFor before held → held ≡ h ∷ hs →
    mid.slots.most ≡ before.slots.most → HasAdded C l before mid (h ∷ []) → HasRoomFor mid hs
room_left C l before mid held h hs room e most added =
    let here = subst (HasRoomFor before) e room in
    let keys = ap (without_key (λ slot. slot.key)) added.put
    ∙ keys_append (λ slot. slot.key) before.slots.entries added.kept in
    record {
      room = omega (arith, here.room, most, added_long C l before mid h added);
      one = omega (arith, here.one, keys, keys_same C l added.kept (h ∷ []) added.are);
    }

module _ (C : Table) (l : Answers) (at count : ℕ) (w : MessageKey) (xs : Option Kept)
    (first : FirstRecord) (before mid : Slots) (added : Bool)
    (slot : (held : Held) → IsOpenEntry C l at first held → HasRoomFor before (held ∷ []) →
    (added ≡ true) × HasAdded C l before mid (held ∷ []) × (mid.owner ≡ before.owner))
    (current : IsCurrentEntry C l at first w xs →
    (added ≡ true) × (mid.slots ≡ before.slots) × IsCurrentOwner C l mid.owner w xs) where
  pub first_added : (held : List Held) →
      FrontOpen C l at count first held w xs ⊎ FrontOwn C l at count first held w xs →
      HasRoomFor before held →
      (added ≡ true) × HasAddedFirst C l at count before mid first.rest.now held w xs
  first_added held (inl f) room =
      let one = slot f.here f.is (room_first before held f.here f.others room f.held_are) in (
        one.0,
        inl (record {
          here = f.here;
          others = f.others;
          held_are = f.held_are;
          added = one.1;
          same_owner = one.2;
          left = f.left;
        }),
      )
  first_added held (inr f) room = search (arith)

module _ (C : Table) (l : Answers) (at count : ℕ) (w : MessageKey) (xs : Option Kept)
    (before mid after : Slots) (rest : List ℕ)
    (result : Bool)
    (same_most : mid.slots.most ≡ before.slots.most)
    (none : count - 1 ≡ 0 → (result ≡ true) × (after ≡ mid))
    (again : (hs : List Held) → AreRecordsLeft C l at (count - 1) rest hs w xs →
    HasRoomFor mid hs → mid.owner ≡ owners.Open None →
    HasAddedAll C l result mid after hs w xs) where
  all_again : (held : List Held) →
      HasAddedFirst C l at count before mid rest held w xs →
      HasRoomFor before held →
      before.owner ≡ owners.Open None → HasAddedAll C l result before after held w xs
  all_again held (inl f) room bare =
      let space = room_left C l before mid held f.here f.others room f.held_are same_most f.added in
      let more = again f.others f.left space (f.same_owner ∙ bare) in
      let all = added_more C l before mid after f.here f.others f.added more.1 in (
        more.0,
        subst (λ (hs : List Held). HasAdded C l before after hs) (sym f.held_are) all,
        more.2,
      )
  all_again held (inr f) room bare = search (arith, added_none)

-- Records were added up to `mid`, and `left` records remain, whose octets are `rest`. If a call
-- adds those, all records are added.
abbrev pub Completes : (C : Table) (answers : Answers) (at count : ℕ) (octets : List ℕ)
    (key : MessageKey)
    (xs : Option Kept) (before mid : Slots) (left : ℕ) (rest : List ℕ) → Type 0
Completes C l at count octets w xs before mid left rest =
    (result : Bool) (after : Slots) → (left ≡ 0 → (result ≡ true) × (after ≡ mid)) →
    ((hs : List Held) → AreRecordsLeft C l at left rest hs w xs →
    HasRoomFor mid hs → mid.owner ≡ owners.Open None →
    HasAddedAll C l result mid after hs w xs) →
    (held : List Held) → AreRecordsLeft C l at count octets held w xs →
    HasRoomFor before held →
    before.owner ≡ owners.Open None →
    HasAddedAll C l result before after held w xs

module _ (C : Table) (l : Answers) (at count : ℕ) (octets : List ℕ) (w : MessageKey)
    (xs : Option Kept) (before : Slots) where
  pub none_yet : Completes C l at count octets w xs before before count octets
  none_yet result after none again held left room bare = again held left room bare

  module _ (mid : Slots) (left : ℕ) (rest : List ℕ)
      (before_here : Completes C l at count octets w xs before mid left rest) where
    pub one_more : (next : Slots) (after_record : List ℕ) → (left ≡ 0 → ⊥) →
        next.slots.most ≡ mid.slots.most →
        ((hs : List Held) → AreRecordsLeft C l at left rest hs w xs →
        HasRoomFor mid hs → mid.owner ≡ owners.Open None →
        HasAddedFirst C l at left mid next after_record hs w xs) →
        Completes C l at count octets w xs before next (left - 1) after_record
    one_more next after_record some same_most first result after none again =
        before_here result after (λ z. absurd (some z))
        (λ hs are room bare.
        all_again C l at left w xs mid next after after_record result same_most none
        again hs (first hs are room bare) room bare)

    pub no_more : left ≡ 0 → (held : List Held) →
        AreRecordsLeft C l at count octets held w xs →
        HasRoomFor before held →
        before.owner ≡ owners.Open None → HasAddedAll C l true before mid held w xs
    no_more none =
        before_here true mid (λ z. (refl, refl))
        (λ hs are room bare. let made = all_none C l at left rest w xs mid hs are none bare in
        (refl, made.0, made.1))

    pub not_one : (left ≡ 0 → ⊥) → ((hs : List Held) →
        AreRecordsLeft C l at left rest hs w xs →
        HasRoomFor mid hs → mid.owner ≡ owners.Open None →
        ⊥) →
        (held : List Held) → AreRecordsLeft C l at count octets held w xs →
        HasRoomFor before held →
        before.owner ≡ owners.Open None → ⊥
    not_one some fails held are room bare =
        let all : HasAddedAll C l false before mid held w xs =
        before_here false mid (λ z. absurd (some z))
        (λ hs here space none. absurd (fails hs here space none)) held are room bare in
        false_not_true all.0

-- the records that are left after the first of `n` records
pub records_left : (n : ℕ) (xs : List ℕ) → (n ≡ 0 → ⊥) → AreRecords n xs →
    (first_record_length xs ≤ length xs) × AreRecords (n - 1) (drop (first_record_length xs) xs)
records_left zero xs some are = absurd (some refl)
records_left (suc n) xs some are = search (arith, drop)
