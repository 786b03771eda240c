-- The fields of an engine that the parts of a checkpoint give, and what is known of its records
-- while they are read (state).
use Rattle.std.specs.Prelude.{◌≡◌, ◌≤◌, ◌⊎◌, ℕ, ◌+◌, ◌-◌, List, [], ◌∷◌, ◌++◌, length, flat_map, Option, Some, None, nat_lt, true, if◌then◌else◌}
use Rattle.std.specs.List.{AllByRecursion as Each}
use Rattle.giop_sig.specs.Table.{Table}
use Rattle.giop_message.specs.Headers.{size}
use Rattle.giop_message.specs.Phases.{Phase, unbroken}
use Rattle.giop_message.specs.Signatures.{Answers}
use Rattle.giop_message.specs.declared.message.Message.{Message}
use Rattle.giop_checkpoint.specs.declared.fault.StreamFault.{StreamFault}
use Rattle.giop_checkpoint.specs.declared.fixed.NextOctet.{NextOctet}
use Rattle.giop_checkpoint.specs.declared.fixed.NextOctet.TheVariants.{Header, Payload, Stopped}
use Rattle.giop_checkpoint.specs.declared.record.FirstRecord.{FirstRecord}
use Rattle.giop_checkpoint.specs.declared.record.RecordKind.TheVariants as record_kinds
use Rattle.giop_checkpoint.specs.Records.{StoredRecord, stored_record_octets}
use Rattle.giop_stream.specs.declared.slots.Slots.{Slots}
use Rattle.giop_stream.specs.declared.slots.PayloadOwner.{PayloadOwner}
use Rattle.giop_stream.specs.declared.slots.PayloadOwner.TheVariants.{Open}
use Rattle.giop_stream.specs.Rules.{joins_by}
use Rattle.giop_stream.specs.Events.{MessageKey}
use Rattle.giop_stream.specs.Lines.{Kept}
use Rattle.giop_stream.specs.OpenSlots.{Slot as Held}
use Rattle.giop_stream.specs.SlotsRepresent.{OpenEntry, open_entry, RepresentsMessage, IsReady, IsSlot, AreSlots, index_of, current_of}
use Rattle.giop_stream.specs.Checkpoint.{IsOpen, IsCurrent, AreEntries}

-- ---- the fixed part

abbrev pub stop_in : (next_octet : NextOctet) → Option StreamFault
stop_in (Header held) = None
stop_in (Payload header left) = None
stop_in (Stopped fault) = Some fault

-- the header octets that were read until now
abbrev pub header_in : (next_octet : NextOctet) → List ℕ
header_in (Header held) = held.items
header_in (Payload header left) = header
header_in (Stopped fault) = []

-- how many payload octets were read
abbrev pub payload_count_in : (next_octet : NextOctet) → ℕ
payload_count_in (Header held) = 0
payload_count_in (Payload header left) = size header - left
payload_count_in (Stopped fault) = 0

-- the owner of the payload: the message of this record, if it is an open one; else the current
-- message, which was loaded before
abbrev pub owner_by : (owner_record : Option ℕ) (open_count : ℕ) (current_owner : PayloadOwner) →
    PayloadOwner
owner_by None many current = current
owner_by (Some index) many current = if nat_lt index many then Open (Some index) else current

-- The owner is the current message, which represents these octets of this message, or there is
-- none.
abbrev pub IsCurrentOwner : (C : Table) (answers : Answers) (payload_owner : PayloadOwner)
    (key : MessageKey) (known : Option Kept) → Type 0
IsCurrentOwner C l of w known = (index_of of ≡ None) × RepresentsMessage C l (current_of of) w known

-- ---- what a message may be that is read again

-- no Fragment of 1.1 was joined to the message
abbrev pub IsUnbroken : (kept : Option Kept) → Type 0
IsUnbroken None = Unit {0}
IsUnbroken (Some kept) = kept.phase ≡ unbroken

-- only where Fragments of 1.1 are joined, a message is open without a key; they are joined to no
-- other message
abbrev pub MayBeOpen : (C : Table) (key : Option ℕ) (known : Option Kept) → Type 0
MayBeOpen C None known = joins_by C ≡ true
MayBeOpen C (Some id) known = IsUnbroken known

-- how many of these have no key
abbrev pub lacks_key : (key : Option ℕ) → ℕ
lacks_key None = 1
lacks_key (Some id) = 0

abbrev pub without_key : {A : Type 0} (key : A → Option ℕ) (list : List A) → ℕ
without_key key [] = 0
without_key key (x ∷ xs) = lacks_key (key x) + without_key key xs

-- There is room for these open messages, and with them at most one has no key.
pub record HasRoomFor (slots : Slots) (open_messages : List Held) : Type 0 where
  pub room : length slots.slots.entries + length open_messages ≤ slots.slots.most
  pub one : without_key (λ slot. slot.key) slots.slots.entries
      + without_key (λ slot. slot.open_as.key) open_messages ≤ 1

-- ---- a record

-- a record that was read is this entry
pub record IsEntry (first : FirstRecord) (stored : StoredRecord) : Type 0 where
  pub record_read : first.«record» ≡ stored.record_is
  pub message : first.message ≡ stored.message
  pub frames : first.frames.now ≡ stored.frames

-- the record may be that of a message by which padding is counted so: Fragments of 1.1 are joined
-- only to an open message without a key
abbrev pub MayHaveSeams : (first : FirstRecord) (phase : Phase) → Type 0
MayHaveSeams first phase =
    (first.«record».record_kind ≡ record_kinds.OpenWithoutId) ⊎ (phase ≡ unbroken)

-- the open message that a record gives
abbrev pub open_entry_of_record : (first : FirstRecord) (key : Option ℕ)
    (message : Option Message) → OpenEntry
open_entry_of_record first key message =
    open_entry key first.«record».number first.«record».header message

-- The record is the entry of an open message with these octets.
pub record IsOpenEntry (C : Table) (answers : Answers) (place_in_stream_from_1 : ℕ)
    (first : FirstRecord) (held : Held) : Type 0 where
  pub kept : OpenEntry
  pub entry : StoredRecord
  pub entry_is : IsOpen kept entry
  pub read : IsEntry first entry
  pub slot_is : IsSlot C answers kept held
  pub may : MayBeOpen C held.open_as.key held.kept
  pub ready : IsReady C place_in_stream_from_1 kept.value.message

-- The record is the entry of the current message with these octets.
pub record IsCurrentEntry (C : Table) (answers : Answers) (place_in_stream_from_1 : ℕ)
    (first : FirstRecord) (key : MessageKey) (known : Option Kept) : Type 0 where
  pub message : Message
  pub entry : StoredRecord
  pub entry_is : IsCurrent message entry
  pub read : IsEntry first entry
  pub represents : RepresentsMessage C answers (Some message) key known
  pub whole : IsUnbroken known
  pub ready : IsReady C place_in_stream_from_1 (Some message)

-- ---- the records that are left

-- These octets are this number of entries, of these open messages and this current one.
pub record AreEntriesOf (C : Table) (answers : Answers) (place_in_stream_from_1 record_count : ℕ)
    (octets : List ℕ) (kept : List OpenEntry) (held : List Held) (current : Option Message)
    (key : MessageKey) (known : Option Kept) (entries : List StoredRecord) : Type 0 where
  pub entries_are : AreEntries kept current entries
  pub count_is : record_count ≡ length entries
  pub octets_are : octets ≡ flat_map stored_record_octets entries
  pub slots_are : AreSlots C answers kept held
  pub each_may : Each (λ slot. MayBeOpen C slot.open_as.key slot.kept) held
  pub current_is : RepresentsMessage C answers current key known
  pub unbroken : IsUnbroken known
  pub each_ready : Each (λ slot. IsReady C place_in_stream_from_1 slot.value.message) kept
  pub current_ready : IsReady C place_in_stream_from_1 current

-- These octets are entries of open messages that represent these, and of a current one.
pub record AreRecordsLeft (C : Table) (answers : Answers) (place_in_stream_from_1 record_count : ℕ)
    (octets : List ℕ) (held : List Held) (key : MessageKey) (known : Option Kept) : Type 0 where
  pub kept : List OpenEntry
  pub current : Option Message
  pub entries : List StoredRecord
  pub are : AreEntriesOf C answers place_in_stream_from_1 record_count octets kept held current key
      known entries

-- These open messages were added.
pub record HasAdded (C : Table) (answers : Answers) (before after : Slots) (held : List Held)
    : Type 0 where
  pub kept : List OpenEntry
  pub are : AreSlots C answers kept held
  pub put : after.slots.entries ≡ before.slots.entries ++ kept

-- The first of this number of records was added. It is the record of an open message, and
-- `record_octets_left` are the others.
pub record HasAddedOpen (C : Table) (answers : Answers) (place_in_stream_from_1 record_count : ℕ)
    (before after : Slots) (record_octets_left : List ℕ) (held : List Held) (key : MessageKey)
    (known : Option Kept) : Type 0 where
  pub here : Held
  pub others : List Held
  pub held_are : held ≡ here ∷ others
  pub added : HasAdded C answers before after (here ∷ [])
  pub same_owner : after.owner ≡ before.owner
  pub left : AreRecordsLeft C answers place_in_stream_from_1 (record_count - 1) record_octets_left
      others key known

-- The first record was added. It is the record of the current message, which is the last one.
pub record HasAddedOwn (C : Table) (answers : Answers) (record_count : ℕ) (before after : Slots)
    (held : List Held) (key : MessageKey) (known : Option Kept) : Type 0 where
  pub no_held : held ≡ []
  pub same : after.slots ≡ before.slots
  pub is : IsCurrentOwner C answers after.owner key known
  pub last : record_count - 1 ≡ 0

-- The first record was added: the record of an open message, or the record of the current one.
abbrev pub HasAddedFirst : (C : Table) (answers : Answers) (place_in_stream_from_1 record_count : ℕ)
    (before after : Slots) (record_octets_left : List ℕ) (held : List Held) (key : MessageKey)
    (known : Option Kept) → Type 0
HasAddedFirst C l at count before after rest held w known =
    HasAddedOpen C l at count before after rest held w known
    ⊎ HasAddedOwn C l count before after held w known
