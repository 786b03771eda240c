-- The octets of a checkpoint: the fields of an engine that they store, and the streams that they
-- are the checkpoint of (docs/FORMATS.md, Checkpoints; state).
use Rattle.std.specs.Prelude.{◌≡◌, ◌≤◌, ◌⊎◌, ◌&&◌, ℕ, ◌+◌, ◌-◌, ◌*◌, List, [], ◌∷◌, ◌++◌, length, flat_map, replicate, nat_lt, Option, Some, None, Result, Ok, Err, IfOk, if◌then◌else◌, true}
use Rattle.giop_cdr.specs.Numbers.{AreOctets}
use Rattle.giop_print.specs.declared.sink.OutFault.{OutFault}
use Rattle.giop_print.specs.Output.{OutLog, Writes}
use Rattle.giop_sig.specs.HeaderTypes.{IsTable}
use Rattle.giop_sig.specs.Table.{Table}
use Rattle.giop_sig.specs.Trees.{catalogue_depth}
use Rattle.giop_message.specs.declared.message.Message.{Message}
use Rattle.giop_message.specs.MessageState.{Fits}
use Rattle.giop_message.specs.Headers.{size}
use Rattle.giop_stream.specs.Rules.{joins_by, rules}
use Rattle.giop_message.specs.Signatures.{RequestTable, by_list}
use Rattle.giop_checkpoint.specs.declared.sizes.TheConstants.{FIXED_SIZE, RECORD_SIZE, MESSAGE_SIZE, FRAME_SIZE}
use Rattle.giop_checkpoint.specs.declared.layout.Layout.{Layout}
use Rattle.giop_checkpoint.specs.declared.fault.StreamFault.{StreamFault}
use Rattle.giop_checkpoint.specs.declared.fault.LoadFault.{LoadFault}
use Rattle.giop_checkpoint.specs.declared.fault.LoadFault.TheVariants as refusals
use Rattle.giop_checkpoint.specs.declared.fixed.Counts.{Counts}
use Rattle.giop_checkpoint.specs.declared.fixed.Fixed.{Fixed}
use Rattle.giop_checkpoint.specs.declared.fixed.NextOctet.{NextOctet}
use Rattle.giop_checkpoint.specs.declared.fixed.NextOctet.TheVariants.{Header, Payload, Stopped}
use Rattle.giop_checkpoint.specs.declared.record.RecordKind.{RecordKind}
use Rattle.giop_checkpoint.specs.declared.record.RecordKind.TheVariants as record_kinds
use Rattle.giop_checkpoint.specs.Layouts.{OpenHasRange, layout_of, reads_layout}
use Rattle.giop_checkpoint.specs.Fixed.{fixed_octets}
use Rattle.giop_checkpoint.specs.Records.{StoredRecord, StoredRecordHasRange, stored_record_octets}
use Rattle.giop_checkpoint.specs.Refusals.{HasState, HasRecords, PassesUpToCounts, FailsUpToCounts, FailsAfterCounts, IsFirstFailure}
use Rattle.giop_message.specs.Stored.{Stored}
use Rattle.giop_stream.specs.SlotsRepresent.{OpenEntry, index_of, current_of}
use Rattle.giop_stream.specs.declared.fault.Stop.{Stop}
use Rattle.giop_stream.specs.EngineHolds.{StopWrites}
use Rattle.giop_stream.specs.SlotsRepresent.{AreReady}
use Rattle.giop_stream.specs.EngineView.{FramingView}
use Rattle.giop_stream.specs.EngineState.{state_of}
use Rattle.giop_stream.specs.ViewOfState.{Shows}

-- ---- the fixed part

-- the version of the signature file that an engine reads by, and the numbers of types, operations,
-- exceptions and requests
unfoldable pub counts_of : (C : Table) (request_table : RequestTable) → Counts
counts_of C l = record {
  version = C.version;
  types = C.declared;
  operations = C.called;
  exceptions =
      length C.exceptions;
  ids = length l;
}

-- the place of the next octet: after a stream fault; in a header, if fewer than 12 octets are held;
-- or in a payload
abbrev pub place_of : (stop_fault : Option StreamFault) (header_octets_held : List ℕ)
    (payload_octets_read : ℕ) → NextOctet
place_of (Some fault) header payload_count = Stopped fault
place_of None header payload_count =
    if nat_lt (length header) 12 then Header (record { items = header }) else Payload header
    (size header - payload_count)

-- the index of the record of the message that the payload belongs to: an open message at this
-- index, or the current one, whose record comes after those of the open ones
abbrev pub owner_record_index : (open_index : Option ℕ) (current_message : Option Message)
    (open_count : ℕ) → Option ℕ
owner_record_index (Some index) message many = if nat_lt index many then Some index else None
owner_record_index None None many = None
owner_record_index None (Some m) many = Some many

-- how many records the current message has: one, if there is such a message
abbrev pub count_current : (current_message : Option Message) → ℕ
count_current None = 0
count_current (Some m) = 1

unfoldable pub fixed_of : (C : Table) (request_table : RequestTable) (fields : FramingView) → Fixed
fixed_of C l m = record {
  counts = counts_of C l;
  most_open = m.slots.slots.most;
  records = length m.slots.slots.entries + count_current (current_of m.slots.owner);
  octets = m.totals.octets;
  messages = m.totals.messages;
  faults = m.totals.faults;
  place = place_of m.stopped m.header m.payload_count;
  owner = owner_record_index (index_of m.slots.owner) (current_of m.slots.owner)
      (length m.slots.slots.entries);
  is_mixed = m.slots.is_mixed && joins_by C;
}

-- ---- the records

-- of an open message with this key, and of one that is over
abbrev pub open_kind : (request_id : Option ℕ) → RecordKind
open_kind None = record_kinds.OpenWithoutId
open_kind (Some id) = record_kinds.Open id

abbrev pub over_kind : (request_id : Option ℕ) → RecordKind
over_kind None = record_kinds.OverWithoutId
over_kind (Some id) = record_kinds.Over id

-- the kind of an open message's record, by whether the message is over, and its request id
abbrev pub open_record_kind : (message_unless_over : Option Message) (key : Option ℕ) → RecordKind
open_record_kind None key = over_kind key
open_record_kind (Some m) key = open_kind key

-- the entry stores a message that isn't over; if the message fits the types of a catalogue, it has
-- at most as many frames as the catalogue's depth
pub record StoresMessage (message : Message) (stored_record : StoredRecord) : Type 0 where
  pub stored : Stored message stored_record.message stored_record.frames
  pub shallow : (C : Table) → IsTable C → Fits C message → stored_record.record_is.frames ≤
      catalogue_depth C

-- what an entry stores of a message; zeros if the message is over
abbrev pub StoresOrZeros : (message : Option Message) (stored : StoredRecord) → Type 0
StoresOrZeros None e = (e.message ≡ replicate MESSAGE_SIZE 0) × (e.frames ≡ [])
StoresOrZeros (Some m) e = StoresMessage m e

-- the record of an open message
pub record IsOpen (slot : OpenEntry) (stored : StoredRecord) : Type 0 where
  pub range : StoredRecordHasRange stored
  pub record_kind : stored.record_is.record_kind ≡ open_record_kind slot.value.message slot.key
  pub number : stored.record_is.number ≡ slot.value.number
  pub header : stored.record_is.header ≡ slot.value.header
  pub message : StoresOrZeros slot.value.message stored

-- the record of a message that isn't over
pub record IsMessageRecord (record_kind : RecordKind) (number : ℕ) (header : List ℕ) (m : Message)
    (stored : StoredRecord) : Type 0 where
  pub range : StoredRecordHasRange stored
  pub standing_is : stored.record_is.record_kind ≡ record_kind
  pub number_is : stored.record_is.number ≡ number
  pub header_is : stored.record_is.header ≡ header
  pub message : StoresMessage m stored

-- the record of the current message, if it isn't open
abbrev pub IsCurrent : (message : Message) (stored : StoredRecord) → Type 0
IsCurrent m e = IsMessageRecord record_kinds.Current m.number m.header m e

-- the entries that are left: only that of the current message, or none if there is no such message
abbrev pub AreLastEntries : (current_message : Option Message) (entries : List StoredRecord) →
    Type 0
AreLastEntries None [] = Unit {0}
AreLastEntries None (e ∷ es) = ⊥
AreLastEntries (Some m) [] = ⊥
AreLastEntries (Some m) (e ∷ es) = IsCurrent m e × (es ≡ [])

-- the entries are those of the open messages in their order, and then the entry of the current one
abbrev pub AreEntries : (slots : List OpenEntry) (current : Option Message)
    (entries : List StoredRecord) →
    Type 0
AreEntries [] current entries = AreLastEntries current entries
AreEntries (slot ∷ slots) current [] = ⊥
AreEntries (slot ∷ slots) current (e ∷ entries) = IsOpen slot e × AreEntries slots current entries

-- ---- what a call writes after these octets: an entry that has this property, or several entries

pub record IsPutOne (octets_before octets_after : List ℕ) (Is : StoredRecord → Type 0)
    : Type 0 where
  pub entry : StoredRecord
  pub is : Is entry
  pub put : octets_after ≡ octets_before ++ stored_record_octets entry

pub record IsPut (octets_before octets_after : List ℕ) (Are : List StoredRecord → Type 0)
    : Type 0 where
  pub entries : List StoredRecord
  pub are : Are entries
  pub put : octets_after ≡ octets_before ++ flat_map stored_record_octets entries

abbrev pub AreOpen : (slots : List OpenEntry) (entries : List StoredRecord) → Type 0
AreOpen slots entries = AreEntries slots None entries

-- ---- what a call puts: all of these octets, and its result is how many they are; or, if a put
-- failed, a front of them

pub record Puts (result : Result ℕ OutFault) (before after : OutLog) (octets : List ℕ)
    : Type 0 where
  pub written : Writes result before after octets
  pub count : IfOk result (λ n. n ≡ length octets)

-- octets that have this property
pub record PutsSuch (result : Result ℕ OutFault) (before after : OutLog)
    (Is : List ℕ → Type 0) : Type 0 where
  pub octets : List ℕ
  pub is : Is octets
  pub puts : Puts result before after octets

-- ---- a checkpoint

unfoldable pub checkpoint_octets : (layout : Layout) (C : Table) (request_table : RequestTable)
    (fields : FramingView) (entries : List StoredRecord) → List ℕ
checkpoint_octets layout C l m entries =
    fixed_octets layout (fixed_of C l m) ++ flat_map stored_record_octets entries

-- the octets are the checkpoint of an engine with these fields, in this layout
pub record IsPutWhole (layout : Layout) (C : Table) (request_table : RequestTable)
    (fields : FramingView)
    (octets : List ℕ)
    : Type 0 where
  pub entries : List StoredRecord
  pub are : AreEntries fields.slots.slots.entries (current_of fields.slots.owner) entries
  pub put : octets ≡ checkpoint_octets layout C request_table fields entries

-- These octets are the checkpoint of an engine that holds the stream, by this table and this
-- list, and that allows this number of open messages. In layout 2 that number is 16; the other
-- layouts store it.
pub record Spells (octets : List ℕ) (C : Table) (request_table : RequestTable)
    (most_open_messages : ℕ) (held_stream : List ℕ) : Type 0 where
  pub layout : Layout
  pub is_read : reads_layout C.version layout ≡ true
  pub memory : FramingView
  pub entries : List StoredRecord
  pub octets_are : octets ≡ checkpoint_octets layout C request_table memory entries
  pub allows : OpenHasRange layout most_open_messages
  pub limit : memory.slots.slots.most ≡ most_open_messages
  pub entries_are : AreEntries memory.slots.slots.entries (current_of memory.slots.owner) entries
  pub stream : AreOctets held_stream
  pub shows : Shows C (by_list request_table) memory
      (state_of (rules C request_table most_open_messages) held_stream)
  pub ready : AreReady C (memory.totals.octets + 1) memory.slots

-- the size of the greatest checkpoint, for this number of open messages and a catalogue of this
-- depth
unfoldable pub checkpoint_limit : (most_open_messages depth_of_catalogue : ℕ) → ℕ
checkpoint_limit most depth = FIXED_SIZE + (most + 1) * (RECORD_SIZE + FRAME_SIZE * depth)

-- how many octets records have, with their frames
abbrev pub entries_size : (entries : List StoredRecord) → ℕ
entries_size [] = 0
entries_size (e ∷ es) = (RECORD_SIZE + FRAME_SIZE * e.record_is.frames) + entries_size es

-- What a save did: a checkpoint of the stream was written in the layout of the table's version,
-- with the fixed part and each record with its frames, and the result is its length. If a put
-- failed, a front of it was written.
pub record Saves (result : Result ℕ Stop) (before after : OutLog) (C : Table)
    (request_table : RequestTable) (most_open_messages : ℕ) (stream : List ℕ) : Type 0 where
  pub octets : List ℕ
  pub spells : Spells octets C request_table most_open_messages stream
  pub layout : spells.layout ≡ layout_of C.version
  pub written : StopWrites result before after octets
  pub count : IfOk result (λ n. n ≡ length octets)
  pub size : length octets ≡ FIXED_SIZE + entries_size spells.entries
  pub within : length octets ≤ checkpoint_limit most_open_messages (catalogue_depth C)

-- ---- octets that are refused

-- The octets pass the checks up to the check of the records' lengths. After that, only a field of a
-- record may be wrong, or the totals may be such that no stream has them.
abbrev pub PassesLengths : (counts : Counts) (checkpoint : List ℕ) → Type 0
PassesLengths c octets = (f : Fixed) × HasState c f octets × HasRecords f octets

-- the fields in these octets allow this number of open messages
abbrev pub Allows : (counts : Counts) (checkpoint : List ℕ) (most_open_messages : ℕ) → Type 0
Allows c octets count = (f : Fixed) × HasState c f octets × (f.most_open ≡ count)

-- the first check that fails; or, after the check of the lengths, that there is no memory for the
-- open messages
abbrev pub IsRefused : (counts : Counts) (checkpoint : List ℕ) (fault : LoadFault) → Type 0
IsRefused c octets refusals.Magic = FailsUpToCounts c octets refusals.Magic
IsRefused c octets refusals.Version = FailsUpToCounts c octets refusals.Version
IsRefused c octets refusals.Catalogue = FailsUpToCounts c octets refusals.Catalogue
IsRefused c octets refusals.Length = IsFirstFailure c octets refusals.Length
IsRefused c octets refusals.OutOfMemory = PassesUpToCounts c octets × PassesLengths c octets
IsRefused c octets refusals.State =
    PassesUpToCounts c octets × (FailsAfterCounts c octets refusals.State ⊎ PassesLengths c octets)

-- what was loaded has this property, unless there wasn't enough memory
abbrev pub OrNoMemory : {A : Type 0} (result : Result A LoadFault) (Holds : A → Type 0) → Type 0
OrNoMemory (Ok x) Holds = Holds x
OrNoMemory (Err why) Holds = why ≡ refusals.OutOfMemory
