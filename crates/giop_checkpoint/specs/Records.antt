-- The records of a checkpoint, octet for octet (docs/FORMATS.md, Checkpoints; state).
use Rattle.std.specs.Prelude.{◌≡◌, ℕ, zero, suc, ◌+◌, ◌*◌, ◌^◌, ◌<◌, ◌≤◌, List, [], ◌∷◌, ◌++◌, length, drop, get_or, replicate}
use Rattle.giop_octets.specs.Fields.{four, eight}
use Rattle.giop_checkpoint.specs.declared.sizes.TheConstants.{RECORD_SIZE, MESSAGE_SIZE, FRAME_SIZE, MOST_FRAMES}
use Rattle.giop_checkpoint.specs.declared.record.Record.{Record}
use Rattle.giop_checkpoint.specs.declared.record.RecordKind.{RecordKind}
use Rattle.giop_checkpoint.specs.declared.record.RecordKind.TheVariants.{Current, Open, Over, OpenWithoutId, OverWithoutId}

-- ---- ranges

abbrev pub RecordKindHasRange : (kind : RecordKind) → Type 0
RecordKindHasRange Current = Unit {0}
RecordKindHasRange (Open id) = id < 2 ^ 32
RecordKindHasRange (Over id) = id < 2 ^ 32
RecordKindHasRange OpenWithoutId = Unit {0}
RecordKindHasRange OverWithoutId = Unit {0}

-- the ranges that the types of the code give the fields of each record
pub record HasTypeRanges (record_fields : Record) : Type 0 where
  pub record_kind : RecordKindHasRange record_fields.record_kind
  pub number : record_fields.number < 2 ^ 64
  pub header : length record_fields.header ≡ 12

pub record RecordHasRange (record_fields : Record) : Type 0 where
  pub frames : record_fields.frames ≤ MOST_FRAMES
  pub typed : HasTypeRanges record_fields

-- ---- layout

abbrev pub record_kind_octet : (kind : RecordKind) → ℕ
record_kind_octet Current = 0
record_kind_octet (Open id) = 1
record_kind_octet (Over id) = 2
record_kind_octet OpenWithoutId = 3
record_kind_octet OverWithoutId = 4

abbrev pub request_id_or_0 : (kind : RecordKind) → ℕ
request_id_or_0 Current = 0
request_id_or_0 (Open id) = id
request_id_or_0 (Over id) = id
request_id_or_0 OpenWithoutId = 0
request_id_or_0 OverWithoutId = 0

-- the first two octets: how many frames the record has, and its kind
unfoldable pub kind_octets : (record_fields : Record) → List ℕ
kind_octets r = r.frames ∷ record_kind_octet r.record_kind ∷ []

-- a record's own octets
unfoldable pub own_octets : (record_fields : Record) → List ℕ
own_octets r = kind_octets r ++ eight r.number ++ r.header ++ four (request_id_or_0 r.record_kind)
    ++ replicate 6 0

-- A record with what is stored of its message: 224 octets, and its frames.
pub record StoredRecord : Type 0 where
  pub record_is : Record
  pub message : List ℕ
  pub frames : List ℕ

abbrev pub stored_record_octets : (stored : StoredRecord) → List ℕ
stored_record_octets e = own_octets e.record_is ++ e.message ++ e.frames

pub record StoredRecordHasRange (stored : StoredRecord) : Type 0 where
  pub own : RecordHasRange stored.record_is
  pub message : length stored.message ≡ MESSAGE_SIZE
  pub frames : length stored.frames ≡ FRAME_SIZE * stored.record_is.frames

-- ---- lengths

-- how many octets a record has; the first of its octets is its number of frames
abbrev pub first_record_length : (octets_of_records : List ℕ) → ℕ
first_record_length octets = RECORD_SIZE + FRAME_SIZE * get_or octets 0 0

-- the octets are this many records, each as long as its first octet says, and nothing follows them
abbrev pub AreRecords : (record_count : ℕ) (octets : List ℕ) → Type 0
AreRecords zero octets = octets ≡ []
AreRecords (suc count) octets =
    (first_record_length octets ≤ length octets) × AreRecords count
    (drop (first_record_length octets) octets)
