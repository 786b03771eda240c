-- In which fields the layouts of a checkpoint differ (docs/FORMATS.md, Checkpoints; state).
use Rattle.std.specs.Prelude.{◌≡◌, ℕ, ◌<◌, ◌≤◌, Bool, true, false, List, ◌∷◌, ◌++◌, replicate, Option, Some, None, nat_le, nat_lt, if◌then◌else◌}
use Rattle.giop_octets.specs.Fields.{four}
use Rattle.giop_checkpoint.specs.declared.sizes.TheConstants.{MOST_OPEN, LAYOUT_2_MOST_OPEN}
use Rattle.giop_checkpoint.specs.declared.layout.Layout.{Layout}
use Rattle.giop_checkpoint.specs.declared.layout.Layout.TheVariants.{Second, Third, Latest}

abbrev pub version_of : (layout : Layout) → ℕ
version_of Second = 2
version_of Third = 3
version_of Latest = 9

-- ---- the layout is chosen by the version of the signature file of a stream, 1 if there is none

-- the layout in which the checkpoints of the stream are written
abbrev pub layout_of : (signature_file_version : ℕ) → Layout
layout_of version = if nat_le 3 version then Latest else Third

-- Whether checkpoints in a layout are read. With a file of version 3, only those in the latest
-- layout are read; with other files, only those in the other layouts.
abbrev pub reads_layout : (signature_file_version : ℕ) (layout : Layout) → Bool
reads_layout version Latest = nat_le 3 version
reads_layout version layout = nat_lt version 3

-- ---- ranges

-- the range of the number of messages that may be open at once
abbrev pub OpenHasRange : (layout : Layout) (most_open_messages : ℕ) → Type 0
OpenHasRange Second count = count ≡ LAYOUT_2_MOST_OPEN
OpenHasRange layout count = (1 ≤ count) × (count ≤ MOST_OPEN)

-- the payload's record, if there is one, has a number below the number of records
abbrev pub IsAmongRecords : (record_count : ℕ) (owner_record : Option ℕ) → Type 0
IsAmongRecords records None = Unit {0}
IsAmongRecords records (Some owner) = owner < records

-- the layout has room for the number of the payload's record
abbrev pub OwnerFits : (layout : Layout) (owner_record : Option ℕ) → Type 0
OwnerFits Second owner = IsAmongRecords 255 owner
OwnerFits layout owner = Unit {0}

-- messages of GIOP 1.1 are mixed in the latest layout only
abbrev pub MixedFits : (layout : Layout) (is_mixed : Bool) → Type 0
MixedFits Latest is_mixed = Unit {0}
MixedFits layout is_mixed = is_mixed ≡ false

-- ---- octets

-- the number of the payload's record, or `nobody` if there is none
abbrev pub record_number_or : (number_of_nobody : ℕ) (owner_record : Option ℕ) → ℕ
record_number_or nobody None = nobody
record_number_or nobody (Some owner) = owner

-- the octet of the place that names the payload's record in layout 2
abbrev pub owner_octet : (layout : Layout) (owner_record : Option ℕ) → ℕ
owner_octet Second owner = record_number_or 255 owner
owner_octet layout owner = 0

-- the octet that tells in the latest layout whether messages of GIOP 1.1 are mixed
abbrev pub mixed_octet : (layout : Layout) (is_mixed : Bool) → ℕ
mixed_octet Latest true = 1
mixed_octet layout is_mixed = 0

-- the octets after the place, in layout 3 and later: how many messages may be open at once, the
-- payload's record, and whether messages of GIOP 1.1 are mixed
abbrev pub limit_octets : (layout : Layout) (most_open_messages : ℕ) (owner_record : Option ℕ)
    (is_mixed : Bool) → List ℕ
limit_octets Second count owner is_mixed = replicate 16 0
limit_octets layout count owner is_mixed =
    four count ++ four (record_number_or 4294967295 owner) ++ mixed_octet layout is_mixed
    ∷ replicate 7 0
