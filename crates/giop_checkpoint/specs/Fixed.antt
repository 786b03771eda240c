-- The fixed part of a checkpoint, octet for octet (docs/FORMATS.md, Checkpoints; state).
use Rattle.std.specs.Prelude.{◌≡◌, ℕ, ◌+◌, ◌-◌, ◌^◌, ◌<◌, ◌≤◌, List, [], ◌∷◌, ◌++◌, length, replicate, codes}
use Rattle.giop_octets.specs.Fields.{four, eight}
use Rattle.giop_checkpoint.specs.Layouts.{version_of, OpenHasRange, IsAmongRecords, MixedFits, owner_octet, limit_octets}
use Rattle.giop_checkpoint.specs.declared.layout.Layout.{Layout}
use Rattle.giop_checkpoint.specs.declared.fault.StreamFault.{StreamFault}
use Rattle.giop_checkpoint.specs.declared.fault.StreamFault.TheVariants as faults
use Rattle.giop_checkpoint.specs.declared.fixed.Counts.{Counts}
use Rattle.giop_checkpoint.specs.declared.fixed.Fixed.{Fixed}
use Rattle.giop_checkpoint.specs.declared.fixed.NextOctet.{NextOctet}
use Rattle.giop_checkpoint.specs.declared.fixed.NextOctet.TheVariants.{Header, Payload, Stopped}

-- ---- ranges

abbrev pub PlaceHasRange : (next_octet : NextOctet) → Type 0
PlaceHasRange (Header held) = length held.items ≤ 11
PlaceHasRange (Payload header left) = (length header ≡ 12) × (left < 2 ^ 32)
PlaceHasRange (Stopped fault) = Unit {0}

-- the ranges of the fields after the counts
pub record HasRange (layout : Layout) (fields : Fixed) : Type 0 where
  pub most_open : OpenHasRange layout fields.most_open
  pub records : fields.records ≤ fields.most_open + 1
  pub octets : fields.octets ≤ 2 ^ 48 + 1
  pub messages : fields.messages ≤ 2 ^ 45
  pub faults : fields.faults ≤ 2 ^ 45 + 1
  pub place : PlaceHasRange fields.place
  pub owner : IsAmongRecords fields.records fields.owner
  pub mixed : MixedFits layout fields.is_mixed

-- ---- layout

unfoldable pub magic : List ℕ
magic = codes "GIOPDUMP"

unfoldable pub counts_octets : (counts : Counts) → List ℕ
counts_octets c = four c.types ++ four c.operations ++ four c.exceptions ++ four c.ids

abbrev pub fault_octet : (fault : StreamFault) → ℕ
fault_octet faults.Magic = 1
fault_octet faults.Version = 2
fault_octet faults.ByteOrder = 3
fault_octet faults.StreamLimit = 5

-- Four octets: the place, the stream fault's number, how many header octets are held, and, in
-- layout 2, the payload's record. After them come the header octets, and how many payload octets
-- are still to come.
abbrev pub place_octets : (next_octet : NextOctet) (layout_2_owner_octet : ℕ) → List ℕ
place_octets (Header held) owner =
    (0 ∷ 0 ∷ length held.items ∷ owner ∷ []) ++ held.items ++ replicate (12 - length held.items) 0
    ++ eight 0
place_octets (Payload header left) owner = (1 ∷ 0 ∷ 0 ∷ owner ∷ []) ++ header ++ eight left
place_octets (Stopped fault) owner = (2 ∷ fault_octet fault ∷ 0 ∷ owner ∷ []) ++ replicate 12 0
    ++ eight 0

-- The fields of these octets, one by one.
abbrev pub place_octet : (next_octet : NextOctet) → ℕ
place_octet (Header held) = 0
place_octet (Payload header left) = 1
place_octet (Stopped fault) = 2

abbrev pub place_fault_octet : (next_octet : NextOctet) → ℕ
place_fault_octet (Header held) = 0
place_fault_octet (Payload header left) = 0
place_fault_octet (Stopped fault) = fault_octet fault

abbrev pub place_held_count : (next_octet : NextOctet) → ℕ
place_held_count (Header held) = length held.items
place_held_count (Payload header left) = 0
place_held_count (Stopped fault) = 0

abbrev pub place_header_octets : (next_octet : NextOctet) → List ℕ
place_header_octets (Header held) = held.items ++ replicate (12 - length held.items) 0
place_header_octets (Payload header left) = header
place_header_octets (Stopped fault) = replicate 12 0

abbrev pub place_octets_left : (next_octet : NextOctet) → ℕ
place_octets_left (Header held) = 0
place_octets_left (Payload header left) = left
place_octets_left (Stopped fault) = 0

-- the octets after the counts
unfoldable pub state_octets : (layout : Layout) (fields : Fixed) → List ℕ
state_octets layout f =
    four f.records ++ eight f.octets ++ eight f.messages ++ eight f.faults
    ++ place_octets f.place (owner_octet layout f.owner)
    ++ limit_octets layout f.most_open f.owner f.is_mixed

unfoldable pub fixed_octets : (layout : Layout) (fields : Fixed) → List ℕ
fixed_octets layout f =
    magic ++ four (version_of layout) ++ counts_octets f.counts ++ state_octets layout f
