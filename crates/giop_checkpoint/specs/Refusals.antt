-- The checks of a checkpoint in their order, and the first one that fails. A lack of memory is none
-- of these checks (docs/FORMATS.md, Checkpoints; state).
use Rattle.std.specs.Prelude.{◌≡◌, ◌≤◌, ◌⊎◌, ℕ, true, List, length, take, drop}
use Rattle.giop_octets.specs.Fields.{four}
use Rattle.giop_checkpoint.specs.declared.sizes.TheConstants.{FIXED_SIZE}
use Rattle.giop_checkpoint.specs.declared.layout.Layout.{Layout}
use Rattle.giop_checkpoint.specs.declared.fault.LoadFault.{LoadFault}
use Rattle.giop_checkpoint.specs.declared.fault.LoadFault.TheVariants as faults
use Rattle.giop_checkpoint.specs.declared.fixed.Counts.{Counts}
use Rattle.giop_checkpoint.specs.declared.fixed.Fixed.{Fixed}
use Rattle.giop_checkpoint.specs.Layouts.{version_of, reads_layout}
use Rattle.giop_checkpoint.specs.Fixed.{HasRange, magic, counts_octets, state_octets}
use Rattle.giop_checkpoint.specs.Records.{AreRecords}

abbrev pub HasFixedPart : (checkpoint : List ℕ) → Type 0
HasFixedPart octets = FIXED_SIZE ≤ length octets

abbrev pub HasMagic : (checkpoint : List ℕ) → Type 0
HasMagic octets = take 8 octets ≡ magic

-- the version belongs to this layout
abbrev pub HasLayoutVersion : (checkpoint : List ℕ) (layout : Layout) → Type 0
HasLayoutVersion octets layout = take 4 (drop 8 octets) ≡ four (version_of layout)

-- the layout is one that is read with a signature file of this version
abbrev pub HasVersion : (signature_file_version : ℕ) (checkpoint : List ℕ) → Type 0
HasVersion version octets =
    (layout : Layout) × (reads_layout version layout ≡ true) × HasLayoutVersion octets layout

abbrev pub HasCounts : (counts : Counts) (checkpoint : List ℕ) → Type 0
HasCounts c octets = take 16 (drop 12 octets) ≡ counts_octets c

-- these are the checkpoint's fields after the counts, each in its range
pub record HasState (expected_counts : Counts) (fields : Fixed) (checkpoint : List ℕ) : Type 0 where
  pub layout : Layout
  pub read : reads_layout expected_counts.version layout ≡ true
  pub laid_out : HasLayoutVersion checkpoint layout
  pub counts : fields.counts ≡ expected_counts
  pub octets : take 68 (drop 28 checkpoint) ≡ state_octets layout fields
  pub range : HasRange layout fields

abbrev pub HasRecords : (fields : Fixed) (checkpoint : List ℕ) → Type 0
HasRecords f octets = AreRecords f.records (drop FIXED_SIZE octets)

-- all checks up to the counts pass
abbrev pub PassesUpToCounts : (counts : Counts) (checkpoint : List ℕ) → Type 0
PassesUpToCounts c octets = HasFixedPart octets × HasMagic octets × HasVersion c.version octets
    × HasCounts c octets

-- the first check that fails is one up to the counts
abbrev pub FailsUpToCounts : (counts : Counts) (checkpoint : List ℕ) (fault : LoadFault) → Type 0
FailsUpToCounts c octets faults.Length = HasFixedPart octets → ⊥
FailsUpToCounts c octets faults.Magic = HasFixedPart octets × (HasMagic octets → ⊥)
FailsUpToCounts c octets faults.Version =
    HasFixedPart octets × HasMagic octets × (HasVersion c.version octets → ⊥)
FailsUpToCounts c octets faults.Catalogue =
    HasFixedPart octets × HasMagic octets × HasVersion c.version octets × (HasCounts c octets → ⊥)
FailsUpToCounts c octets faults.State = ⊥
FailsUpToCounts c octets faults.OutOfMemory = ⊥

-- the first check after the counts that fails: a field is out of its range, or else the octets
-- after the fields aren't those of the records
abbrev pub FailsAfterCounts : (counts : Counts) (checkpoint : List ℕ) (fault : LoadFault) → Type 0
FailsAfterCounts c octets faults.Magic = ⊥
FailsAfterCounts c octets faults.Version = ⊥
FailsAfterCounts c octets faults.Catalogue = ⊥
FailsAfterCounts c octets faults.Length = (f : Fixed) × HasState c f octets
    × (HasRecords f octets → ⊥)
FailsAfterCounts c octets faults.State = (f : Fixed) → HasState c f octets → ⊥
FailsAfterCounts c octets faults.OutOfMemory = ⊥

-- the first check that fails
abbrev pub IsFirstFailure : (counts : Counts) (checkpoint : List ℕ) (fault : LoadFault) → Type 0
IsFirstFailure c octets why = FailsUpToCounts c octets why
    ⊎ (PassesUpToCounts c octets × FailsAfterCounts c octets why)

-- All checks pass, with these fields; the records' octets follow.
pub record PassesAllChecks (counts : Counts) (checkpoint : List ℕ) (fields : Fixed)
    (record_octets : List ℕ) : Type 0 where
  pub ours : PassesUpToCounts counts checkpoint
  pub state : HasState counts fields checkpoint
  pub rest : record_octets ≡ drop FIXED_SIZE checkpoint
  pub lengths : AreRecords fields.records record_octets
