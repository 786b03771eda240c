-- A checkpoint is a fixed part, followed by complete records; and why other octets are refused.
use Rattle.std.proofs.Common.{◌≤◌, ◌≡◌, ℕ, true, get_or, List, [], ◌∷◌, ◌++◌, length, flat_map, arith, inl, inr, refl, sym, ◌∙◌}
use Rattle.std.specs.List.{AllByRecursion as Each}
use Rattle.std.proofs.lemmas.List.{drop_at, length-append}
use Rattle.giop_sig.specs.Table.{Table}
use Rattle.giop_message.specs.Signatures.{RequestTable}
use Rattle.giop_checkpoint.specs.declared.fault.LoadFault.{LoadFault}
use Rattle.giop_checkpoint.specs.declared.fault.LoadFault.TheVariants as refusals
use Rattle.giop_checkpoint.specs.declared.fixed.Counts.{Counts}
use Rattle.giop_checkpoint.specs.declared.fixed.Fixed.{Fixed}
use Rattle.giop_checkpoint.specs.declared.layout.Layout.{Layout}
use Rattle.giop_checkpoint.specs.declared.layout.Layout.TheVariants.{Second, Third, Latest}
use Rattle.giop_checkpoint.specs.Layouts.{OpenHasRange, reads_layout}
use Rattle.giop_checkpoint.specs.Fixed.{HasRange, fixed_octets}
use Rattle.giop_checkpoint.specs.Records.{StoredRecord, StoredRecordHasRange, AreRecords, kind_octets, own_octets, stored_record_octets}
use Rattle.giop_checkpoint.specs.Refusals.{IsFirstFailure, PassesAllChecks}
use Rattle.giop_stream.specs.Rules.{most_open}
use Rattle.giop_stream.specs.EngineView.{FramingView}
use Rattle.giop_stream.specs.Checkpoint.{counts_of, fixed_of, checkpoint_octets, Spells, Allows, IsRefused}
use Rattle.giop_stream.proofs.Restored.LoadRanges.{fixed_range}
use Rattle.giop_stream.proofs.Restored.SavedSizes.{entry_long, entries_count, entries_range}

-- ---- the octets of entries are complete records

first_of : (e : StoredRecord) (rest : List ℕ) → get_or (stored_record_octets e ++ rest) 0 0
    ≡ e.record_is.frames
unfolding own_octets kind_octets
first_of e rest = refl

pub records_are : (es : List StoredRecord) → Each StoredRecordHasRange es →
    AreRecords (length es) (flat_map stored_record_octets es)
records_are [] h = refl
records_are (e ∷ es) h = search (
  arith,
  flat_map,
  entry_long,
  first_of,
  length-append,
  drop_at,
  records_are es h.1,
)

-- ---- a checkpoint

fixed_counts : (C : Table) (l : RequestTable) (m : FramingView) →
    (fixed_of C l m).counts ≡ counts_of C l
unfolding fixed_of
fixed_counts C l m = refl

module _ (octets p : List ℕ) (C : Table) (l : RequestTable) (most : ℕ)
    (s : Spells octets C l most p) where
  fixed_records : AreRecords (fixed_of C l s.memory).records
      (flat_map stored_record_octets s.entries)
  unfolding fixed_of
  fixed_records = search (arith, flat_map, entries_count, records_are, entries_range)

  fixed_front : octets ≡ fixed_octets s.layout (fixed_of C l s.memory)
      ++ flat_map stored_record_octets s.entries
  unfolding checkpoint_octets
  fixed_front = s.octets_are

  layout_read : reads_layout (counts_of C l).version s.layout ≡ true
  unfolding counts_of
  layout_read = s.is_read

  -- if something holds of every fixed part and of all records in their ranges, it holds of these
  pub parts_read : (P : Fixed → List ℕ → Type 0) (counts : Counts) → counts ≡ counts_of C l →
      ((layout : Layout) (f : Fixed) (records : List ℕ) → f.counts ≡ counts →
      reads_layout counts.version layout ≡ true → HasRange layout f →
      AreRecords f.records records →
      octets ≡ fixed_octets layout f ++ records → P f records) →
      P (fixed_of C l s.memory) (flat_map stored_record_octets s.entries)
  parts_read P counts same again =
      again s.layout (fixed_of C l s.memory) (flat_map stored_record_octets s.entries)
      (fixed_counts C l s.memory ∙ sym same) (rw same layout_read)
      (fixed_range octets p C l most s) fixed_records fixed_front

-- ---- octets that are not a checkpoint

pub refused_is : (c : Counts) (s : List ℕ) (why : LoadFault) → IsFirstFailure c s why
    → IsRefused c s why
refused_is c s refusals.Magic (inl never) = never
refused_is c s refusals.Magic (inr never) = absurd never.1
refused_is c s refusals.Version (inl never) = never
refused_is c s refusals.Version (inr never) = absurd never.1
refused_is c s refusals.Catalogue (inl never) = never
refused_is c s refusals.Catalogue (inr never) = absurd never.1
refused_is c s refusals.Length never = never
refused_is c s refusals.OutOfMemory (inl never) = absurd never
refused_is c s refusals.OutOfMemory (inr never) = absurd never.1
refused_is c s refusals.State (inl never) = absurd never
refused_is c s refusals.State (inr never) = (never.0, inl never.1)

pub refused_state : (c now : Counts) (s : List ℕ) (f : Fixed) (records : List ℕ) → c ≡ now →
    PassesAllChecks c s f records →
    IsRefused now s refusals.State
refused_state c now s f records same passes = search (arith)

pub refused_memory : (c now : Counts) (s : List ℕ) (f : Fixed) (records : List ℕ) → c ≡ now →
    PassesAllChecks c s f records →
    IsRefused now s refusals.OutOfMemory
refused_memory c now s f records same passes = search (arith)

-- ---- how many messages may be open

open_by : (layout : Layout) (n : ℕ) → OpenHasRange layout n → (1 ≤ n) × (n ≤ most_open)
open_by Second n h = search (arith)
open_by Third n h = h
open_by Latest n h = h

pub passed_open : (c : Counts) (s : List ℕ) (f : Fixed) (records : List ℕ)
    → PassesAllChecks c s f records →
    (1 ≤ f.most_open) × (f.most_open ≤ most_open)
passed_open c s f records passes = search (arith, open_by)

pub allowed_is : (c now : Counts) (s : List ℕ) (f : Fixed) (records : List ℕ) (n : ℕ) → c ≡ now →
    PassesAllChecks c s f records → n ≡ f.most_open →
    Allows now s n
allowed_is c now s f records n same passes is = search (arith)
