-- How many octets a checkpoint has.
use Rattle.std.proofs.Common.{◌≡◌, ℕ, suc, ◌+◌, ◌*◌, ◌≤◌, List, [], ◌∷◌, length, flat_map, arith, Option, Some, None, refl}
use Rattle.std.specs.List.{AllByRecursion as Each}
use Rattle.std.proofs.lemmas.List.{length-append}
use Rattle.std.proofs.Math.Nat.{suc-mul, mul-le-mul_right}
use Rattle.giop_sig.specs.HeaderTypes.{IsTable}
use Rattle.giop_sig.specs.Table.{Table}
use Rattle.giop_sig.specs.Trees.{catalogue_depth}
use Rattle.giop_message.specs.declared.message.Message.{Message}
use Rattle.giop_message.specs.Signatures.{RequestTable}
use Rattle.giop_checkpoint.specs.declared.sizes.TheConstants.{FRAME_SIZE}
use Rattle.giop_checkpoint.specs.declared.layout.Layout.{Layout}
use Rattle.giop_checkpoint.specs.Layouts.{OpenHasRange}
use Rattle.giop_checkpoint.specs.Fixed.{fixed_octets}
use Rattle.giop_checkpoint.specs.Records.{StoredRecord, StoredRecordHasRange, stored_record_octets}
use Rattle.giop_checkpoint.proofs.RecordFields.{own_long}
use Rattle.giop_stream.specs.SlotsRepresent.{OpenEntry, current_of}
use Rattle.giop_stream.specs.SlotsRepresent.{IsReady, AreReady}
use Rattle.giop_stream.specs.EngineView.{FramingView}
use Rattle.giop_stream.specs.Checkpoint.{StoresOrZeros, AreEntries, fixed_of, count_current, entries_size, checkpoint_octets, IsPutWhole, checkpoint_limit}

-- ---- records

pub entry_long : (e : StoredRecord) → StoredRecordHasRange e →
    length (stored_record_octets e) ≡ 256 + FRAME_SIZE * e.record_is.frames
entry_long e h = search (arith, length-append, own_long)

entries_long : (es : List StoredRecord) → Each StoredRecordHasRange es →
    length (flat_map stored_record_octets es) ≡ entries_size es
entries_long [] h = refl
entries_long (e ∷ es) h = search (arith, length-append, flat_map, entry_long, entries_long es h.1)

more_within : (w n here rest : ℕ) → here ≤ w → rest ≤ n * w → here + rest ≤ suc n * w
more_within w n here rest one others = search (arith, suc-mul)

entries_within : (d : ℕ) (es : List StoredRecord) → Each (λ e. e.record_is.frames ≤ d) es →
    entries_size es ≤ length es * (256 + FRAME_SIZE * d)
entries_within d [] h = omega arith
entries_within d (e ∷ es) h = search (arith, more_within, entries_within d es h.1)

-- ---- the records of the messages

pub entries_count : (slots : List OpenEntry) (current : Option Message) (es : List StoredRecord) →
    AreEntries slots current es → length es ≡ length slots + count_current current
entries_count [] None [] are = refl
entries_count [] None (e ∷ es) are = absurd are
entries_count [] (Some m) [] are = absurd are
entries_count [] (Some m) (e ∷ es) are = search (arith)
entries_count (slot ∷ slots) current [] are = absurd are
entries_count (slot ∷ slots) current (e ∷ es) are =
    omega (arith, entries_count slots current es are.1)

pub entries_range : (slots : List OpenEntry) (current : Option Message) (es : List StoredRecord) →
    AreEntries slots current es → Each StoredRecordHasRange es
entries_range [] None [] are = tt
entries_range [] None (e ∷ es) are = absurd are
entries_range [] (Some m) [] are = absurd are
entries_range [] (Some m) (e ∷ []) are = (are.0.range, tt)
entries_range [] (Some m) (e ∷ f ∷ es) are = search (arith)
entries_range (slot ∷ slots) current [] are = absurd are
entries_range (slot ∷ slots) current (e ∷ es) are =
    (are.0.range, entries_range slots current es are.1)

stored_shallow : (C : Table) (at : ℕ) (m : Option Message) (e : StoredRecord) → IsTable C →
    StoredRecordHasRange e → IsReady C at m → StoresOrZeros m e →
    e.record_is.frames ≤ catalogue_depth C
stored_shallow C at None e laws range ready is = search (arith)
stored_shallow C at (Some m) e laws range ready is = is.shallow C laws ready.0

entries_shallow : (C : Table) (at : ℕ) (slots : List OpenEntry) (current : Option Message)
    (es : List StoredRecord) → IsTable C → AreEntries slots current es →
    Each (λ s. IsReady C at s.value.message) slots → IsReady C at current →
    Each (λ e. e.record_is.frames ≤ catalogue_depth C) es
entries_shallow C at [] None [] laws are each ready = tt
entries_shallow C at [] None (e ∷ es) laws are each ready = absurd are
entries_shallow C at [] (Some m) [] laws are each ready = absurd are
entries_shallow C at [] (Some m) (e ∷ []) laws are each ready = search (arith)
entries_shallow C at [] (Some m) (e ∷ f ∷ es) laws are each ready = search (arith)
entries_shallow C at (slot ∷ slots) current [] laws are each ready = absurd are
entries_shallow C at (slot ∷ slots) current (e ∷ es) laws are each ready = search (
  arith,
  stored_shallow,
  entries_shallow C at slots current es laws are.1 each.1 ready,
)

one_current : (current : Option Message) → count_current current ≤ 1
one_current None = omega arith
one_current (Some m) = omega arith

-- ---- a checkpoint

-- the code's fields have a fixed part of 96 octets, a limit that the layout can hold, and messages
-- that fit the table of a catalogue
pub record HasRoom (layout : Layout) (C : Table) (request_table : RequestTable)
    (fields : FramingView) : Type 0 where
  pub fixed : length (fixed_octets layout (fixed_of C request_table fields)) ≡ 96
  pub allows : OpenHasRange layout fields.slots.slots.most
  pub ready : AreReady C (fields.totals.octets + 1) fields.slots
  pub table : IsTable C

pub whole_long : (layout : Layout) (C : Table) (l : RequestTable) (m : FramingView)
    (written : List ℕ) (whole : IsPutWhole layout C l m written) →
    HasRoom layout C l m → length written ≡ 96 + entries_size whole.entries
unfolding checkpoint_octets
whole_long layout C l m written whole room = search (
  arith,
  length-append,
  flat_map,
  entries_long,
  entries_range,
)

many_within : (n most w sum : ℕ) → n ≤ most + 1 → sum ≤ n * w → sum ≤ (most + 1) * w
many_within n most w sum few within = search (arith, mul-le-mul_right)

pub whole_within : (layout : Layout) (C : Table) (l : RequestTable) (m : FramingView) (most : ℕ)
    (written : List ℕ) (whole : IsPutWhole layout C l m written) →
    HasRoom layout C l m → length m.slots.slots.entries ≤ most →
    96 + entries_size whole.entries ≤ checkpoint_limit most (catalogue_depth C)
unfolding checkpoint_limit
whole_within layout C l m most written whole room few =
    let many = entries_count m.slots.slots.entries (current_of m.slots.owner) whole.entries
    whole.are in
    let shallow = entries_shallow C (m.totals.octets + 1) m.slots.slots.entries
    (current_of m.slots.owner) whole.entries room.table whole.are
    room.ready.each_ready room.ready.current_ready in
    omega (
      arith,
      many_within (length whole.entries) most (256 + FRAME_SIZE * catalogue_depth C)
          (entries_size whole.entries)
          (omega (arith, many, few, one_current (current_of m.slots.owner)))
          (entries_within (catalogue_depth C) whole.entries shallow),
    )
