-- The fields of any stream's engine are in the ranges of a checkpoint's fixed part, so a load takes
-- them.
use Rattle.std.proofs.Common.{◌≡◌, ℕ, ◌+◌, ◌*◌, ◌-◌, ◌^◌, ◌<◌, ◌≤◌, Bool, true, false, ◌&&◌, List, [], ◌∷◌, ◌++◌, length, refl, Option, Some, None, arith}
use Rattle.std.specs.Prelude.{nat_lt, nat_le, if◌then◌else◌}
use Rattle.std.proofs.lemmas.Bool.{ltb-true, ltb-false, lt-leb}
use Rattle.giop_cdr.specs.Numbers.{AreOctets}
use Rattle.giop_sig.specs.Table.{Table}
use Rattle.giop_message.specs.declared.message.Message.{Message as CodeMessage}
use Rattle.giop_message.specs.Headers.{size}
use Rattle.giop_message.specs.MessageReader.{KeepsEarlierLines, IsStreamable}
use Rattle.giop_message.specs.Signatures.{RequestTable, by_list}
use Rattle.giop_message.proofs.MessageLaws.{is_causal}
use Rattle.giop_checkpoint.specs.declared.fault.StreamFault.{StreamFault}
use Rattle.giop_checkpoint.specs.declared.fixed.NextOctet.TheVariants.{Header, Payload}
use Rattle.giop_checkpoint.specs.declared.layout.Layout.{Layout}
use Rattle.giop_checkpoint.specs.declared.layout.Layout.TheVariants.{Second, Third, Latest}
use Rattle.giop_checkpoint.specs.Layouts.{IsAmongRecords, MixedFits, reads_layout}
use Rattle.giop_checkpoint.specs.Fixed.{PlaceHasRange, HasRange}
use Rattle.giop_stream.specs.Rules.{Rules, joins_by, rules}
use Rattle.giop_stream.specs.Framing.{Cut, cut, limit, octets_read, fault_of}
use Rattle.giop_stream.specs.Events.{place}
use Rattle.giop_stream.specs.OpenSlots.{tracked_after}
use Rattle.giop_stream.specs.Stream.{totals_so_far}
use Rattle.giop_stream.specs.Octet.{OctetKind, AfterStop, Ends, Held, Of, header_of, octet_of}
use Rattle.giop_stream.specs.EngineState.{none_if_stopped, state_of}
use Rattle.giop_stream.specs.EngineView.{FramingView}
use Rattle.giop_stream.specs.Checkpoint.{place_of, owner_record_index, count_current, fixed_of, Spells}
use Rattle.giop_stream.proofs.Lists.{by_growth}
use Rattle.giop_stream.proofs.Cuts.Start.{cut_nothing}
use Rattle.giop_stream.proofs.Cuts.Cutting.{cut_stopped_at, cut_of_parts, settle_stop}
use Rattle.giop_stream.proofs.Events.Soundness.{CutFitsStream}
use Rattle.giop_stream.proofs.CodeSteps.OneOctet.{IsStateThen, then_is}
use Rattle.giop_stream.proofs.Cuts.OfOctets.{HeaderOctets, header_octets, size_fits}
use Rattle.giop_stream.proofs.CodeSteps.EngineAlive.{sound}
use Rattle.giop_stream.proofs.Cuts.OpenMessages.{few_open}
use Rattle.giop_stream.proofs.SlotSteps.Parts.{in_turn}
use Rattle.giop_stream.proofs.SlotSteps.SlotLists.{slots_many, are_as_many}
use Rattle.giop_stream.proofs.Cuts.Counts.{octets_few, octets_free, messages_few}
use Rattle.giop_stream.proofs.Events.FaultsBound.{stop_count, one_stop, tally_faults}

-- ---- The ranges of the place and the owner.

among : (b : Bool) (k many more : ℕ) → nat_lt k many ≡ b →
    IsAmongRecords (many + more) (if b then Some k else None)
among true k many more e = search (arith, ltb-true)
among false k many more e = tt

owner_among : (i : Option ℕ) (current : Option CodeMessage) (many : ℕ) →
    IsAmongRecords (many + count_current current) (owner_record_index i current many)
owner_among None None many = tt
owner_among None (Some m) many = omega arith
owner_among (Some k) current many = search (arith, among)

-- a header has at most 12 octets; if it is complete, its size is below 2^32
record IsHeader (header : List ℕ) : Type 0 where
  most : length header ≤ 12
  small : length header ≡ 12 → size header < 2 ^ 32

place_by : (b : Bool) (header : List ℕ) (payload_count : ℕ) → IsHeader header →
    nat_lt (length header) 12 ≡ b
    → PlaceHasRange (if b then Header (record { items = header }) else Payload header
    (size header - payload_count))
place_by true header payload_count h e = search (arith, ltb-true)
place_by false header payload_count h e = search (arith, ltb-false)

place_range : (stopped : Option StreamFault) (header : List ℕ) (payload_count : ℕ) → IsHeader header
    → PlaceHasRange (place_of stopped header payload_count)
place_range (Some fault) header payload_count h = tt
place_range None header payload_count h = search (arith, place_by)

one_current : (current : Option CodeMessage) → count_current current ≤ 1
one_current None = omega arith
one_current (Some m) = omega arith

-- Messages of 1.1 are mixed only where Fragments of 1.1 are joined, which only the latest layout
-- stores.
none_mixed : (mixed joins : Bool) → joins ≡ false → (mixed && joins) ≡ false
none_mixed true joins e = e
none_mixed false joins e = refl

not_joined : (version : ℕ) → nat_lt version 3 ≡ true → nat_le 3 version ≡ false
not_joined version e = search (arith, ltb-true, lt-leb)

mixed_fits : (C : Table) (layout : Layout) (mixed : Bool) → reads_layout C.version layout ≡ true →
    MixedFits layout (mixed && joins_by C)
mixed_fits C Second mixed e = none_mixed mixed (joins_by C) (not_joined C.version e)
mixed_fits C Third mixed e = none_mixed mixed (joins_by C) (not_joined C.version e)
mixed_fits C Latest mixed e = tt

-- ---- A stream fault is at one of the stream's octets.

abbrev IsAfterFirstOctet : (found : Option (ℕ × StreamFault)) → Type 0
IsAfterFirstOctet None = Unit {0}
IsAfterFirstOctet (Some found) = 0 < found.0

read_late : (p : List ℕ) (stop : Option (ℕ × StreamFault)) → IsAfterFirstOctet stop →
    stop_count stop ≤ octets_read p stop
unfolding octets_read stop_count
read_late p None h = omega arith
read_late p (Some found) h = omega (arith, h)

-- ---- The header octets that are held of a stream.

IsWithin : ℕ → List ℕ → Type 0
IsWithin n header = IsHeader header × (length header ≤ n)

header_fits : (n : ℕ) (c : Cut) → CutFitsStream n c → HeaderOctets c →
    IsWithin n (header_of c.current c.held)
unfolding IsWithin place
header_fits n c fits octets = search (arith, size_fits)

module _ (R : Rules) (causal : KeepsEarlierLines R.reading) (laws : IsStreamable R.reading) where
  late_by : (p : List ℕ) (x : ℕ) (o : OctetKind) → IsStateThen R p x o →
      IsAfterFirstOctet (cut p).stop →
      IsAfterFirstOctet (cut (p ++ x ∷ [])).stop
  unfolding cut_stopped_at cut_of_parts
  late_by p x AfterStop h ih = rw h.2.cut_is ih
  late_by p x (Ends fault) h ih = rw h.1.cut_is (omega arith)
  late_by p x (Held front) h ih = rw h.2.cut_is tt
  late_by p x (Of now) h ih = search (arith, settle_stop)

  late : (p : List ℕ) → IsAfterFirstOctet (cut p).stop
  unfolding cut_of_parts
  late = by_growth (λ p. IsAfterFirstOctet (cut p).stop) (rw cut_nothing tt)
      (λ p x. late_by p x (octet_of (cut p) (length p) x)
      (then_is R causal laws p x (sound R causal laws p)))

  module _ (p : List ℕ) (octets : AreOctets p) where
    held_by : (stop : Option (ℕ × StreamFault)) → (cut p).stop ≡ stop
        → IsWithin (octets_read p stop) (none_if_stopped stop [] (header_of (cut p).current
        (cut p).held))
    unfolding IsWithin octets_read
    held_by (Some found) e = (
      record {
        most = omega arith;
        small =
            λ no. absurd (omega (arith, no));
      },
      omega arith,
    )
    held_by None e = header_fits (length p) (cut p) ((sound R causal laws p).fits e)
        (header_octets p octets)

    header_within : IsWithin (totals_so_far R p).octets (state_of R p).held
    unfolding totals_so_far state_of
    header_within = held_by (cut p).stop refl

  late_octets : (p : List ℕ) → stop_count (cut p).stop ≤ (totals_so_far R p).octets
  unfolding totals_so_far
  late_octets p = search (arith, read_late, late)

  few_faults : (p : List ℕ) → (totals_so_far R p).faults ≤ 3 * (totals_so_far R p).octets
  few_faults p = search (arith, tally_faults, messages_few, late_octets)

-- ---- The stream that a checkpoint spells.

free_stop : (stop : Option (ℕ × StreamFault)) → fault_of stop ≡ None → stop ≡ None
free_stop None e = refl
free_stop (Some found) e = absurd cc

-- bounds for the totals of any stream's engine
pub record AreTotals (fields : FramingView) : Type 0 where
  pub running : fields.stopped ≡ None → fields.totals.octets ≤ 2 ^ 48
  pub messages : fields.totals.messages ≤ fields.totals.octets
  pub faults : fields.totals.faults ≤ 3 * fields.totals.octets
  pub held : length fields.header ≤ fields.totals.octets

module _ (octets p : List ℕ) (C : Table) (l : RequestTable) (most : ℕ)
    (s : Spells octets C l most p) where
  abbrev R : Rules
  R = rules C l most

  causal : KeepsEarlierLines R.reading
  causal = search (arith, is_causal)

  laws : IsStreamable R.reading
  laws = in_turn C (by_list l)

  totals_are : s.memory.totals ≡ totals_so_far R p
  unfolding state_of
  totals_are = s.shows.totals

  free : s.memory.stopped ≡ None → (cut p).stop ≡ None
  unfolding state_of
  free none = search (arith, free_stop)

  pub few_slots : length s.memory.slots.slots.entries ≤ most
  unfolding state_of tracked_after
  few_slots = search (arith, are_as_many, slots_many, few_open)

  header_is : IsWithin s.memory.totals.octets s.memory.header
  header_is = rw (totals_are, s.shows.header) (header_within R causal laws p s.stream)

  pub may_be_again : AreTotals s.memory
  unfolding IsWithin limit
  may_be_again = search (
    arith,
    totals_are,
    octets_free,
    free,
    messages_few,
    causal,
    laws,
    few_faults,
    header_is,
  )

  pub fixed_range : HasRange s.layout (fixed_of C l s.memory)
  unfolding fixed_of IsWithin limit
  fixed_range = search (
    arith,
    octets_few,
    messages_few,
    causal,
    laws,
    few_slots,
    one_current,
    totals_are,
    tally_faults,
    one_stop,
    place_range,
    header_is,
    owner_among,
    mixed_fits,
  )
