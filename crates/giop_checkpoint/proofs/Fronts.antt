-- Octets that begin with the fixed part pass its checks.
use Rattle.std.proofs.Common.{◌≡◌, Bool, true, false, IsTrue, ℕ, List, Option, ◌∷◌, ◌++◌, length, take, drop, replicate, refl, ap, ◌∙◌, append_assoc, arith}
use Rattle.std.proofs.lemmas.List.{length-append, take_at}
use Rattle.giop_octets.specs.Fields.{four, eight}
use Rattle.giop_octets.proofs.FieldLaws.{four_long, eight_long, behind}
use Rattle.giop_checkpoint.specs.declared.layout.Layout.{Layout}
use Rattle.giop_checkpoint.specs.declared.layout.Layout.TheVariants.{Second, Third, Latest}
use Rattle.giop_checkpoint.specs.Layouts.{version_of, reads_layout, record_number_or, owner_octet, mixed_octet, limit_octets}
use Rattle.giop_checkpoint.specs.declared.fixed.Counts.{Counts}
use Rattle.giop_checkpoint.specs.declared.fixed.Fixed.{Fixed}
use Rattle.giop_checkpoint.specs.Fixed.{HasRange, magic, counts_octets, place_octets, state_octets, fixed_octets}
use Rattle.giop_checkpoint.specs.Refusals.{HasLayoutVersion, PassesUpToCounts, FailsUpToCounts, HasState}
use Rattle.giop_checkpoint.specs.Records.{AreRecords}
use Rattle.giop_checkpoint.specs.declared.fault.LoadFault.{LoadFault}
use Rattle.giop_checkpoint.specs.declared.fault.LoadFault.TheVariants as faults
use Rattle.giop_checkpoint.proofs.Places.{place_long}
use Rattle.giop_checkpoint.proofs.Versions.{one_layout}

pub record HasFixedFields (layout : Layout) (c : Counts) (f : Fixed)
    (s records : List ℕ) : Type 0 where
  pub ours : PassesUpToCounts c s
  pub laid_out : HasLayoutVersion s layout
  pub octets : take 68 (drop 28 s) ≡ state_octets layout f
  pub state : HasState c f s
  pub rest : drop 96 s ≡ records

magic_long : length magic ≡ 8
unfolding magic
magic_long = refl

counts_long : (c : Counts) → length (counts_octets c) ≡ 16
unfolding counts_octets
counts_long c =
    omega (
      arith,
      length-append (four c.types ++ four c.operations ++ four c.exceptions)
          (four c.ids),
      length-append (four c.types ++ four c.operations) (four c.exceptions),
      length-append (four c.types) (four c.operations),
      four_long c.types,
      four_long c.operations,
      four_long c.exceptions,
      four_long c.ids,
    )

later_long : (n : ℕ) (owner : Option ℕ) (mixed : ℕ) →
    length (four n ++ four (record_number_or 4294967295 owner) ++ mixed ∷ replicate 7 0) ≡ 16
later_long n owner mixed =
    let rest : List ℕ = mixed ∷ replicate 7 0 in
    let rest_long : length rest ≡ 8 = refl in
    omega (
      arith,
      length-append (four n ++ four (record_number_or 4294967295 owner)) rest,
      length-append (four n) (four (record_number_or 4294967295 owner)),
      four_long n,
      four_long (record_number_or 4294967295 owner),
      rest_long,
    )

limits_long : (layout : Layout) (n : ℕ) (owner : Option ℕ) (is_mixed : Bool) →
    length (limit_octets layout n owner is_mixed) ≡ 16
limits_long Second n owner is_mixed = refl
limits_long Third n owner is_mixed = later_long n owner 0
limits_long Latest n owner is_mixed = later_long n owner (mixed_octet Latest is_mixed)

pub state_long : (layout : Layout) (f : Fixed) → HasRange layout f →
    length (state_octets layout f) ≡ 68
unfolding state_octets
state_long layout f h =
    let a = four f.records in
    let b = eight f.octets in
    let d = eight f.messages in
    let e = eight f.faults in
    let owner = owner_octet layout f.owner in
    let p = place_octets f.place owner in
    let l = limit_octets layout f.most_open f.owner f.is_mixed in
    omega (
      arith,
      length-append (a ++ b ++ d ++ e ++ p) l,
      length-append (a ++ b ++ d ++ e) p,
      length-append (a ++ b ++ d) e,
      length-append (a ++ b) d,
      length-append a b,
      four_long f.records,
      eight_long f.octets,
      eight_long f.messages,
      eight_long f.faults,
      place_long f.place owner h.place,
      limits_long layout f.most_open f.owner f.is_mixed,
    )

five : (a b c d e : List ℕ) → a ++ b ++ c ++ d ++ e ≡ a ++ (b ++ (c ++ (d ++ e)))
five a b c d e = append_assoc (a ++ b ++ c) d e ∙ append_assoc (a ++ b) c (d ++ e)
    ∙ append_assoc a b (c ++ (d ++ e))

front_is : (at size : ℕ) (s field rest : List ℕ) → drop at s ≡ field ++ rest → length field ≡ size →
    take size (drop at s) ≡ field
front_is at size s field rest e long = ap (take size) e ∙ take_at field rest size long

pub front_of : (layout : Layout) (c : Counts) (f : Fixed) (s records : List ℕ) → f.counts ≡ c →
    reads_layout c.version layout ≡ true → HasRange layout f → s ≡ fixed_octets layout f ++ records
    → HasFixedFields layout c f s records
unfolding fixed_octets
front_of layout c f s records own read h e =
    let version = four (version_of layout) in
    let counts = counts_octets f.counts in
    let state = state_octets layout f in
    let whole : drop 0 s ≡ magic ++ (version ++ (counts ++ (state ++ records))) =
    e ∙ five magic version counts state records in
    let at_8 = behind 0 8 s magic _ whole magic_long in
    let at_12 = behind 8 4 s version _ at_8 (four_long (version_of layout)) in
    let at_28 = behind 12 16 s counts _ at_12 (counts_long f.counts) in
    let at_96 = behind 28 68 s state _ at_28 (state_long layout f h) in
    let laid_out = front_is 8 4 s version _ at_8 (four_long (version_of layout)) in
    let stated = front_is 28 68 s state _ at_28 (state_long layout f h) in
    record {
      ours = (
        omega (
          arith,
          ap length whole,
          length-append magic
              (version ++ (counts ++ (state ++ records))),
          length-append version (counts ++ (state ++ records)),
          length-append counts (state ++ records),
          length-append state records,
          magic_long,
          four_long (version_of layout),
          counts_long f.counts,
          state_long layout f h,
        ),
        front_is 0 8 s magic _ whole magic_long,
        (layout, read, laid_out),
        front_is 12 16 s counts _ at_12 (counts_long f.counts) ∙ ap counts_octets own,
      );
      laid_out = laid_out;
      octets = stated;
      state = record {
        layout = layout;
        read = read;
        laid_out = laid_out;
        counts = own;
        octets = stated;
        range =
            h;
      };
      rest = at_96;
    }

-- ---- octets have one layout

pub one_layout_of : (s : List ℕ) (layout other : Layout) → HasLayoutVersion s layout
    → HasLayoutVersion s other →
    layout ≡ other
one_layout_of s layout other h k = one_layout (take 4 (drop 8 s)) layout other h k

pub stated_by : (s octets : List ℕ) (layout other : Layout) (f : Fixed) →
    octets ≡ take 68 (drop 28 s) → HasLayoutVersion s layout → HasLayoutVersion s other
    → take 68 (drop 28 s) ≡ state_octets other f → octets ≡ state_octets layout f
stated_by s octets layout other f front h k e =
    front ∙ (e ∙ ap (λ (l : Layout). state_octets l f) (one_layout_of s other layout k h))

pub range_by : (s : List ℕ) (layout other : Layout) (f : Fixed) → HasLayoutVersion s layout →
    HasLayoutVersion s other → HasRange other f → HasRange layout f
range_by s layout other f h k r = rw (one_layout_of s layout other h k) r

pub ours_not : (c : Counts) (s : List ℕ) (why : LoadFault) → PassesUpToCounts c s
    → FailsUpToCounts c s why → ⊥
ours_not c s faults.Magic h r = r.1 h.1
ours_not c s faults.Version h r = r.2 h.2
ours_not c s faults.Catalogue h r = r.3 h.3
ours_not c s faults.Length h r = r h.0
ours_not c s faults.State h r = r
ours_not c s faults.OutOfMemory h r = r

pub records_in : (n m : ℕ) (xs ys : List ℕ) → n ≡ m → xs ≡ ys → AreRecords m ys → AreRecords n xs
records_in n m xs ys a b h = rw (a, b) h

pub untrue : IsTrue false → ⊥
untrue h = cc
