-- At which offsets the fields after the counts are in their octets, and that these octets determine
-- the fixed part.
use Rattle.std.proofs.Common.{◌≡◌, ◌==◌, ℕ, ◌^◌, ◌<◌, ◌≤◌, Bool, true, false, List, ◌∷◌, ◌++◌, drop, replicate, Option, Some, None, refl, sym, ap, ◌∙◌, append_assoc, arith}
use Rattle.std.proofs.lemmas.List.{drop-drop}
use Rattle.giop_octets.specs.Fields.{four, eight}
use Rattle.giop_octets.proofs.FieldLaws.{four_long, eight_long, behind}
use Rattle.giop_checkpoint.specs.declared.fixed.Counts.{Counts}
use Rattle.giop_checkpoint.specs.declared.fixed.Fixed.{Fixed}
use Rattle.giop_checkpoint.specs.declared.fixed.NextOctet.{NextOctet}
use Rattle.giop_checkpoint.specs.Fixed.{HasRange, place_octets, state_octets}
use Rattle.giop_checkpoint.specs.Layouts.{OpenHasRange, IsAmongRecords, MixedFits, record_number_or, owner_octet, mixed_octet, limit_octets}
use Rattle.giop_checkpoint.specs.declared.layout.Layout.{Layout}
use Rattle.giop_checkpoint.specs.declared.layout.Layout.TheVariants.{Second, Third, Latest}
use Rattle.giop_checkpoint.proofs.Places.{parts_of, place_long}

six : (a b c d e f : List ℕ) → a ++ b ++ c ++ d ++ e ++ f ≡ a ++ (b ++ (c ++ (d ++ (e ++ f))))
six a b c d e f =
    append_assoc (a ++ b ++ c ++ d) e f ∙ append_assoc (a ++ b ++ c) d (e ++ f)
    ∙ append_assoc (a ++ b) c (d ++ (e ++ f)) ∙ append_assoc a b (c ++ (d ++ (e ++ f)))

pub record HasStateFields (layout : Layout) (f : Fixed) (octets : List ℕ) : Type 0 where
  pub records : drop 0 octets ≡ four f.records ++ drop 4 octets
  pub read : drop 4 octets ≡ eight f.octets ++ drop 12 octets
  pub messages : drop 12 octets ≡ eight f.messages ++ drop 20 octets
  pub faults : drop 20 octets ≡ eight f.faults ++ drop 28 octets
  pub place : drop 28 octets ≡ place_octets f.place (owner_octet layout f.owner) ++ drop 52 octets
  pub owner_is : drop 31 octets ≡ owner_octet layout f.owner ∷ drop 4 (drop 28 octets)
  pub limits : drop 52 octets ≡ limit_octets layout f.most_open f.owner f.is_mixed

pub fields_of : (layout : Layout) (f : Fixed) (octets : List ℕ) → HasRange layout f →
    octets ≡ state_octets layout f → HasStateFields layout f octets
unfolding state_octets
fields_of layout f octets h e =
    let place = place_octets f.place (owner_octet layout f.owner) in
    let limits = limit_octets layout f.most_open f.owner f.is_mixed in
    let whole : drop 0 octets ≡ four f.records
    ++ (eight f.octets ++ (eight f.messages ++ (eight f.faults ++ (place ++ limits)))) =
    e ∙ six (four f.records) (eight f.octets) (eight f.messages) (eight f.faults) place limits in
    let at_4 = behind 0 4 octets _ _ whole (four_long f.records) in
    let at_12 = behind 4 8 octets _ _ at_4 (eight_long f.octets) in
    let at_20 = behind 12 8 octets _ _ at_12 (eight_long f.messages) in
    let at_28 = behind 20 8 octets _ _ at_20 (eight_long f.faults) in
    let at_52 = behind 28 24 octets _ _ at_28
    (place_long f.place (owner_octet layout f.owner) h.place) in
    record {
      records = whole ∙ ap (λ (xs : List ℕ). four f.records ++ xs) (sym at_4);
      read = at_4 ∙ ap (λ (xs : List ℕ). eight f.octets ++ xs) (sym at_12);
      messages = at_12 ∙ ap (λ (xs : List ℕ). eight f.messages ++ xs) (sym at_20);
      faults = at_20 ∙ ap (λ (xs : List ℕ). eight f.faults ++ xs) (sym at_28);
      place = at_28 ∙ ap (λ (xs : List ℕ). place ++ xs) (sym at_52);
      owner_is = sym (drop-drop 3 28 octets)
          ∙ (parts_of f.place (owner_octet layout f.owner) (drop 28 octets) limits h.place
          at_28).owner_is;
      limits = at_52;
    }

-- ---- ranges

pub open_few : (layout : Layout) (n : ℕ) → OpenHasRange layout n → n ≤ 4096
open_few Second n h = omega (arith, h)
open_few Third n h = h.1
open_few Latest n h = h.1

pub among_more : (records most : ℕ) (owner : Option ℕ) → records ≤ most
    → IsAmongRecords records owner →
    IsAmongRecords most owner
among_more records most None few h = h
among_more records most (Some k) few h = omega (arith, few, h)

-- ---- the fields after the place, which layout 3 introduced

abbrev mixed_zeros : (mixed : ℕ) → List ℕ
mixed_zeros mixed = mixed ∷ replicate 7 0

pub number_is : (n : ℕ) (owner : Option ℕ) (mixed : ℕ) (s : List ℕ) →
    s ≡ four n ++ four (record_number_or 4294967295 owner) ++ mixed ∷ replicate 7 0 →
    drop 4 s ≡ four (record_number_or 4294967295 owner) ++ mixed ∷ replicate 7 0
number_is n owner mixed s e =
    behind 0 4 s (four n) (four (record_number_or 4294967295 owner) ++ mixed_zeros mixed)
    (e ∙ append_assoc (four n) (four (record_number_or 4294967295 owner)) (mixed_zeros mixed))
    (four_long n)

-- the octet that tells whether messages of GIOP 1.1 are mixed, which the latest layout introduced
mixed_after : (n : ℕ) (owner : Option ℕ) (mixed : ℕ) (s : List ℕ) →
    s ≡ four n ++ four (record_number_or 4294967295 owner) ++ mixed ∷ replicate 7 0 →
    drop 8 s ≡ mixed ∷ replicate 7 0
mixed_after n owner mixed s e =
    behind 4 4 s (four (record_number_or 4294967295 owner)) (mixed_zeros mixed)
    (number_is n owner mixed s e) (four_long (record_number_or 4294967295 owner))

pub mixed_is : (layout : Layout) (n : ℕ) (owner : Option ℕ) (is_mixed : Bool) (s : List ℕ) →
    s ≡ limit_octets layout n owner is_mixed →
    drop 8 s ≡ mixed_octet layout is_mixed ∷ replicate 7 0
mixed_is Second n owner is_mixed s e = ap (drop 8) e
mixed_is Third n owner is_mixed s e = mixed_after n owner 0 s e
mixed_is Latest n owner is_mixed s e = mixed_after n owner (mixed_octet Latest is_mixed) s e

pub mixed_told : (layout : Layout) (is_mixed : Bool) → MixedFits layout is_mixed →
    (mixed_octet layout is_mixed == 1) ≡ is_mixed
mixed_told Second is_mixed fits = rw fits refl
mixed_told Third is_mixed fits = rw fits refl
mixed_told Latest true fits = refl
mixed_told Latest false fits = refl

pub number_small : (most : ℕ) (owner : Option ℕ) → most ≤ 4097 → IsAmongRecords most owner →
    record_number_or 4294967295 owner < 2 ^ 32
number_small most None few h = omega arith
number_small most (Some k) few h = omega (arith, few, h)

-- ---- all fields after the counts

pub fixed_is : (f : Fixed) (counts : Counts) (most_open records octets messages faults : ℕ)
    (place : NextOctet) (owner : Option ℕ) (is_mixed : Bool)
    → counts ≡ f.counts → most_open ≡ f.most_open → records ≡ f.records → octets ≡ f.octets →
    messages ≡ f.messages → faults ≡ f.faults → place ≡ f.place
    → owner ≡ f.owner → is_mixed ≡ f.is_mixed
    → record {
      counts = counts;
      most_open = most_open;
      records = records;
      octets = octets;
      messages = messages;
      faults = faults;
      place = place;
      owner = owner;
      is_mixed = is_mixed;
    } ≡ f
fixed_is f counts most_open records octets messages faults place owner is_mixed
    a m b c d e g h k =
    rw a (rw m (rw b (rw c (rw d (rw e (rw g (rw h (rw k refl))))))))

pub value_of : {A : Type 0} (r : Option A) (x y : A) → r ≡ Some y → r ≡ Some x → x ≡ y
value_of r x y p q = cc
