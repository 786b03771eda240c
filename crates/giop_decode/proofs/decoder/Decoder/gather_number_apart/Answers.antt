use Rattle.std.proofs.Common.{◌≡◌, ℕ, ◌-◌, ◌<◌, List, [], length, Some, ◌∙◌, ap, arith, ne_eqb}
use Rattle.std.specs.Prelude.{eqb}
use Rattle.std.proofs.lemmas.Bool.{eq-eqb}
use Rattle.giop_cdr.specs.Numbers.{num}
use Rattle.giop_cdr.specs.declared.order.Order.{Order}
use Rattle.giop_decode.specs.declared.decoder.Decoder.{Decoder}
use Rattle.giop_decode.specs.declared.leaf.Leaf.TheVariants as innermost
use Rattle.giop_decode.specs.declared.leaf.Output.TheVariants as outputs
use Rattle.giop_decode.specs.declared.leaf.Step.{Step}
use Rattle.giop_decode.specs.declared.leaf.Transition.TheVariants as transitions
use Rattle.giop_decode.specs.SeenState.{Fits}
use Rattle.giop_decode.specs.ReadingSteps.{leading_width}
use Rattle.giop_decode.specs.Runs.{HasHeldTogether, IsStep, IsStepOf}
use Rattle.giop_decode.specs.Transitions.{HaveOctetsLeft, BelongToNumber, innermost_coding, frames_after_octets, tree_in}
use Rattle.giop_decode.proofs.Advancing.{stands_at}
use Rattle.giop_decode.proofs.Counting.{coding_small}
use Rattle.giop_decode.proofs.PartialBlocks.{with_held}
use Rattle.giop_decode.proofs.Whole.{comes_leading, held_now, number_waits, width_in}
use Rattle.giop_sig.specs.Table.{Table}
use Rattle.giop_decode.proofs.Rooms.{begins_in_room}
use Rattle.giop_sig.specs.declared.types.TypeId.{TypeId}
use Rattle.giop_decode.proofs.decoder.Decoder.gather_number_apart.Goals as goal

pub hold_number-count-requires-clause-room : goal.hold_number-count-requires-clause-room
hold_number-count-requires-clause-room g c =
    let C = c.args.catalogue.now in
    let d = c.args.self.now in
    let head = (stands_at C d c.requires.fits (innermost.Number c.args.of) c.requires.leaf).fits in
    rw (width_in C d c.requires.fits c.args.of c.requires.leaf c.leading_width-width.result
    c.leading_width-width.ensures.width) head.room

pub hold_number-count-requires-clause-small : goal.hold_number-count-requires-clause-small
hold_number-count-requires-clause-small g c =
    let d = c.args.self.now in
    rw c.requires.coded at (coding_small d.order d.at d.outer.items c.requires.fits.at)

-- a number that isn't whole yet
waits : (C : Table) (d : Decoder) (of : TypeId) (octets : List ℕ) (order : Order)
    (width at count : ℕ) (all : List ℕ) → (f : Fits C d) →
    (e : d.leaf ≡ Some (innermost.Number of)) →
    innermost_coding d.order d.at d.outer.items ≡ (order, at) →
    HaveOctetsLeft (frames_after_octets (length octets - 1) d.outer.items) →
    width ≡ leading_width (tree_in C d.outer.items of.0) →
    BelongToNumber width at d.carry octets count (eqb (length all) width) all →
    length all < width → HasHeldTogether C d (with_held d all d.piece) octets of count (record {
      transition = transitions.More (innermost.Number of);
      output = outputs.Nothing;
    }) []
waits C d of octets order width at count all f e coded ahead is stands short =
    let part = ne_eqb (length all) width (λ k. omega (arith, k, short)) in
    held_now C d octets of count _ [] all d.piece f
    (number_waits C d of octets count f e order at coded all (rw (part, is) at stands) ahead)

-- a number whose last octet has come
comes : (C : Table) (d : Decoder) (of : TypeId) (octets : List ℕ) (order : Order)
    (width at count : ℕ) (all kept : List ℕ) (s : Step) → (f : Fits C d) →
    (e : d.leaf ≡ Some (innermost.Number of)) →
    innermost_coding d.order d.at d.outer.items ≡ (order, at) →
    HaveOctetsLeft (frames_after_octets (length octets - 1) d.outer.items) →
    width ≡ leading_width (tree_in C d.outer.items of.0) →
    BelongToNumber width at d.carry octets count (eqb (length all) width) all →
    length all ≡ width → kept ≡ [] → IsStep C of.0 s → IsStepOf C of.0 (num order all) s →
    HasHeldTogether C d (with_held d kept d.piece) octets of count s []
comes C d of octets order width at count all kept s f e coded ahead is stands whole none fits by =
    held_now C d octets of count s [] kept d.piece f
    (comes_leading C d of octets count f e order at coded kept all s none
    (rw (eq-eqb (length all) width whole, is) at stands) ahead fits by)

pub complete_held_unit-requires : goal.complete_held_unit-requires
complete_held_unit-requires g c =
    let C = c.args.catalogue.now in
    let d = c.args.self.now in
    let e = c.held_ahead.ensures in
    let s = c.hold_number-count in (
      d,
      rw (e.of, e.count, e.step, e.rest) (waits C d c.args.of c.args.octets.now c.args.coded.0
          c.leading_width-width.result c.args.coded.1 s.result s.new.carry c.requires.fits
          c.requires.leaf
          c.requires.coded c.requires.ahead (width_in C d c.requires.fits c.args.of c.requires.leaf
          c.leading_width-width.result
          c.leading_width-width.ensures.width)
          s.ensures.stands
          (omega (arith, c.if-len-from.true, c.len.ensures.value, c.from.ensures))),
    )

pub returns-then-len-from : goal.returns-then-len-from
returns-then-len-from g c =
    let C = c.args.catalogue.now in
    let d = c.args.self.now in
    let e = c.held_ahead.ensures in
    let s = c.hold_number-count in
    c.complete_held_unit.ensures d (rw (e.of, e.count, e.step, e.rest)
    (waits C d c.args.of c.args.octets.now
    c.args.coded.0 c.leading_width-width.result c.args.coded.1 s.result s.new.carry c.requires.fits
    c.requires.leaf c.requires.coded c.requires.ahead (width_in C d c.requires.fits c.args.of
    c.requires.leaf c.leading_width-width.result
    c.leading_width-width.ensures.width)
    s.ensures.stands (omega (arith, c.if-len-from.true, c.len.ensures.value, c.from.ensures))))

pub value_step-step-requires-clause-head : goal.value_step-step-requires-clause-head
value_step-step-requires-clause-head g c =
    let C = c.args.catalogue.now in
    let d = c.args.self.now in
    begins_in_room C (24 - length d.outer.items) 24 c.args.of.0
    (stands_at C d c.requires.fits (innermost.Number c.args.of) c.requires.leaf).fits.kind

pub value_step-step-requires-clause-fit : goal.value_step-step-requires-clause-fit
value_step-step-requires-clause-fit g c = (
  _,
  _,
  (stands_at c.args.catalogue.now c.args.self.now c.requires.fits (innermost.Number c.args.of)
      c.requires.leaf).fit,
)

pub value_step-step-requires-clause-whole : goal.value_step-step-requires-clause-whole
value_step-step-requires-clause-whole g c =
    let C = c.args.catalogue.now in
    let d = c.args.self.now in
    let head = begins_in_room C (24 - length d.outer.items) 24 c.args.of.0
    (stands_at C d c.requires.fits (innermost.Number c.args.of) c.requires.leaf).fits.kind in
    let all : length c.hold_number-count.new.carry ≡ c.leading_width-width.result =
    omega (
      arith,
      c.if-len-from.false,
      c.len.ensures.value,
      c.from.ensures,
      c.hold_number-count.ensures.size,
    ) in
    ap length c.as_slice.ensures.value ∙ (all ∙ c.leading_width-width.ensures.width 23 head)

pub complete_held_unit-requires-2 : goal.complete_held_unit-requires-2
complete_held_unit-requires-2 g c =
    let C = c.args.catalogue.now in
    let d = c.args.self.now in
    let s = c.hold_number-count in
    let v = c.value_step-step.ensures in (
      d,
      comes C d c.args.of c.args.octets.now c.args.coded.0 c.leading_width-width.result
          c.args.coded.1
          s.result s.new.carry c.clear.new.self c.value_step-step.result c.requires.fits
          c.requires.leaf c.requires.coded c.requires.ahead
          (width_in C d c.requires.fits c.args.of c.requires.leaf c.leading_width-width.result
          c.leading_width-width.ensures.width) s.ensures.stands
          (omega (arith, c.if-len-from.false, c.len.ensures.value, c.from.ensures, s.ensures.size))
          c.clear.ensures v.fits
          (rw c.as_slice.ensures.value at v.transitions),
    )

pub returns : goal.returns
returns g c =
    let C = c.args.catalogue.now in
    let d = c.args.self.now in
    let s = c.hold_number-count in
    let v = c.value_step-step.ensures in
    c.complete_held_unit-2.ensures d (comes C d c.args.of c.args.octets.now c.args.coded.0
    c.leading_width-width.result
    c.args.coded.1 s.result s.new.carry c.clear.new.self c.value_step-step.result c.requires.fits
    c.requires.leaf c.requires.coded c.requires.ahead
    (width_in C d c.requires.fits c.args.of c.requires.leaf c.leading_width-width.result
    c.leading_width-width.ensures.width) s.ensures.stands
    (omega (arith, c.if-len-from.false, c.len.ensures.value, c.from.ensures, s.ensures.size))
    c.clear.ensures v.fits
    (rw c.as_slice.ensures.value at v.transitions))
