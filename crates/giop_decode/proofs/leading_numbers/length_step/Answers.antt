use Rattle.std.proofs.Common.{◌≡◌, suc, ◌-◌, [], refl, ap, ◌∙◌, arith}
use Rattle.giop_decode.specs.ReadingSteps.{after_number}
use Rattle.giop_sig.specs.Trees.{tree_at}
use Rattle.giop_sig.specs.declared.types.Shape.TheVariants as shapes
use Rattle.giop_decode.proofs.Rooms.{shape_of_room}
use Rattle.giop_decode.proofs.StepLaws.{piece_ended, text_empty, text_over}
use Rattle.giop_decode.proofs.TransitionLaws.{text_open}
use Rattle.giop_decode.proofs.leading_numbers.length_step.Goals as goal

pub returns-clause-transitions : goal.returns-clause-transitions
returns-clause-transitions c room coding path at =
    let C = c.args.catalogue.now in
    let T = tree_at C (suc room) c.args.of.0 in
    let e : c.args.n ≡ suc (c.args.n - 1) = omega arith in
    record {
      lines = [];
      comes = ap (λ n. after_number coding path T n at []) e
          ∙ text_open coding path T at c.args.bound (c.args.n - 1)
          (shape_of_room C c.args.of.0 room (shapes.Text c.args.bound) c.requires)
          c.if-exceeds.ensures;
      says = refl;
    }

pub returns-then-n-eq0-clause-fits : goal.returns-then-n-eq0-clause-fits
returns-then-n-eq0-clause-fits c room =
    let C = c.args.catalogue.now in
    let T = tree_at C (suc room) c.args.of.0 in
    let is = shape_of_room C c.args.of.0 room (shapes.Text c.args.bound) c.requires in
    rw c.empty_piece.ensures (piece_ended T c.args.of.0 (rw is tt))

pub returns-then-n-eq0-clause-transitions : goal.returns-then-n-eq0-clause-transitions
returns-then-n-eq0-clause-transitions c room coding path at =
    let C = c.args.catalogue.now in
    record {
      lines = _;
      comes = text_empty coding path (tree_at C (suc room) c.args.of.0) at c.args.bound c.args.n
          (shape_of_room C c.args.of.0 room (shapes.Text c.args.bound) c.requires)
          c.if-n-eq0.true;
      says = rw c.empty_piece.ensures refl;
    }

pub returns-then-exceeds-clause-fits : goal.returns-then-exceeds-clause-fits
returns-then-exceeds-clause-fits c room =
    let C = c.args.catalogue.now in
    let is = shape_of_room C c.args.of.0 room (shapes.Text c.args.bound) c.requires in
    record {
      transition_fits = tt;
      has_output = tt;
      output_fits_string = rw is refl;
      string_goes_on = λ n. tt;
    }

pub returns-then-exceeds-clause-transitions : goal.returns-then-exceeds-clause-transitions
returns-then-exceeds-clause-transitions c room coding path at =
    let C = c.args.catalogue.now in
    let T = tree_at C (suc room) c.args.of.0 in
    let e : c.args.n ≡ suc (c.args.n - 1) = omega arith in
    record {
      lines = [];
      comes = ap (λ n. after_number coding path T n at []) e
          ∙ text_over coding path T at c.args.bound (c.args.n - 1)
          (shape_of_room C c.args.of.0 room (shapes.Text c.args.bound) c.requires)
          c.if-exceeds.ensures;
      says = refl;
    }

pub returns-clause-fits : goal.returns-clause-fits
returns-clause-fits c room =
    let C = c.args.catalogue.now in
    let is = shape_of_room C c.args.of.0 room (shapes.Text c.args.bound) c.requires in
    record {
      transition_fits = (refl, refl);
      has_output = tt;
      output_fits_string = rw is refl;
      string_goes_on = λ n. (refl, rw is refl);
    }
