use Rattle.std.proofs.Common.{suc, refl, arith}
use Rattle.giop_sig.specs.Trees.{tree_at}
use Rattle.giop_sig.specs.declared.types.Shape.TheVariants as shapes
use Rattle.giop_decode.proofs.Rooms.{fit_of_room, shape_of_room}
use Rattle.giop_decode.specs.declared.progress.ValueFault.TheVariants as kinds
use Rattle.giop_decode.proofs.StepLaws.{refused_fits, refused_gives, recursive_over}
use Rattle.giop_decode.proofs.TransitionLaws.{recursive_empty, recursive_open}
use Rattle.giop_decode.proofs.leading_numbers.recursive_step.Goals as goal

pub returns-then-n-eq0-clause-transitions : goal.returns-then-n-eq0-clause-transitions
returns-then-n-eq0-clause-transitions c room coding path at =
    let C = c.args.catalogue.now in
    let is = shape_of_room C c.args.of.0 room (shapes.Recursive c.args.most) c.requires.is in
    record {
      lines = _;
      comes = recursive_empty coding path (tree_at C (suc room) c.args.of.0) at c.args.most is.0
          is.1 c.args.n is.2 c.if-exceeds.ensures c.if-n-eq0.true;
      says = refl;
    }

pub returns-clause-transitions : goal.returns-clause-transitions
returns-clause-transitions c room coding path at =
    let C = c.args.catalogue.now in
    let is = shape_of_room C c.args.of.0 room (shapes.Recursive c.args.most) c.requires.is in
    record {
      lines = _;
      comes = recursive_open coding path (tree_at C (suc room) c.args.of.0) at
          (suc (suc (suc room))) c.args.most is.0 is.1 c.args.n
          (fit_of_room C c.args.of.0 room c.requires.fit.0 c.requires.fit.1
          c.laws.ensures c.requires.fit.2)
          is.2 c.if-exceeds.ensures (omega arith);
      says = refl;
    }

pub returns-then-exceeds-clause-fits : goal.returns-then-exceeds-clause-fits
returns-then-exceeds-clause-fits c room =
    let C = c.args.catalogue.now in
    let is = shape_of_room C c.args.of.0 room (shapes.Recursive c.args.most) c.requires.is in
    refused_fits (tree_at C (suc room) c.args.of.0) c.args.of.0 c.refused_step.result kinds.Bound
    c.refused_step.ensures.transition c.refused_step.ensures.output tt (rw is.2 refl)

pub returns-then-exceeds-clause-transitions : goal.returns-then-exceeds-clause-transitions
returns-then-exceeds-clause-transitions c room coding path at =
    let C = c.args.catalogue.now in
    let T = tree_at C (suc room) c.args.of.0 in
    let is = shape_of_room C c.args.of.0 room (shapes.Recursive c.args.most) c.requires.is in
    refused_gives T c.refused_step.result kinds.Bound path at _ c.refused_step.ensures.transition
    c.refused_step.ensures.output (recursive_over coding path T at c.args.most is.0 is.1 c.args.n
    is.2 c.if-exceeds.ensures)

pub returns-clause-fits : goal.returns-clause-fits
returns-clause-fits c room =
    let C = c.args.catalogue.now in
    let is = shape_of_room C c.args.of.0 room (shapes.Recursive c.args.most) c.requires.is in
    record {
      transition_fits = (rw is.2 tt, omega arith);
      has_output = tt;
      output_fits_string = (refl, refl);
      string_goes_on = λ n. (refl, refl);
    }
