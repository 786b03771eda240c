use Rattle.std.proofs.Common.{suc, [], refl, arith}
use Rattle.giop_sig.specs.Trees.{tree_at}
use Rattle.giop_decode.proofs.Rooms.{octets_of_room}
use Rattle.giop_decode.specs.declared.progress.ValueFault.TheVariants as kinds
use Rattle.giop_decode.proofs.StepLaws.{octets_over, piece_ended, refused_fits, refused_gives}
use Rattle.giop_decode.proofs.TransitionLaws.{octets_empty, octets_open}
use Rattle.giop_decode.proofs.leading_numbers.size_step.Goals as goal

pub returns-then-n-eq0-clause-transitions : goal.returns-then-n-eq0-clause-transitions
returns-then-n-eq0-clause-transitions c room coding path at =
    let C = c.args.catalogue.now in
    record {
      lines = _;
      comes = octets_empty coding path (tree_at C (suc room) c.args.of.0) at c.requires.0 c.args.n
          (octets_of_room C c.args.of.0 room c.requires.0 c.requires.1)
          (rw c.requires.2 c.if-exceeds.ensures) c.if-n-eq0.true;
      says = rw c.empty_piece.ensures refl;
    }

pub returns-clause-transitions : goal.returns-clause-transitions
returns-clause-transitions c room coding path at =
    let C = c.args.catalogue.now in
    record {
      lines = [];
      comes = octets_open coding path (tree_at C (suc room) c.args.of.0) at c.requires.0 c.args.n
          (octets_of_room C c.args.of.0 room c.requires.0 c.requires.1)
          (rw c.requires.2 c.if-exceeds.ensures) (omega arith);
      says = refl;
    }

pub returns-then-exceeds-clause-fits : goal.returns-then-exceeds-clause-fits
returns-then-exceeds-clause-fits c room =
    let C = c.args.catalogue.now in
    let is = octets_of_room C c.args.of.0 room c.requires.0 c.requires.1 in
    refused_fits (tree_at C (suc room) c.args.of.0) c.args.of.0 c.refused_step.result kinds.Bound
    c.refused_step.ensures.transition c.refused_step.ensures.output tt (rw is refl)

pub returns-then-exceeds-clause-transitions : goal.returns-then-exceeds-clause-transitions
returns-then-exceeds-clause-transitions c room coding path at =
    let C = c.args.catalogue.now in
    let T = tree_at C (suc room) c.args.of.0 in
    refused_gives T c.refused_step.result kinds.Bound path at _ c.refused_step.ensures.transition
    c.refused_step.ensures.output (octets_over coding path T at c.requires.0 c.args.n
    (octets_of_room C c.args.of.0 room c.requires.0 c.requires.1)
    (rw c.requires.2 c.if-exceeds.ensures))

pub returns-then-n-eq0-clause-fits : goal.returns-then-n-eq0-clause-fits
returns-then-n-eq0-clause-fits c room =
    let C = c.args.catalogue.now in
    let T = tree_at C (suc room) c.args.of.0 in
    let is = octets_of_room C c.args.of.0 room c.requires.0 c.requires.1 in
    rw c.empty_piece.ensures (piece_ended T c.args.of.0 (rw is tt))

pub returns-clause-fits : goal.returns-clause-fits
returns-clause-fits c room =
    let C = c.args.catalogue.now in
    let is = octets_of_room C c.args.of.0 room c.requires.0 c.requires.1 in
    record {
      transition_fits = (refl, refl);
      has_output = tt;
      output_fits_string = rw is refl;
      string_goes_on = λ n. rw is refl;
    }
