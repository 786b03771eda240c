use Rattle.std.proofs.Common.{◌≡◌, suc, ◌-◌, [], refl, ap, ◌∙◌, arith}
use Rattle.giop_decode.specs.ReadingSteps.{after_number}
use Rattle.giop_sig.specs.Trees.{tree_at}
use Rattle.giop_decode.proofs.Rooms.{held_of_room}
use Rattle.giop_decode.proofs.StepLaws.{held_silent}
use Rattle.giop_decode.proofs.TransitionLaws.{size_none, size_some}
use Rattle.giop_decode.proofs.encapsulation.length_step.Goals as goal

pub returns-then-n-eq0-clause-transitions : goal.returns-then-n-eq0-clause-transitions
returns-then-n-eq0-clause-transitions c room coding path at =
    let C = c.args.catalogue.now in
    rw c.if-n-eq0.true (record {
      lines = _;
      comes = size_none coding path at (tree_at C (suc room) c.args.of.0)
          (held_of_room C c.args.of.0 room c.requires.kind);
      says = refl;
    })

pub returns-clause-transitions : goal.returns-clause-transitions
returns-clause-transitions c room coding path at =
    let C = c.args.catalogue.now in
    let T = tree_at C (suc room) c.args.of.0 in
    let e : c.args.n ≡ suc (c.args.n - 1) = omega arith in
    record {
      lines = _;
      comes = ap (λ n. after_number coding path T n at []) e
          ∙ size_some coding path at T (c.args.n - 1)
          (held_of_room C c.args.of.0 room c.requires.kind);
      says = rw (← e) refl;
    }

pub returns-then-n-eq0-clause-fits : goal.returns-then-n-eq0-clause-fits
returns-then-n-eq0-clause-fits c room =
    let C = c.args.catalogue.now in
    record {
      transition_fits = tt;
      has_output = tt;
      output_fits_string = (
        refl,
        held_silent (tree_at C (suc room) c.args.of.0)
            (held_of_room C c.args.of.0 room c.requires.kind),
      );
      string_goes_on = λ n. tt;
    }
