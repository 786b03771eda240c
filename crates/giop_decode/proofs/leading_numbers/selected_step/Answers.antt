use Rattle.std.proofs.Common.{suc, refl, sym}
use Rattle.giop_sig.specs.Trees.{tree_at}
use Rattle.giop_sig.specs.Types.{switch_of}
use Rattle.giop_decode.proofs.Rooms.{fit_of_room, member_of_room, number_of_room, union_of_room}
use Rattle.giop_decode.specs.declared.progress.ValueFault.TheVariants as kinds
use Rattle.giop_decode.proofs.StepLaws.{refused_fits, union_silent}
use Rattle.giop_decode.proofs.TransitionLaws.{member_case, case_transition, turns_nothing, turns_refused, taken_number}
use Rattle.giop_decode.proofs.leading_numbers.selected_step.Goals as goal

pub returns-in-Case-clause-fits : goal.returns-in-Case-clause-fits
returns-in-Case-clause-fits c room =
    let C = c.args.catalogue.now in
    let i = c.in-Case.i in
    record {
      transition_fits = member_case (tree_at C (suc room) c.args.of.0) i
          (union_of_room C c.args.of.0 room c.requires.union)
          (member_of_room C c.args.of.0 room i (c.in-Case.ensures.index i refl));
      has_output = (
        union_of_room C c.args.of.0 room c.requires.union,
        number_of_room C c.args.of.0 room c.args.number c.laws.ensures c.requires.known
            c.requires.union c.requires.number,
      );
      output_fits_string = (refl, refl);
      string_goes_on = λ n. (refl, refl);
    }

pub returns-in-Case-clause-transitions : goal.returns-in-Case-clause-transitions
returns-in-Case-clause-transitions c was room coding path at =
    let C = c.args.catalogue.now in
    let T = tree_at C (suc room) c.args.of.0 in
    let is = number_of_room C c.args.of.0 room c.args.number c.laws.ensures c.requires.known
    c.requires.union was in
    case_transition coding path at c.args.number (suc (suc (suc room))) T c.in-Case.i is
    (fit_of_room C c.args.of.0 room c.requires.fit.0 c.requires.fit.1
    c.laws.ensures c.requires.fit.2)
    (union_of_room C c.args.of.0 room c.requires.union)
    (sym (c.in-Case.ensures.rooms (suc room) is.n
    (taken_number (switch_of T) (switch_of T) c.args.number is refl)))
    (returns-in-Case-clause-fits c room).transition_fits

pub returns-in-Nothing-clause-transitions : goal.returns-in-Nothing-clause-transitions
returns-in-Nothing-clause-transitions c was room coding path at =
    let C = c.args.catalogue.now in
    let T = tree_at C (suc room) c.args.of.0 in
    let is = number_of_room C c.args.of.0 room c.args.number c.laws.ensures c.requires.known
    c.requires.union was in
    turns_nothing coding path at c.args.number T is
    (union_of_room C c.args.of.0 room c.requires.union)
    (sym (c.in-Nothing.ensures.rooms (suc room) is.n
    (taken_number (switch_of T) (switch_of T) c.args.number is refl)))

pub returns-in-Refused-clause-transitions : goal.returns-in-Refused-clause-transitions
returns-in-Refused-clause-transitions c was room coding path at =
    let C = c.args.catalogue.now in
    let T = tree_at C (suc room) c.args.of.0 in
    let is = number_of_room C c.args.of.0 room c.args.number c.laws.ensures c.requires.known
    c.requires.union was in
    rw (c.refused_step.ensures.transition, c.refused_step.ensures.output)
    (turns_refused coding path at c.args.number T is
    (union_of_room C c.args.of.0 room c.requires.union)
    (sym (c.in-Refused.ensures.rooms (suc room) is.n
    (taken_number (switch_of T) (switch_of T) c.args.number is refl))))

pub returns-in-Nothing-clause-fits : goal.returns-in-Nothing-clause-fits
returns-in-Nothing-clause-fits c room =
    let C = c.args.catalogue.now in
    record {
      transition_fits = tt;
      has_output = (
        union_of_room C c.args.of.0 room c.requires.union,
        number_of_room C c.args.of.0 room c.args.number c.laws.ensures c.requires.known
            c.requires.union c.requires.number,
      );
      output_fits_string = (refl, refl);
      string_goes_on = λ n. (refl, refl);
    }

pub returns-in-Refused-clause-fits : goal.returns-in-Refused-clause-fits
returns-in-Refused-clause-fits c room =
    let C = c.args.catalogue.now in
    let T = tree_at C (suc room) c.args.of.0 in
    refused_fits T c.args.of.0 c.refused_step.result kinds.Disposition
    c.refused_step.ensures.transition c.refused_step.ensures.output tt
    (union_silent T (union_of_room C c.args.of.0 room c.requires.union))
