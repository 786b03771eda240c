use Rattle.std.proofs.Common.{suc, [], refl, ap, arith}
use Rattle.giop_cdr.specs.declared.order.Order.TheVariants.{Big, Little}
use Rattle.giop_decode.specs.Reading.{order_of}
use Rattle.giop_sig.specs.Trees.{tree_at}
use Rattle.giop_decode.proofs.Rooms.{fit_of_room, held_of_room}
use Rattle.giop_decode.specs.declared.progress.ValueFault.TheVariants as kinds
use Rattle.giop_decode.proofs.StepLaws.{entered_fits, held_silent, refused_fits}
use Rattle.giop_decode.proofs.TransitionLaws.{order_bad, order_transition, no_order}
use Rattle.giop_decode.proofs.encapsulation.order_step.Goals as goal

pub returns-in-0-clause-transitions : goal.returns-in-0-clause-transitions
returns-in-0-clause-transitions c room coding path here =
    let C = c.args.catalogue.now in
    rw (c.entered_step.ensures.transition, c.entered_step.ensures.output)
    (order_transition coding path (tree_at C (suc room) c.args.of.0) c.args.count here c.args.octet
    (suc (suc (suc room))) Big
    (fit_of_room C c.args.of.0 room c.requires.fit.0 c.requires.fit.1 c.laws.ensures
    c.requires.fit.2)
    (held_of_room C c.args.of.0 room c.requires.kind) (ap order_of c.in-0.is))

pub returns-in-1-clause-transitions : goal.returns-in-1-clause-transitions
returns-in-1-clause-transitions c room coding path here =
    let C = c.args.catalogue.now in
    rw (c.entered_step-in-1.ensures.transition, c.entered_step-in-1.ensures.output)
    (order_transition coding path (tree_at C (suc room) c.args.of.0) c.args.count here c.args.octet
    (suc (suc (suc room))) Little
    (fit_of_room C c.args.of.0 room c.requires.fit.0 c.requires.fit.1 c.laws.ensures
    c.requires.fit.2)
    (held_of_room C c.args.of.0 room c.requires.kind) (ap order_of c.in-1.is))

pub returns-in_default-clause-transitions : goal.returns-in_default-clause-transitions
returns-in_default-clause-transitions c room coding path here =
    let C = c.args.catalogue.now in
    rw (c.refused_step.ensures.transition, c.refused_step.ensures.output)
    (record {
      lines = [];
      comes = order_bad coding path (tree_at C (suc room) c.args.of.0) c.args.count here
          c.args.octet
          (no_order c.args.octet (λ z. absurd (omega (arith, c.in_default, z)))
          (λ z. absurd (omega (arith, c.in_default, z))));
      says = refl;
    })

pub returns-in-0-clause-fits : goal.returns-in-0-clause-fits
returns-in-0-clause-fits c room =
    let C = c.args.catalogue.now in
    entered_fits (tree_at C (suc room) c.args.of.0) c.args.of.0 c.entered_step.result Big
    c.args.count c.entered_step.ensures.transition c.entered_step.ensures.output
    (held_of_room C c.args.of.0 room c.requires.kind) c.requires.some

pub returns-in-1-clause-fits : goal.returns-in-1-clause-fits
returns-in-1-clause-fits c room =
    let C = c.args.catalogue.now in
    let e = c.entered_step-in-1 in
    entered_fits (tree_at C (suc room) c.args.of.0) c.args.of.0 e.result Little c.args.count
    e.ensures.transition e.ensures.output (held_of_room C c.args.of.0 room c.requires.kind)
    c.requires.some

pub returns-in_default-clause-fits : goal.returns-in_default-clause-fits
returns-in_default-clause-fits c room =
    let C = c.args.catalogue.now in
    let T = tree_at C (suc room) c.args.of.0 in
    refused_fits T c.args.of.0 c.refused_step.result kinds.EncapOrder
    c.refused_step.ensures.transition c.refused_step.ensures.output tt
    (held_silent T (held_of_room C c.args.of.0 room c.requires.kind))
