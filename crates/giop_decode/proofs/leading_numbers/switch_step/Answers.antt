use Rattle.std.proofs.Common.{◌≡◌, suc, ◌≤◌, Some, None, refl, sym, ◌∙◌, arith}
use Rattle.giop_sig.specs.Trees.{tree, tree_at}
use Rattle.giop_sig.specs.Types.{Plain, Enum, Marked, switch_of}
use Rattle.giop_cdr.specs.Numbers.{num}
use Rattle.giop_decode.specs.declared.progress.ValueFault.TheVariants as kinds
use Rattle.giop_decode.specs.Reading.{number_fault}
use Rattle.giop_decode.proofs.MarkedNumbers.{number_marked}
use Rattle.giop_decode.proofs.Rooms.{union_of_room}
use Rattle.giop_decode.proofs.StepLaws.{refused_fits, refused_gives, switch_wrong, union_silent, wrong_boolean, wrong_enum}
use Rattle.giop_decode.proofs.TransitionLaws.{number_switch, number_enum}
use Rattle.giop_decode.proofs.leading_numbers.switch_step.Goals as goal

pub selected_step-requires-clause-number : goal.selected_step-requires-clause-number
selected_step-requires-clause-number c =
    number_switch (tree c.args.catalogue.now c.args.of.0) c.in-Prim.prim c.args.order
    c.args.octets.now c.in-Ok.number c.requires.union
    (rw c.switch_type.ensures.tree at c.in-Prim.ensures.shape) c.in-Ok.ensures.ok c.requires.whole
    c.number_of.ensures.octets

pub returns-in-Ok-clause-transitions : goal.returns-in-Ok-clause-transitions
returns-in-Ok-clause-transitions c room coding path at =
    c.selected_step.ensures.transitions
    (number_switch (tree c.args.catalogue.now c.args.of.0) c.in-Prim.prim c.args.order
    c.args.octets.now c.in-Ok.number c.requires.union
    (rw c.switch_type.ensures.tree at c.in-Prim.ensures.shape) c.in-Ok.ensures.ok c.requires.whole
    c.number_of.ensures.octets)
    room coding path at

pub returns-else-label-count-clause-transitions : goal.returns-else-label-count-clause-transitions
returns-else-label-count-clause-transitions c room coding path at =
    let S = switch_of (tree c.args.catalogue.now c.args.of.0) in
    let s = rw c.switch_type.ensures.tree at c.in-Enumeration.ensures.shape in
    let e = c.from.ensures ∙ c.long_of-label.ensures in
    rw (← e) (c.selected_step-in-Enumeration.ensures.transitions
    (number_enum S c.in-Enumeration.count s.0 c.from.result s.1 (omega arith) (omega arith))
    room coding path at)

pub returns-then-label-count-clause-fits : goal.returns-then-label-count-clause-fits
returns-then-label-count-clause-fits c room =
    let C = c.args.catalogue.now in
    let T = tree_at C (suc room) c.args.of.0 in
    let r = c.refused_step-then-label-count in
    refused_fits T c.args.of.0 r.result kinds.Enum r.ensures.transition r.ensures.output tt
    (union_silent T (union_of_room C c.args.of.0 room c.requires.union))

pub returns-then-label-count-clause-transitions : goal.returns-then-label-count-clause-transitions
returns-then-label-count-clause-transitions c room coding path at =
    let C = c.args.catalogue.now in
    let T = tree_at C (suc room) c.args.of.0 in
    let r = c.refused_step-then-label-count in
    let s = c.in-Enumeration.ensures.shape in
    let great : c.in-Enumeration.count ≤ num c.args.order c.args.octets.now =
    omega (arith, c.if-label-count.true, c.long_of-label.ensures) in
    refused_gives T r.result kinds.Enum path at _ r.ensures.transition r.ensures.output
    (switch_wrong coding path T at (Enum c.in-Enumeration.count s.0) _ kinds.Enum
    (union_of_room C c.args.of.0 room c.requires.union)
    (sym (c.switch_type.ensures.rooms 24 room) ∙ s.1)
    (wrong_enum c.in-Enumeration.count s.0 _ great))

pub returns-in-Err-clause-fits : goal.returns-in-Err-clause-fits
returns-in-Err-clause-fits c room =
    let C = c.args.catalogue.now in
    let T = tree_at C (suc room) c.args.of.0 in
    refused_fits T c.args.of.0 c.refused_step.result kinds.Boolean c.refused_step.ensures.transition
    c.refused_step.ensures.output tt
    (union_silent T (union_of_room C c.args.of.0 room c.requires.union))

pub returns-in-Err-clause-transitions : goal.returns-in-Err-clause-transitions
returns-in-Err-clause-transitions c room coding path at =
    let C = c.args.catalogue.now in
    let T = tree_at C (suc room) c.args.of.0 in
    let bad = c.in-Err.ensures.err.0 refl in
    refused_gives T c.refused_step.result kinds.Boolean path at _ c.refused_step.ensures.transition
    c.refused_step.ensures.output
    (switch_wrong coding path T at (Plain c.in-Prim.prim) _ kinds.Boolean
    (union_of_room C c.args.of.0 room c.requires.union)
    (sym (c.switch_type.ensures.rooms 24 room) ∙ c.in-Prim.ensures.shape)
    (wrong_boolean c.in-Prim.prim _ bad.0 bad.1))

pub selected_step-requires-in-Marked-clause-number :
    goal.selected_step-requires-in-Marked-clause-number
selected_step-requires-in-Marked-clause-number c =
    let mark = c.in-Marked.mark in
    let right : number_fault (Marked mark) c.from-in-Marked.result ≡ None =
    rw c.from-in-Marked.ensures c.if-is_unnamed.ensures in
    number_marked (switch_of (tree c.args.catalogue.now c.args.of.0)) mark c.from-in-Marked.result
    (rw c.switch_type.ensures.tree at c.in-Marked.ensures.shape) right (omega arith)

pub returns-else-is_unnamed-clause-transitions : goal.returns-else-is_unnamed-clause-transitions
returns-else-is_unnamed-clause-transitions c room coding path at =
    let mark = c.in-Marked.mark in
    let e = c.from-in-Marked.ensures ∙ c.long_of-kind.ensures in
    let right : number_fault (Marked mark) c.from-in-Marked.result ≡ None =
    rw c.from-in-Marked.ensures c.if-is_unnamed.ensures in
    rw (← e) (c.selected_step-in-Marked.ensures.transitions
    (number_marked (switch_of (tree c.args.catalogue.now c.args.of.0)) mark c.from-in-Marked.result
    (rw c.switch_type.ensures.tree at c.in-Marked.ensures.shape) right (omega arith))
    room coding path at)

pub returns-then-is_unnamed-clause-fits : goal.returns-then-is_unnamed-clause-fits
returns-then-is_unnamed-clause-fits c room =
    let C = c.args.catalogue.now in
    let T = tree_at C (suc room) c.args.of.0 in
    let r = c.refused_step-then-is_unnamed in
    refused_fits T c.args.of.0 r.result kinds.Enum r.ensures.transition r.ensures.output tt
    (union_silent T (union_of_room C c.args.of.0 room c.requires.union))

pub returns-then-is_unnamed-clause-transitions : goal.returns-then-is_unnamed-clause-transitions
returns-then-is_unnamed-clause-transitions c room coding path at =
    let C = c.args.catalogue.now in
    let T = tree_at C (suc room) c.args.of.0 in
    let r = c.refused_step-then-is_unnamed in
    let mark = c.in-Marked.mark in
    let bad : number_fault (Marked mark) (num c.args.order c.args.octets.now) ≡ Some kinds.Enum =
    rw (← c.long_of-kind.ensures) c.if-is_unnamed.ensures in
    refused_gives T r.result kinds.Enum path at _ r.ensures.transition r.ensures.output
    (switch_wrong coding path T at (Marked mark) _ kinds.Enum
    (union_of_room C c.args.of.0 room c.requires.union)
    (sym (c.switch_type.ensures.rooms 24 room) ∙ c.in-Marked.ensures.shape) bad)
