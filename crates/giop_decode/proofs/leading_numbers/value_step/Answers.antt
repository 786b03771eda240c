use Rattle.std.proofs.Common.{◌≡◌, suc, Some, None, refl, ◌∙◌, arith, rules}
use Rattle.giop_sig.specs.Trees.{tree, tree_at}
use Rattle.giop_cdr.specs.Numbers.{num}
use Rattle.giop_decode.specs.declared.progress.ValueFault.TheVariants as kinds
use Rattle.giop_decode.specs.Reading.{number_fault}
use Rattle.giop_decode.proofs.MarkedNumbers.{marked_wrong, number_marked}
use Rattle.giop_decode.proofs.StepLaws.{refused_fits, refused_gives}
use Rattle.giop_sig.specs.Types.{Marked}
use Rattle.giop_decode.proofs.TransitionLaws.{prim_bound, number_prim, number_enum, turns_number}
use Rattle.giop_decode.proofs.leading_numbers.value_step.Goals as goal

pub returns-in-Ok-clause-fits : goal.returns-in-Ok-clause-fits
returns-in-Ok-clause-fits c room =
    let C = c.args.catalogue.now in
    let S = tree C c.args.of.0 in
    let T = tree_at C (suc room) c.args.of.0 in
    record {
      transition_fits = search rules;
      has_output = number_prim T c.in-Prim.prim (num c.args.order c.args.octets.now) c.in-Ok.number
          (c.in-Prim.ensures.shapes (suc room)) c.in-Ok.ensures.ok
          (prim_bound S c.in-Prim.prim c.args.order c.args.octets.now c.in-Prim.ensures.shape
          c.requires.whole c.number_of.ensures.octets);
      output_fits_string = search rules;
      string_goes_on = search rules;
    }

pub returns-in-Ok-clause-transitions : goal.returns-in-Ok-clause-transitions
unfolding num returns-in-Ok-clause-fits
returns-in-Ok-clause-transitions c room coding path at =
    turns_number coding path (tree_at c.args.catalogue.now (suc room) c.args.of.0) at
    c.in-Ok.number (returns-in-Ok-clause-fits c room).has_output

pub returns-else-n-count-clause-transitions : goal.returns-else-n-count-clause-transitions
returns-else-n-count-clause-transitions c room coding path at =
    let C = c.args.catalogue.now in
    let T = tree_at C (suc room) c.args.of.0 in
    let s = c.in-Enumeration.ensures.shapes (suc room) in
    let e = c.from.ensures ∙ c.long_of-n.ensures in
    rw (← e) (turns_number coding path T at _
    (number_enum T c.in-Enumeration.count s.0 c.from.result s.1 (omega arith) (omega arith)))

pub returns-else-is_unnamed-clause-fits : goal.returns-else-is_unnamed-clause-fits
returns-else-is_unnamed-clause-fits c room =
    let mark = c.in-Marked.mark in
    let right : number_fault (Marked mark) c.from-in-Marked.result ≡ None =
    rw c.from-in-Marked.ensures c.if-is_unnamed.ensures in
    record {
      transition_fits = search rules;
      has_output = number_marked (tree_at c.args.catalogue.now (suc room) c.args.of.0) mark
          c.from-in-Marked.result (c.in-Marked.ensures.shapes (suc room)) right (omega arith);
      output_fits_string = search rules;
      string_goes_on = search rules;
    }

pub returns-else-is_unnamed-clause-transitions : goal.returns-else-is_unnamed-clause-transitions
returns-else-is_unnamed-clause-transitions c room coding path at =
    let T = tree_at c.args.catalogue.now (suc room) c.args.of.0 in
    let mark = c.in-Marked.mark in
    let e = c.from-in-Marked.ensures ∙ c.long_of-n-in-Marked.ensures in
    let right : number_fault (Marked mark) c.from-in-Marked.result ≡ None =
    rw c.from-in-Marked.ensures c.if-is_unnamed.ensures in
    rw (← e) (turns_number coding path T at _
    (number_marked T mark c.from-in-Marked.result (c.in-Marked.ensures.shapes (suc room)) right
    (omega arith)))

pub returns-then-is_unnamed-clause-fits : goal.returns-then-is_unnamed-clause-fits
returns-then-is_unnamed-clause-fits c room =
    let T = tree_at c.args.catalogue.now (suc room) c.args.of.0 in
    let r = c.refused_step-then-is_unnamed in
    refused_fits T c.args.of.0 r.result kinds.Enum r.ensures.transition r.ensures.output tt
    (rw (c.in-Marked.ensures.shapes (suc room)) refl)

pub returns-then-is_unnamed-clause-transitions : goal.returns-then-is_unnamed-clause-transitions
returns-then-is_unnamed-clause-transitions c room coding path at =
    let T = tree_at c.args.catalogue.now (suc room) c.args.of.0 in
    let r = c.refused_step-then-is_unnamed in
    let mark = c.in-Marked.mark in
    let bad : number_fault (Marked mark) (num c.args.order c.args.octets.now) ≡ Some kinds.Enum =
    rw (← c.long_of-n-in-Marked.ensures) c.if-is_unnamed.ensures in
    refused_gives T r.result kinds.Enum path at _ r.ensures.transition r.ensures.output
    (marked_wrong coding path T at mark (num c.args.order c.args.octets.now)
    (c.in-Marked.ensures.shapes (suc room)) bad)

pub unreachable-unreachable-in-Led : goal.unreachable-unreachable-in-Led
unreachable-unreachable-in-Led c = absurd (rw c.in-Led.ensures.shape.3 at c.requires.head)
