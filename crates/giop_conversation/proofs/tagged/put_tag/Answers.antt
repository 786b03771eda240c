use Rattle.std.proofs.Common.{◌∙◌, ◌≤◌, ◌-◌, length, ap, arith, length-drop}
use Rattle.giop_print.specs.Output.{saturating_next}
use Rattle.giop_print.proofs.Writing.{rest_from}
use Rattle.giop_conversation.proofs.TaggedLemmas.{tag_step_in}
use Rattle.giop_conversation.proofs.tagged.put_tag.Goals as goal

pub loop-due-preserved : goal.loop-due-preserved
loop-due-preserved g c =
    let start = length c.args.tag.now - c.loop-due.due in
    let put = rw (rest_from start c.args.tag.now) at c.in-Ok.ensures.does in
    let l = length-drop start c.args.tag.now in
    let few : c.in-Ok.taken ≤ c.loop-due.due =
    omega (arith, l, put.within, c.loop-due.invariant.within) in
    record {
      within = omega (arith, c.loop-due.invariant.within);
      count = omega (arith, few, put.counted, c.loop-due.invariant.count);
      none = c.in-Ok.ensures.cause ∙ c.loop-due.invariant.none;
      stands = λ before text stands.
          rw put.counted (tag_step_in _ _ before c.args.tag.now c.loop-due.since text c.loop-due.due
          c.in-Ok.taken
          (c.loop-due.invariant.stands before text stands) c.loop-due-test.true few put.written);
    }

pub returns-in-Err-clause-cause : goal.returns-in-Err-clause-cause
returns-in-Err-clause-cause g c =
    c.in-Err.ensures.cause ∙ ap saturating_next c.loop-due.invariant.none
