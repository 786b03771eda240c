use Rattle.std.proofs.Common.{◌<◌, ◌∙◌, length, rules, arith}
use Rattle.std.proofs.lemmas.Result.{err_from_is_err_and}
use Rattle.giop_print.proofs.Writing.{rest-took, front-failed, rest_from}
use Rattle.giop_conversation.proofs.FailingBelow.{lost}
use Rattle.giop_conversation.proofs.tagged.TaggedOut.put_all.Goals as goal

pub returns-in_err-taken-clause-does : goal.returns-in_err-taken-clause-does
returns-in_err-taken-clause-does g c =
    let p = err_from_is_err_and c.from_residual.result c.from_residual.ensures.1 in
    let left = c.loop-rest.invariant.left in
    let some : 0 < length c.loop-rest.rest.now = search rules in
    rw (p.1) (front-failed _ _ _ _ _ (omega (arith, left.within)) left.wrote
    c.in_err-taken.ensures.does)

pub returns-in_err-taken-clause-cause : goal.returns-in_err-taken-clause-cause
returns-in_err-taken-clause-cause g c =
    let p = err_from_is_err_and c.from_residual.result c.from_residual.ensures.1 in
    rw (p.1) (lost _ _ _ _ _ _ _ _ c.loop-rest.invariant.none
    (omega (arith, c.loop-rest.invariant.left.within)) c.in_err-taken.ensures.cause)

pub loop-rest-preserved : goal.loop-rest-preserved
loop-rest-preserved g c =
    let took = c.in_ok-taken.ensures.does in
    let some : 0 < length c.loop-rest.rest.now = search rules in
    record {
      left = rw (rest_from c.in_ok-taken.taken c.loop-rest.rest.now)
          (rest-took _ _ _ _ _ _ some c.loop-rest.invariant.left took);
      none = c.in_ok-taken.ensures.cause ∙ c.loop-rest.invariant.none;
    }
