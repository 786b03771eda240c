use Rattle.std.proofs.Common.{◌<◌, length, rules, arith}
use Rattle.std.proofs.lemmas.Result.{err_from_is_err_and}
use Rattle.giop_print.proofs.sink.Out.put_all.Goals as goal
use Rattle.giop_print.proofs.Writing.{rest-took, front-failed, rest_from}

pub returns-in_err-taken : goal.returns-in_err-taken
returns-in_err-taken g c =
    let p = err_from_is_err_and c.from_residual.result c.from_residual.ensures.1 in
    let left = c.loop-rest.invariant in
    let some : 0 < length c.loop-rest.rest.now = search rules in
    rw (p.1) (front-failed _ _ _ _ _ (omega (arith, left.within)) left.wrote
    c.in_err-taken.ensures)

pub loop-rest-preserved : goal.loop-rest-preserved
loop-rest-preserved g c =
    let took = c.in_ok-taken.ensures in
    let some : 0 < length c.loop-rest.rest.now = search rules in
    rw (rest_from c.in_ok-taken.taken c.loop-rest.rest.now)
    (rest-took _ _ _ _ _ _ some c.loop-rest.invariant took)
