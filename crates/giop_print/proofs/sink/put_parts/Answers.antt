use Rattle.std.proofs.Common.{arith}
use Rattle.std.proofs.lemmas.List.{take_all}
use Rattle.std.proofs.lemmas.Result.{err_from_is_err_and}
use Rattle.giop_print.proofs.sink.put_parts.Goals as goal
use Rattle.giop_print.proofs.Gathering.{gathered-front, but-parts, writes_left}

pub returns-in_err-gather_part : goal.returns-in_err-gather_part
returns-in_err-gather_part g c =
    let p = err_from_is_err_and c.from_residual.result c.from_residual.ensures.1 in
    rw (p.1) (gathered-front (λ part. part.now) _ _ _ _ c.args.parts.now c.loop-part.part-index _
    c.loop-part-test.true c.loop-part.invariant c.in_err-gather_part.ensures)

pub loop-part-preserved : goal.loop-part-preserved
loop-part-preserved g c =
    but-parts (λ part. part.now) _ _ _ _ _ c.args.parts.now c.loop-part.part-index _
    c.loop-part-test.true c.loop-part.invariant c.in_ok-gather_part.ensures

pub returns : goal.returns
returns g c =
    let w = rw (take_all c.loop-part.part-index c.args.parts.now
    (omega (arith, c.loop-part-test.false))) at c.loop-part.invariant in
    writes_left c.put_all.result _ _ _ _ _ w (rw c.as_slice.ensures.value at c.put_all.ensures)
