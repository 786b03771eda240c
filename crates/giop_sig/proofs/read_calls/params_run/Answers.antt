use Rattle.std.proofs.Common.{Err, sym, ap, ◌∙◌}
use Rattle.std.proofs.lemmas.Result.{err_from_is_err_and}
use Rattle.giop_tokens.specs.Reading.{◌>>=◌}
use Rattle.giop_sig.specs.CallReading.{param_step, too_many_params, params_read}
use Rattle.giop_sig.proofs.RepeatLaws.{goes_on, ends, fails, limited, stops_on}
use Rattle.giop_sig.proofs.read_calls.params_run.Goals as goal

pub returns-in_err-closed : goal.returns-in_err-closed
returns-in_err-closed c =
    let p = err_from_is_err_and c.from_residual.result c.from_residual.ensures.1 in
    rw (p.1, p.2) (stops_on c.in_err-closed.field-0.0 _ params_read
    (fails param_step too_many_params 256 c.loop.counter _ _ c.loop.invariant
    c.loop-test.true c.in_err-closed.field-0.0 c.in_err-closed.ensures))

pub returns-then-closed : goal.returns-then-closed
returns-then-closed c =
    ap (λ r. r >>= params_read) (ends param_step too_many_params 256 c.loop.counter
    _ _ c.loop.invariant c.loop-test.true _ c.in_ok-closed.ensures c.if-closed.true)

pub loop-preserved : goal.loop-preserved
loop-preserved c =
    goes_on param_step too_many_params 256 c.loop.counter _ _ c.loop.invariant
    c.loop-test.true _ c.in_ok-closed.ensures c.if-closed.false

pub returns : goal.returns
returns c =
    ap (λ r. r >>= params_read) (limited param_step too_many_params 256
    c.loop.counter _ _ c.loop.invariant c.loop-test.false) ∙ ap Err (sym c.refused.ensures)
