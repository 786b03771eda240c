use Rattle.std.proofs.Common.{Err, sym, ap, ◌∙◌, arith}
use Rattle.std.proofs.lemmas.Result.{err_from_is_err_and}
use Rattle.giop_sig.specs.Labels.{cases_view}
use Rattle.giop_sig.specs.UnionReading.{cases_step, too_many_cases}
use Rattle.giop_sig.proofs.RepeatLaws.{goes_on, ends, fails, limited}
use Rattle.giop_sig.proofs.read_unions.cases_until_close.Goals as goal

pub returns-in_err-closed : goal.returns-in_err-closed
returns-in_err-closed c =
    let p = err_from_is_err_and c.from_residual.result c.from_residual.ensures.1 in
    rw (p.1, p.2) (fails (cases_step c.args.switch.0) too_many_cases 257 c.loop.counter
    (c.loop.draft, cases_view c.loop.cases, c.loop.rest.now) _
    c.loop.invariant.same c.loop-test.true c.in_err-closed.field-0.0 c.in_err-closed.ensures.gives)

pub returns-then-closed : goal.returns-then-closed
returns-then-closed c =
    ends (cases_step c.args.switch.0) too_many_cases 257 c.loop.counter
    (c.loop.draft, cases_view c.loop.cases, c.loop.rest.now) _
    c.loop.invariant.same c.loop-test.true _ c.in_ok-closed.ensures.gives c.if-closed.true

pub loop-preserved : goal.loop-preserved
loop-preserved c = record {
  same = goes_on (cases_step c.args.switch.0) too_many_cases 257 c.loop.counter
      (c.loop.draft, cases_view c.loop.cases, c.loop.rest.now) _
      c.loop.invariant.same c.loop-test.true _ c.in_ok-closed.ensures.gives c.if-closed.false;
  room = let r = c.loop.invariant.room in let s = c.in_ok-closed.ensures.room in omega arith;
}

pub returns : goal.returns
returns c =
    limited (cases_step c.args.switch.0) too_many_cases 257 c.loop.counter
    (c.loop.draft, cases_view c.loop.cases, c.loop.rest.now) _
    c.loop.invariant.same c.loop-test.false ∙ ap Err (sym c.refused.ensures)
