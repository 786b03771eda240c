use Rattle.std.proofs.Common.{map, Err, sym, ap, ◌∙◌}
use Rattle.std.proofs.lemmas.Result.{err_from_is_err_and}
use Rattle.giop_sig.specs.EnumReading.{names_step, too_many_names}
use Rattle.giop_sig.proofs.RepeatLaws.{goes_on, ends, fails, limited}
use Rattle.giop_sig.proofs.read_enums.names_until_close.Goals as goal

pub returns-in_err-after : goal.returns-in_err-after
returns-in_err-after c =
    let p = err_from_is_err_and c.from_residual.result c.from_residual.ensures.1 in
    rw (p.1, p.2) (fails (names_step c.args.version_3) too_many_names 1025 c.loop.counter
    (map (λ n. n.now) c.loop.names.items, c.loop.rest.now) _ c.loop.invariant
    c.loop-test.true c.in_err-after.field-0.0 c.in_err-after.ensures)

pub returns-then-closed : goal.returns-then-closed
returns-then-closed c =
    ends (names_step c.args.version_3) too_many_names 1025 c.loop.counter
    (map (λ n. n.now) c.loop.names.items, c.loop.rest.now) _ c.loop.invariant c.loop-test.true
    _
    c.in_ok-after.ensures c.if-closed.true

pub loop-preserved : goal.loop-preserved
loop-preserved c =
    goes_on (names_step c.args.version_3) too_many_names 1025 c.loop.counter
    (map (λ n. n.now) c.loop.names.items, c.loop.rest.now) _ c.loop.invariant c.loop-test.true
    _
    c.in_ok-after.ensures c.if-closed.false

pub returns : goal.returns
returns c =
    limited (names_step c.args.version_3) too_many_names 1025 c.loop.counter
    (map (λ n. n.now) c.loop.names.items, c.loop.rest.now) _ c.loop.invariant
    c.loop-test.false
    ∙ ap Err (sym c.refused.ensures)
