use Rattle.std.proofs.Common.{Err, sym, ap, ◌∙◌}
use Rattle.std.proofs.lemmas.Result.{err_from_is_err_and}
use Rattle.giop_tokens.specs.Reading.{◌>>=◌}
use Rattle.giop_sig.specs.ItemReading.{member_step, too_many_members, members_read}
use Rattle.giop_sig.proofs.RepeatLaws.{goes_on, ends, fails, limited, stops_on}
use Rattle.giop_sig.proofs.read_items.members_at.Goals as goal

pub returns-in_err-closed : goal.returns-in_err-closed
returns-in_err-closed c =
    let p = err_from_is_err_and c.from_residual.result c.from_residual.ensures.1 in
    rw (p.1, p.2) (stops_on c.in_err-closed.field-0.0 _ members_read
    (fails member_step too_many_members 257 c.loop.counter _ _ c.loop.invariant
    c.loop-test.true c.in_err-closed.field-0.0 c.in_err-closed.ensures))

pub returns-then-closed : goal.returns-then-closed
returns-then-closed c =
    ap (λ r. r >>= members_read) (ends member_step too_many_members 257 c.loop.counter
    _ _ c.loop.invariant c.loop-test.true _ c.in_ok-closed.ensures c.if-closed.true)

pub loop-preserved : goal.loop-preserved
loop-preserved c =
    goes_on member_step too_many_members 257 c.loop.counter _ _ c.loop.invariant
    c.loop-test.true _ c.in_ok-closed.ensures c.if-closed.false

pub returns : goal.returns
returns c =
    ap (λ r. r >>= members_read) (limited member_step too_many_members 257
    c.loop.counter _ _ c.loop.invariant c.loop-test.false) ∙ ap Err (sym c.refused.ensures)
