use Rattle.std.proofs.Common.{◌≡◌, ◌+◌, ◌-◌, sym, subst, arith}
use Rattle.std.proofs.lemmas.Result.{err_from_is_err_and}
use Rattle.giop_tokens.specs.Reading.{◌>>=◌}
use Rattle.giop_sig.specs.ItemReading.{lengths_at}
use Rattle.giop_sig.proofs.LengthLaws.{lengths_after_these, lengths_on, lengths_end, lengths_fail, lengths_full}
use Rattle.giop_sig.proofs.read_items.lengths_at.Goals as goal

pub returns-in_err-length-clause-gives : goal.returns-in_err-length-clause-gives
returns-in_err-length-clause-gives c =
    let p = err_from_is_err_and c.from_residual.result c.from_residual.ensures.1 in
    rw (p.1, p.2) (lengths_fail c.args.most c.loop.counter c.loop.lengths.items
    c.loop.rest.now _ c.loop.invariant.so_far c.loop-test.true c.in_err-length.field-0.0
    c.in_err-length.ensures.gives)

pub returns-in_default-clause-gives : goal.returns-in_default-clause-gives
returns-in_default-clause-gives c =
    lengths_end c.args.most c.loop.counter c.loop.lengths.items c.loop.rest.now _
    c.loop.invariant.so_far c.loop-test.true c.in_ok-length.after.now
    (search (arith, c.in_ok-length.ensures.gives, c.in_default.is, c.in_ok-length.length-is))

pub loop-preserved : goal.loop-preserved
loop-preserved c =
    record {
      so_far =
          subst (λ ns. (lengths_at (c.args.most - (c.loop.counter + 1)) c.in_ok-length.after.now
          >>= lengths_after_these ns) ≡ lengths_at c.args.most c.args.text.now)
          (sym c.in_ok-push.ensures.items)
          (lengths_on c.args.most c.loop.counter c.loop.lengths.items c.loop.rest.now _
          c.loop.invariant.so_far c.loop-test.true c.in-Some.n c.in_ok-length.after.now
          (search (arith, c.in_ok-length.ensures.gives, c.in-Some.is)));
      some = search (arith);
    }

pub returns-clause-gives : goal.returns-clause-gives
returns-clause-gives c =
    lengths_full c.args.most c.loop.counter c.loop.lengths.items c.loop.rest.now _
    c.loop.invariant.so_far c.loop-test.false
