use Rattle.giop_stream.proofs.Restored.Saved.{puts_failed, puts_stopped}
use Rattle.giop_stream.proofs.saving.put_after.Goals as goal

pub returns-in_err-count-clause-put : goal.returns-in_err-count-clause-put
returns-in_err-count-clause-put g c before front puts =
    puts_failed c.args.written c.from_residual.result before _ front c.args.octets.now _
    c.in_err-count.was c.from_residual.ensures.0 puts

pub returns-in_err-put_all-clause-put : goal.returns-in_err-put_all-clause-put
returns-in_err-put_all-clause-put g c before front puts =
    puts_stopped c.args.written c.from_residual-in_err-put_all.result before _ _ front
    c.args.octets.now _ c.in_ok-count.was
    c.from_residual-in_err-put_all.ensures.0 puts c.in_err-put_all.ensures
