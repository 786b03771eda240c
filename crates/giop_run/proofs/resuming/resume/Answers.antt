-- The octets of the checkpoint's file are refused, or loaded.
use Rattle.giop_run.proofs.ResumeLemmas.{not_resumed, is_resumed}
use Rattle.giop_run.proofs.resuming.resume.Goals as goal

pub returns-clause-err : goal.returns-clause-err
returns-clause-err g c =
    let read = c.in_ok-octets.ensures.ok in
    let refused = rw c.deref.ensures.value at c.load_checkpoint.ensures.err in
    rw c.in-Some.is (not_resumed c.load_checkpoint.result _ _ c.in-Some.name _
    c.in_ok-octets.octets.items read refused)

pub returns-clause-ok : goal.returns-clause-ok
returns-clause-ok g c =
    let read = c.in_ok-octets.ensures.ok in
    let again = rw c.deref.ensures.value at c.load_checkpoint.ensures.again in
    let ours = rw c.deref.ensures.value at c.load_checkpoint.ensures.ours in
    rw c.in-Some.is (is_resumed c.load_checkpoint.result (g.R.Inputs.held c.args.rt.now)
    c.in-Some.name
    c.args.most c.args.catalogue.now
    c.args.requests.now c.in_ok-octets.octets.items read again ours)
