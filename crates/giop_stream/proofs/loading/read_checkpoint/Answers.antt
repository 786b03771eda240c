use Rattle.std.proofs.Common.{◌≡◌, ◌∙◌, subst}
use Rattle.giop_stream.specs.Checkpoint.{IsRefused}
use Rattle.giop_stream.proofs.Restored.LoadedFields.{limit_is}
use Rattle.giop_stream.proofs.Restored.WholeRecords.{parts_read, refused_is, refused_state, refused_memory, passed_open, allowed_is}
use Rattle.giop_stream.proofs.loading.read_checkpoint.Goals as goal

pub returns-in-Err-clause-refused : goal.returns-in-Err-clause-refused
returns-in-Err-clause-refused c =
    subst (λ x. IsRefused x c.args.octets.now c.in-Err.why) c.counts_of.ensures
    (refused_is _ _ _ c.in-Err.ensures.refused)

pub returns-in-Err-clause-again : goal.returns-in-Err-clause-again
returns-in-Err-clause-again c n p s =
    absurd (parts_read _ p c.args.catalogue.now c.args.requests.now n s (λ f xs. ⊥)
    c.counts_of.result c.counts_of.ensures
    c.in-Err.ensures.again)

pub new-requires : goal.new-requires
new-requires c = (passed_open _ _ _ _ c.in-Ok.ensures.passes).1

pub returns-in_default-clause-refused : goal.returns-in_default-clause-refused
returns-in_default-clause-refused c = refused_memory _ _ _ _ _ c.counts_of.ensures
    c.in-Ok.ensures.passes

pub returns-in-Some-clause-most : goal.returns-in-Some-clause-most
returns-in-Some-clause-most c = allowed_is _ _ _ _ _ _ c.counts_of.ensures c.in-Ok.ensures.passes
    c.in-Some.ensures.most

pub returns-in-Some-clause-again : goal.returns-in-Some-clause-again
returns-in-Some-clause-again c n p s =
    let parts = parts_read _ p c.args.catalogue.now c.args.requests.now n s
    (λ f xs. (c.in-Ok.parts.0 ≡ f) × (c.in-Ok.parts.1.now ≡ xs)) c.counts_of.result
    c.counts_of.ensures
    c.in-Ok.ensures.again in
    let limit =
    limit_is _ p c.args.catalogue.now c.args.requests.now n s c.in-Ok.parts.0 parts.0 in (
      c.in-Some.ensures.most ∙ limit,
      c.in-Some.ensures.again c.args.requests.now n _ p s parts.0
          parts.1,
    )

pub returns-in-None-clause-refused : goal.returns-in-None-clause-refused
returns-in-None-clause-refused c = refused_state _ _ _ _ _ c.counts_of.ensures
    c.in-Ok.ensures.passes

pub returns-in-None-clause-again : goal.returns-in-None-clause-again
returns-in-None-clause-again c n p s =
    let parts = parts_read _ p c.args.catalogue.now c.args.requests.now n s
    (λ f xs. (c.in-Ok.parts.0 ≡ f) × (c.in-Ok.parts.1.now ≡ xs)) c.counts_of.result
    c.counts_of.ensures
    c.in-Ok.ensures.again in
    absurd (c.in-None.ensures.again c.args.requests.now n _ p s parts.0 parts.1)
