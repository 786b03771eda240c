use Rattle.std.proofs.Common.{length, sym, ap, subst, ◌∙◌, inr, arith}
use Rattle.giop_sig.specs.Outcomes.{StopsAsRead}
use Rattle.giop_sig.specs.FileReading.{file_at}
use Rattle.giop_sig.specs.Validity.{Refuses}
use Rattle.giop_sig.proofs.FileLaws.{file_takes, file_shallow}
use Rattle.giop_sig.proofs.FileRules.{file_valid, file_few, file_refuses}
use Rattle.giop_sig.proofs.Told.{has_line}
use Rattle.giop_sig.proofs.UnionWhole.{union_read, union_taken}
use Rattle.giop_sig.proofs.catalogue.Catalogue.parse_up_to.Goals as goal

pub into_catalogue-catalogue-requires : goal.into_catalogue-catalogue-requires
into_catalogue-catalogue-requires c = record {
  shallow = file_shallow c.args.latest union_taken c.args.text.now c.in-Ok.draft
      c.in-Ok.ensures.gives;
  settled = c.in-Ok.ensures.settled;
}

pub returns-in-Ok-clause-ok : goal.returns-in-Ok-clause-ok
returns-in-Ok-clause-ok c =
    let text = c.args.text.now in
    let s = file_takes c.args.latest union_read union_taken text c.in-Ok.draft
    (let few = c.if-text-gt-TEXT_MAX.false in omega arith) c.in-Ok.ensures.gives in
    let shallow = file_shallow c.args.latest union_taken text c.in-Ok.draft c.in-Ok.ensures.gives in
    let v = file_valid union_read text c.in-Ok.draft s.0 s.1 c.in-Ok.ensures.gives shallow in
    (s.0, s.1, v.0, c.into_catalogue-catalogue.ensures ∙ v.1)

pub returns-in-Ok-clause-few : goal.returns-in-Ok-clause-few
returns-in-Ok-clause-few c =
    let few = file_few c.args.latest union_read union_taken c.args.text.now c.in-Ok.draft c.requires
    (let short = c.if-text-gt-TEXT_MAX.false in omega arith) c.in-Ok.ensures.gives in
    omega (arith, few, ap (λ t. length t.types) c.into_catalogue-catalogue.ensures)

pub returns-in-Err-Refused-clause-err : goal.returns-in-Err-Refused-clause-err
returns-in-Err-Refused-clause-err c = λ file spells.
    let e = subst (λ stop. StopsAsRead stop
    (file_at c.args.latest c.args.text.now)) c.in-Err-Refused.field-0-is
    c.in-Err-Refused.ensures.gives in
    subst (λ f. Refuses f.kind file) (sym c.fault_in.ensures)
    (file_refuses union_read c.args.text.now c.in-Err-Refused.refusal file spells e)

pub returns-in-Err-Refused-clause-first : goal.returns-in-Err-Refused-clause-first
returns-in-Err-Refused-clause-first c = λ short.
    let e = subst (λ stop. StopsAsRead stop
    (file_at c.args.latest c.args.text.now)) c.in-Err-Refused.field-0-is
    c.in-Err-Refused.ensures.gives in
    inr (c.in-Err-Refused.refusal, e, c.fault_in.ensures)

pub returns-in-Err-Refused-clause-memory : goal.returns-in-Err-Refused-clause-memory
returns-in-Err-Refused-clause-memory c =
    has_line c.args.text.now c.in-Err-Refused.refusal c.fault_in.result c.fault_in.ensures
